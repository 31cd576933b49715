use Rattle.std.proofs.Common.{Err, refl, ap}
use Rattle.hr_script.proofs.word.read_tag.Goals as goal

pub returns-in-Err-Shape : goal.returns-in-Err-Shape
returns-in-Err-Shape c = (
  refl,
  λ tag is.
      let fault = (c.in-Err-Shape.ensures.shape c.in-Err-Shape.field-0-0).0 (ap Err c.in-Err-Shape.field-0-is) in
      fault.refused is.tagged,
)
