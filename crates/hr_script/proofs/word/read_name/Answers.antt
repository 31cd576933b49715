use Rattle.std.proofs.Common.{Err, refl, ap, arith}
use Rattle.hr_script.proofs.word.read_name.Goals as goal

pub returns-in-Err-Shape : goal.returns-in-Err-Shape
returns-in-Err-Shape c = (
  refl,
  λ name is.
      let fault = (c.in-Err-Shape.ensures.shape c.in-Err-Shape.field-0-0).0 (ap Err c.in-Err-Shape.field-0-is) in
      fault.1.refused is.named,
)

pub returns-in-Err-TooLong : goal.returns-in-Err-TooLong
returns-in-Err-TooLong c = (
  refl,
  λ name is.
      let long = (c.in-Err-TooLong.ensures.too_long c.in-Err-TooLong.field-0-0).0 (ap Err c.in-Err-TooLong.field-0-is) in
      let short = is.short in
      absurd (omega (arith, long.0, long.1, short)),
)
