use Rattle.std.proofs.Common.{ap, sym, refl, ◌∙◌, Some, Err}
use Rattle.hr_call.proofs.ReadingLemmas.{no_tag, tag_back}
use Rattle.hr_call.proofs.reading.read_tag.Goals as goal

pub returns-in-Ok : goal.returns-in-Ok
returns-in-Ok c = ap Some c.in-Ok.ensures.ok ∙ sym (tag_back c.args.text.now (c.in-Ok.ensures.tagged refl))

pub returns-in-Err-Shape : goal.returns-in-Err-Shape
returns-in-Err-Shape c =
    let fault = (c.read.ensures.shape c.in-Err-Shape.field-0-0).0 (c.in-Err-Shape.is ∙ ap Err c.in-Err-Shape.field-0-is) in
    sym (no_tag c.args.text.now fault.refused)
