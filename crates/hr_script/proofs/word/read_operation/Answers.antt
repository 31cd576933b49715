use Rattle.std.proofs.Common.{refl, arith}
use Rattle.hr_text.proofs.NumberLaws.{one_number}
use Rattle.hr_script.proofs.word.read_operation.Goals as goal

pub returns-in_default : goal.returns-in_default
returns-in_default c = (
  refl,
  λ op is.
      let some = is.some in
      absurd (omega (arith, one_number c.args.word.now c.in-Some.number op c.in-Some.ensures.some.written is.number.written, c.if-number-ge1.false, some)),
)
