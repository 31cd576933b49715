use Rattle.std.proofs.Common.{refl, arith}
use Rattle.hr_text.proofs.NumberLaws.{one_number}
use Rattle.hr_script.proofs.word.read_seconds.Goals as goal

pub returns-in_default : goal.returns-in_default
returns-in_default c = (
  refl,
  λ seconds is.
      let few = is.few in
      absurd (omega (arith, one_number c.args.word.now c.in-Some.number seconds c.in-Some.ensures.some.written is.number.written, c.if-number-le1000000000.false, few)),
)
