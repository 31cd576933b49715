use Rattle.std.proofs.Common.{refl, arith}
use Rattle.hr_text.proofs.NumberLaws.{one_number}
use Rattle.hr_script.proofs.word.read_job_count.Goals as goal

pub returns-in_default : goal.returns-in_default
returns-in_default c = (
  refl,
  λ jobs is.
      let few = is.few in
      absurd (omega (arith, one_number c.args.word.now c.in-Some.number jobs c.in-Some.ensures.some.written is.number.written, c.if-number-le262144.false, few)),
)

pub returns-in_default-2 : goal.returns-in_default-2
returns-in_default-2 c = (
  refl,
  λ jobs is.
      let some = is.some in
      absurd (omega (arith, one_number c.args.word.now c.in-Some.number jobs c.in-Some.ensures.some.written is.number.written, c.if-number-ge1.false, some)),
)
