use Rattle.std.proofs.Common.{arith}
use Rattle.hr_text.proofs.NumberLaws.{one_number}
use Rattle.hr_script.proofs.word.number_in.Goals as goal

pub returns-in_default-clause-none : goal.returns-in_default-clause-none
returns-in_default-clause-none c = λ number is.
    let great = c.if-number.false in
    let small = is.small in
    absurd (omega (arith, one_number c.args.word.now c.in-Some.number number c.in-Some.ensures.some is.written, great, small))
