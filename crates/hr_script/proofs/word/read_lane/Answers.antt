use Rattle.std.proofs.Common.{Ok, Err, refl}
use Rattle.std.proofs.lemmas.Result.{err_from_is_err_and}
use Rattle.hr_script.specs.Word.{lane_in, small_in}
use Rattle.hr_script.proofs.MeaningLemmas.{refused, unless_memory}
use Rattle.hr_script.proofs.word.read_lane.Goals as goal

pub returns-in_err-number : goal.returns-in_err-number
returns-in_err-number c =
    let p = err_from_is_err_and c.from_residual.result c.from_residual.ensures.1 in
    rw (p.1, p.2)
    (unless_memory (lane_in c.args.word.now) c.in_err-number.field-0.0 (λ why is. (Err why, refused (small_in c.args.word.now) c.in_err-number.field-0.0 why is c.in_err-number.ensures, refl)))

pub returns-in-Err : goal.returns-in-Err
returns-in-Err c = (Ok c.in_ok-number.number, c.in_ok-number.ensures, c.in-Err.ensures)
