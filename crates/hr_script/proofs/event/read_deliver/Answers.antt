use Rattle.std.proofs.Common.{Err, refl}
use Rattle.std.specs.Option.{option_copied}
use Rattle.std.proofs.lemmas.Result.{err_from_is_err_and}
use Rattle.hr_script.specs.Event.{only_number, deliver_of}
use Rattle.hr_script.specs.Text.{words_left}
use Rattle.hr_script.proofs.MeaningLemmas.{refused, unless_memory}
use Rattle.hr_script.proofs.event.read_deliver.Goals as goal

pub returns-in_err-hook : goal.returns-in_err-hook
returns-in_err-hook c =
    let p = err_from_is_err_and c.from_residual.result c.from_residual.ensures.1 in
    rw (p.1, p.2)
    (unless_memory (deliver_of (words_left (option_copied c.args.words))) c.in_err-hook.field-0.0 (λ why is. (Err why, refused (only_number (words_left (option_copied c.args.words))) c.in_err-hook.field-0.0 why is c.in_err-hook.ensures, refl)))
