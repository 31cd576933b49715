use Rattle.std.proofs.Common.{Err, refl}
use Rattle.std.proofs.lemmas.Result.{err_from_is_err_and}
use Rattle.hr_script.specs.Event.{only_number}
use Rattle.hr_script.specs.declared.refusal.Why.TheVariants as why
use Rattle.hr_script.proofs.MeaningLemmas.{at_words, joined}
use Rattle.hr_script.proofs.SplitLemmas.{word_left}
use Rattle.hr_script.proofs.event.read_only_number.Goals as goal

pub returns-in_err-end_words : goal.returns-in_err-end_words
returns-in_err-end_words c =
    let left = word_left c.in_ok-number.words c.in_err-end_words.ensures.some in
    let words = joined c.in_ok-number.ensures.ok left.split in
    let p = err_from_is_err_and c.from_residual-in_err-end_words.result c.from_residual-in_err-end_words.ensures.1 in
    rw (p.1, p.2, c.in_err-end_words.ensures.err) (at_words only_number _ _ (Err why.Count) words refl)
