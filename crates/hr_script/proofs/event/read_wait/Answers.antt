use Rattle.std.proofs.Common.{Ok, Err, refl}
use Rattle.std.specs.Option.{option_copied}
use Rattle.std.proofs.lemmas.Result.{err_from_is_err_and}
use Rattle.hr_script.specs.Event.{wait_of}
use Rattle.hr_event.specs.declared.event.Event.TheVariants as event
use Rattle.hr_script.specs.declared.refusal.Why.TheVariants as why
use Rattle.hr_script.specs.declared.line.Line.TheVariants.{Event}
use Rattle.hr_script.specs.Text.{words_left}
use Rattle.hr_script.specs.Word.{seconds_in}
use Rattle.hr_script.proofs.MeaningLemmas.{at_words, joined, refused, unless_memory}
use Rattle.hr_script.proofs.SplitLemmas.{word_left}
use Rattle.hr_script.proofs.event.read_wait.Goals as goal

pub returns-in_err-end_words : goal.returns-in_err-end_words
returns-in_err-end_words c =
    let left = word_left c.in_ok-seconds.words c.in_err-end_words.ensures.some in
    let words = joined c.in_ok-seconds.ensures.ok left.split in
    let p = err_from_is_err_and c.from_residual-in_err-end_words.result c.from_residual-in_err-end_words.ensures.1 in
    rw (p.1, p.2, c.in_err-end_words.ensures.err) (at_words wait_of _ _ (Err why.Count) words refl)

pub returns-in_err-seconds-2 : goal.returns-in_err-seconds-2
returns-in_err-seconds-2 c =
    let words = joined c.in_ok-seconds.ensures.ok c.in_ok-end_words.ensures.ok in
    let p = err_from_is_err_and c.from_residual-in_err-seconds-2.result c.from_residual-in_err-seconds-2.ensures.1 in
    rw (p.1, p.2)
    (unless_memory (wait_of (words_left (option_copied c.args.words))) c.in_err-seconds-2.field-0.0 (λ why is. at_words wait_of _ _ (Err why) words (Err why, refused (seconds_in c.in_ok-seconds.seconds.now) c.in_err-seconds-2.field-0.0 why is c.in_err-seconds-2.ensures, refl)))

pub returns : goal.returns
returns c =
    let words = joined c.in_ok-seconds.ensures.ok c.in_ok-end_words.ensures.ok in
    at_words wait_of _ _ (Ok (Event (event.Wait c.in_ok-seconds-2.seconds))) words (Ok c.in_ok-seconds-2.seconds, c.in_ok-seconds-2.ensures, refl)
