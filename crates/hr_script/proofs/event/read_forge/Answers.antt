use Rattle.std.proofs.Common.{Ok, Err, refl}
use Rattle.std.specs.Option.{option_copied}
use Rattle.std.proofs.lemmas.Result.{err_from_is_err_and}
use Rattle.hr_script.specs.Event.{forge_of}
use Rattle.hr_event.specs.declared.event.Event.TheVariants as event
use Rattle.hr_script.specs.declared.refusal.Why.TheVariants as why
use Rattle.hr_script.specs.declared.line.Line.TheVariants.{Event}
use Rattle.hr_script.specs.Status.{status_in}
use Rattle.hr_script.specs.Text.{words_left}
use Rattle.hr_script.specs.Word.{job_in, revision_in}
use Rattle.hr_script.proofs.MeaningLemmas.{at_words, joined, refused, unless_memory}
use Rattle.hr_script.proofs.SplitLemmas.{word_left}
use Rattle.hr_script.proofs.event.read_forge.Goals as goal

pub returns-in_err-end_words : goal.returns-in_err-end_words
returns-in_err-end_words c =
    let left = word_left c.in_ok-status.words c.in_err-end_words.ensures.some in
    let words = joined c.in_ok-job.ensures.ok (joined c.in_ok-rev.ensures.ok (joined c.in_ok-status.ensures.ok left.split)) in
    let p = err_from_is_err_and c.from_residual-in_err-end_words.result c.from_residual-in_err-end_words.ensures.1 in
    rw (p.1, p.2, c.in_err-end_words.ensures.err) (at_words forge_of _ _ (Err why.Count) words refl)

pub returns-in_err-job-2 : goal.returns-in_err-job-2
returns-in_err-job-2 c =
    let words = joined c.in_ok-job.ensures.ok (joined c.in_ok-rev.ensures.ok (joined c.in_ok-status.ensures.ok c.in_ok-end_words.ensures.ok)) in
    let p = err_from_is_err_and c.from_residual-in_err-job-2.result c.from_residual-in_err-job-2.ensures.1 in
    rw (p.1, p.2)
    (unless_memory (forge_of (words_left (option_copied c.args.words))) c.in_err-job-2.field-0.0 (λ why is. at_words forge_of _ _ (Err why) words (Err why, refused (job_in c.in_ok-job.job.now) c.in_err-job-2.field-0.0 why is c.in_err-job-2.ensures, refl)))

pub returns-in_err-rev-2 : goal.returns-in_err-rev-2
returns-in_err-rev-2 c =
    let words = joined c.in_ok-job.ensures.ok (joined c.in_ok-rev.ensures.ok (joined c.in_ok-status.ensures.ok c.in_ok-end_words.ensures.ok)) in
    let p = err_from_is_err_and c.from_residual-in_err-rev-2.result c.from_residual-in_err-rev-2.ensures.1 in
    rw (p.1, p.2)
    (unless_memory (forge_of (words_left (option_copied c.args.words))) c.in_err-rev-2.field-0.0 (λ why is. at_words forge_of _ _ (Err why) words (Ok c.in_ok-job-2.job, c.in_ok-job-2.ensures, (Err why, refused (revision_in c.in_ok-rev.rev.now) c.in_err-rev-2.field-0.0 why is c.in_err-rev-2.ensures, refl))))

pub returns-in_err-status-2 : goal.returns-in_err-status-2
returns-in_err-status-2 c =
    let words = joined c.in_ok-job.ensures.ok (joined c.in_ok-rev.ensures.ok (joined c.in_ok-status.ensures.ok c.in_ok-end_words.ensures.ok)) in
    let p = err_from_is_err_and c.from_residual-in_err-status-2.result c.from_residual-in_err-status-2.ensures.1 in
    rw (p.1, p.2)
    (unless_memory (forge_of (words_left (option_copied c.args.words))) c.in_err-status-2.field-0.0 (λ why is. at_words forge_of _ _ (Err why) words (Ok c.in_ok-job-2.job, c.in_ok-job-2.ensures, (Ok c.in_ok-rev-2.rev, c.in_ok-rev-2.ensures, (Err why, refused (status_in c.in_ok-status.status.now) c.in_err-status-2.field-0.0 why is c.in_err-status-2.ensures, refl)))))

pub returns : goal.returns
returns c =
    let words = joined c.in_ok-job.ensures.ok (joined c.in_ok-rev.ensures.ok (joined c.in_ok-status.ensures.ok c.in_ok-end_words.ensures.ok)) in
    at_words forge_of _ _ (Ok (Event (event.Forge (record { job = c.in_ok-job-2.job; rev = c.in_ok-rev-2.rev; status = c.in_ok-status-2.status })))) words (Ok c.in_ok-job-2.job, c.in_ok-job-2.ensures, (Ok c.in_ok-rev-2.rev, c.in_ok-rev-2.ensures, (Ok c.in_ok-status-2.status, c.in_ok-status-2.ensures, refl)))
