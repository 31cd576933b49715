use Rattle.std.proofs.Common.{Ok, Err, refl}
use Rattle.std.specs.Option.{option_copied}
use Rattle.std.proofs.lemmas.Result.{err_from_is_err_and}
use Rattle.hr_script.specs.Planned.{change_of}
use Rattle.hr_script.specs.declared.refusal.Why.TheVariants as why
use Rattle.hr_script.specs.declared.line.Line.TheVariants.{Change}
use Rattle.hr_script.specs.Text.{words_left}
use Rattle.hr_script.specs.Word.{lane_in, name_in, operation_in, registry_in, tag_in}
use Rattle.hr_script.proofs.MeaningLemmas.{at_words, joined, refused, unless_memory}
use Rattle.hr_script.proofs.SplitLemmas.{word_left}
use Rattle.hr_script.proofs.planned.read_change.Goals as goal

pub returns-in_err-end_words : goal.returns-in_err-end_words
returns-in_err-end_words c =
    let left = word_left c.in_ok-to.words c.in_err-end_words.ensures.some in
    let words = joined c.in_ok-lane.ensures.ok (joined c.in_ok-reg.ensures.ok (joined c.in_ok-op.ensures.ok (joined c.in_ok-repo.ensures.ok (joined c.in_ok-tag.ensures.ok (joined c.in_ok-to.ensures.ok left.split))))) in
    let p = err_from_is_err_and c.from_residual-in_err-end_words.result c.from_residual-in_err-end_words.ensures.1 in
    rw (p.1, p.2, c.in_err-end_words.ensures.err) (at_words change_of _ _ (Err why.Count) words refl)

pub returns-in_err-read_lane : goal.returns-in_err-read_lane
returns-in_err-read_lane c =
    let words = joined c.in_ok-lane.ensures.ok (joined c.in_ok-reg.ensures.ok (joined c.in_ok-op.ensures.ok (joined c.in_ok-repo.ensures.ok (joined c.in_ok-tag.ensures.ok (joined c.in_ok-to.ensures.ok c.in_ok-end_words.ensures.ok))))) in
    let p = err_from_is_err_and c.from_residual-in_err-read_lane.result c.from_residual-in_err-read_lane.ensures.1 in
    rw (p.1, p.2)
    (unless_memory (change_of (words_left (option_copied c.args.words))) c.in_err-read_lane.field-0.0 (λ why is. at_words change_of _ _ (Err why) words (Err why, refused (lane_in c.in_ok-lane.lane.now) c.in_err-read_lane.field-0.0 why is c.in_err-read_lane.ensures, refl)))

pub returns-in_err-read_registry : goal.returns-in_err-read_registry
returns-in_err-read_registry c =
    let words = joined c.in_ok-lane.ensures.ok (joined c.in_ok-reg.ensures.ok (joined c.in_ok-op.ensures.ok (joined c.in_ok-repo.ensures.ok (joined c.in_ok-tag.ensures.ok (joined c.in_ok-to.ensures.ok c.in_ok-end_words.ensures.ok))))) in
    let p = err_from_is_err_and c.from_residual-in_err-read_registry.result c.from_residual-in_err-read_registry.ensures.1 in
    rw (p.1, p.2)
    (unless_memory (change_of (words_left (option_copied c.args.words))) c.in_err-read_registry.field-0.0 (λ why is. at_words change_of _ _ (Err why) words (Ok c.in_ok-read_lane.field-0, c.in_ok-read_lane.ensures, (Err why, refused (registry_in c.in_ok-reg.reg.now) c.in_err-read_registry.field-0.0 why is c.in_err-read_registry.ensures, refl))))

pub returns-in_err-read_operation : goal.returns-in_err-read_operation
returns-in_err-read_operation c =
    let words = joined c.in_ok-lane.ensures.ok (joined c.in_ok-reg.ensures.ok (joined c.in_ok-op.ensures.ok (joined c.in_ok-repo.ensures.ok (joined c.in_ok-tag.ensures.ok (joined c.in_ok-to.ensures.ok c.in_ok-end_words.ensures.ok))))) in
    let p = err_from_is_err_and c.from_residual-in_err-read_operation.result c.from_residual-in_err-read_operation.ensures.1 in
    rw (p.1, p.2)
    (unless_memory (change_of (words_left (option_copied c.args.words))) c.in_err-read_operation.field-0.0 (λ why is. at_words change_of _ _ (Err why) words (Ok c.in_ok-read_lane.field-0, c.in_ok-read_lane.ensures, (Ok c.in_ok-read_registry.field-0, c.in_ok-read_registry.ensures, (Err why, refused (operation_in c.in_ok-op.op.now) c.in_err-read_operation.field-0.0 why is c.in_err-read_operation.ensures, refl)))))

pub returns-in_err-read_name : goal.returns-in_err-read_name
returns-in_err-read_name c =
    let words = joined c.in_ok-lane.ensures.ok (joined c.in_ok-reg.ensures.ok (joined c.in_ok-op.ensures.ok (joined c.in_ok-repo.ensures.ok (joined c.in_ok-tag.ensures.ok (joined c.in_ok-to.ensures.ok c.in_ok-end_words.ensures.ok))))) in
    let p = err_from_is_err_and c.from_residual-in_err-read_name.result c.from_residual-in_err-read_name.ensures.1 in
    rw (p.1, p.2)
    (unless_memory (change_of (words_left (option_copied c.args.words))) c.in_err-read_name.field-0.0 (λ why is. at_words change_of _ _ (Err why) words (Ok c.in_ok-read_lane.field-0, c.in_ok-read_lane.ensures, (Ok c.in_ok-read_registry.field-0, c.in_ok-read_registry.ensures, (Ok c.in_ok-read_operation.field-0, c.in_ok-read_operation.ensures, (Err why, refused (name_in c.in_ok-repo.repo.now) c.in_err-read_name.field-0.0 why is c.in_err-read_name.ensures, refl))))))

pub returns-in_err-read_tag : goal.returns-in_err-read_tag
returns-in_err-read_tag c =
    let words = joined c.in_ok-lane.ensures.ok (joined c.in_ok-reg.ensures.ok (joined c.in_ok-op.ensures.ok (joined c.in_ok-repo.ensures.ok (joined c.in_ok-tag.ensures.ok (joined c.in_ok-to.ensures.ok c.in_ok-end_words.ensures.ok))))) in
    let p = err_from_is_err_and c.from_residual-in_err-read_tag.result c.from_residual-in_err-read_tag.ensures.1 in
    rw (p.1, p.2)
    (unless_memory (change_of (words_left (option_copied c.args.words))) c.in_err-read_tag.field-0.0 (λ why is. at_words change_of _ _ (Err why) words (Ok c.in_ok-read_lane.field-0, c.in_ok-read_lane.ensures, (Ok c.in_ok-read_registry.field-0, c.in_ok-read_registry.ensures, (Ok c.in_ok-read_operation.field-0, c.in_ok-read_operation.ensures, (Ok c.in_ok-read_name.field-0, c.in_ok-read_name.ensures, (Err why, refused (tag_in c.in_ok-tag.tag.now) c.in_err-read_tag.field-0.0 why is c.in_err-read_tag.ensures, refl)))))))

pub returns-in_err-read_tag-2 : goal.returns-in_err-read_tag-2
returns-in_err-read_tag-2 c =
    let words = joined c.in_ok-lane.ensures.ok (joined c.in_ok-reg.ensures.ok (joined c.in_ok-op.ensures.ok (joined c.in_ok-repo.ensures.ok (joined c.in_ok-tag.ensures.ok (joined c.in_ok-to.ensures.ok c.in_ok-end_words.ensures.ok))))) in
    let p = err_from_is_err_and c.from_residual-in_err-read_tag-2.result c.from_residual-in_err-read_tag-2.ensures.1 in
    rw (p.1, p.2)
    (unless_memory (change_of (words_left (option_copied c.args.words))) c.in_err-read_tag-2.field-0.0 (λ why is. at_words change_of _ _ (Err why) words (Ok c.in_ok-read_lane.field-0, c.in_ok-read_lane.ensures, (Ok c.in_ok-read_registry.field-0, c.in_ok-read_registry.ensures, (Ok c.in_ok-read_operation.field-0, c.in_ok-read_operation.ensures, (Ok c.in_ok-read_name.field-0, c.in_ok-read_name.ensures, (Ok c.in_ok-read_tag.field-0, c.in_ok-read_tag.ensures, (Err why, refused (tag_in c.in_ok-to.to.now) c.in_err-read_tag-2.field-0.0 why is c.in_err-read_tag-2.ensures, refl))))))))

pub returns : goal.returns
returns c =
    let words = joined c.in_ok-lane.ensures.ok (joined c.in_ok-reg.ensures.ok (joined c.in_ok-op.ensures.ok (joined c.in_ok-repo.ensures.ok (joined c.in_ok-tag.ensures.ok (joined c.in_ok-to.ensures.ok c.in_ok-end_words.ensures.ok))))) in
    at_words change_of _ _ (Ok (Change c.in_ok-read_lane.field-0 c.in_ok-read_registry.field-0 c.in_ok-read_operation.field-0 c.in_ok-read_name.field-0 c.in_ok-read_tag.field-0 c.in_ok-read_tag-2.field-0)) words (Ok c.in_ok-read_lane.field-0, c.in_ok-read_lane.ensures, (Ok c.in_ok-read_registry.field-0, c.in_ok-read_registry.ensures, (Ok c.in_ok-read_operation.field-0, c.in_ok-read_operation.ensures, (Ok c.in_ok-read_name.field-0, c.in_ok-read_name.ensures, (Ok c.in_ok-read_tag.field-0, c.in_ok-read_tag.ensures, (Ok c.in_ok-read_tag-2.field-0, c.in_ok-read_tag-2.ensures, refl))))))
