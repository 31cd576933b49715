use Rattle.std.proofs.Common.{List, ℕ, Option, Bor, ◌∙◌, ap}
use Rattle.std.specs.Option.{option_copied}
use Rattle.std.proofs.lemmas.Result.{err_from_is_err_and}
use Rattle.hr_script.specs.Text.{words_left}
use Rattle.hr_script.specs.Word.{tag_in}
use Rattle.hr_script.proofs.MeaningLemmas.{all_read, next_refused, one_read}
use Rattle.hr_script.proofs.argument.read_children.Goals as goal

pub returns-in_err-read_tag : goal.returns-in_err-read_tag
returns-in_err-read_tag c =
    let cut = ap (λ (o : Option (Bor (List ℕ))). words_left (option_copied o)) c.in-Some.is ∙ c.split_word.ensures.words in
    let p = err_from_is_err_and c.from_residual.result c.from_residual.ensures.1 in
    rw (p.1, p.2)
    (next_refused tag_in (words_left (option_copied c.args.words)) _ _ c.loop-left.children c.split_word.result.0.now c.in_err-read_tag.field-0.0 c.loop-left.invariant cut c.in_err-read_tag.ensures)

pub loop-left-preserved : goal.loop-left-preserved
loop-left-preserved c =
    let cut = ap (λ (o : Option (Bor (List ℕ))). words_left (option_copied o)) c.in-Some.is ∙ c.split_word.ensures.words in
    rw c.in_ok-push.ensures.ok (one_read tag_in (words_left (option_copied c.args.words)) _ _ c.loop-left.children c.split_word.result.0.now c.in_ok-read_tag.field-0 c.loop-left.invariant cut c.in_ok-read_tag.ensures)

pub returns : goal.returns
returns c =
    let none = ap (λ (o : Option (Bor (List ℕ))). words_left (option_copied o)) c.in_default.is in
    all_read tag_in (words_left (option_copied c.args.words)) (words_left (option_copied c.loop-left.left)) c.loop-left.children c.loop-left.invariant none
