use Rattle.std.proofs.Common.{List, ℕ, Option, Bor, ◌∙◌, ap}
use Rattle.std.specs.Option.{option_copied}
use Rattle.std.proofs.lemmas.Result.{err_from_is_err_and}
use Rattle.hr_script.specs.Text.{words_left}
use Rattle.hr_script.specs.Word.{layer_in}
use Rattle.hr_script.proofs.MeaningLemmas.{all_read, next_refused, one_read}
use Rattle.hr_script.proofs.argument.read_layers.Goals as goal

pub returns-in_err-read_layer : goal.returns-in_err-read_layer
returns-in_err-read_layer c =
    let cut = ap (λ (o : Option (Bor (List ℕ))). words_left (option_copied o)) c.in-Some.is ∙ c.split_word.ensures.words in
    let p = err_from_is_err_and c.from_residual.result c.from_residual.ensures.1 in
    rw (p.1, p.2)
    (next_refused layer_in (words_left (option_copied c.args.words)) _ _ c.loop-left.layers c.split_word.result.0.now c.in_err-read_layer.field-0.0 c.loop-left.invariant cut c.in_err-read_layer.ensures)

pub loop-left-preserved : goal.loop-left-preserved
loop-left-preserved c =
    let cut = ap (λ (o : Option (Bor (List ℕ))). words_left (option_copied o)) c.in-Some.is ∙ c.split_word.ensures.words in
    rw c.in_ok-push.ensures.ok (one_read layer_in (words_left (option_copied c.args.words)) _ _ c.loop-left.layers c.split_word.result.0.now c.in_ok-read_layer.field-0 c.loop-left.invariant cut c.in_ok-read_layer.ensures)

pub returns : goal.returns
returns c =
    let none = ap (λ (o : Option (Bor (List ℕ))). words_left (option_copied o)) c.in_default.is in
    all_read layer_in (words_left (option_copied c.args.words)) (words_left (option_copied c.loop-left.left)) c.loop-left.layers c.loop-left.invariant none
