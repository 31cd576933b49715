use Rattle.std.proofs.Common.{Ok, Err, refl}
use Rattle.std.specs.Option.{option_copied}
use Rattle.std.proofs.lemmas.Result.{err_from_is_err_and}
use Rattle.hr_script.specs.Line.{break_of}
use Rattle.hr_script.specs.declared.refusal.Why.TheVariants as why
use Rattle.hr_script.specs.declared.line.Line.TheVariants.{Break}
use Rattle.hr_script.specs.Text.{words_left}
use Rattle.hr_script.specs.Word.{layer_in, name_in, registry_in}
use Rattle.hr_script.proofs.MeaningLemmas.{at_words, joined, refused, unless_memory}
use Rattle.hr_script.proofs.SplitLemmas.{word_left}
use Rattle.hr_script.proofs.argument.read_break.Goals as goal

pub returns-in_err-end_words : goal.returns-in_err-end_words
returns-in_err-end_words c =
    let left = word_left c.in_ok-stored.words c.in_err-end_words.ensures.some in
    let words = joined c.in_ok-reg.ensures.ok (joined c.in_ok-repo.ensures.ok (joined c.in_ok-honest.ensures.ok (joined c.in_ok-stored.ensures.ok left.split))) in
    let p = err_from_is_err_and c.from_residual-in_err-end_words.result c.from_residual-in_err-end_words.ensures.1 in
    rw (p.1, p.2, c.in_err-end_words.ensures.err) (at_words break_of _ _ (Err why.Count) words refl)

pub returns-in_err-read_registry : goal.returns-in_err-read_registry
returns-in_err-read_registry c =
    let words = joined c.in_ok-reg.ensures.ok (joined c.in_ok-repo.ensures.ok (joined c.in_ok-honest.ensures.ok (joined c.in_ok-stored.ensures.ok c.in_ok-end_words.ensures.ok))) in
    let p = err_from_is_err_and c.from_residual-in_err-read_registry.result c.from_residual-in_err-read_registry.ensures.1 in
    rw (p.1, p.2)
    (unless_memory (break_of (words_left (option_copied c.args.words))) c.in_err-read_registry.field-0.0 (λ why is. at_words break_of _ _ (Err why) words (Err why, refused (registry_in c.in_ok-reg.reg.now) c.in_err-read_registry.field-0.0 why is c.in_err-read_registry.ensures, refl)))

pub returns-in_err-read_name : goal.returns-in_err-read_name
returns-in_err-read_name c =
    let words = joined c.in_ok-reg.ensures.ok (joined c.in_ok-repo.ensures.ok (joined c.in_ok-honest.ensures.ok (joined c.in_ok-stored.ensures.ok c.in_ok-end_words.ensures.ok))) in
    let p = err_from_is_err_and c.from_residual-in_err-read_name.result c.from_residual-in_err-read_name.ensures.1 in
    rw (p.1, p.2)
    (unless_memory (break_of (words_left (option_copied c.args.words))) c.in_err-read_name.field-0.0 (λ why is. at_words break_of _ _ (Err why) words (Ok c.in_ok-read_registry.field-0, c.in_ok-read_registry.ensures, (Err why, refused (name_in c.in_ok-repo.repo.now) c.in_err-read_name.field-0.0 why is c.in_err-read_name.ensures, refl))))

pub returns-in_err-read_layer : goal.returns-in_err-read_layer
returns-in_err-read_layer c =
    let words = joined c.in_ok-reg.ensures.ok (joined c.in_ok-repo.ensures.ok (joined c.in_ok-honest.ensures.ok (joined c.in_ok-stored.ensures.ok c.in_ok-end_words.ensures.ok))) in
    let p = err_from_is_err_and c.from_residual-in_err-read_layer.result c.from_residual-in_err-read_layer.ensures.1 in
    rw (p.1, p.2)
    (unless_memory (break_of (words_left (option_copied c.args.words))) c.in_err-read_layer.field-0.0 (λ why is. at_words break_of _ _ (Err why) words (Ok c.in_ok-read_registry.field-0, c.in_ok-read_registry.ensures, (Ok c.in_ok-read_name.field-0, c.in_ok-read_name.ensures, (Err why, refused (layer_in c.in_ok-honest.honest.now) c.in_err-read_layer.field-0.0 why is c.in_err-read_layer.ensures, refl)))))

pub returns-in_err-read_layer-2 : goal.returns-in_err-read_layer-2
returns-in_err-read_layer-2 c =
    let words = joined c.in_ok-reg.ensures.ok (joined c.in_ok-repo.ensures.ok (joined c.in_ok-honest.ensures.ok (joined c.in_ok-stored.ensures.ok c.in_ok-end_words.ensures.ok))) in
    let p = err_from_is_err_and c.from_residual-in_err-read_layer-2.result c.from_residual-in_err-read_layer-2.ensures.1 in
    rw (p.1, p.2)
    (unless_memory (break_of (words_left (option_copied c.args.words))) c.in_err-read_layer-2.field-0.0 (λ why is. at_words break_of _ _ (Err why) words (Ok c.in_ok-read_registry.field-0, c.in_ok-read_registry.ensures, (Ok c.in_ok-read_name.field-0, c.in_ok-read_name.ensures, (Ok c.in_ok-read_layer.field-0, c.in_ok-read_layer.ensures, (Err why, refused (layer_in c.in_ok-stored.stored.now) c.in_err-read_layer-2.field-0.0 why is c.in_err-read_layer-2.ensures, refl))))))

pub returns : goal.returns
returns c =
    let words = joined c.in_ok-reg.ensures.ok (joined c.in_ok-repo.ensures.ok (joined c.in_ok-honest.ensures.ok (joined c.in_ok-stored.ensures.ok c.in_ok-end_words.ensures.ok))) in
    at_words break_of _ _ (Ok (Break c.in_ok-read_registry.field-0 c.in_ok-read_name.field-0 c.in_ok-read_layer.field-0 c.in_ok-read_layer-2.field-0)) words (Ok c.in_ok-read_registry.field-0, c.in_ok-read_registry.ensures, (Ok c.in_ok-read_name.field-0, c.in_ok-read_name.ensures, (Ok c.in_ok-read_layer.field-0, c.in_ok-read_layer.ensures, (Ok c.in_ok-read_layer-2.field-0, c.in_ok-read_layer-2.ensures, refl))))
