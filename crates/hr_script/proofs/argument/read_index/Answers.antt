use Rattle.std.proofs.Common.{Ok, Err, refl}
use Rattle.std.specs.Option.{option_copied}
use Rattle.std.proofs.lemmas.Result.{err_from_is_err_and}
use Rattle.hr_script.specs.Line.{index_of}
use Rattle.hr_script.specs.Meaning.{each}
use Rattle.hr_script.specs.declared.line.Line.TheVariants.{Index}
use Rattle.hr_script.specs.Text.{words_left}
use Rattle.hr_script.specs.Word.{name_in, registry_in, tag_in}
use Rattle.hr_script.proofs.MeaningLemmas.{at_words, joined, refused, unless_memory}
use Rattle.hr_script.proofs.argument.read_index.Goals as goal

pub returns-in_err-read_registry : goal.returns-in_err-read_registry
returns-in_err-read_registry c =
    let words = joined c.in_ok-reg.ensures.ok (joined c.in_ok-repo.ensures.ok c.in_ok-tag.ensures.ok) in
    let p = err_from_is_err_and c.from_residual-in_err-read_registry.result c.from_residual-in_err-read_registry.ensures.1 in
    rw (p.1, p.2)
    (unless_memory (index_of (words_left (option_copied c.args.words))) c.in_err-read_registry.field-0.0 (λ why is. at_words index_of _ _ (Err why) words (Err why, refused (registry_in c.in_ok-reg.reg.now) c.in_err-read_registry.field-0.0 why is c.in_err-read_registry.ensures, refl)))

pub returns-in_err-read_name : goal.returns-in_err-read_name
returns-in_err-read_name c =
    let words = joined c.in_ok-reg.ensures.ok (joined c.in_ok-repo.ensures.ok c.in_ok-tag.ensures.ok) in
    let p = err_from_is_err_and c.from_residual-in_err-read_name.result c.from_residual-in_err-read_name.ensures.1 in
    rw (p.1, p.2)
    (unless_memory (index_of (words_left (option_copied c.args.words))) c.in_err-read_name.field-0.0 (λ why is. at_words index_of _ _ (Err why) words (Ok c.in_ok-read_registry.field-0, c.in_ok-read_registry.ensures, (Err why, refused (name_in c.in_ok-repo.repo.now) c.in_err-read_name.field-0.0 why is c.in_err-read_name.ensures, refl))))

pub returns-in_err-read_tag : goal.returns-in_err-read_tag
returns-in_err-read_tag c =
    let words = joined c.in_ok-reg.ensures.ok (joined c.in_ok-repo.ensures.ok c.in_ok-tag.ensures.ok) in
    let p = err_from_is_err_and c.from_residual-in_err-read_tag.result c.from_residual-in_err-read_tag.ensures.1 in
    rw (p.1, p.2)
    (unless_memory (index_of (words_left (option_copied c.args.words))) c.in_err-read_tag.field-0.0 (λ why is. at_words index_of _ _ (Err why) words (Ok c.in_ok-read_registry.field-0, c.in_ok-read_registry.ensures, (Ok c.in_ok-read_name.field-0, c.in_ok-read_name.ensures, (Err why, refused (tag_in c.in_ok-tag.tag.now) c.in_err-read_tag.field-0.0 why is c.in_err-read_tag.ensures, refl)))))

pub returns-in_err-read_children : goal.returns-in_err-read_children
returns-in_err-read_children c =
    let words = joined c.in_ok-reg.ensures.ok (joined c.in_ok-repo.ensures.ok c.in_ok-tag.ensures.ok) in
    let p = err_from_is_err_and c.from_residual-in_err-read_children.result c.from_residual-in_err-read_children.ensures.1 in
    rw (p.1, p.2)
    (unless_memory (index_of (words_left (option_copied c.args.words))) c.in_err-read_children.field-0.0 (λ why is. at_words index_of _ _ (Err why) words (Ok c.in_ok-read_registry.field-0, c.in_ok-read_registry.ensures, (Ok c.in_ok-read_name.field-0, c.in_ok-read_name.ensures, (Ok c.in_ok-read_tag.field-0, c.in_ok-read_tag.ensures, (Err why, refused (each tag_in (words_left (option_copied c.in_ok-tag.children))) c.in_err-read_children.field-0.0 why is c.in_err-read_children.ensures, refl))))))

pub returns : goal.returns
returns c =
    let words = joined c.in_ok-reg.ensures.ok (joined c.in_ok-repo.ensures.ok c.in_ok-tag.ensures.ok) in
    at_words index_of _ _ (Ok (Index c.in_ok-read_registry.field-0 c.in_ok-read_name.field-0 c.in_ok-read_tag.field-0 c.in_ok-read_children.field-0)) words (Ok c.in_ok-read_registry.field-0, c.in_ok-read_registry.ensures, (Ok c.in_ok-read_name.field-0, c.in_ok-read_name.ensures, (Ok c.in_ok-read_tag.field-0, c.in_ok-read_tag.ensures, (Ok c.in_ok-read_children.field-0, c.in_ok-read_children.ensures, refl))))
