use Rattle.std.proofs.Common.{Ok, Err, refl, ap, sym, ◌∙◌, ℕ, List, Option, Bor}
use Rattle.std.specs.Option.{option_copied}
use Rattle.std.proofs.lemmas.Result.{err_from_is_err_and}
use Rattle.hr_script.specs.Line.{manifest_of}
use Rattle.hr_script.specs.declared.line.Line.TheVariants.{Manifest}
use Rattle.hr_script.specs.Text.{words_left}
use Rattle.hr_script.specs.Word.{media_in, name_in, registry_in, tag_in}
use Rattle.hr_script.proofs.MeaningLemmas.{at_words, joined, refused, unless_memory}
use Rattle.hr_script.proofs.SplitLemmas.{has_words}
use Rattle.hr_script.proofs.argument.read_manifest.Goals as goal

pub returns-in_err-read_registry : goal.returns-in_err-read_registry
returns-in_err-read_registry c =
    let has = has_words c.in-Some.text.now in
    let words = joined c.in_ok-reg.ensures.ok (joined c.in_ok-repo.ensures.ok (joined c.in_ok-tag.ensures.ok (joined c.in_ok-media.ensures.ok (ap (λ (o : Option (Bor (List ℕ))). words_left (option_copied o)) c.in-Some.is ∙ has.split)))) in
    let p = err_from_is_err_and c.from_residual-in_err-read_registry.result c.from_residual-in_err-read_registry.ensures.1 in
    rw (p.1, p.2)
    (unless_memory (manifest_of (words_left (option_copied c.args.words))) c.in_err-read_registry.field-0.0 (λ why is. at_words manifest_of _ _ (Err why) words (Err why, refused (registry_in c.in_ok-reg.reg.now) c.in_err-read_registry.field-0.0 why is c.in_err-read_registry.ensures, refl)))

pub returns-in_err-read_name : goal.returns-in_err-read_name
returns-in_err-read_name c =
    let has = has_words c.in-Some.text.now in
    let words = joined c.in_ok-reg.ensures.ok (joined c.in_ok-repo.ensures.ok (joined c.in_ok-tag.ensures.ok (joined c.in_ok-media.ensures.ok (ap (λ (o : Option (Bor (List ℕ))). words_left (option_copied o)) c.in-Some.is ∙ has.split)))) in
    let p = err_from_is_err_and c.from_residual-in_err-read_name.result c.from_residual-in_err-read_name.ensures.1 in
    rw (p.1, p.2)
    (unless_memory (manifest_of (words_left (option_copied c.args.words))) c.in_err-read_name.field-0.0 (λ why is. at_words manifest_of _ _ (Err why) words (Ok c.in_ok-read_registry.field-0, c.in_ok-read_registry.ensures, (Err why, refused (name_in c.in_ok-repo.repo.now) c.in_err-read_name.field-0.0 why is c.in_err-read_name.ensures, refl))))

pub returns-in_err-read_tag : goal.returns-in_err-read_tag
returns-in_err-read_tag c =
    let has = has_words c.in-Some.text.now in
    let words = joined c.in_ok-reg.ensures.ok (joined c.in_ok-repo.ensures.ok (joined c.in_ok-tag.ensures.ok (joined c.in_ok-media.ensures.ok (ap (λ (o : Option (Bor (List ℕ))). words_left (option_copied o)) c.in-Some.is ∙ has.split)))) in
    let p = err_from_is_err_and c.from_residual-in_err-read_tag.result c.from_residual-in_err-read_tag.ensures.1 in
    rw (p.1, p.2)
    (unless_memory (manifest_of (words_left (option_copied c.args.words))) c.in_err-read_tag.field-0.0 (λ why is. at_words manifest_of _ _ (Err why) words (Ok c.in_ok-read_registry.field-0, c.in_ok-read_registry.ensures, (Ok c.in_ok-read_name.field-0, c.in_ok-read_name.ensures, (Err why, refused (tag_in c.in_ok-tag.tag.now) c.in_err-read_tag.field-0.0 why is c.in_err-read_tag.ensures, refl)))))

pub returns-in_err-read_media : goal.returns-in_err-read_media
returns-in_err-read_media c =
    let has = has_words c.in-Some.text.now in
    let words = joined c.in_ok-reg.ensures.ok (joined c.in_ok-repo.ensures.ok (joined c.in_ok-tag.ensures.ok (joined c.in_ok-media.ensures.ok (ap (λ (o : Option (Bor (List ℕ))). words_left (option_copied o)) c.in-Some.is ∙ has.split)))) in
    let p = err_from_is_err_and c.from_residual-in_err-read_media.result c.from_residual-in_err-read_media.ensures.1 in
    rw (p.1, p.2)
    (unless_memory (manifest_of (words_left (option_copied c.args.words))) c.in_err-read_media.field-0.0 (λ why is. at_words manifest_of _ _ (Err why) words (Ok c.in_ok-read_registry.field-0, c.in_ok-read_registry.ensures, (Ok c.in_ok-read_name.field-0, c.in_ok-read_name.ensures, (Ok c.in_ok-read_tag.field-0, c.in_ok-read_tag.ensures, (Err why, refused (media_in c.in_ok-media.media.now) c.in_err-read_media.field-0.0 why is c.in_err-read_media.ensures, refl))))))

pub returns : goal.returns
returns c =
    let has = has_words c.in-Some.text.now in
    let words = joined c.in_ok-reg.ensures.ok (joined c.in_ok-repo.ensures.ok (joined c.in_ok-tag.ensures.ok (joined c.in_ok-media.ensures.ok (ap (λ (o : Option (Bor (List ℕ))). words_left (option_copied o)) c.in-Some.is ∙ has.split)))) in
    at_words manifest_of _ _ (Ok (Manifest c.in_ok-read_registry.field-0 c.in_ok-read_name.field-0 c.in_ok-read_tag.field-0 c.in_ok-read_media.field-0 c.in_ok-of.field-0)) words (Ok c.in_ok-read_registry.field-0, c.in_ok-read_registry.ensures, (Ok c.in_ok-read_name.field-0, c.in_ok-read_name.ensures, (Ok c.in_ok-read_tag.field-0, c.in_ok-read_tag.ensures, (Ok c.in_ok-read_media.field-0, c.in_ok-read_media.ensures, ap (λ (t : List ℕ). Ok (Manifest c.in_ok-read_registry.field-0 c.in_ok-read_name.field-0 c.in_ok-read_tag.field-0 c.in_ok-read_media.field-0 t)) (c.in_ok-of.ensures ∙ sym has.whole)))))
