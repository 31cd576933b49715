-- What is known of registries of which all can be copied.
use Rattle.std.proofs.Common.{◌≡◌, ◌≢◌, ℕ, true, false, [], Some, None, refl, sym, ap, subst, ◌∙◌, List}
use Rattle.std.specs.Prelude.{IsSome, option_and_then}
use Rattle.std.specs.Option.{option_flatten}
use Rattle.hr_digest.specs.declared.digest.Digest.{Digest}
use Rattle.hr_name.specs.Name.{RepoName}
use Rattle.hr_name.specs.Tag.{TagName}
use Rattle.hr_adapter.specs.Content.{Content, Target, manifest_at, tag_at, target_at}
use Rattle.hr_adapter.specs.declared.plan.Change.{Change}
use Rattle.hr_adapter.specs.declared.plan.Planned.{Planned}
use Rattle.hr_memreg.specs.Mem.{seen_of}
use Rattle.hr_opening.specs.Setup.{Setups, registry_of, setup_in}
use Rattle.hr_whole.specs.Whole.{TagIsWhole}
use Rattle.hr_copyable.specs.Copyable.{IsCopyable, IsHeld, IsUndisturbed}
use Rattle.hr_copyable.proofs.HoldLemmas.{told}

planless : (content : Content) (failing : List Planned) (moves : List Change) → failing ≡ [] → moves ≡ []
    → IsUndisturbed (seen_of (registry_of (record { content = content; failing = failing; moves = moves }))) content
planless content failing moves no_fault no_move =
    subst (λ (f : List Planned). IsUndisturbed (seen_of (registry_of (record { content = content; failing = f; moves = moves }))) content) (sym no_fault)
    (subst (λ (m : List Change). IsUndisturbed (seen_of (registry_of (record { content = content; failing = []; moves = m }))) content) (sym no_move)
    (record { told = refl; quiet = refl; sure = refl; none = refl }))

pub undisturbed : (opens : Setups) (reg : ℕ) → IsCopyable opens → IsUndisturbed (seen_of (registry_of (setup_in opens reg))) (setup_in opens reg).content
undisturbed opens reg is =
    let it = is.undisturbed reg in
    planless (setup_in opens reg).content (setup_in opens reg).failing (setup_in opens reg).moves it.failing it.moves

-- a tag that stands there names a digest
names_one : (c : Content) (repo : RepoName) (target : Target) → IsSome (option_and_then (manifest_at c repo) target) → (d : Digest) × (target ≡ Some d)
names_one c repo (Some d) leads = (d, refl)
names_one c repo None leads =
    let never : false ≡ true = leads in
    cc

pub tag_whole : (opens : Setups) (reg : ℕ) (repo : RepoName) (tag : TagName) (target : Target) → IsCopyable opens → reg ≢ 2
    → target_at (setup_in opens reg).content repo tag ≡ Some target → TagIsWhole (setup_in opens reg).content repo tag
tag_whole opens reg repo tag target is apart there =
    let c = (setup_in opens reg).content in
    let leads = told (λ (t : Target). IsSome (option_and_then (manifest_at c repo) t)) (target_at c repo tag) target
    ((is.undisturbed reg).honest.tags repo tag) there in
    let one = names_one c repo target leads in
    let named : tag_at c repo tag ≡ Some one.0 = ap option_flatten there ∙ one.1 in
    let held = told (IsHeld c repo) (tag_at c repo tag) one.0 (is.held reg apart repo tag) named in
    record { digest = one.0; named = named; whole = held.whole; few = held.few }
