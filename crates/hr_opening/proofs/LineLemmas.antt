-- What lines keep of registries: that they are honest, and that an index can list what they hold.
use Rattle.std.proofs.Common.{◌≡◌, ◌++◌, ◌∷◌, ℕ, [], List, Option, Some, None, option_map, Result, Ok, refl, subst}
use Rattle.std.specs.List.{AllByRecursion}
use Rattle.hr_digest.specs.Digest.{digest_of}
use Rattle.hr_digest.specs.declared.digest.Digest.{Digest}
use Rattle.hr_event.specs.declared.reference.Reference.TheVariants as by
use Rattle.hr_manifest.specs.Canonical.{index_media, index_text}
use Rattle.hr_manifest.specs.declared.child.Child.{Child}
use Rattle.hr_adapter.specs.Content.{Content, Honest, tag_at}
use Rattle.hr_adapter.specs.Put.{put_under}
use Rattle.hr_base.specs.declared.number.RegNo.{RegNo}
use Rattle.hr_script.specs.declared.line.Line.{Line}
use Rattle.hr_script.specs.declared.line.Line.TheVariants as line
use Rattle.hr_script.specs.declared.reading.Numbered.{Numbered}
use Rattle.hr_opening.specs.Fit.{AreFit, IsFit, IsNumbered, KeepsHonest}
use Rattle.hr_opening.specs.Opening.{after_line, after_lines, goes_on, registry_named, setup_after}
use Rattle.hr_opening.specs.Setup.{ArePlain, Setups, no_setups, with_change, with_content}
use Rattle.hr_opening.specs.Stored.{IsPlain, children_of, with_broken, with_image, with_index, with_orphan}
use Rattle.hr_opening.specs.declared.setup.RegSetup.{RegSetup}
use Rattle.hr_opening.proofs.KeptLemmas.{blob_plain, image_honest, image_plain, index_is_plain, nothing_honest, nothing_plain, orphan_honest, orphan_plain, tagged_honest, tagged_plain}
use Rattle.hr_opening.proofs.SetupLemmas.{each_named}

-- what holds of a content that setup lines make holds of that of the registry
along : (P : Content → Type 0) (made new : RegSetup) → Some made ≡ Some new → P made.content → P new.content
along P made new is h =
    let e : made ≡ new = cc is in
    subst (λ (s : RegSetup). P s.content) e h

-- the same where the change may lack something
some_along : {X : Type 0} (P : Content → Type 0) (made : X → RegSetup) (found : Option X) (new : RegSetup) → option_map made found ≡ Some new
    → ((x : X) → P (made x).content) → P new.content
some_along P made None new is h = cc is
some_along P made (Some x) new is h = along P (made x) new is (h x)

setup_honest : (l : Line) (old new : RegSetup) → KeepsHonest l → Honest old.content → setup_after l old ≡ Some new → Honest new.content
setup_honest (line.Image reg repo tag layers) old new keeps h is =
    along Honest (with_content (with_image repo tag layers) old) new is (image_honest old.content repo tag layers h)
setup_honest (line.Index reg repo tag children) old new keeps h is =
    some_along Honest (λ (kids : List Child). with_content (with_index repo tag kids) old) (children_of old.content repo children) new is
    (λ kids. tagged_honest old.content repo tag index_media (index_text kids) h)
setup_honest (line.Orphan reg repo layers) old new keeps h is =
    along Honest (with_content (with_orphan repo layers) old) new is (orphan_honest old.content repo layers h)
setup_honest (line.Manifest reg repo tag media text) old new keeps h is =
    along Honest (with_content (put_under repo (by.Tag tag) media text) old) new is (tagged_honest old.content repo tag media text h)
setup_honest (line.Break reg repo honest stored) old new keeps h is = absurd keeps
setup_honest (line.Fault lane reg op lands) old new keeps h is =
    along Honest (record old { failing = old.failing ++ record { op = op; lands = lands } ∷ [] }) new is h
setup_honest (line.Change lane reg op repo tag to) old new keeps h is =
    some_along Honest (λ (d : Digest). with_change (record { op = op; repo = repo; tag = tag; digest = d }) old) (tag_at old.content repo to) new is (λ d. h)
setup_honest (line.Jobs jobs) old new keeps h is = along Honest old new is h
setup_honest (line.Event event) old new keeps h is = along Honest old new is h

setup_plain : (l : Line) (old new : RegSetup) → IsFit l → IsPlain old.content → setup_after l old ≡ Some new → IsPlain new.content
setup_plain (line.Image reg repo tag layers) old new fit h is =
    along IsPlain (with_content (with_image repo tag layers) old) new is (image_plain old.content repo tag layers h)
setup_plain (line.Index reg repo tag children) old new fit h is =
    some_along IsPlain (λ (kids : List Child). with_content (with_index repo tag kids) old) (children_of old.content repo children) new is
    (λ kids. tagged_plain old.content repo tag index_media (index_text kids) index_is_plain h)
setup_plain (line.Orphan reg repo layers) old new fit h is =
    along IsPlain (with_content (with_orphan repo layers) old) new is (orphan_plain old.content repo layers h)
setup_plain (line.Manifest reg repo tag media text) old new fit h is =
    along IsPlain (with_content (put_under repo (by.Tag tag) media text) old) new is (tagged_plain old.content repo tag media text fit.1 h)
setup_plain (line.Break reg repo honest stored) old new fit h is =
    along IsPlain (with_content (with_broken repo honest stored) old) new is (blob_plain old.content repo (digest_of honest) stored h)
setup_plain (line.Fault lane reg op lands) old new fit h is =
    along IsPlain (record old { failing = old.failing ++ record { op = op; lands = lands } ∷ [] }) new is h
setup_plain (line.Change lane reg op repo tag to) old new fit h is =
    some_along IsPlain (λ (d : Digest). with_change (record { op = op; repo = repo; tag = tag; digest = d }) old) (tag_at old.content repo to) new is (λ d. h)
setup_plain (line.Jobs jobs) old new fit h is = along IsPlain old new is h
setup_plain (line.Event event) old new fit h is = along IsPlain old new is h

-- ---- lines

-- the content of each of these registries is honest
abbrev pub AreHonest : Setups → Type 0
AreHonest setups = AllByRecursion (λ setup. Honest setup.content) setups

line_honest : (setups after : Setups) (l : Line) → KeepsHonest l → AreHonest setups → after_line setups l ≡ Some after → AreHonest after
line_honest setups after l keeps all is =
    each_named (λ (s : RegSetup). Honest s.content) setups after (setup_after l) (registry_named l) nothing_honest
    (λ old new h made. setup_honest l old new keeps h made) all is

pub line_plain : (setups after : Setups) (l : Line) → IsFit l → ArePlain setups → after_line setups l ≡ Some after → ArePlain after
line_plain setups after l fit all is =
    each_named (λ (s : RegSetup). IsPlain s.content) setups after (setup_after l) (registry_named l) nothing_plain
    (λ old new h made. setup_plain l old new fit h made) all is

pub goes_ok : (behind : Setups → Result Setups ℕ) (number : ℕ) (next : Option Setups) (last : Setups) → goes_on behind number next ≡ Ok last
    → (mid : Setups) × (next ≡ Some mid) × (behind mid ≡ Ok last)
goes_ok behind number None last is = cc is
goes_ok behind number (Some mid) last is = (mid, refl, is)

ok_along : (P : Setups → Type 0) (some other : Setups) → after_lines some [] ≡ Ok other → P some → P other
ok_along P some other is h =
    let e : some ≡ other = cc is in
    subst P e h

pub lines_honest : (setups last : Setups) (lines : List Numbered) → AllByRecursion (λ numbered. KeepsHonest numbered.line) lines → AreHonest setups
    → after_lines setups lines ≡ Ok last → AreHonest last
lines_honest setups last [] keeps all is = ok_along AreHonest setups last is all
lines_honest setups last (one ∷ rest) keeps all is =
    let step = goes_ok (λ after. after_lines after rest) one.number (after_line setups one.line) last is in
    lines_honest step.0 last rest keeps.1 (line_honest setups step.0 one.line keeps.0 all step.1) step.2

pub lines_plain : (setups last : Setups) (lines : List Numbered) → AreFit lines → ArePlain setups → after_lines setups lines ≡ Ok last → ArePlain last
lines_plain setups last [] fit all is = ok_along ArePlain setups last is all
lines_plain setups last (one ∷ rest) fit all is =
    let step = goes_ok (λ after. after_lines after rest) one.number (after_line setups one.line) last is in
    lines_plain step.0 last rest fit.1 (line_plain setups step.0 one.line fit.0 all step.1) step.2

pub none_honest : AreHonest no_setups
none_honest = (nothing_honest, (nothing_honest, (nothing_honest, (nothing_honest, (nothing_honest, (nothing_honest, (nothing_honest, (nothing_honest, tt))))))))

pub none_plain : ArePlain no_setups
none_plain = (nothing_plain, (nothing_plain, (nothing_plain, (nothing_plain, (nothing_plain, (nothing_plain, (nothing_plain, (nothing_plain, tt))))))))

-- ---- the registry that a line names

number_along : (some other : RegNo) → Some some ≡ Some other → IsNumbered some → IsNumbered other
number_along some other is fit =
    let e : some ≡ other = cc is in
    subst IsNumbered e fit

pub named_fits : (l : Line) (reg : RegNo) → IsFit l → registry_named l ≡ Some reg → IsNumbered reg
named_fits (line.Image r repo tag layers) reg fit is = number_along r reg is fit
named_fits (line.Index r repo tag children) reg fit is = number_along r reg is fit
named_fits (line.Orphan r repo layers) reg fit is = number_along r reg is fit
named_fits (line.Manifest r repo tag media text) reg fit is = number_along r reg is fit.0
named_fits (line.Break r repo honest stored) reg fit is = number_along r reg is fit
named_fits (line.Fault lane r op lands) reg fit is = number_along r reg is fit.0
named_fits (line.Change lane r op repo tag to) reg fit is = number_along r reg is fit.0
named_fits (line.Jobs jobs) reg fit is = cc is
named_fits (line.Event event) reg fit is = cc is
