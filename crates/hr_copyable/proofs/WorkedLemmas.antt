-- Worked scripts are canonical, open, and leave what can be copied.
use Rattle.std.proofs.Common.{◌≡◌, ◌==◌, inl, inr, ℕ, true, false, List, [], ◌∷◌, codes, get_or, length, Result, Option, Some, None, IfSome, option_map, slice_set, Ok, refl, sym, ap, subst, ◌∙◌, arith}
use Rattle.std.specs.Prelude.{Contains, IsSome, option_and_then}
use Rattle.std.specs.Option.{option_flatten}
use Rattle.hr_base.specs.Bytes.{ByteList}
use Rattle.hr_digest.specs.Digest.{digest_of}
use Rattle.hr_digest.specs.declared.digest.Digest.{Digest}
use Rattle.hr_name.specs.Name.{RepoName}
use Rattle.hr_name.specs.Tag.{TagName}
use Rattle.hr_event.specs.declared.event.Event.TheVariants as event
use Rattle.hr_event.specs.declared.reference.Fetched.{Fetched}
use Rattle.hr_event.specs.declared.reference.Reference.TheVariants as by
use Rattle.hr_manifest.specs.Canonical.{image_media, image_text, index_media, index_text}
use Rattle.hr_manifest.specs.declared.child.Child.{Child}
use Rattle.hr_manifest.specs.declared.child.ChildKind.TheVariants as kind
use Rattle.hr_adapter.specs.Content.{Content, Honest, Target, manifest_at, tag_at, target_at, with_blob}
use Rattle.hr_adapter.proofs.HonestLaws.{Honest-put_under, Honest-with_blob}
use Rattle.hr_adapter.proofs.PutLaws.{tag_at-put_under-cases, tag_at-put_under-same}
use Rattle.hr_journal.proofs.ListLaws.{contains_cases}
use Rattle.hr_script.specs.declared.line.Line.TheVariants as line
use Rattle.hr_script.specs.declared.reading.Numbered.{Numbered}
use Rattle.hr_opening.specs.Fit.{AreFit, IsNumbered}
use Rattle.hr_opening.specs.Opening.{after_lines, goes_on}
use Rattle.hr_opening.specs.Setup.{Setups, no_setup, no_setups, setup_in, with_content}
use Rattle.hr_opening.specs.Stored.{child_of, children_of, config_text, with_blobs, with_image, with_index}
use Rattle.hr_opening.specs.declared.setup.RegSetup.{RegSetup}
use Rattle.hr_copyable.specs.Canonical.{AreCanonical}
use Rattle.hr_copyable.specs.Copyable.{IsCopyable}
use Rattle.hr_copyable.specs.LineTexts.{StoreOneText}
use Rattle.hr_copyable.specs.Worked.{both, lone_lines, worked_lines, worked_reg, worked_repo}
use Rattle.hr_copyable.proofs.HoldLemmas.{blobs_tag, nothing_is_of}
use Rattle.hr_copyable.proofs.OpenLemmas.{can_be_copied}
use Rattle.hr_copyable.proofs.StepLemmas.{ImagesReadBack, IndexesReadBack}
use Rattle.hr_copyable.proofs.TreeLemmas.{FewAreReached}

-- ---- tags of an honest content are children

some_there : {X : Type 0} (o : Option X) → IsSome o → (x : X) × (o ≡ Some x)
some_there (Some x) is = (x, refl)
some_there None is =
    let never : false ≡ true = is in
    cc

target_there : (o : Option Target) (d : Digest) → option_flatten o ≡ Some d → o ≡ Some (Some d)
target_there (Some (Some e)) d is = ap (λ (t : Option Digest). Some t) is
target_there (Some None) d is = cc is
target_there None d is = cc is

leads : (P : Target → Type 0) (o : Option Target) (t : Target) → IfSome o P → o ≡ Some t → P t
leads P o t h is = subst (λ (x : Option Target). IfSome x P) is h

child_there : (c : Content) (repo : RepoName) (tag : TagName) (d : Digest) → Honest c → tag_at c repo tag ≡ Some d → (kid : Child) × (child_of c repo tag ≡ Some kid)
child_there c repo tag d honest named =
    let target = target_there (target_at c repo tag) d named in
    let there = some_there (manifest_at c repo d)
    (leads (λ (t : Target). IsSome (option_and_then (manifest_at c repo) t)) (target_at c repo tag) (Some d) (honest.tags repo tag) target) in
    let as_child : Digest → Fetched → Child = λ e m. record { kind = kind.Manifest; digest = e; size = length m.bytes; media = m.media } in (
      as_child d there.0,
      ap (option_and_then (λ e. option_map (as_child e) (manifest_at c repo e))) named ∙ ap (option_map (as_child d)) there.1,
    )

children_there : (c : Content) (repo : RepoName) (one two : TagName) (d e : Digest) → Honest c → tag_at c repo one ≡ Some d → tag_at c repo two ≡ Some e
    → (kids : List Child) × (children_of c repo (one ∷ two ∷ []) ≡ Some kids)
children_there c repo one two d e honest first second =
    let a = child_there c repo one d honest first in
    let b = child_there c repo two e honest second in
    let more : children_of c repo (two ∷ []) ≡ Some (b.0 ∷ []) =
    ap (option_and_then (λ (child : Child). option_map (λ (children : List Child). child ∷ children) (Some []))) b.1 in (
      a.0 ∷ b.0 ∷ [],
      ap (option_and_then (λ (child : Child). option_map (λ (children : List Child). child ∷ children) (children_of c repo (two ∷ [])))) a.1
          ∙ ap (option_map (λ (children : List Child). a.0 ∷ children)) more,
    )

-- ---- an image under a tag

blobs_honest : (c : Content) (repo : RepoName) (blobs : List ByteList) → Honest c → Honest (with_blobs c repo blobs)
blobs_honest c repo [] h = h
blobs_honest c repo (bytes ∷ blobs) h =
    blobs_honest (with_blob c repo (digest_of bytes) bytes) repo blobs (Honest-with_blob c repo (digest_of bytes) bytes refl h)

image_honest : (c : Content) (repo : RepoName) (tag : TagName) (layers : List ByteList) → Honest c → Honest (with_image repo tag layers c)
image_honest c repo tag layers h =
    Honest-put_under (with_blobs c repo (config_text ∷ layers)) repo (by.Tag tag) image_media (image_text config_text layers) tt
    (blobs_honest c repo (config_text ∷ layers) h)

image_named : (c : Content) (repo : RepoName) (tag : TagName) (layers : List ByteList)
    → tag_at (with_image repo tag layers c) repo tag ≡ Some (digest_of (image_text config_text layers))
image_named c repo tag layers =
    tag_at-put_under-same (with_blobs c repo (config_text ∷ layers)) repo tag image_media (image_text config_text layers)

image_leaves : (c : Content) (repo : RepoName) (tag other : TagName) (layers : List ByteList) → (other ≡ tag → ⊥)
    → tag_at (with_image repo tag layers c) repo other ≡ tag_at c repo other
image_leaves c repo tag other layers apart =
    elim (tag_at-put_under-cases (with_blobs c repo (config_text ∷ layers)) repo tag image_media (image_text config_text layers) repo other) [
      | inl at ↦ absurd (apart at.1)
      | inr same ↦ same ∙ blobs_tag c repo (config_text ∷ layers) repo other
    ]

-- ---- two images and their index

abbrev one : TagName
one = codes "one"

abbrev two : TagName
two = codes "two"

one_is_not_two : one ≡ two → ⊥
one_is_not_two e =
    let never : true ≡ false = ap (λ (t : List ℕ). get_or t 0 0 == 111) e in
    cc

abbrev first : Content
first = with_image worked_repo one ((170 ∷ []) ∷ []) []

abbrev second : Content
second = with_image worked_repo two ((187 ∷ []) ∷ []) first

nothing_honest : Honest []
nothing_honest = (nothing_is_of (λ _. Unit {0})).honest

second_honest : Honest second
second_honest = image_honest first worked_repo two ((187 ∷ []) ∷ []) (image_honest [] worked_repo one ((170 ∷ []) ∷ []) nothing_honest)

worked_kids : (kids : List Child) × (children_of second worked_repo (one ∷ two ∷ []) ≡ Some kids)
worked_kids =
    children_there second worked_repo one two (digest_of (image_text config_text ((170 ∷ []) ∷ []))) (digest_of (image_text config_text ((187 ∷ []) ∷ []))) second_honest
    (image_leaves first worked_repo two one ((187 ∷ []) ∷ []) one_is_not_two ∙ image_named [] worked_repo one ((170 ∷ []) ∷ []))
    (image_named first worked_repo two ((187 ∷ []) ∷ []))

abbrev second_setups : Setups
second_setups = slice_set no_setups 0 (with_content (λ _. second) no_setup)

abbrev worked_opens : List Child → Setups
worked_opens kids = slice_set second_setups 0 (with_content (λ _. with_index worked_repo both kids second) no_setup)

abbrev last_line : Numbered
last_line = record { number = 4; line = line.Event (event.Trigger (record { 0 = 1 })) }

-- the index leads to what is there, and the event to nothing
abbrev from_index : Option (List Child) → Result Setups ℕ
from_index found = goes_on (λ after. after_lines after (last_line ∷ [])) 3
    (option_map (λ (setup : RegSetup). slice_set second_setups 0 setup)
    (option_map (λ (kids : List Child). with_content (with_index worked_repo both kids) (with_content (λ _. second) no_setup)) found))

pub worked_open : (opens : Setups) × (after_lines no_setups worked_lines ≡ Ok opens) × IsSome (tag_at (setup_in opens 1).content worked_repo both)
worked_open =
    let kids = worked_kids in
    let named : tag_at (with_index worked_repo both kids.0 second) worked_repo both ≡ Some (digest_of (index_text kids.0)) =
    tag_at-put_under-same second worked_repo both index_media (index_text kids.0) in
    (worked_opens kids.0, ap from_index kids.1, subst (λ (o : Option Digest). IsSome o) (sym named) refl)

reg_is_numbered : IsNumbered worked_reg
reg_is_numbered = record { some = omega arith; few = omega arith }

worked_fit : AreFit worked_lines
worked_fit = (reg_is_numbered, (reg_is_numbered, (reg_is_numbered, (tt, tt))))

pub worked_canonical : AreCanonical worked_lines
worked_canonical = (
  (omega arith, (omega arith, tt)),
  ((omega arith, (omega arith, tt)), ((omega arith, record { depth = omega arith; pairs = omega arith }), (tt, tt))),
)

pub worked_copied : FewAreReached → ImagesReadBack → IndexesReadBack → (opens : Setups) → after_lines no_setups worked_lines ≡ Ok opens
    → StoreOneText worked_lines → IsCopyable opens
worked_copied few images indexes opens is once =
    can_be_copied few images indexes worked_lines opens worked_fit worked_canonical once is

-- ---- an index of nothing

abbrev lone_opens : Setups
lone_opens = slice_set no_setups 0 (with_content (with_index worked_repo both []) no_setup)

only_one : (x a : ByteList) → Contains (x ∷ []) a → x ≡ a
only_one x a within = elim (contains_cases x [] a within) [ inl is ↦ is | inr later ↦ absurd (omega (arith, later.1)) ]

lone_once : StoreOneText lone_lines
lone_once a b first second same =
    sym (only_one (index_text []) a first) ∙ only_one (index_text []) b second

lone_canonical : AreCanonical lone_lines
lone_canonical = ((omega arith, record { depth = omega arith; pairs = omega arith }), tt)

pub lone_copied : FewAreReached → ImagesReadBack → IndexesReadBack
    → (opens : Setups) × (after_lines no_setups lone_lines ≡ Ok opens) × IsSome (tag_at (setup_in opens 1).content worked_repo both) × IsCopyable opens
lone_copied few images indexes =
    let named : tag_at (with_index worked_repo both [] []) worked_repo both ≡ Some (digest_of (index_text [])) =
    tag_at-put_under-same [] worked_repo both index_media (index_text []) in (
      lone_opens,
      refl,
      subst (λ (o : Option Digest). IsSome o) (sym named) refl,
      can_be_copied few images indexes lone_lines lone_opens (reg_is_numbered, tt) lone_canonical lone_once refl,
    )
