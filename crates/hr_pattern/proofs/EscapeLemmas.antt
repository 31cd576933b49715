-- A pattern in which each byte is escaped has one form, of plain bytes, which covers one text.
use Rattle.std.proofs.Common.{◌≡◌, ℕ, ◌+◌, ◌<◌, ◌≤◌, zero, suc, Bool, true, false, cond, None, List, [], ◌∷◌, ◌++◌, map, length, get_or, ◌↔◌, refl, sym, subst, ap, ◌∙◌, arith}
use Rattle.std.specs.Prelude.{Any, ◌==◌}
use Rattle.std.specs.List.{slice_split, onto_first, join_with_byte}
use Rattle.std.proofs.lemmas.List.Splits.{join_with_byte-slice_split}
use Rattle.hr_pattern.specs.declared.item.Item.{Item}
use Rattle.hr_pattern.specs.declared.item.Item.TheVariants.{Byte}
use Rattle.hr_pattern.specs.declared.part.Reading.{Reading}
use Rattle.hr_pattern.specs.Component.{components}
use Rattle.hr_pattern.specs.Form.{Fits, FormCovers, forms, forms_of, fault_of, too_many}
use Rattle.hr_pattern.specs.Item.{CoversBytes, CoversPath, is_slash}
use Rattle.hr_pattern.specs.Reading.{outside}
use Rattle.hr_pattern.specs.Sign.{signs_from, escaped}
use Rattle.hr_pattern.proofs.FaultLemmas.{other}

-- what an escaped text reads as
abbrev read_at : ℕ → List ℕ → Reading
read_at at text = outside (signs_from at (escaped text))

no_fault : (at : ℕ) (text : List ℕ) → (read_at at text).fault ≡ None
no_fault at [] = refl
no_fault at (byte ∷ text) = no_fault (at + 2) text

few : (at : ℕ) (text : List ℕ) → too_many 1 (read_at at text).parts ≡ None
few at [] = refl
few at (byte ∷ text) = few (at + 2) text

one_form : (at : ℕ) (text : List ℕ) → forms (read_at at text).parts ≡ map Byte text ∷ []
one_form at [] = refl
one_form at (byte ∷ text) = ap (λ (rest : List (List Item)). map (λ (back : List Item). Byte byte ∷ back) rest ++ []) (one_form (at + 2) text)

pub escaped_sound : (text : List ℕ) → length (escaped text) ≤ 1024 → fault_of (escaped text) ≡ None
escaped_sound text h = other (escaped text) (read_at 0 text) None h refl (few 0 text) (no_fault 0 text)

only_form : (text : List ℕ) → forms_of (escaped text) ≡ map Byte text ∷ []
unfolding forms_of
only_form text = one_form 0 text

-- plain bytes cover themselves alone
bytes_cover : (text bytes : List ℕ) → CoversBytes (map Byte text) bytes ↔ (bytes ≡ text)
bytes_cover [] bytes = (λ h. h, λ h. h)
bytes_cover (byte ∷ text) [] = (λ h. absurd h, λ h. absurd (cc))
bytes_cover (byte ∷ text) (first ∷ rest) =
    let more = bytes_cover text rest in (
      λ h. let e : rest ≡ text = more.0 h.1 in let e' : first ≡ byte = h.0 in cc,
      λ h. let first_is : first ≡ byte = cc in let rest_is : rest ≡ text = cc in (first_is, more.1 rest_is),
    )

path_covers : (parts others : List (List ℕ)) → CoversPath (map (map Byte) parts) others ↔ (others ≡ parts)
path_covers [] others = (λ h. h, λ h. h)
path_covers ([] ∷ parts) [] = (λ h. absurd h, λ h. absurd (cc))
path_covers ((byte ∷ text) ∷ parts) [] = (λ h. absurd h, λ h. absurd (cc))
path_covers ([] ∷ parts) (first ∷ rest) =
    let more = path_covers parts rest in (
      λ h. let e : rest ≡ parts = more.0 h.1 in let e' : first ≡ [] = h.0 in cc,
      λ h. let first_is : first ≡ [] = cc in let rest_is : rest ≡ parts = cc in (first_is, more.1 rest_is),
    )
path_covers ((byte ∷ text) ∷ parts) (first ∷ rest) =
    let more = path_covers parts rest in
    let one = bytes_cover (byte ∷ text) first in (
      λ h. let e : rest ≡ parts = more.0 h.1 in let e' : first ≡ byte ∷ text = one.0 h.0 in cc,
      λ h. let first_is : first ≡ byte ∷ text = cc in let rest_is : rest ≡ parts = cc in (one.1 first_is, more.1 rest_is),
    )

-- plain bytes are cut where their text is
onto_plain : (byte : ℕ) (parts : List (List ℕ)) → onto_first (Byte byte) (map (map Byte) parts) ≡ map (map Byte) (onto_first byte parts)
onto_plain byte [] = refl
onto_plain byte (part ∷ parts) = refl

cut_plain : (text : List ℕ) → slice_split is_slash (map Byte text) ≡ map (map Byte) (components text)
cut_plain [] = refl
cut_plain (byte ∷ text) =
    let more = cut_plain text in
    let step : (slash : Bool) → cond slash ([] ∷ slice_split is_slash (map Byte text)) (onto_first (Byte byte) (slice_split is_slash (map Byte text)))
    ≡ map (map Byte) (cond slash ([] ∷ components text) (onto_first byte (components text))) =
    elim [
      | true ↦ ap (λ (rest : List (List Item)). [] ∷ rest) more
      | false ↦ ap (onto_first (Byte byte)) more ∙ onto_plain byte (components text)
    ]
    in step (byte == 47)

same_components : (text other : List ℕ) → (components other ≡ components text) ↔ (other ≡ text)
same_components text other = (
  λ h. sym (join_with_byte-slice_split 47 other) ∙ ap (join_with_byte 47) h ∙ join_with_byte-slice_split 47 text,
  λ h. ap components h,
)

form_covers : (text other : List ℕ) → FormCovers other (map Byte text) ↔ (other ≡ text)
form_covers text other =
    let path = path_covers (components text) (components other) in
    let same = same_components text other in
    let Cut : List (List Item) → Type 0 = λ cut. CoversPath cut (components other) in
    (λ h. same.0 (path.0 (subst Cut (cut_plain text) h)), λ h. subst Cut (sym (cut_plain text)) (path.1 (same.1 h)))

at_one : {X : Type 0} (P : X → Type 0) (x y : X) (k : ℕ) → k < 1 → get_or (x ∷ []) k y ≡ y → P y → P x
at_one P x y zero lt is h = subst P (sym is) h
at_one P x y (suc k) lt is h = absurd (omega arith)

any_one : {X : Type 0} (P : X → Type 0) (x : X) → Any P (x ∷ []) ↔ P x
any_one P x = (λ h. at_one P x h.1 h.0 (omega (arith, h.2)) h.3 h.4, λ h. (zero, x, omega arith, refl, h))

pub escaped_fits : (text other : List ℕ) → Fits (escaped text) other ↔ (other ≡ text)
escaped_fits text other =
    let one = any_one (FormCovers other) (map Byte text) in
    let covers = form_covers text other in (
      λ h. covers.0 (one.0 (subst (Any (FormCovers other)) (only_form text) h)),
      λ h. subst (Any (FormCovers other)) (sym (only_form text)) (one.1 (covers.1 h)),
    )
