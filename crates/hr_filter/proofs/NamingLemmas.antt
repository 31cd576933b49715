-- Lemmas on the components of a name, of which a loop drops the leading ones.
use Rattle.std.proofs.Common.{◌≡◌, ◌+◌, ◌-◌, ◌^◌, ◌<◌, ◌≤◌, ℕ, suc, Bool, true, false, cond, min, nat_lt, Some, None, List, [], ◌∷◌, ◌++◌, take, drop, length, get_or, refl, sym, ap, ◌∙◌, subst, arith, nat_eq}
use lib.Signed.{lt_z, mag}
use mir.Syntax.{w8}
use mir.Val.{hbits, of_z, to_z}
use Rattle.std.specs.Prelude.{ℤ, pos, negsuc}
use Rattle.std.specs.List.{position, position_or_len, join_with_byte}
use Rattle.std.proofs.lemmas.Int.{to_z-of_z}
use Rattle.std.proofs.lemmas.List.Splits.{slice_split_first, slice_split_none, length-slice_split, join_with_byte-slice_split}
use Rattle.std.proofs.lemmas.List.Sums.{fails_before_first, count_by-le-length}
use Rattle.std.proofs.lemmas.List.Quantifiers.{position-Some}
use Rattle.std.proofs.lemmas.List.{take-append-drop}
use Rattle.std.proofs.Math.Seq.{drop-cons}
use Rattle.std.proofs.lemmas.Bool.{ltb-true, ltb-false, eqb-true}
use Rattle.hr_base.specs.Bytes.{Text}
use Rattle.hr_name.specs.Name.{IsName}
use Rattle.hr_name.proofs.ComponentLaws.{name_behind_slash}
use Rattle.hr_pattern.specs.Component.{components}
use Rattle.hr_filter.specs.Naming.{behind_leading, left_by}

-- whether a byte is a `/`
abbrev is_slash : ℕ → Bool
is_slash byte = nat_eq byte 47

cond_is_some : (b : Bool) (n i : ℕ) → cond b (Some n) None ≡ Some i → (b ≡ true) × (n ≡ i)
cond_is_some true n i e = (refl, cc)
cond_is_some false n i e = absurd (cc)

cond_is_none : (b : Bool) (n : ℕ) → cond b (Some n) None ≡ None → b ≡ false
cond_is_none true n e = absurd (cc)
cond_is_none false n e = refl

-- the components of a text whose first `/` stands at a place
components_some : (text : Text) (end : ℕ) → position is_slash text ≡ Some end
    → components text ≡ take end text ∷ components (drop (end + 1) text)
components_some text end e =
    let found = cond_is_some (nat_lt (position_or_len is_slash text) (length text)) (position_or_len is_slash text) end e in
    let first = slice_split_first is_slash text 0 (ltb-true _ _ found.0) in
    subst (λ (n : ℕ). components text ≡ take n text ∷ components (drop (n + 1) text)) found.1 first

-- the components of a text without `/`
components_none : (text : Text) → position is_slash text ≡ None → components text ≡ text ∷ []
components_none text e =
    let past : length text ≤ position_or_len is_slash text
    = ltb-false _ _ (cond_is_none (nat_lt (position_or_len is_slash text) (length text)) (position_or_len is_slash text) e) in
    slice_split_none is_slash text (λ k d h. fails_before_first is_slash text k d (omega arith))

some_component : (text : Text) → 0 < length (components text)
some_component text = let count = length-slice_split is_slash text in omega (arith, count)

-- one leading component less
behind_more : (count : ℕ) (first : Text) (parts : List Text) → 0 < length parts
    → behind_leading (count + 1) (first ∷ parts) ≡ behind_leading count parts
behind_more count first parts some =
    let less : min (count + 1) (length (first ∷ parts) - 1) ≡ suc (min count (length parts - 1)) = omega arith in
    ap (λ n. drop n (first ∷ parts)) less

-- one round of the loop
pub left_more : (count done : ℕ) (text left : Text) (end : ℕ) → done < count → position is_slash text ≡ Some end
    → left ≡ drop (end + 1) text
    → behind_leading (count - (done + 1)) (components left) ≡ behind_leading (count - done) (components text)
left_more count done text left end more e is =
    let less : count - done ≡ (count - (done + 1)) + 1 = omega arith in
    rw (is, less, components_some text end e)
    (sym (behind_more (count - (done + 1)) (take end text) (components (drop (end + 1) text)) (some_component (drop (end + 1) text))))

-- the loop's end at a text without `/`
pub left_none : (count : ℕ) (text : Text) → position is_slash text ≡ None
    → join_with_byte 47 (behind_leading count (components text)) ≡ text
left_none count text e =
    let last : min count (length (text ∷ []) - 1) ≡ 0 = omega arith in
    ap (λ parts. join_with_byte 47 (behind_leading count parts)) (components_none text e)
    ∙ ap (λ n. join_with_byte 47 (drop n (text ∷ []))) last

-- the loop's end
pub left_all : (count : ℕ) (text : Text) → count ≡ 0 → join_with_byte 47 (behind_leading count (components text)) ≡ text
left_all count text none =
    let all : min count (length (components text) - 1) ≡ 0 = omega arith in
    ap (λ n. join_with_byte 47 (drop n (components text))) all ∙ join_with_byte-slice_split 47 text

-- what stands behind the first `/` of a name is a name
pub left_named : (text left : Text) (end : ℕ) → IsName text → position is_slash text ≡ Some end → left ≡ drop (end + 1) text → IsName left
left_named text left end named e is =
    let found = position-Some is_slash text end 0 e in
    let next : suc end ≡ end + 1 = omega arith in
    let slash : get_or text end 0 ≡ 47 = eqb-true _ _ found.1 in
    let cut : text ≡ take end text ++ 47 ∷ drop (end + 1) text
    = sym (take-append-drop end text) ∙ ap (λ t. take end text ++ t) (drop-cons text end 0 found.0 ∙ (λ i. slash i ∷ drop (next i) text)) in
    subst IsName (sym is) (name_behind_slash (take end text) (drop (end + 1) text) (subst IsName cut named))

-- a text has at most as many `/` as bytes
pub all_leading : (text : Text) → behind_leading (length text) (components text) ≡ drop (length (components text) - 1) (components text)
all_leading text =
    let count = length-slice_split is_slash text in
    let few = count_by-le-length is_slash text in
    let least : min (length text) (length (components text) - 1) ≡ length (components text) - 1 = omega (arith, count, few) in
    ap (λ n. drop n (components text)) least

-- a count below 0 leaves the last component
last_left : (count : ℤ) (parts : List Text) → lt_z count (pos 0) ≡ true → left_by count parts ≡ drop (length parts - 1) parts
last_left (pos n) parts below = let less : n < 0 = ltb-true n 0 below in absurd (omega (arith, less))
last_left (negsuc n) parts below = refl

pub left_by_negative : (count : ℤ) (parts : List Text) → mag count < 2 ^ hbits w8 → lt_z (to_z w8 (of_z w8 count)) (pos 0) ≡ true
    → left_by count parts ≡ drop (length parts - 1) parts
left_by_negative count parts fits below =
    last_left count parts (subst (λ z. lt_z z (pos 0) ≡ true) (to_z-of_z w8 count (record { sfits = fits })) below)
