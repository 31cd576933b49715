-- Texts that are cut at a byte, and what a written query asks of a listing.
use Rattle.std.proofs.Common.{◌≡◌, ◌≢◌, ◌<◌, ℕ, false, eqb, List, [], ◌∷◌, ◌++◌, Some, None, Option, refl, ap, ◌∙◌, subst, arith, codes, ⊎_elim}
use Rattle.std.specs.List.{All, AllByRecursion}
use Rattle.std.proofs.lemmas.Bool.{ne_eqb}
use Rattle.std.proofs.lemmas.List.Elements.{All-append, All-from_recursion, All-head, All-tail, All-weaker}
use Rattle.std.proofs.lemmas.List.Splits.{slice_split_at, slice_split_none}
use Rattle.form_urlencoded.specs.Form.{IsUnchanged, byte_serialize, decode}
use Rattle.form_urlencoded.proofs.FormLemmas.{All-byte_serialize, IsSerializedByte, decode-byte_serialize}
use Rattle.hr_base.specs.Bytes.{Text}
use Rattle.hr_route.specs.Query.{last_asked, listing_asked, listing_of, page_asked, pieces, values_in}
use Rattle.hr_route.specs.Target.{AreBytes, last_text}
use Rattle.hr_text.specs.Cutting.{cut_at}

-- a text without such a byte is not cut
pub uncut : (byte : ℕ) (text : Text) → All (λ b. eqb b byte ≡ false) text → cut_at byte text ≡ (text, None)
uncut byte [] free = refl
uncut byte (x ∷ xs) free =
    rw (All-head (λ b. eqb b byte ≡ false) x xs free)
    (ap (λ p. (x ∷ p.0, p.1)) (uncut byte xs (All-tail (λ b. eqb b byte ≡ false) x xs free)))

-- ---- what is written of a value has no `&`

unchanged_other : (b : ℕ) → IsUnchanged b → b ≢ 38
unchanged_other b kept e = let amp : IsUnchanged 38 = subst IsUnchanged e kept in cc

serialized_other : (b : ℕ) → IsSerializedByte b → eqb b 38 ≡ false
serialized_other b is =
    ne_eqb b 38 (λ e. ⊎_elim (λ kept. unchanged_other b kept e) (λ other. ⊎_elim (λ plus. omega arith) (λ percent. omega arith) other) is.allowed)

pub value_free : (value : Text) → All (λ b. eqb b 38 ≡ false) (byte_serialize value)
value_free value = All-weaker IsSerializedByte (λ b. eqb b 38 ≡ false) serialized_other (byte_serialize value) (All-byte_serialize value)

pub one_piece : (front value : Text) → AllByRecursion (λ b. eqb b 38 ≡ false) front → pieces (front ++ byte_serialize value) ≡ (front ++ byte_serialize value) ∷ []
one_piece front value free =
    slice_split_none (λ b. eqb b 38) (front ++ byte_serialize value)
    (All-append (λ b. eqb b 38 ≡ false) front (byte_serialize value) (All-from_recursion (λ b. eqb b 38 ≡ false) front free) (value_free value))

-- ---- listings

two_pieces : (value : Text) → pieces (codes "n=1000&last=" ++ byte_serialize value) ≡ codes "n=1000" ∷ (codes "last=" ++ byte_serialize value) ∷ []
two_pieces value =
    slice_split_at (λ b. eqb b 38) (codes "n=1000") 38 (codes "last=" ++ byte_serialize value)
    (All-from_recursion (λ b. eqb b 38 ≡ false) (codes "n=1000") (refl, (refl, (refl, (refl, (refl, (refl, tt))))))) refl
    ∙ ap (λ (ps : List Text). codes "n=1000" ∷ ps) (one_piece (codes "last=") value (refl, (refl, (refl, (refl, (refl, tt))))))

-- what is asked of a listing, by the pieces of a query
listing_by : List Text → Option (Option Text)
listing_by ps = listing_of (page_asked (values_in (codes "n") ps)) (last_asked (values_in (codes "last") ps))

all_listed : listing_by (codes "n=1000" ∷ []) ≡ Some None
unfolding listing_by values_in
all_listed = refl

listed_behind : (value : Text) → listing_by (codes "n=1000" ∷ (codes "last=" ++ byte_serialize value) ∷ []) ≡ Some (Some (decode (byte_serialize value)))
unfolding listing_by values_in
listed_behind value = refl

pub listing_back : (last : Option Text) → AreBytes last → listing_asked (codes "n=1000" ++ last_text last) ≡ Some last
unfolding listing_by
listing_back None bytes = all_listed
listing_back (Some value) bytes =
    ap listing_by (two_pieces value) ∙ listed_behind value
    ∙ ap (λ (v : Text). Some (Some v)) (decode-byte_serialize value (All-from_recursion (λ b. b < 256) value bytes))
