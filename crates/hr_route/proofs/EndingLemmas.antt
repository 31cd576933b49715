-- The target that ends an upload session: its place, with a piece of the key `digest` more.
use Rattle.std.proofs.Common.{◌≡◌, ◌<◌, ℕ, true, false, cond, eqb, List, [], ◌∷◌, ◌++◌, Some, None, Option, is_some, refl, sym, ap, ◌∙◌, subst, inl, inr, unwrap_or, append-nil, codes}
use Rattle.std.specs.List.{AllByRecursion, onto_first}
use Rattle.std.proofs.lemmas.Bool.{cases_Bool, eqb-true}
use Rattle.std.proofs.lemmas.List.Elements.{All-from_recursion}
use Rattle.form_urlencoded.specs.Form.{byte_serialize, decode}
use Rattle.form_urlencoded.proofs.FormLemmas.{decode-byte_serialize}
use Rattle.hr_base.specs.Bytes.{Text}
use Rattle.hr_call.proofs.ReadingLaws.{digest_back}
use Rattle.hr_call.specs.Reading as call
use Rattle.hr_digest.specs.Digest.{text_of_digest}
use Rattle.hr_digest.specs.Reading.{IsWhole}
use Rattle.hr_digest.specs.declared.digest.Digest.{Digest}
use Rattle.hr_route.proofs.ListingLemmas.{one_piece}
use Rattle.hr_route.proofs.QueryLemmas.{others_kept, others_none, others_put, values_more, values_none}
use Rattle.hr_route.specs.Found.{as_list}
use Rattle.hr_route.specs.Query.{digest_asked, marked, others, path_of, pieces, query_of, value_of, values_in, values_of, without}
use Rattle.hr_route.specs.Target.{ending_text, mark_of}
use Rattle.hr_text.specs.Cutting.{cut_at, pieces_left}
use Rattle.hr_text.proofs.CutLaws.{pieces_at_cut}

-- ---- pieces that are joined again

-- pieces with `&` between them
joined : List Text → Text
joined [] = []
joined (piece ∷ rest) = piece ++ marked 38 rest

marked_joined : (mark : ℕ) (ps rest : List Text) (piece : Text) → ps ≡ piece ∷ rest → marked mark ps ≡ mark ∷ joined ps
unfolding joined
marked_joined mark ps rest piece is = ap (marked mark) is ∙ ap (λ (qs : List Text). mark ∷ joined qs) (sym is)

joined_onto : (byte : ℕ) (ps rest : List Text) (piece : Text) → ps ≡ piece ∷ rest → joined (onto_first byte ps) ≡ byte ∷ joined ps
unfolding joined
joined_onto byte ps rest piece is = ap (λ (qs : List Text). joined (onto_first byte qs)) is ∙ ap (λ (qs : List Text). byte ∷ joined qs) (sym is)

pieces_here : (byte : ℕ) (query : Text) → eqb byte 38 ≡ true → pieces (byte ∷ query) ≡ [] ∷ pieces query
pieces_here byte query here = rw here refl

pieces_on : (byte : ℕ) (query : Text) → eqb byte 38 ≡ false → pieces (byte ∷ query) ≡ onto_first byte (pieces query)
pieces_on byte query other = rw other refl

joined_pieces : (query : Text) → joined (pieces query) ≡ query
unfolding joined
joined_pieces [] = refl
joined_pieces (byte ∷ query) = elim (cases_Bool (eqb byte 38)) [
  | inl here ↦
      ap joined (pieces_here byte query here)
      ∙ marked_joined 38 (pieces query) (pieces_left 38 (cut_at 38 query).1) (cut_at 38 query).0 (pieces_at_cut 38 query)
      ∙ ap (λ (t : Text). 38 ∷ t) (joined_pieces query) ∙ ap (λ (b : ℕ). b ∷ query) (sym (eqb-true byte 38 here))
  | inr other ↦
      ap joined (pieces_on byte query other)
      ∙ joined_onto byte (pieces query) (pieces_left 38 (cut_at 38 query).1) (cut_at 38 query).0 (pieces_at_cut 38 query)
      ∙ ap (λ (t : Text). byte ∷ t) (joined_pieces query)
]

marked_pieces : (mark : ℕ) (query : Text) → marked mark (pieces query) ≡ mark ∷ query
marked_pieces mark query =
    marked_joined mark (pieces query) (pieces_left 38 (cut_at 38 query).1) (cut_at 38 query).0 (pieces_at_cut 38 query)
    ∙ ap (λ (t : Text). mark ∷ t) (joined_pieces query)

onto_more : (byte : ℕ) (ps qs rest : List Text) (piece : Text) → ps ≡ piece ∷ rest → onto_first byte (ps ++ qs) ≡ onto_first byte ps ++ qs
onto_more byte ps qs rest piece is =
    ap (λ (rs : List Text). onto_first byte (rs ++ qs)) is ∙ ap (λ (rs : List Text). onto_first byte rs ++ qs) (sym is)

pieces_more : (query more : Text) → pieces (query ++ 38 ∷ more) ≡ pieces query ++ pieces more
pieces_more [] more = refl
pieces_more (byte ∷ query) more = elim (cases_Bool (eqb byte 38)) [
  | inl here ↦
      pieces_here byte (query ++ 38 ∷ more) here ∙ ap (λ (ps : List Text). [] ∷ ps) (pieces_more query more)
      ∙ ap (λ (ps : List Text). ps ++ pieces more) (sym (pieces_here byte query here))
  | inr other ↦
      pieces_on byte (query ++ 38 ∷ more) other ∙ ap (onto_first byte) (pieces_more query more)
      ∙ onto_more byte (pieces query) (pieces more) (pieces_left 38 (cut_at 38 query).1) (cut_at 38 query).0 (pieces_at_cut 38 query)
      ∙ ap (λ (ps : List Text). ps ++ pieces more) (sym (pieces_on byte query other))
]

-- ---- pieces of which none has a key

-- an option that gives nothing to a list that is empty
record IsNone (value : Option Text) (rest : List Text) : Type 0 where
  pub none : is_some value ≡ false
  pub empty : rest ≡ []

is_none : (value : Option Text) (rest : List Text) → as_list value ++ rest ≡ [] → IsNone value rest
is_none None rest e = record { none = refl; empty = e }
is_none (Some value) rest e = absurd (cc)

none_first : (key piece : Text) (rest : List Text) → values_in key (piece ∷ rest) ≡ [] → IsNone (value_of key piece) (values_in key rest)
none_first key piece rest e = is_none (value_of key piece) (values_in key rest) (sym (values_more key piece rest) ∙ e)

-- pieces of which the last has a key, and no other
others_last : (key last : Text) (ps : List Text) → values_in key ps ≡ [] → is_some (value_of key last) ≡ true → others key (ps ++ last ∷ []) ≡ ps
others_last key last [] none some = others_kept key last [] some ∙ others_none key
others_last key last (piece ∷ rest) none some =
    let first = none_first key piece rest none in
    others_put key piece (rest ++ last ∷ []) first.none ∙ ap (λ (ps : List Text). piece ∷ ps) (others_last key last rest first.empty some)

values_last : (key last : Text) (ps : List Text) → values_in key ps ≡ [] → values_in key (ps ++ last ∷ []) ≡ values_in key (last ∷ [])
values_last key last [] none = refl
values_last key last (piece ∷ rest) none =
    let first = none_first key piece rest none in
    values_more key piece (rest ++ last ∷ []) ∙ ap (λ (vs : List Text). vs ++ values_in key (rest ++ last ∷ [])) (listed (value_of key piece) first.none)
    ∙ values_last key last rest first.empty
  where
    listed : (value : Option Text) → is_some value ≡ false → as_list value ≡ []
    listed None e = refl
    listed (Some value) e = absurd (cc)

-- ---- a place, cut at its query

-- what a cut finds of a place without a query
record IsUncut (at : Text) : Type 0 where
  pub path : (cut_at 63 at).0 ≡ at
  pub more : (query : Text) → cut_at 63 (at ++ 63 ∷ query) ≡ (at, Some query)

uncut_place : (at : Text) → (cut_at 63 at).1 ≡ None → IsUncut at
uncut_place [] none = record { path = refl; more = λ query. refl }
uncut_place (byte ∷ at) none = elim (cases_Bool (eqb byte 63)) [
  | inl here ↦ absurd (let e = rw here at none in cc e)
  | inr other ↦
      let rest : IsUncut at = uncut_place at (rw other at none) in
      record {
        path = rw other (ap (λ (t : Text). byte ∷ t) rest.path);
        more = λ query. rw other (ap (λ p. (byte ∷ p.0, p.1)) (rest.more query));
      }
]

-- what a cut finds of a place with this query
record IsCutAt (at asked : Text) : Type 0 where
  pub is : at ≡ (cut_at 63 at).0 ++ 63 ∷ asked
  pub more : (rest : Text) → cut_at 63 (at ++ rest) ≡ ((cut_at 63 at).0, Some (asked ++ rest))

cut_place : (at asked : Text) → (cut_at 63 at).1 ≡ Some asked → IsCutAt at asked
cut_place [] asked some = absurd (cc)
cut_place (byte ∷ at) asked some = elim (cases_Bool (eqb byte 63)) [
  | inl here ↦
      let e = rw here at some in
      let same : at ≡ asked = cc e in
      record {
        is = rw here (λ i. eqb-true byte 63 here i ∷ same i);
        more = λ rest. rw here (ap (λ (t : Text). ([], Some (t ++ rest))) same);
      }
  | inr other ↦
      let rest : IsCutAt at asked = cut_place at asked (rw other at some) in
      record {
        is = rw other (ap (λ (t : Text). byte ∷ t) rest.is);
        more = λ more. rw other (ap (λ p. (byte ∷ p.0, p.1)) (rest.more more));
      }
]

-- ---- the end of a session

-- the piece that says a digest
abbrev digest_piece : Text → Text
digest_piece text = codes "digest=" ++ byte_serialize text

piece_alone : (text : Text) → pieces (digest_piece text) ≡ digest_piece text ∷ []
piece_alone text = one_piece (codes "digest=") text (refl, (refl, (refl, (refl, (refl, (refl, (refl, tt)))))))

piece_value : (text : Text) → value_of (codes "digest") (digest_piece text) ≡ Some (byte_serialize text)
piece_value text = refl

piece_values : (text : Text) → values_in (codes "digest") (digest_piece text ∷ []) ≡ byte_serialize text ∷ []
piece_values text =
    values_more (codes "digest") (digest_piece text) [] ∙ ap (λ (vs : List Text). byte_serialize text ∷ vs) (values_none (codes "digest"))

-- what is read of a target that ends the session at a place by the digest of this text
pub record IsEnding (at text target : Text) : Type 0 where
  pub path : path_of target ≡ path_of at
  pub place : without (codes "digest") target ≡ at
  pub value : values_of (codes "digest") (query_of target) ≡ byte_serialize text ∷ []

-- by what a cut finds of the target
ending_cut : (at text target asked : Text) → cut_at 63 target ≡ (path_of at, Some asked)
    → path_of at ++ marked 63 (others (codes "digest") (pieces asked)) ≡ at
    → values_in (codes "digest") (pieces asked) ≡ byte_serialize text ∷ []
    → IsEnding at text target
ending_cut at text target asked cut place value = record {
  path = ap (λ p. p.0) cut;
  place = ap (λ p. p.0 ++ marked 63 (others (codes "digest") (pieces (unwrap_or p.1 [])))) cut ∙ place;
  value = ap (λ p. values_in (codes "digest") (pieces (unwrap_or p.1 []))) cut ∙ value;
}

ending_first : (at text : Text) → (cut_at 63 at).1 ≡ None → IsEnding at text (at ++ 63 ∷ digest_piece text)
ending_first at text none =
    let cut = uncut_place at none in
    ending_cut at text (at ++ 63 ∷ digest_piece text) (digest_piece text)
    (cut.more (digest_piece text) ∙ ap (λ (p : Text). (p, Some (digest_piece text))) (sym cut.path))
    (ap (λ (ps : List Text). path_of at ++ marked 63 ps)
    (ap (others (codes "digest")) (piece_alone text) ∙ others_kept (codes "digest") (digest_piece text) [] refl ∙ others_none (codes "digest"))
    ∙ append-nil (path_of at) ∙ cut.path)
    (ap (values_in (codes "digest")) (piece_alone text) ∙ piece_values text)

ending_next : (at text asked : Text) → (cut_at 63 at).1 ≡ Some asked → values_in (codes "digest") (pieces asked) ≡ []
    → IsEnding at text (at ++ 38 ∷ digest_piece text)
ending_next at text asked some none =
    let cut = cut_place at asked some in
    let all : pieces (asked ++ 38 ∷ digest_piece text) ≡ pieces asked ++ digest_piece text ∷ [] =
    pieces_more asked (digest_piece text) ∙ ap (λ (ps : List Text). pieces asked ++ ps) (piece_alone text) in
    ending_cut at text (at ++ 38 ∷ digest_piece text) (asked ++ 38 ∷ digest_piece text)
    (cut.more (38 ∷ digest_piece text))
    (ap (λ (ps : List Text). path_of at ++ marked 63 (others (codes "digest") ps)) all
    ∙ ap (λ (ps : List Text). path_of at ++ marked 63 ps) (others_last (codes "digest") (digest_piece text) (pieces asked) none refl)
    ∙ ap (λ (t : Text). path_of at ++ t) (marked_pieces 63 asked) ∙ sym cut.is)
    (ap (values_in (codes "digest")) all ∙ values_last (codes "digest") (digest_piece text) (pieces asked) none ∙ piece_values text)

ending_by : (at text : Text) (found : Option Text) → (cut_at 63 at).1 ≡ found → values_of (codes "digest") (query_of at) ≡ []
    → IsEnding at text (at ++ mark_of at ∷ digest_piece text)
ending_by at text None is none =
    subst (λ (mark : ℕ). IsEnding at text (at ++ mark ∷ digest_piece text)) (sym (ap (λ (o : Option Text). cond (is_some o) 38 63) is))
    (ending_first at text is)
ending_by at text (Some asked) is none =
    subst (λ (mark : ℕ). IsEnding at text (at ++ mark ∷ digest_piece text)) (sym (ap (λ (o : Option Text). cond (is_some o) 38 63) is))
    (ending_next at text asked is (sym (ap (λ (o : Option Text). values_in (codes "digest") (pieces (unwrap_or o []))) is) ∙ none))

-- the target that ends a session leads to its place, which is what is left without the digest
pub ending_is : (at : Text) (digest : Digest) → values_of (codes "digest") (query_of at) ≡ []
    → IsEnding at (text_of_digest digest) (ending_text at digest)
ending_is at digest none = ending_by at (text_of_digest digest) (cut_at 63 at).1 refl none

text_bytes : (text : Text) → AllByRecursion (λ b. b < 256) text → decode (byte_serialize text) ≡ text
text_bytes text small = decode-byte_serialize text (All-from_recursion (λ b. b < 256) text small)

-- the digest of that target is read back
pub digest_asked_back : (at : Text) (digest : Digest) (target : Text) → IsWhole digest → AllByRecursion (λ b. b < 256) (text_of_digest digest)
    → IsEnding at (text_of_digest digest) target → digest_asked (values_of (codes "digest") (query_of target)) ≡ Some digest
digest_asked_back at digest target whole small is =
    ap digest_asked is.value ∙ ap call.digest_in (text_bytes (text_of_digest digest) small) ∙ digest_back digest whole
