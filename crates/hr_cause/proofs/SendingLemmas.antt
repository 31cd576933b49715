-- Lemmas on a text that is sent write after write.
use Rattle.std.proofs.Common.{◌≡◌, ◌-◌, ℕ, [], ◌++◌, length, take, drop, Option, refl, sym, ap, ◌∙◌, subst, append_assoc, take-append-drop, arith, length-drop}
use Rattle.std.proofs.lemmas.List.{append-nil, take_all}
use Rattle.hr_base.specs.Bytes.{ByteList}
use Rattle.hr_cause.specs.Stream.{Took, TookFront}
use Rattle.hr_cause.proofs.StreamLaws.{took_none, took_more}

-- a front of the text was sent, and the rest is left
pub record Front (before : Option ByteList) (text rest : ByteList) (now : Option ByteList) : Type 0 where
  pub front : ByteList
  pub cut : text ≡ front ++ rest
  pub told : Took before front now

pub front_none : (before : Option ByteList) (text : ByteList) → Front before text text before
front_none before text = record { front = []; cut = refl; told = took_none before }

-- the first count bytes of the rest were sent
pub front_more : (before mid now : Option ByteList) (text rest left : ByteList) (count : ℕ) → Front before text rest mid → Took mid (take count rest) now
    → left ≡ drop count rest → Front before text left now
front_more before mid now text rest left count so_far told is = record {
  front = so_far.front ++ take count rest;
  cut = so_far.cut ∙ ap (λ (t : ByteList). so_far.front ++ t) (sym (take-append-drop count rest) ∙ ap (λ (t : ByteList). take count rest ++ t) (sym is)) ∙ sym (append_assoc so_far.front (take count rest) left);
  told = took_more before mid now so_far.front (take count rest) so_far.told told;
}

pub front_all : (before now : Option ByteList) (text rest : ByteList) → Front before text rest now → rest ≡ [] → Took before text now
front_all before now text rest so_far none =
    subst (λ (t : ByteList). Took before t now) (sym (so_far.cut ∙ ap (λ (t : ByteList). so_far.front ++ t) none ∙ append-nil so_far.front)) so_far.told

pub front_cut : (before now : Option ByteList) (text rest : ByteList) → Front before text rest now → TookFront before text now
front_cut before now text rest so_far = (so_far.front, rest, so_far.cut, so_far.told)

pub whole_drop : (s : ByteList) (i : ℕ) → take (length s - i) (drop i s) ≡ drop i s
whole_drop s i = take_all (length s - i) (drop i s) (omega (arith, length-drop i s))
