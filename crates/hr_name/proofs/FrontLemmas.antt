-- Lemmas on the words of specs/Front.antt.
use Rattle.std.proofs.Common.{◌≡◌, ℕ, ◌+◌, ◌<◌, ◌≤◌, List, ◌++◌, length, take, drop, inl, inr, sym, ap, ◌∙◌, subst, append_assoc, arith}
use Rattle.std.proofs.lemmas.Bool.{cases_lt}
use Rattle.std.proofs.lemmas.List.{take-append-drop, take-take}
use Rattle.std.proofs.Math.Seq.{take-length}
use Rattle.hr_name.specs.Front.{Begins, BeginsNone, IsFaultAt}

-- a longer front, cut after a shorter one
take-split : (m n : ℕ) (text : List ℕ) → m ≤ n → take n text ≡ take m text ++ drop m (take n text)
take-split m n text h =
    sym (take-append-drop m (take n text)) ∙ ap (λ front. front ++ drop m (take n text)) (take-take m n text h)

-- the byte behind a front with which some text begins, and with it none does
pub fault_here : (P : List ℕ → Type 0) (text : List ℕ) (at : ℕ) → at < length text
    → Begins P (take at text) → BeginsNone P (take (at + 1) text) → IsFaultAt P text at
fault_here P text at h begun none = record {
  refused = λ n. none (drop (at + 1) text) (subst P (sym (take-append-drop (at + 1) text)) n);
  within = omega arith;
  begins = begun;
  longest = λ n le b. elim (cases_lt at n) [
    | inr k ↦ k
    | inl k ↦
        let more : List ℕ = drop (at + 1) (take n text) in
        let whole : take n text ++ b.0 ≡ take (at + 1) text ++ (more ++ b.0)
        = ap (λ front. front ++ b.0) (take-split (at + 1) n text (omega arith)) ∙ append_assoc (take (at + 1) text) more b.0 in
        absurd (none (more ++ b.0) (subst P whole b.1))
  ];
}

-- some text begins with this one, which is none itself
pub fault_at_end : (P : List ℕ → Type 0) (text : List ℕ) → Begins P text → (P text → ⊥) → IsFaultAt P text (length text)
fault_at_end P text begun refused = record {
  refused = refused;
  within = omega arith;
  begins = subst (Begins P) (sym (take-length text)) begun;
  longest = λ n le b. le;
}

-- there is one such place
pub fault-unique : (P : List ℕ → Type 0) (text : List ℕ) (m n : ℕ) → IsFaultAt P text m → IsFaultAt P text n → m ≡ n
fault-unique P text m n f g =
    let low : m ≤ n = g.longest m f.within f.begins in
    let high : n ≤ m = f.longest n g.within g.begins in
    omega arith
