-- Lemmas on one read of a source in memory.
use Rattle.std.proofs.Common.{◌≡◌, ◌+◌, ◌≤◌, ℕ, min, List, [], ◌∷◌, ◌++◌, length, take, drop, refl, sym, ◌∙◌, subst, arith, Some, length-append, length-drop}
use Rattle.std.proofs.lemmas.List.{drop-drop, take-append-drop, length-take-le}
use Rattle.std.proofs.Math.Seq.{take-append_seam}
use Rattle.hr_cause.specs.MemSource.{let_through}
use Rattle.hr_cause.specs.Stream.{Reads}

-- a piece lets no more through than there is
pub let_through-le : (pieces : List ℕ) (len : ℕ) → let_through pieces len ≤ len
let_through-le [] len = omega arith
let_through-le (piece ∷ pieces) len = omega arith

-- a piece lets something through where there is something
pub let_through-zero : (pieces : List ℕ) (len : ℕ) → let_through pieces len ≡ 0 → len ≡ 0
let_through-zero [] len none = none
let_through-zero (piece ∷ pieces) len none = omega arith

-- a list of no length
pub none_of_length : (xs : List ℕ) → length xs ≡ 0 → xs ≡ []
none_of_length [] none = refl
none_of_length (x ∷ xs) none = absurd (omega arith)

-- the front of two lists
pub take-front : (xs ys : List ℕ) (n : ℕ) → length xs ≡ n → take n (xs ++ ys) ≡ xs
take-front xs ys n len = subst (λ m. take m (xs ++ ys) ≡ xs) len (take-append_seam xs ys)

-- a buffer whose front is that of what is left was read into
pub reads_front : (pieces left buf : List ℕ) (count : ℕ) → count ≡ let_through pieces (min (length buf) (length left))
    → Reads (Some left) (take count left ++ drop count buf) count (Some (drop count left))
reads_front pieces left buf count most =
    let fits : count ≤ min (length buf) (length left) = rw most (let_through-le pieces (min (length buf) (length left))) in
    let front : length (take count left) ≡ count = length-take-le count left (omega arith) in
    let same : length (take count left ++ drop count buf) ≡ length buf = simp (length-append, length-drop) (omega arith) in
    record {
      within = omega arith;
      told = rw (take-front (take count left) (drop count buf) count front) (sym (take-append-drop count left));
      ended = λ none room. none_of_length left
          (let nothing : min (length buf) (length left) ≡ 0 = let_through-zero pieces (min (length buf) (length left)) (sym most ∙ none) in
          omega (arith, room, same));
    }

-- the same where what is left is what stands behind a place
pub reads_behind : (pieces bytes buf filled : List ℕ) (at count : ℕ)
    → count ≡ let_through pieces (min (length buf) (length (drop at bytes))) → filled ≡ take count (drop at bytes) ++ drop count buf
    → Reads (Some (drop at bytes)) filled count (Some (drop (at + count) bytes))
reads_behind pieces bytes buf filled at count most front =
    rw (front, ← drop-drop count at bytes) (reads_front pieces (drop at bytes) buf count most)
