-- Lemmas on one piece of a blob that a registry gives.
use Rattle.std.proofs.Common.{◌≡◌, ◌+◌, ◌<◌, ℕ, min, List, [], ◌∷◌, ◌++◌, length, take, drop, refl, sym, subst, arith, Some, length-append, length-drop}
use Rattle.std.proofs.lemmas.List.{drop-drop, take-append-drop, length-take-le}
use Rattle.std.proofs.Math.Seq.{take-append_seam}
use Rattle.hr_cause.specs.Stream.{Reads}

none_of_length : (xs : List ℕ) → length xs ≡ 0 → xs ≡ []
none_of_length [] none = refl
none_of_length (x ∷ xs) none = absurd (omega arith)

take-front : (xs ys : List ℕ) (n : ℕ) → length xs ≡ n → take n (xs ++ ys) ≡ xs
take-front xs ys n len = subst (λ m. take m (xs ++ ys) ≡ xs) len (take-append_seam xs ys)

reads_front : (left buf : List ℕ) (piece count : ℕ) → 0 < piece → count ≡ min (min piece (length buf)) (length left)
    → Reads (Some left) (take count left ++ drop count buf) count (Some (drop count left))
reads_front left buf piece count some most =
    let front : length (take count left) ≡ count = length-take-le count left (omega arith) in
    let same : length (take count left ++ drop count buf) ≡ length buf = simp (length-append, length-drop) (omega arith) in
    record {
      within = omega arith;
      told = rw (take-front (take count left) (drop count buf) count front) (sym (take-append-drop count left));
      ended = λ none room. none_of_length left (omega (arith, room, same, some, most, none));
    }

-- a piece of a buffer's front, where what is left stands behind a place
pub reads_piece : (bytes buf filled : List ℕ) (at piece count : ℕ) → 0 < piece
    → count ≡ min (min piece (length buf)) (length (drop at bytes)) → filled ≡ take count (drop at bytes) ++ drop count buf
    → Reads (Some (drop at bytes)) filled count (Some (drop (at + count) bytes))
reads_piece bytes buf filled at piece count some most front =
    rw (front, ← drop-drop count at bytes) (reads_front (drop at bytes) buf piece count some most)
