-- Lemmas on the end of a board: the words that are read one by one, and what the last seat knows.
use Rattle.std.proofs.Common.{◌≡◌, ℕ, zero, suc, ◌+◌, ◌*◌, ◌≤◌, List, [], ◌∷◌, ◌++◌, length, take, sym, ap, ◌∙◌, subst, add-one, arith}
use Rattle.std.proofs.lemmas.List.{take_all}
use mathlib.Core.Option.{some, some-injective, some-ne-none}
use lib.ListN.{get_elem?}
use Rattle.hr_board.specs.Plain.{IsLawful}
use Rattle.hr_ruled.specs.Rule.{IsRuled, IsSeat, IsClosed}
use Rattle.hr_ruled.specs.Seats.{past_of_seat}
use Rattle.hr_ruled.specs.declared.rule.SeatView.{SeatView}
use Rattle.hr_ruled.proofs.RuleLemmas.{closes}

-- one word more
pub take-next : (xs : List ℕ) (i x : ℕ) → get_elem? xs i ≡ some x → take (i + 1) xs ≡ take i xs ++ x ∷ []
take-next [] i x e = absurd (some-ne-none x (sym e))
take-next (y ∷ ys) zero x e = ap (λ (z : ℕ). z ∷ []) (some-injective y x e)
take-next (y ∷ ys) (suc i) x e = rw add-one (ap (λ (l : List ℕ). y ∷ l) (sym (rw add-one at (sym (take-next ys i x e)))))

-- all words were read, and agree with what the seat that has all parts knows
pub closed : (jobs count at id : ℕ) (words found items : List ℕ) (seats : List SeatView) (v seat : SeatView)
    → IsRuled count words seats → get_elem? seats id ≡ some v → v ≡ seat → seat.parts ≡ 1024 → words ≡ found
    → items ≡ take at found → count ≤ at → count ≡ 4 * jobs
    → IsClosed jobs items seat
closed jobs count at id words found items seats v seat h there is all same read enough four =
    let S : SeatView → Type 0 = λ u. IsLawful words (past_of_seat u) in
    let P : SeatView → ℕ = λ u. u.parts in
    let C : List ℕ → Type 0 = λ l. IsClosed jobs l seat in
    let T : List ℕ → List ℕ = λ l. take at l in
    let len : length words ≤ at = omega (arith, h.whole, enough) in
    subst C (sym (read ∙ ap T (sym same) ∙ take_all at words len)) record {
      whole = h.whole ∙ four;
      lawful = subst S is (closes count words seats id v h there (ap P is ∙ all));
      allowed = subst IsSeat is (h.each id v there);
    }
