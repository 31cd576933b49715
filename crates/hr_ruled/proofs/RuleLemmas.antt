-- Lemmas on the words of specs/Rule.antt: the rule is the law of a plain board over all seats.
use Rattle.std.proofs.Common.{◌≡◌, ℕ, ◌==◌, List, get_or, refl, sym, ap, ◌∙◌, subst}
use mathlib.Core.Option.{some}
use lib.ListN.{get_elem?}
use Rattle.hr_board.specs.Past.{Past}
use Rattle.hr_board.specs.Plain.{IsLawful, IsEnded, IsOpened}
use Rattle.hr_board.specs.View.{Noted}
use Rattle.hr_ruled.specs.Rule.{IsRuled, together, parts_of}
use Rattle.hr_ruled.specs.Seats.{past_of_seat, plain_finals}
use Rattle.hr_ruled.specs.declared.rule.SeatView.{SeatView}
use Rattle.hr_ruled.proofs.SeatsLemmas.{Same, at-contains, one-all}

-- a past notes nothing that another doesn't, and has the final moves and opens of that one
pub record Like (past now : Past) : Type 0 where
  pub notes : (place word : ℕ) → Noted now.notes place word → Noted past.notes place word
  pub finals : Same past.finals now.finals
  pub opens : Same past.opens now.opens

-- it agrees with the words as that one does
pub like-lawful : (words : List ℕ) (past now : Past) → IsLawful words past → Like past now → IsLawful words now
like-lawful words past now h l = record {
  jobs_fit = h.jobs_fit;
  valid_word = h.valid_word;
  opened_after_error = h.opened_after_error;
  notes_below = λ p w n. h.notes_below p w (l.notes p w n);
  final_moves = λ p w n. h.final_moves p w (l.finals.contains (p, w) n);
  finals_once = λ p.
      let F : ℕ → Type 0 = λ n. IsEnded (get_or words p 0) n in
      subst F (sym (l.finals.counts (λ note. note.0 == p))) (h.finals_once p);
  opens_once = λ p.
      let F : ℕ → Type 0 = λ n. IsOpened (get_or words p 0) n in
      subst F (sym (l.opens.counts (λ opened. opened == p))) (h.opens_once p);
}

-- the seat that has all parts knows all final moves and opens
pub closes : (count : ℕ) (words : List ℕ) (seats : List SeatView) (id : ℕ) (v : SeatView) → IsRuled count words seats
    → get_elem? seats id ≡ some v → v.parts ≡ 1024 → IsLawful words (past_of_seat v)
closes count words seats id v h at all =
    let parts : parts_of seats ≡ v.parts = h.parts ∙ sym all in
    let P : List (ℕ × ℕ) → List ℕ → Past = λ fs os. record { notes = (together seats).notes; finals = fs; opens = os } in
    let finals : (together seats).finals ≡ plain_finals v.finals
    = one-all (λ u. plain_finals u.finals) seats id v at (λ i u e z. ap plain_finals ((h.each i u e).finals z)) parts in
    let opens : (together seats).opens ≡ v.opens
    = one-all (λ u. u.opens) seats id v at (λ i u e z. (h.each i u e).opens z) parts in
    let F : List (ℕ × ℕ) → Type 0 = λ l. Same (together seats).finals l in
    let O : List ℕ → Type 0 = λ l. Same (together seats).opens l in
    like-lawful words (together seats) (past_of_seat v) h.lawful record {
      notes = λ p w n. at-contains (λ u. u.notes) seats id v (p, w) at n;
      finals = subst F finals (itself _);
      opens = subst O opens (itself _);
    }
  where
    itself : {A : Type 0} (xs : List A) → Same xs xs
    itself xs = record { contains = λ x h. h; counts = λ p. refl }
