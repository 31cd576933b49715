-- Lemmas on the words of specs/Moves.antt.
use Rattle.std.proofs.Common.{◌≡◌, ℕ, zero, suc, ◌<◌, ◌≤◌, refl, sym, ap, ◌∙◌, subst, inl, inr, Result, Ok, Err, arith}
use Rattle.std.specs.Result.{OnOk, IfErr}
use Rattle.std.proofs.lemmas.Bool.{cases_lt}
use Rattle.hr_base.specs.declared.status.Status.{Status}
use Rattle.hr_base.specs.declared.status.Status.TheVariants.{Pending, Scheduled, Running, Stopped, Error, Success}
use Rattle.hr_base.specs.declared.status.Mark.{Mark}
use Rattle.hr_base.specs.declared.status.Mark.TheVariants.{Unopened, At}
use Rattle.hr_base.specs.Status.{word_of, IsFinal}
use Rattle.hr_board.specs.View.{View, Noted, Finds}
use Rattle.hr_board.specs.Moves.{IsMove, IsReached, at_once, by_move, Below}

-- a final status has a word from 4 on, and another one a lower word
pub final-word : (status : Status) → IsFinal status → 4 ≤ word_of (At status)
final-word Pending h = absurd (omega (arith, h))
final-word Scheduled h = absurd (omega (arith, h))
final-word Running h = absurd (omega (arith, h))
final-word Stopped h = omega arith
final-word Error h = omega arith
final-word Success h = omega arith

pub unfinished-word : (status : Status) → (IsFinal status → ⊥) → word_of (At status) < 4
unfinished-word Pending h = omega arith
unfinished-word Scheduled h = omega arith
unfinished-word Running h = omega arith
unfinished-word Stopped h = absurd (h refl)
unfinished-word Error h = absurd (h refl)
unfinished-word Success h = absurd (h refl)

-- a word that is not final may move to Stopped
pub stops : (mark : Mark) → word_of mark < 4 → IsMove mark (At Stopped)
stops Unopened h = tt
stops (At Pending) h = tt
stops (At Scheduled) h = tt
stops (At Running) h = tt
stops (At Stopped) h = absurd (omega (arith, h))
stops (At Error) h = absurd (omega (arith, h))
stops (At Success) h = absurd (omega (arith, h))

pub word-small : (mark : Mark) → word_of mark ≤ 6
word-small Unopened = omega arith
word-small (At Pending) = omega arith
word-small (At Scheduled) = omega arith
word-small (At Running) = omega arith
word-small (At Stopped) = omega arith
word-small (At Error) = omega arith
word-small (At Success) = omega arith

-- the mark of a word
mark_at : ℕ → Mark
mark_at zero = Unopened
mark_at (suc zero) = At Pending
mark_at (suc (suc zero)) = At Scheduled
mark_at (suc (suc (suc zero))) = At Running
mark_at (suc (suc (suc (suc zero)))) = At Stopped
mark_at (suc (suc (suc (suc (suc zero))))) = At Error
mark_at (suc (suc (suc (suc (suc (suc n)))))) = At Success

mark_at-word : (mark : Mark) → mark_at (word_of mark) ≡ mark
unfolding mark_at
mark_at-word Unopened = refl
mark_at-word (At Pending) = refl
mark_at-word (At Scheduled) = refl
mark_at-word (At Running) = refl
mark_at-word (At Stopped) = refl
mark_at-word (At Error) = refl
mark_at-word (At Success) = refl

-- no two marks have one word
pub same-word : (m n : Mark) → word_of m ≡ word_of n → m ≡ n
same-word m n e = sym (mark_at-word m) ∙ ap mark_at e ∙ mark_at-word n

-- a move, by its words
pub record Steps (m n : ℕ) : Type 0 where
  pub up : m < n
  pub valid : n ≤ 6
  pub unfinished : m < 4
  pub opening : n ≤ 2 → m ≡ 0
  pub starting : n ≡ 3 → 1 ≤ m
  pub ending : 5 ≤ n → m ≡ 3

step : (m n : ℕ) → m < n → n ≤ 6 → m < 4 → (n ≤ 2 → m ≡ 0) → (n ≡ 3 → 1 ≤ m) → (5 ≤ n → m ≡ 3) → Steps m n
step m n a b c d e f = record { up = a; valid = b; unfinished = c; opening = d; starting = e; ending = f }

pub steps-move : (from to : Mark) → IsMove from to → Steps (word_of from) (word_of to)
steps-move Unopened Unopened h = absurd h
steps-move Unopened (At Pending) h = step 0 1 (omega arith) (omega arith) (omega arith) (λ e. refl) (λ e. omega (arith, e)) (λ e. omega (arith, e))
steps-move Unopened (At Scheduled) h = step 0 2 (omega arith) (omega arith) (omega arith) (λ e. refl) (λ e. omega (arith, e)) (λ e. omega (arith, e))
steps-move Unopened (At Stopped) h = step 0 4 (omega arith) (omega arith) (omega arith) (λ e. refl) (λ e. omega (arith, e)) (λ e. omega (arith, e))
steps-move Unopened (At s) h = absurd h
steps-move (At Pending) (At Running) h = step 1 3 (omega arith) (omega arith) (omega arith) (λ e. omega (arith, e)) (λ e. omega arith) (λ e. omega (arith, e))
steps-move (At Pending) (At Stopped) h = step 1 4 (omega arith) (omega arith) (omega arith) (λ e. omega (arith, e)) (λ e. omega arith) (λ e. omega (arith, e))
steps-move (At Scheduled) (At Running) h = step 2 3 (omega arith) (omega arith) (omega arith) (λ e. omega (arith, e)) (λ e. omega arith) (λ e. omega (arith, e))
steps-move (At Scheduled) (At Stopped) h = step 2 4 (omega arith) (omega arith) (omega arith) (λ e. omega (arith, e)) (λ e. omega arith) (λ e. omega (arith, e))
steps-move (At Running) (At Stopped) h = step 3 4 (omega arith) (omega arith) (omega arith) (λ e. omega (arith, e)) (λ e. omega (arith, e)) (λ e. omega (arith, e))
steps-move (At Running) (At Error) h = step 3 5 (omega arith) (omega arith) (omega arith) (λ e. omega (arith, e)) (λ e. omega (arith, e)) (λ e. refl)
steps-move (At Running) (At Success) h = step 3 6 (omega arith) (omega arith) (omega arith) (λ e. omega (arith, e)) (λ e. omega (arith, e)) (λ e. refl)
steps-move from to h = absurd h

-- what is below a word is below the next one
pub below_step : (l m n : ℕ) → Below l m → Steps m n → Below l n
below_step l m n h s =
    (omega (arith, h.0, s.up), (λ e f. omega (arith, h.0, e, f, s.opening)), (λ e. absurd (omega (arith, h.0, e, s.unfinished))))

-- no word is below itself by less
pub below_refl : (m : ℕ) → Below m m
below_refl m = (omega arith, (λ e f. omega (arith, e, f)), (λ e. refl))

pub below-reached : (from to : Mark) → IsReached from to → Below (word_of from) (word_of to)
below-reached from _ at_once = below_refl (word_of from)
below-reached from _ (by_move mark to r m) =
    below_step (word_of from) (word_of mark) (word_of to) (below-reached from mark r) (steps-move mark to m)

running-reached : (from : Mark) → word_of from ≤ 3 → IsReached from (At Running)
running-reached Unopened h = by_move (At Pending) (At Running) (by_move Unopened (At Pending) at_once tt) tt
running-reached (At Pending) h = by_move (At Pending) (At Running) at_once tt
running-reached (At Scheduled) h = by_move (At Scheduled) (At Running) at_once tt
running-reached (At Running) h = at_once
running-reached (At Stopped) h = absurd (omega (arith, h))
running-reached (At Error) h = absurd (omega (arith, h))
running-reached (At Success) h = absurd (omega (arith, h))

itself-reached : (from to : Mark) → word_of to ≡ word_of from → IsReached from to
itself-reached from to e = subst (IsReached from) (same-word from to (sym e)) at_once

pub reached-below : (from to : Mark) → Below (word_of from) (word_of to) → IsReached from to
reached-below Unopened Unopened h = at_once
reached-below (At s) Unopened h = itself-reached (At s) Unopened (omega (arith, h.0))
reached-below Unopened (At Pending) h = by_move Unopened (At Pending) at_once tt
reached-below (At Pending) (At Pending) h = at_once
reached-below (At s) (At Pending) h = absurd (omega (arith, h.0))
reached-below Unopened (At Scheduled) h = by_move Unopened (At Scheduled) at_once tt
reached-below (At Scheduled) (At Scheduled) h = at_once
reached-below (At Pending) (At Scheduled) h = absurd (h.1 refl refl)
reached-below (At s) (At Scheduled) h = absurd (omega (arith, h.0))
reached-below from (At Running) h = running-reached from h.0
reached-below from (At Stopped) h = elim (cases_lt (word_of from) 4) [
  | inl e ↦ by_move from (At Stopped) at_once (stops from e)
  | inr e ↦ itself-reached from (At Stopped) (h.2 e)
]
reached-below from (At Error) h = elim (cases_lt (word_of from) 4) [
  | inl e ↦ by_move (At Running) (At Error) (running-reached from (omega (arith, e))) tt
  | inr e ↦ itself-reached from (At Error) (h.2 e)
]
reached-below from (At Success) h = elim (cases_lt (word_of from) 4) [
  | inl e ↦ by_move (At Running) (At Success) (running-reached from (omega (arith, e))) tt
  | inr e ↦ itself-reached from (At Success) (h.2 e)
]

-- nothing but itself is reached from a final mark
pub final-stays : (status : Status) (mark : Mark) → IsFinal status → Below (word_of (At status)) (word_of mark) → mark ≡ At status
final-stays status mark f h = same-word mark (At status) (h.2 (final-word status f))

-- a move where a final mark was noted finds that mark
pub at-final : (result : Result (Unit {0}) Mark) (view : View) (place : ℕ) (from to : Mark) (status : Status) → IsMove from to
    → IsFinal status → Noted view.notes place (word_of (At status)) → OnOk result (Finds view place (word_of from))
    → IfErr result (λ found. Finds view place (word_of found)) → result ≡ Err (At status)
at-final (Ok u) view place from to status m f n ok err =
    let stays : word_of from ≡ word_of (At status) = (ok.above (word_of (At status)) n).2 (final-word status f) in
    absurd (omega (arith, stays, final-word status f, (steps-move from to m).unfinished))
at-final (Err found) view place from to status m f n ok err = ap Err (final-stays status found f (err.above (word_of (At status)) n))
