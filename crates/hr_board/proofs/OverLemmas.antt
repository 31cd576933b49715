-- Lemmas on the words of specs/Over.antt.
use Rattle.std.proofs.Common.{◌≡◌, ◌≢◌, ℕ, zero, suc, [], ◌+◌, ◌-◌, ◌<◌, ◌≤◌, ◌⊎◌, inl, inr, List, ◌++◌, refl, sym, ap, ◌∙◌, subst, append_assoc, arith}
use Rattle.std.specs.Prelude.{slice_index}
use Rattle.std.proofs.lemmas.List.{append-nil}
use Rattle.std.proofs.lemmas.List.Elements.{Contains-append_right, Contains-push}
use Rattle.hr_base.specs.declared.status.Status.{Status}
use Rattle.hr_base.specs.declared.status.Status.TheVariants.{Stopped as stopped, Error as error}
use Rattle.hr_base.specs.declared.status.Mark.TheVariants.{At}
use Rattle.hr_base.specs.Status.{word_of, IsFinal}
use Rattle.hr_board.specs.Moves.{Below}
use Rattle.hr_board.specs.Current.{NoneOpened}
use Rattle.hr_board.specs.Over.{EndsJob, IsOver, WasOver}
use Rattle.hr_board.specs.Past.{Past}
use Rattle.hr_board.specs.Plain.{IsLawful}
use Rattle.hr_board.specs.Stopping.{Stops}
use Rattle.hr_board.specs.View.{View, Notes, Word, Noted, Keeps, place_of}
use Rattle.hr_board.specs.declared.stopping.StopAnswer.{StopAnswer}
use Rattle.hr_board.specs.declared.stopping.StopAnswer.TheVariants.{Stopped, Final}

pub keeps_itself : (view : View) → Keeps view view
keeps_itself view = record { jobs = refl; allows = refl; more = []; notes = sym (append-nil view.notes) }

pub keeps_after : (a b c : View) → Keeps a b → Keeps b c → Keeps a c
keeps_after a b c h k = record {
  jobs = k.jobs ∙ h.jobs;
  allows = k.allows ∙ h.allows;
  more = h.more ++ k.more;
  notes = k.notes ∙ ap (λ (notes : Notes). notes ++ k.more) h.notes ∙ append_assoc a.notes h.more k.more;
}

zero_or_more : (m : ℕ) → (m ≡ 0) ⊎ (m ≢ 0)
zero_or_more zero = inl refl
zero_or_more (suc m) = inr (λ e. absurd (omega (arith, e)))

-- a later revision is open only after Error
abbrev OpensInTurn : List Word → ℕ → Type 0
OpensInTurn words job = (rev : ℕ) → rev < 3 → slice_index words (place_of job (rev + 1)) ≢ 0
    → slice_index words (place_of job rev) ≡ 5

-- no revision is open after one that isn't at Error
none_after : (words : List Word) (job first : ℕ) → OpensInTurn words job → slice_index words (place_of job first) ≢ 5
    → (more : ℕ) → first + more < 3 → slice_index words (place_of job (first + more + 1)) ≡ 0
none_after words job first turns here zero few = elim (zero_or_more (slice_index words (place_of job (first + zero + 1)))) [
  | inl none ↦ none
  | inr open_there ↦
      let here_again : slice_index words (place_of job (first + zero)) ≡ 5 = turns (first + zero) few open_there in
      absurd (here (ap (λ (rev : ℕ). slice_index words (place_of job rev)) (omega arith) ∙ here_again))
]
none_after words job first turns here (suc more) few =
    elim (zero_or_more (slice_index words (place_of job (first + suc more + 1)))) [
      | inl none ↦ none
      | inr open_there ↦
          let failed : slice_index words (place_of job (first + suc more)) ≡ 5 = turns (first + suc more) few open_there in
          let before : slice_index words (place_of job (first + more + 1)) ≡ 0 = none_after words job first turns here more (omega (arith, few)) in
          let same : slice_index words (place_of job (first + suc more)) ≡ slice_index words (place_of job (first + more + 1))
          = ap (λ (rev : ℕ). slice_index words (place_of job rev)) (omega arith) in
          absurd (omega (arith, failed, before, same))
    ]

-- the word of what ends a job is final
ends-final : (attempts : ℕ) (row : ℕ × Status) → EndsJob attempts row → 4 ≤ word_of (At row.1)
ends-final attempts row (inl e) = rw e (omega arith)
ends-final attempts row (inr (inl e)) = rw e (omega arith)
ends-final attempts row (inr (inr e)) = rw e.0 (omega arith)

-- what ends a job is Error only at its last attempt
ends-error : (attempts : ℕ) (row : ℕ × Status) → EndsJob attempts row → word_of (At row.1) ≡ 5 → row.0 + 1 ≡ attempts
ends-error attempts row (inl e) five = absurd (omega (arith, five, ap (λ (s : Status). word_of (At s)) e))
ends-error attempts row (inr (inl e)) five = absurd (omega (arith, five, ap (λ (s : Status). word_of (At s)) e))
ends-error attempts row (inr (inr e)) five = e.1

pub over : (words : List Word) (past : Past) (job attempts : ℕ) → attempts ≤ 4 → IsLawful words past
    → WasOver past.notes job attempts → IsOver words job attempts
over words past job attempts few lawful was =
    let final : 4 ≤ word_of (At was.row.1) = ends-final attempts was.row was.ends in
    let below : Below (word_of (At was.row.1)) (slice_index words (place_of job was.row.0)) = lawful.notes_below _ _ was.noted in
    let there : slice_index words (place_of job was.row.0) ≡ word_of (At was.row.1) = below.2 final in
    let last : NoneOpened words job (was.row.0 + 1) attempts = λ rev first within.
    (let more : ℕ = rev - (was.row.0 + 1) in
    let is : rev ≡ was.row.0 + more + 1 = omega arith in
    let here : slice_index words (place_of job was.row.0) ≢ 5 =
    λ five. absurd (omega (arith, ends-error attempts was.row was.ends (sym there ∙ five), first, within)) in
    ap (λ (r : ℕ). slice_index words (place_of job r)) is
    ∙ none_after words job was.row.0 (lawful.opened_after_error job) here more (omega (arith, is, within, few))) in
    record {
      row = was.row;
      current = inl (record { within = was.within; word = there; last = last });
      ends = was.ends;
    }

-- what ends a job that is stopped: the revision that was moved to Stopped, or found final
final_ends : (attempts rev : ℕ) (status : Status) → IsFinal status → rev < attempts → (status ≡ error → attempts ≤ rev + 1)
    → EndsJob attempts (rev, status)
final_ends attempts rev Status.Success final within last = inl refl
final_ends attempts rev Status.Stopped final within last = inr (inl refl)
final_ends attempts rev Status.Error final within last = inr (inr (refl, omega (arith, within, last refl)))
final_ends attempts rev Status.Pending final within last = absurd (omega (arith, final))
final_ends attempts rev Status.Scheduled final within last = absurd (omega (arith, final))
final_ends attempts rev Status.Running final within last = absurd (omega (arith, final))

pub stop_over : (before after : View) (job attempts : ℕ) (answer : StopAnswer) → Stops before job attempts answer after
    → WasOver after.notes job attempts
stop_over before after job attempts (Stopped rev) (more, passes, stops) = record {
  row = (rev, stopped);
  within = passes.within;
  noted = subst (λ (v : View). Noted v.notes (place_of job rev) 4) (sym stops.moved) (Contains-push _ _);
  ends = inr (inl refl);
}
stop_over before after job attempts (Final rev status) (more, passes, finds, last) = record {
  row = (rev, status);
  within = passes.within;
  noted = subst (λ (v : View). Noted v.notes (place_of job rev) (word_of (At status))) (sym finds.same)
      (Contains-append_right before.notes more _ finds.found.noted);
  ends = final_ends attempts rev status finds.final passes.within last;
}
