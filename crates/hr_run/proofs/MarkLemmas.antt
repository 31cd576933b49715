-- Lemmas on words, notes, jobs and hooks.
use Rattle.std.proofs.Common.{◌≡◌, ◌⊎◌, inl, inr, refl, sym, ap, subst, ◌∙◌, zero, suc, ℕ, ◌+◌, ◌<◌, ◌≤◌, Bool, true, false, List, [], ◌∷◌, ◌++◌, length, slice_get, arith}
use Rattle.std.proofs.lemmas.List.Elements.{Contains-append_left, Contains-push}
use Rattle.std.proofs.lemmas.List.Sums.{sum_by-append}
use Rattle.std.specs.Prelude.{Some, unwrap_or}
use Rattle.std.specs.List.{AllByRecursion, sum_by}
use Rattle.hr_base.specs.declared.status.Status.{Status}
use Rattle.hr_base.specs.declared.status.Status.TheVariants as status
use Rattle.hr_base.specs.declared.status.Mark.{Mark}
use Rattle.hr_base.specs.declared.status.Mark.TheVariants.{At, Unopened}
use Rattle.hr_base.specs.declared.status.Hook.{Hook}
use Rattle.hr_base.specs.Status.{Covers, code_of, word_of}
use Rattle.hr_event.specs.declared.task.TaskSpec.{TaskSpec}
use Rattle.hr_board.specs.Moves.{Below}
use Rattle.hr_board.specs.Plain.{Plain, view_of}
use Rattle.hr_board.specs.View.{Keeps, Noted, Notes, Place, View, Word}
use Rattle.hr_line.specs.declared.held.Admitted.{Admitted}
use Rattle.hr_run.specs.Holds.{CoveredBy, HasAttempts, IsCovered, IsEmitted, IsRevision, IsTask}
use Rattle.hr_run.specs.State.{hook_at, hook_place, spec_of, status_word, was_delivered, with_mark}
use Rattle.hr_run.proofs.ListLemmas.{all_at, get_more, get_within}

-- ---- what covers a status

pub covers_itself : (st : Status) → CoveredBy st (status_word st)
covers_itself status.Pending = omega arith
covers_itself status.Scheduled = omega arith
covers_itself status.Running = omega arith
covers_itself status.Stopped = refl
covers_itself status.Error = refl
covers_itself status.Success = refl

-- what a word covers, a word that is reached from it covers
pub covers_later : (st : Status) (m n : ℕ) → CoveredBy st m → Below m n → CoveredBy st n
covers_later status.Pending m n c b = omega (arith, c, b.0)
covers_later status.Scheduled m n c b = omega (arith, c, b.0)
covers_later status.Running m n c b = omega (arith, c, b.0)
covers_later status.Stopped m n c b = b.2 (omega (arith, c)) ∙ c
covers_later status.Error m n c b = b.2 (omega (arith, c)) ∙ c
covers_later status.Success m n c b = b.2 (omega (arith, c)) ∙ c

pub final_covered : (st : Status) (m : ℕ) → 4 ≤ status_word st → CoveredBy st m → m ≡ status_word st
final_covered status.Pending m f c = absurd (omega (arith, f))
final_covered status.Scheduled m f c = absurd (omega (arith, f))
final_covered status.Running m f c = absurd (omega (arith, f))
final_covered status.Stopped m f c = c
final_covered status.Error m f c = c
final_covered status.Success m f c = c

code_word : (st : Status) → (code_of st ≤ 3) × (code_of st < status_word st)
code_word status.Pending = (omega arith, omega arith)
code_word status.Scheduled = (omega arith, omega arith)
code_word status.Running = (omega arith, omega arith)
code_word status.Stopped = (omega arith, omega arith)
code_word status.Error = (omega arith, omega arith)
code_word status.Success = (omega arith, omega arith)

covers_higher : (st : Status) (code word : ℕ) → code_of st < code → code ≤ 3 → code < word → CoveredBy st word
covers_higher status.Pending code word more few l = omega (arith, more, l)
covers_higher status.Scheduled code word more few l = omega (arith, more, l)
covers_higher status.Running code word more few l = omega (arith, more, l)
covers_higher status.Stopped code word more few l = absurd (omega (arith, more, few))
covers_higher status.Error code word more few l = absurd (omega (arith, more, few))
covers_higher status.Success code word more few l = absurd (omega (arith, more, few))

-- a mark that covers a status does so by its word
pub covers_mark : (mark : Mark) (st : Status) → Covers mark st → CoveredBy st (word_of mark)
covers_mark Unopened st c = absurd (c)
covers_mark (At known) st (inl same) = subst (λ (x : Status). CoveredBy st (status_word x)) (sym same) (covers_itself st)
covers_mark (At known) st (inr more) =
    let k = code_word known in covers_higher st (code_of known) (status_word known) more k.0 k.1

-- and the other way
not_code : (st : Status) (m : ℕ) → m < 3 → m ≤ code_of st → CoveredBy st m → st ≡ status.Pending ⊎ (st ≡ status.Scheduled)
not_code status.Pending m l k c = inl refl
not_code status.Scheduled m l k c = inr refl
not_code status.Running m l k c = absurd (omega (arith, l, c))
not_code status.Stopped m l k c = absurd (omega (arith, l, c))
not_code status.Error m l k c = absurd (omega (arith, l, c))
not_code status.Success m l k c = absurd (omega (arith, l, c))

pub mark_covers : (mark : Mark) (st : Status) → CoveredBy st (word_of mark) → Covers mark st
mark_covers Unopened status.Pending c = absurd (omega (arith, c))
mark_covers Unopened status.Scheduled c = absurd (omega (arith, c))
mark_covers Unopened status.Running c = absurd (omega (arith, c))
mark_covers Unopened status.Stopped c = absurd (omega (arith, c))
mark_covers Unopened status.Error c = absurd (omega (arith, c))
mark_covers Unopened status.Success c = absurd (omega (arith, c))
mark_covers (At status.Pending) status.Pending c = inl refl
mark_covers (At status.Scheduled) status.Pending c = inr (omega arith)
mark_covers (At status.Scheduled) status.Scheduled c = inl refl
mark_covers (At status.Running) status.Pending c = inr (omega arith)
mark_covers (At status.Running) status.Scheduled c = inr (omega arith)
mark_covers (At status.Running) status.Running c = inl refl
mark_covers (At status.Stopped) status.Pending c = inr (omega arith)
mark_covers (At status.Stopped) status.Scheduled c = inr (omega arith)
mark_covers (At status.Stopped) status.Running c = inr (omega arith)
mark_covers (At status.Stopped) status.Stopped c = inl refl
mark_covers (At status.Error) status.Pending c = inr (omega arith)
mark_covers (At status.Error) status.Scheduled c = inr (omega arith)
mark_covers (At status.Error) status.Running c = inr (omega arith)
mark_covers (At status.Error) status.Error c = inl refl
mark_covers (At status.Success) status.Pending c = inr (omega arith)
mark_covers (At status.Success) status.Scheduled c = inr (omega arith)
mark_covers (At status.Success) status.Running c = inr (omega arith)
mark_covers (At status.Success) status.Success c = inl refl
mark_covers (At known) st c = absurd (omega (arith, c))

-- ---- jobs

pub spec_more : (made more : List TaskSpec) (job : ℕ) (spec : TaskSpec) → spec_of made job ≡ Some spec
    → spec_of (made ++ more) job ≡ Some spec
spec_more made more zero spec e = absurd (cc)
spec_more made more (suc at) spec e = get_more made more at spec e

pub spec_within : (made : List TaskSpec) (job : ℕ) (spec : TaskSpec) → spec_of made job ≡ Some spec
    → (1 ≤ job) × (job ≤ length made)
spec_within made zero spec e = absurd (cc)
spec_within made (suc at) spec e = let g = get_within made at spec e in (omega arith, omega (arith, g))

pub attempts_each : (made : List TaskSpec) (job : ℕ) (spec : TaskSpec) → AllByRecursion HasAttempts made → spec_of made job ≡ Some spec
    → HasAttempts spec
attempts_each made zero spec few e = absurd (cc)
attempts_each made (suc at) spec few e = all_at HasAttempts made at spec few e

pub few_each : (made : List TaskSpec) (job : ℕ) (spec : TaskSpec) → AllByRecursion HasAttempts made
    → spec_of made job ≡ Some spec → spec.attempts ≤ 4
few_each made job spec few e = (attempts_each made job spec few e).1

pub revision_more : (made more : List TaskSpec) (job rev : ℕ) → IsRevision made job rev → IsRevision (made ++ more) job rev
revision_more made more job rev r =
    record { spec = r.spec; copies = spec_more made more job r.spec r.copies; within = r.within; few = r.few }

pub task_more : (made more : List TaskSpec) (a : Admitted) → IsTask made a → IsTask (made ++ more) a
task_more made more a r = record { copies = spec_more made more a.job.0 a.spec r.copies; within = r.within; few = r.few }

-- ---- hooks by number

pub hook_more : (hooks more : List Hook) (k : ℕ) (h : Hook) → hook_at hooks k ≡ Some h → hook_at (hooks ++ more) k ≡ Some h
hook_more hooks more zero h e = absurd (cc)
hook_more hooks more (suc at) h e = get_more hooks more at h e

pub hook_all : (P : Hook → Type 0) (hooks : List Hook) (k : ℕ) (h : Hook) → AllByRecursion P hooks → hook_at hooks k ≡ Some h → P h
hook_all P hooks zero h a e = absurd (cc)
hook_all P hooks (suc at) h a e = all_at P hooks at h a e

no_mark : (marks : List Bool) (n : ℕ) → marks ≡ [] → unwrap_or (slice_get marks n) false ≡ true → ⊥
no_mark [] zero e q = cc
no_mark [] (suc n) e q = cc
no_mark (mark ∷ marks) n e q = cc

-- the mark at a place was set, and the others are as before
pub marks_other : (marks : List Bool) (place at : ℕ) → unwrap_or (slice_get (with_mark marks place) at) false ≡ true
    → (at ≡ place) ⊎ (unwrap_or (slice_get marks at) false ≡ true)
marks_other [] zero zero e = inl refl
marks_other [] zero (suc zero) e = absurd (cc)
marks_other [] zero (suc (suc at)) e = absurd (cc)
marks_other [] (suc place) zero e = absurd (cc)
marks_other [] (suc place) (suc at) e = elim (marks_other [] place at e) [
  | inl same ↦ inl (ap suc same)
  | inr before ↦ absurd (no_mark [] at refl before)
]
marks_other (mark ∷ marks) zero zero e = inl refl
marks_other (mark ∷ marks) zero (suc at) e = inr e
marks_other (mark ∷ marks) (suc place) zero e = inr e
marks_other (mark ∷ marks) (suc place) (suc at) e = elim (marks_other marks place at e) [
  | inl same ↦ inl (ap suc same)
  | inr before ↦ inr before
]

pub marked : (marks : List Bool) (place k : ℕ) → was_delivered (with_mark marks place) k ≡ true
    → (k ≡ suc place) ⊎ (was_delivered marks k ≡ true)
marked marks place zero e = absurd (cc)
marked marks place (suc at) e = elim (marks_other marks place at e) [
  | inl same ↦ inl (ap suc same)
  | inr before ↦ inr before
]

-- ---- notes

pub noted_more : (v w : View) → Keeps v w → (place : Place) (word : Word) → Noted v.notes place word → Noted w.notes place word
noted_more v w kept place word n =
    subst (λ (ns : Notes). Noted ns place word) (sym kept.notes) (Contains-append_left v.notes kept.more (place, word) n)

pub last_noted : (notes xs : Notes) (place : Place) (word : Word) → notes ≡ xs ++ (place, word) ∷ [] → Noted notes place word
last_noted notes xs place word e = subst (λ (ns : Notes). Noted ns place word) (sym e) (Contains-push xs (place, word))

module _ (b c : Plain) (kept : Keeps (view_of b) (view_of c)) where
  pub emitted_still : (made : List TaskSpec) (hook : Hook) → IsEmitted made b.past.notes hook → IsEmitted made c.past.notes hook
  emitted_still made hook e =
      record { revision = e.revision; noted = noted_more (view_of b) (view_of c) kept (hook_place hook) (status_word hook.status) e.noted }

  pub emitted_more : (made more : List TaskSpec) (hook : Hook) → IsEmitted made b.past.notes hook
      → IsEmitted (made ++ more) c.past.notes hook
  emitted_more made more hook e = record {
    revision = revision_more made more hook.job.0 hook.rev e.revision;
    noted = noted_more (view_of b) (view_of c) kept (hook_place hook) (status_word hook.status) e.noted;
  }

  pub covered_still : (job : ℕ) (hook : Hook) → IsCovered b.past.notes job hook → IsCovered c.past.notes job hook
  covered_still job hook e = record {
    of_job = e.of_job;
    small = e.small;
    word = e.word;
    noted = noted_more (view_of b) (view_of c) kept (hook_place hook) e.word e.noted;
    covers = e.covers;
  }

pub sum_finals : (b c : Plain) (ended : Notes) → c.past.finals ≡ b.past.finals ++ ended → (f : Place × Word → ℕ)
    → sum_by f c.past.finals ≡ sum_by f b.past.finals + sum_by f ended
sum_finals b c ended e f = ap (sum_by f) e ∙ sum_by-append f b.past.finals ended
