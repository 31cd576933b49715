-- A step that goes on leaves its revision fewer steps, and the journal tells it.
use Rattle.std.proofs.Common.{◌≡◌, refl, sym, ap, subst, ◌∙◌, ℕ, ◌+◌, ◌*◌, ◌-◌, ◌<◌, length, arith}
use Rattle.std.proofs.lemmas.Option.{slice_get_within}
use Rattle.std.proofs.lemmas.Bool.{eq-eqb}
use Rattle.std.specs.Prelude.{Option, Some, None, IfSome, Ok, Bool, true, false, if◌then◌else◌, nat_eq}
use Rattle.hr_base.specs.declared.number.JobNo.{JobNo}
use Rattle.hr_graph.specs.declared.opened.TheConstants.{PAIR_LIMIT}
use Rattle.hr_line.specs.State.{State, held_at}
use Rattle.hr_line.specs.Step.{GoesOn, goes_on}
use Rattle.hr_line.specs.declared.held.Held.{Held}
use Rattle.hr_line.specs.declared.held.Work.{Work}
use Rattle.hr_promise.specs.Answer.{IsTold}
use Rattle.hr_promise.specs.Measure.{HasSoundWalk, job_left, held_left, steps_left, work_left}
use Rattle.hr_promise.proofs.GoingLemmas.{EndGoes, LeavesFewer, line_goes}

-- ---- numbers

more_of : (n k : ℕ) → (n + 1) * k ≡ n * k + k
more_of n k = omega arith

tag_done : (n next k m w : ℕ) → next < n → m < k → (n - (next + 1)) * k + m < (n - next) * k + w
tag_done n next k m w within less =
    let e : n - next ≡ (n - (next + 1)) + 1 = omega arith in
    let f : (n - next) * k ≡ (n - (next + 1)) * k + k = ap (λ (x : ℕ). x * k) e ∙ more_of (n - (next + 1)) k in omega (arith, f, less)

same_if : {X : Type 0} (b : Bool) (x y : X) → b ≡ true → (if b then x else y) ≡ x
same_if true x y is = refl
same_if false x y is = cc

-- ---- steps

goes_of : (s t : State) (job : JobNo) (goes : GoesOn s t job) → EndGoes goes.held.work t.log (Ok goes.work)
goes_of s t job goes =
    line_goes goes.held.by goes.line.tag goes.held.work goes.line.f goes.line.g goes.line.p goes.line.q s.log t.log (Ok goes.work)
    goes.line.line

fewer : (h : Held) (now : Option Work) → h.next < length h.by.spec.tags → LeavesFewer h.work now
    → steps_left (goes_on h now) < steps_left h
fewer h None within less =
    tag_done (length h.by.spec.tags) h.next (2 * PAIR_LIMIT + 3) (2 * PAIR_LIMIT + 2) (work_left h.work) within (omega arith)
fewer h (Some w) within less = omega (arith, less)

-- the revision has fewer steps left
pub goes_on_falls : (s t : State) (job : JobNo) (goes : GoesOn s t job) → HasSoundWalk goes.held
    → steps_left (goes_on goes.held goes.work) < steps_left goes.held
goes_on_falls s t job goes sound =
    fewer goes.held goes.work (slice_get_within goes.held.by.spec.tags goes.held.next goes.line.tag goes.line.next)
    ((goes_of s t job goes).0 sound)

sound_of : (s t : State) (job : JobNo) (goes : GoesOn s t job)
    → IfSome (held_at s.held job.0) HasSoundWalk → HasSoundWalk goes.held
sound_of s t job goes sound = subst (λ (x : Option Held). IfSome x HasSoundWalk) goes.here sound

-- so has the job that was stepped
pub goes_falls : (s t : State) (job : JobNo) → GoesOn s t job
    → IfSome (held_at s.held job.0) HasSoundWalk → job_left t job.0 < job_left s job.0
goes_falls s t job goes sound =
    let before : job_left s job.0 ≡ steps_left goes.held = ap held_left goes.here in
    let now : held_at t.held job.0 ≡ Some (goes_on goes.held goes.work) =
    goes.now job.0 ∙ same_if (nat_eq job.0 job.0) (Some (goes_on goes.held goes.work)) (held_at s.held job.0) (eq-eqb job.0 job.0 refl) in
    let after : job_left t job.0 ≡ steps_left (goes_on goes.held goes.work) = ap held_left now in
    subst (λ (x : ℕ). x < job_left s job.0) (sym after)
    (subst (λ (y : ℕ). steps_left (goes_on goes.held goes.work) < y) (sym before)
    (goes_on_falls s t job goes (sound_of s t job goes sound)))

-- the journal tells the step
pub goes_told : (s t : State) (job : JobNo) → GoesOn s t job → IsTold t.log
goes_told s t job goes = (goes_of s t job goes).1
