-- Which hooks a lane gives: one at the end of a revision.
use Rattle.std.proofs.Common.{◌≡◌, refl, sym, ap, ◌∙◌, ◌+◌, ◌≤◌, List, [], ◌∷◌, ◌++◌, length, inl, inr, reverse, arith}
use Rattle.std.proofs.lemmas.List.{length-reverse}
use Rattle.std.specs.Prelude.{Option, Some, None, Ok, slice_get}
use Rattle.hr_base.specs.declared.number.JobNo.{JobNo}
use Rattle.hr_base.specs.declared.status.Hook.{Hook}
use Rattle.hr_base.specs.declared.status.Status.{Status}
use Rattle.hr_event.specs.declared.cause.Cause.{Cause}
use Rattle.hr_board.specs.View.{View}
use Rattle.hr_line.specs.State.{State}
use Rattle.hr_line.specs.Step.{ComesToEnd, Ends, hook_of}
use Rattle.hr_line.specs.declared.answer.Stepped.{Stepped}
use Rattle.hr_line.specs.declared.answer.Stepped.TheVariants as stepped
use Rattle.hr_line.specs.declared.held.Held.{Held}
use Rattle.hr_lane.specs.Word.{Steps}
use Rattle.hr_promise.specs.Lane.{IsLaneSound}
use Rattle.hr_core.specs.Lanes.{Emits}

come_hooks : (h : Held) (s t : State) (why : Option Cause) → ComesToEnd h s t why → t.hooks ≡ s.hooks
come_hooks h s t None comes = comes.1.hooks
come_hooks h s t (Some why) (inl line) = line.hooks
come_hooks h s t (Some why) (inr rests) = rests.1.hooks

-- the one hook of the end of a revision
ended_hooks : (s t : State) (job : JobNo) (status : Status) → Ends s t job (Ok status)
    → (hook : Hook) × (t.hooks ≡ hook ∷ s.hooks)
ended_hooks s t job status ends = (
  hook_of ends.held.by status,
  ends.closes.2 ∙ ap (λ (hooks : List Hook). hook_of ends.held.by status ∷ hooks) (come_hooks ends.held s ends.mid ends.why ends.comes),
)

-- a step that ends no revision gives none
other_hooks : (s t : State) (job : JobNo) (v w : View) (came : Stepped) → ((status : Status) → came ≡ stepped.Ended status → ⊥)
    → Steps s t job v w came → t.hooks ≡ s.hooks
other_hooks s t job v w stepped.NotHere other does = ap (λ (x : State). x.hooks) does.0.1
other_hooks s t job v w stepped.Did other does = does.0.line.hooks
other_hooks s t job v w (stepped.Lost mark) other (inl does) = does.0.hooks
other_hooks s t job v w (stepped.Lost mark) other (inr does) =
    let ends = does.0 in ends.closes.1 ∙ come_hooks ends.held s ends.mid ends.why ends.comes
other_hooks s t job v w (stepped.Ended status) other does = absurd (other status refl)

none_behind : (hooks : List Hook) → hooks ≡ hooks ++ []
none_behind [] = refl
none_behind (h ∷ hooks) = ap (λ (hs : List Hook). h ∷ hs) (none_behind hooks)

-- no hook is emitted
pub emits_none : (s t : State) (job : JobNo) (v w : View) (came : Stepped) (before : List Hook) → IsLaneSound s → IsLaneSound t
    → ((status : Status) → came ≡ stepped.Ended status → ⊥) → Steps s t job v w came → Emits s t before before
emits_none s t job v w came before sound after other does = record {
  sound = sound;
  sound_after = after;
  more = [];
  gave = other_hooks s t job v w came other does;
  hooks = none_behind before;
}

given_steps : (came : Stepped) (status : Status) (s t : State) (job : JobNo) (v w : View) → came ≡ stepped.Ended status
    → Steps s t job v w came → Ends s t job (Ok status)
given_steps stepped.NotHere status s t job v w is does = cc
given_steps stepped.Did status s t job v w is does = cc
given_steps (stepped.Lost mark) status s t job v w is does = cc
given_steps (stepped.Ended other) status s t job v w is does =
    let same : other ≡ status = cc in rw (← same) does.0

first_is : (hooks more : List Hook) (hook newest : Hook) → hooks ≡ hook ∷ more → slice_get hooks 0 ≡ Some newest
    → hooks ≡ newest ∷ more
first_is [] more hook newest is first = cc
first_is (h ∷ hooks) more hook newest is first = cc

-- the newest hook is there
pub newest_there : (s t : State) (job : JobNo) (v w : View) (came : Stepped) (status : Status) (given : List Hook)
    → came ≡ stepped.Ended status → Steps s t job v w came → reverse given ≡ t.hooks → 1 ≤ length given
newest_there s t job v w came status given is does gave =
    let one = ended_hooks s t job status (given_steps came status s t job v w is does) in
    let two : length (reverse given) ≡ length s.hooks + 1 = ap (λ (hs : List Hook). length hs) (gave ∙ one.1) ∙ (let e : length (one.0 ∷ s.hooks) ≡ length s.hooks + 1 = omega arith in e) in
    let three = length-reverse given in
    omega (arith, two, three)

-- the newest hook is emitted
pub emits_newest : (s t : State) (job : JobNo) (v w : View) (came : Stepped) (status : Status) (given before after : List Hook) (newest : Hook)
    → IsLaneSound s → IsLaneSound t → came ≡ stepped.Ended status → Steps s t job v w came → reverse given ≡ t.hooks
    → slice_get (reverse given) 0 ≡ Some newest → after ≡ before ++ newest ∷ [] → Emits s t before after
emits_newest s t job v w came status given before after newest sound sound_after is does gave first emitted =
    let one = ended_hooks s t job status (given_steps came status s t job v w is does) in
    let there : slice_get t.hooks 0 ≡ Some newest = ap (λ (hs : List Hook). slice_get hs 0) (sym gave) ∙ first in
    record {
      sound = sound;
      sound_after = sound_after;
      more = newest ∷ [];
      gave = first_is t.hooks s.hooks one.0 newest one.1 there;
      hooks = emitted;
    }
