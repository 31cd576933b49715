-- What comes of an event, by what its call did.
use Rattle.std.proofs.Common.{◌≡◌, ◌⊎◌, inl, inr, refl, sym, subst, List, [], ◌∷◌}
use Rattle.std.specs.Prelude.{Result, Ok, Err, IfOk}
use Rattle.std.specs.Result.{IsErr}
use Rattle.hr_base.specs.declared.memory.Memory.{Memory}
use Rattle.hr_base.specs.declared.number.JobNo.{JobNo}
use Rattle.hr_base.specs.declared.number.PolicyNo.{PolicyNo}
use Rattle.hr_base.specs.declared.number.RegNo.{RegNo}
use Rattle.hr_event.specs.declared.event.Event.{Event}
use Rattle.hr_event.specs.declared.event.Event.TheVariants as event
use Rattle.hr_event.specs.declared.told.Told.{Told}
use Rattle.hr_event.specs.declared.told.Told.TheVariants as told
use Rattle.hr_run.specs.Does.{DoesOne, tags_told}
use Rattle.hr_run.specs.Finish.{Finishes}
use Rattle.hr_run.specs.Run.{Cut, Does, TakeCut}
use Rattle.hr_run.specs.State.{CoreState}
use Rattle.hr_core.specs.Comes.{Comes}
use Rattle.hr_core.specs.Lanes.{DidStep}
use Rattle.hr_core.specs.Planning.{TriggerCut}

-- what is done by one event is what it does
does_of : (s t : CoreState) (e : Event) (answers : List Told) → DoesOne s e answers t → Does s e answers t
does_of s t (event.Trigger policy) answers h = h
does_of s t event.Due answers h = h
does_of s t event.Take answers h = h
does_of s t (event.Step job) answers h = h
does_of s t (event.Settle job) answers h = h
does_of s t (event.Stop job) answers h = h
does_of s t (event.Deliver n) answers h = h
does_of s t (event.Forge hook) answers h = h
does_of s t (event.Wait n) answers h = h
does_of s t (event.Sweep n) answers h = h
does_of s t event.Finish answers h = absurd h
does_of s t (event.Tags reg) answers h = h
does_of s t (event.Row job) answers h = h
does_of s t (event.Exec exec) answers h = h
does_of s t (event.Word job rev) answers h = h
does_of s t (event.CauseOf job) answers h = h

-- it is done, with one answer, for which there may be no room
pub comes_one : (s t : CoreState) (e : Event) (answer : Told) (r : Result (List Told) Memory) → DoesOne s e (answer ∷ []) t
    → IfOk r (λ answers. answers ≡ answer ∷ []) → Comes s e r t
comes_one s t e answer (Ok answers) h is =
    does_of s t e answers (subst (λ (all : List Told). DoesOne s e all t) (sym is) h)
comes_one s t e answer (Err why) h is = Cut.behind s t e (answer ∷ []) h

pub comes_finished : (s t : CoreState) (r : Result (List Told) Memory) → Finishes s t
    → IfOk r (λ answers. answers ≡ told.Idle ∷ []) → Comes s event.Finish r t
comes_finished s t (Ok answers) h is = (h, is)
comes_finished s t (Err why) h is = Cut.finished s t h

-- nothing was done
pub comes_before : (s t : CoreState) (e : Event) → t ≡ s → Cut s e t
comes_before s t e same = subst (λ (x : CoreState). Cut s e x) (sym same) (Cut.before s e)

pub trigger_cut : (s t : CoreState) (policy : PolicyNo) → TriggerCut s t → Cut s (event.Trigger policy) t
trigger_cut s t policy (inl same) = comes_before s t (event.Trigger policy) same
trigger_cut s t policy (inr room) = Cut.reserved s t policy room

pub take_cut : (s t : CoreState) → (t ≡ s) ⊎ TakeCut s t → Cut s event.Take t
take_cut s t (inl same) = comes_before s t event.Take same
take_cut s t (inr out) = Cut.taken_out s t out

pub step_cut : (s t : CoreState) (job : JobNo) → (t ≡ s) ⊎ DidStep s job t → Cut s (event.Step job) t
step_cut s t job (inl same) = comes_before s t (event.Step job) same
step_cut s t job (inr did) = Cut.behind s t (event.Step job) (did.0 ∷ []) (did.0, refl, inl did.1)

-- the tags that a registry shows, as many answers
pub comes_tags : (s : CoreState) (reg : RegNo) (r : Result (List Told) Memory) → IfOk r (λ answers. answers ≡ tags_told s reg)
    → Comes s (event.Tags reg) r s
comes_tags s reg (Ok answers) is = (refl, is)
comes_tags s reg (Err why) is = Cut.before s (event.Tags reg)

-- of the event that came
pub comes_as : (s t : CoreState) (e f : Event) (r : Result (List Told) Memory) → e ≡ f → Comes s f r t → Comes s e r t
comes_as s t e f r is comes = subst (λ (x : Event). Comes s x r t) (sym is) comes

pub comes_cut : (s t : CoreState) (e f : Event) (r : Result (List Told) Memory) → e ≡ f → IsErr r → Cut s f t → Comes s e r t
comes_cut s t e f (Ok answers) is err cut = absurd (cc)
comes_cut s t e f (Err why) is err cut = subst (λ (x : Event). Cut s x t) (sym is) cut
