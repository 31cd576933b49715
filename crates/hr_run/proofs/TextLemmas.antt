-- Each answer to an event has a text.
use Rattle.std.proofs.Common.{◌≡◌, inl, inr, sym, subst, ◌∙◌, zero, suc, ℕ, List, [], ◌∷◌}
use Rattle.std.specs.Prelude.{Option, Some, None, map, option_map, unwrap_or}
use Rattle.std.specs.List.{AllByRecursion}
use Rattle.hr_base.specs.declared.number.ExecNo.{ExecNo}
use Rattle.hr_base.specs.declared.number.JobNo.{JobNo}
use Rattle.hr_base.specs.declared.number.PolicyNo.{PolicyNo}
use Rattle.hr_event.specs.declared.cause.Cause.{Cause}
use Rattle.hr_event.specs.declared.entry.What.{What}
use Rattle.hr_event.specs.declared.entry.What.TheVariants as what
use Rattle.hr_event.specs.declared.event.Event.{Event}
use Rattle.hr_event.specs.declared.event.Event.TheVariants as event
use Rattle.hr_event.specs.declared.task.Turn.{Turn}
use Rattle.hr_event.specs.declared.told.Told.{Told}
use Rattle.hr_event.specs.declared.told.Told.TheVariants as told
use Rattle.hr_print.specs.Step.{TellsStep}
use Rattle.hr_print.specs.Text.{HasText}
use Rattle.hr_adapter.specs.Calls.{shown_of}
use Rattle.hr_adapter.specs.Reg.{Reg}
use Rattle.hr_adapter.specs.declared.listed.TagNow.{TagNow}
use Rattle.hr_board.specs.Plain.{view_of}
use Rattle.hr_board.specs.View as board
use Rattle.hr_line.specs.State.{State, link_at}
use Rattle.hr_line.specs.Step.{GoesOn}
use Rattle.hr_line.specs.declared.answer.Admit.{Admit}
use Rattle.hr_line.specs.declared.answer.Admit.TheVariants as admit
use Rattle.hr_line.specs.declared.answer.Stepped.{Stepped}
use Rattle.hr_line.specs.declared.answer.Stepped.TheVariants as stepped
use Rattle.hr_lane.specs.Word.{Steps}
use Rattle.hr_queue.specs.declared.answer.Settled.{Settled}
use Rattle.hr_queue.specs.declared.answer.Settled.TheVariants as settled
use Rattle.hr_queue.specs.declared.answer.Taken.{Taken}
use Rattle.hr_queue.specs.declared.answer.Taken.TheVariants as taken
use Rattle.hr_promise.specs.Answer.{IsTold, IsToldStep, cause_told, tag_told}
use Rattle.hr_promise.specs.Lane.{StepTells}
use Rattle.hr_store.specs.Execution.{ExecState}
use Rattle.hr_store.specs.Row.{RowState}
use Rattle.hr_store.specs.Store.{exec_numbered, row_of_job}
use Rattle.hr_run.specs.Does.{DeliversNumber, cause_among, exec_told, row_told}
use Rattle.hr_run.specs.Run.{Does}
use Rattle.hr_run.specs.State.{CoreState}
use Rattle.hr_run.specs.Triggering.{Triggers}
use Rattle.hr_run.specs.Triggering.Triggers.{creates, fails, is_full, no_policy}
use Rattle.hr_run.specs.Turning.{AdmitTells, RestTells, TakesTurn, settled_told}

-- an answer that is one with a text has one
text_of : (answer said : Told) → answer ≡ said → HasText said → HasText answer
text_of answer said is has = subst HasText (sym is) has

tells_step : (said : What) → IsToldStep said → TellsStep said
tells_step what.Began tells = absurd tells
tells_step (what.PutBlob digest sure) tells = absurd tells
tells_step (what.Ended status cause) tells = absurd tells
tells_step what.Dropped tells = absurd tells
tells_step (what.Show tag digest old how) tells = tells
tells_step _ tells = tt

-- ---- each event

trigger_text : (s t : CoreState) (policy : PolicyNo) (answer : Told) → Triggers s policy answer t → HasText answer
trigger_text s t policy answer (no_policy other tells is) = text_of answer _ tells tt
trigger_text s t policy answer (fails first h) = text_of answer _ h.tells tt
trigger_text s t policy answer (creates specs first h) = text_of answer _ h.tells tt
trigger_text s t policy answer (is_full first h) = text_of answer _ h.tells tt

admit_text : (turn : Turn) (came : Admit) (answer : Told) → AdmitTells turn came answer → HasText answer
admit_text turn admit.Began answer tells = text_of answer _ tells tt
admit_text turn (admit.Lost mark) answer tells = text_of answer _ tells tt
admit_text turn admit.Memory answer tells = absurd tells

take_text : (s t : CoreState) (answer : Told) → TakesTurn s answer t → HasText answer
take_text s t answer h = elim h.admits [
  | inl a ↦ admit_text h.turn a.came answer a.tells
  | inr g ↦ text_of answer _ g.tells tt
]

rest_text : (came : Taken) (answer : Told) → RestTells came answer → HasText answer
rest_text (taken.Turn turn) answer tells = absurd tells
rest_text (taken.Later due) answer tells = text_of answer _ tells tt
rest_text (taken.Busy out) answer tells = text_of answer _ tells tt
rest_text taken.Idle answer tells = text_of answer _ tells tt

-- the law of lanes that is used: what a step did is told by the journal
abbrev pub StepsAreTold : Type 0
StepsAreTold = (s t : State) (job : JobNo) → GoesOn s t job → IsTold t.log

step_text : StepsAreTold → (lane worked : State) (job : JobNo) (v w : board.View) (answer : Told) (came : Stepped)
    → Steps lane worked job v w came → StepTells job came worked.log answer → HasText answer
step_text law lane worked job v w answer stepped.NotHere steps tells = text_of answer _ tells tt
step_text law lane worked job v w answer stepped.Did steps (said, last, is) =
    let told_so = law lane worked job steps.0 in
    let both : Some told_so.what ≡ Some said = sym told_so.last ∙ last in
    let same : told_so.what ≡ said = cc in
    text_of answer (told.Did job said) is (tells_step said (subst IsToldStep same told_so.tells))
step_text law lane worked job v w answer (stepped.Lost mark) steps tells = text_of answer _ tells tt
step_text law lane worked job v w answer (stepped.Ended status) steps tells = text_of answer _ tells tt

settled_text : (job : JobNo) (came : Settled) → HasText (settled_told job came)
settled_text job settled.NotOut = tt
settled_text job settled.Back = tt
settled_text job (settled.Done status) = tt
settled_text job (settled.Again due) = tt

number_text : (s t : CoreState) (n : ℕ) (answer : Told) → DeliversNumber s n answer t → HasText answer
number_text s t zero answer h = text_of answer _ h.tells tt
number_text s t (suc place) answer (inl h) = text_of answer _ h.tells tt
number_text s t (suc place) answer (inr h) = text_of answer _ h.tells tt

row_text : (job : JobNo) (found : Option RowState) → HasText (row_told job found)
row_text job None = tt
row_text job (Some row) = tt

exec_text : (exec : ExecNo) (found : Option ExecState) → HasText (exec_told exec found)
exec_text exec None = tt
exec_text exec (Some found) = tt

cause_text : (job : JobNo) (found : Option (ℕ × Cause)) → HasText (cause_told job found)
cause_text job None = tt
cause_text job (Some found) = tt

tags_text : (tags : List TagNow) → AllByRecursion HasText (map tag_told tags)
tags_text [] = tt
tags_text (now ∷ tags) = (tt, tags_text tags)

shown_text : (found : Option Reg) → AllByRecursion HasText (unwrap_or (option_map (λ r. map tag_told (shown_of r)) found) [])
shown_text None = tt
shown_text (Some r) = tags_text (shown_of r)

one_text : (answer : Told) (answers : List Told) → answers ≡ answer ∷ [] → HasText answer → AllByRecursion HasText answers
one_text answer answers is has = subst (λ (xs : List Told). AllByRecursion HasText xs) (sym is) (has, tt)

pub does_text : StepsAreTold → (s t : CoreState) (e : Event) (answers : List Told) → Does s e answers t → AllByRecursion HasText answers
does_text law s t (event.Trigger policy) answers (answer, is, h) = one_text answer answers is (trigger_text s t policy answer h)
does_text law s t event.Due answers h = absurd h
does_text law s t event.Take answers (answer, is, inl h) = one_text answer answers is (take_text s t answer h)
does_text law s t event.Take answers (answer, is, inr h) = one_text answer answers is (rest_text h.came answer h.tells)
does_text law s t (event.Step job) answers (answer, is, inl h) =
    one_text answer answers is (step_text law h.lane h.worked job (view_of s.board) (view_of t.board) answer h.came h.steps h.tells)
does_text law s t (event.Step job) answers (answer, is, inr h) = one_text answer answers is (text_of answer _ h.tells tt)
does_text law s t (event.Settle job) answers (answer, is, inl h) =
    one_text answer answers is (text_of answer _ h.tells (settled_text job h.came))
does_text law s t (event.Settle job) answers (answer, is, inr (inl h)) = one_text answer answers is (text_of answer _ h.tells tt)
does_text law s t (event.Settle job) answers (answer, is, inr (inr h)) = one_text answer answers is (text_of answer _ h.tells tt)
does_text law s t (event.Stop job) answers (answer, is, inl h) = one_text answer answers is (text_of answer _ h.tells tt)
does_text law s t (event.Stop job) answers (answer, is, inr (inl h)) = one_text answer answers is (text_of answer _ h.tells tt)
does_text law s t (event.Stop job) answers (answer, is, inr (inr h)) = one_text answer answers is (text_of answer _ h.tells tt)
does_text law s t (event.Deliver n) answers (answer, is, h) = one_text answer answers is (number_text s t n answer h)
does_text law s t (event.Forge hook) answers (answer, is, h) = one_text answer answers is (text_of answer _ h.tells tt)
does_text law s t (event.Wait n) answers (answer, is, h) = one_text answer answers is (text_of answer _ h.tells tt)
does_text law s t (event.Sweep n) answers (answer, is, h) = one_text answer answers is (text_of answer _ h.tells tt)
does_text law s t event.Finish answers h = one_text told.Idle answers h.1 tt
does_text law s t (event.Tags reg) answers h =
    subst (λ (xs : List Told). AllByRecursion HasText xs) (sym h.1) (shown_text (link_at _ reg))
does_text law s t (event.Row job) answers h = one_text _ answers h.1 (row_text job (row_of_job job.0 s.store.kept))
does_text law s t (event.Exec exec) answers h = one_text _ answers h.1 (exec_text exec (exec_numbered exec.0 s.store.kept))
does_text law s t (event.Word job rev) answers (answer, is, inl h) = one_text answer answers is (text_of answer _ h.tells tt)
does_text law s t (event.Word job rev) answers (answer, is, inr h) = one_text answer answers is (text_of answer _ h.tells tt)
does_text law s t (event.CauseOf job) answers h = one_text _ answers h.1 (cause_text job (cause_among s.lanes job.0))
