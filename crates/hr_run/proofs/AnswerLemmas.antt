-- What answers tell of a revision is its word.
use Rattle.std.proofs.Common.{◌≡◌, inl, inr, refl, sym, ap, subst, ◌∙◌, zero, suc, ℕ, ◌≤◌, List, [], ◌∷◌, ◌++◌, map, arith}
use Rattle.std.proofs.lemmas.List.Elements.{Contains-append_right}
use Rattle.std.specs.Prelude.{Option, Some, None, unwrap_or, option_map}
use Rattle.std.specs.List.{AllByRecursion}
use Rattle.hr_base.specs.Status.{IsFinal}
use Rattle.hr_base.specs.declared.number.ExecNo.{ExecNo}
use Rattle.hr_base.specs.declared.number.JobNo.{JobNo}
use Rattle.hr_base.specs.declared.number.PolicyNo.{PolicyNo}
use Rattle.hr_base.specs.declared.status.Status.{Status}
use Rattle.hr_base.specs.declared.status.Status.TheVariants as status
use Rattle.hr_event.specs.declared.cause.Cause.{Cause}
use Rattle.hr_event.specs.declared.event.Event.{Event}
use Rattle.hr_event.specs.declared.event.Event.TheVariants as event
use Rattle.hr_event.specs.declared.task.Turn.{Turn}
use Rattle.hr_event.specs.declared.told.Told.{Told}
use Rattle.hr_event.specs.declared.told.Told.TheVariants as told
use Rattle.hr_adapter.specs.Calls.{shown_of}
use Rattle.hr_adapter.specs.Reg.{Reg}
use Rattle.hr_adapter.specs.declared.listed.TagNow.{TagNow}
use Rattle.hr_board.specs.Plain.{Plain}
use Rattle.hr_board.specs.View as board
use Rattle.hr_board.specs.View.{Noted, Notes, Place, Word, place_of}
use Rattle.hr_line.specs.State.{link_at}
use Rattle.hr_line.specs.declared.answer.Admit.{Admit}
use Rattle.hr_line.specs.declared.answer.Admit.TheVariants as admit
use Rattle.hr_line.specs.declared.answer.Stepped.{Stepped}
use Rattle.hr_line.specs.declared.answer.Stepped.TheVariants as stepped
use Rattle.hr_event.specs.declared.entry.Entry.{Entry}
use Rattle.hr_queue.specs.declared.answer.Settled.{Settled}
use Rattle.hr_queue.specs.declared.answer.Settled.TheVariants as settled
use Rattle.hr_queue.specs.declared.answer.Taken.{Taken}
use Rattle.hr_queue.specs.declared.answer.Taken.TheVariants as taken
use Rattle.hr_promise.specs.Answer.{cause_told, tag_told}
use Rattle.hr_promise.specs.Lane.{StepTells}
use Rattle.hr_store.specs.Execution.{ExecState}
use Rattle.hr_store.specs.Row.{RowState}
use Rattle.hr_store.specs.Store.{row_of_job}
use Rattle.hr_run.specs.Claims.{RowsTell, TellsWord, word_at}
use Rattle.hr_run.specs.Does.{DeliversNumber, exec_told, links_of, row_told}
use Rattle.hr_run.specs.Run.{Does}
use Rattle.hr_run.specs.Sound.{IsSound}
use Rattle.hr_run.specs.State.{CoreState, status_word}
use Rattle.hr_run.specs.Stopping.{FindsFinal, LooksAt, StopsJob}
use Rattle.hr_run.specs.Triggering.{Triggers}
use Rattle.hr_run.specs.Triggering.Triggers.{creates, fails, is_full, no_policy}
use Rattle.hr_run.specs.Turning.{AdmitTells, RestTells, TakesTurn, settled_told}
use Rattle.hr_run.proofs.MarkLemmas.{last_noted}

-- this is told, which tells no word, or its word
told_is : (b : Plain) (answer said : Told) → answer ≡ said → TellsWord b said → TellsWord b answer
told_is b answer said is tells = subst (λ (x : Told). TellsWord b x) (sym is) tells

final_word : (st : Status) → IsFinal st → 4 ≤ status_word st
final_word status.Pending f = absurd (omega (arith, f))
final_word status.Scheduled f = absurd (omega (arith, f))
final_word status.Running f = absurd (omega (arith, f))
final_word status.Stopped f = omega arith
final_word status.Error f = omega arith
final_word status.Success f = omega arith

noted_final : (t : CoreState) → IsSound t → (place word : ℕ) → 4 ≤ word → Noted t.board.past.notes place word
    → word_at t.board place ≡ word
noted_final t sound place word final noted = (sound.lawful.notes_below place word noted).2 final

tells_stop : (s t : CoreState) (job : JobNo) (answer : Told) → IsSound t → StopsJob s job answer t → TellsWord t.board answer
tells_stop s t job answer sound h =
    told_is t.board answer (told.Stopped job h.rev) h.tells
    (noted_final t sound (place_of job.0 h.rev) 4 (omega arith)
    (last_noted t.board.past.notes (s.board.past.notes ++ h.stops.0) (place_of job.0 h.rev) 4
    (ap (λ (v : board.View). v.notes) h.stops.2.moved)))

tells_final : (s t : CoreState) (job : JobNo) (answer : Told) → IsSound t → FindsFinal s job answer t → TellsWord t.board answer
tells_final s t job answer sound h =
    let f = h.stops.2 in
    let place = place_of job.0 h.rev in
    let notes : t.board.past.notes ≡ s.board.past.notes ++ h.stops.0 = ap (λ (v : board.View). v.notes) f.same in
    told_is t.board answer (told.FinalAt job h.rev h.status) h.tells
    (noted_final t sound place (status_word h.status) (final_word h.status f.final)
    (subst (λ (ns : Notes). Noted ns place (status_word h.status)) (sym notes)
    (Contains-append_right s.board.past.notes h.stops.0 (place, status_word h.status) f.found.noted)))

tells_look : (s t : CoreState) (job : JobNo) (rev : ℕ) (answer : Told) → LooksAt s job rev answer t → TellsWord t.board answer
tells_look s t job rev answer h =
    let e : Some t.board.words ≡ Some s.board.words = ap (λ (v : board.View). v.words) h.finds.noted in
    let same : t.board.words ≡ s.board.words = cc in
    told_is t.board answer (told.WordIs job rev h.mark) h.tells
    (ap (λ (ws : List Word). word_at (record { words = ws; past = t.board.past }) (place_of job.0 rev)) same ∙ h.finds.finds.told)

tells_row : (s : CoreState) → RowsTell s → (job : JobNo) → TellsWord s.board (row_told job (row_of_job job.0 s.store.kept))
tells_row s rows job = by (row_of_job job.0 s.store.kept) refl
  where
    by : (o : Option RowState) → row_of_job job.0 s.store.kept ≡ o → TellsWord s.board (row_told job o)
    by None e = tt
    by (Some row) e = rows.final job.0 row e

tells_exec : (b : Plain) (exec : ExecNo) (o : Option ExecState) → TellsWord b (exec_told exec o)
tells_exec b exec None = tt
tells_exec b exec (Some found) = tt

tells_cause : (b : Plain) (job : JobNo) (o : Option (ℕ × Cause)) → TellsWord b (cause_told job o)
tells_cause b job None = tt
tells_cause b job (Some found) = tt

tells_tags : (b : Plain) (tags : List TagNow) → AllByRecursion (TellsWord b) (map tag_told tags)
tells_tags b [] = tt
tells_tags b (tag ∷ tags) = (tt, tells_tags b tags)

tells_shown : (b : Plain) (o : Option Reg) → AllByRecursion (TellsWord b) (unwrap_or (option_map (λ r. map tag_told (shown_of r)) o) [])
tells_shown b None = tt
tells_shown b (Some r) = tells_tags b (shown_of r)

tells_settled : (b : Plain) (job : JobNo) (came : Settled) → TellsWord b (settled_told job came)
tells_settled b job settled.NotOut = tt
tells_settled b job settled.Back = tt
tells_settled b job (settled.Done st) = tt
tells_settled b job (settled.Again due) = tt

tells_rest : (b : Plain) (came : Taken) (answer : Told) → RestTells came answer → TellsWord b answer
tells_rest b (taken.Turn turn) answer is = absurd (is)
tells_rest b (taken.Later due) answer is = told_is b answer (told.Later due) is tt
tells_rest b (taken.Busy out) answer is = told_is b answer (told.Busy out) is tt
tells_rest b taken.Idle answer is = told_is b answer told.Idle is tt

tells_admit : (b : Plain) (turn : Turn) (came : Admit) (answer : Told) → AdmitTells turn came answer → TellsWord b answer
tells_admit b turn admit.Began answer is = told_is b answer (told.Began turn.job turn.rev) is tt
tells_admit b turn (admit.Lost mark) answer is = told_is b answer (told.Lost turn.job mark) is tt
tells_admit b turn admit.Memory answer is = absurd (is)

tells_step : (b : Plain) (job : JobNo) (came : Stepped) (log : List Entry) (answer : Told) → StepTells job came log answer → TellsWord b answer
tells_step b job stepped.NotHere log answer is = told_is b answer (told.NotHere job) is tt
tells_step b job stepped.Did log answer (what, last, is) = told_is b answer (told.Did job what) is tt
tells_step b job (stepped.Lost mark) log answer is = told_is b answer (told.Lost job mark) is tt
tells_step b job (stepped.Ended st) log answer is = told_is b answer (told.Ended job st _) is tt

tells_take : (s t : CoreState) (answer : Told) → TakesTurn s answer t → TellsWord t.board answer
tells_take s t answer h = elim h.admits [
  | inl a ↦ tells_admit t.board h.turn a.came answer a.tells
  | inr b ↦ told_is t.board answer (told.Lost (h.turn).job b.mark) b.tells tt
]

tells_trigger : (s t : CoreState) (policy : PolicyNo) (answer : Told) → Triggers s policy answer t → TellsWord t.board answer
tells_trigger s t policy answer (no_policy other is same) = told_is t.board answer (told.NoPolicy policy) is tt
tells_trigger s t policy answer (fails one h) = told_is t.board answer (told.PlanFailed h.exec) h.tells tt
tells_trigger s t policy answer (creates specs one h) = told_is t.board answer (told.Created h.exec _) h.tells tt
tells_trigger s t policy answer (is_full one h) = told_is t.board answer (told.Full h.jobs) h.tells tt

tells_deliver : (s t : CoreState) (number : ℕ) (answer : Told) → DeliversNumber s number answer t → TellsWord t.board answer
tells_deliver s t zero answer h = told_is t.board answer (told.NoHook 0) h.tells tt
tells_deliver s t (suc place) answer (inl h) = told_is t.board answer (told.Heard (suc place) h.came) h.tells tt
tells_deliver s t (suc place) answer (inr h) = told_is t.board answer (told.NoHook (suc place)) h.tells tt

-- one answer
one_told : (b : Plain) (answers : List Told) (answer : Told) → answers ≡ answer ∷ [] → TellsWord b answer → AllByRecursion (TellsWord b) answers
one_told b answers answer is tells = subst (λ (xs : List Told). AllByRecursion (TellsWord b) xs) (sym is) (tells, tt)

-- a question changes nothing
asked : (s t : CoreState) (said answers : List Told) → t ≡ s → answers ≡ said → AllByRecursion (TellsWord s.board) said
    → AllByRecursion (TellsWord t.board) answers
asked s t said answers same is tells =
    subst (λ (x : CoreState). AllByRecursion (TellsWord x.board) answers) (sym same)
    (subst (λ (xs : List Told). AllByRecursion (TellsWord s.board) xs) (sym is) tells)

pub answers_tell : (s t : CoreState) (e : Event) (answers : List Told) → RowsTell s → IsSound t → Does s e answers t
    → AllByRecursion (TellsWord t.board) answers
answers_tell s t (event.Trigger policy) answers rows sound (answer, is, h) =
    one_told t.board answers answer is (tells_trigger s t policy answer h)
answers_tell s t event.Due answers rows sound h = absurd (h)
answers_tell s t event.Take answers rows sound (answer, is, inl h) = one_told t.board answers answer is (tells_take s t answer h)
answers_tell s t event.Take answers rows sound (answer, is, inr h) = one_told t.board answers answer is (tells_rest t.board h.came answer h.tells)
answers_tell s t (event.Step job) answers rows sound (answer, is, inl h) =
    one_told t.board answers answer is (tells_step t.board job h.came h.worked.log answer h.tells)
answers_tell s t (event.Step job) answers rows sound (answer, is, inr h) =
    one_told t.board answers answer is (told_is t.board answer (told.NotHere job) h.tells tt)
answers_tell s t (event.Settle job) answers rows sound (answer, is, inl h) =
    one_told t.board answers answer is (told_is t.board answer (settled_told job h.came) h.tells (tells_settled t.board job h.came))
answers_tell s t (event.Settle job) answers rows sound (answer, is, inr (inl h)) =
    one_told t.board answers answer is (told_is t.board answer (told.NotOut job) h.tells tt)
answers_tell s t (event.Settle job) answers rows sound (answer, is, inr (inr h)) =
    one_told t.board answers answer is (told_is t.board answer (told.InLane job) h.tells tt)
answers_tell s t (event.Stop job) answers rows sound (answer, is, inl h) =
    one_told t.board answers answer is (tells_stop s t job answer sound h)
answers_tell s t (event.Stop job) answers rows sound (answer, is, inr (inl h)) =
    one_told t.board answers answer is (tells_final s t job answer sound h)
answers_tell s t (event.Stop job) answers rows sound (answer, is, inr (inr h)) =
    one_told t.board answers answer is (told_is t.board answer (told.NoJob job) h.tells tt)
answers_tell s t (event.Deliver number) answers rows sound (answer, is, h) =
    one_told t.board answers answer is (tells_deliver s t number answer h)
answers_tell s t (event.Forge hook) answers rows sound (answer, is, h) =
    one_told t.board answers answer is (told_is t.board answer (told.Heard 0 h.came) h.tells tt)
answers_tell s t (event.Wait n) answers rows sound (answer, is, h) =
    one_told t.board answers answer is (told_is t.board answer (told.Now _) h.tells tt)
answers_tell s t (event.Sweep n) answers rows sound (answer, is, h) =
    one_told t.board answers answer is (told_is t.board answer (told.Swept h.count) h.tells tt)
answers_tell s t event.Finish answers rows sound h = one_told t.board answers told.Idle h.1 tt
answers_tell s t (event.Tags reg) answers rows sound h = asked s t _ answers h.0 h.1 (tells_shown s.board (link_at (links_of s.lanes ++ s.others) reg))
answers_tell s t (event.Row job) answers rows sound h = asked s t _ answers h.0 h.1 (tells_row s rows job, tt)
answers_tell s t (event.Exec exec) answers rows sound h = asked s t _ answers h.0 h.1 (tells_exec s.board exec _, tt)
answers_tell s t (event.Word job rev) answers rows sound (answer, is, inl h) =
    one_told t.board answers answer is (tells_look s t job rev answer h)
answers_tell s t (event.Word job rev) answers rows sound (answer, is, inr h) =
    one_told t.board answers answer is (told_is t.board answer (told.NoJob job) h.tells tt)
answers_tell s t (event.CauseOf job) answers rows sound h = asked s t _ answers h.0 h.1 (tells_cause s.board job _, tt)
