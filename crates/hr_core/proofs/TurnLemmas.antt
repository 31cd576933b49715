-- What calls did to the parts of the core, as what events did to it.
use Rattle.std.proofs.Common.{◌≡◌, ◌⊎◌, inl, inr, refl, sym, ap, subst, ◌∙◌, zero, suc, ℕ, ◌≤◌, List, [], ◌∷◌, get_or, arith}
use Rattle.std.specs.List.{Contains}
use Rattle.std.specs.Prelude.{Option, Some, None, IsSome, MatchOption, Result, Ok, Err, IfOk, OnErr, slice_get, slice_set}
use Rattle.hr_base.specs.declared.memory.Memory.{Memory}
use Rattle.hr_base.specs.declared.number.JobNo.{JobNo}
use Rattle.hr_base.specs.declared.status.Hook.{Hook}
use Rattle.hr_event.specs.declared.entry.Entry.{Entry}
use Rattle.hr_event.specs.declared.entry.What.{What}
use Rattle.hr_event.specs.declared.task.TaskSpec.{TaskSpec}
use Rattle.hr_event.specs.declared.task.Turn.{Turn}
use Rattle.hr_event.specs.declared.told.Told.{Told}
use Rattle.hr_event.specs.declared.told.Told.TheVariants as told
use Rattle.hr_board.specs.Plain.{Plain, view_of}
use Rattle.hr_board.specs.View.{Notes, Place, View, Word}
use Rattle.hr_line.specs.State.{State, held_at}
use Rattle.hr_line.specs.declared.answer.Stepped.{Stepped}
use Rattle.hr_line.specs.declared.answer.Stepped.TheVariants as stepped
use Rattle.hr_lane.specs.Word.{Steps}
use Rattle.hr_queue.specs.declared.answer.Taken.{Taken}
use Rattle.hr_queue.specs.declared.answer.Taken.TheVariants as taken
use Rattle.hr_queue.specs.Taking.{Takes}
use Rattle.hr_queue.specs.View as queue
use Rattle.hr_run.specs.Run.{TakeCut}
use Rattle.hr_run.specs.Sound.{IsSound}
use Rattle.hr_run.specs.State.{CoreState}
use Rattle.hr_queue.specs.ByJob.{IsOut, NoneOut, rank}
use Rattle.hr_queue.specs.Settling.{Settles}
use Rattle.hr_queue.specs.declared.answer.Settled.{Settled}
use Rattle.hr_line.specs.Step.{GoesOn}
use Rattle.hr_store.specs.Store.{row_of_job}
use Rattle.hr_run.specs.Ready.{IsReady}
use Rattle.hr_run.specs.Turning.{AdmitsTurn, FindsHeld, FindsNotOut, FindsSwept, GoesOut, NoneHolds, SettlesOut, StepsJob, StepsNone, TakesNone, TakesTurn, settled_told}
use Rattle.hr_core.proofs.StateLemmas.{out_on_board}
use Rattle.hr_promise.specs.Answer.{IsTold, last_cause, last_done}
use Rattle.hr_promise.specs.Lane.{StepTells}
use Rattle.hr_core.specs.Lanes.{DidStep, Emits, HoldsAt, LaneAdmits, StepsAt}
use Rattle.hr_core.specs.Row.{HasSpec}

-- ---- a take

pub took : (s m t : CoreState) (turn : Turn) (r : Result Told Memory) → GoesOut s (taken.Turn turn) m → IsSound m
    → IfOk r (λ answer. AdmitsTurn m turn answer t ⊎ FindsSwept m turn answer t)
    → IfOk r (λ answer. TakesTurn s answer t ⊎ TakesNone s answer t)
took s m t turn (Ok answer) out sound admits =
    inl (record { turn = turn; mid = m; out = out; sound = sound; admits = admits })
took s m t turn (Err why) out sound admits = tt

pub took_less : (s m t : CoreState) (turn : Turn) (r : Result Told Memory) → GoesOut s (taken.Turn turn) m
    → OnErr r (t ≡ m) → OnErr r ((t ≡ s) ⊎ TakeCut s t)
took_less s m t turn (Ok answer) out same = tt
took_less s m t turn (Err why) out same =
    inr (turn, subst (λ (x : CoreState). GoesOut s (taken.Turn turn) x) (sym same) out)

-- ---- an admission

abbrev pub with_lane : CoreState → ℕ → State → Plain → List Hook → CoreState
with_lane s at worked board hooks =
    record s { board = board; lanes = slice_set s.lanes at worked; hooks = hooks }

pub admits_made : (before now : CoreState) (turn : Turn) (spec : TaskSpec) (lane worked : State) (board : Plain)
    (room hooks : List Hook) (r : Result Told Memory) → before ≡ now → room ≡ before.hooks → HasSpec now turn.job.0 spec
    → slice_get before.lanes 0 ≡ Some lane
    → IfOk r (λ answer. LaneAdmits lane worked turn spec (view_of before.board) (view_of board) room hooks answer)
    → IfOk r (λ answer. AdmitsTurn now turn answer (with_lane before 0 worked board hooks)
    ⊎ FindsSwept now turn answer (with_lane before 0 worked board hooks))
admits_made before now turn spec lane worked board room hooks (Err why) same reserved has there admits = tt
admits_made before now turn spec lane worked board room hooks (Ok answer) same reserved has there admits =
    let h : HasSpec before turn.job.0 spec = subst (λ (x : CoreState). HasSpec x turn.job.0 spec) (sym same) has in
    let S : TaskSpec → Type 0 = λ sp. LaneAdmits lane worked turn sp (view_of before.board) (view_of board) before.hooks hooks answer in
    let R : List Hook → Type 0 = λ hs. LaneAdmits lane worked turn spec (view_of before.board) (view_of board) hs hooks answer in
    let a = subst S h.copies (subst R reserved admits) in
    subst (λ (x : CoreState). AdmitsTurn x turn answer (with_lane before 0 worked board hooks)
    ⊎ FindsSwept x turn answer (with_lane before 0 worked board hooks)) same (inl (record {
      row = h.row;
      there = h.there;
      lane = lane;
      worked = worked;
      came = a.came;
      calls = record {
        there = there;
        sound = a.emits.sound;
        sound_after = a.emits.sound_after;
        more = a.emits.more;
        gave = a.emits.gave;
        lanes = refl;
        hooks = a.emits.hooks;
        after = refl;
      };
      admits = a.admits;
      tells = a.tells;
    }))

set_same : (lanes : List State) (at : ℕ) (lane : State) → slice_get lanes at ≡ Some lane → slice_set lanes at lane ≡ lanes
set_same [] zero lane e = refl
set_same [] (suc at) lane e = refl
set_same (l ∷ lanes) zero lane e = let s : lane ≡ l = cc in ap (λ (x : State). x ∷ lanes) s
set_same (l ∷ lanes) (suc at) lane e = ap (λ (ls : List State). l ∷ ls) (set_same lanes at lane e)

abbrev plain : List Word → Notes → Notes → List Place → Plain
plain words notes finals opens = record { words = words; past = record { notes = notes; finals = finals; opens = opens } }

plain_same : (b c : Plain) → view_of b ≡ view_of c → b ≡ c
plain_same b c e =
    let words = ap (λ (v : View). v.words) e in
    let notes = ap (λ (v : View). v.notes) e in
    let finals = ap (λ (v : View). v.finals) e in
    let opens = ap (λ (v : View). v.opens) e in
    let is : b.words ≡ c.words = cc in
    ap (λ (w : List Word). plain w b.past.notes b.past.finals b.past.opens) is
    ∙ ap (λ (n : Notes). plain c.words n b.past.finals b.past.opens) notes
    ∙ ap (λ (f : Notes). plain c.words c.past.notes f b.past.opens) finals
    ∙ ap (λ (o : List Place). plain c.words c.past.notes c.past.finals o) opens

-- where memory was wanting, all is as it was
pub admits_less : (before now : CoreState) (lane worked : State) (board : Plain) (hooks : List Hook) (r : Result Told Memory)
    → before ≡ now → slice_get before.lanes 0 ≡ Some lane → OnErr r (worked ≡ lane)
    → OnErr r (view_of board ≡ view_of before.board) → OnErr r (hooks ≡ before.hooks)
    → OnErr r (with_lane before 0 worked board hooks ≡ now)
admits_less before now lane worked board hooks (Ok answer) same there is boards emitted = tt
admits_less before now lane worked board hooks (Err why) same there is boards emitted =
    ap (λ (l : State). with_lane before 0 l board hooks) is
    ∙ ap (λ (ls : List State). record before { board = board; lanes = ls; hooks = hooks }) (set_same before.lanes 0 lane there)
    ∙ ap (λ (b : Plain). record before { board = b; hooks = hooks }) (plain_same board before.board boards)
    ∙ ap (λ (hs : List Hook). record before { hooks = hs }) emitted
    ∙ same

-- ---- a step

pub steps_made : (before now : CoreState) (at : ℕ) (job : JobNo) (lane worked : State) (board : Plain) (room hooks : List Hook)
    (came : Stepped) → before ≡ now → room ≡ before.hooks → slice_get before.lanes at ≡ Some lane → IsSome (held_at lane.held job.0)
    → Steps lane worked job (view_of before.board) (view_of board) came → Emits lane worked room hooks
    → (came ≡ stepped.Did → IsSome (last_done worked.log))
    → StepsAt now at job came (with_lane before at worked board hooks)
steps_made before now at job lane worked board room hooks came same reserved there holds steps emits tells =
    let kept : Emits lane worked before.hooks hooks = subst (λ (hs : List Hook). Emits lane worked hs hooks) reserved emits in
    subst (λ (x : CoreState). StepsAt x at job came (with_lane before at worked board hooks)) same (record {
      lane = lane;
      worked = worked;
      holds = holds;
      calls = record {
        there = there;
        sound = kept.sound;
        sound_after = kept.sound_after;
        more = kept.more;
        gave = kept.gave;
        lanes = refl;
        hooks = kept.hooks;
        after = refl;
      };
      steps = steps;
      tells = tells;
    })

get_set : (lanes : List State) (at : ℕ) (lane worked : State) → slice_get lanes at ≡ Some lane
    → slice_get (slice_set lanes at worked) at ≡ Some worked
get_set [] zero lane worked e = absurd (cc)
get_set [] (suc at) lane worked e = absurd (cc)
get_set (l ∷ lanes) zero lane worked e = refl
get_set (l ∷ lanes) (suc at) lane worked e = get_set lanes at lane worked e

-- the lane that did the step stands where it stood
pub worked_there : (s t : CoreState) (at : ℕ) (job : JobNo) (came : Stepped) (does : StepsAt s at job came t)
    → slice_get t.lanes at ≡ Some does.worked
worked_there s t at job came does =
    ap (λ (ls : List State). slice_get ls at) does.calls.lanes ∙ get_set s.lanes at does.lane does.worked does.calls.there

told_some : (job : JobNo) (came : Stepped) (log : List Entry) → (came ≡ stepped.Did → IsSome (last_done log))
    → (answer : Told) × StepTells job came log answer
told_some job stepped.NotHere log did = (told.NotHere job, refl)
told_some job stepped.Did log did = by (last_done log) refl (did refl)
  where
    by : (o : Option What) → last_done log ≡ o → IsSome o → (answer : Told) × StepTells job stepped.Did log answer
    by None e some = absurd (cc)
    by (Some what) e some = (told.Did job what, (what, e, refl))
told_some job (stepped.Lost mark) log did = (told.Lost job mark, refl)
told_some job (stepped.Ended status) log did = (told.Ended job status (last_cause log), refl)

job_stepped : (s t : CoreState) (at : ℕ) (job : JobNo) (came : Stepped) (does : StepsAt s at job came t) (answer : Told)
    → StepTells job came does.worked.log answer → StepsJob s job answer t
job_stepped s t at job came does answer tells = record {
  at = at;
  lane = does.lane;
  worked = does.worked;
  came = came;
  holds = does.holds;
  calls = does.calls;
  steps = does.steps;
  tells = tells;
}

-- a step was done, whatever is told of it
pub did_step : (s t : CoreState) (at : ℕ) (job : JobNo) (came : Stepped) → StepsAt s at job came t → DidStep s job t
did_step s t at job came does =
    let one = told_some job came does.worked.log does.tells in
    (one.0, job_stepped s t at job came does one.0 one.1)

pub step_told : (s t : CoreState) (at : ℕ) (job : JobNo) (came : Stepped) (log : List Entry) (r : Result Told Memory)
    (does : StepsAt s at job came t) → log ≡ does.worked.log → IfOk r (λ answer. StepTells job came log answer)
    → IfOk r (λ answer. StepsJob s job answer t ⊎ StepsNone s job answer t)
step_told s t at job came log (Ok answer) does same tells =
    inl (job_stepped s t at job came does answer (subst (λ (l : List Entry). StepTells job came l answer) same tells))
step_told s t at job came log (Err why) does same tells = tt

pub step_untold : (s t : CoreState) (at : ℕ) (job : JobNo) (came : Stepped) (r : Result Told Memory) → StepsAt s at job came t
    → OnErr r ((t ≡ s) ⊎ DidStep s job t)
step_untold s t at job came (Ok answer) does = tt
step_untold s t at job came (Err why) does = inr (did_step s t at job came does)

-- ---- a turn goes out

pub goes_made : (before now : CoreState) (turns : queue.View) (came : Taken) → before ≡ now
    → Takes before.now before.turns came turns → GoesOut now came (record before { turns = turns })
goes_made before now turns came same takes =
    subst (λ (x : CoreState). GoesOut x came (record before { turns = turns })) same (record { takes = takes; after = refl })

-- ---- what calls need

pub found_spec : (s : CoreState) (job : ℕ) (o : Option TaskSpec) (spec : TaskSpec)
    → MatchOption o (row_of_job job s.store.kept ≡ None) (λ sp. HasSpec s job sp) → o ≡ Some spec → HasSpec s job spec
found_spec s job None spec found is = absurd (cc)
found_spec s job (Some other) spec found is = let same : other ≡ spec = cc in subst (λ (sp : TaskSpec). HasSpec s job sp) same found

pub at_is : (lanes : List State) (at : ℕ) (lane other : State) → slice_get lanes at ≡ Some lane → get_or lanes at other ≡ lane
at_is [] zero lane other e = absurd (cc)
at_is [] (suc at) lane other e = absurd (cc)
at_is (l ∷ lanes) zero lane other e = cc
at_is (l ∷ lanes) (suc at) lane other e = at_is lanes at lane other e

pub did_told : ((s t : State) (job : JobNo) → GoesOn s t job → IsTold t.log) → (lane worked : State) (job : JobNo) (v w : View)
    (came : Stepped) → Steps lane worked job v w came → came ≡ stepped.Did → IsSome (last_done worked.log)
did_told law lane worked job v w stepped.NotHere does is = absurd (cc)
did_told law lane worked job v w stepped.Did does is =
    let told = law lane worked job does.0 in subst (λ (o : Option What). IsSome o) (sym told.last) refl
did_told law lane worked job v w (stepped.Lost mark) does is = absurd (cc)
did_told law lane worked job v w (stepped.Ended status) does is = absurd (cc)

-- ---- giving back a turn

pub out_contains : (ts : List Turn) (i : ℕ) (t : Turn) → slice_get ts i ≡ Some t → Contains ts t
out_contains [] zero t e = absurd (cc)
out_contains [] (suc i) t e = absurd (cc)
out_contains (u ∷ us) zero t e = (0, omega arith, (let s : u ≡ t = cc in s))
out_contains (u ∷ us) (suc i) t e = let c = out_contains us i t e in let l = c.1 in (suc c.0, omega (arith, l), c.2)

lane_there : (ls : List State) (i : ℕ) (l : State) → slice_get ls i ≡ Some l → Contains ls l
lane_there [] zero l e = absurd (cc)
lane_there [] (suc i) l e = absurd (cc)
lane_there (u ∷ us) zero l e = (0, omega arith, (let s : u ≡ l = cc in s))
lane_there (u ∷ us) (suc i) l e = let c = lane_there us i l e in let w = c.1 in (suc c.0, omega (arith, w), c.2)

pub out_fits : (before now : CoreState) (turn : Turn) → before ≡ now → IsReady now → IsOut before.turns.out turn turn
    → turn.job.0 ≤ (view_of before.board).jobs
out_fits before now turn same ready out =
    (out_on_board before turn (subst IsReady (sym same) ready) (out_contains before.turns.out (rank turn.job.0 before.turns.out) turn out.there)).job.within

pub settle_none : (before now : CoreState) (job : JobNo) → before ≡ now → NoneOut before.turns.out job
    → SettlesOut now job (told.NotOut job) now ⊎ (FindsNotOut now job (told.NotOut job) now ⊎ FindsHeld now job (told.NotOut job) now)
settle_none before now job same none =
    inr (inl (record { none = subst (λ (x : CoreState). NoneOut x.turns.out job) same none; tells = refl; same = refl }))

pub settle_held : (before now : CoreState) (job : JobNo) (turn : Turn) (at : ℕ) → before ≡ now
    → (turn.job ≡ job) × IsOut before.turns.out turn turn → HoldsAt before.lanes job at
    → SettlesOut now job (told.InLane job) now ⊎ (FindsNotOut now job (told.InLane job) now ⊎ FindsHeld now job (told.InLane job) now)
settle_held before now job turn at same out holds =
    inr (inr (subst (λ (x : CoreState). FindsHeld x job (told.InLane job) x) same (record {
      turn = turn;
      out = out;
      lane = holds.lane;
      there = lane_there before.lanes at holds.lane holds.there;
      holds = holds.holds;
      tells = refl;
      same = refl;
    })))

pub settle_made : (before now : CoreState) (job : JobNo) (turn : Turn) (turns : queue.View) (board : Plain) (came : Settled) (answer : Told)
    → before ≡ now → (turn.job ≡ job) × IsOut before.turns.out turn turn → NoneHolds before.lanes job
    → Settles before.now before.turns (view_of before.board) turn came turns (view_of board) → answer ≡ settled_told job came
    → SettlesOut now job answer (record before { board = board; turns = turns })
    ⊎ (FindsNotOut now job answer (record before { board = board; turns = turns })
    ⊎ FindsHeld now job answer (record before { board = board; turns = turns }))
settle_made before now job turn turns board came answer same out none (inl n) tells = absurd (n.none turn out.1)
settle_made before now job turn turns board came answer same out none (inr h) tells =
    inl (subst (λ (x : CoreState). SettlesOut x job answer (record before { board = board; turns = turns })) same (record {
      turn = turn;
      of_job = out.0;
      none = none;
      came = came;
      settles = h;
      tells = tells;
      after = refl;
    }))
