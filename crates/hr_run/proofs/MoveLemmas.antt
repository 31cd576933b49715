-- What each event does to lanes, plan, jobs, rows and hooks, move by move.
use Rattle.std.proofs.Common.{◌≡◌, inl, inr, refl, sym, ap, subst, ◌∙◌, zero, suc, ℕ, Bool, true, false, List, [], ◌∷◌, ◌++◌, arith}
use Rattle.std.specs.Prelude.{Some, None}
use Rattle.hr_base.specs.declared.number.ExecNo.{ExecNo}
use Rattle.hr_base.specs.declared.number.JobNo.{JobNo}
use Rattle.hr_base.specs.declared.number.PolicyNo.{PolicyNo}
use Rattle.hr_base.specs.declared.status.Hook.{Hook}
use Rattle.hr_event.specs.declared.event.Event.{Event}
use Rattle.hr_event.specs.declared.event.Event.TheVariants as event
use Rattle.hr_event.specs.declared.task.TaskSpec.{TaskSpec}
use Rattle.hr_event.specs.declared.told.Told.{Told}
use Rattle.hr_event.specs.declared.view.Received.{Received}
use Rattle.hr_event.specs.declared.view.Trigger.TheVariants.{Manual}
use Rattle.hr_board.specs.Plain.{view_of}
use Rattle.hr_board.specs.View as board
use Rattle.hr_line.specs.State.{State}
use Rattle.hr_line.specs.declared.answer.Admit.{Admit}
use Rattle.hr_line.specs.declared.answer.Stepped.{Stepped}
use Rattle.hr_line.specs.declared.held.Admitted.{Admitted}
use Rattle.hr_lane.specs.Admission.{AdmitsWord, by_turn}
use Rattle.hr_lane.specs.Word.{Steps}
use Rattle.hr_queue.specs.declared.answer.Taken.{Taken}
use Rattle.hr_queue.specs.declared.answer.Taken.TheVariants as taken
use Rattle.hr_store.specs.Creating.{IsCreated}
use Rattle.hr_store.specs.Receiving.{ReceivesHook}
use Rattle.hr_store.specs.Store.{StoreState}
use Rattle.hr_store.specs.Sweeping.{SweepsEnded}
use Rattle.hr_run.specs.Arrives.{RunsThrough}
use Rattle.hr_run.specs.Delivering.{Delivers, Forges, Sweeps}
use Rattle.hr_run.specs.Does.{DeliversNumber, DoesOne}
use Rattle.hr_run.specs.Finish.{DeliversFrom, Finishes, Rounds, RunsRounds, StepsOut}
use Rattle.hr_run.specs.Part.{CallsLane}
use Rattle.hr_run.specs.Run.{Cut, DeliversSome, Does, Runs, StepsSome}
use Rattle.hr_run.specs.State.{CoreState}
use Rattle.hr_run.specs.Triggering.{Creates, FailsToPlan, Triggers, moment_of}
use Rattle.hr_run.specs.Triggering.Triggers.{creates, fails, is_full, no_policy}
use Rattle.hr_run.specs.Turning.{GoesOut, SettlesOut, StepsJob, TakesTurn}

-- ---- moves

-- lanes, plan, jobs and hooks stay
pub record Rest (s t : CoreState) : Type 0 where
  pub lanes : t.lanes ≡ s.lanes
  pub plan : t.plan ≡ s.plan
  pub made : t.made ≡ s.made
  pub hooks : t.hooks ≡ s.hooks

-- what a lane did
pub data LaneDid (lane worked : State) (v w : board.View) : Type 0 where
  admits : (a : Admitted) (came : Admit) → AdmitsWord lane worked a v w came → LaneDid lane worked v w
  steps : (job : JobNo) (came : Stepped) → Steps lane worked job v w came → LaneDid lane worked v w

-- the planned tasks became jobs
pub record Plants (s t : CoreState) : Type 0 where
  pub specs : List TaskSpec
  pub planned : s.plan ≡ Some specs
  pub exec : ExecNo
  pub created : IsCreated s.store (record { 0 = 1 }) Manual specs (moment_of s) exec t.store
  pub lanes : t.lanes ≡ s.lanes
  pub plan : t.plan ≡ s.plan
  pub made : t.made ≡ s.made ++ specs
  pub hooks : t.hooks ≡ s.hooks

-- a plan failed
pub record Fails (s t : CoreState) : Type 0 where
  pub none : s.plan ≡ None
  pub rest : Rest s t
  pub jobs : t.store.jobs ≡ s.store.jobs
  pub limit : t.store.limit ≡ s.store.limit

-- a hook of a stop was emitted
pub record Stopped (s t : CoreState) : Type 0 where
  pub lanes : t.lanes ≡ s.lanes
  pub plan : t.plan ≡ s.plan
  pub made : t.made ≡ s.made
  pub store : t.store ≡ s.store

-- one move; a stop only where stops are let in
pub data Move (stops : Bool) (s t : CoreState) : Type 0 where
  still : Rest s t → t.store ≡ s.store → Move stops s t
  calls : (at : ℕ) (lane worked : State) → CallsLane s at lane worked t → LaneDid lane worked (view_of s.board) (view_of t.board)
      → Move stops s t
  plants : Plants s t → Move stops s t
  fails_to : Fails s t → Move stops s t
  hears : (v w : board.View) (hook : Hook) (came : Received) → Rest s t → ReceivesHook s.store v hook came t.store w → Move stops s t
  sweeps : (keep count : ℕ) → Rest s t → SweepsEnded s.store keep count t.store → Move stops s t
  stopped : stops ≡ true → Stopped s t → Move stops s t

pub data Moves (stops : Bool) : CoreState → CoreState → Type 0 where
  none : (s : CoreState) → Moves stops s s
  next : (s m t : CoreState) → Move stops s m → Moves stops m t → Moves stops s t

-- what each move keeps, moves keep
pub keep_moves : (stops : Bool) (P : CoreState → Type 0) → ((s t : CoreState) → Move stops s t → P s → P t) → (s t : CoreState)
    → Moves stops s t → P s → P t
keep_moves stops P each s _ (Moves.none _) p = p
keep_moves stops P each s t (Moves.next _ m _ one more) p = keep_moves stops P each m t more (each s m one p)

-- ---- what events do

module _ (b : Bool) where
  one : (s t : CoreState) → Move b s t → Moves b s t
  one s t m = Moves.next s t t m (Moves.none t)

  then : (s m t : CoreState) → Moves b s m → Moves b m t → Moves b s t
  then s _ t (Moves.none _) more = more
  then s m t (Moves.next _ x _ first rest) more = Moves.next s x t first (then x m t rest more)

  -- the board, the turns, the marks or the moment changed
  stay : (s t : CoreState) → t.lanes ≡ s.lanes → t.plan ≡ s.plan → t.made ≡ s.made → t.hooks ≡ s.hooks → t.store ≡ s.store → Moves b s t
  stay s t lanes plan made hooks store = one s t (still (record { lanes = lanes; plan = plan; made = made; hooks = hooks }) store)

  same : (s t : CoreState) → t ≡ s → Moves b s t
  same s t is =
      stay s t (ap (λ (x : CoreState). x.lanes) is) (ap (λ (x : CoreState). x.plan) is) (ap (λ (x : CoreState). x.made) is)
      (ap (λ (x : CoreState). x.hooks) is) (ap (λ (x : CoreState). x.store) is)

  goes_out : (s t : CoreState) (came : Taken) → GoesOut s came t → Moves b s t
  goes_out s t came h =
      stay s t (ap (λ (x : CoreState). x.lanes) h.after) (ap (λ (x : CoreState). x.plan) h.after) (ap (λ (x : CoreState). x.made) h.after)
      (ap (λ (x : CoreState). x.hooks) h.after) (ap (λ (x : CoreState). x.store) h.after)

  takes_turn : (s t : CoreState) (answer : Told) → TakesTurn s answer t → Moves b s t
  takes_turn s t answer h = then s h.mid t (goes_out s h.mid (taken.Turn h.turn) h.out) (elim h.admits [
    | inl a ↦ one h.mid t (calls _ a.lane a.worked a.calls (LaneDid.admits (by_turn h.turn a.row.spec) a.came a.admits))
    | inr g ↦ stay h.mid t (ap (λ (x : CoreState). x.lanes) g.after) (ap (λ (x : CoreState). x.plan) g.after)
        (ap (λ (x : CoreState). x.made) g.after) (ap (λ (x : CoreState). x.hooks) g.after) (ap (λ (x : CoreState). x.store) g.after)
  ])

  steps_job : (s t : CoreState) (job : JobNo) (answer : Told) → StepsJob s job answer t → Moves b s t
  steps_job s t job answer h = one s t (calls h.at h.lane h.worked h.calls (LaneDid.steps job h.came h.steps))

  settles : (s t : CoreState) (job : JobNo) (answer : Told) → SettlesOut s job answer t → Moves b s t
  settles s t job answer h =
      stay s t (ap (λ (x : CoreState). x.lanes) h.after) (ap (λ (x : CoreState). x.plan) h.after) (ap (λ (x : CoreState). x.made) h.after)
      (ap (λ (x : CoreState). x.hooks) h.after) (ap (λ (x : CoreState). x.store) h.after)

  delivers : (s t : CoreState) (place : ℕ) (answer : Told) → Delivers s place answer t → Moves b s t
  delivers s t place answer h = one s t (hears (view_of s.board) (view_of t.board) h.hook h.came (record {
    lanes = ap (λ (x : CoreState). x.lanes) h.after;
    plan = ap (λ (x : CoreState). x.plan) h.after;
    made = ap (λ (x : CoreState). x.made) h.after;
    hooks = ap (λ (x : CoreState). x.hooks) h.after;
  }) h.receives)

  forges : (s t : CoreState) (hook : Hook) (answer : Told) → Forges s hook answer t → Moves b s t
  forges s t hook answer h = one s t (hears (view_of s.board) (view_of t.board) hook h.came (record {
    lanes = ap (λ (x : CoreState). x.lanes) h.after;
    plan = ap (λ (x : CoreState). x.plan) h.after;
    made = ap (λ (x : CoreState). x.made) h.after;
    hooks = ap (λ (x : CoreState). x.hooks) h.after;
  }) h.receives)

  sweeps_rows : (s t : CoreState) (keep : ℕ) (answer : Told) → Sweeps s keep answer t → Moves b s t
  sweeps_rows s t keep answer h = one s t (sweeps keep h.count (record {
    lanes = ap (λ (x : CoreState). x.lanes) h.after;
    plan = ap (λ (x : CoreState). x.plan) h.after;
    made = ap (λ (x : CoreState). x.made) h.after;
    hooks = ap (λ (x : CoreState). x.hooks) h.after;
  }) h.sweeps)

  reserves : (s t : CoreState) → t ≡ record s { turns = t.turns } → Moves b s t
  reserves s t is =
      stay s t (ap (λ (x : CoreState). x.lanes) is) (ap (λ (x : CoreState). x.plan) is) (ap (λ (x : CoreState). x.made) is)
      (ap (λ (x : CoreState). x.hooks) is) (ap (λ (x : CoreState). x.store) is)

  planted : (s t : CoreState) (specs : List TaskSpec) (answer : Told) → Creates s specs answer t → Moves b s t
  planted s t specs answer h =
      let to_mid = h.reserved.after in
      one s t (plants (record {
        specs = specs;
        planned = h.planned;
        exec = h.exec;
        created = h.created;
        lanes = ap (λ (x : CoreState). x.lanes) h.after ∙ ap (λ (x : CoreState). x.lanes) to_mid;
        plan = ap (λ (x : CoreState). x.plan) h.after ∙ ap (λ (x : CoreState). x.plan) to_mid;
        made = h.made;
        hooks = ap (λ (x : CoreState). x.hooks) h.after ∙ ap (λ (x : CoreState). x.hooks) to_mid;
      }))

  failed : (s t : CoreState) (answer : Told) → FailsToPlan s answer t → Moves b s t
  failed s t answer h =
      let made_is = h.created.after_is in
      one s t (fails_to (record {
        none = h.planned;
        rest = record {
          lanes = ap (λ (x : CoreState). x.lanes) h.after;
          plan = ap (λ (x : CoreState). x.plan) h.after;
          made = ap (λ (x : CoreState). x.made) h.after;
          hooks = ap (λ (x : CoreState). x.hooks) h.after;
        };
        jobs = (let j = ap (λ (x : StoreState). x.jobs) h.marked in let k = ap (λ (x : StoreState). x.jobs) made_is in omega (arith, j, k));
        limit = ap (λ (x : StoreState). x.limit) h.marked ∙ ap (λ (x : StoreState). x.limit) made_is;
      }))

  triggers : (s t : CoreState) (answer : Told) (policy : PolicyNo) → Triggers s policy answer t → Moves b s t
  triggers s t answer policy (no_policy other tells is) = same s t is
  triggers s t answer policy (fails first h) = failed s t answer h
  triggers s t answer policy (creates specs first h) = planted s t specs answer h
  triggers s t answer policy (is_full first h) = reserves s t h.after.after

  number : (s t : CoreState) (n : ℕ) (answer : Told) → DeliversNumber s n answer t → Moves b s t
  number s t zero answer h = same s t h.same
  number s t (suc place) answer (inl h) = delivers s t place answer h
  number s t (suc place) answer (inr h) = same s t h.same

  -- ---- a finish

  steps_out : (job : JobNo) (s t : CoreState) → StepsOut job s t → Moves b s t
  steps_out job s _ (StepsOut.gone _ h) = Moves.none s
  steps_out job s t (StepsOut.step _ m _ answer h sound rest) = then s m t (steps_job s m job answer h) (steps_out job m t rest)

  steps_some : (job : JobNo) (s t : CoreState) → StepsSome job s t → Moves b s t
  steps_some job s _ (StepsSome.rests _) = Moves.none s
  steps_some job s t (StepsSome.step _ m _ answer h sound rest) = then s m t (steps_job s m job answer h) (steps_some job m t rest)

  round : (s t : CoreState) (job : JobNo) → Rounds s job t → Moves b s t
  round s t job h = then s h.mid t (steps_out job s h.mid h.steps) (settles h.mid t job h.answer h.settles)

  rounds : (s t : CoreState) → RunsRounds s t → Moves b s t
  rounds s _ (RunsRounds.none _) = Moves.none s
  rounds s t (RunsRounds.turn _ m _ h sound rest) =
      then s m t (then s h.mid m (takes_turn s h.mid h.answer h.takes) (round h.mid m (h.takes.turn).job h.rounds)) (rounds m t rest)
  rounds s t (RunsRounds.out _ m _ h sound rest) = then s m t (round s m (h.turn).job h.rounds) (rounds m t rest)
  rounds s t (RunsRounds.on _ m _ h sound rest) =
      then s m t (stay s m (ap (λ (x : CoreState). x.lanes) h.after) (ap (λ (x : CoreState). x.plan) h.after)
      (ap (λ (x : CoreState). x.made) h.after) (ap (λ (x : CoreState). x.hooks) h.after) (ap (λ (x : CoreState). x.store) h.after))
      (rounds m t rest)

  delivers_from : (place : ℕ) (s t : CoreState) → DeliversFrom place s t → Moves b s t
  delivers_from place s _ (DeliversFrom.all _ _ h) = Moves.none s
  delivers_from place s t (DeliversFrom.again _ _ _ h rest) = delivers_from (suc place) s t rest
  delivers_from place s t (DeliversFrom.one _ _ m _ answer e h sound rest) =
      then s m t (delivers s m place answer h) (delivers_from (suc place) m t rest)

  delivers_some : (place : ℕ) (s t : CoreState) → DeliversSome place s t → Moves b s t
  delivers_some place s _ (DeliversSome.ends _ _) = Moves.none s
  delivers_some place s t (DeliversSome.again _ _ _ h rest) = delivers_some (suc place) s t rest
  delivers_some place s t (DeliversSome.one _ _ m _ answer e h sound rest) =
      then s m t (delivers s m place answer h) (delivers_some (suc place) m t rest)

  finishes : (s t : CoreState) → Finishes s t → Moves b s t
  finishes s t h = then s h.mid t (rounds s h.mid h.rounds) (delivers_from 0 h.mid t h.delivers)

-- an event stops a job
abbrev pub is_stop : Event → Bool
is_stop (event.Stop job) = true
is_stop _ = false

pub one_moves : (s t : CoreState) (e : Event) (answers : List Told) → DoesOne s e answers t → Moves (is_stop e) s t
one_moves s t (event.Trigger policy) answers (answer, is, h) = triggers false s t answer policy h
one_moves s t event.Due answers h = absurd h
one_moves s t event.Take answers (answer, is, inl h) = takes_turn false s t answer h
one_moves s t event.Take answers (answer, is, inr h) = goes_out false s t h.came h.rests
one_moves s t (event.Step job) answers (answer, is, inl h) = steps_job false s t job answer h
one_moves s t (event.Step job) answers (answer, is, inr h) = same false s t h.same
one_moves s t (event.Settle job) answers (answer, is, inl h) = settles false s t job answer h
one_moves s t (event.Settle job) answers (answer, is, inr (inl h)) = same false s t h.same
one_moves s t (event.Settle job) answers (answer, is, inr (inr h)) = same false s t h.same
one_moves s t (event.Stop job) answers (answer, is, inl h) = one true s t (stopped refl (record {
  lanes = ap (λ (x : CoreState). x.lanes) h.after;
  plan = ap (λ (x : CoreState). x.plan) h.after;
  made = ap (λ (x : CoreState). x.made) h.after;
  store = ap (λ (x : CoreState). x.store) h.after;
}))
one_moves s t (event.Stop job) answers (answer, is, inr (inl h)) =
    stay true s t (ap (λ (x : CoreState). x.lanes) h.after) (ap (λ (x : CoreState). x.plan) h.after) (ap (λ (x : CoreState). x.made) h.after)
    (ap (λ (x : CoreState). x.hooks) h.after) (ap (λ (x : CoreState). x.store) h.after)
one_moves s t (event.Stop job) answers (answer, is, inr (inr h)) = same true s t h.same
one_moves s t (event.Deliver n) answers (answer, is, h) = number false s t n answer h
one_moves s t (event.Forge hook) answers (answer, is, h) = forges false s t hook answer h
one_moves s t (event.Wait seconds) answers (answer, is, h) =
    stay false s t (ap (λ (x : CoreState). x.lanes) h.after) (ap (λ (x : CoreState). x.plan) h.after) (ap (λ (x : CoreState). x.made) h.after)
    (ap (λ (x : CoreState). x.hooks) h.after) (ap (λ (x : CoreState). x.store) h.after)
one_moves s t (event.Sweep keep) answers (answer, is, h) = sweeps_rows false s t keep answer h
one_moves s t event.Finish answers h = absurd h
one_moves s t (event.Tags reg) answers h = same false s t h.0
one_moves s t (event.Row job) answers h = same false s t h.0
one_moves s t (event.Exec exec) answers h = same false s t h.0
one_moves s t (event.Word job rev) answers (answer, is, inl h) =
    stay false s t (ap (λ (x : CoreState). x.lanes) h.after) (ap (λ (x : CoreState). x.plan) h.after) (ap (λ (x : CoreState). x.made) h.after)
    (ap (λ (x : CoreState). x.hooks) h.after) (ap (λ (x : CoreState). x.store) h.after)
one_moves s t (event.Word job rev) answers (answer, is, inr h) = same false s t h.same
one_moves s t (event.CauseOf job) answers h = same false s t h.0

pub does_moves : (s t : CoreState) (e : Event) (answers : List Told) → Does s e answers t → Moves (is_stop e) s t
does_moves s t event.Finish answers h = finishes false s t h.0
does_moves s t (event.Trigger policy) answers h = one_moves s t (event.Trigger policy) answers h
does_moves s t event.Due answers h = one_moves s t event.Due answers h
does_moves s t event.Take answers h = one_moves s t event.Take answers h
does_moves s t (event.Step job) answers h = one_moves s t (event.Step job) answers h
does_moves s t (event.Settle job) answers h = one_moves s t (event.Settle job) answers h
does_moves s t (event.Stop job) answers h = one_moves s t (event.Stop job) answers h
does_moves s t (event.Deliver n) answers h = one_moves s t (event.Deliver n) answers h
does_moves s t (event.Forge hook) answers h = one_moves s t (event.Forge hook) answers h
does_moves s t (event.Wait n) answers h = one_moves s t (event.Wait n) answers h
does_moves s t (event.Sweep n) answers h = one_moves s t (event.Sweep n) answers h
does_moves s t (event.Tags reg) answers h = one_moves s t (event.Tags reg) answers h
does_moves s t (event.Row job) answers h = one_moves s t (event.Row job) answers h
does_moves s t (event.Exec exec) answers h = one_moves s t (event.Exec exec) answers h
does_moves s t (event.Word job rev) answers h = one_moves s t (event.Word job rev) answers h
does_moves s t (event.CauseOf job) answers h = one_moves s t (event.CauseOf job) answers h

-- ---- whatever is kept by every move

module _ (P : CoreState → Type 0) (each : (stops : Bool) (s t : CoreState) → Move stops s t → P s → P t) where
  keep : (stops : Bool) (s t : CoreState) → Moves stops s t → P s → P t
  keep stops s t moves p = keep_moves stops P (each stops) s t moves p

  pub keep_does : (s t : CoreState) (e : Event) (answers : List Told) → Does s e answers t → P s → P t
  keep_does s t e answers h p = keep (is_stop e) s t (does_moves s t e answers h) p

  pub keep_through : (events : List Event) (s t : CoreState) (said : List Told) → RunsThrough s events said t → P s → P t
  keep_through [] s t said (is, no_more) p = subst P (sym is) p
  keep_through (e ∷ events) s t said (mid, answers, later, does, sound, runs, is) p =
      keep_through events mid t later runs (keep_does s mid e answers does p)

  pub keep_cut : (s t : CoreState) (e : Event) → Cut s e t → P s → P t
  keep_cut s _ e (Cut.before _ _) p = p
  keep_cut s t e (Cut.behind _ _ _ answers h) p = keep (is_stop e) s t (one_moves s t e answers h) p
  keep_cut s t _ (Cut.reserved _ _ policy h) p = keep false s t (reserves false s t h.after) p
  keep_cut s t _ (Cut.taken_out _ _ (turn, h)) p = keep false s t (goes_out false s t (taken.Turn turn) h) p
  keep_cut s t _ (Cut.finished _ _ h) p = keep false s t (finishes false s t h) p
  keep_cut s t _ (Cut.rounded _ _ ran) p = keep false s t (rounds false s t ran) p
  keep_cut s t _ (Cut.taking _ m _ ran sound (turn, h)) p =
      keep false m t (goes_out false m t (taken.Turn turn) h) (keep false s m (rounds false s m ran) p)
  keep_cut s t _ (Cut.turning _ m u _ answer takes ran sound after h) p =
      keep false u t (steps_some false (takes.turn).job u t h)
      (keep false m u (takes_turn false m u answer takes) (keep false s m (rounds false s m ran) p))
  keep_cut s t _ (Cut.stepping _ m _ turn least ran sound h) p =
      keep false m t (steps_some false turn.job m t h) (keep false s m (rounds false s m ran) p)
  keep_cut s t _ (Cut.delivering _ m _ ran sound idle h) p =
      keep false m t (delivers_some false 0 m t h) (keep false s m (rounds false s m ran) p)

  pub keep_runs : (s t : CoreState) (events : List Event) (said : List Told) → Runs s events said t → P s → P t
  keep_runs s _ _ _ (Runs.ended _) p = p
  keep_runs s t _ _ (Runs.then _ m _ e events answers more h sound rest) p =
      keep_runs m t events more rest (keep_does s m e answers h p)
  keep_runs s t _ _ (Runs.cut _ m _ e events more h sound rest) p = keep_runs m t events more rest (keep_cut s m e h p)
