-- The rounds of a finish, by what their calls did.
use Rattle.std.proofs.Common.{◌≡◌, ◌⊎◌, inl, inr, refl, sym, ap, subst, ◌∙◌, zero, suc, ℕ, ◌+◌, ◌<◌, ◌≤◌, Bool, true, false, List, [], ◌∷◌, length, arith}
use Rattle.std.proofs.lemmas.Bool.Decides.{nat_tests}
use Rattle.std.specs.List.{Contains}
use Rattle.std.specs.Prelude.{Some, None, Result, Ok, Err, IfOk, OnErr, OnOk, cond, nat_lt, slice_get}
use Rattle.hr_base.specs.declared.memory.Memory.{Memory}
use Rattle.hr_base.specs.declared.number.JobNo.{JobNo}
use Rattle.hr_event.specs.declared.event.Event.{Event}
use Rattle.hr_event.specs.declared.event.Event.TheVariants as event
use Rattle.hr_event.specs.declared.task.Turn.{Turn}
use Rattle.hr_event.specs.declared.told.Told.{Told}
use Rattle.hr_event.specs.declared.told.Told.TheVariants as told
use Rattle.hr_event.specs.declared.view.Received.{Received}
use Rattle.hr_board.specs.Plain.{Plain, view_of}
use Rattle.hr_line.specs.declared.answer.Stepped.{Stepped}
use Rattle.hr_queue.specs.ByJob.{AllAbove, IsOut, IsRising, rank}
use Rattle.hr_queue.specs.Settling.{Settles}
use Rattle.hr_queue.specs.View as queue
use Rattle.hr_queue.specs.declared.answer.Settled.{Settled}
use Rattle.hr_queue.specs.declared.answer.Taken.{Taken}
use Rattle.hr_queue.specs.declared.answer.Taken.TheVariants as taken
use Rattle.hr_run.specs.Finish.{DeliversFrom, Finishes, Rounds, RunsRounds, StepsOut}
use Rattle.hr_run.specs.Ready.{IsReady}
use Rattle.hr_run.specs.Run.{Cut, DeliversSome, Does, StepsSome, TakeCut}
use Rattle.hr_run.specs.Sound.{IsSound}
use Rattle.hr_run.specs.State.{CoreState, was_delivered}
use Rattle.hr_run.specs.Turning.{AdmitsTurn, FindsSwept, GoesOut, NoneHolds, SettlesOut, TakesTurn, settled_told}
use Rattle.hr_core.specs.Hooks.{GivesHook}
use Rattle.hr_core.specs.Marks.{AreSet}
use Rattle.hr_core.specs.Lanes.{DidStep, StepsAt}
use Rattle.hr_core.specs.Rounds.{Begins, BeginsNext, GivesBack, IsBusy, RoundCame, RoundCut, RunsRound, StepsAway}
use Rattle.hr_core.specs.Rounds.RoundCut.{stepping, taking, turning}
use Rattle.hr_core.proofs.StateLemmas.{out_on_board}
use Rattle.hr_core.proofs.TurnLemmas.{did_step, out_contains}

-- what each event and each front of one leaves
abbrev pub StaysDone : Type 0
StaysDone = (s t : CoreState) (e : Event) (answers : List Told) → IsReady s → IsSound s → IsSound t → Does s e answers t → IsReady t

abbrev pub StaysCut : Type 0
StaysCut = (s t : CoreState) (e : Event) → IsReady s → IsSound s → IsSound t → Cut s e t → IsReady t

-- ---- a turn is begun

turns_only : (s t : CoreState) (came : Taken) → GoesOut s came t → t.turns ≡ s.turns → (t ≡ s) × GoesOut s came s
turns_only s t came goes same =
    let is : t ≡ s = goes.after ∙ ap (λ (q : queue.View). record s { turns = q }) same in
    (is, subst (λ (x : CoreState). GoesOut s came x) is goes)

pub begins_none : (s t : CoreState) (came : Taken) → ((turn : Turn) → came ≡ taken.Turn turn → ⊥) → GoesOut s came t
    → BeginsNext s came t
begins_none s t (taken.Turn turn) other goes = absurd (other turn refl)
begins_none s t (taken.Later due) other goes = turns_only s t (taken.Later due) goes goes.takes.0
begins_none s t (taken.Busy out) other goes = turns_only s t (taken.Busy out) goes goes.takes.0
begins_none s t taken.Idle other goes = turns_only s t taken.Idle goes goes.takes.0

admitted_turns : (m t : CoreState) (turn : Turn) (answer : Told) → AdmitsTurn m turn answer t ⊎ FindsSwept m turn answer t
    → t.turns ≡ m.turns
admitted_turns m t turn answer (inl h) = ap (λ (x : CoreState). x.turns) h.calls.after
admitted_turns m t turn answer (inr h) = ap (λ (x : CoreState). x.turns) h.after

pub begins_made : (s m t : CoreState) (came : Taken) (turn : Turn) (answer : Told) → StaysDone → IsReady s → IsSound s → IsSound m
    → IsSound t → came ≡ taken.Turn turn → GoesOut s came m → Contains m.turns.out turn
    → AdmitsTurn m turn answer t ⊎ FindsSwept m turn answer t → BeginsNext s came t
begins_made s m t came turn answer stays ready before mid after is goes out admits =
    let takes : TakesTurn s answer t =
    record { turn = turn; mid = m; out = subst (λ (c : Taken). GoesOut s c m) is goes; sound = mid; admits = admits } in
    subst (λ (c : Taken). BeginsNext s c t) (sym is) (record {
      answer = answer;
      takes = takes;
      same = refl;
      ready = stays s t event.Take (answer ∷ []) ready before after (answer, refl, inl takes);
      sound = after;
      out = subst (λ (q : queue.View). Contains q.out turn) (sym (admitted_turns m t turn answer admits)) out;
    })

pub begins_cut : (s m t : CoreState) (came : Taken) (turn : Turn) → came ≡ taken.Turn turn → GoesOut s came m → t ≡ m → TakeCut s t
begins_cut s m t came turn is goes same =
    (turn, subst (λ (x : CoreState). GoesOut s (taken.Turn turn) x) (sym same) (subst (λ (c : Taken). GoesOut s c m) is goes))

-- ---- a job is stepped until no lane holds it

stepped_turns : (s t : CoreState) (at : ℕ) (job : JobNo) (came : Stepped) → StepsAt s at job came t → t.turns ≡ s.turns
stepped_turns s t at job came does = ap (λ (x : CoreState). x.turns) does.calls.after

-- one step more
module _ (o s m : CoreState) (at : ℕ) (job : JobNo) (came : Stepped) (does : StepsAt s at job came m) (sound : IsSound m) where
  did : DidStep s job m
  did = did_step s m at job came does

  pub step_outs : ((t : CoreState) → StepsOut job s t → StepsOut job o t) → (t : CoreState) → StepsOut job m t → StepsOut job o t
  step_outs outs t rest = outs t (StepsOut.step s m t did.0 did.1 sound rest)

  pub step_some : ((t : CoreState) → StepsSome job s t → StepsSome job o t) → (t : CoreState) → StepsSome job m t → StepsSome job o t
  step_some some t rest = some t (StepsSome.step s m t did.0 did.1 sound rest)

  pub step_ready : StaysDone → IsReady s → IsSound s → IsReady m
  step_ready stays ready before = stays s m (event.Step job) (did.0 ∷ []) ready before sound (did.0, refl, inl did.1)

  pub step_turns : m.turns ≡ s.turns
  step_turns = stepped_turns s m at job came does

pub steps_cut : (o s t : CoreState) (job : JobNo) → ((u : CoreState) → StepsSome job s u → StepsSome job o u) → t ≡ s
    → StepsSome job o t
steps_cut o s t job some same = subst (λ (x : CoreState). StepsSome job o x) (sym same) (some s (StepsSome.rests s))

pub steps_away : (o s : CoreState) (turn : Turn) → ((u : CoreState) → StepsOut turn.job s u → StepsOut turn.job o u) → IsReady s
    → s.turns ≡ o.turns → Contains o.turns.out turn → NoneHolds s.lanes turn.job → StepsAway o turn s
steps_away o s turn outs ready same out none = record {
  steps = outs s (StepsOut.gone s none);
  none = none;
  ready = ready;
  out = subst (λ (q : queue.View). Contains q.out turn) (sym same) out;
}

-- ---- a turn is given back

rank_zero : (a b : ℕ) → a ≡ b → nat_lt a b ≡ false
rank_zero a b e = grind (arith, nat_tests)

rank_more : (a b : ℕ) → a < b → nat_lt a b ≡ true
rank_more a b e = grind (arith, nat_tests)

above_there : (least : ℕ) (ts : List Turn) (t : Turn) → AllAbove least ts → Contains ts t → least < t.job.0
above_there least [] t above c = absurd (omega (arith, c.1))
above_there least (u ∷ us) t above (zero, l, e) = subst (λ (x : Turn). least < x.job.0) e above.0
above_there least (u ∷ us) t above (suc k, l, e) = above_there least us t above.1 (k, omega (arith, l), e)

-- turns by job number stand at their ranks
rising_rank : (ts : List Turn) (t : Turn) → IsRising ts → Contains ts t → slice_get ts (rank t.job.0 ts) ≡ Some t
rising_rank [] t rising c = absurd (omega (arith, c.1))
rising_rank (u ∷ us) t rising (zero, l, e) =
    let same : u ≡ t = e in
    let none = rank_zero u.job.0 t.job.0 (ap (λ (x : Turn). x.job.0) same) in
    ap (λ (b : Bool). slice_get (u ∷ us) (cond b (suc (rank t.job.0 us)) 0)) none ∙ ap (λ (x : Turn). Some x) same
rising_rank (u ∷ us) t rising (suc k, l, e) =
    let c : Contains us t = (k, omega (arith, l), e) in
    let less = rank_more u.job.0 t.job.0 (above_there u.job.0 us t rising.0 c) in
    ap (λ (b : Bool). slice_get (u ∷ us) (cond b (suc (rank t.job.0 us)) 0)) less ∙ rising_rank us t rising.1 c

pub turn_fits : (before now : CoreState) (turn : Turn) → before ≡ now → IsReady now → Contains now.turns.out turn
    → turn.job.0 ≤ (view_of before.board).jobs
turn_fits before now turn same ready out =
    subst (λ (x : CoreState). turn.job.0 ≤ (view_of x.board).jobs) (sym same) (out_on_board now turn ready out).job.within

pub gives_back : (before now : CoreState) (turn : Turn) (turns : queue.View) (board : Plain) (came : Settled) → before ≡ now
    → IsReady now → Contains now.turns.out turn → NoneHolds now.lanes turn.job
    → Settles before.now before.turns (view_of before.board) turn came turns (view_of board)
    → GivesBack now turn.job (record before { board = board; turns = turns })
gives_back before now turn turns board came same ready out none (inr h) = (
  settled_told turn.job came,
  subst (λ (x : CoreState). SettlesOut x turn.job (settled_told turn.job came) (record before { board = board; turns = turns })) same
      (record {
        turn = turn;
        of_job = refl;
        none = subst (λ (x : CoreState). NoneHolds x.lanes turn.job) (sym same) none;
        came = came;
        settles = h;
        tells = refl;
        after = refl;
      }),
)
gives_back before now turn turns board came same ready out none (inl n) =
    let there : IsOut now.turns.out turn turn =
    record { there = rising_rank now.turns.out turn ready.holds.whole.turns.rising out; job = refl; rev = refl } in
    absurd (n.none turn (subst (λ (x : CoreState). IsOut x.turns.out turn turn) (sym same) there))

-- ---- a round

pub rounds_made : (s m t : CoreState) (turn : Turn) → StepsAway s turn m → GivesBack m turn.job t → Rounds s turn.job t
rounds_made s m t turn away gives = record { mid = m; steps = away.steps; answer = gives.0; settles = gives.1 }

-- what was stepped away was stepped some times
some_of : (job : JobNo) (s t : CoreState) → StepsOut job s t → StepsSome job s t
some_of job s _ (StepsOut.gone _ none) = StepsSome.rests s
some_of job s t (StepsOut.step _ m _ answer does sound rest) = StepsSome.step s m t answer does sound (some_of job m t rest)

pub turn_ran : (s m t : CoreState) (turn : Turn) (r : Result Bool Memory) → Begins s turn m
    → IfOk r (λ more. (more ≡ true) × Rounds m turn.job t) → IfOk r (λ more. RoundCame s more t)
turn_ran s m t turn (Ok more) begun (is, rounds) =
    subst (λ (b : Bool). RoundCame s b t) (sym is) (inl (record {
      mid = m;
      answer = begun.answer;
      takes = begun.takes;
      sound = begun.sound;
      rounds = subst (λ (x : Turn). Rounds m x.job t) (sym begun.same) rounds;
    }))
turn_ran s m t turn (Err why) begun ran = tt

pub turn_cut : (s m t : CoreState) (turn : Turn) (r : Result Bool Memory) → Begins s turn m
    → OnErr r (StepsSome turn.job m t) → OnErr r (RoundCut s t)
turn_cut s m t turn (Ok more) begun some = tt
turn_cut s m t turn (Err why) begun some =
    turning m begun.answer begun.takes begun.sound (subst (λ (x : Turn). StepsSome x.job m t) (sym begun.same) some)

pub least_ran : (s t : CoreState) (turn : Turn) (r : Result Bool Memory) → IsBusy s → slice_get s.turns.out 0 ≡ Some turn
    → IfOk r (λ more. (more ≡ true) × Rounds s turn.job t) → IfOk r (λ more. RoundCame s more t)
least_ran s t turn (Ok more) busy least (is, rounds) =
    subst (λ (b : Bool). RoundCame s b t) (sym is)
    (inr (inl (record { out = busy.0; busy = busy.1; turn = turn; least = least; rounds = rounds })))
least_ran s t turn (Err why) busy least ran = tt

pub least_cut : (s t : CoreState) (turn : Turn) (r : Result Bool Memory) → slice_get s.turns.out 0 ≡ Some turn
    → OnErr r (StepsSome turn.job s t) → OnErr r (RoundCut s t)
least_cut s t turn (Ok more) least some = tt
least_cut s t turn (Err why) least some = stepping turn least some

first_there : (ts : List Turn) → slice_get ts 0 ≡ None → length ts ≡ 0
first_there [] e = refl
first_there (t ∷ ts) e = absurd (cc)

-- where turns are out, there is one of the least job
pub busy_some : (s : CoreState) → IsBusy s → slice_get s.turns.out 0 ≡ None → ⊥
busy_some s busy none =
    let n = first_there s.turns.out none in
    let len = busy.1.takes.3.1 in
    let some = busy.1.takes.3.2 in
    omega (arith, n, len, some)

pub least_there : (s : CoreState) (turn : Turn) → slice_get s.turns.out 0 ≡ Some turn → Contains s.turns.out turn
least_there s turn least = out_contains s.turns.out 0 turn least

-- a round from the same state
pub came_from : (s m t : CoreState) (r : Result Bool Memory) → m ≡ s → IfOk r (λ more. RoundCame m more t)
    → IfOk r (λ more. RoundCame s more t)
came_from s m t (Ok more) same came = subst (λ (x : CoreState). RoundCame x more t) same came
came_from s m t (Err why) same came = tt

pub cut_from : (s m t : CoreState) (r : Result Bool Memory) → m ≡ s → OnErr r (RoundCut m t) → OnErr r (RoundCut s t)
cut_from s m t (Ok more) same cut = tt
cut_from s m t (Err why) same cut = subst (λ (x : CoreState). RoundCut x t) same cut

-- ---- a finish

pub more_rounds : (o s m : CoreState) → ((t : CoreState) → RunsRounds s t → RunsRounds o t) → RunsRound s m → IsSound m
    → (t : CoreState) → RunsRounds m t → RunsRounds o t
more_rounds o s m ran (inl h) sound t rest = ran t (RunsRounds.turn s m t h sound rest)
more_rounds o s m ran (inr (inl h)) sound t rest = ran t (RunsRounds.out s m t h sound rest)
more_rounds o s m ran (inr (inr h)) sound t rest = ran t (RunsRounds.on s m t h sound rest)

pub rounds_ready : (o s : CoreState) → StaysCut → IsReady o → IsSound o → IsSound s → ((t : CoreState) → RunsRounds s t → RunsRounds o t)
    → IsReady s
rounds_ready o s stays ready before sound ran = stays o s event.Finish ready before sound (Cut.rounded o s (ran s (RunsRounds.none s)))

pub rounds_over : (o s : CoreState) → ((t : CoreState) → RunsRounds s t → RunsRounds o t) → Cut o event.Finish s
rounds_over o s ran = Cut.rounded o s (ran s (RunsRounds.none s))

pub cut_round : (o s t : CoreState) → ((u : CoreState) → RunsRounds s u → RunsRounds o u) → IsSound s → RoundCut s t → Cut o event.Finish t
cut_round o s t ran sound (taking h) = Cut.taking o s t (ran s (RunsRounds.none s)) sound h
cut_round o s t ran sound (turning u answer takes mid some) =
    Cut.turning o s u t answer takes (ran s (RunsRounds.none s)) sound mid some
cut_round o s t ran sound (stepping turn least some) = Cut.stepping o s t turn least (ran s (RunsRounds.none s)) sound some

pub finish_made : (o s m t : CoreState) (r : Result Unit Memory) → ((u : CoreState) → RunsRounds s u → RunsRounds o u)
    → (m ≡ s) × GoesOut s taken.Idle s → OnOk r (DeliversFrom 0 m t) → OnOk r (Finishes o t)
finish_made o s m t (Ok done) ran (same, idle) delivers = record {
  mid = s;
  rounds = ran s (RunsRounds.none s);
  idle = idle;
  delivers = subst (λ (x : CoreState). DeliversFrom 0 x t) same delivers;
}
finish_made o s m t (Err why) ran idle delivers = tt

pub finish_cut : (o s m t : CoreState) (r : Result Unit Memory) → ((u : CoreState) → RunsRounds s u → RunsRounds o u) → IsSound s
    → (m ≡ s) × GoesOut s taken.Idle s → OnErr r (DeliversSome 0 m t) → OnErr r (Cut o event.Finish t)
finish_cut o s m t (Ok done) ran sound idle some = tt
finish_cut o s m t (Err why) ran sound (same, idle) some =
    Cut.delivering o s t (ran s (RunsRounds.none s)) sound idle (subst (λ (x : CoreState). DeliversSome 0 x t) same some)

-- ---- deliveries

module _ (o s : CoreState) (place : ℕ) where
  pub again_from : was_delivered s.delivered (suc place) ≡ true → ((t : CoreState) → DeliversFrom place s t → DeliversFrom 0 o t)
      → (t : CoreState) → DeliversFrom (place + 1) s t → DeliversFrom 0 o t
  again_from heard from t rest =
      from t (DeliversFrom.again place s t heard
      (subst (λ (n : ℕ). DeliversFrom n s t) (let e : place + 1 ≡ suc place = omega arith in e) rest))

  pub again_some : was_delivered s.delivered (suc place) ≡ true → ((t : CoreState) → DeliversSome place s t → DeliversSome 0 o t)
      → (t : CoreState) → DeliversSome (place + 1) s t → DeliversSome 0 o t
  again_some heard some t rest =
      some t (DeliversSome.again place s t heard
      (subst (λ (n : ℕ). DeliversSome n s t) (let e : place + 1 ≡ suc place = omega arith in e) rest))

module _ (o s m : CoreState) (place : ℕ) (came : Received) (unheard : was_delivered s.delivered (suc place) ≡ false)
    (gives : GivesHook s place came m) (sound : IsSound m) where
  pub one_from : ((t : CoreState) → DeliversFrom place s t → DeliversFrom 0 o t) → (t : CoreState) → DeliversFrom (place + 1) m t
      → DeliversFrom 0 o t
  one_from from t rest =
      from t (DeliversFrom.one place s m t (told.Heard (suc place) came) unheard gives sound
      (subst (λ (n : ℕ). DeliversFrom n m t) (let e : place + 1 ≡ suc place = omega arith in e) rest))

  pub one_some : ((t : CoreState) → DeliversSome place s t → DeliversSome 0 o t) → (t : CoreState) → DeliversSome (place + 1) m t
      → DeliversSome 0 o t
  one_some some t rest =
      some t (DeliversSome.one place s m t (told.Heard (suc place) came) unheard gives sound
      (subst (λ (n : ℕ). DeliversSome n m t) (let e : place + 1 ≡ suc place = omega arith in e) rest))

  pub one_ready : StaysDone → IsReady s → IsSound s → IsReady m
  one_ready stays ready before =
      stays s m (event.Deliver (suc place)) (told.Heard (suc place) came ∷ []) ready before sound
      (told.Heard (suc place) came, refl, inl gives)

  pub one_hooks : m.hooks ≡ s.hooks
  one_hooks = ap (λ (x : CoreState). x.hooks) gives.after

pub delivers_cut : (o s t : CoreState) (place : ℕ) → ((u : CoreState) → DeliversSome place s u → DeliversSome 0 o u) → t ≡ s
    → DeliversSome 0 o t
delivers_cut o s t place some same = subst (λ (x : CoreState). DeliversSome 0 o x) (sym same) (some s (DeliversSome.ends place s))

pub delivers_all : (o s : CoreState) (place : ℕ) → ((u : CoreState) → DeliversFrom place s u → DeliversFrom 0 o u)
    → length s.hooks ≤ place → DeliversFrom 0 o s
delivers_all o s place from past = from s (DeliversFrom.all place s past)

-- what was delivered at the front is passed
pub passes_from : (s : CoreState) (front : ℕ) → AreSet s.delivered front → (t : CoreState) → DeliversFrom front s t → DeliversFrom 0 s t
passes_from s zero set t rest = rest
passes_from s (suc n) set t rest =
    passes_from s n (λ place less. set place (omega (arith, less))) t (DeliversFrom.again n s t (set n (omega arith)) rest)

pub passes_some : (s : CoreState) (front : ℕ) → AreSet s.delivered front → (t : CoreState) → DeliversSome front s t → DeliversSome 0 s t
passes_some s zero set t rest = rest
passes_some s (suc n) set t rest =
    passes_some s n (λ place less. set place (omega (arith, less))) t (DeliversSome.again n s t (set n (omega arith)) rest)

-- ---- answers

pub on_err : {X : Type 0} (r : Result X Memory) (P : Type 0) → P → OnErr r P
on_err (Ok x) P p = tt
on_err (Err why) P p = p

-- no round was left
pub idle_of : (s m : CoreState) (more : Bool) → more ≡ false → RoundCame s more m → (m ≡ s) × GoesOut s taken.Idle s
idle_of s m true is came = absurd (cc)
idle_of s m false is came = came

pub round_of : (s m : CoreState) (more : Bool) → more ≡ true → RoundCame s more m → RunsRound s m
round_of s m false is came = absurd (cc)
round_of s m true is came = came

-- what a loop of deliveries keeps
pub record Delivering (o s : CoreState) (place : ℕ) : Type 0 where
  pub from : (t : CoreState) → DeliversFrom place s t → DeliversFrom 0 o t
  pub some : (t : CoreState) → DeliversSome place s t → DeliversSome 0 o t
  pub ready : IsReady s
  pub sound : IsSound s
  pub hooks : s.hooks ≡ o.hooks
