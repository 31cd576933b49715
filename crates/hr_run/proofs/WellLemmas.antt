-- Events that stop nothing emit no hook of a stop, and each execution that they make has its plan.
use Rattle.std.proofs.Common.{◌≡◌, ◌≢◌, inl, inr, refl, sym, ap, subst, ◌∙◌, ℕ, Bool, true, false, List, [], ◌∷◌, ◌++◌, arith}
use Rattle.std.specs.List.{AllByRecursion}
use Rattle.std.specs.Prelude.{Option, Some, None, if◌then◌else◌}
use Rattle.hr_base.specs.declared.number.JobNo.{JobNo}
use Rattle.hr_base.specs.declared.status.Hook.{Hook}
use Rattle.hr_base.specs.declared.status.Status.{Status}
use Rattle.hr_base.specs.declared.status.Status.TheVariants as status
use Rattle.hr_event.specs.declared.cause.Cause.{Cause}
use Rattle.hr_event.specs.declared.event.Event.{Event}
use Rattle.hr_event.specs.declared.task.TaskSpec.{TaskSpec}
use Rattle.hr_event.specs.declared.told.Told.{Told}
use Rattle.hr_event.specs.declared.view.Received.{Received}
use Rattle.hr_event.specs.declared.view.Received.TheVariants as received
use Rattle.hr_board.specs.View as board
use Rattle.hr_line.specs.State.{State}
use Rattle.hr_line.specs.Step.{ComesToEnd, end_status, hook_of}
use Rattle.hr_line.specs.declared.answer.Admit.{Admit}
use Rattle.hr_line.specs.declared.answer.Admit.TheVariants as admit
use Rattle.hr_line.specs.declared.answer.Stepped.{Stepped}
use Rattle.hr_line.specs.declared.answer.Stepped.TheVariants as stepped
use Rattle.hr_line.specs.declared.held.Admitted.{Admitted}
use Rattle.hr_line.specs.declared.held.Held.{Held}
use Rattle.hr_lane.specs.Admission.{AdmitsWord}
use Rattle.hr_lane.specs.Word.{Steps}
use Rattle.hr_store.specs.Execution.{ExecState}
use Rattle.hr_store.specs.Receiving.{ReceivesHook}
use Rattle.hr_store.specs.Store.{StoreState, execs_hearing}
use Rattle.hr_store.specs.Sweeping.{is_dropped, kept_by}
use Rattle.hr_run.specs.Run.{Does}
use Rattle.hr_run.specs.State.{CoreState, status_word}
use Rattle.hr_run.proofs.LaneLemmas.{none_given, one_given}
use Rattle.hr_run.proofs.ListLemmas.{all_append}
use Rattle.hr_run.proofs.MoveLemmas.{LaneDid, Move, Moves, does_moves, is_stop, keep_moves}
use Rattle.hr_run.proofs.MoveLemmas.LaneDid.{admits, steps}
use Rattle.hr_run.proofs.MoveLemmas.Move.{calls, fails_to, hears, plants, still, stopped, sweeps}

-- ---- no call of a lane gives the hook of a stop

abbrev pub IsUnstopped : Hook → Type 0
IsUnstopped h = status_word h.status ≢ 4

none_stopped : (more : List Hook) → more ≡ [] → AllByRecursion IsUnstopped more
none_stopped more is = subst (AllByRecursion IsUnstopped) (sym is) tt

one_stopped : (more : List Hook) (h : Hook) → more ≡ h ∷ [] → IsUnstopped h → AllByRecursion IsUnstopped more
one_stopped more h is ok = subst (AllByRecursion IsUnstopped) (sym is) (ok, tt)

come_hooks : (h : Held) (lane mid : State) (why : Option Cause) → ComesToEnd h lane mid why → mid.hooks ≡ lane.hooks
come_hooks h lane mid None comes = comes.1.hooks
come_hooks h lane mid (Some why) (inl line) = line.hooks
come_hooks h lane mid (Some why) (inr rests) = rests.1.hooks

end_unstopped : (why : Option Cause) (st : Status) → st ≡ end_status why → status_word st ≢ 4
end_unstopped None st is e = let k = ap status_word is in omega (arith, e, k)
end_unstopped (Some why) st is e = let k = ap status_word is in omega (arith, e, k)

admit_unstopped : (lane worked : State) (a : Admitted) (v w : board.View) (came : Admit) (more : List Hook) → AdmitsWord lane worked a v w came
    → worked.hooks ≡ more ++ lane.hooks → AllByRecursion IsUnstopped more
admit_unstopped lane worked a v w admit.Began more does gave =
    one_stopped more (hook_of a status.Running) (one_given lane worked (hook_of a status.Running) more does.0.hooks gave) (λ e. omega (arith, e))
admit_unstopped lane worked a v w (admit.Lost mark) more does gave =
    none_stopped more (none_given lane worked more (ap (λ (x : State). x.hooks) does.0) gave)
admit_unstopped lane worked a v w admit.Memory more does gave =
    none_stopped more (none_given lane worked more (ap (λ (x : State). x.hooks) does.0) gave)

step_unstopped : (lane worked : State) (job : JobNo) (v w : board.View) (came : Stepped) (more : List Hook) → Steps lane worked job v w came
    → worked.hooks ≡ more ++ lane.hooks → AllByRecursion IsUnstopped more
step_unstopped lane worked job v w stepped.NotHere more does gave =
    none_stopped more (none_given lane worked more (ap (λ (x : State). x.hooks) does.0.1) gave)
step_unstopped lane worked job v w stepped.Did more does gave = none_stopped more (none_given lane worked more does.0.line.hooks gave)
step_unstopped lane worked job v w (stepped.Lost mark) more (inl does) gave = none_stopped more (none_given lane worked more does.0.hooks gave)
step_unstopped lane worked job v w (stepped.Lost mark) more (inr does) gave =
    let ends = does.0 in
    none_stopped more (none_given lane worked more (ends.closes.1 ∙ come_hooks ends.held lane ends.mid ends.why ends.comes) gave)
step_unstopped lane worked job v w (stepped.Ended st) more does gave =
    let ends = does.0 in
    let hook = hook_of ends.held.by st in
    let hooks : worked.hooks ≡ hook ∷ lane.hooks =
    ends.closes.2 ∙ ap (λ (hs : List Hook). hook ∷ hs) (come_hooks ends.held lane ends.mid ends.why ends.comes) in
    one_stopped more hook (one_given lane worked hook more hooks gave) (end_unstopped ends.why st ends.closes.0)

did_unstopped : (lane worked : State) (v w : board.View) (more : List Hook) → LaneDid lane worked v w → worked.hooks ≡ more ++ lane.hooks
    → AllByRecursion IsUnstopped more
did_unstopped lane worked v w more (admits a came does) gave = admit_unstopped lane worked a v w came more does gave
did_unstopped lane worked v w more (steps job came does) gave = step_unstopped lane worked job v w came more does gave

-- ---- what events that stop nothing keep

abbrev pub IsMade : ExecState → Type 0
IsMade exec = exec.plan_failed ≡ false

heard_made : (hook : Hook) (execs : List ExecState) → AllByRecursion IsMade execs → AllByRecursion IsMade (execs_hearing hook execs)
heard_made hook [] all = tt
heard_made hook (exec ∷ execs) all = (all.0, heard_made hook execs all.1)

kept_if : (exec : ExecState) (left : List ExecState) (b : Bool) → IsMade exec → AllByRecursion IsMade left
    → AllByRecursion IsMade (if b then left else exec ∷ left)
kept_if exec left true one all = all
kept_if exec left false one all = (one, all)

kept_made : (keep : ℕ) (execs : List ExecState) → AllByRecursion IsMade execs → AllByRecursion IsMade (kept_by keep execs)
kept_made keep [] all = tt
kept_made keep (exec ∷ newer) all = kept_if exec (kept_by keep newer) (is_dropped keep exec newer) all.0 (kept_made keep newer all.1)

received_made : (a c : StoreState) (v w : board.View) (hook : Hook) (came : Received) → ReceivesHook a v hook came c w
    → AllByRecursion IsMade a.kept → AllByRecursion IsMade c.kept
received_made a c v w hook received.Unknown h all =
    subst (AllByRecursion IsMade) (sym (ap (λ (x : StoreState). x.kept) h.1)) all
received_made a c v w hook received.Swept h all =
    subst (AllByRecursion IsMade) (sym (ap (λ (x : StoreState). x.kept) h.2)) all
received_made a c v w hook (received.Unconfirmed mark) h all =
    subst (AllByRecursion IsMade) (sym (ap (λ (x : StoreState). x.kept) h.after_is)) all
received_made a c v w hook received.Raised h all =
    subst (AllByRecursion IsMade) (sym (ap (λ (x : StoreState). x.kept) h.after_is)) (heard_made hook a.kept all)
received_made a c v w hook received.Known h all =
    subst (AllByRecursion IsMade) (sym (ap (λ (x : StoreState). x.kept) h.after_is)) (heard_made hook a.kept all)

module _ (P : TaskSpec → Type 0) (specs : List TaskSpec) (each : AllByRecursion P specs) where
  pub record Well (s : CoreState) : Type 0 where
    pub plan : s.plan ≡ Some specs
    pub made : AllByRecursion P s.made
    pub execs : AllByRecursion IsMade s.store.kept
    pub hooks : AllByRecursion IsUnstopped s.hooks

  well_rest : (s t : CoreState) → t.plan ≡ s.plan → t.made ≡ s.made → t.hooks ≡ s.hooks → AllByRecursion IsMade t.store.kept → Well s → Well t
  well_rest s t plan made hooks execs o = record {
    plan = plan ∙ o.plan;
    made = subst (AllByRecursion P) (sym made) o.made;
    execs = execs;
    hooks = subst (AllByRecursion IsUnstopped) (sym hooks) o.hooks;
  }

  same_execs : (s t : CoreState) → t.store ≡ s.store → Well s → AllByRecursion IsMade t.store.kept
  same_execs s t store o = subst (λ (x : StoreState). AllByRecursion IsMade x.kept) (sym store) o.execs

  well_each : (s t : CoreState) → Move false s t → Well s → Well t
  well_each s t (still rest store) o = well_rest s t rest.plan rest.made rest.hooks (same_execs s t store o) o
  well_each s t (calls at lane worked h did) o = record {
    plan = ap (λ (x : CoreState). x.plan) h.after ∙ o.plan;
    made = subst (AllByRecursion P) (sym (ap (λ (x : CoreState). x.made) h.after)) o.made;
    execs = same_execs s t (ap (λ (x : CoreState). x.store) h.after) o;
    hooks = subst (AllByRecursion IsUnstopped) (sym h.hooks)
        (all_append IsUnstopped s.hooks h.more o.hooks (did_unstopped lane worked _ _ h.more did h.gave));
  }
  well_each s t (plants h) o =
      let planned : Some specs ≡ Some h.specs = sym o.plan ∙ h.planned in
      let same : specs ≡ h.specs = cc in
      record {
        plan = h.plan ∙ o.plan;
        made = subst (AllByRecursion P) (sym h.made) (all_append P s.made h.specs o.made (subst (AllByRecursion P) same each));
        execs = subst (AllByRecursion IsMade) (sym (ap (λ (x : StoreState). x.kept) h.created.after_is))
            (all_append IsMade s.store.kept _ o.execs (refl, tt));
        hooks = subst (AllByRecursion IsUnstopped) (sym h.hooks) o.hooks;
      }
  well_each s t (fails_to h) o = absurd (let both = sym o.plan ∙ h.none in cc)
  well_each s t (hears v w hook came rest h) o =
      well_rest s t rest.plan rest.made rest.hooks (received_made s.store t.store v w hook came h o.execs) o
  well_each s t (sweeps keep count rest h) o =
      well_rest s t rest.plan rest.made rest.hooks (subst (AllByRecursion IsMade) (sym (ap (λ (x : StoreState). x.kept) h.after_is))
      (kept_made keep s.store.kept o.execs)) o
  well_each s t (stopped allowed h) o = absurd (cc)

  pub well_does : (s t : CoreState) (e : Event) (answers : List Told) → is_stop e ≡ false → Does s e answers t → Well s → Well t
  well_does s t e answers calm does o =
      keep_moves false Well well_each s t (subst (λ (b : Bool). Moves b s t) calm (does_moves s t e answers does)) o

-- before the first event
pub opens_well : (P : TaskSpec → Type 0) (specs : List TaskSpec) (each : AllByRecursion P specs) (s : CoreState) → s.plan ≡ Some specs
    → s.made ≡ [] → s.store.kept ≡ [] → s.hooks ≡ [] → Well P specs each s
opens_well P specs each s plan made kept hooks = record {
  plan = plan;
  made = subst (AllByRecursion P) (sym made) tt;
  execs = subst (AllByRecursion IsMade) (sym kept) tt;
  hooks = subst (AllByRecursion IsUnstopped) (sym hooks) tt;
}
