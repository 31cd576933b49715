use Rattle.std.proofs.Common.{◌≡◌, ◌∙◌, ◌++◌, ap, sym, subst, refl, rules, ℕ, List, length, reverse, take, drop}
use Rattle.std.specs.Prelude.{IsSome, Option}
use Rattle.hr_base.specs.declared.status.Hook.{Hook}
use Rattle.hr_event.specs.declared.entry.Entry.{Entry}
use Rattle.hr_adapter.specs.Reg.{Reg}
use Rattle.hr_line.specs.State.{State, held_at}
use Rattle.hr_line.specs.declared.held.Admitted.{Admitted}
use Rattle.hr_line.specs.declared.held.Held.{Held}
use Rattle.hr_lane.specs.Conn.{links_of}
use Rattle.hr_lane.specs.State.{IsReady, state_of}
use Rattle.hr_lane.specs.declared.conn.Conn.{Conn}
use Rattle.hr_lane.proofs.ReadyLemmas.{AllCanStep, ready_now, steps_can}
use Rattle.hr_lane.proofs.StepLemmas.{held_job, lent_back, same_job, state_back, steps_as, taken_free, taken_job, taken_out}
use Rattle.hr_lane.proofs.lane.Lane.step.Goals as goal

pub step_held-requires-clause-free : goal.step_held-requires-clause-free
step_held-requires-clause-free g c =
    taken_free c.args.job.0 c.in-Some.held c.self.inside.holding.held c.take.new.self.held c.in-Some.ensures.value
    c.take.ensures.gone

pub step_held-requires-clause-job : goal.step_held-requires-clause-job
step_held-requires-clause-job g c =
    taken_job c.args.self.now c.args.job.0 _ c.in-Some.held c.self.inside.holding.held
    (ap (λ (s : State). s.held) c.self.view_is) c.in-Some.ensures.value c.requires.job

-- the connections as they were lent
state_lent : {A : Type 0} (seen : A → Reg) (s s2 d d2 : List (Conn A)) (log : List Entry) (hooks : List Hook)
    (admitted : List Admitted) (held : List Held) → s ≡ s2 → d ≡ d2
    → state_of (links_of seen s) (links_of seen d) log hooks admitted held
    ≡ state_of (links_of seen s2) (links_of seen d2) log hooks admitted held
state_lent {A} seen s s2 d d2 log hooks admitted held one two =
    ap (λ (x : List (Conn A)). state_of (links_of seen x) (links_of seen d) log hooks admitted held) one
    ∙ ap (λ (x : List (Conn A)). state_of (links_of seen s2) (links_of seen x) log hooks admitted held) two

pub invariant_of-self-2 : goal.invariant_of-self-2
invariant_of-self-2 g c =
    let seen = g.A.Registry.seen in
    let sl : length c.step_held.new.sources ≡ c.self.inside.sources.len = search rules in
    let dl : length c.step_held.new.dests ≡ c.self.inside.dests.len = search rules in
    let bl : length c.step_held.new.buf ≡ c.self.inside.buf.len = search rules in
    let bi : c.self.inside.buf.len ≡ length c.self.inside.buf.items =
    sym c.deref_mut-3.ensures.len ∙ ap (λ (xs : List ℕ). length xs) c.deref_mut-3.ensures.value in
    let there : IsSome (held_at c.self.inside.holding.held c.args.job.0) =
    subst (λ (o : Option Held). IsSome o) c.in-Some.ensures.value refl in
    let admitted = reverse c.self.inside.admitted.items in
    let full = ap (λ (xs : List ℕ). length xs)
    (lent_back c.self.inside.buf.len c.step_held.new.buf c.self.inside.buf.items bl) ∙ bl ∙ bi
    ∙ c.self.invariant.buffer_full c.args.job.0 there in
    let each = steps_can _ _ c.in-Some.held.by.job _ _ c.step_held.result
    (c.step_held.ensures.steps admitted c.self.inside.holding.held
    (taken_out c.args.job.0 c.in-Some.held c.self.inside.holding.held c.take.new.self.held c.in-Some.ensures.value
    c.take.ensures.gone))
    (subst AllCanStep (sym (state_lent seen c.deref_mut.result.now c.self.inside.sources.items c.deref_mut-2.result.now
    c.self.inside.dests.items c.self.inside.log.newest c.self.inside.hooks.newest admitted c.self.inside.holding.held
    c.deref_mut.ensures.value c.deref_mut-2.ensures.value)) c.self.invariant.each) in
    subst (λ (s : State). IsReady s c.step_held.new.log.room c.step_held.new.hooks.room (length (take c.self.inside.buf.len
    (c.step_held.new.buf ++ drop (length c.step_held.new.buf) c.self.inside.buf.items))))
    (state_back seen c.self.inside.sources.len c.self.inside.dests.len c.step_held.new.sources
    c.self.inside.sources.items c.step_held.new.dests c.self.inside.dests.items c.step_held.new.log.newest
    c.step_held.new.hooks.newest admitted c.step_held.new.holding.held sl dl)
    (ready_now _ _ _ _ c.step_held.ensures.sources c.step_held.ensures.dests each c.step_held.ensures.room.0
    c.step_held.ensures.room.1 full)

pub returns-clause-steps : goal.returns-clause-steps
returns-clause-steps g c =
    let seen = g.A.Registry.seen in
    let sl : length c.step_held.new.sources ≡ c.self.inside.sources.len = search rules in
    let dl : length c.step_held.new.dests ≡ c.self.inside.dests.len = search rules in
    let admitted = reverse c.self.inside.admitted.items in
    steps_as _ c.args.self.now _ _ c.in-Some.held.by.job c.args.job _ _ c.step_held.result
    (state_lent seen c.deref_mut.result.now c.self.inside.sources.items c.deref_mut-2.result.now
    c.self.inside.dests.items c.self.inside.log.newest c.self.inside.hooks.newest admitted c.self.inside.holding.held
    c.deref_mut.ensures.value c.deref_mut-2.ensures.value ∙ c.self.view_is)
    (state_back seen c.self.inside.sources.len c.self.inside.dests.len c.step_held.new.sources
    c.self.inside.sources.items c.step_held.new.dests c.self.inside.dests.items c.step_held.new.log.newest
    c.step_held.new.hooks.newest admitted c.step_held.new.holding.held sl dl)
    (same_job c.args.job c.in-Some.held
    (held_job c.self.inside.holding.held c.args.job.0 c.in-Some.held (sym c.in-Some.ensures.value)))
    (c.step_held.ensures.steps admitted c.self.inside.holding.held
    (taken_out c.args.job.0 c.in-Some.held c.self.inside.holding.held c.take.new.self.held c.in-Some.ensures.value
    c.take.ensures.gone))
