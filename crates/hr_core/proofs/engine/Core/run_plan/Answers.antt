use Rattle.std.proofs.Common.{◌≡◌, ap, subst, sym, inl, ℕ, ◌+◌, ◌≤◌, ◌++◌, length, arith, rules}
use Rattle.std.specs.Prelude.{Some}
use Rattle.hr_queue.specs.View.{times_added}
use Rattle.hr_run.specs.Ready.{IsReady}
use Rattle.hr_run.specs.State.{CoreState, queued_from}
use Rattle.hr_core.proofs.PlanLemmas.{created_made, jobs_are_fit, jobs_are_new, length_queued}
use Rattle.hr_core.proofs.engine.Core.run_plan.Goals as goal

pub add-requires-clause-fit : goal.add-requires-clause-fit
add-requires-clause-fit g c =
    let ready = subst IsReady (sym c.self.view_is) c.requires.ready in
    let planned = subst (λ (p : CoreState). p.plan ≡ Some c.args.specs) (sym c.self.view_is) c.requires.planned in
    let is : c.deref.result.now ≡ queued_from (length c.self.inside.made) c.args.specs = search rules in
    let few : length c.self.inside.made + length c.args.specs ≤ c.self.inside.store.limit = search rules in
    jobs_are_fit _ c.args.specs c.deref.result.now ready planned is few

pub add-requires-clause-new : goal.add-requires-clause-new
add-requires-clause-new g c =
    let ready = subst IsReady (sym c.self.view_is) c.requires.ready in
    let is : c.deref.result.now ≡ queued_from (length c.self.inside.made) c.args.specs = search rules in
    let new = jobs_are_new _ c.args.specs c.deref.result.now ready is in
    let added : c.reserve.new.self.added ≡ c.self.inside.turns.added = search rules in
    subst (λ qs. (job : ℕ) → times_added (qs ++ c.deref.result.now) job ≤ 1) (sym added) new

pub add-requires-clause-room : goal.add-requires-clause-room
add-requires-clause-room g c =
    let is : c.deref.result.now ≡ queued_from (length c.self.inside.made) c.args.specs = search rules in
    let n = ap length is in
    let l = length_queued (length c.self.inside.made) c.args.specs in
    let count = ap length c.view-count.ensures in
    let ok = c.in_ok-reserve.ensures.ok in
    omega (arith, n, l, count, ok)

pub returns-in-Ok-clause-ok : goal.returns-in-Ok-clause-ok
returns-in-Ok-clause-ok g c =
    let is : c.deref.result.now ≡ queued_from (length c.self.inside.made) c.args.specs = search rules in
    inl (created_made _ c.args.self.now c.args.specs c.reserve.new.self c.add.new.self c.deref.result.now c.create.new.self
    c.add.new.board c.with-made.result c.in-Ok.exec _ c.self.view_is c.requires.planned c.reserve.ensures.unchanged
    c.is_sound.ensures c.in-Ok.ensures is c.add.ensures.adds (search rules) (search rules))
