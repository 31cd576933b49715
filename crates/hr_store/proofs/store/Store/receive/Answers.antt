use Rattle.std.proofs.Common.{sym, subst, List}
use Rattle.hr_store.specs.Execution.{ExecState}
use Rattle.hr_store.specs.Store.{IsSound}
use Rattle.hr_store.proofs.ReceivingLemmas.{heard-hook, receives-known, receives-raised, right-job, right-place, taken}
use Rattle.hr_store.proofs.SoundLemmas.{sound-heard}
use Rattle.hr_store.proofs.store.Store.receive.Goals as goal
use Rattle.hr_store.proofs.store.Store.receive.Goals.{else-receive, then-receive}

pub receive-requires-clause-place : goal.receive-requires-clause-place
receive-requires-clause-place g c = λ e there. right-place c.self.inside.kept c.args.hook c.in-Some.at c.in-Some.place e c.in-Some.ensures there

pub receive-requires-clause-job : goal.receive-requires-clause-job
receive-requires-clause-job g c = λ e row there at. right-job c.self.inside.kept c.args.hook c.in-Some.at c.in-Some.place e row c.self.invariant.ordered c.in-Some.ensures there at

pub invariant_of-self : goal.invariant_of-self
invariant_of-self g c =
    let P : List ExecState → Type 0 = λ ks. IsSound c.self.inside.limit c.self.inside.jobs c.self.inside.made ks c.self.inside.counts in
    let k = taken c.self.inside.kept c.receive.new.self c.args.hook c.in-Some.at c.in-Some.place c.receive.result c.self.invariant.ordered c.in-Some.ensures c.receive.ensures in
    subst P (sym k.1) (sound-heard _ _ _ c.args.hook _ _ c.self.invariant)

pub returns-clause-receives : goal.returns-clause-receives
returns-clause-receives g c =
    let k = heard-hook c.self.inside.limit c.self.inside.jobs c.self.inside.made c.self.inside.kept c.receive.new.self (g.B.Board.seen c.args.board.now) (g.B.Board.seen c.look-mark.new.self) c.args.hook c.look-mark.result
    c.in-Some.at c.in-Some.place c.receive.result c.self.invariant.ordered c.in-Some.ensures c.receive.ensures
    (record { finds = c.look-mark.ensures.found; after_is = c.look-mark.ensures.noted }) (c.covers.ensures.0 c.if-not-covers.false) in
    rw (← c.self.view_is) (elim c.if-receive.branch [
      | then-receive w ↦ receives-raised _ _ _ _ c.args.hook c.receive.result c.if-receive.result w.if-receive.true w.result-is k
      | else-receive w ↦ receives-known _ _ _ _ c.args.hook c.receive.result c.if-receive.result w.if-receive.false w.result-is k
    ])
