use Rattle.std.proofs.Common.{sym, subst, reverse}
use Rattle.std.specs.Prelude.{IsSome}
use Rattle.hr_line.specs.State.{State, link_at}
use Rattle.hr_lane.specs.Admission.{AdmitsWord, by_turn}
use Rattle.hr_lane.specs.Conn.{links_of}
use Rattle.hr_lane.specs.State.{state_of}
use Rattle.hr_lane.proofs.ReadyLemmas.{admit_ready}
use Rattle.hr_lane.proofs.lane.Lane.admit.Goals as goal

pub invariant_of-self : goal.invariant_of-self
invariant_of-self g c =
    let by = by_turn c.args.turn.now c.args.spec in
    let sources = links_of g.A.Registry.seen c.self.inside.sources.items in
    let dests = links_of g.A.Registry.seen c.self.inside.dests.items in
    let source = subst (λ (x : State). IsSome (link_at x.sources by.spec.src)) (sym c.self.view_is) c.requires.source in
    let dest = subst (λ (x : State). IsSome (link_at x.dests by.spec.dst)) (sym c.self.view_is) c.requires.dest in
    admit_ready
    (state_of sources dests c.self.inside.log.newest c.self.inside.hooks.newest (reverse c.self.inside.admitted.items)
    c.self.inside.holding.held)
    (state_of sources dests c.admit_held.new.log.newest c.admit_held.new.hooks.newest
    (reverse c.admit_held.new.admitted.items) c.admit_held.new.holding.held)
    by (g.B.Board.seen c.args.board.now) (g.B.Board.seen c.admit_held.new.board) c.admit_held.result _ _ _ _ _ _
    c.self.invariant c.requires.job.0 c.requires.rev source dest (c.admit_held.ensures.admits sources dests)
    c.admit_held.ensures.buffer c.admit_held.ensures.whole c.admit_held.ensures.room.0 c.admit_held.ensures.room.1

pub returns-clause-admits : goal.returns-clause-admits
returns-clause-admits g c =
    let by = by_turn c.args.turn.now c.args.spec in
    let sources = links_of g.A.Registry.seen c.self.inside.sources.items in
    let dests = links_of g.A.Registry.seen c.self.inside.dests.items in
    let after = state_of sources dests c.admit_held.new.log.newest c.admit_held.new.hooks.newest
    (reverse c.admit_held.new.admitted.items) c.admit_held.new.holding.held in
    subst (λ (x : State). AdmitsWord x after by (g.B.Board.seen c.args.board.now) (g.B.Board.seen c.admit_held.new.board)
    c.admit_held.result) c.self.view_is
    (c.admit_held.ensures.admits sources dests)
