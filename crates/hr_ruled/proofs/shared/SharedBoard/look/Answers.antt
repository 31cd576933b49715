use Rattle.std.proofs.Common.{arith, sym, ◌∙◌, ap}
use Rattle.hr_ruled.proofs.StepLemmas.{looks, found}
use Rattle.hr_ruled.proofs.shared.SharedBoard.look.Goals as goal

pub load-requires : goal.load-requires
load-requires g c =
    let b = c.self.invariant in
    let words = ap (λ z. z.words) b.0 ∙ b.1 in
    (c.seat.invariant.0 ∙ sym b.0, omega (arith, c.place-at.ensures, c.requires.job, c.requires.rev, c.self.view_is, words), looks _ _ _ _ c.seat.inside.seat.me)

pub returns-clause-found : goal.returns-clause-found
returns-clause-found g c =
    found _ _ _ _ _ _ _ c.place-at.ensures c.seat.view_is (sym c.mark_of.ensures) c.load.ensures.2.above
