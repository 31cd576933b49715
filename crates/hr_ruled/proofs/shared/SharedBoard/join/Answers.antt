use Rattle.std.proofs.Common.{arith, sym, ◌∙◌, ap}
use Rattle.hr_ruled.proofs.StepLemmas.{joins}
use Rattle.hr_ruled.proofs.shared.SharedBoard.join.Goals as goal

pub join_seat-requires : goal.join_seat-requires
join_seat-requires g c =
    let b = c.self.invariant in
    let words = ap (λ z. z.words) b.0 ∙ b.1 in
    let me = c.into_seat-other.ensures.1 in
    (c.into.invariant.0 ∙ sym b.0, c.into_seat-other.ensures.0 ∙ sym b.0, ap (λ m. m.1) me, omega (arith, words, b.4), joins _ _ c.into.inside.seat.me.0 _ c.into_seat-other.result.me.0)
