use Rattle.std.proofs.Common.{arith, sym, ◌∙◌, ap}
use Rattle.hr_ruled.specs.declared.rule.Role.TheVariants.{Lane, Queue, Control, Reader}
use Rattle.hr_ruled.specs.Seats.{part_of_role}
use Rattle.hr_ruled.proofs.StepLemmas.{splits}
use Rattle.hr_ruled.proofs.shared.SharedBoard.split.Goals as goal

pub split_seat-new-requires : goal.split_seat-new-requires
split_seat-new-requires g c =
    let b = c.self.invariant in
    let words = ap (λ z. z.words) b.0 ∙ b.1 in
    let parts = ap (λ u. u.parts) c.seat.view_is in
    let role = ap part_of_role c.in-Lane.is in
    (c.seat.invariant.0 ∙ sym b.0, omega (arith, words, b.4), splits _ _ c.seat.inside.seat.me.0 Lane (omega (arith, c.requires, role, parts)))

pub split_seat-new-requires-in-Queue : goal.split_seat-new-requires-in-Queue
split_seat-new-requires-in-Queue g c =
    let b = c.self.invariant in
    let words = ap (λ z. z.words) b.0 ∙ b.1 in
    let parts = ap (λ u. u.parts) c.seat.view_is in
    let role = ap part_of_role c.in-Queue.is in
    (c.seat.invariant.0 ∙ sym b.0, omega (arith, words, b.4), splits _ _ c.seat.inside.seat.me.0 Queue (omega (arith, c.requires, role, parts)))

pub split_seat-new-requires-in-Control : goal.split_seat-new-requires-in-Control
split_seat-new-requires-in-Control g c =
    let b = c.self.invariant in
    let words = ap (λ z. z.words) b.0 ∙ b.1 in
    let parts = ap (λ u. u.parts) c.seat.view_is in
    let role = ap part_of_role c.in-Control.is in
    (c.seat.invariant.0 ∙ sym b.0, omega (arith, words, b.4), splits _ _ c.seat.inside.seat.me.0 Control (omega (arith, c.requires, role, parts)))

pub split_seat-new-requires-in-Reader : goal.split_seat-new-requires-in-Reader
split_seat-new-requires-in-Reader g c =
    let b = c.self.invariant in
    let words = ap (λ z. z.words) b.0 ∙ b.1 in
    (c.seat.invariant.0 ∙ sym b.0, omega (arith, words, b.4), splits _ _ c.seat.inside.seat.me.0 Reader (omega arith))
