use Rattle.std.proofs.Common.{arith, sym, ◌∙◌, ap, subst, ◌<◌, ◌-◌, IsTrue}
use Rattle.hr_base.specs.Status.{word_of}
use Rattle.hr_board.specs.View.{place_of, Noted}
use Rattle.hr_ruled.specs.Seats.{role_allows}
use Rattle.hr_ruled.proofs.StepLemmas.{moves, found}
use Rattle.hr_ruled.proofs.shared.SharedBoard.advance.Goals as goal
use Rattle.hr_ruled.proofs.shared.SharedBoard.advance.Goals.{then-found-old, else-found-old}

pub compare_exchange-found-requires : goal.compare_exchange-found-requires
compare_exchange-found-requires g c =
    let b = c.self.invariant in
    let words = ap (λ z. z.words) b.0 ∙ b.1 in
    let me = c.seat.inside.seat.me in
    let is = c.seat.view_is in
    let within : place_of c.args.job.0 c.args.rev < c.self.inside.table.shared.key
    = omega (arith, c.requires.job, c.requires.rev, c.self.view_is, b.3) in
    rw (c.place-at.ensures, c.word-old.ensures.value, c.word.ensures.value) (
      c.seat.invariant.0 ∙ sym b.0,
      omega (arith, within, words, b.3),
      moves _ _ _ c.args.job.0 c.args.rev c.args.from c.args.to me within c.requires.rev c.requires.moves
          (subst (λ u. IsTrue (role_allows u.role (word_of c.args.to))) (sym is) c.requires.allowed)
          (λ z low. subst (λ u. Noted u.notes (place_of c.args.job.0 (c.args.rev - 1)) 5) (sym is) (c.requires.opens z low)),
    )

pub returns-clause-ok : goal.returns-clause-ok
returns-clause-ok g c = elim c.if-found-old.branch [
  | then-found-old w ↦ rw w.result-is (found _ _ _ _ _ _ _ c.place-at.ensures c.seat.view_is
      (w.if-found-old.true ∙ c.word-old.ensures.value) c.compare_exchange-found.ensures.2.above)
  | else-found-old w ↦ rw w.result-is tt
]

pub returns-clause-found : goal.returns-clause-found
returns-clause-found g c = elim c.if-found-old.branch [
  | then-found-old w ↦ rw w.result-is tt
  | else-found-old w ↦ rw w.result-is (found _ _ _ _ _ _ _ c.place-at.ensures c.seat.view_is
      (sym w.mark_of.ensures) c.compare_exchange-found.ensures.2.above)
]
