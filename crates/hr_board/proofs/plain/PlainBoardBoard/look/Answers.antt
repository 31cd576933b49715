use Rattle.std.proofs.Common.{◌∙◌}
use Rattle.hr_board.proofs.PlainLemmas.{lawful-saw, found-word, word-at}
use Rattle.hr_board.proofs.plain.PlainBoardBoard.look.Goals as goal

pub invariant_of-self : goal.invariant_of-self
invariant_of-self c =
    rw c.noted.ensures (lawful-saw _ _ _ _ c.self.invariant (word-at _ _ _ _ _ _ _
    c.self.view_is c.requires.job c.requires.rev c.place-at.ensures c.index-found.ensures))

pub returns-clause-found : goal.returns-clause-found
returns-clause-found c =
    rw (← c.place-at.ensures) (found-word _ _ _ _ _ c.self.invariant c.self.view_is (c.mark_of.ensures ∙ word-at _ _ _ _ _ _ _
    c.self.view_is c.requires.job c.requires.rev c.place-at.ensures c.index-found.ensures))
