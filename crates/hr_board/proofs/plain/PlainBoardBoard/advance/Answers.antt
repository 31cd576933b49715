use Rattle.std.proofs.Common.{ℕ, ◌∙◌, sym, subst}
use Rattle.hr_board.proofs.MovesLemmas.{Steps, steps-move}
use Rattle.hr_board.proofs.PlainLemmas.{lawful-saw, lawful-advance, found-word, word-at}
use Rattle.hr_base.specs.Status.{word_of}
use Rattle.hr_board.proofs.plain.PlainBoardBoard.advance.Goals as goal

pub invariant_of-self : goal.invariant_of-self
invariant_of-self c =
    rw c.noted.ensures (lawful-saw _ _ _ _ c.self.invariant (word-at _ _ _ _ _ _ _
    c.self.view_is c.requires.job c.requires.rev c.place-at.ensures c.index-word.ensures))

pub returns-then-word-old-clause-found : goal.returns-then-word-old-clause-found
returns-then-word-old-clause-found c =
    rw (← c.place-at.ensures) (found-word _ _ _ _ _ c.self.invariant c.self.view_is (c.mark_of.ensures ∙ word-at _ _ _ _ _ _ _
    c.self.view_is c.requires.job c.requires.rev c.place-at.ensures c.index-word.ensures))

pub returns-clause-ok : goal.returns-clause-ok
returns-clause-ok c =
    rw (← c.place-at.ensures) (found-word _ _ _ _ _ c.self.invariant c.self.view_is (sym c.word-old.ensures.value ∙ sym c.if-word-old.false
    ∙ word-at _ _ _ _ _ _ _ c.self.view_is c.requires.job c.requires.rev c.place-at.ensures c.index-word.ensures))

pub invariant_of-self-2 : goal.invariant_of-self-2
invariant_of-self-2 c =
    lawful-advance _ _ _ _ _ _ _ _ _ _ c.self.invariant c.self.view_is c.requires.job c.requires.rev c.place-at.ensures
    c.index-word.ensures c.if-word-old.false
    (subst (λ (m : ℕ). Steps m c.word-new.result) (sym c.word-old.ensures.value)
    (subst (λ (n : ℕ). Steps (word_of c.args.from) n) (sym c.word-new.ensures.value) (steps-move _ _ c.requires.moves)))
    (λ e low. c.requires.opens (sym c.word-old.ensures.value ∙ e) low) c.noted-2.ensures
