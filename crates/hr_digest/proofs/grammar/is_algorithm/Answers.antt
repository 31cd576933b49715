use Rattle.std.proofs.Common.{Bool, ◌||◌, sym, ap, ◌∙◌, refl, get_or}
use Rattle.std.specs.Prelude.{not}
use Rattle.hr_digest.specs.Grammar.{is_separator}
use Rattle.hr_digest.proofs.GrammarLemmas.{accepted_end, accepted_not}
use Rattle.hr_digest.proofs.grammar.is_algorithm.Goals as goal
use Rattle.hr_digest.proofs.grammar.is_algorithm.Goals.{then-begins, else-begins}

pub returns-then-not-separates : goal.returns-then-not-separates
returns-then-not-separates c =
    let text = c.args.text.now in
    let i = c.loop-byte.byte-index in
    accepted_not c.loop-byte.begins text i (get_or text i 0) c.loop-byte-test.true refl
    (sym c.is_of_component.ensures ∙ c.if-is_of_component.false)
    (elim c.if-begins.branch [
      | then-begins w ↦ ap (λ (t : Bool). t || not (is_separator (get_or text i 0))) w.if-begins.true
      | else-begins w ↦
          ap (λ (t : Bool). t || not (is_separator (get_or text i 0))) w.if-begins.false
          ∙ ap not (sym w.separates.ensures) ∙ sym w.value-is ∙ c.if-not-separates.true
    ])
    c.loop-byte.invariant

pub returns : goal.returns
returns c = accepted_end c.loop-byte.begins c.args.text.now c.loop-byte.byte-index c.loop-byte-test.false c.loop-byte.invariant
