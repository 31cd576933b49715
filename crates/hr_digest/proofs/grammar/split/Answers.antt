use Rattle.std.proofs.Common.{◌≡◌, Option, Some, None, option_copied, sym, ap, ◌∙◌, subst}
use Rattle.hr_base.specs.Bytes.{Text}
use Rattle.hr_digest.specs.Grammar.{IsAlgorithm, IsRun, is_encoded_byte}
use Rattle.hr_digest.proofs.GrammarLemmas.{parts_cut}
use Rattle.hr_digest.proofs.grammar.split.Goals as goal
use Rattle.hr_digest.proofs.grammar.split.Goals.{else-is_algorithm-via-then-is_algorithm+else-is_encoded, else-is_algorithm-via-else-is_algorithm}

pub returns-in_default : goal.returns-in_default
returns-in_default c =
    λ algorithm encoded parts.
    let cut = parts_cut c.args.text.now algorithm encoded parts in
    let behind : None ≡ Some encoded = sym (ap option_copied c.in_default.is) ∙ c.cut.ensures.behind ∙ ap (λ (p : Text × Option Text). p.1) cut in
    cc behind

pub returns-else-is_algorithm : goal.returns-else-is_algorithm
returns-else-is_algorithm c =
    λ algorithm encoded parts.
    let cut = parts_cut c.args.text.now algorithm encoded parts in
    let before : algorithm ≡ c.cut.result.0.now = sym (c.cut.ensures.before ∙ ap (λ (p : Text × Option Text). p.0) cut) in
    let behind : Some encoded ≡ Some c.in-Some.encoded.now = sym (sym (ap option_copied c.in-Some.is) ∙ c.cut.ensures.behind ∙ ap (λ (p : Text × Option Text). p.1) cut) in
    let same : encoded ≡ c.in-Some.encoded.now = cc behind in
    elim c.else-is_algorithm.branch [
      | else-is_algorithm-via-then-is_algorithm+else-is_encoded w ↦
          let is = w.is_encoded.ensures.1 (subst (IsRun is_encoded_byte) same parts.encodes) in
          let not = w.if-is_encoded.false in
          cc (is, not)
      | else-is_algorithm-via-else-is_algorithm w ↦
          let is = c.is_algorithm.ensures.1 (subst IsAlgorithm before parts.named) in
          let not = w.if-is_algorithm.false in
          cc (is, not)
    ]
