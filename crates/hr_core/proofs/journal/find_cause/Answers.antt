use Rattle.std.proofs.Common.{◌∙◌, sym}
use Rattle.hr_core.proofs.JournalLemmas.{cause_found, none_passed, other_passed}
use Rattle.hr_core.proofs.journal.find_cause.Goals.{then-eq+in_ok-cause+in_default, else-eq}
use Rattle.hr_core.proofs.journal.find_cause.Goals as goal

pub returns-in-Some : goal.returns-in-Some
returns-in-Some c =
    cause_found c.args.log.now c.loop-back.back c.args.job c.index-log-log.result c.in-Some.cause c.loop-back-test.true
    c.index-log-log.is (sym c.eq.ensures ∙ c.if-eq.true) (sym c.in_ok-cause.ensures ∙ c.in-Some.is) c.loop-back.invariant

pub loop-back-preserved : goal.loop-back-preserved
loop-back-preserved c = elim c.if-eq.branch [
  | then-eq+in_ok-cause+in_default w ↦
      none_passed c.args.log.now c.loop-back.back c.args.job c.index-log-log.result c.loop-back-test.true c.index-log-log.is
      (sym c.eq.ensures ∙ w.if-eq.true) (sym w.in_ok-cause.ensures ∙ w.in_default.is) c.loop-back.invariant
  | else-eq w ↦
      other_passed c.args.log.now c.loop-back.back c.args.job c.index-log-log.result c.loop-back-test.true c.index-log-log.is
      (sym c.eq.ensures ∙ w.if-eq.false) c.loop-back.invariant
]
