use Rattle.std.proofs.Common.{◌≡◌, sym, ◌∙◌, length, take, subst, arith}
use Rattle.std.proofs.lemmas.Bool.{eqb-true}
use Rattle.hr_name.proofs.TagLemmas.{StandFrom, stands_more, tag_fault_here, near_front, tag_at_end, tag_fault_empty, eqb_apart}
use Rattle.hr_name.proofs.tag.tag_fault.Goals as goal

pub returns-then-not-may_stand-clause-fault : goal.returns-then-not-may_stand-clause-fault
returns-then-not-may_stand-clause-fault c =
    tag_fault_here c.args.text.now c.loop-at.at 0 c.loop-at-test.true c.loop-at.invariant
    (sym c.may_stand.ensures ∙ c.if-not-may_stand.true)

pub returns-then-not-may_stand-clause-near : goal.returns-then-not-may_stand-clause-near
returns-then-not-may_stand-clause-near c =
    near_front c.args.text.now c.loop-at.at c.loop-at-test.true c.loop-at.invariant

pub loop-at-preserved : goal.loop-at-preserved
loop-at-preserved c =
    stands_more c.args.text.now c.loop-at.at 0 c.loop-at-test.true c.loop-at.invariant
    (sym c.may_stand.ensures ∙ c.if-not-may_stand.false)

pub returns-then-is_empty-clause-fault : goal.returns-then-is_empty-clause-fault
returns-then-is_empty-clause-fault c =
    tag_fault_empty c.args.text.now (eqb-true _ _ (sym c.is_empty.ensures ∙ c.if-is_empty.true))

pub returns-else-is_empty-clause-fault : goal.returns-else-is_empty-clause-fault
returns-else-is_empty-clause-fault c =
    let e : c.loop-at.at ≡ length c.args.text.now = omega arith in
    tag_at_end c.args.text.now (subst (λ n. StandFrom 0 (take n c.args.text.now)) e c.loop-at.invariant)
    (eqb_apart (length c.args.text.now) 0 (sym c.is_empty.ensures ∙ c.if-is_empty.false))
