use Rattle.hr_manifest.specs.Canonical.{descriptor}
use Rattle.hr_manifest.specs.Writable.{IsFit}
use Rattle.hr_manifest.proofs.PieceLemmas.{further_each, further_item}
use Rattle.hr_manifest.proofs.writing.push_children.Goals as goal

pub loop-child-preserved : goal.loop-child-preserved
loop-child-preserved c =
    let all = c.args.children.now in
    let others = c.in-Some.others.now in
    let first = c.in-Some.first.now in
    let item = c.child-item.result in
    let i = c.loop-child.child-index in
    let cut = c.in-Some.ensures.cases.0 in (
      further_item descriptor c.args.text.now.items c.loop-child.text.items c.extend_from_slice.new.self.items c.push_child-in-loop-child.new.text.items all others first item i cut c.loop-child-test.true c.child-item.is c.loop-child.invariant.0 c.in_ok-extend_from_slice.ensures.items c.in_ok-push_child-2.ensures.text,
      further_each IsFit all others first item i cut c.loop-child-test.true c.child-item.is c.loop-child.invariant.1 c.in_ok-push_child-2.ensures.fit,
    )
