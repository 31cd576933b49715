use Rattle.std.proofs.Common.{sym, ◌∙◌, None, Some, append-nil}
use Rattle.hr_periodic.proofs.PeriodicLemmas.{due_more, due_all}
use Rattle.hr_periodic.proofs.periodic.due_among.Goals as goal
use Rattle.hr_periodic.proofs.periodic.due_among.Goals.{in-Some+in_ok-push, in_default}

pub loop-entry-preserved : goal.loop-entry-preserved
loop-entry-preserved c = elim c.match-next_until.branch [
  | in-Some+in_ok-push w ↦ due_more _ _ c.args.entries.now c.loop-entry.entry-index _ (Some w.in-Some.at) c.loop-entry.due c.match-next_until.due c.loop-entry-test.true w.in-Some.ensures (w.due-is ∙ w.in_ok-push.ensures.ok) c.loop-entry.invariant
  | in_default w ↦ due_more _ _ c.args.entries.now c.loop-entry.entry-index _ None c.loop-entry.due c.match-next_until.due c.loop-entry-test.true w.in_default.ensures (w.due-is ∙ sym (append-nil c.loop-entry.due)) c.loop-entry.invariant
]

pub returns : goal.returns
returns c = due_all _ _ c.args.entries.now c.loop-entry.entry-index c.loop-entry.due c.loop-entry-test.false c.loop-entry.invariant
