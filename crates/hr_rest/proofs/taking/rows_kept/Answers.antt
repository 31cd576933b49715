use Rattle.std.proofs.Common.{◌∙◌}
use Rattle.hr_rest.proofs.SnapshotLemmas.{rows_more}
use Rattle.hr_rest.proofs.taking.rows_kept.Goals as goal

pub loop-exec-preserved : goal.loop-exec-preserved
loop-exec-preserved c =
    c.in_ok-put_rows.ensures
    ∙ rows_more c.args.store.now.kept c.args.execs.now c.loop-exec.exec-index _ c.loop-exec.all.items c.in_ok-tasks.field-0
    c.is_sound.ensures.ordered c.requires c.loop-exec-test.true c.loop-exec.invariant c.in_ok-tasks.ensures
