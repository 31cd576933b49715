use Rattle.std.proofs.Common.{List, sym, subst}
use Rattle.std.specs.List.{AllByRecursion}
use Rattle.hr_event.specs.declared.event.Event.{Event}
use Rattle.hr_core.specs.Comes.{IsTaken}
use Rattle.hr_opening.proofs.FitLaws.{events_fit, reading_fit}
use Rattle.hr_opening.proofs.OpeningLaws.{opened_are_eight}
use Rattle.hr_replay.proofs.RunLemmas.{all_taken}
use Rattle.hr_replay.proofs.ScriptLemmas.{replayed}
use Rattle.hr_replay.proofs.replaying.replay.Goals as goal

pub open_script-requires : goal.open_script-requires
open_script-requires c = reading_fit c.args.text.now c.in-Ok.lines c.in-Ok.ensures.ok

pub run-requires-clause-eight : goal.run-requires-clause-eight
run-requires-clause-eight c =
    opened_are_eight c.in-Ok.lines.lines c.in-Ok-open_script.opened c.in-Ok-open_script.ensures.opens

pub run-requires-clause-taken : goal.run-requires-clause-taken
run-requires-clause-taken c =
    subst (λ (es : List Event). AllByRecursion IsTaken es) (sym c.in-Ok-open_script.ensures.opens.events)
    (all_taken _ (events_fit c.in-Ok.lines.lines (reading_fit c.args.text.now c.in-Ok.lines c.in-Ok.ensures.ok)))

pub run-requires-clause-few : goal.run-requires-clause-few
run-requires-clause-few c =
    (c.some_jobs_may_be.ensures c.in-Ok.lines.lines c.in-Ok-open_script.opened
    (reading_fit c.args.text.now c.in-Ok.lines c.in-Ok.ensures.ok) c.in-Ok-open_script.ensures.opens).few

pub returns-in-Ok-run-clause-ok : goal.returns-in-Ok-run-clause-ok
returns-in-Ok-run-clause-ok c =
    replayed
    (record {
      state = c.the_core_holds.ensures.state;
      lanes = c.the_core_holds.ensures.lanes;
      final = c.one_final_status.ensures;
      each = c.each_end_has_one_hook.ensures;
      confirmed = c.hooks_are_covered.ensures;
      rows = c.rows_tell_words.ensures;
      done = c.done_after_finish.ensures;
      count = c.revisions_have_sources.ensures.count;
      sources = c.revisions_have_sources.ensures.sources;
      copied = c.what_succeeded_was_copied.ensures;
      arrives = c.what_can_be_copied_arrives.ensures;
      canonical = c.canonical_lines_can_be_copied.ensures;
    })
    c.args.text.now c.in-Ok.lines c.in-Ok-open_script.opened c.in-Ok-run.replayed.kept c.in-Ok-run.replayed.text
    c.in-Ok-run.replayed.status c.in-Ok.ensures.ok c.in_default.is c.in-Ok-open_script.ensures.opens
    (opened_are_eight c.in-Ok.lines.lines c.in-Ok-open_script.opened c.in-Ok-open_script.ensures.opens)
    c.in-Ok-run.ensures.run c.in-Ok-run.ensures.sound
