use Rattle.hr_run.proofs.PromiseLemmas.{finished_by, writes_to}
use Rattle.hr_run.proofs.laws.lanes_keep_their_promise.Goals as goal

pub returns : goal.returns
returns c first t opened sound ran = record {
  complete = λ reg o content dest. record {
    opened = λ one have. (
        let no = c.texts_stay_one.ensures ran.calls first t (writes_to reg) o opened sound ran.runs one have in
        c.tags_of_runs_are_complete.ensures.told ran.calls first t reg o content opened sound ran.runs dest no.tell no.once);
    told = c.tags_of_runs_are_complete.ensures.told ran.calls first t reg o content opened sound ran.runs dest;
    untold = c.tags_of_runs_are_complete.ensures.untold ran.calls first t reg o content opened sound ran.runs dest;
  };
  read = λ reg o content dest newer older e repo tag d old how parts place says.
      c.tags_of_runs_are_complete.ensures.read ran.calls first t reg o content newer older e repo tag d old how opened sound ran.runs dest
      parts place says;
  shown = λ newer older e src tag d parts from was.
      c.tags_of_runs_are_complete.ensures.shown ran.calls first t newer older e src tag d opened sound ran.runs parts from was;
  finished = λ newer older e a parts by.
      finished_by a older e.what (λ tag d old how says.
      c.tags_are_finished_as_they_were_read.ensures.runs ran.calls first t newer older e a tag d old how opened sound ran.runs parts by says);
  final = λ job rev. c.revisions_end_once.ensures.runs ran.calls first t job rev opened ran.runs;
  ends = λ e a status why ended.
      c.ends_are_what_the_journal_shows.ensures.runs ran.calls first t e a status why opened ran.runs ended.logged ended.by ended.says;
  caused = λ e a status why ended.
      c.causes_stay_shown.ensures.runs ran.calls first t e a status why opened sound ran.runs ended.logged ended.by ended.says;
  hooks = c.hooks_go_with_the_journal.ensures.runs ran.calls first t opened ran.runs;
  copied = λ e a content o status why can both one have ended.
      c.what_can_be_copied_is_copied.ensures.opened ran.calls first t e a content o status why opened sound ran.runs can both one have
      ended.logged ended.by ended.says;
}
