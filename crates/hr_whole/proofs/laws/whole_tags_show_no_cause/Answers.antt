use Rattle.hr_whole.proofs.NeverLemmas.{only_memory}
use Rattle.hr_whole.proofs.laws.whole_tags_show_no_cause.Goals as goal

pub returns : goal.returns
returns g a log c source dest why found tags told none never ends shown =
    only_memory a log c found tags source dest why told none never ends shown
