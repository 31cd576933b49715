use Rattle.hr_rest.proofs.NameLemmas.{name_as_it_is}
use Rattle.hr_rest.proofs.laws.names_are_written_as_they_are.Goals as goal

pub returns : goal.returns
returns c = name_as_it_is
