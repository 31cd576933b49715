use Rattle.hr_memreg.proofs.ListingLemmas.{no_tags_ordered, tags_ordered}
use Rattle.hr_memreg.proofs.held.Held.tags.Goals as goal

pub returns-in-Some-clause-ordered : goal.returns-in-Some-clause-ordered
returns-in-Some-clause-ordered c =
    tags_ordered c.args.self.now c.args.repo.now c.in-Some.repository.now c.in-Some.ensures c.tagged_within.ensures.ordered

pub returns-in-None-clause-ordered : goal.returns-in-None-clause-ordered
returns-in-None-clause-ordered c = no_tags_ordered c.args.self.now c.args.repo.now c.in-None.ensures
