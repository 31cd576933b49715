use Rattle.hr_rest.proofs.PageLemmas.{page_next}
use Rattle.hr_rest.proofs.laws.pages_follow_one_another.Goals as goal

pub returns : goal.returns
returns g c = λ page size items some. page_next page size items some
