use Rattle.std.proofs.Common.{nat_eq, rules}
use Rattle.std.proofs.lemmas.Iterator.Search.{all_from_yields_List}
use Rattle.std.proofs.lemmas.Iterator.Splits.{YieldsList-from_slice_split}
use borrow.Author.Tests.{tests}
use Rattle.hr_tree.specs.Path.{is_item}
use Rattle.hr_tree.proofs.path.is_path.Goals as goal

pub returns : goal.returns
returns c =
    all_from_yields_List is_item _ _ c.all.result c.all.ensures.ran
    (YieldsList-from_slice_split _ (λ byte. nat_eq byte 47) c.args.text.now c.split.ensures.rest c.split.ensures.done c.split.ensures.closure
    (λ x b q k. search (rules, tests)))
    (λ x b q k. search (rules, tests))
