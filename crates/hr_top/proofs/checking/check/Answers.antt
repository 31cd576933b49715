use Rattle.std.proofs.Common.{◌≡◌}
use Rattle.hr_tree.specs.declared.fault.TreeFault.TheVariants as tree
use Rattle.hr_top.proofs.CheckingLemmas.{checks_of_fault}
use Rattle.hr_top.proofs.checking.check.Goals as goal

pub returns-in-Err-TooLong-clause-checks : goal.returns-in-Err-TooLong-clause-checks
returns-in-Err-TooLong-clause-checks g c =
    let files = g.T.Tree.files in
    let faults = g.T.Counted.faults in
    let fault = c.in-Err-TooLong.field-0 in
    let is : fault ≡ tree.TooLong c.in-Err-TooLong.len = cc in
    checks_of_fault c.refuse.result (files c.args.tree.now) c.args.path.now fault c.in-Err-TooLong.len (faults c.args.tree.now) (faults c.read_file.new.self) is c.in-Err-TooLong.ensures.told c.in-Err-TooLong.ensures.within c.in-Err-TooLong.ensures.cause.calm c.refuse.ensures.says
