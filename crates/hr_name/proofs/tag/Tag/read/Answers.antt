use Rattle.std.proofs.Common.{◌≡◌, subst}
use Rattle.hr_name.specs.Front.{IsFaultAt}
use Rattle.hr_name.specs.Tag.{IsTag}
use Rattle.hr_name.proofs.FrontLemmas.{fault-unique}
use Rattle.hr_name.proofs.tag.Tag.read.Goals as goal

pub returns-in-Some-clause-shape : goal.returns-in-Some-clause-shape
returns-in-Some-clause-shape c = λ n. (
  λ e. let same : c.in-Some.at ≡ n = cc in
      subst (IsFaultAt IsTag c.args.text.now) same c.in-Some.ensures.fault,
  λ h. let same : c.in-Some.at ≡ n = fault-unique IsTag c.args.text.now c.in-Some.at n c.in-Some.ensures.fault h in cc,
)
