use Rattle.std.proofs.Common.{◌≡◌, subst, arith}
use Rattle.hr_name.specs.Front.{IsFaultAt}
use Rattle.hr_name.specs.Name.{IsName}
use Rattle.hr_name.proofs.FrontLemmas.{fault-unique}
use Rattle.hr_name.proofs.name.Name.read.Goals as goal

pub returns-in-Some-clause-shape : goal.returns-in-Some-clause-shape
returns-in-Some-clause-shape c = λ n. (
  λ e. let same : c.in-Some.at ≡ n = cc in
      (omega arith, subst (IsFaultAt IsName c.args.text.now) same c.in-Some.ensures.place),
  λ h. let same : c.in-Some.at ≡ n = fault-unique IsName c.args.text.now c.in-Some.at n c.in-Some.ensures.place h.1 in cc,
)
