use Rattle.hr_memreg.proofs.ShownLemmas.{AreRows-went_on}
use Rattle.hr_memreg.proofs.registry.MemRegistry.operate.Goals as goal

pub invariant_of-self : goal.invariant_of-self
invariant_of-self c = AreRows-went_on c.self.inside.standing c.go_on.new.self _ c.go_on.result c.go_on.ensures c.self.invariant

pub invariant_of-self-2 : goal.invariant_of-self-2
invariant_of-self-2 c = AreRows-went_on c.self.inside.standing c.go_on.new.self _ c.go_on.result c.go_on.ensures c.self.invariant
