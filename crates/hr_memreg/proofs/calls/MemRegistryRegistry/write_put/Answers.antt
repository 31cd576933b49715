use Rattle.hr_memreg.proofs.PutLemmas.{writes_by}
use Rattle.hr_memreg.proofs.calls.MemRegistryRegistry.write_put.Goals as goal

pub returns : goal.returns
returns c = writes_by c.args.bytes.now c.args.self.now c.write.new.self c.write.result c.write.ensures
