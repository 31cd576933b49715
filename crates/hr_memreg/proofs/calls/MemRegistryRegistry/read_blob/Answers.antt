use Rattle.hr_memreg.proofs.CallLemmas.{reads_by}
use Rattle.hr_memreg.proofs.calls.MemRegistryRegistry.read_blob.Goals as goal

pub returns : goal.returns
returns c = reads_by c.read.new.buf c.read.result c.args.self.now c.read.new.self c.read.ensures
