use Rattle.std.proofs.Common.{arith}
use Rattle.hr_adapter.proofs.SilentLemmas.{reads_piece}
use Rattle.hr_adapter.proofs.silent.Opened.give.Goals as goal

pub returns : goal.returns
returns c =
    let self = c.args.self.now in
    reads_piece self.bytes c.args.buf.now c.fill.new.buf self.at c.saturating_add-piece.result c.min-count.result
    (omega arith) (cc) (cc)
