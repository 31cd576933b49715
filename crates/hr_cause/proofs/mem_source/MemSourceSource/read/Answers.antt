use Rattle.std.proofs.Common.{drop}
use Rattle.hr_cause.proofs.SourceLemmas.{reads_behind}
use Rattle.hr_cause.proofs.mem_source.MemSourceSource.read.Goals as goal

-- the buffer begins with the front of what was left
pub returns-clause-ok : goal.returns-clause-ok
returns-clause-ok c =
    let pieces = drop c.self.inside.piece c.self.inside.pieces in
    let filled = c.fill.new.buf in
    let count = c.next_piece-count.result.0 in
    rw (← c.self.view_is)
    (reads_behind pieces c.self.inside.bytes c.args.buf.now filled c.self.inside.at count (cc) (cc))
