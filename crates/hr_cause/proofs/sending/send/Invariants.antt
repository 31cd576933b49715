use Rattle.std.proofs.Common.{◌≡◌, length}
use Rattle.hr_cause.proofs.SendingLemmas.{Front}
use Rattle.hr_cause.proofs.sending.send.Given as goal

-- a front of the text was sent, and the rest is left
abbrev pub invariant-loop-rest : goal.invariant-loop-rest
invariant-loop-rest g l = record {
  front : Front (g.K.Stream.sent l.initial.out) l.bytes l.rest (g.K.Stream.sent l.out);
  calm : g.K.Counted.faults l.out ≡ g.K.Counted.faults l.initial.out;
  left : g.K.Stream.left l.out ≡ g.K.Stream.left l.initial.out;
}

abbrev pub decreases-loop-rest : goal.decreases-loop-rest
decreases-loop-rest g l = length l.rest
