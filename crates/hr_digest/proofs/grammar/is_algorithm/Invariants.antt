-- The bytes that are left go on as the whole text does.
use Rattle.std.proofs.Common.{◌≡◌, drop, true}
use Rattle.hr_digest.proofs.GrammarLemmas.{accepts}
use Rattle.hr_digest.proofs.grammar.is_algorithm.Given as goal

abbrev pub invariant-loop-byte : goal.invariant-loop-byte
invariant-loop-byte l = accepts l.begins (drop l.byte-index l.text) ≡ accepts true l.text
