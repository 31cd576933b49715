use Rattle.std.proofs.Common.{◌≡◌, ◌≤◌, ◌*◌, drop, length}
use Rattle.hr_pattern.specs.Form.{forms, too_many}
use Rattle.hr_pattern.proofs.form.count_forms.Given as goal

-- no part so far is refused, the rest is asked with the count so far, and their forms are as many
abbrev pub invariant-loop-part : goal.invariant-loop-part
invariant-loop-part l = record {
  few : l.count ≤ 256;
  so_far : too_many l.count (drop l.part-index l.parts) ≡ too_many 1 l.parts;
  product : l.count * length (forms (drop l.part-index l.parts)) ≡ length (forms l.parts);
}
