use Rattle.std.proofs.Common.{◌≡◌, ◌<◌, ℕ, false, eqb, length, refl, sym, ◌∙◌, arith}
use Rattle.std.proofs.lemmas.Bool.{eqb-true, false≢true}
use Rattle.std.proofs.lemmas.Bool.Decides.{nat_tests}
use Rattle.hr_text.proofs.HexLaws.{spelled_hexadecimal, spelled_length}
use Rattle.hr_script.proofs.word.read_layer.Goals as goal

nonempty : (n : ℕ) → eqb n 0 ≡ false → 0 < n
nonempty n other = grind (arith, nat_tests)

pub returns-then-is_empty : goal.returns-then-is_empty
returns-then-is_empty c = (
  refl,
  λ layer is.
      let none : length c.args.word.now ≡ 0 = eqb-true _ _ (sym c.is_empty.ensures ∙ c.if-is_empty.true) in
      let some = is.some in
      omega (arith, spelled_length c.args.word.now layer is.spelled, none, some),
)

pub returns-in-Ok-Some : goal.returns-in-Ok-Some
returns-in-Ok-Some c =
    let spelled = rw c.in-Ok-Some.field-0-is at c.in-Ok-Some.ensures.spelled in
    let some = nonempty (length c.args.word.now) (sym c.is_empty.ensures ∙ c.if-is_empty.false) in
    record { some = omega (arith, spelled_length c.args.word.now c.in-Ok-Some.bytes spelled, some); spelled = spelled }

pub returns-in-Ok-None : goal.returns-in-Ok-None
returns-in-Ok-None c = (
  refl,
  λ layer is.
      let some = rw c.in-Ok-None.field-0-is at c.in-Ok-None.ensures.some in
      false≢true (some.1 (spelled_hexadecimal c.args.word.now layer is.spelled)),
)
