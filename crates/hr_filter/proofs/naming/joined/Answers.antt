use Rattle.std.proofs.Common.{◌≡◌, ◌++◌, ◌∷◌, length, ap, sym, subst, ◌∙◌, Err, arith}
use Rattle.std.proofs.lemmas.Grind.{common_steps}
use Rattle.hr_name.specs.Name.{IsName}
use Rattle.hr_name.proofs.ComponentLaws.{names_joined}
use Rattle.hr_filter.proofs.naming.joined.Goals as goal

pub unreachable-requires : goal.unreachable-requires
unreachable-requires c =
    let text : c.deref.result.now ≡ c.args.front.now ++ 47 ∷ c.args.back.now = grind (arith, common_steps) in
    let fault = (c.read.ensures.shape c.in-Err-Shape.field-0-0).0 (c.in-Err-Shape.is ∙ ap Err c.in-Err-Shape.field-0-is) in
    fault.1.refused (subst IsName (sym text) (names_joined c.args.back.now c.requires.front c.requires.back))

pub unreachable-requires-in-Err-TooLong : goal.unreachable-requires-in-Err-TooLong
unreachable-requires-in-Err-TooLong c =
    let text : c.deref.result.now ≡ c.args.front.now ++ 47 ∷ c.args.back.now = grind (arith, common_steps) in
    let fault = (c.read.ensures.too_long c.in-Err-TooLong.field-0-0).0 (c.in-Err-TooLong.is ∙ ap Err c.in-Err-TooLong.field-0-is) in
    let short = c.requires.short in
    let same = ap length text in
    omega (arith, fault, short, same)
