use Rattle.std.proofs.Common.{◌≡◌, ◌≤◌, ◌+◌, ◌-◌, ◌^◌, arith}
use Rattle.std.proofs.lemmas.Grind.{common_steps}
use Rattle.hr_body.specs.Reading.{in_word}
use Rattle.hr_body.proofs.ReadingLemmas.{over_gave, passed}
use Rattle.hr_body.proofs.piece.read_past.Goals as goal

pub returns-in-None-clause-ok : goal.returns-in-None-clause-ok
returns-in-None-clause-ok g c =
    let end = rw c.in-None.is at c.in_ok-read_byte.ensures.ok in
    let small : c.args.at ≤ 2 ^ 64 - 1 = grind (arith, common_steps) in
    over_gave c.end_in_data.result _ _ c.args.stage c.args.at end c.end_in_data.ensures small

pub returns-in-Some-clause-err : goal.returns-in-Some-clause-err
returns-in-Some-clause-err g c =
    let one = rw c.in-Some.is at c.in_ok-read_byte.ensures.ok in
    let count : c.saturating_add.result ≡ in_word (c.args.limit + 1) = grind (arith, common_steps) in
    passed _ _ c.args.stage c.args.at c.args.limit _ c.in-Some.field-0 c.requires one count
