use Rattle.std.proofs.Common.{◌≤◌, ◌-◌, ◌^◌, arith}
use Rattle.std.proofs.lemmas.Grind.{common_steps}
use Rattle.hr_body.proofs.ReadingLemmas.{piece_none, all_behind, fault_behind}
use Rattle.hr_body.proofs.piece.read_piece.Goals as goal

pub returns-clause-ok : goal.returns-clause-ok
returns-clause-ok g c = all_behind _ _ _ _ _ _ _ _ c.take_data.result c.in_ok-found.ensures.ok c.take_data.ensures.ok

pub returns-clause-err : goal.returns-clause-err
returns-clause-err g c = fault_behind _ _ _ _ _ _ _ _ _ c.take_data.result c.in_ok-found.ensures.ok c.take_data.ensures.err

pub returns-then-is_empty-clause-ok : goal.returns-then-is_empty-clause-ok
returns-then-is_empty-clause-ok g c =
    let small : c.args.at ≤ 2 ^ 64 - 1 = grind (arith, common_steps) in
    piece_none _ c.args.stage c.args.at small
