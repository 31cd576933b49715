use Rattle.std.proofs.Common.{ap, ◌∙◌, arith, Err}
use Rattle.hr_policy.proofs.reading.read_object.Goals as goal

pub unreachable-requires : goal.unreachable-requires
unreachable-requires c =
    let long = (c.read.ensures.too_long c.in-Err-TooLong.field-0-0).0 (c.in-Err-TooLong.is ∙ ap Err c.in-Err-TooLong.field-0-is) in
    omega (arith, c.requires, long.0, long.1)
