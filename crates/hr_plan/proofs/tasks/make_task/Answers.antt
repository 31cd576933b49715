use Rattle.std.proofs.Common.{◌≡◌, ◌<◌, ℕ, length, rules, ap, subst}
use Rattle.std.specs.Prelude.{Err}
use Rattle.hr_name.specs.declared.name.TheConstants.{NAME_LIMIT}
use Rattle.hr_plan.specs.Tasks.{place_of}
use Rattle.hr_plan.proofs.tasks.make_task.Goals as goal

pub returns-in-Err-TooLong : goal.returns-in-Err-TooLong
returns-in-Err-TooLong c =
    let long = (c.in-Err-TooLong.ensures.too_long c.in-Err-TooLong.field-0-0).0 (ap Err c.in-Err-TooLong.field-0-is) in
    let is : c.in-Err-TooLong.field-0-0 ≡ length (place_of c.args.policy.now c.args.pick.now.repo) = search rules in
    (c.in_ok-repo-in-Err-TooLong.ensures, subst (λ (n : ℕ). NAME_LIMIT < n) is long.1)
