use Rattle.std.proofs.Common.{ℕ, ◌+◌, ◌<◌, ◌≤◌, List, [], ◌∷◌, length, get_or, sym, ap, subst, arith, length-append}
use Rattle.std.proofs.lemmas.List.Elements.{All-from_recursion}
use Rattle.std.specs.List.{AllByRecursion}
use Rattle.hr_queue.specs.declared.answer.Queued.{Queued}
use Rattle.hr_queue.specs.Adding.{IsFit}
use Rattle.hr_queue.specs.View.{AreDistinct}
use Rattle.hr_queue.proofs.ListLemmas.{all-push, all-weaker}
use Rattle.hr_queue.proofs.tests.numbered.Goals as goal

pub loop-attempts-preserved : goal.loop-attempts-preserved
loop-attempts-preserved c =
    let jobs = c.loop-attempts.jobs.items in
    let next = c.loop-attempts.next in
    let known = c.loop-attempts.invariant in
    let count = length c.args.attempts.now in
    let attempts = get_or c.args.attempts.now c.loop-attempts.attempts-index 0 in
    let job : Queued = record { job = record { 0 = next }; attempts = attempts } in
    let few : (1 ≤ attempts) × (attempts ≤ 4) = All-from_recursion (λ a. (1 ≤ a) × (a ≤ 4))
    c.args.attempts.now c.requires.fit c.loop-attempts.attempts-index 0 c.loop-attempts-test.true in
    let items = c.in_ok-push.ensures.items in
    let below : Queued → Type 0 = λ a. a.job.0 < next in
    let below_next : Queued → Type 0 = λ a. a.job.0 < next + 1 in
    let all_below : List Queued → Type 0 = λ js. AllByRecursion below_next js in
    let all_fit : List Queued → Type 0 = λ js. AllByRecursion (IsFit count) js in
    let fit : IsFit count job = (omega arith, omega arith, few.0, few.1) in
    record {
      distinct = subst AreDistinct (sym items)
          (c.a_later_job_is_new.ensures jobs job known.distinct known.below);
      below = subst all_below (sym items) (all-push below_next jobs job
          (all-weaker below below_next (λ a lower. omega (arith, lower)) jobs known.below) (omega arith));
      fit = subst all_fit (sym items) (all-push (IsFit count) jobs job known.fit fit);
      len = omega (arith, ap length items, length-append jobs (job ∷ []));
      next = omega arith;
    }
