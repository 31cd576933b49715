use Rattle.std.proofs.Common.{ℕ, ap, ◌∙◌, arith, rules}
use Rattle.hr_queue.specs.View.{View, times_added}
use Rattle.hr_queue.proofs.WholeLemmas.{whole_add, rows_add}
use Rattle.hr_queue.proofs.queue.Queue.add_one.Goals as goal

pub add-requires-clause-new : goal.add-requires-clause-new
add-requires-clause-new g c =
    let times : View → ℕ = λ q. times_added q.added c.args.job.job.0 in
    c.self.invariant.2.each c.args.job.job.0 ∙ ap times c.self.view_is ∙ c.requires.new

pub invariant_of-self : goal.invariant_of-self
invariant_of-self g c =
    let times : View → ℕ = λ q. times_added q.added c.args.job.job.0 in
    let fit = c.requires.fit in (
      rw c.add.ensures.outs (whole_add _ _ _ _ _ c.args.job _ _ c.self.invariant.0
          (ap times c.self.view_is ∙ c.requires.new)
          (record { job = fit.0; rev = omega (arith, fit.2); attempts = fit.3 })
          c.push_back_reserved.ensures.items c.then.ensures),
      search rules,
      rows_add _ _ _ _ _ c.args.job c.self.invariant.2 c.then.ensures c.add.ensures.len
          c.add.ensures.jobs,
      search rules,
    )
