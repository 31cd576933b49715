use Rattle.std.proofs.Common.{◌≡◌, ℕ, length, arith, subst}
use Rattle.hr_queue.proofs.FindLemmas.{NotLower, not_lower-end, not_lower-from, lower-to, rank_is}
use Rattle.hr_queue.proofs.rows.find.Goals as goal

pub halves-init : goal.halves-init
halves-init c =
    let end : c.len-high.result ≡ length c.args.rows.now.items = grind arith in
    record {
      lower = tt;
      others = not_lower-end _ _ _ end;
      ordered = omega arith;
      within = omega (arith, end);
    }

pub halves-preserved-then-index-job : goal.halves-preserved-then-index-job
halves-preserved-then-index-job c = record {
  lower = lower-to _ _ c.index.result.now _ c.requires (omega arith) c.index.ensures c.if-index-job.true;
  others = c.halves.invariant.others;
  ordered = omega arith;
  within = c.halves.invariant.within;
}

pub halves-preserved : goal.halves-preserved
halves-preserved c = record {
  lower = c.halves.invariant.lower;
  others = not_lower-from _ _ c.index.result.now _ c.requires (omega arith) c.index.ensures c.if-index-job.false;
  ordered = omega arith;
  within = omega arith;
}

pub returns-clause-is : goal.returns-clause-is
returns-clause-is c =
    let met : c.halves.high ≡ c.halves.low = omega arith in
    let P : ℕ → Type 0 = λ n. NotLower n c.args.job.0 c.args.rows.now.items in
    rank_is c.halves.low _ _ c.halves.invariant.lower (subst P met c.halves.invariant.others) (omega arith)
