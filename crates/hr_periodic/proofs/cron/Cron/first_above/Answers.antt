use Rattle.std.proofs.Common.{◌+◌, arith}
use Rattle.hr_periodic.proofs.MomentLemmas.{next_from, none_later, no_next_from, no_next_left}
use Rattle.hr_periodic.proofs.cron.Cron.first_above.Goals as goal

pub returns-then-found-last : goal.returns-then-found-last
returns-then-found-last c =
    next_from c.args.self.now c.args.after c.loop-moment.moment c.args.last c.in-Some.found c.loop-moment.invariant.0 c.loop-moment.invariant.1 c.in-Some.ensures.found c.if-found-last.true

pub returns-else-found-last : goal.returns-else-found-last
returns-else-found-last c =
    no_next_from c.args.self.now c.args.after c.args.last c.loop-moment.moment c.in-Some.found c.loop-moment.invariant.1 c.in-Some.ensures.found c.if-found-last.false

pub loop-moment-preserved : goal.loop-moment-preserved
loop-moment-preserved c =
    let above = c.loop-moment.invariant.0 in
    (omega arith, none_later c.args.self.now (c.args.after + 1) c.loop-moment.moment _ c.loop-moment.invariant.1 c.in_default.ensures.absent)

pub returns : goal.returns
returns c = no_next_left c.args.self.now c.args.after c.args.last c.loop-moment.moment c.loop-moment.invariant.1 c.loop-moment-test.false
