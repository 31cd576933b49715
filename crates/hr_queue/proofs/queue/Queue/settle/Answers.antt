use Rattle.std.proofs.Common.{refl, inr, rules}
use Rattle.hr_queue.specs.declared.fate.Fate.TheVariants as fate
use Rattle.hr_queue.proofs.ByJobLemmas.{held_counted, held_stands}
use Rattle.hr_queue.proofs.WholeLemmas.{out_turn, whole_back, whole_done, whole_again, back_is, done_is, again_is, rows_same}
use Rattle.hr_queue.proofs.queue.Queue.settle.Goals as goal

pub take_back-requires : goal.take_back-requires
take_back-requires g c = record { out = held_counted _ _ _ c.in-Some.ensures }

pub take_back-requires-in-Over : goal.take_back-requires-in-Over
take_back-requires-in-Over g c = record { out = held_counted _ _ _ c.in-Some.ensures }

pub take_back-requires-in-Next : goal.take_back-requires-in-Next
take_back-requires-in-Next g c = record { out = held_counted _ _ _ c.in-Some.ensures }

pub delay-requires-clause-few : goal.delay-requires-clause-few
delay-requires-clause-few g c =
    let stands = held_stands _ _ _ c.in-Some.ensures in
    (out_turn _ _ _ _ _ _ _ c.self.invariant.0 stands).attempts

pub invariant_of-self : goal.invariant_of-self
invariant_of-self g c =
    let stands = held_stands _ _ _ c.in-Some.ensures in (
      whole_back _ _ _ _ _ _ _ _ _ c.self.invariant.0 stands c.take_back.ensures.is
          c.push_back_reserved.ensures.items,
      search rules,
      rows_same _ _ _ _ c.take_back.ensures.jobs c.self.invariant.2,
      search rules,
    )

pub invariant_of-self-in-Over : goal.invariant_of-self-in-Over
invariant_of-self-in-Over g c =
    let stands = held_stands _ _ _ c.in-Some.ensures in (
      whole_done _ _ _ _ _ _ _ _ _ _ _ c.self.invariant.0 stands c.take_back-in-Over.ensures.is
          c.push_reserved.ensures.items,
      search rules,
      rows_same _ _ _ _ c.take_back-in-Over.ensures.jobs c.self.invariant.2,
      search rules,
    )

pub invariant_of-self-in-Next : goal.invariant_of-self-in-Next
invariant_of-self-in-Next g c =
    let stands = held_stands _ _ _ c.in-Some.ensures in (
      whole_again _ _ _ _ _ _ _ _ _ _ c.self.invariant.0 stands c.in-Next.ensures.fate.left
          c.delay.ensures.is.is c.take_back-in-Next.ensures.is c.delay.ensures.is.more,
      search rules,
      rows_same _ _ _ _ c.take_back-in-Next.ensures.jobs c.self.invariant.2,
      search rules,
    )

pub returns-in-Unfinished-clause-settles : goal.returns-in-Unfinished-clause-settles
returns-in-Unfinished-clause-settles g c =
    let stands = held_stands _ _ _ c.in-Some.ensures in
    rw (← c.self.view_is) (inr (record {
      held = c.in-Some.held;
      out = c.in-Some.ensures;
      what = fate.Unfinished;
      fate = c.in-Unfinished.ensures.fate;
      goes = (
        refl,
        back_is _ _ _ _ _ stands c.take_back.ensures.is c.push_back_reserved.ensures.items,
      );
    }))

pub returns-in-Over-clause-settles : goal.returns-in-Over-clause-settles
returns-in-Over-clause-settles g c =
    let stands = held_stands _ _ _ c.in-Some.ensures in
    rw (← c.self.view_is) (inr (record {
      held = c.in-Some.held;
      out = c.in-Some.ensures;
      what = fate.Over c.in-Over.rev c.in-Over.status;
      fate = c.in-Over.ensures.fate;
      goes = (
        refl,
        done_is _ _ _ _ _ _ _ stands c.take_back-in-Over.ensures.is c.push_reserved.ensures.items,
      );
    }))

pub returns-in-Next-clause-settles : goal.returns-in-Next-clause-settles
returns-in-Next-clause-settles g c =
    let stands = held_stands _ _ _ c.in-Some.ensures in
    rw (← c.self.view_is) (inr (record {
      held = c.in-Some.held;
      out = c.in-Some.ensures;
      what = fate.Next;
      fate = c.in-Next.ensures.fate;
      goes = (
        c.delay.result,
        refl,
        c.delay.ensures.is,
        again_is _ _ _ _ _ _ _ _ _ stands c.take_back-in-Next.ensures.is,
      );
    }))
