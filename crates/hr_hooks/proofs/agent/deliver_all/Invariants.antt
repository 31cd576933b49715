use Rattle.std.proofs.Common.{◌≡◌, take}
use Rattle.hr_hooks.specs.Link.{Delivers}
use Rattle.hr_hooks.proofs.agent.deliver_all.Given as goal

abbrev pub invariant-loop-hook : goal.invariant-loop-hook
invariant-loop-hook g l = record {
  count_is : l.count ≡ l.hook-index;
  delivered : Delivers (g.K.HookLink.delivered l.initial.link) (take l.hook-index l.hooks) (g.K.HookLink.delivered l.link);
  calm : g.K.Counted.faults l.link ≡ g.K.Counted.faults l.initial.link;
}
