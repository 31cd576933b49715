use Rattle.std.proofs.Common.{◌≡◌, ◌≤◌, ◌-◌, length, vec_len}
use Rattle.httparse.specs.Grammar.{HasNoResponse}
use Rattle.hr_cause.specs.Stream.{Gave}
use Rattle.hr_head.specs.declared.ending.Ending.TheVariants.{Lead}
use Rattle.hr_head.specs.declared.field.TheConstants.{HEAD_LIMIT}
use Rattle.hr_head.specs.Ending.{ending_of}
use Rattle.hr_head.proofs.reply.read_reply_head.Given as goal

-- the bytes came off the device, and hold no head
abbrev pub invariant-bytes : goal.invariant-bytes
invariant-bytes g l = record {
  told : Gave (g.L.Stream.left l.initial.link) l.buf.items (g.L.Stream.left l.link);
  none : HasNoResponse l.buf.items;
  ending : l.ending ≡ ending_of Lead l.buf.items;
  small : length l.buf.items ≤ HEAD_LIMIT;
  sent : g.L.Stream.sent l.link ≡ g.L.Stream.sent l.initial.link;
  calm : g.L.Counted.faults l.link ≡ g.L.Counted.faults l.initial.link;
}

abbrev pub decreases-bytes : goal.decreases-bytes
decreases-bytes g l = HEAD_LIMIT - vec_len l.buf
