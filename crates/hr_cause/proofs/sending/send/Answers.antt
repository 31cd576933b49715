use Rattle.std.proofs.Common.{◌-◌, length, take, drop, ◌∙◌}
use Rattle.hr_cause.proofs.SendingLemmas.{front_more, whole_drop}
use Rattle.hr_cause.proofs.sending.send.Goals as goal

pub loop-rest-preserved : goal.loop-rest-preserved
loop-rest-preserved g c =
    let sent = g.K.Stream.sent in
    record {
      front = front_more (sent c.args.out.now) (sent c.loop-rest.out) (sent c.write.new.self) c.args.bytes.now c.loop-rest.rest.now (take (length c.loop-rest.rest.now - c.in_ok-count.count) (drop c.in_ok-count.count c.loop-rest.rest.now)) c.in_ok-count.count c.loop-rest.invariant.front c.in_ok-count.ensures.ok.told (whole_drop c.loop-rest.rest.now c.in_ok-count.count);
      calm = c.in_ok-count.ensures.cause.calm ∙ c.loop-rest.invariant.calm;
      left = c.write.ensures.left ∙ c.loop-rest.invariant.left;
    }
