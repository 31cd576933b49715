use Rattle.std.proofs.Common.{reverse}
use Rattle.hr_lane.specs.Admission.{waiting}
use Rattle.hr_lane.proofs.AdmissionLemmas.{begins_from, is_new, moves_from}
use Rattle.hr_base.specs.Status.{word_of}
use Rattle.hr_lane.proofs.admission.admit_held.Goals as goal

pub returns-in-Ok-clause-admits : goal.returns-in-Ok-clause-admits
returns-in-Ok-clause-admits g c sources dests =
    let all = reverse c.args.admitted.now.items in
    let same = c.take_room.ensures.unchanged in (
      begins_from sources dests _ c.args.by _ _ _ _ all _ _ same.1 same.2 same.0 (c.begin.ensures.begins sources dests),
      is_new all c.args.by _ (word_of c.waiting_at.result) c.requires.noted c.in-Ok.ensures.ok c.waiting_at.ensures.low,
      moves_from _ _ _ c.waiting_at.result (waiting c.args.by.rev) c.waiting_at.ensures.value c.in-Ok.ensures.ok
          c.in-Ok.ensures.moved,
    )
