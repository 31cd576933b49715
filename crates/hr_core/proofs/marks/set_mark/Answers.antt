use Rattle.std.proofs.Common.{◌≤◌, ◌<◌, ◌∙◌, ap, Bool, List, length, rules}
use Rattle.hr_run.specs.State.{with_mark}
use Rattle.hr_core.proofs.MarkLemmas.{mark_missing, mark_there}
use Rattle.hr_core.proofs.marks.set_mark.Goals as goal

pub missing-preserved : goal.missing-preserved
missing-preserved c =
    let past : length c.missing.marks.items ≤ c.args.place = search rules in
    record {
      same = ap (λ (ms : List Bool). with_mark ms c.args.place) c.push_reserved.ensures.items
          ∙ mark_missing c.missing.marks.items c.args.place past ∙ c.missing.invariant.same;
      room = search rules;
    }

pub returns : goal.returns
returns c =
    let within : c.args.place < length c.missing.marks.items = search rules in
    mark_there c.missing.marks.items c.args.place within ∙ c.missing.invariant.same
