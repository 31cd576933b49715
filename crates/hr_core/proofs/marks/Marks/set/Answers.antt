use Rattle.std.proofs.Common.{◌∙◌, Bool, List, subst, sym}
use Rattle.hr_core.specs.Marks.{AreSet}
use Rattle.hr_core.proofs.MarkLemmas.{set_still}
use Rattle.hr_core.proofs.marks.Marks.set.Goals as goal

pub front_from-self-inside-requires : goal.front_from-self-inside-requires
front_from-self-inside-requires c =
    subst (λ (ms : List Bool). AreSet ms c.self.inside.front) (sym (c.as_slice.ensures.value ∙ c.set_mark.ensures))
    (set_still c.self.inside.marks.items c.args.place c.self.inside.front c.self.invariant)
