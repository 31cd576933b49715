use Rattle.std.proofs.Common.{refl}
use Rattle.std.specs.Prelude.{[], ◌∷◌}
use Rattle.hr_event.specs.declared.event.Event.TheVariants.{Finish}
use Rattle.hr_event.specs.declared.told.Told.TheVariants.{Idle}
use Rattle.hr_run.proofs.FinishLemmas.{finish_finishes}
use Rattle.hr_run.proofs.laws.done_after_finish.Goals as goal

pub returns : goal.returns
returns c s t o before sound h =
    let parts = c.events_are_parts.ensures.does s t Finish (Idle ∷ []) o before sound (h, refl) in
    c.done_when_finished.ensures t (c.parts_keep.ensures.all s t o parts) (finish_finishes s t h)
