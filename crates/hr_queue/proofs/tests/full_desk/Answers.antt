use Rattle.std.proofs.Common.{◌≡◌, List, [], ap, ◌∙◌}
use Rattle.hr_queue.specs.declared.answer.Queued.{Queued}
use Rattle.hr_queue.specs.View.{View}
use Rattle.hr_queue.proofs.tests.full_desk.Goals as goal

pub add-requires-clause-new : goal.add-requires-clause-new
add-requires-clause-new c =
    let added : View → List Queued = λ q. q.added in
    let none : c.reserve.new.self.added ≡ [] =
    ap added c.reserve.ensures.unchanged ∙ ap added c.new-queue.ensures in
    rw (none, c.as_slice.ensures.value) c.in_ok-jobs.ensures.distinct
