-- Lemmas on the words of specs/Settling.antt.
use Rattle.std.proofs.Common.{◌≡◌, ℕ, List, ap, ◌∙◌}
use Rattle.hr_base.specs.declared.number.JobNo.{JobNo}
use Rattle.hr_board.specs.View as board
use Rattle.hr_event.specs.declared.task.Turn.{Turn}
use Rattle.hr_queue.specs.declared.answer.Settled.{Settled}
use Rattle.hr_queue.specs.declared.fate.Fate.{Fate}
use Rattle.hr_queue.specs.declared.fate.Fate.TheVariants as fate
use Rattle.hr_queue.specs.ByJob.{without_job}
use Rattle.hr_queue.specs.Settling.{Goes, SettlesHeld}
use Rattle.hr_queue.specs.View.{View}

-- wherever a turn goes, it leaves those that are out
gone : (now : ℕ) (q r : View) (held : Turn) (what : Fate) (answer : Settled)
    → Goes now q held what answer r → r.out ≡ without_job q.out held.job.0
gone now q r held fate.Unfinished answer goes = ap (λ (v : View). v.out) goes.1
gone now q r held (fate.Over rev status) answer goes = ap (λ (v : View). v.out) goes.1
gone now q r held fate.Next answer goes = ap (λ (v : View). v.out) goes.3

pub taken_back : (now : ℕ) (q r : View) (b c : board.View) (turn : Turn) (answer : Settled)
    → SettlesHeld now q b turn answer r c → r.out ≡ without_job q.out turn.job.0
taken_back now q r b c turn answer h =
    let others : JobNo → List Turn = λ job. without_job q.out job.0 in
    gone now q r h.held h.what answer h.goes ∙ ap others h.out.job
