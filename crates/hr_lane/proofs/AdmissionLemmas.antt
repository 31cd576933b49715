-- A revision whose word waits for its turn was not admitted before; what beginning one does.
use Rattle.std.proofs.Common.{◌≡◌, refl, subst, ℕ, ◌≤◌, ◌<◌, List, arith}
use Rattle.std.specs.Prelude.{Option, Some, None, IsSome}
use Rattle.hr_base.specs.Status.{word_of}
use Rattle.hr_base.specs.declared.status.Hook.{Hook}
use Rattle.hr_base.specs.declared.status.Mark.{Mark}
use Rattle.hr_base.specs.declared.status.Mark.TheVariants.{At}
use Rattle.hr_base.specs.declared.status.Status.TheVariants.{Running}
use Rattle.hr_board.specs.View.{Finds, Noted, View, moving, place_of}
use Rattle.hr_event.specs.declared.entry.Entry.{Entry}
use Rattle.hr_line.specs.Admission.{Begins}
use Rattle.hr_line.specs.Orderly.{IsNew, admitted_at}
use Rattle.hr_line.specs.State.{Link, State}
use Rattle.hr_line.specs.declared.held.Admitted.{Admitted}
use Rattle.hr_line.specs.declared.held.Held.{Held}
use Rattle.hr_lane.specs.Admission.{AreNoted}
use Rattle.hr_lane.specs.State.{state_of}
use Rattle.hr_lane.specs.Word.{MovesMark}

none_there : (o : Option Admitted) (v : View) (place word : ℕ) → Finds v place word → word < 3
    → (IsSome o → Noted v.notes place 3) → o ≡ None
none_there None v place word finds low noted = refl
none_there (Some a) v place word finds low noted =
    let above : 3 ≤ word = (finds.above 3 (noted refl)).0 in absurd (omega (arith, above, low))

pub is_new : (all : List Admitted) (a : Admitted) (v : View) (word : ℕ) → AreNoted all v
    → Finds v (place_of a.job.0 a.rev) word → word < 3 → IsNew all a
is_new all a v word noted finds low =
    none_there (admitted_at all a.job.0 a.rev) v (place_of a.job.0 a.rev) word finds low (noted a.job.0 a.rev)

-- ---- what is put together where one is begun

pub begins_from : (sources dests : List Link) (t : State) (a : Admitted) (log log' : List Entry) (hooks hooks' : List Hook)
    (all : List Admitted) (held held' : List Held) → log' ≡ log → hooks' ≡ hooks → held' ≡ held
    → Begins (state_of sources dests log' hooks' all held') t a → Begins (state_of sources dests log hooks all held) t a
begins_from sources dests t a log log' hooks hooks' all held held' one two three begins =
    subst (λ (x : List Held). Begins (state_of sources dests log hooks all x) t a) three
    (subst (λ (x : List Hook). Begins (state_of sources dests log x all held') t a) two
    (subst (λ (x : List Entry). Begins (state_of sources dests x hooks' all held') t a) one begins))

pub moves_from : (v w : View) (place : ℕ) (from mark : Mark) → from ≡ mark → Finds v place (word_of from)
    → w ≡ moving v place (word_of from) (word_of (At Running)) → MovesMark v w place mark (At Running)
moves_from v w place from mark same finds moved =
    subst (λ (m : Mark). MovesMark v w place m (At Running)) same (record { finds = finds; moved = moved })
