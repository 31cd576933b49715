-- What stands behind each tag that a revision finished: the manifest that it read under it before,
-- and what the look just before decides. (Our own.)
use Rattle.std.specs.Prelude.{◌≡◌, ◌≢◌, ⊤, ℕ, Bool, false, List, [], ◌∷◌, Contains, Option, Some, None, IfSome}
use Rattle.hr_digest.specs.declared.digest.Digest.{Digest}
use Rattle.hr_name.specs.Tag.{TagName}
use Rattle.hr_event.specs.declared.entry.Entry.{Entry}
use Rattle.hr_event.specs.declared.entry.How.{How}
use Rattle.hr_event.specs.declared.entry.How.TheVariants.{Put, Unsure, Same, Kept}
use Rattle.hr_event.specs.declared.entry.What.{What}
use Rattle.hr_event.specs.declared.entry.What.TheVariants as what
use Rattle.hr_event.specs.declared.reference.Fetched.{Fetched}
use Rattle.hr_manifest.specs.Reading.{Reads}
use Rattle.hr_manifest.specs.declared.child.Child.{Child}
use Rattle.hr_adapter.specs.Put.{Has}
use Rattle.hr_line.specs.Evidence.{Says}
use Rattle.hr_line.specs.Orderly.{admitted_at}
use Rattle.hr_line.specs.State.{State, held_at}
use Rattle.hr_line.specs.Step.{next_tag}
use Rattle.hr_line.specs.declared.held.Admitted.{Admitted}

-- a revision read a readable manifest of this digest under the tag
pub record RootRead (a : Admitted) (log : List Entry) (tag : TagName) (d : Digest) : Type 0 where
  pub m : Fetched
  pub kids : List Child
  pub says : Says a log (what.ReadTag tag m.media m.bytes)
  pub own : Has d m.bytes
  pub reads : Reads m.media m.bytes kids

-- how a tag comes out, by the digest that it is to name and the one that it named: one that names
-- the manifest already is the same, one that names another is kept where none is replaced, and else
-- the manifest is put
abbrev pub Decides : Bool → Digest → Option Digest → How → Type 0
Decides replaces d old Same = old ≡ Some d
Decides replaces d old Kept = (old ≢ Some d) × (old ≢ None) × (replaces ≡ false)
Decides replaces d old Put = (old ≢ Some d) × (replaces ≡ false → old ≡ None)
Decides replaces d old Unsure = (old ≢ Some d) × (replaces ≡ false → old ≡ None)

-- an entry that finishes a tag is about one of the task, whose manifest was read before, and
-- finishes it as the look just before decides
abbrev pub SaysShow : Admitted → List Entry → What → Type 0
SaysShow a older (what.Show tag d old how) =
    Contains a.spec.tags tag × RootRead a older tag d × Decides a.spec.override_it d old how
SaysShow a older _ = ⊤

-- so does each entry of a journal, by those before it
abbrev pub ShowsHold : List Admitted → List Entry → Type 0
ShowsHold all [] = ⊤
ShowsHold all (e ∷ older) =
    IfSome (admitted_at all e.job.0 e.rev) (λ a. SaysShow a older e.what) × ShowsHold all older

-- each tag that was finished was read, and so was each on which a revision that is held is at work
pub record AreShowsRead (s : State) : Type 0 where
  pub logged : ShowsHold s.admitted s.log
  pub held : (job : ℕ) → IfSome (held_at s.held job) (λ h. IfSome h.work (λ w.
      IfSome (next_tag h) (λ tag. RootRead h.by s.log tag w.walk.root)))
