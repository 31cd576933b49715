-- What holds of a destination in the middle of copies: its promise, and, of the tag on which each
-- revision is at work, that all which the walk has finished stands there. (Our own.)
use Rattle.std.specs.Prelude.{◌≡◌, ◌≢◌, ⊤, ℕ, IsTrue, List, [], ◌∷◌, length, Some, IfSome, Ok, option_map}
use Rattle.std.specs.List.{AllByRecursion}
use Rattle.hr_base.specs.declared.number.RegNo.{RegNo}
use Rattle.hr_name.specs.Name.{RepoName}
use Rattle.hr_name.specs.Tag.{TagName}
use Rattle.hr_event.specs.declared.entry.Entry.{Entry}
use Rattle.hr_event.specs.declared.reference.Fetched.{Fetched}
use Rattle.hr_manifest.specs.Manifest.{Parts}
use Rattle.hr_manifest.specs.Reading.{Reads}
use Rattle.hr_manifest.specs.declared.child.ChildKind.TheVariants as kind
use Rattle.hr_graph.specs.Sound.{IsSound}
use Rattle.hr_graph.specs.Walk.{View}
use Rattle.hr_graph.specs.declared.need.Need.TheVariants as need
use Rattle.hr_graph.specs.declared.opened.Opened.{Opened}
use Rattle.hr_adapter.specs.Content.{Content, Honest, blob_at}
use Rattle.hr_adapter.specs.Reg.{Reg}
use Rattle.hr_journal.specs.Graph.{Closed, Stands}
use Rattle.hr_journal.specs.OneEach.{OneEach}
use Rattle.hr_journal.specs.Promise.{Promise}
use Rattle.hr_journal.specs.Says.{Placement, child_read, last, read_under}
use Rattle.hr_line.specs.Line.{LineEnd}
use Rattle.hr_line.specs.Orderly.{placement}
use Rattle.hr_line.specs.State.{Link, State, held_at, link_at}
use Rattle.hr_line.specs.Step.{next_tag}
use Rattle.hr_line.specs.declared.held.Admitted.{Admitted}
use Rattle.hr_line.specs.declared.held.Held.{Held}
use Rattle.hr_line.specs.declared.held.Work.{Work}

-- what a walk has finished stands in the repository, with the graph below it
pub record Standing (c : Content) (repo : RepoName) (view : View) : Type 0 where
  pub blobs : AllByRecursion (λ e. option_map length (blob_at c repo e.0) ≡ Some e.1) view.blobs
  pub manifests : AllByRecursion
      (λ e. Stands (Closed e.1.height c repo) c repo kind.Manifest e.0 e.1.len) view.manifests

-- a manifest that was read as it is stored: its media type and its bytes
abbrev pub stored_of : Parts → Fetched
stored_of parts = record { media = parts.media; bytes = parts.bytes }

-- each open manifest is the one that the revision read last under its digest; the oldest, under the
-- tag
abbrev pub WereRead : Admitted → TagName → List Entry → List Opened → Type 0
WereRead a tag log [] = ⊤
WereRead a tag log (o ∷ []) = last (read_under tag) a.job.0 a.rev log ≡ Some (stored_of o.manifest)
WereRead a tag log (o ∷ p ∷ below) =
    (last (child_read o.digest) a.job.0 a.rev log ≡ Some (stored_of o.manifest))
    × WereRead a tag log (p ∷ below)

-- the bytes of a manifest read, under its media type, as its children
abbrev pub IsReadable : Parts → Type 0
IsReadable parts = Reads parts.media parts.bytes parts.children

-- the walk of a revision over the graph of a tag, where this is the content of its destination: what
-- it has open was read, and, where no digest stands for two contents, what it has finished stands
-- there
pub record WalkStands (to : Placement) (o : Content) (a : Admitted) (tag : TagName)
    (log : List Entry) (c : Content) (view : View) : Type 0 where
  pub read : WereRead a tag log view.opened
  pub readable : AllByRecursion (λ opened. IsReadable opened.manifest) view.opened
  pub standing : OneEach to o log → Standing c a.spec.to view

-- the work of a revision on a tag: its walk isn't done, and stands there
pub record WorkStands (to : Placement) (o : Content) (a : Admitted) (tag : TagName)
    (log : List Entry) (c : Content) (w : Work) : Type 0 where
  pub sound : IsSound w.walk
  pub going : w.walk.need ≢ need.Done
  pub walk : WalkStands to o a tag log c w.walk

-- so at the end of a line, where work goes on
abbrev pub EndStands : Placement → Content → Admitted → TagName → List Entry → Content → LineEnd → Type 0
EndStands to o a tag log c (Ok (Some w)) = WorkStands to o a tag log c w
EndStands to o a tag log c _ = ⊤

-- a revision that is held is at work on its next tag, if on any, and that work stands, where this is
-- its destination
pub record HeldStands (reg : RegNo) (to : Placement) (o : Content) (log : List Entry) (c : Content)
    (h : Held) : Type 0 where
  pub work : h.by.spec.dst ≡ reg → IfSome h.work
      (λ w. IfSome (next_tag h) (λ tag. WorkStands to o h.by tag log c w))

-- a destination that was opened with the content o, and tells this content now, keeps its promise,
-- and the work of every revision that is held stands there
pub record ContentKept (s : State) (reg : RegNo) (o c : Content) : Type 0 where
  pub promise : Promise (placement reg s.admitted) o s.log c
  pub held : (job : ℕ) → IfSome (held_at s.held job)
      (HeldStands reg (placement reg s.admitted) o s.log c)

-- a destination that tells, is quiet and was opened with the content o keeps its promise
pub record IsKept (s : State) (reg : RegNo) (o : Content) : Type 0 where
  pub now : Reg
  pub there : link_at s.dests reg ≡ Some now
  pub quiet : IsTrue now.quiet
  pub content : Content
  pub told : now.told ≡ Some content
  pub kept : ContentKept s reg o content

-- every destination that was opened quiet, with a content that it tells and where everything stands
-- under its own digest, keeps its promise
abbrev pub AreKept : List Link → State → Type 0
AreKept opened s = AllByRecursion (λ (l : Link). IsTrue l.seen.quiet → IfSome l.seen.told
    (λ o. Honest o → IsKept s l.reg o)) opened
