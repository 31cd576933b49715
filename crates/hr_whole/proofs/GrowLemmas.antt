-- What older entries show is shown by the whole journal.
use Rattle.std.proofs.Common.{◌≡◌, inl, inr, subst, List, [], ◌∷◌, arith}
use Rattle.std.specs.Prelude.{Some, Contains, ⊤}
use Rattle.hr_digest.specs.declared.digest.Digest.{Digest}
use Rattle.hr_event.specs.declared.cause.Cause.{Cause}
use Rattle.hr_event.specs.declared.cause.Cause.TheVariants as cause
use Rattle.hr_event.specs.declared.entry.Entry.{Entry}
use Rattle.hr_event.specs.declared.entry.What.{What}
use Rattle.hr_event.specs.declared.entry.What.TheVariants as what
use Rattle.hr_event.specs.declared.reference.Fetched.{Fetched}
use Rattle.hr_event.specs.declared.reference.Reference.TheVariants as by
use Rattle.hr_manifest.specs.Manifest.{Parts}
use Rattle.hr_manifest.specs.declared.child.ChildKind.{ChildKind}
use Rattle.hr_graph.proofs.ReachedLaws.{reached_more}
use Rattle.hr_adapter.specs.Content.{Content}
use Rattle.hr_journal.proofs.ListLaws.{contains_cases, contains_later}
use Rattle.hr_line.specs.Evidence.{IsRootOf, ReachedBy, ReadFor, ReadSome, Says}
use Rattle.hr_line.specs.Orderly.{admitted_at}
use Rattle.hr_line.specs.State.{State}
use Rattle.hr_line.specs.declared.held.Admitted.{Admitted}
use Rattle.hr_whole.specs.Calm.{IsCalm}
use Rattle.hr_whole.specs.Said.{AreSaid, EndsFor, IsAskedFor, IsMissing, IsSaid}

-- all entries of one journal are among those of another
abbrev pub IsWithin : List Entry → List Entry → Type 0
IsWithin older log = (x : Entry) → Contains older x → Contains log x

-- an entry that the journal has is what the source has, by those before it
pub said_of : (opened : State) (all : List Admitted) (log : List Entry) (e : Entry) → AreSaid opened all log → Contains log e
    → (older : List Entry) × IsWithin older log × ((a : Admitted) (c o : Content) → admitted_at all e.job.0 e.rev ≡ Some a
    → IsCalm opened a c o → IsSaid a c older e.what)
said_of opened all [] e said (k, within, is) = absurd (omega (arith, within))
said_of opened all (f ∷ older) e said within = elim (contains_cases f older e within) [
  | inl is ↦ (
    older,
    (λ x at. contains_later f older x at),
    subst (λ (x : Entry). (a : Admitted) (c o : Content) → admitted_at all x.job.0 x.rev ≡ Some a → IsCalm opened a c o
        → IsSaid a c older x.what) is said.0,
  )
  | inr later ↦
      let found = said_of opened all older e said.1 later in
      (found.0, (λ x at. contains_later f older x (found.1 x at)), found.2)
]

module _ (a : Admitted) (older log : List Entry) (more : IsWithin older log) where
  says_grow : (said : What) → Says a older said → Says a log said
  says_grow said s = record { entry = s.entry; logged = more s.entry s.logged; job = s.job; rev = s.rev; says = s.says }

  some_grow : (m : Fetched) → ReadSome a older m → ReadSome a log m
  some_grow m (ReadSome.tagged tag s) = ReadSome.tagged tag (says_grow (what.ReadTag tag m.media m.bytes) s)
  some_grow m (ReadSome.child d s) = ReadSome.child d (says_grow (what.ReadChild d m.media m.bytes) s)

  read_grow : (d : Digest) (m : Parts) → ReadFor a older d m → ReadFor a log d m
  read_grow d m r = record {
    read = some_grow (record { media = m.media; bytes = m.bytes }) r.read;
    own = r.own;
    reads = r.reads;
  }

  root_grow : (root : Digest) → IsRootOf a older root → IsRootOf a log root
  root_grow root r = record { tag = r.tag; m = r.m; says = says_grow (what.ReadTag r.tag r.m.media r.m.bytes) r.says; own = r.own }

  pub reached_grow : (k : ChildKind) (d : Digest) → ReachedBy a older k d → ReachedBy a log k d
  reached_grow k d r = record {
    root = r.root;
    is_root = root_grow r.root r.is_root;
    there = (
      r.there.0,
      reached_more (ReadFor a older) (ReadFor a log) (λ _ _. ⊤) (λ _ _. ⊤) read_grow (λ d n is. is) r.there.0 r.root k d r.there.1,
    );
  }

  missing_grow : (c : Content) (d : Digest) → IsMissing a c older d → IsMissing a c log d
  missing_grow c d (IsMissing.manifest reached none) = IsMissing.manifest (reached_grow ChildKind.Manifest d reached) none
  missing_grow c d (IsMissing.blob reached none) = IsMissing.blob (reached_grow ChildKind.Blob d reached) none

  asked_grow : (c : Content) (m : Fetched) → IsAskedFor a c older m → IsAskedFor a c log m
  asked_grow c m (IsAskedFor.tagged tag named is) = IsAskedFor.tagged tag named is
  asked_grow c m (IsAskedFor.child d reached is) = IsAskedFor.child d (reached_grow ChildKind.Manifest d reached) is

  pub ends_grow : (c : Content) (why : Cause) → EndsFor a c older why → EndsFor a c log why
  ends_grow c (cause.Gone (by.Tag tag)) ends = ends
  ends_grow c (cause.Gone (by.Digest d)) ends = missing_grow c d ends
  ends_grow c (cause.TooLong len) ends =
      record { m = ends.m; asked = asked_grow c ends.m ends.asked; long = ends.long; over = ends.over }
  ends_grow c (cause.Fault reg before after) ends = tt
  ends_grow c (cause.Differs asked got) ends = tt
  ends_grow c (cause.SizeDiffers d said got) ends = tt
  ends_grow c (cause.Unreadable d) ends = tt
  ends_grow c (cause.TooDeep d) ends = tt
  ends_grow c (cause.TooMany count) ends = tt
  ends_grow c cause.Memory ends = tt
