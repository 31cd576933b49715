-- What a walk has finished goes on standing with each entry, and with each answer that it takes.
use Rattle.std.proofs.Common.{◌≡◌, refl, sym, ap, subst, ◌∙◌, ℕ, ◌+◌, false, List, [], ◌∷◌, ◌++◌, length, arith}
use Rattle.std.specs.Prelude.{◌≢◌, Some, None, IfSome, Result, Ok, Err, option_map, ⊤}
use Rattle.std.specs.List.{AllByRecursion}
use Rattle.hr_base.specs.Bytes.{ByteList, Media}
use Rattle.hr_digest.specs.Digest.{digest_of}
use Rattle.hr_digest.specs.declared.digest.Digest.{Digest}
use Rattle.hr_name.specs.Name.{RepoName}
use Rattle.hr_name.specs.Tag.{TagName}
use Rattle.hr_event.specs.declared.entry.Entry.{Entry}
use Rattle.hr_event.specs.declared.entry.What.{What}
use Rattle.hr_event.specs.declared.entry.What.TheVariants.{ReadChild}
use Rattle.hr_manifest.specs.Manifest.{Parts}
use Rattle.hr_manifest.specs.declared.child.Child.{Child}
use Rattle.hr_manifest.specs.declared.child.ChildKind.{ChildKind}
use Rattle.hr_manifest.specs.declared.child.ChildKind.TheVariants as kind
use Rattle.hr_graph.specs.Answered.{BlobIsToBeCopied, BlobWasFinished, ChildWasOpened, IsAnswered, IsSettled, ManifestWasPut}
use Rattle.hr_graph.specs.Meeting.{moved_to, next_in, settled, settled_by}
use Rattle.hr_graph.specs.declared.meeting.Next.{Next}
use Rattle.hr_graph.specs.Sound.{IsBelow, IsBelowAs, IsPassed, IsPassedAs, IsSound}
use Rattle.hr_graph.specs.Step as step
use Rattle.hr_graph.specs.Walk.{Answers, View, is_open, newest_manifest}
use Rattle.hr_graph.specs.declared.need.Given.{Given}
use Rattle.hr_graph.specs.declared.need.Given.TheVariants as given
use Rattle.hr_graph.specs.declared.need.Need.{Need}
use Rattle.hr_graph.specs.declared.need.Need.TheVariants as need
use Rattle.hr_graph.specs.declared.need.WalkRefused.{WalkRefused}
use Rattle.hr_graph.specs.declared.opened.Finished.{Finished}
use Rattle.hr_graph.specs.declared.opened.Opened.{Opened}
use Rattle.hr_graph.proofs.WalkLaws.{answered, begun_sound, begun_undone, comes_last, done_last, known_all, step_falls}
use Rattle.hr_adapter.specs.Content.{Content, blob_at, manifest_at}
use Rattle.hr_journal.specs.Graph.{Closed, Stands, StandsUnder}
use Rattle.hr_journal.specs.Grows.{Grows}
use Rattle.hr_journal.specs.OneEach.{OneEach}
use Rattle.hr_journal.specs.Says.{Placement, child_read, last, read_under}
use Rattle.hr_journal.proofs.ListLaws.{each_then}
use Rattle.hr_journal.proofs.PromiseLaws.{closed_made, each_before, stands_closed_grow}
use Rattle.hr_line.specs.Destination.{EndStands, IsReadable, Standing, WalkStands, WereRead, WorkStands, stored_of}
use Rattle.hr_line.specs.Line.{IsBeginning, IsTaking, LineEnd, WalkBegins, WorkGoes, entry_of, walked}
use Rattle.hr_line.specs.declared.held.Admitted.{Admitted}
use Rattle.hr_line.specs.declared.held.Work.{Work}
use Rattle.hr_line.proofs.LastLemmas.{Wrote, each_fewer, read_apart, read_child, read_moved, read_still}

-- ---- what stands

abbrev BlobStands : Content → RepoName → Digest × ℕ → Type 0
BlobStands c repo e = option_map length (blob_at c repo e.0) ≡ Some e.1

abbrev ManifestStands : Content → RepoName → Digest × Finished → Type 0
ManifestStands c repo e = Stands (Closed e.1.height c repo) c repo kind.Manifest e.0 e.1.len

each_one_more : {X : Type 0} (P : X → Type 0) (xs : List X) (x : X) → AllByRecursion P xs → P x
    → AllByRecursion P (xs ++ x ∷ [])
each_one_more P [] x all holds = (holds, tt)
each_one_more P (y ∷ xs) x all holds = (all.0, each_one_more P xs x all.1 holds)

pub standing_grows : (b c : Content) (repo : RepoName) (view : View) → Grows b c → Standing b repo view
    → Standing c repo view
standing_grows b c repo view grows standing = record {
  blobs = each_then {P = BlobStands b repo} {Q = BlobStands c repo}
      (λ e. grows.blobs repo e.0 e.1) view.blobs standing.blobs;
  manifests = each_then {P = ManifestStands b repo} {Q = ManifestStands c repo}
      (λ e. stands_closed_grow e.1.height b c repo grows kind.Manifest e.0 e.1.len) view.manifests standing.manifests;
}

-- ---- the children of a manifest that is to be put

below_stands : (c : Content) (repo : RepoName) (view : View) (h : ℕ) → Standing c repo view
    → (k : ChildKind) (kid : Child) → IsBelowAs view.blobs view.manifests h k kid
    → StandsUnder h c repo k kid.digest kid.size
below_stands c repo view h standing kind.Foreign kid below = tt
below_stands c repo view h standing kind.Blob kid below =
    known_all (BlobStands c repo) kid.digest view.blobs kid.size standing.blobs below
below_stands c repo view h standing kind.Manifest kid (done, there, long, lower) = (
  done.height,
  lower,
  subst (λ (n : ℕ). Stands (Closed done.height c repo) c repo kind.Manifest kid.digest n) long
      (known_all (ManifestStands c repo) kid.digest view.manifests done standing.manifests there),
)

each_below_stands : (c : Content) (repo : RepoName) (view : View) (h : ℕ) → Standing c repo view → (kids : List Child)
    → AllByRecursion (IsBelow view.blobs view.manifests h) kids
    → AllByRecursion (λ kid. StandsUnder h c repo kid.kind kid.digest kid.size) kids
each_below_stands c repo view h standing kids =
    each_then {P = IsBelow view.blobs view.manifests h} {Q = λ kid. StandsUnder h c repo kid.kind kid.digest kid.size}
    (λ kid. below_stands c repo view h standing kid.kind kid) kids

passed_stands : (c : Content) (repo : RepoName) (view : View) → Standing c repo view
    → (k : ChildKind) (kid : Child) → IsPassedAs view.blobs view.manifests k 1 kid
    → StandsUnder 8 c repo k kid.digest kid.size
passed_stands c repo view standing kind.Foreign kid passed = tt
passed_stands c repo view standing kind.Blob kid passed =
    known_all (BlobStands c repo) kid.digest view.blobs kid.size standing.blobs passed
passed_stands c repo view standing kind.Manifest kid passed = (
  passed.height,
  omega (arith, passed.depth),
  known_all (ManifestStands c repo) kid.digest view.manifests (record { len = kid.size; height = passed.height })
      standing.manifests passed.there,
)

-- at level 1 the children of the root nest at most seven levels more
pub each_passed_stands : (c : Content) (repo : RepoName) (view : View) (level : ℕ) → level ≡ 0 → Standing c repo view
    → (kids : List Child) → AllByRecursion (IsPassed view.blobs view.manifests (level + 1)) kids
    → AllByRecursion (λ kid. StandsUnder 8 c repo kid.kind kid.digest kid.size) kids
each_passed_stands c repo view level root standing kids passed =
    let at : level + 1 ≡ 1 = omega (arith, root) in
    each_then {P = IsPassed view.blobs view.manifests 1} {Q = λ kid. StandsUnder 8 c repo kid.kind kid.digest kid.size}
    (λ kid. passed_stands c repo view standing kid.kind kid) kids
    (subst (λ (n : ℕ). AllByRecursion (IsPassed view.blobs view.manifests n) kids) at passed)

-- ---- the open manifests

readable_moved : (at : ℕ) (opened : List Opened) → AllByRecursion (λ o. IsReadable o.manifest) opened
    → AllByRecursion (λ o. IsReadable o.manifest) (moved_to at opened)
readable_moved at [] each = each
readable_moved at (o ∷ below) each = each

read_below : (a : Admitted) (tag : TagName) (log : List Entry) (o : Opened) (below : List Opened)
    → WereRead a tag log (o ∷ below) → WereRead a tag log below
read_below a tag log o [] read = tt
read_below a tag log o (p ∷ below) read = read.1

read_above : (a : Admitted) (tag : TagName) (log : List Entry) (o newest : Opened) (below opened : List Opened)
    → opened ≡ newest ∷ below → last (child_read o.digest) a.job.0 a.rev log ≡ Some (stored_of o.manifest)
    → WereRead a tag log opened → WereRead a tag log (o ∷ opened)
read_above a tag log o newest below opened is now read =
    subst (λ (os : List Opened). WereRead a tag log (o ∷ os)) (sym is)
    (now, subst (λ (os : List Opened). WereRead a tag log os) is read)

-- the newest open manifest is one whatever way it is found
same_newest : (opened : List Opened) (o p : Opened) (below rest : List Opened) → opened ≡ o ∷ below → opened ≡ p ∷ rest → p ≡ o
same_newest opened o p below rest one other = let same : (p ∷ rest) ≡ (o ∷ below) = sym other ∙ one in cc

-- ---- the next need

settled_from : (view new : View) (next : Result Next WalkRefused)
    → next_in view.opened view.blobs view.manifests ≡ next → settled_by view next ≡ Ok new
    → IsSettled view new
settled_from view new (Ok next) same is =
    record { at = next.at; asked = next.need; next = same; is = cc }
settled_from view new (Err why) same is = cc

is_settled : (view new : View) → settled view ≡ Ok new → IsSettled view new
is_settled view new is = settled_from view new (next_in view.opened view.blobs view.manifests) refl is

-- ---- entries

module _ (to : Placement) (o : Content) (a : Admitted) (tag : TagName) where
  -- an entry of the revision by which it read no manifest
  pub entry_stands : (log : List Entry) (view : View) (b c : Content) (said : What)
      → (OneEach to o (entry_of a said ∷ log) → Grows b c)
      → ((t : TagName) → read_under t said ≡ None) → ((d : Digest) → child_read d said ≡ None)
      → WalkStands to o a tag log b view → WalkStands to o a tag (entry_of a said ∷ log) c view
  entry_stands log view b c said grows tags kids stands = record {
    read = read_still a tag said log view.opened tags kids stands.read;
    readable = stands.readable;
    standing = λ each. standing_grows b c a.spec.to view (grows each)
        (stands.standing (each_before to o (entry_of a said) log each));
  }

  -- an entry by which it read a child that isn't open
  pub child_stands : (log : List Entry) (view : View) (c : Content) (d : Digest) (media : Media) (bytes : ByteList)
      → is_open d view.opened ≡ false → WalkStands to o a tag log c view
      → WalkStands to o a tag (entry_of a (ReadChild d media bytes) ∷ log) c view
  child_stands log view c d media bytes other stands = record {
    read = read_child a tag d media bytes log view.opened other stands.read;
    readable = stands.readable;
    standing = λ each. stands.standing (each_before to o (entry_of a (ReadChild d media bytes)) log each);
  }

  -- entries of another job
  pub walk_apart : (other : Admitted) (older newer : List Entry) (view : View) (b c : Content) → Wrote other older newer
      → other.job.0 ≢ a.job.0 → (OneEach to o newer → Grows b c)
      → WalkStands to o a tag older b view → WalkStands to o a tag newer c view
  walk_apart other older newer view b c wrote apart grows stands = record {
    read = read_apart a tag other older newer wrote apart view.opened stands.read;
    readable = stands.readable;
    standing = λ each. standing_grows b c a.spec.to view (grows each)
        (stands.standing (each_fewer to o other older newer wrote each));
  }

  pub work_apart : (other : Admitted) (older newer : List Entry) (w : Work) (b c : Content) → Wrote other older newer
      → other.job.0 ≢ a.job.0 → (OneEach to o newer → Grows b c)
      → WorkStands to o a tag older b w → WorkStands to o a tag newer c w
  work_apart other older newer w b c wrote apart grows stands = record {
    sound = stands.sound;
    going = stands.going;
    walk = walk_apart other older newer w.walk b c wrote apart grows stands.walk;
  }

  -- ---- answers

  settled_stands : (log : List Entry) (c : Content) (view new : View) → IsSettled view new
      → WalkStands to o a tag log c view → WalkStands to o a tag log c new
  settled_stands log c view new settled stands =
      subst (λ (v : View). WalkStands to o a tag log c v) (sym settled.is) (record {
        read = read_moved a tag log settled.at view.opened stands.read;
        readable = readable_moved settled.at view.opened stands.readable;
        standing = λ each.
            let standing = stands.standing each in
            record { blobs = standing.blobs; manifests = standing.manifests };
      })

  finished_stands : (log : List Entry) (c : Content) (old new : View) (d : Digest) (len : ℕ)
      → option_map length (blob_at c a.spec.to d) ≡ Some len → BlobWasFinished old d len new
      → WalkStands to o a tag log c old → WalkStands to o a tag log c new
  finished_stands log c old new d len there was stands =
      settled_stands log c (step.with_blob old d len) new was.settled (record {
        read = stands.read;
        readable = stands.readable;
        standing = λ each.
            let standing = stands.standing each in record {
              blobs = each_one_more (BlobStands c a.spec.to) old.blobs (d, len) standing.blobs there;
              manifests = standing.manifests;
            };
      })

  asked_stands : (log : List Entry) (c : Content) (old new : View) (d : Digest) → BlobIsToBeCopied old d new
      → WalkStands to o a tag log c old → WalkStands to o a tag log c new
  asked_stands log c old new d was stands =
      subst (λ (v : View). WalkStands to o a tag log c v) (sym was.is) (record {
        read = stands.read;
        readable = stands.readable;
        standing = λ each.
            let standing = stands.standing each in
            record { blobs = standing.blobs; manifests = standing.manifests };
      })

  opened_stands : (log : List Entry) (c : Content) (old new : View) (d : Digest) (m : Parts)
      → last (child_read d) a.job.0 a.rev log ≡ Some (stored_of m) → IsReadable m → ChildWasOpened old d m new
      → WalkStands to o a tag log c old → WalkStands to o a tag log c new
  opened_stands log c old new d m read reads was stands =
      let above : Opened = record { digest = d; manifest = m; level = was.parent.level + 1; next = 0 } in
      settled_stands log c (step.with_opened old d m was.parent) new was.settled (record {
        read = read_above a tag log above was.parent was.below old.opened was.opened read stands.read;
        readable = (reads, stands.readable);
        standing = λ each.
            let standing = stands.standing each in
            record { blobs = standing.blobs; manifests = standing.manifests };
      })

  -- the newest open manifest is closed
  closed_stands : (log : List Entry) (c : Content) (old new : View) (newest : Opened) (below : List Opened)
      → old.opened ≡ newest ∷ below → manifest_at c a.spec.to newest.digest ≡ Some (stored_of newest.manifest)
      → AllByRecursion (IsBelow old.blobs old.manifests (step.height_of old.manifests newest.manifest.children))
      newest.manifest.children
      → IsSettled (step.with_put old newest below) new
      → WalkStands to o a tag log c old → WalkStands to o a tag log c new
  closed_stands log c old new newest below opened there each settled stands =
      let reads = subst (λ (os : List Opened). AllByRecursion (λ p. IsReadable p.manifest) os) opened stands.readable in
      let done : Finished = step.finished_of old.manifests newest in
      settled_stands log c (step.with_put old newest below) new settled (record {
        read = read_below a tag log newest below
            (subst (λ (os : List Opened). WereRead a tag log os) opened stands.read);
        readable = reads.1;
        standing = λ one.
            let standing = stands.standing one in record {
              blobs = standing.blobs;
              manifests = each_one_more (ManifestStands c a.spec.to) old.manifests (newest.digest, done) standing.manifests (
                ap (option_map (λ m. length m.bytes)) there,
                closed_made done.height c a.spec.to newest.digest (stored_of newest.manifest) newest.manifest.children there reads.0
                    (each_below_stands c a.spec.to old done.height standing newest.manifest.children each),
              );
            };
      })

  put_stands : (log : List Entry) (c : Content) (old new : View) (d : Digest) → IsSound old → old.need ≡ need.PutManifest d
      → IfSome (newest_manifest (need.PutManifest d) old.opened) (λ m. manifest_at c a.spec.to d ≡ Some (stored_of m))
      → ManifestWasPut old d new → WalkStands to o a tag log c old → WalkStands to o a tag log c new
  put_stands log c old new d sound asked there was stands =
      let ends = comes_last old d sound asked in
      let same : was.newest ≡ ends.newest = same_newest old.opened ends.newest was.newest ends.below was.below ends.opened was.opened in
      let now : manifest_at c a.spec.to d ≡ Some (stored_of was.newest.manifest) =
      subst (λ (os : List Opened). IfSome (newest_manifest (need.PutManifest d) os) (λ m. manifest_at c a.spec.to d ≡ Some (stored_of m)))
      was.opened there in
      closed_stands log c old new was.newest was.below was.opened
      (ap (manifest_at c a.spec.to) was.named ∙ now)
      (subst (λ (p : Opened). AllByRecursion (IsBelow old.blobs old.manifests (step.height_of old.manifests p.manifest.children)) p.manifest.children)
      (sym same) ends.each) was.settled stands

  -- what an answer to a need says stands there
  abbrev pub AnswerStands : List Entry → Content → View → Need → Given → Type 0
  AnswerStands log c view (need.Manifest d) (given.Manifest m) =
      (last (child_read d) a.job.0 a.rev log ≡ Some (stored_of m)) × IsReadable m
  AnswerStands log c view (need.HasBlob d) (given.Found (Some len)) = option_map length (blob_at c a.spec.to d) ≡ Some len
  AnswerStands log c view (need.CopyBlob d) (given.Copied len) = option_map length (blob_at c a.spec.to d) ≡ Some len
  AnswerStands log c view (need.PutManifest d) given.Put =
      IfSome (newest_manifest (need.PutManifest d) view.opened) (λ m. manifest_at c a.spec.to d ≡ Some (stored_of m))
  AnswerStands log c view _ _ = ⊤

  answered_stands : (log : List Entry) (c : Content) (old new : View) (x : Need) (g : Given) → IsSound old → old.need ≡ x
      → AnswerStands log c old x g → IsAnswered old x g new
      → WalkStands to o a tag log c old → WalkStands to o a tag log c new
  answered_stands log c old new (need.Manifest d) (given.Manifest m) sound is there was stands =
      opened_stands log c old new d m there.0 there.1 was stands
  answered_stands log c old new (need.HasBlob d) (given.Found (Some len)) sound is there was stands =
      finished_stands log c old new d len there was stands
  answered_stands log c old new (need.HasBlob d) (given.Found None) sound is there was stands =
      asked_stands log c old new d was stands
  answered_stands log c old new (need.CopyBlob d) (given.Copied len) sound is there was stands =
      finished_stands log c old new d len there was stands
  answered_stands log c old new (need.PutManifest d) given.Put sound is there was stands =
      put_stands log c old new d sound is there was stands
  answered_stands log c old new x g sound is there was stands = absurd was

  -- work goes on by an answer that isn't the put of the root
  pub goes_stands : (log : List Entry) (c : Content) (w : Work) (g : Given) (end : LineEnd) → WorkStands to o a tag log c w
      → Answers w.walk.need g → w.walk.need ≢ need.PutManifest w.walk.root
      → AnswerStands log c w.walk w.walk.need g → WorkGoes w g end → EndStands to o a tag log c end
  goes_stands log c w g end stands answers below there goes =
      subst (λ (e : LineEnd). EndStands to o a tag log c e) (sym goes.is) (by goes.walk goes.takes)
    where
      by : (result : Result View WalkRefused) → IsTaking w.walk g result → EndStands to o a tag log c (walked w.looked result)
      by (Ok new) takes = record {
        sound = (step_falls w.walk new g stands.sound answers takes).0;
        going = λ done. below (done_last w.walk new g stands.sound answers takes done).0;
        walk = answered_stands log c w.walk new w.walk.need g stands.sound refl there
            (answered w.walk new g stands.sound answers takes) stands.walk;
      }
      by (Err why) takes = tt

  -- ---- the walk begins

  pub begins_stands : (log : List Entry) (c : Content) (root : Digest) (m : Parts) (end : LineEnd) → digest_of m.bytes ≡ root
      → last (read_under tag) a.job.0 a.rev log ≡ Some (stored_of m) → IsReadable m → WalkBegins root m end
      → EndStands to o a tag log c end
  begins_stands log c root m end own read reads begins =
      subst (λ (e : LineEnd). EndStands to o a tag log c e) (sym begins.is) (by begins.walk begins.begins)
    where
      first : WalkStands to o a tag log c (step.with_root root m)
      first = record {
        read = read;
        readable = (reads, tt);
        standing = λ each. record { blobs = tt; manifests = tt };
      }

      by : (result : Result View WalkRefused) → IsBeginning root m result → EndStands to o a tag log c (walked false result)
      by (Ok new) begun_now =
          let sound = begun_sound root m new own begun_now in record {
            sound = sound;
            going = begun_undone root m new begun_now sound;
            walk = settled_stands log c (step.with_root root m) new (is_settled (step.with_root root m) new begun_now) first;
          }
      by (Err why) begun_now = tt
