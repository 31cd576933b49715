-- What was read for a journal is what its sources have: with each entry, as sources go on, and as
-- jobs are added.
use Rattle.std.proofs.Common.{◌≡◌, refl, sym, ap, subst, ◌∙◌, List, [], ◌∷◌, ◌++◌, length, take, drop, take-append-drop}
use Rattle.std.proofs.Math.Seq.{take-length}
use Rattle.std.specs.Prelude.{⊤, Option, Some, None, IfSome, Contains}
use Rattle.std.proofs.lemmas.Option.{MatchOption-at_some}
use Rattle.std.proofs.lemmas.List.Elements.{Contains-append_left, Contains-append_right}
use Rattle.hr_base.specs.Bytes.{ByteList, Media}
use Rattle.hr_digest.specs.declared.digest.Digest.{Digest}
use Rattle.hr_name.specs.Name.{RepoName}
use Rattle.hr_name.specs.Tag.{TagName}
use Rattle.hr_event.specs.declared.entry.Entry.{Entry}
use Rattle.hr_event.specs.declared.entry.What.{What}
use Rattle.hr_event.specs.declared.entry.What.TheVariants.{ReadTag, ReadChild, GotBlob}
use Rattle.hr_adapter.specs.Content.{blob_at, manifest_at}
use Rattle.hr_adapter.specs.Reg.{Row}
use Rattle.hr_adapter.proofs.HonestLaws.{Retagged-itself}
use Rattle.hr_journal.specs.Origin.{Source, Origin, ShowedManifest, WasThere, WereThere, IsLater, ToldBefore, AllToldBefore}
use Rattle.hr_journal.specs.Shown.{AreAlike, WasRead}
use Rattle.hr_journal.specs.Still.{ReadsNothing}
use Rattle.hr_journal.proofs.AgreeLemmas.{alike_before}
use Rattle.hr_journal.proofs.ListLaws.{contains_first, contains_later, each_has}

-- ---- one entry more

nothing_there : (source : Option Source) (what : What) → ReadsNothing what → IfSome source (λ s. WasThere s what)
nothing_there None what none = tt
nothing_there (Some s) (ReadTag tag media bytes) none = absurd none
nothing_there (Some s) (ReadChild d media bytes) none = absurd none
nothing_there (Some s) (GotBlob d len) none = absurd none
nothing_there (Some s) _ none = tt

-- an entry that read nothing
pub there_still : (from : Origin) (e : Entry) (es : List Entry) → WereThere from es → ReadsNothing e.what
    → WereThere from (e ∷ es)
there_still from e es there none = (nothing_there (from e.job.0 e.rev) e.what none, there)

-- an entry whose source tells nothing
pub there_untold : (from : Origin) (e : Entry) (es : List Entry) → WereThere from es → from e.job.0 e.rev ≡ None
    → WereThere from (e ∷ es)
there_untold from e es there none =
    (subst (λ (o : Option Source). IfSome o (λ s. WasThere s e.what)) (sym none) tt, there)

-- ---- sources that go on

row_later : (s t : Source) (tag : TagName) (media : Media) (bytes : ByteList) → IsLater s t
    → Contains s.ever (record { repo = s.repo; tag = tag; media = media; bytes = bytes })
    → Contains t.ever (record { repo = t.repo; tag = tag; media = media; bytes = bytes })
row_later s t tag media bytes later shown =
    let row : Row = record { repo = s.repo; tag = tag; media = media; bytes = bytes } in
    let front : Contains (take (length s.ever) t.ever) row =
    subst (λ (xs : List Row). Contains xs row) (sym later.grew) shown in
    let still : Contains t.ever row =
    subst (λ (xs : List Row). Contains xs row) (take-append-drop (length s.ever) t.ever)
    (Contains-append_left (take (length s.ever) t.ever) (drop (length s.ever) t.ever) row front) in
    subst (λ (r : RepoName). Contains t.ever (record { repo = r; tag = tag; media = media; bytes = bytes })) (sym later.place) still

manifest_later : (s t : Source) (d : Digest) → IsLater s t
    → manifest_at t.content t.repo d ≡ manifest_at s.content s.repo d
manifest_later s t d later = later.moved.manifests t.repo d ∙ ap (λ r. manifest_at s.content r d) later.place

blob_later : (s t : Source) (d : Digest) → IsLater s t → blob_at t.content t.repo d ≡ blob_at s.content s.repo d
blob_later s t d later = later.moved.blobs t.repo d ∙ ap (λ r. blob_at s.content r d) later.place

had_later : (s t : Source) (what : What) → IsLater s t → WasThere s what → WasThere t what
had_later s t (ReadTag tag media bytes) later there = record {
  shown = row_later s t tag media bytes later there.shown;
  digest = there.digest;
  there = manifest_later s t there.digest later ∙ there.there;
}
had_later s t (ReadChild d media bytes) later there = manifest_later s t d later ∙ there
had_later s t (GotBlob d len) later there = record {
  bytes = there.bytes;
  there = blob_later s t d later ∙ there.there;
  own = there.own;
  long = there.long;
}
had_later s t _ later there = tt

told_there : (past now : Option Source) (what : What) → ToldBefore past now
    → IfSome past (λ s. WasThere s what) → IfSome now (λ s. WasThere s what)
told_there past None what before there = tt
told_there (Some s) (Some t) what before there = had_later s t what before there
told_there None (Some t) what before there = absurd before

pub told_itself : (source : Option Source) → ToldBefore source source
told_itself None = tt
told_itself (Some s) = record {
  moved = Retagged-itself s.content;
  grew = take-length s.ever;
  place = refl;
}

-- tags may be moved at a source, and it may show more as time goes on
pub there_later : (from later : Origin) (log : List Entry) → AllToldBefore from later log
    → WereThere from log → WereThere later log
there_later from later [] before there = tt
there_later from later (e ∷ es) before there = (
  told_there (from e.job.0 e.rev) (later e.job.0 e.rev) e.what (before e (contains_first e es)) there.0,
  there_later from later es (λ f logged. before f (contains_later e es f logged)) there.1,
)

-- jobs may be added
pub there_alike : (from other : Origin) (log : List Entry) → AreAlike from other log
    → WereThere from log → WereThere other log
there_alike from other [] alike there = tt
there_alike from other (e ∷ es) alike there = (
  subst (λ (o : Option Source). IfSome o (λ s. WasThere s e.what)) (alike e (contains_first e es)) there.0,
  there_alike from other es (alike_before from other e es alike) there.1,
)

-- ---- what an entry read

-- what an entry read, its source has
pub was_there : (from : Origin) (log : List Entry) (s : Source) (e : Entry) → WereThere from log → Contains log e
    → from e.job.0 e.rev ≡ Some s → WasThere s e.what
was_there from log s e there logged tells =
    MatchOption-at_some ⊤ (λ (t : Source). WasThere t e.what) s tells
    (each_has (λ (f : Entry). IfSome (from f.job.0 f.rev) (λ t. WasThere t f.what)) log there e logged)

-- what was read under a tag, the source showed there
pub read_was_shown : (from : Origin) (newer older : List Entry) (e : Entry) (s : Source) (tag : TagName) (d : Digest)
    → WereThere from (newer ++ e ∷ older) → from e.job.0 e.rev ≡ Some s → (was : WasRead older e tag d)
    → ShowedManifest s tag was.media was.bytes
read_was_shown from newer older e s tag d there tells was =
    subst (λ (w : What). WasThere s w) was.says
    (was_there from (newer ++ e ∷ older) s was.entry there
    (Contains-append_right newer (e ∷ older) was.entry (contains_later e older was.entry was.logged))
    (ap (λ j. from j was.entry.rev) was.job ∙ ap (from e.job.0) was.rev ∙ tells))
