-- What an entry does to the content, whatever kind of entry it is: nothing, or one thing is put that
-- the opening or an older entry stands for.
use Rattle.std.proofs.Common.{◌≡◌, ◌⊎◌, inl, inr, refl, sym, ap, subst, ◌∙◌, Bool, true, false, List, length}
use Rattle.std.specs.Prelude.{Option, Some, None}
use Rattle.std.specs.Option.{is_some}
use Rattle.hr_digest.specs.Digest.{digest_of}
use Rattle.hr_digest.specs.declared.digest.Digest.{Digest}
use Rattle.hr_event.specs.declared.reference.Fetched.{Fetched}
use Rattle.hr_event.specs.declared.entry.Entry.{Entry}
use Rattle.hr_event.specs.declared.entry.How.{How}
use Rattle.hr_event.specs.declared.entry.How.TheVariants.{Put, Unsure, Same, Kept}
use Rattle.hr_event.specs.declared.entry.What.{What}
use Rattle.hr_event.specs.declared.entry.What.TheVariants.{Began, ReadTag, Looked, ReadChild, HasBlob, GotBlob, PutBlob, PutChild, Show, Ended, Dropped}
use Rattle.hr_manifest.specs.Reading.{Reads}
use Rattle.hr_manifest.specs.declared.child.Child.{Child}
use Rattle.hr_adapter.specs.Content.{Content, tag_at, with_blob, with_manifest, with_tag}
use Rattle.hr_adapter.proofs.ContentLaws.{tag_at-with_blob, tag_at-with_manifest}
use Rattle.hr_journal.specs.OneEach.{Means, Measures}
use Rattle.hr_journal.specs.Puts.{Does, DoesAs, DoesAt, MaybePut, MaybePutTag, PutsBlob, PutsChild, PutsTag}
use Rattle.hr_journal.specs.Says.{Placement, placed, read_under, child_read, blob_read}
use Rattle.hr_journal.specs.Still.{IsStill, PutsNoTag}
use Rattle.hr_journal.proofs.LogLemmas.{last_is_said, said_at, read_under_is, child_read_is, blob_read_is}
use Rattle.hr_base.specs.Bytes.{ByteList}
use Rattle.hr_name.specs.Name.{RepoName}
use Rattle.hr_name.specs.Tag.{TagName}

pub data Change (to : Placement) (o : Content) (log : List Entry) (b c : Content) : Type 0 where
  same : c ≡ b → Change to o log b c
  blob : (repo : RepoName) (d : Digest) (bytes : ByteList) → digest_of bytes ≡ d
      → Measures to o log d (length bytes) → c ≡ with_blob b repo d bytes → Change to o log b c
  manifest : (repo : RepoName) (d : Digest) (m : Fetched) (kids : List Child) → digest_of m.bytes ≡ d
      → Means to o log d m.bytes → Reads m.media m.bytes kids
      → c ≡ with_manifest b repo d m → Change to o log b c
  shown : (repo : RepoName) (tag : TagName) (d : Digest) (m : Fetched) (kids : List Child)
      → digest_of m.bytes ≡ d → Means to o log d m.bytes → Reads m.media m.bytes kids
      → c ≡ with_tag (with_manifest b repo d m) repo tag d → Change to o log b c

pub maybe_put : (sure : Bool) (before after put : Content) → MaybePut sure before after put
    → (after ≡ before) ⊎ (after ≡ put)
maybe_put true before after put is = inr is
maybe_put false before after put is = is

pub may_show : (how : How) (before after alone both : Content) → MaybePutTag how before after alone both
    → (after ≡ before) ⊎ ((after ≡ alone) ⊎ (after ≡ both))
may_show Put before after alone both is = inr (inr is)
may_show Unsure before after alone both is = is
may_show Same before after alone both is = inl is
may_show Kept before after alone both is = inl is

-- ---- what the entries before it stand for

blob_measures : (to : Placement) (o : Content) (repo : RepoName) (e : Entry) → placed to e ≡ Some repo
    → (d : Digest) (sure : Bool) (es : List Entry) (b c : Content)
    → (put : PutsBlob repo e d sure es b c) → Measures to o es d (length put.bytes)
blob_measures to o repo e here d sure es b c put =
    let said = last_is_said (blob_read d) e.job.0 e.rev es (length put.bytes) put.got in
    Measures.got said.entry said.logged (ap is_some (said_at (blob_read d) to e es (length put.bytes) said ∙ here))
    (blob_read_is d said.entry.what (length put.bytes) said.says)

child_means : (to : Placement) (o : Content) (repo : RepoName) (e : Entry) → placed to e ≡ Some repo
    → (d : Digest) (sure : Bool) (es : List Entry) (b c : Content)
    → (put : PutsChild repo e d sure es b c) → Means to o es d put.stored.bytes
child_means to o repo e here d sure es b c put =
    let said = last_is_said (child_read d) e.job.0 e.rev es put.stored put.read in
    Means.child said.entry put.stored.media said.logged (ap is_some (said_at (child_read d) to e es put.stored said ∙ here))
    (child_read_is d said.entry.what put.stored said.says)

shown_means : (to : Placement) (o : Content) (repo : RepoName) (e : Entry) → placed to e ≡ Some repo
    → (tag : TagName) (d : Digest) (old : Option Digest) (how : How) (es : List Entry) (b c : Content)
    → (put : PutsTag repo e tag d old how es b c) → Means to o es d put.stored.bytes
shown_means to o repo e here tag d old how es b c put =
    let said = last_is_said (read_under tag) e.job.0 e.rev es put.stored put.read in
    Means.tagged said.entry tag put.stored.media said.logged
    (ap is_some (said_at (read_under tag) to e es put.stored said ∙ here))
    (read_under_is tag said.entry.what put.stored said.says) put.own

-- ---- each kind of put

blob_changes : (to : Placement) (o : Content) (repo : RepoName) (e : Entry) → placed to e ≡ Some repo
    → (d : Digest) (sure : Bool) (es : List Entry) (b c : Content)
    → PutsBlob repo e d sure es b c → Change to o es b c
blob_changes to o repo e here d sure es b c put =
    elim (maybe_put sure b c (with_blob b repo d put.bytes) put.does) [
      | inl is ↦ Change.same is
      | inr is ↦ Change.blob repo d put.bytes put.own (blob_measures to o repo e here d sure es b c put) is
    ]

child_changes : (to : Placement) (o : Content) (repo : RepoName) (e : Entry) → placed to e ≡ Some repo
    → (d : Digest) (sure : Bool) (es : List Entry) (b c : Content)
    → PutsChild repo e d sure es b c → Change to o es b c
child_changes to o repo e here d sure es b c put =
    elim (maybe_put sure b c (with_manifest b repo d put.stored) put.does) [
      | inl is ↦ Change.same is
      | inr is ↦ Change.manifest repo d put.stored put.kids put.own (child_means to o repo e here d sure es b c put) put.reads is
    ]

show_changes : (to : Placement) (o : Content) (repo : RepoName) (e : Entry) → placed to e ≡ Some repo
    → (tag : TagName) (d : Digest) (old : Option Digest) (how : How) (es : List Entry) (b c : Content)
    → PutsTag repo e tag d old how es b c → Change to o es b c
show_changes to o repo e here tag d old how es b c put =
    let means : Means to o es d put.stored.bytes = shown_means to o repo e here tag d old how es b c put in
    elim (may_show how b c (with_manifest b repo d put.stored)
    (with_tag (with_manifest b repo d put.stored) repo tag d) put.does) [
      | inl is ↦ Change.same is
      | inr (inl is) ↦ Change.manifest repo d put.stored put.kids put.own means put.reads is
      | inr (inr is) ↦ Change.shown repo tag d put.stored put.kids put.own means put.reads is
    ]

-- what an entry of any kind does is such a change
change_by : (to : Placement) (o : Content) (repo : RepoName) (e : Entry) → placed to e ≡ Some repo
    → (what : What) (es : List Entry) (b c : Content)
    → DoesAs what repo e es b c → Change to o es b c
change_by to o repo e here (Looked tag found) es b c does = Change.same does.same
change_by to o repo e here (HasBlob d len) es b c does = Change.same does.same
change_by to o repo e here (ReadChild d media bytes) es b c does = Change.same does.same
change_by to o repo e here (GotBlob d len) es b c does = Change.same does.same
change_by to o repo e here (PutBlob d sure) es b c does = blob_changes to o repo e here d sure es b c does
change_by to o repo e here (PutChild d sure) es b c does = child_changes to o repo e here d sure es b c does
change_by to o repo e here (Show tag d old Put) es b c does = show_changes to o repo e here tag d old Put es b c does
change_by to o repo e here (Show tag d old Unsure) es b c does = show_changes to o repo e here tag d old Unsure es b c does
change_by to o repo e here (Show tag d old Same) es b c does = Change.same does.same
change_by to o repo e here (Show tag d old Kept) es b c does = Change.same does.same
change_by to o repo e here _ es b c does = Change.same does

change_at : (to : Placement) (o : Content) (e : Entry) (place : Option RepoName) → placed to e ≡ place
    → (es : List Entry) (b c : Content) → DoesAt place e es b c → Change to o es b c
change_at to o e (Some repo) here es b c does = change_by to o repo e here e.what es b c does
change_at to o e None here es b c does = Change.same does

-- what an entry does is such a change
pub does_change : (to : Placement) (o : Content) (e : Entry) (es : List Entry) (b c : Content)
    → Does to e es b c → Change to o es b c
does_change to o e es b c does = change_at to o e (placed to e) refl es b c does

-- ---- where an entry is of

-- an entry of another destination does nothing here
pub does_elsewhere : (to : Placement) (e : Entry) (es : List Entry) (b : Content) → placed to e ≡ None
    → Does to e es b b
does_elsewhere to e es b there = subst (λ (p : Option RepoName). DoesAt p e es b b) (sym there) refl

-- an entry of this destination does what its kind does
pub does_here : (to : Placement) (repo : RepoName) (e : Entry) (what : What) (es : List Entry) (b c : Content)
    → placed to e ≡ Some repo → e.what ≡ what → DoesAs what repo e es b c → Does to e es b c
does_here to repo e what es b c here says does =
    subst (λ (p : Option RepoName). DoesAt p e es b c) (sym here)
    (subst (λ (w : What). DoesAs w repo e es b c) (sym says) does)

pub does_as : (to : Placement) (repo : RepoName) (e : Entry) (what : What) (es : List Entry) (b c : Content)
    → placed to e ≡ Some repo → e.what ≡ what → Does to e es b c → DoesAs what repo e es b c
does_as to repo e what es b c here says does =
    subst (λ (w : What). DoesAs w repo e es b c) says
    (subst (λ (p : Option RepoName). DoesAt p e es b c) here does)

-- ---- entries that put nothing, or no tag

nothing_by : (repo : RepoName) (e : Entry) (what : What) (es : List Entry) (b : Content) → IsStill what
    → DoesAs what repo e es b b
nothing_by repo e Began es b still = refl
nothing_by repo e (ReadTag tag media bytes) es b still = refl
nothing_by repo e (Ended status cause) es b still = refl
nothing_by repo e Dropped es b still = refl
nothing_by repo e _ es b still = absurd still

nothing_at : (place : Option RepoName) (e : Entry) (es : List Entry) (b : Content) → IsStill e.what
    → DoesAt place e es b b
nothing_at (Some repo) e es b still = nothing_by repo e e.what es b still
nothing_at None e es b still = refl

-- an entry that says nothing of the destination leaves the content
pub does_nothing : (to : Placement) (e : Entry) (es : List Entry) (b : Content) → IsStill e.what
    → Does to e es b b
does_nothing to e es b still = nothing_at (placed to e) e es b still

pub nothing_puts_no_tag : (what : What) → IsStill what → PutsNoTag what
nothing_puts_no_tag (Show tag d old how) still = absurd still
nothing_puts_no_tag _ still = tt

blob_tags : (repo : RepoName) (e : Entry) (d : Digest) (sure : Bool) (es : List Entry) (b c : Content)
    → PutsBlob repo e d sure es b c → (q : RepoName) (t : TagName) → tag_at c q t ≡ tag_at b q t
blob_tags repo e d sure es b c put q t =
    elim (maybe_put sure b c (with_blob b repo d put.bytes) put.does) [
      | inl is ↦ ap (λ x. tag_at x q t) is
      | inr is ↦ ap (λ x. tag_at x q t) is ∙ tag_at-with_blob b repo d put.bytes q t
    ]

child_tags : (repo : RepoName) (e : Entry) (d : Digest) (sure : Bool) (es : List Entry) (b c : Content)
    → PutsChild repo e d sure es b c → (q : RepoName) (t : TagName) → tag_at c q t ≡ tag_at b q t
child_tags repo e d sure es b c put q t =
    elim (maybe_put sure b c (with_manifest b repo d put.stored) put.does) [
      | inl is ↦ ap (λ x. tag_at x q t) is
      | inr is ↦ ap (λ x. tag_at x q t) is ∙ tag_at-with_manifest b repo d put.stored q t
    ]

stay_by : (repo : RepoName) (e : Entry) (what : What) (es : List Entry) (b c : Content) → PutsNoTag what
    → DoesAs what repo e es b c → (q : RepoName) (t : TagName) → tag_at c q t ≡ tag_at b q t
stay_by repo e (Looked tag found) es b c none does q t = ap (λ x. tag_at x q t) does.same
stay_by repo e (HasBlob d len) es b c none does q t = ap (λ x. tag_at x q t) does.same
stay_by repo e (ReadChild d media bytes) es b c none does q t = ap (λ x. tag_at x q t) does.same
stay_by repo e (GotBlob d len) es b c none does q t = ap (λ x. tag_at x q t) does.same
stay_by repo e (PutBlob d sure) es b c none does q t = blob_tags repo e d sure es b c does q t
stay_by repo e (PutChild d sure) es b c none does q t = child_tags repo e d sure es b c does q t
stay_by repo e (Show tag d old Put) es b c none does q t = absurd none
stay_by repo e (Show tag d old Unsure) es b c none does q t = absurd none
stay_by repo e (Show tag d old Same) es b c none does q t = ap (λ x. tag_at x q t) does.same
stay_by repo e (Show tag d old Kept) es b c none does q t = ap (λ x. tag_at x q t) does.same
stay_by repo e _ es b c none does q t = ap (λ x. tag_at x q t) does

stay_at : (place : Option RepoName) (e : Entry) (es : List Entry) (b c : Content) → PutsNoTag e.what
    → DoesAt place e es b c → (q : RepoName) (t : TagName) → tag_at c q t ≡ tag_at b q t
stay_at (Some repo) e es b c none does q t = stay_by repo e e.what es b c none does q t
stay_at None e es b c none does q t = ap (λ x. tag_at x q t) does

-- an entry that puts no tag leaves each tag
pub tags_stay : (to : Placement) (e : Entry) (es : List Entry) (b c : Content) → PutsNoTag e.what
    → Does to e es b c → (q : RepoName) (t : TagName) → tag_at c q t ≡ tag_at b q t
tags_stay to e es b c none does q t = stay_at (placed to e) e es b c none does q t
