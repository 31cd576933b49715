-- Where the manifests came from that tags were put to name, or were left for.
use Rattle.std.proofs.Common.{◌≡◌, sym, ◌∙◌, List, [], ◌∷◌, ◌++◌}
use Rattle.std.specs.Prelude.{◌≢◌, ⊤, Option, Some}
use Rattle.std.proofs.lemmas.Option.{MatchOption-at_some}
use Rattle.hr_digest.specs.declared.digest.Digest.{Digest}
use Rattle.hr_event.specs.declared.entry.Entry.{Entry}
use Rattle.hr_event.specs.declared.entry.How.{How}
use Rattle.hr_event.specs.declared.entry.How.TheVariants.{Put, Unsure, Same, Kept}
use Rattle.hr_event.specs.declared.entry.What.TheVariants.{Show}
use Rattle.hr_digest.specs.Digest.{digest_of}
use Rattle.hr_event.specs.declared.reference.Fetched.{Fetched}
use Rattle.hr_manifest.specs.Reading.{Reads}
use Rattle.hr_manifest.specs.declared.child.Child.{Child}
use Rattle.hr_event.specs.declared.reference.Reference.TheVariants as by
use Rattle.hr_adapter.specs.Content.{Content, head_at, tag_at}
use Rattle.hr_journal.specs.OneEach.{OneEach}
use Rattle.hr_journal.specs.Promise.{Promise, WasPut}
use Rattle.hr_journal.specs.Puts.{DoesAs, Puts}
use Rattle.hr_journal.specs.Says.{Placement, placed, last, read_under}
use Rattle.hr_journal.specs.Shown.{IsComplete, WasRead}
use Rattle.hr_journal.proofs.ChangeLemmas.{does_as}
use Rattle.hr_journal.proofs.LogLemmas.{last_is_said, read_under_is}
use Rattle.hr_name.specs.Name.{RepoName}
use Rattle.hr_name.specs.Tag.{TagName}

-- ---- each tag was put, or left, for a manifest that was read

last_was_read : (e : Entry) (tag : TagName) (d : Digest) (es : List Entry) (stored : Fetched) (kids : List Child)
    → digest_of stored.bytes ≡ d → Reads stored.media stored.bytes kids
    → last (read_under tag) e.job.0 e.rev es ≡ Some stored → WasRead es e tag d
last_was_read e tag d es stored kids own reads read =
    let said = last_is_said (read_under tag) e.job.0 e.rev es stored read in record {
      entry = said.entry;
      media = stored.media;
      bytes = stored.bytes;
      kids = kids;
      logged = said.logged;
      job = said.job;
      rev = said.rev;
      says = read_under_is tag said.entry.what stored said.says;
      own = own;
      reads = reads;
    }

does_read : (repo : RepoName) (e : Entry) (tag : TagName) (d : Digest) (old : Option Digest) (how : How) (es : List Entry) (b c : Content)
    → DoesAs (Show tag d old how) repo e es b c → WasRead es e tag d
does_read repo e tag d old Put es b c does =
    last_was_read e tag d es does.stored does.kids does.own does.reads does.read
does_read repo e tag d old Unsure es b c does =
    last_was_read e tag d es does.stored does.kids does.own does.reads does.read
does_read repo e tag d old Same es b c does =
    last_was_read e tag d es does.stored does.kids does.own does.reads does.read
does_read repo e tag d old Kept es b c does =
    last_was_read e tag d es does.stored does.kids does.own does.reads does.read

pub tag_was_read : (to : Placement) (o : Content) (newer older : List Entry) (e : Entry) (c : Content)
    → (repo : RepoName) (tag : TagName) (d : Digest) (old : Option Digest) (how : How)
    → Puts to o (newer ++ e ∷ older) c → placed to e ≡ Some repo
    → e.what ≡ Show tag d old how → WasRead older e tag d
tag_was_read to o [] older e c repo tag d old how puts here says =
    does_read repo e tag d old how older puts.0 c
    (does_as to repo e (Show tag d old how) older puts.0 c here says puts.2)
tag_was_read to o (f ∷ newer) older e c repo tag d old how puts here says =
    tag_was_read to o newer older e puts.0 repo tag d old how puts.1 here says

-- ---- a tag that was left named this manifest, or another one

pub same_was_looked_at : (to : Placement) (o : Content) (newer older : List Entry) (e : Entry) (c : Content)
    → (repo : RepoName) (tag : TagName) (d : Digest) (old : Option Digest)
    → Puts to o (newer ++ e ∷ older) c → placed to e ≡ Some repo → e.what ≡ Show tag d old Same
    → (b : Content) × Puts to o older b × (head_at b repo (by.Tag tag) ≡ Some d)
same_was_looked_at to o [] older e c repo tag d old puts here says =
    let does = does_as to repo e (Show tag d old Same) older puts.0 c here says puts.2 in
    (puts.0, puts.1, sym does.looked ∙ does.left)
same_was_looked_at to o (f ∷ newer) older e c repo tag d old puts here says =
    same_was_looked_at to o newer older e puts.0 repo tag d old puts.1 here says

pub kept_was_looked_at : (to : Placement) (o : Content) (newer older : List Entry) (e : Entry) (c : Content)
    → (repo : RepoName) (tag : TagName) (d : Digest) (old : Option Digest)
    → Puts to o (newer ++ e ∷ older) c → placed to e ≡ Some repo → e.what ≡ Show tag d old Kept
    → (b : Content) × Puts to o older b × (head_at b repo (by.Tag tag) ≡ old) × (old ≢ Some d)
kept_was_looked_at to o [] older e c repo tag d old puts here says =
    let does = does_as to repo e (Show tag d old Kept) older puts.0 c here says puts.2 in
    (puts.0, puts.1, sym does.looked, does.left)
kept_was_looked_at to o (f ∷ newer) older e c repo tag d old puts here says =
    kept_was_looked_at to o newer older e puts.0 repo tag d old puts.1 here says

-- ---- the promise, read

pub promise_read : (to : Placement) (o : Content) (log : List Entry) (c : Content) (repo : RepoName) (tag : TagName) (d : Digest)
    → Promise to o log c → OneEach to o log → tag_at c repo tag ≡ Some d → WasPut to log repo tag d
    → IsComplete c repo d
promise_read to o log c repo tag d promise each names was =
    let whole = promise.whole each repo tag d names was in record {
      stored = whole.stored;
      kids = whole.kids;
      there = whole.there;
      own = MatchOption-at_some ⊤ (λ m. digest_of m.bytes ≡ d) whole.stored whole.there (promise.honest.manifests repo d);
      reads = whole.reads;
      each = whole.each;
    }
