-- Laws of the journal for crates that write one: what an entry says and keeps, when a graph is
-- whole, how the promise goes on, and that what was read is what the source has.
use Rattle.std.proofs.Common.{◌≡◌, ℕ, List, [], ◌∷◌, ◌++◌}
use Rattle.std.specs.Prelude.{◌≢◌, Option, Some, None, IfSome, Contains}
use Rattle.std.specs.List.{AllByRecursion}
use Rattle.hr_base.specs.Bytes.{ByteList, Media}
use Rattle.hr_digest.specs.declared.digest.Digest.{Digest}
use Rattle.hr_name.specs.Name.{RepoName}
use Rattle.hr_name.specs.Tag.{TagName}
use Rattle.hr_event.specs.declared.reference.Fetched.{Fetched}
use Rattle.hr_event.specs.declared.entry.Entry.{Entry}
use Rattle.hr_event.specs.declared.entry.How.{How}
use Rattle.hr_event.specs.declared.entry.What.{What}
use Rattle.hr_event.specs.declared.entry.What.TheVariants.{ReadTag, ReadChild, GotBlob, Show}
use Rattle.hr_manifest.specs.Reading.{Reads}
use Rattle.hr_manifest.specs.declared.child.Child.{Child}
use Rattle.hr_manifest.specs.declared.child.ChildKind.{ChildKind}
use Rattle.hr_adapter.specs.Content.{Content, Honest, manifest_at}
use Rattle.hr_adapter.specs.Put.{as_manifest}
use Rattle.hr_journal.specs.Graph.{Stands, Closed, StandsUnder}
use Rattle.hr_journal.specs.Grows.{Grows}
use Rattle.hr_journal.specs.OneEach.{Measures, OneEach}
use Rattle.hr_journal.specs.Origin.{Source, Origin, WasThere, WereThere, HasText, AllTell, ToldBefore, AllToldBefore}
use Rattle.hr_journal.specs.Promise.{IsPut, Promise}
use Rattle.hr_journal.specs.Puts.{Does, DoesAs, Puts, PutsTag}
use Rattle.hr_journal.specs.Says.{Placement, placed, last, read_under, child_read, blob_read}
use Rattle.hr_journal.specs.Shown.{AreAlike}
use Rattle.hr_journal.specs.Still.{IsStill, PutsNoTag, ReadsNothing}
use Rattle.hr_journal.proofs.AgreeLemmas as agree
use Rattle.hr_journal.proofs.ChangeLemmas as change
use Rattle.hr_journal.proofs.ClosedLemmas as whole
use Rattle.hr_journal.proofs.GrowsLemmas as growth
use Rattle.hr_journal.proofs.LogLemmas as said
use Rattle.hr_journal.proofs.OriginLemmas as origin
use Rattle.hr_journal.proofs.PromiseLemmas as promised
use Rattle.hr_journal.proofs.TextLemmas as text

-- ---- one entry

-- an entry of this destination does what its kind does
pub does_here : (to : Placement) (repo : RepoName) (e : Entry) (what : What) (es : List Entry)
    → (b c : Content) → placed to e ≡ Some repo → e.what ≡ what → DoesAs what repo e es b c
    → Does to e es b c
does_here = change.does_here

-- an entry of another destination does nothing here
pub does_elsewhere : (to : Placement) (e : Entry) (es : List Entry) (b : Content)
    → placed to e ≡ None → Does to e es b b
does_elsewhere = change.does_elsewhere

-- an entry that says nothing of the destination leaves the content
pub does_nothing : (to : Placement) (e : Entry) (es : List Entry) (b : Content) → IsStill e.what
    → Does to e es b b
does_nothing = change.does_nothing

-- an entry that says nothing of the destination puts no tag
pub nothing_puts_no_tag : (what : What) → IsStill what → PutsNoTag what
nothing_puts_no_tag = change.nothing_puts_no_tag

-- where no digest stands for two contents, none did with one entry less
pub each_before : (to : Placement) (o : Content) (e : Entry) (es : List Entry)
    → OneEach to o (e ∷ es) → OneEach to o es
each_before = said.each_before

-- where no digest stands for two contents, an entry loses nothing of what was there before it
pub does_grow : (to : Placement) (o : Content) (e : Entry) (es : List Entry) (b c : Content)
    → Puts to o es b → Does to e es b c → OneEach to o (e ∷ es) → Grows b c
does_grow = growth.does_grow

-- ---- the newest answer of a revision of a job

-- an entry that answers is the newest that does
pub last_answered : {X : Type 0} (answer : What → Option X) (e : Entry) (es : List Entry) (x : X)
    → answer e.what ≡ Some x → last answer e.job.0 e.rev (e ∷ es) ≡ Some x
last_answered = said.last_answered

-- an entry that doesn't answer is passed over
pub last_unanswered : {X : Type 0} (answer : What → Option X) (job rev : ℕ) (e : Entry)
    → (es : List Entry) → answer e.what ≡ None
    → last answer job rev (e ∷ es) ≡ last answer job rev es
last_unanswered = said.last_unanswered

-- an entry of another job, or of another revision, is passed over
pub last_other : {X : Type 0} (answer : What → Option X) (job rev : ℕ) (e : Entry)
    → (es : List Entry) → (e.job.0 ≡ job → e.rev ≢ rev)
    → last answer job rev (e ∷ es) ≡ last answer job rev es
last_other = said.last_other

-- a manifest that was read under a tag, a child and a blob are the answers of their own entries
pub read_under_itself : (tag : TagName) (media : Media) (bytes : ByteList)
    → read_under tag (ReadTag tag media bytes) ≡ Some (as_manifest media bytes)
read_under_itself = said.read_under_itself

pub child_read_itself : (d : Digest) (media : Media) (bytes : ByteList)
    → child_read d (ReadChild d media bytes) ≡ Some (as_manifest media bytes)
child_read_itself = said.child_read_itself

pub blob_read_itself : (d : Digest) (len : ℕ) → blob_read d (GotBlob d len) ≡ Some len
blob_read_itself = said.blob_read_itself

-- ---- whole graphs

-- a child that stands there goes on standing as the content grows
pub stands_closed_grow : (n : ℕ) (b c : Content) (repo : RepoName) → Grows b c
    → (kind : ChildKind) (d : Digest) (size : ℕ)
    → Stands (Closed n b repo) b repo kind d size → Stands (Closed n c repo) c repo kind d size
stands_closed_grow = whole.stands_closed_grow

-- a readable manifest whose children stand there, each nesting fewer levels, stands whole
pub closed_made : (n : ℕ) (c : Content) (repo : RepoName) (d : Digest) (stored : Fetched)
    → (kids : List Child) → manifest_at c repo d ≡ Some stored
    → Reads stored.media stored.bytes kids
    → AllByRecursion (λ kid. StandsUnder n c repo kid.kind kid.digest kid.size) kids
    → Closed n c repo d
closed_made = whole.closed_made

-- ---- the promise

-- the promise holds of an honest opening
pub promise_opens : (to : Placement) (o : Content) → Honest o → Promise to o [] o
promise_opens = promised.promise_opens

-- the promise goes on with an entry that puts no tag
pub promise_on : (to : Placement) (o : Content) (e : Entry) (es : List Entry) (b c : Content)
    → Promise to o es b → Does to e es b c → PutsNoTag e.what → Promise to o (e ∷ es) c
promise_on = promised.promise_on

-- the promise goes on with an entry of this destination, of any kind that puts no tag
pub promise_does : (to : Placement) (repo : RepoName) (o : Content) (e : Entry) (what : What)
    → (es : List Entry) (b c : Content) → Promise to o es b → placed to e ≡ Some repo
    → e.what ≡ what → DoesAs what repo e es b c → PutsNoTag what → Promise to o (e ∷ es) c
promise_does = promised.promise_does

-- the promise goes on with an entry of another destination
pub promise_elsewhere : (to : Placement) (o : Content) (e : Entry) (es : List Entry) (b : Content)
    → Promise to o es b → placed to e ≡ None → Promise to o (e ∷ es) b
promise_elsewhere = promised.promise_elsewhere

-- the promise goes on with any number of entries that say nothing of the destination
pub promise_still : (to : Placement) (o : Content) (more es : List Entry) (b : Content)
    → Promise to o es b → AllByRecursion (λ e. IsStill e.what) more → Promise to o (more ++ es) b
promise_still = promised.promise_still

-- the promise goes on with a tag that was put, or may have been, where the children of its manifest
-- stood there with their own graphs
pub promise_shows_under : (to : Placement) (repo : RepoName) (o : Content) (e : Entry)
    → (es : List Entry) (b c : Content) (tag : TagName) (d : Digest) (old : Option Digest)
    → (how : How) → Promise to o es b → placed to e ≡ Some repo → e.what ≡ Show tag d old how
    → IsPut how
    → (puts : PutsTag repo e tag d old how es b c)
    → (OneEach to o (e ∷ es) → AllByRecursion
    (λ kid. StandsUnder 8 b repo kid.kind kid.digest kid.size) puts.kids)
    → Promise to o (e ∷ es) c
promise_shows_under = promised.promise_shows_under

-- the promise rests on the placement of the jobs in the journal alone, so that jobs may be added
pub promise_alike : (to other : Placement) (o : Content) (log : List Entry) (c : Content)
    → AreAlike to other log → Promise to o log c → Promise other o log c
promise_alike = agree.promise_alike

-- ---- what the source has

-- of no entries, all that was read is what the source has
pub there_opens : (from : Origin) → WereThere from []
there_opens from = tt

-- what was read goes on being what the source has with an entry that says what it has
pub there_on : (from : Origin) (e : Entry) (es : List Entry) → WereThere from es
    → IfSome (from e.job.0 e.rev) (λ s. WasThere s e.what) → WereThere from (e ∷ es)
there_on from e es there now = (now, there)

-- and with an entry that read nothing
pub there_still : (from : Origin) (e : Entry) (es : List Entry) → WereThere from es
    → ReadsNothing e.what → WereThere from (e ∷ es)
there_still = origin.there_still

-- and with an entry whose source tells nothing
pub there_untold : (from : Origin) (e : Entry) (es : List Entry) → WereThere from es
    → from e.job.0 e.rev ≡ None → WereThere from (e ∷ es)
there_untold = origin.there_untold

-- and as tags are moved at the sources, which show more as time goes on
pub there_later : (from later : Origin) (log : List Entry) → AllToldBefore from later log
    → WereThere from log → WereThere later log
there_later = origin.there_later

-- a source told before what it tells now
pub told_itself : (source : Option Source) → ToldBefore source source
told_itself = origin.told_itself

-- and whatever jobs are added
pub there_alike : (from other : Origin) (log : List Entry) → AreAlike from other log
    → WereThere from log → WereThere other log
there_alike = origin.there_alike

-- what an entry read, its source has
pub was_there : (from : Origin) (log : List Entry) (s : Source) (e : Entry) → WereThere from log
    → Contains log e → from e.job.0 e.rev ≡ Some s → WasThere s e.what
was_there = origin.was_there

-- each length that a journal says is that of a text with the digest, where its sources tell
pub lengths_are_of_texts : (to : Placement) (from : Origin) (o : Content) (log : List Entry)
    → (c : Content) → Honest o → Puts to o log c → WereThere from log → AllTell to from log
    → (d : Digest) (len : ℕ) → Measures to o log d len → HasText o from d len
lengths_are_of_texts = text.lengths_are_of_texts
