-- The manifests that a walk has open go on being the ones that were read last, and entries of one
-- revision leave what another one read.
use Rattle.std.proofs.Common.{◌≡◌, refl, ap, subst, ◌∙◌, ℕ, Bool, true, false, ◌||◌, List, [], ◌∷◌, ◌++◌}
use Rattle.std.specs.Prelude.{◌≢◌, Option, Some, None, map, if◌then◌else◌}
use Rattle.std.specs.List.{AllByRecursion}
use Rattle.hr_base.specs.Bytes.{ByteList, Media}
use Rattle.hr_digest.specs.Digest.{digest_of}
use Rattle.hr_digest.specs.declared.digest.Digest.{Digest}
use Rattle.hr_digest.specs.Order.{digest_eq, digests_equal}
use Rattle.hr_name.specs.Tag.{TagName}
use Rattle.hr_event.specs.declared.entry.Entry.{Entry}
use Rattle.hr_event.specs.declared.entry.What.{What}
use Rattle.hr_event.specs.declared.entry.What.TheVariants.{ReadChild}
use Rattle.hr_event.specs.declared.reference.Fetched.{Fetched}
use Rattle.hr_manifest.specs.Reading.{Reads}
use Rattle.hr_manifest.specs.declared.child.Child.{Child}
use Rattle.hr_graph.specs.Meeting.{moved_to}
use Rattle.hr_graph.specs.Sound.{IsChain}
use Rattle.hr_graph.specs.Walk.{is_open}
use Rattle.hr_graph.specs.declared.opened.Opened.{Opened}
use Rattle.hr_adapter.specs.Content.{Content}
use Rattle.hr_journal.specs.OneEach.{OneEach}
use Rattle.hr_journal.specs.Says.{Placement, child_read, last, read_under}
use Rattle.hr_journal.proofs.PromiseLaws.{each_before, last_other, last_unanswered}
use Rattle.hr_line.specs.Destination.{IsReadable, WereRead, stored_of}
use Rattle.hr_line.specs.Line.{entry_of}
use Rattle.hr_line.specs.declared.held.Admitted.{Admitted}

-- ---- entries of a revision were added

-- entries of a revision were added; the newest stands first
pub record Wrote (a : Admitted) (older newer : List Entry) : Type 0 where
  pub more : List What
  pub joined : newer ≡ map (entry_of a) more ++ older

pub wrote_none : (a : Admitted) (older newer : List Entry) → newer ≡ older → Wrote a older newer
wrote_none a older newer is = record { more = []; joined = is }

pub wrote_one : (a : Admitted) (said : What) (older newer : List Entry) → newer ≡ entry_of a said ∷ older → Wrote a older newer
wrote_one a said older newer is = record { more = said ∷ []; joined = is }

pub wrote_two : (a : Admitted) (said before : What) (older newer : List Entry)
    → newer ≡ entry_of a said ∷ entry_of a before ∷ older → Wrote a older newer
wrote_two a said before older newer is = record { more = said ∷ before ∷ []; joined = is }

-- and then one more
pub wrote_then : (a : Admitted) (said : What) (older middle newer : List Entry) → Wrote a older middle
    → newer ≡ entry_of a said ∷ middle → Wrote a older newer
wrote_then a said older middle newer wrote is = record {
  more = said ∷ wrote.more;
  joined = is ∙ ap (λ (es : List Entry). entry_of a said ∷ es) wrote.joined;
}

fewer_more : (to : Placement) (o : Content) (a : Admitted) (more : List What) (log : List Entry)
    → OneEach to o (map (entry_of a) more ++ log) → OneEach to o log
fewer_more to o a [] log each = each
fewer_more to o a (said ∷ more) log each =
    fewer_more to o a more log (each_before to o (entry_of a said) (map (entry_of a) more ++ log) each)

-- where no digest stands for two contents, none did before
pub each_fewer : (to : Placement) (o : Content) (a : Admitted) (older newer : List Entry) → Wrote a older newer
    → OneEach to o newer → OneEach to o older
each_fewer to o a older newer wrote each =
    fewer_more to o a wrote.more older (subst (λ (es : List Entry). OneEach to o es) wrote.joined each)

-- ---- another job

last_more : {X : Type 0} (answer : What → Option X) (job rev : ℕ) (a : Admitted) (more : List What) (log : List Entry)
    → a.job.0 ≢ job → last answer job rev (map (entry_of a) more ++ log) ≡ last answer job rev log
last_more answer job rev a [] log apart = refl
last_more answer job rev a (said ∷ more) log apart =
    last_other answer job rev (entry_of a said) (map (entry_of a) more ++ log) (λ same. absurd (apart same))
    ∙ last_more answer job rev a more log apart

last_stays : {X : Type 0} (answer : What → Option X) (job rev : ℕ) (a : Admitted) (older newer : List Entry) → Wrote a older newer
    → a.job.0 ≢ job → last answer job rev newer ≡ last answer job rev older
last_stays answer job rev a older newer wrote apart =
    ap (last answer job rev) wrote.joined ∙ last_more answer job rev a wrote.more older apart

-- what another job has open goes on being what it read last
pub read_apart : (b : Admitted) (tag : TagName) (a : Admitted) (older newer : List Entry) → Wrote a older newer
    → a.job.0 ≢ b.job.0 → (opened : List Opened) → WereRead b tag older opened → WereRead b tag newer opened
read_apart b tag a older newer wrote apart [] read = tt
read_apart b tag a older newer wrote apart (o ∷ []) read =
    last_stays (read_under tag) b.job.0 b.rev a older newer wrote apart ∙ read
read_apart b tag a older newer wrote apart (o ∷ p ∷ below) read = (
  last_stays (child_read o.digest) b.job.0 b.rev a older newer wrote apart ∙ read.0,
  read_apart b tag a older newer wrote apart (p ∷ below) read.1,
)

-- ---- entries of the same revision

-- an entry that reads no manifest leaves each of them as it was read
pub read_still : (a : Admitted) (tag : TagName) (said : What) (log : List Entry) (opened : List Opened)
    → ((t : TagName) → read_under t said ≡ None) → ((d : Digest) → child_read d said ≡ None)
    → WereRead a tag log opened → WereRead a tag (entry_of a said ∷ log) opened
read_still a tag said log [] tags kids read = tt
read_still a tag said log (o ∷ []) tags kids read =
    last_unanswered (read_under tag) a.job.0 a.rev (entry_of a said) log (tags tag) ∙ read
read_still a tag said log (o ∷ p ∷ below) tags kids read = (
  last_unanswered (child_read o.digest) a.job.0 a.rev (entry_of a said) log (kids o.digest) ∙ read.0,
  read_still a tag said log (p ∷ below) tags kids read.1,
)

or_false : (a b : Bool) → (a || b) ≡ false → (a ≡ false) × (b ≡ false)
or_false true b is = cc
or_false false b is = (refl, is)

not_read : (d e : Digest) (media : Media) (bytes : ByteList) → digest_eq e d ≡ false
    → child_read e (ReadChild d media bytes) ≡ None
not_read d e media bytes other =
    ap (λ (b : Bool). if b then Some (record { media = media; bytes = bytes }) else None) (digests_equal.symm d e ∙ other)

-- so does one that reads a manifest which isn't open
pub read_child : (a : Admitted) (tag : TagName) (d : Digest) (media : Media) (bytes : ByteList) (log : List Entry) (opened : List Opened)
    → is_open d opened ≡ false → WereRead a tag log opened
    → WereRead a tag (entry_of a (ReadChild d media bytes) ∷ log) opened
read_child a tag d media bytes log [] other read = tt
read_child a tag d media bytes log (o ∷ []) other read =
    last_unanswered (read_under tag) a.job.0 a.rev (entry_of a (ReadChild d media bytes)) log refl ∙ read
read_child a tag d media bytes log (o ∷ p ∷ below) other read =
    let apart = or_false (digest_eq o.digest d) (is_open d (p ∷ below)) other in (
      last_unanswered (child_read o.digest) a.job.0 a.rev (entry_of a (ReadChild d media bytes)) log
          (not_read d o.digest media bytes apart.0) ∙ read.0,
      read_child a tag d media bytes log (p ∷ below) apart.1 read.1,
    )

-- the place in the newest open manifest is nothing that was read
pub read_moved : (a : Admitted) (tag : TagName) (log : List Entry) (at : ℕ) (opened : List Opened)
    → WereRead a tag log opened → WereRead a tag log (moved_to at opened)
read_moved a tag log at [] read = tt
read_moved a tag log at (o ∷ []) read = read
read_moved a tag log at (o ∷ p ∷ below) read = read

-- ---- the root

-- the manifest that was read last under the tag has this digest, and is readable
pub record LastRead (a : Admitted) (tag : TagName) (log : List Entry) (d : Digest) : Type 0 where
  pub stored : Fetched
  pub kids : List Child
  pub own : digest_of stored.bytes ≡ d
  pub reads : Reads stored.media stored.bytes kids
  pub read : last (read_under tag) a.job.0 a.rev log ≡ Some stored

-- the oldest manifest that is open is the root, which was read under the tag
pub root_read : (a : Admitted) (tag : TagName) (log : List Entry) (root : Digest) (opened : List Opened) → opened ≢ []
    → IsChain root opened → AllByRecursion (λ o. IsReadable o.manifest) opened → WereRead a tag log opened
    → LastRead a tag log root
root_read a tag log root [] some chain readable read = absurd (some refl)
root_read a tag log root (o ∷ []) some chain readable read = record {
  stored = stored_of o.manifest;
  kids = o.manifest.children;
  own = chain.0.digest ∙ chain.0.over.0;
  reads = readable.0;
  read = read;
}
root_read a tag log root (o ∷ p ∷ below) some chain readable read =
    root_read a tag log root (p ∷ below) (λ e. cc) chain.1 readable.1 read.1

-- an entry that reads no tag leaves it as it was read
pub last_read_still : (a : Admitted) (tag : TagName) (said : What) (log : List Entry) (d : Digest)
    → ((t : TagName) → read_under t said ≡ None) → LastRead a tag log d → LastRead a tag (entry_of a said ∷ log) d
last_read_still a tag said log d none was = record {
  stored = was.stored;
  kids = was.kids;
  own = was.own;
  reads = was.reads;
  read = last_unanswered (read_under tag) a.job.0 a.rev (entry_of a said) log (none tag) ∙ was.read;
}
