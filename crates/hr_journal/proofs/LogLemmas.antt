-- What the entries of a journal say, and what is still said when the journal has one entry more.
use Rattle.std.proofs.Common.{◌≡◌, ◌⊎◌, inl, inr, refl, ap, ◌∙◌, ℕ, Bool, true, false, ◌&&◌, List, [], ◌∷◌, eqb-true}
use Rattle.std.proofs.lemmas.Bool.{eq-eqb}
use Rattle.std.specs.Prelude.{◌≢◌, Option, Some, None, if◌then◌else◌, nat_eq}
use Rattle.std.specs.List.{Contains}
use Rattle.std.specs.Option.{option_or}
use Rattle.std.specs.Cmp.Lexicographic.{bytes_decides, pointwise}
use Rattle.hr_digest.specs.Order.{digest_eq}
use Rattle.hr_digest.specs.declared.digest.Digest.{Digest}
use Rattle.hr_digest.specs.declared.digest.Digest.TheVariants.{Sha256}
use Rattle.hr_event.specs.declared.reference.Fetched.{Fetched}
use Rattle.hr_event.specs.declared.entry.Entry.{Entry}
use Rattle.hr_event.specs.declared.entry.What.{What}
use Rattle.hr_event.specs.declared.entry.What.TheVariants.{ReadTag, ReadChild, GotBlob}
use Rattle.hr_adapter.specs.Content.{Content}
use Rattle.hr_journal.specs.Says.{Placement, placed, last, is_of, read_under, child_read, blob_read}
use Rattle.hr_journal.specs.OneEach.{Means, Measures, OneEach}
use Rattle.hr_base.specs.Bytes.{ByteList, Media}
use Rattle.hr_name.specs.Tag.{TagName}
use Rattle.hr_journal.proofs.ListLaws.{contains_later, contains_first}

-- ---- the newest answer is that of an entry

-- an entry of that revision of that job has that answer
pub record IsSaid {X : Type 0} (answer : What → Option X) (j r : ℕ) (log : List Entry) (x : X) : Type 0 where
  pub entry : Entry
  pub logged : Contains log entry
  pub job : entry.job.0 ≡ j
  pub rev : entry.rev ≡ r
  pub says : answer entry.what ≡ Some x

first_or : {X : Type 0} (b : Bool) (first later : Option X) (x : X)
    → option_or (if b then first else None) later ≡ Some x
    → ((b ≡ true) × (first ≡ Some x)) ⊎ (later ≡ Some x)
first_or true (Some y) later x is = inl (refl, is)
first_or true None later x is = inr is
first_or false first later x is = inr is

both_true : (a b : Bool) → a && b ≡ true → (a ≡ true) × (b ≡ true)
both_true true b is = (refl, is)
both_true false b is = cc

is_of_both : (job rev : ℕ) (e : Entry) → is_of job rev e ≡ true → (e.job.0 ≡ job) × (e.rev ≡ rev)
is_of_both job rev e is =
    let both : (nat_eq e.job.0 job ≡ true) × (nat_eq e.rev rev ≡ true) =
    both_true (nat_eq e.job.0 job) (nat_eq e.rev rev) is in
    (eqb-true e.job.0 job both.0, eqb-true e.rev rev both.1)

said_later : {X : Type 0} (answer : What → Option X) (job rev : ℕ) (e : Entry) (es : List Entry) (x : X)
    → IsSaid answer job rev es x → IsSaid answer job rev (e ∷ es) x
said_later answer job rev e es x said = record {
  entry = said.entry;
  logged = contains_later e es said.entry said.logged;
  job = said.job;
  rev = said.rev;
  says = said.says;
}

pub last_is_said : {X : Type 0} (answer : What → Option X) (job rev : ℕ) (es : List Entry) (x : X)
    → last answer job rev es ≡ Some x → IsSaid answer job rev es x
last_is_said answer job rev [] x is = cc
last_is_said answer job rev (e ∷ es) x is =
    elim (first_or (is_of job rev e) (answer e.what) (last answer job rev es) x is) [
      | inl at ↦
          let ours : (e.job.0 ≡ job) × (e.rev ≡ rev) = is_of_both job rev e at.0 in
          record { entry = e; logged = contains_first e es; job = ours.0; rev = ours.1; says = at.1 }
      | inr later ↦ said_later answer job rev e es x (last_is_said answer job rev es x later)
    ]

-- the entry is of the same place as any of that revision
pub said_at : {X : Type 0} (answer : What → Option X) (to : Placement) (e : Entry) (es : List Entry) (x : X)
    → (said : IsSaid answer e.job.0 e.rev es x) → placed to said.entry ≡ placed to e
said_at answer to e es x said =
    ap (λ j. to j said.entry.rev) said.job ∙ ap (to e.job.0) said.rev

-- ---- what the newest answer passes over

or_else : {X : Type 0} (b : Bool) (first later : Option X) → (b ≡ true → first ≡ None)
    → option_or (if b then first else None) later ≡ later
or_else true first later none = ap (λ o. option_or o later) (none refl)
or_else false first later none = refl

pub last_unanswered : {X : Type 0} (answer : What → Option X) (job rev : ℕ) (e : Entry) (es : List Entry)
    → answer e.what ≡ None → last answer job rev (e ∷ es) ≡ last answer job rev es
last_unanswered answer job rev e es none =
    or_else (is_of job rev e) (answer e.what) (last answer job rev es) (λ _. none)

pub last_other : {X : Type 0} (answer : What → Option X) (job rev : ℕ) (e : Entry) (es : List Entry)
    → (e.job.0 ≡ job → e.rev ≢ rev) → last answer job rev (e ∷ es) ≡ last answer job rev es
last_other answer job rev e es other =
    or_else (is_of job rev e) (answer e.what) (last answer job rev es)
    (λ is. let ours : (e.job.0 ≡ job) × (e.rev ≡ rev) = is_of_both job rev e is in absurd (other ours.0 ours.1))

both_are : (a b : Bool) → a ≡ true → b ≡ true → a && b ≡ true
both_are true b _ is = is
both_are false b is _ = is

is_of_itself : (e : Entry) → is_of e.job.0 e.rev e ≡ true
is_of_itself e = both_are (nat_eq e.job.0 e.job.0) (nat_eq e.rev e.rev)
    (eq-eqb e.job.0 e.job.0 refl) (eq-eqb e.rev e.rev refl)

answered : {X : Type 0} (b : Bool) (first later : Option X) (x : X) → b ≡ true → first ≡ Some x
    → option_or (if b then first else None) later ≡ Some x
answered true first later x ours is = ap (λ o. option_or o later) is
answered false first later x ours is = cc

pub last_answered : {X : Type 0} (answer : What → Option X) (e : Entry) (es : List Entry) (x : X)
    → answer e.what ≡ Some x → last answer e.job.0 e.rev (e ∷ es) ≡ Some x
last_answered answer e es x is =
    answered (is_of e.job.0 e.rev e) (answer e.what) (last answer e.job.0 e.rev es) x (is_of_itself e) is

-- ---- the answers

chosen : {X : Type 0} (b : Bool) (x y : X) → (if b then Some x else None) ≡ Some y → (b ≡ true) × (x ≡ y)
chosen true x y is = (refl, cc)
chosen false x y is = cc

digest_same : (d e : Digest) → digest_eq d e ≡ true → d ≡ e
digest_same (Sha256 x) (Sha256 y) is = ap Sha256 ((bytes_decides x y).0 is)

pub read_under_is : (tag : TagName) (what : What) (m : Fetched) → read_under tag what ≡ Some m
    → what ≡ ReadTag tag m.media m.bytes
read_under_is tag (ReadTag t media bytes) m is =
    let parts : (pointwise nat_eq t tag ≡ true) × (record { media = media; bytes = bytes } ≡ m) = chosen (pointwise nat_eq t tag) (record { media = media; bytes = bytes }) m is in
    let tags : t ≡ tag = (bytes_decides t tag).0 parts.0 in
    let medias : media ≡ m.media = ap (λ (f : Fetched). f.media) parts.1 in
    let texts : bytes ≡ m.bytes = ap (λ (f : Fetched). f.bytes) parts.1 in cc
read_under_is tag what m is = cc

pub child_read_is : (d : Digest) (what : What) (m : Fetched) → child_read d what ≡ Some m
    → what ≡ ReadChild d m.media m.bytes
child_read_is d (ReadChild e media bytes) m is =
    let parts : (digest_eq e d ≡ true) × (record { media = media; bytes = bytes } ≡ m) = chosen (digest_eq e d) (record { media = media; bytes = bytes }) m is in
    let digests : e ≡ d = digest_same e d parts.0 in
    let medias : media ≡ m.media = ap (λ (f : Fetched). f.media) parts.1 in
    let texts : bytes ≡ m.bytes = ap (λ (f : Fetched). f.bytes) parts.1 in cc
child_read_is d what m is = cc

pub blob_read_is : (d : Digest) (what : What) (len : ℕ) → blob_read d what ≡ Some len → what ≡ GotBlob d len
blob_read_is d (GotBlob e n) len is =
    let parts : (digest_eq e d ≡ true) × (n ≡ len) = chosen (digest_eq e d) n len is in
    let digests : e ≡ d = digest_same e d parts.0 in
    let lens : n ≡ len = parts.1 in cc
blob_read_is d what len is = cc

chooses : {X : Type 0} (b : Bool) (x : X) → b ≡ true → (if b then Some x else None) ≡ Some x
chooses true x is = refl
chooses false x is = cc

digest_itself : (d : Digest) → digest_eq d d ≡ true
digest_itself (Sha256 x) = (bytes_decides x x).1 refl

pub read_under_itself : (tag : TagName) (media : Media) (bytes : ByteList)
    → read_under tag (ReadTag tag media bytes) ≡ Some (record { media = media; bytes = bytes })
read_under_itself tag media bytes =
    chooses (pointwise nat_eq tag tag) (record { media = media; bytes = bytes }) ((bytes_decides tag tag).1 refl)

pub child_read_itself : (d : Digest) (media : Media) (bytes : ByteList)
    → child_read d (ReadChild d media bytes) ≡ Some (record { media = media; bytes = bytes })
child_read_itself d media bytes = chooses (digest_eq d d) (record { media = media; bytes = bytes }) (digest_itself d)

pub blob_read_itself : (d : Digest) (len : ℕ) → blob_read d (GotBlob d len) ≡ Some len
blob_read_itself d len = chooses (digest_eq d d) len (digest_itself d)

-- ---- what a digest stands for, with one entry more

pub means_later : (to : Placement) (o : Content) (e : Entry) (es : List Entry) (d : Digest) (bytes : ByteList)
    → Means to o es d bytes → Means to o (e ∷ es) d bytes
means_later to o e es d bytes (Means.opened repo media there) = Means.opened repo media there
means_later to o e es d bytes (Means.tagged f tag media logged place is own) =
    Means.tagged f tag media (contains_later e es f logged) place is own
means_later to o e es d bytes (Means.child f media logged place is) =
    Means.child f media (contains_later e es f logged) place is

pub measures_later : (to : Placement) (o : Content) (e : Entry) (es : List Entry) (d : Digest) (len : ℕ)
    → Measures to o es d len → Measures to o (e ∷ es) d len
measures_later to o e es d len (Measures.opened repo there) = Measures.opened repo there
measures_later to o e es d len (Measures.found f logged place is) =
    Measures.found f (contains_later e es f logged) place is
measures_later to o e es d len (Measures.got f logged place is) =
    Measures.got f (contains_later e es f logged) place is

-- where no digest stands for two contents, none did with one entry less
pub each_before : (to : Placement) (o : Content) (e : Entry) (es : List Entry)
    → OneEach to o (e ∷ es) → OneEach to o es
each_before to o e es each = record {
  manifests = λ d a b p q. each.manifests d a b (means_later to o e es d a p) (means_later to o e es d b q);
  blobs = λ d m n p q. each.blobs d m n (measures_later to o e es d m p) (measures_later to o e es d n q);
}
