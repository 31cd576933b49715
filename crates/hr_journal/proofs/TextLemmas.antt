-- Where no two texts of the registries have one digest, no digest stands for two contents in a journal.
use Rattle.std.proofs.Common.{◌≡◌, inl, inr, refl, sym, ap, subst, ◌∙◌, ℕ, List, [], ◌∷◌, length, arith}
use Rattle.std.specs.Prelude.{⊤, Option, Some, None, IfSome, IsSome, Contains, option_map}
use Rattle.std.proofs.lemmas.Option.{MatchOption-at_some}
use Rattle.hr_base.specs.Bytes.{ByteList, Media}
use Rattle.hr_digest.specs.Digest.{digest_of}
use Rattle.hr_digest.specs.declared.digest.Digest.{Digest}
use Rattle.hr_name.specs.Name.{RepoName}
use Rattle.hr_name.specs.Tag.{TagName}
use Rattle.hr_event.specs.declared.reference.Fetched.{Fetched}
use Rattle.hr_event.specs.declared.entry.Entry.{Entry}
use Rattle.hr_event.specs.declared.entry.What.{What}
use Rattle.hr_event.specs.declared.entry.What.TheVariants.{ReadTag, ReadChild, HasBlob, GotBlob}
use Rattle.hr_adapter.specs.Content.{Content, Honest, blob_at}
use Rattle.hr_adapter.specs.Put.{Has, as_manifest}
use Rattle.hr_journal.specs.OneEach.{Means, Measures, OneEach}
use Rattle.hr_journal.specs.Origin.{Source, Origin, WasThere, WereThere, Holds, IsText, HasText, OneText, AllTell}
use Rattle.hr_journal.specs.Promise.{Promise, TagsStandWhole}
use Rattle.hr_journal.specs.Puts.{Puts}
use Rattle.hr_journal.specs.Says.{Placement, placed}
use Rattle.hr_journal.proofs.BackLemmas.{puts_measure}
use Rattle.hr_journal.proofs.ChangeLemmas.{does_as}
use Rattle.hr_journal.proofs.ListLaws.{contains_cases, contains_later}
use Rattle.hr_journal.proofs.OriginLemmas.{was_there}

-- bytes that the opening or a source has, of that digest
record IsOwnText (o : Content) (from : Origin) (d : Digest) (bytes : ByteList) : Type 0 where
  own : Has d bytes
  text : IsText o from bytes

-- what is known of a journal: its opening, what it did, and that its sources tell what it read
record IsOf (to : Placement) (from : Origin) (o : Content) (log : List Entry) (c : Content) : Type 0 where
  honest : Honest o
  puts : Puts to o log c
  there : WereThere from log
  tell : AllTell to from log

before : (to : Placement) (from : Origin) (o : Content) (e : Entry) (es : List Entry) (c : Content)
    → (known : IsOf to from o (e ∷ es) c) → IsOf to from o es known.puts.0
before to from o e es c known = record {
  honest = known.honest;
  puts = known.puts.1;
  there = known.there.1;
  tell = λ f logged. known.tell f (contains_later e es f logged);
}

-- ---- what an entry read is a text

source_of : (source : Option Source) → IsSome source → (s : Source) × (source ≡ Some s)
source_of (Some s) some = (s, refl)
source_of None some = cc

place_of : (place : Option RepoName) → IsSome place → (repo : RepoName) × (place ≡ Some repo)
place_of (Some repo) some = (repo, refl)
place_of None some = cc

-- what an entry of this destination read, its source has
record ReadThere (from : Origin) (e : Entry) (what : What) : Type 0 where
  source : Source
  tells : from e.job.0 e.rev ≡ Some source
  there : WasThere source what

read_there : (to : Placement) (from : Origin) (o : Content) (log : List Entry) (c : Content)
    → IsOf to from o log c → (e : Entry) (what : What) → Contains log e → IsSome (placed to e) → e.what ≡ what
    → ReadThere from e what
read_there to from o log c known e what logged place says =
    let s = source_of (from e.job.0 e.rev) (known.tell e logged place) in record {
      source = s.0;
      tells = s.1;
      there = subst (λ (w : What). WasThere s.0 w) says (was_there from log s.0 e known.there logged s.1);
    }

tag_text : (o : Content) (from : Origin) (e : Entry) (tag : TagName) (media : Media) (bytes : ByteList)
    → ReadThere from e (ReadTag tag media bytes) → IsText o from bytes
tag_text o from e tag media bytes read =
    IsText.source e.job.0 e.rev read.source read.tells
    (Holds.manifest read.source.repo read.there.digest media read.there.there)

child_text : (o : Content) (from : Origin) (e : Entry) (d : Digest) (media : Media) (bytes : ByteList)
    → ReadThere from e (ReadChild d media bytes) → IsText o from bytes
child_text o from e d media bytes read =
    IsText.source e.job.0 e.rev read.source read.tells (Holds.manifest read.source.repo d media read.there)

blob_text : (o : Content) (from : Origin) (e : Entry) (d : Digest) (len : ℕ)
    → ReadThere from e (GotBlob d len) → HasText o from d len
blob_text o from e d len read = record {
  bytes = read.there.bytes;
  own = read.there.own;
  long = read.there.long;
  text = IsText.source e.job.0 e.rev read.source read.tells
      (Holds.blob read.source.repo d read.there.there);
}

-- ---- manifests

-- a child that an entry read has the digest
child_own : (to : Placement) (o : Content) (log : List Entry) (c : Content) → Puts to o log c
    → (e : Entry) (repo : RepoName) (d : Digest) (media : Media) (bytes : ByteList) → Contains log e
    → placed to e ≡ Some repo → e.what ≡ ReadChild d media bytes → Has d bytes
child_own to o [] c puts e repo d media bytes (k, within, is) here says = absurd (omega arith)
child_own to o (f ∷ es) c puts e repo d media bytes logged here says = elim (contains_cases f es e logged) [
  | inl is ↦
      let does = does_as to repo f (ReadChild d media bytes) es puts.0 c (ap (λ (x : Entry). placed to x) is ∙ here)
      (ap (λ (x : Entry). x.what) is ∙ says) puts.2 in does.own
  | inr older ↦ child_own to o es puts.0 puts.1 e repo d media bytes older here says
]

means_text : (to : Placement) (from : Origin) (o : Content) (log : List Entry) (c : Content)
    → IsOf to from o log c → (d : Digest) (bytes : ByteList) → Means to o log d bytes → IsOwnText o from d bytes
means_text to from o log c known d bytes (Means.opened repo media there) = record {
  own = MatchOption-at_some ⊤ (λ (m : Fetched). digest_of m.bytes ≡ d) (as_manifest media bytes) there
      (known.honest.manifests repo d);
  text = IsText.opened (Holds.manifest repo d media there);
}
means_text to from o log c known d bytes (Means.tagged e tag media logged place is own) = record {
  own = own;
  text = tag_text o from e tag media bytes
      (read_there to from o log c known e (ReadTag tag media bytes) logged place is);
}
means_text to from o log c known d bytes (Means.child e media logged place is) =
    let here = place_of (placed to e) place in record {
      own = child_own to o log c known.puts e here.0 d media bytes logged here.1 is;
      text = child_text o from e d media bytes
          (read_there to from o log c known e (ReadChild d media bytes) logged place is);
    }

-- ---- blobs

opened_text : (from : Origin) (o : Content) (repo : RepoName) (d : Digest) (len : ℕ) (held : Option ByteList)
    → blob_at o repo d ≡ held → IfSome held (λ bytes. digest_of bytes ≡ d) → option_map length held ≡ Some len
    → HasText o from d len
opened_text from o repo d len (Some bytes) there own is = record {
  bytes = bytes;
  own = own;
  text = IsText.opened (Holds.blob repo d there);
  long = cc;
}
opened_text from o repo d len None there own is = cc

-- a length that was found is that of a text, as each blob that stands there is of a text
measures_text : (to : Placement) (from : Origin) (o : Content) (log : List Entry) (c : Content)
    → IsOf to from o log c → (d : Digest) (len : ℕ) → Measures to o log d len → HasText o from d len
measures_text to from o log c known d len (Measures.opened repo is) =
    opened_text from o repo d len (blob_at o repo d) refl (known.honest.blobs repo d) is
measures_text to from o log c known d len (Measures.got e logged place is) =
    blob_text o from e d len (read_there to from o log c known e (GotBlob d len) logged place is)
measures_text to from o [] c known d len (Measures.found e (k, within, same) place is) = absurd (omega arith)
measures_text to from o (f ∷ es) c known d len (Measures.found e logged place is) =
    elim (contains_cases f es e logged) [
      | inl same ↦
          let here = place_of (placed to e) place in
          let looked = does_as to here.0 f (HasBlob d (Some len)) es known.puts.0 c
          (ap (λ (x : Entry). placed to x) same ∙ here.1) (ap (λ (x : Entry). x.what) same ∙ is) known.puts.2 in
          measures_text to from o es known.puts.0 (before to from o f es c known) d len
          (puts_measure to o es known.puts.0 known.puts.1 here.0 d len (sym looked.found))
      | inr older ↦
          measures_text to from o es known.puts.0 (before to from o f es c known) d len (Measures.found e older place is)
    ]

-- ---- one text for each digest

one_length : (from : Origin) (o : Content) (d : Digest) (m n : ℕ) → OneText o from
    → HasText o from d m → HasText o from d n → m ≡ n
one_length from o d m n one x y =
    sym x.long ∙ ap length (one x.bytes y.bytes x.text y.text (x.own ∙ sym y.own)) ∙ y.long

one_manifest : (from : Origin) (o : Content) (d : Digest) (a b : ByteList) → OneText o from
    → IsOwnText o from d a → IsOwnText o from d b → a ≡ b
one_manifest from o d a b one x y = one a b x.text y.text (x.own ∙ sym y.own)

pub lengths_are_of_texts : (to : Placement) (from : Origin) (o : Content) (log : List Entry) (c : Content)
    → Honest o → Puts to o log c → WereThere from log → AllTell to from log
    → (d : Digest) (len : ℕ) → Measures to o log d len → HasText o from d len
lengths_are_of_texts to from o log c honest puts there tell d len =
    measures_text to from o log c (record { honest = honest; puts = puts; there = there; tell = tell }) d len

pub one_text_each : (to : Placement) (from : Origin) (o : Content) (log : List Entry) (c : Content)
    → Honest o → Puts to o log c → WereThere from log → AllTell to from log → OneText o from
    → OneEach to o log
one_text_each to from o log c honest puts there tell one =
    let known : IsOf to from o log c = record { honest = honest; puts = puts; there = there; tell = tell } in record {
      manifests = λ d a b p q.
          one_manifest from o d a b one (means_text to from o log c known d a p) (means_text to from o log c known d b q);
      blobs = λ d m n p q.
          one_length from o d m n one (measures_text to from o log c known d m p) (measures_text to from o log c known d n q);
    }

pub texts_stand_whole : (to : Placement) (from : Origin) (o : Content) (log : List Entry) (c : Content)
    → Promise to o log c → Honest o → WereThere from log → AllTell to from log → OneText o from
    → TagsStandWhole to log c
texts_stand_whole to from o log c promise honest there tell one =
    promise.whole (one_text_each to from o log c honest promise.puts there tell one)
