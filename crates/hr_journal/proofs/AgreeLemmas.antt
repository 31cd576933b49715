-- What a journal says of the destination rests on the repositories of its own jobs alone, so jobs may
-- be added.
use Rattle.std.proofs.Common.{sym, ap, subst, ◌∙◌, ℕ, List, [], ◌∷◌}
use Rattle.std.specs.Prelude.{Contains, Option, IsSome}
use Rattle.std.specs.Option.{is_some}
use Rattle.hr_base.specs.Bytes.{ByteList}
use Rattle.hr_digest.specs.declared.digest.Digest.{Digest}
use Rattle.hr_event.specs.declared.entry.Entry.{Entry}
use Rattle.hr_adapter.specs.Content.{Content}
use Rattle.hr_journal.specs.OneEach.{Means, Measures, OneEach}
use Rattle.hr_journal.specs.Promise.{Promise, WasPut}
use Rattle.hr_journal.specs.Puts.{DoesAt, Puts}
use Rattle.hr_journal.specs.Shown.{AreAlike}
use Rattle.hr_name.specs.Name.{RepoName}
use Rattle.hr_name.specs.Tag.{TagName}
use Rattle.hr_journal.specs.Says.{Placement, placed}
use Rattle.hr_journal.proofs.ListLaws.{contains_later, contains_first}

alike_back : {X : Type 0} (to other : ℕ → ℕ → X) (log : List Entry) → AreAlike to other log → AreAlike other to log
alike_back to other log alike e logged = sym (alike e logged)

pub alike_before : {X : Type 0} (to other : ℕ → ℕ → X) (e : Entry) (es : List Entry)
    → AreAlike to other (e ∷ es) → AreAlike to other es
alike_before to other e es alike f logged = alike f (contains_later e es f logged)

puts_alike : (to other : Placement) (o : Content) (log : List Entry) (c : Content)
    → AreAlike to other log → Puts to o log c → Puts other o log c
puts_alike to other o [] c alike puts = puts
puts_alike to other o (e ∷ es) c alike puts = (
  puts.0,
  puts_alike to other o es puts.0 (alike_before to other e es alike) puts.1,
  subst (λ (p : Option RepoName). DoesAt p e es puts.0 c) (alike e (contains_first e es)) puts.2,
)

was_alike : (to other : Placement) (log : List Entry) (repo : RepoName) (tag : TagName) (d : Digest)
    → AreAlike to other log → WasPut to log repo tag d → WasPut other log repo tag d
was_alike to other log repo tag d alike was = record {
  entry = was.entry;
  old = was.old;
  how = was.how;
  logged = was.logged;
  says = was.says;
  put = was.put;
  place = sym (alike was.entry was.logged) ∙ was.place;
}

place_alike : (to other : Placement) (log : List Entry) → AreAlike to other log → (e : Entry) → Contains log e
    → IsSome (placed to e) → IsSome (placed other e)
place_alike to other log alike e logged place = ap is_some (sym (alike e logged)) ∙ place

means_alike : (to other : Placement) (o : Content) (log : List Entry) → AreAlike to other log
    → (d : Digest) (bytes : ByteList) → Means to o log d bytes → Means other o log d bytes
means_alike to other o log alike d bytes (Means.opened repo media there) = Means.opened repo media there
means_alike to other o log alike d bytes (Means.tagged e tag media logged place is own) =
    Means.tagged e tag media logged (place_alike to other log alike e logged place) is own
means_alike to other o log alike d bytes (Means.child e media logged place is) =
    Means.child e media logged (place_alike to other log alike e logged place) is

measures_alike : (to other : Placement) (o : Content) (log : List Entry) → AreAlike to other log
    → (d : Digest) (len : ℕ) → Measures to o log d len → Measures other o log d len
measures_alike to other o log alike d len (Measures.opened repo is) = Measures.opened repo is
measures_alike to other o log alike d len (Measures.found e logged place is) =
    Measures.found e logged (place_alike to other log alike e logged place) is
measures_alike to other o log alike d len (Measures.got e logged place is) =
    Measures.got e logged (place_alike to other log alike e logged place) is

each_alike : (to other : Placement) (o : Content) (log : List Entry) → AreAlike to other log
    → OneEach to o log → OneEach other o log
each_alike to other o log alike each = record {
  manifests = λ d a b p q. each.manifests d a b
      (means_alike other to o log (alike_back to other log alike) d a p)
      (means_alike other to o log (alike_back to other log alike) d b q);
  blobs = λ d m n p q. each.blobs d m n
      (measures_alike other to o log (alike_back to other log alike) d m p)
      (measures_alike other to o log (alike_back to other log alike) d n q);
}

pub promise_alike : (to other : Placement) (o : Content) (log : List Entry) (c : Content)
    → AreAlike to other log → Promise to o log c → Promise other o log c
promise_alike to other o log c alike promise = record {
  puts = puts_alike to other o log c alike promise.puts;
  honest = promise.honest;
  whole = λ each repo tag d names was.
      promise.whole (each_alike other to o log (alike_back to other log alike) each) repo tag d names
      (was_alike other to log repo tag d (alike_back to other log alike) was);
}
