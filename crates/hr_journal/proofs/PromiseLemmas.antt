-- The promise holds of a destination that was opened, and goes on with each entry.
use Rattle.std.proofs.Common.{◌≡◌, ◌⊎◌, inl, inr, refl, sym, ap, subst, ◌∙◌, List, [], ◌∷◌, ◌++◌, arith}
use Rattle.std.specs.Prelude.{Option, Some, None, IfSome, IsSome, Contains, option_map}
use Rattle.std.specs.Option.{option_and_then, option_flatten}
use Rattle.std.specs.List.{AllByRecursion}
use Rattle.hr_digest.specs.declared.digest.Digest.{Digest}
use Rattle.hr_event.specs.declared.reference.Fetched.{Fetched}
use Rattle.hr_event.specs.declared.reference.Reference.TheVariants as by
use Rattle.hr_event.specs.declared.entry.Entry.{Entry}
use Rattle.hr_event.specs.declared.entry.How.{How}
use Rattle.hr_event.specs.declared.entry.How.TheVariants.{Put, Unsure, Same, Kept}
use Rattle.hr_event.specs.declared.entry.What.{What}
use Rattle.hr_event.specs.declared.entry.What.TheVariants.{Show}
use Rattle.hr_adapter.specs.Content.{Content, Honest, Target, head_at, manifest_at, tag_at, target_at, with_manifest, with_tag}
use Rattle.hr_adapter.proofs.ContentLaws.{manifest_at-with_manifest-same, manifest_at-with_tag, tag_at-with_manifest, tag_at-with_tag-cases}
use Rattle.hr_manifest.specs.Reading.{Reads}
use Rattle.hr_manifest.specs.declared.child.Child.{Child}
use Rattle.hr_journal.specs.Graph.{Stands, StandsUnder, Closed, StandsWhole}
use Rattle.hr_journal.specs.Grows.{Grows}
use Rattle.hr_journal.specs.OneEach.{OneEach}
use Rattle.hr_journal.specs.Promise.{IsPut, WasPut, Promise}
use Rattle.hr_journal.specs.Puts.{Does, DoesAs, PutsTag}
use Rattle.hr_journal.specs.Still.{IsStill, PutsNoTag}
use Rattle.hr_journal.proofs.ChangeLemmas.{does_elsewhere, does_here, does_nothing, may_show, nothing_puts_no_tag, tags_stay}
use Rattle.hr_journal.proofs.ClosedLemmas.{closed_grow, stands_closed_grow, stands_under}
use Rattle.hr_journal.proofs.GrowsLemmas.{does_grow}
use Rattle.hr_journal.proofs.HonestLemmas.{does_honest}
use Rattle.hr_journal.proofs.LogLemmas.{each_before}
use Rattle.hr_name.specs.Name.{RepoName}
use Rattle.hr_name.specs.Tag.{TagName}
use Rattle.hr_journal.specs.Says.{Placement, placed}
use Rattle.hr_journal.proofs.ListLaws.{contains_cases, each_then}

-- ---- which entry put a tag

-- this entry puts the tag
record PutsNow (to : Placement) (e : Entry) (repo : RepoName) (tag : TagName) (d : Digest) : Type 0 where
  old : Option Digest
  how : How
  place : placed to e ≡ Some repo
  says : e.what ≡ Show tag d old how
  put : IsPut how

was_cases : (to : Placement) (e : Entry) (es : List Entry) (repo : RepoName) (tag : TagName) (d : Digest)
    → WasPut to (e ∷ es) repo tag d → PutsNow to e repo tag d ⊎ WasPut to es repo tag d
was_cases to e es repo tag d was = elim (contains_cases e es was.entry was.logged) [
  | inl is ↦ inl (record {
    old = was.old;
    how = was.how;
    put = was.put;
    place = ap (λ (x : Entry). placed to x) is ∙ was.place;
    says = ap (λ (x : Entry). x.what) is ∙ was.says;
  })
  | inr older ↦ inr (record {
    entry = was.entry;
    old = was.old;
    how = was.how;
    logged = older;
    place = was.place;
    says = was.says;
    put = was.put;
  })
]

no_tag_put : (what : What) (tag : TagName) (d : Digest) (old : Option Digest) (how : How)
    → PutsNoTag what → what ≡ Show tag d old how → IsPut how → ⊥
no_tag_put what tag d old how none says put = elim put [
  | inl is ↦ subst (λ (w : What). PutsNoTag w) (says ∙ ap (Show tag d old) is) none
  | inr is ↦ subst (λ (w : What). PutsNoTag w) (says ∙ ap (Show tag d old) is) none
]

was_older : (to : Placement) (e : Entry) (es : List Entry) (repo : RepoName) (tag : TagName) (d : Digest)
    → (PutsNow to e repo tag d → ⊥) → WasPut to (e ∷ es) repo tag d → WasPut to es repo tag d
was_older to e es repo tag d none was = elim (was_cases to e es repo tag d was) [
  | inl now ↦ absurd (none now)
  | inr older ↦ older
]

-- ---- the opening, and entries that put no tag here

pub promise_opens : (to : Placement) (o : Content) → Honest o → Promise to o [] o
promise_opens to o honest = record {
  puts = refl;
  honest = honest;
  whole = λ each repo tag d names was. absurd (none_logged was.entry was.logged);
}
  where
    none_logged : (e : Entry) → Contains {X = Entry} [] e → ⊥
    none_logged e (k, within, is) = omega arith

-- an entry that left each tag, and put none here
promise_past : (to : Placement) (o : Content) (e : Entry) (es : List Entry) (b c : Content)
    → Promise to o es b → Does to e es b c → ((q : RepoName) (t : TagName) → tag_at c q t ≡ tag_at b q t)
    → ((repo : RepoName) (tag : TagName) (d : Digest) → PutsNow to e repo tag d → ⊥)
    → Promise to o (e ∷ es) c
promise_past to o e es b c promise does stay none = record {
  puts = (b, promise.puts, does);
  honest = does_honest to o e es b c promise.honest does;
  whole = λ each repo tag d names was.
      closed_grow 8 b c repo (does_grow to o e es b c promise.puts does each) d
      (promise.whole (each_before to o e es each) repo tag d (sym (stay repo tag) ∙ names)
      (was_older to e es repo tag d (none repo tag d) was));
}

pub promise_on : (to : Placement) (o : Content) (e : Entry) (es : List Entry) (b c : Content)
    → Promise to o es b → Does to e es b c → PutsNoTag e.what → Promise to o (e ∷ es) c
promise_on to o e es b c promise does none =
    promise_past to o e es b c promise does (tags_stay to e es b c none does)
    (λ repo tag d now. no_tag_put e.what tag d now.old now.how none now.says now.put)

-- an entry of this destination, by its kind
pub promise_does : (to : Placement) (repo : RepoName) (o : Content) (e : Entry) (what : What) (es : List Entry) (b c : Content)
    → Promise to o es b → placed to e ≡ Some repo → e.what ≡ what → DoesAs what repo e es b c → PutsNoTag what
    → Promise to o (e ∷ es) c
promise_does to repo o e what es b c promise here says does none =
    promise_on to o e es b c promise (does_here to repo e what es b c here says does)
    (subst (λ (w : What). PutsNoTag w) (sym says) none)

-- an entry of another destination
pub promise_elsewhere : (to : Placement) (o : Content) (e : Entry) (es : List Entry) (b : Content)
    → Promise to o es b → placed to e ≡ None → Promise to o (e ∷ es) b
promise_elsewhere to o e es b promise there =
    promise_past to o e es b b promise (does_elsewhere to e es b there) (λ q t. refl)
    (λ repo tag d now. let same : None ≡ Some repo = sym there ∙ now.place in cc)

pub promise_still : (to : Placement) (o : Content) (more es : List Entry) (b : Content)
    → Promise to o es b → AllByRecursion (λ e. IsStill e.what) more → Promise to o (more ++ es) b
promise_still to o [] es b promise still = promise
promise_still to o (e ∷ more) es b promise still =
    promise_on to o e (more ++ es) b b (promise_still to o more es b promise still.1)
    (does_nothing to e (more ++ es) b still.0) (nothing_puts_no_tag e.what still.0)

-- ---- a tag is put

some_of : (d : Digest) (held : Option Fetched) → IsSome held → option_map (λ _. d) held ≡ Some d
some_of d (Some m) there = refl
some_of d None there = cc

named_is : (c : Content) (repo : RepoName) (stands : Option Target)
    → IfSome stands (λ target. IsSome (option_and_then (manifest_at c repo) target))
    → option_and_then (λ d. option_map (λ _. d) (manifest_at c repo d)) (option_flatten stands) ≡ option_flatten stands
named_is c repo (Some (Some d)) there = some_of d (manifest_at c repo d) there
named_is c repo (Some None) there = refl
named_is c repo None there = refl

-- a look at a tag finds what it names
head_is_tag : (c : Content) (repo : RepoName) (tag : TagName) → Honest c → head_at c repo (by.Tag tag) ≡ tag_at c repo tag
head_is_tag c repo tag honest = named_is c repo (target_at c repo tag) (honest.tags repo tag)

show_does : (repo : RepoName) (e : Entry) (tag : TagName) (d : Digest) (old : Option Digest) (how : How) (es : List Entry) (b c : Content)
    → IsPut how → PutsTag repo e tag d old how es b c → DoesAs (Show tag d old how) repo e es b c
show_does repo e tag d old Put es b c put shows = shows
show_does repo e tag d old Unsure es b c put shows = shows
show_does repo e tag d old Same es b c put shows = elim put [ inl is ↦ cc | inr is ↦ cc ]
show_does repo e tag d old Kept es b c put shows = elim put [ inl is ↦ cc | inr is ↦ cc ]

-- a tag that names what it named before was put before, since the look found another digest
named_before : (to : Placement) (r : RepoName) (e : Entry) (es : List Entry) (t : TagName) (f : Digest) (old : Option Digest) (how : How) (b c : Content)
    → Honest b → placed to e ≡ Some r → e.what ≡ Show t f old how → PutsTag r e t f old how es b c
    → (repo : RepoName) (tag : TagName) (d : Digest) → tag_at b repo tag ≡ Some d → WasPut to (e ∷ es) repo tag d
    → WasPut to es repo tag d
named_before to r e es t f old how b c honest here says shows repo tag d names was =
    elim (was_cases to e es repo tag d was) [
      | inl now ↦
          let alike : Show tag d now.old now.how ≡ Show t f old how = sym now.says ∙ says in
          let tags : tag ≡ t = cc in
          let digests : d ≡ f = cc in
          let places : Some r ≡ Some repo = sym here ∙ now.place in
          let repos : r ≡ repo = cc in
          let there : tag_at b r t ≡ Some f =
          ap (λ q. tag_at b q t) repos ∙ ap (tag_at b repo) (sym tags) ∙ names ∙ ap Some digests in
          absurd (shows.other (shows.looked ∙ head_is_tag b r t honest ∙ there))
      | inr older ↦ older
    ]

-- the manifest that was put is whole, as its children stood there before
shown_whole : (repo : RepoName) (tag : TagName) (d : Digest) (m : Fetched) (b c : Content) (kids : List Child)
    → c ≡ with_tag (with_manifest b repo d m) repo tag d → Grows b c
    → Reads m.media m.bytes kids
    → AllByRecursion (λ kid. Stands (Closed 7 b repo) b repo kid.kind kid.digest kid.size) kids → StandsWhole c repo d
shown_whole repo tag d m b c kids after grows reads each = record {
  stored = m;
  kids = kids;
  reads = reads;
  there = ap (λ x. manifest_at x repo d) after
      ∙ manifest_at-with_tag (with_manifest b repo d m) repo tag d repo d ∙ manifest_at-with_manifest-same b repo d m;
  each = each_then {P = λ kid. Stands (Closed 7 b repo) b repo kid.kind kid.digest kid.size}
      {Q = λ kid. Stands (Closed 7 c repo) c repo kid.kind kid.digest kid.size}
      (λ kid. stands_closed_grow 7 b c repo grows kid.kind kid.digest kid.size) kids each;
}

-- a tag of the content after names what it named before, or it is the one that was put
tag_cases : (t : TagName) (f : Digest) (how : How) (r : RepoName) (m : Fetched) (b c : Content)
    → (c ≡ b) ⊎ ((c ≡ with_manifest b r f m) ⊎ (c ≡ with_tag (with_manifest b r f m) r t f))
    → (repo : RepoName) (tag : TagName) (d : Digest) → tag_at c repo tag ≡ Some d
    → ((repo ≡ r) × (d ≡ f) × (c ≡ with_tag (with_manifest b r f m) r t f)) ⊎ (tag_at b repo tag ≡ Some d)
tag_cases t f how r m b c after repo tag d names = elim after [
  | inl is ↦ inr (ap (λ x. tag_at x repo tag) (sym is) ∙ names)
  | inr (inl is) ↦ inr (sym (tag_at-with_manifest b r f m repo tag) ∙ ap (λ x. tag_at x repo tag) (sym is) ∙ names)
  | inr (inr is) ↦ elim (tag_at-with_tag-cases (with_manifest b r f m) r t f repo tag) [
    | inl at ↦
        let named : Some f ≡ Some d = sym at.2 ∙ ap (λ x. tag_at x repo tag) (sym is) ∙ names in
        inl (at.0, cc, is)
    | inr unmoved ↦ inr (sym (tag_at-with_manifest b r f m repo tag) ∙ sym unmoved
        ∙ ap (λ x. tag_at x repo tag) (sym is) ∙ names)
  ]
]

promise_shows : (to : Placement) (r : RepoName) (o : Content) (e : Entry) (es : List Entry) (b c : Content)
    → (tag : TagName) (d : Digest) (old : Option Digest) (how : How)
    → Promise to o es b → placed to e ≡ Some r → e.what ≡ Show tag d old how → IsPut how
    → (shows : PutsTag r e tag d old how es b c)
    → (OneEach to o (e ∷ es) → AllByRecursion (λ kid. Stands (Closed 7 b r) b r kid.kind kid.digest kid.size) shows.kids)
    → Promise to o (e ∷ es) c
promise_shows to r o e es b c t f old how promise here says put shows stand = record {
  puts = (b, promise.puts, does);
  honest = does_honest to o e es b c promise.honest does;
  whole = λ each repo tag d names was.
      let grows : Grows b c = does_grow to o e es b c promise.puts does each in
      elim (tag_cases t f how r shows.stored b c
      (may_show how b c (with_manifest b r f shows.stored)
      (with_tag (with_manifest b r f shows.stored) r t f) shows.does) repo tag d names) [
        | inl now ↦
            subst (λ (q : RepoName). StandsWhole c q d) (sym now.0) (subst (λ (k : Digest). StandsWhole c r k) (sym now.1)
            (shown_whole r t f shows.stored b c shows.kids now.2 grows shows.reads (stand each)))
        | inr before ↦
            closed_grow 8 b c repo grows d
            (promise.whole (each_before to o e es each) repo tag d before
            (named_before to r e es t f old how b c promise.honest here says shows repo tag d before was))
      ];
}
  where
    does : Does to e es b c
    does = does_here to r e (Show t f old how) es b c here says (show_does r e t f old how es b c put shows)

-- the same by the levels that each child nests
pub promise_shows_under : (to : Placement) (repo : RepoName) (o : Content) (e : Entry) (es : List Entry) (b c : Content)
    → (tag : TagName) (d : Digest) (old : Option Digest) (how : How)
    → Promise to o es b → placed to e ≡ Some repo → e.what ≡ Show tag d old how → IsPut how
    → (shows : PutsTag repo e tag d old how es b c)
    → (OneEach to o (e ∷ es) → AllByRecursion
    (λ kid. StandsUnder 8 b repo kid.kind kid.digest kid.size) shows.kids)
    → Promise to o (e ∷ es) c
promise_shows_under to repo o e es b c tag d old how promise here says put shows stand =
    promise_shows to repo o e es b c tag d old how promise here says put shows
    (λ each. each_then {P = λ kid. StandsUnder 8 b repo kid.kind kid.digest kid.size}
    {Q = λ kid. Stands (Closed 7 b repo) b repo kid.kind kid.digest kid.size}
    (λ kid. stands_under 7 b repo kid.kind kid.digest kid.size) shows.kids (stand each))
