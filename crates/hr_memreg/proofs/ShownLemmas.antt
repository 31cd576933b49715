-- Lemmas on the words of specs/Shown.antt: which rows a moment adds, and that operations keep them.
use Rattle.std.proofs.Common.{◌≡◌, inl, inr, refl, sym, ap, subst, ◌∙◌, ℕ, Bool, true, false, cond, IsTrue, List, [], ◌∷◌, ◌++◌, Option, Some, None, take, suc, zero}
use Rattle.std.specs.Prelude.{◌≤◌, Result, Ok, Err, IfSome, Contains, nat_eq, nat_le, if◌then◌else◌}
use Rattle.std.specs.List.{AllByRecursion, cons_option, filter_map, flat_map}
use Rattle.std.specs.Option.{option_and_then, option_flatten, option_map}
use Rattle.std.specs.Map.{lookup}
use Rattle.std.specs.BTreeMap.{is_at}
use Rattle.std.specs.Cmp.{Equal-is}
use Rattle.std.specs.Cmp.Lexicographic.{slice_cmp}
use Rattle.std.specs.Ordering.{is_eq, nat_cmp}
use Rattle.std.proofs.lemmas.List.{flat_map_more}
use Rattle.std.proofs.lemmas.List.Elements.{Contains-append_left, Contains-append_right, Contains-push}
use Rattle.hr_base.specs.declared.memory.Memory.{Memory}
use Rattle.hr_name.specs.Name.{RepoName}
use Rattle.hr_name.specs.Tag.{TagName}
use Rattle.hr_digest.specs.Order.{digest_cmp}
use Rattle.hr_digest.specs.declared.digest.Digest.{Digest}
use Rattle.hr_event.specs.declared.reference.Fetched.{Fetched}
use Rattle.hr_event.specs.declared.reference.Reference.TheVariants as by
use Rattle.hr_adapter.specs.Content.{Content, Repo, Target, fetch_at, repo_at, manifest_at, target_at, with_tag}
use Rattle.hr_adapter.specs.Plan.{moved_at}
use Rattle.hr_adapter.specs.Reg.{AreShown, Retagged, Row}
use Rattle.hr_adapter.specs.declared.plan.Change.{Change}
use Rattle.hr_adapter.proofs.ContentLaws.{name_tie}
use Rattle.hr_adapter.proofs.HonestLaws.{Retagged-itself}
use Rattle.hr_adapter.proofs.ShownLaws.{fetch_at-with_tag-cases}
use Rattle.hr_memreg.specs.declared.standing.Standing.{Standing}
use Rattle.hr_memreg.specs.Shown.{AreRows, IsComing, number_after, row_coming, row_of, row_shown, rows_ever, rows_shown, rows_standing}
use Rattle.hr_memreg.specs.Standing.{GoesOn}
use Rattle.hr_memreg.proofs.PlanLemmas.{Retagged-moved_at, eq_le, le_le, number_later, one_retagged}

-- ---- rows that are among others

contains_first : (row : Row) (rows : List Row) → Contains (row ∷ rows) row
contains_first row rows = Contains-append_left (row ∷ []) rows row (Contains-push [] row)

contains_more : (o : Option Row) (rows : List Row) (row : Row) → Contains rows row → Contains (cons_option o rows) row
contains_more None rows row h = h
contains_more (Some x) rows row h = Contains-append_right (x ∷ []) rows row h

abbrev HasRow : List Row → RepoName → TagName → Fetched → Type 0
HasRow rows q t m = Contains rows (row_of q t m)

if_found : {X : Type 0} {P : X → Type 0} (o : Option X) → ((x : X) → o ≡ Some x → P x) → IfSome o P
if_found None h = tt
if_found (Some x) h = h x refl

if_some_then : {X : Type 0} (P Q : X → Type 0) (o : Option X) → ((x : X) → P x → Q x) → IfSome o P → IfSome o Q
if_some_then P Q (Some x) more h = more x h
if_some_then P Q None more h = tt

if_some_along : {X : Type 0} (P : X → Type 0) (o p : Option X) → o ≡ p → IfSome p P → IfSome o P
if_some_along P o p e h = subst (λ (t : _). IfSome t P) (sym e) h

-- ---- the rows of a content

-- a look-up by bytes finds the head, or goes on
found_cases : {X : Type 0} (q k : List ℕ) (x y : X) (rest : Option X) (P : Type 0)
    → cond (is_eq (slice_cmp nat_cmp q k)) (Some x) rest ≡ Some y → (k ≡ q → x ≡ y → P) → (rest ≡ Some y → P)
    → (b : Bool) → is_eq (slice_cmp nat_cmp q k) ≡ b → P
found_cases q k x y rest P found head more true is =
    let e : Some x ≡ Some y = ap (λ t. cond t (Some x) rest) (sym is) ∙ found in
    let same : x ≡ y = cc in
    head (sym (name_tie q k ((Equal-is (slice_cmp nat_cmp q k)).0 is))) same
found_cases q k x y rest P found head more false is =
    more (ap (λ t. cond t (Some x) rest) (sym is) ∙ found)

-- the row of a tag that a look-up finds is among those of its repository
tag_row : (repo : RepoName × Repo) (t : TagName) (target : Target) (row : Row) → row_shown repo (t, target) ≡ Some row
    → (ts : List (TagName × Target)) → lookup (is_at (slice_cmp nat_cmp t)) ts ≡ Some target
    → Contains (filter_map (row_shown repo) ts) row
tag_row repo t target row is [] found = cc
tag_row repo t target row is (e ∷ ts) found =
    found_cases t e.0 e.1 target (lookup (is_at (slice_cmp nat_cmp t)) ts) (Contains (filter_map (row_shown repo) (e
    ∷ ts)) row) found
    (λ key value.
    let here : row_shown repo e ≡ Some row =
    ap (λ k. row_shown repo (k, e.1)) key ∙ ap (λ v. row_shown repo (t, v)) value ∙ is in
    subst (λ (o : Option Row). Contains (cons_option o (filter_map (row_shown repo) ts)) row) (sym here)
    (contains_first row (filter_map (row_shown repo) ts)))
    (λ more. contains_more (row_shown repo e) (filter_map (row_shown repo) ts) row (tag_row repo t target row is ts more))
    (is_eq (slice_cmp nat_cmp t e.0)) refl

abbrev rows_in : RepoName × Repo → List Row
rows_in repo = filter_map (row_shown repo) repo.1.tags

-- the rows of a repository that a look-up finds are among all
repo_rows : (q : RepoName) (held : Repo) (row : Row) → Contains (rows_in (q, held)) row
    → (c : Content) → lookup (is_at (slice_cmp nat_cmp q)) c ≡ Some held → Contains (flat_map rows_in c) row
repo_rows q held row is [] found = cc
repo_rows q held row is (e ∷ c) found =
    found_cases q e.0 e.1 held (lookup (is_at (slice_cmp nat_cmp q)) c) (Contains (flat_map rows_in (e ∷ c)) row) found
    (λ key value.
    let here : rows_in (q, held) ≡ rows_in e =
    ap (λ k. rows_in (k, held)) (sym key) ∙ ap (λ v. rows_in (e.0, v)) (sym value) in
    Contains-append_left (rows_in e) (flat_map rows_in c) row (subst (λ (rows : List Row). Contains rows row) here is))
    (λ more. Contains-append_right (rows_in e) (flat_map rows_in c) row (repo_rows q held row is c more))
    (is_eq (slice_cmp nat_cmp q e.0)) refl

-- what a digest leads to in one repository
abbrev manifest_in : Repo → Digest → Option Fetched
manifest_in held d = lookup (is_at (digest_cmp d)) held.manifests

target_rows : (rows : List Row) (q : RepoName) (t : TagName) (held : Repo) (target : Option Target)
    → ((d : Digest) (m : Fetched) → target ≡ Some (Some d) → manifest_in held d ≡ Some m → HasRow rows q t m)
    → IfSome (option_and_then (manifest_in held) (option_flatten target)) (HasRow rows q t)
target_rows rows q t held None h = tt
target_rows rows q t held (Some None) h = tt
target_rows rows q t held (Some (Some d)) h = if_found (manifest_in held d) (λ m is. h d m refl is)

repo_shown : (rows : List Row) (q : RepoName) (t : TagName) (o : Option Repo)
    → ((held : Repo) (d : Digest) (m : Fetched) → o ≡ Some held → lookup (is_at (slice_cmp nat_cmp t)) held.tags ≡ Some (Some d)
    → manifest_in held d ≡ Some m → HasRow rows q t m)
    → IfSome (option_and_then (λ d. option_and_then (λ held. lookup (is_at (digest_cmp d)) held.manifests) o)
    (option_flatten (option_and_then (λ held. lookup (is_at (slice_cmp nat_cmp t)) held.tags) o))) (HasRow rows q t)
repo_shown rows q t None h = tt
repo_shown rows q t (Some held) h =
    target_rows rows q t held (lookup (is_at (slice_cmp nat_cmp t)) held.tags) (λ d m named there. h held d m refl named there)

-- the rows that a content shows are all that its tags show
pub AreShown-rows_shown : (c : Content) → AreShown c (rows_shown c)
unfolding repo_at manifest_at target_at rows_shown
AreShown-rows_shown c q t =
    repo_shown (rows_shown c) q t (lookup (is_at (slice_cmp nat_cmp q)) c)
    (λ held d m is named there. repo_rows q held (row_of q t m)
    (tag_row (q, held) t (Some d) (row_of q t m) (ap (option_map (row_of q t)) there) held.tags named) c is)

-- ---- the rows of a moment

coming_head : (n : ℕ) (c : Content) (rows : List Row) (m : Change)
    → ((row : Row) → row_coming n c m ≡ Some row → Contains rows row) → IsComing n c rows m
coming_head n c rows m h due =
    if_found (manifest_at c m.repo m.digest)
    (λ stored is. h (row_of m.repo m.tag stored)
    (ap (λ (b : Bool). if b then option_map (row_of m.repo m.tag) (manifest_at c m.repo m.digest) else None) due
    ∙ ap (option_map (row_of m.repo m.tag)) is))

coming_rows : (n : ℕ) (c : Content) (rows : List Row) (ms : List Change)
    → ((row : Row) → Contains (filter_map (row_coming n c) ms) row → Contains rows row)
    → AllByRecursion (IsComing n c rows) ms
coming_rows n c rows [] h = tt
coming_rows n c rows (m ∷ ms) h = (
  coming_head n c rows m
      (λ row is. h row
      (subst (λ (o : Option Row). Contains (cons_option o (filter_map (row_coming n c) ms)) row) (sym is)
      (contains_first row (filter_map (row_coming n c) ms)))),
  coming_rows n c rows ms
      (λ row there. h row (contains_more (row_coming n c m) (filter_map (row_coming n c) ms) row there)),
)

shown_more : (before after rows : List Row) (c : Content) → AreShown c rows → AreShown c (before ++ (rows ++ after))
shown_more before after rows c h q t =
    if_some_then (HasRow rows q t) (HasRow (before ++ (rows ++ after)) q t) (fetch_at c q (by.Tag t))
    (λ m is. Contains-append_right before (rows ++ after) _ (Contains-append_left rows after _ is)) (h q t)

-- the rows of a moment have all of it, after whatever was shown before
pub AreRows-after : (s : Standing) (before rows : List Row) → rows ≡ before ++ rows_standing s → AreRows s rows
AreRows-after s before rows e =
    subst (λ (rows : List Row). AreRows s rows) (sym e)
    (record {
      shown = shown_more before (filter_map (row_coming (number_after s.operations) s.held) s.moves) (rows_shown s.held) s.held
          (AreShown-rows_shown s.held);
      coming = coming_rows (number_after s.operations) s.held (before ++ rows_standing s) s.moves
          (λ row there. Contains-append_right before (rows_standing s) row
          (Contains-append_right (rows_shown s.held) (filter_map (row_coming (number_after s.operations) s.held)
          s.moves) row there));
    })

-- one moment more adds its rows
pub rows_ever-then : (moments : List Standing) (s : Standing)
    → rows_ever (moments ++ s ∷ []) ≡ rows_ever moments ++ rows_standing s
rows_ever-then moments s = sym (flat_map_more rows_standing [] moments s)

-- ---- what operations keep

-- a change whose row is there shows nothing new
one_shown : (b : Bool) (base c : Content) (rows : List Row) (m : Change) → Retagged base c → AreShown c rows
    → (b ≡ true → IfSome (manifest_at base m.repo m.digest) (HasRow rows m.repo m.tag))
    → AreShown (if b then with_tag c m.repo m.tag m.digest else c) rows
one_shown false base c rows m tags shown due = shown
one_shown true base c rows m tags shown due = λ q t. elim (fetch_at-with_tag-cases c m.repo m.tag m.digest q t) [
  | inl at ↦ if_some_along (HasRow rows q t) (fetch_at (with_tag c m.repo m.tag m.digest) q (by.Tag t)) (manifest_at
      base m.repo m.digest)
      (at.2 ∙ tags.manifests m.repo m.digest)
      (subst (λ (p : RepoName). IfSome (manifest_at base m.repo m.digest) (HasRow rows p t)) (sym at.0)
      (subst (λ (s : TagName). IfSome (manifest_at base m.repo m.digest) (HasRow rows m.repo s)) (sym at.1) (due refl)))
  | inr is ↦ if_some_along (HasRow rows q t) (fetch_at (with_tag c m.repo m.tag m.digest) q (by.Tag t)) (fetch_at c
      q (by.Tag t)) is (shown q t)
]

shown_from : (n : ℕ) (ms : List Change) (base c : Content) (rows : List Row) → Retagged base c → AreShown c rows
    → AllByRecursion (IsComing n base rows) ms → AreShown (moved_at n ms c) rows
shown_from n [] base c rows tags shown due = shown
shown_from n (m ∷ ms) base c rows tags shown due =
    shown_from n ms base (if nat_eq m.op n then with_tag c m.repo m.tag m.digest else c) rows
    (one_retagged (nat_eq m.op n) base c m tags)
    (one_shown (nat_eq m.op n) base c rows m tags shown (λ is. due.0 (eq_le m.op n is))) due.1

-- the changes of an operation show nothing that isn't a row
pub shown_moved : (s : Standing) (rows : List Row) → AreRows s rows
    → AreShown (moved_at (number_after s.operations) s.moves s.held) rows
shown_moved s rows h =
    shown_from (number_after s.operations) s.moves s.held s.held rows (Retagged-itself s.held) h.shown h.coming

all_take : {X : Type 0} (P : X → Type 0) (k : ℕ) (xs : List X) → AllByRecursion P xs → AllByRecursion P (take k xs)
all_take P zero xs h = tt
all_take P (suc k) [] h = tt
all_take P (suc k) (x ∷ xs) h = (h.0, all_take P k xs h.1)

-- what was to come at an operation and is at the next one is a row
still_coming : (n k : ℕ) (base c : Content) (rows : List Row) (ms : List Change) → n ≤ k → Retagged base c
    → AllByRecursion (IsComing n base rows) ms → AllByRecursion (IsComing k c rows) ms
still_coming n k base c rows [] less tags due = tt
still_coming n k base c rows (m ∷ ms) less tags due = (
  λ is. if_some_along (HasRow rows m.repo m.tag) (manifest_at c m.repo m.digest) (manifest_at base m.repo m.digest)
      (tags.manifests m.repo m.digest) (due.0 (le_le n k m.op less is)),
  still_coming n k base c rows ms less tags due.1,
)

-- a front of the changes of an operation leaves all that is to come at the next one a row
pub AreRows-front : (s : Standing) (rows : List Row) (k : ℕ) (held : Content)
    → held ≡ moved_at (number_after s.operations) (take k s.moves) s.held → AreRows s rows
    → AreRows (record s { held = held; operations = number_after s.operations }) rows
AreRows-front s rows k held is h =
    subst (λ (c : Content). AreRows (record s { held = c; operations = number_after s.operations }) rows) (sym is)
    (record {
      shown = shown_from (number_after s.operations) (take k s.moves) s.held s.held rows (Retagged-itself s.held) h.shown
          (all_take (IsComing (number_after s.operations) s.held rows) k s.moves h.coming);
      coming = still_coming (number_after s.operations) (number_after (number_after s.operations)) s.held
          (moved_at (number_after s.operations) (take k s.moves) s.held) rows s.moves (number_later s.operations)
          (Retagged-moved_at (number_after s.operations) (take k s.moves) s.held) h.coming;
    })

-- so do all changes of an operation
pub AreRows-all : (s : Standing) (rows : List Row) (held : Content)
    → held ≡ moved_at (number_after s.operations) s.moves s.held → AreRows s rows
    → AreRows (record s { held = held; operations = number_after s.operations }) rows
AreRows-all s rows held is h =
    subst (λ (c : Content). AreRows (record s { held = c; operations = number_after s.operations }) rows) (sym is)
    (record {
      shown = shown_moved s rows h;
      coming = still_coming (number_after s.operations) (number_after (number_after s.operations)) s.held
          (moved_at (number_after s.operations) s.moves s.held) rows s.moves (number_later s.operations)
          (Retagged-moved_at (number_after s.operations) s.moves s.held) h.coming;
    })

-- an operation that began keeps all that is shown, and that is to come, a row
pub AreRows-went_on : (s t : Standing) (rows : List Row) (result : Result Unit Memory) → GoesOn s t result → AreRows s rows
    → AreRows t rows
AreRows-went_on s t rows (Ok done) goes h =
    subst (λ (x : Standing). AreRows x rows) (sym goes.1) (AreRows-all s rows t.held goes.0 h)
AreRows-went_on s t rows (Err memory) goes h =
    subst (λ (x : Standing). AreRows x rows) (sym goes.1) (AreRows-front s rows goes.0.0 t.held goes.0.1 h)
