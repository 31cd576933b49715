-- Eight registries as connections of a lane.
use Rattle.std.proofs.Common.{◌≡◌, ℕ, Bool, List, [], ◌∷◌, ◌++◌, length, refl, sym, ap, ◌∙◌, ◌+◌, append_assoc, arith, inl, inr, get_or, subst}
use Rattle.std.specs.Prelude.{Option, Some, None, IfSome, IsSome, ◌&&◌}
use Rattle.std.specs.List.{AllByRecursion, filter}
use Rattle.std.proofs.lemmas.List.{append-nil}
use Rattle.std.proofs.lemmas.Bool.{cases_Bool}
use Rattle.hr_event.specs.declared.task.TaskSpec.{TaskSpec}
use Rattle.hr_name.specs.Name.{RepoName}
use Rattle.hr_adapter.specs.Content.{Content}
use Rattle.hr_adapter.specs.Listing.{repos_of, tags_of}
use Rattle.hr_adapter.specs.declared.listed.Tagged.{Tagged}
use Rattle.hr_journal.proofs.ListLaws.{each_then}
use Rattle.hr_line.specs.Run.{AreApart, IsOpening}
use Rattle.hr_line.specs.State.{Link, State, link_at}
use Rattle.hr_lane.specs.Conn.{AreDistinct, links_of}
use Rattle.hr_lane.specs.declared.conn.Conn.{Conn}
use Rattle.hr_lane.specs.State.{new_lane}
use Rattle.hr_memreg.specs.Mem.{Mem, seen_of}
use Rattle.hr_opening.specs.Plan.{are_listed, is_short, plan_of, spec_of, specs_for, specs_of}
use Rattle.hr_opening.specs.Setup.{Setups, registries_of, setup_in}
use Rattle.hr_run.specs.Arrives.{LanesHaveSource}
use Rattle.hr_run.specs.Holds.{HasAttempts}
use Rattle.hr_run.specs.Ready.{CanRun}
use Rattle.hr_run.specs.State.{CoreState, opening}
use Rattle.hr_replay.specs.Connect.{dests_of, first_core, first_lane, is_dest, is_source, links_from, sources_of}

-- what holds of eight items, holds of a list of that length
pub of_eight : {X : Type 0} (P : List X → Type 0) → ((a b c d e f g h : X) → P (a ∷ b ∷ c ∷ d ∷ e ∷ f ∷ g ∷ h ∷ []))
    → (regs : List X) → length regs ≡ 8 → P regs
of_eight P each [] eight = absurd (omega (arith, eight))
of_eight P each (a ∷ []) eight = absurd (omega (arith, eight))
of_eight P each (a ∷ b ∷ []) eight = absurd (omega (arith, eight))
of_eight P each (a ∷ b ∷ c ∷ []) eight = absurd (omega (arith, eight))
of_eight P each (a ∷ b ∷ c ∷ d ∷ []) eight = absurd (omega (arith, eight))
of_eight P each (a ∷ b ∷ c ∷ d ∷ e ∷ []) eight = absurd (omega (arith, eight))
of_eight P each (a ∷ b ∷ c ∷ d ∷ e ∷ f ∷ []) eight = absurd (omega (arith, eight))
of_eight P each (a ∷ b ∷ c ∷ d ∷ e ∷ f ∷ g ∷ []) eight = absurd (omega (arith, eight))
of_eight P each (a ∷ b ∷ c ∷ d ∷ e ∷ f ∷ g ∷ h ∷ []) eight = each a b c d e f g h
of_eight P each (a ∷ b ∷ c ∷ d ∷ e ∷ f ∷ g ∷ h ∷ i ∷ more) eight = absurd (omega (arith, eight))

pub sources_apart : (regs : List Mem) → length regs ≡ 8 → AreDistinct (sources_of regs)
sources_apart regs eight =
    of_eight (λ (regs : List Mem). AreDistinct (sources_of regs))
    (λ a b c d e f g h. (refl, (refl, (refl, (refl, (refl, (refl, (refl, tt)))))))) regs eight

pub dests_apart : (regs : List Mem) → length regs ≡ 8 → AreDistinct (dests_of regs)
dests_apart regs eight =
    of_eight (λ (regs : List Mem). AreDistinct (dests_of regs)) (λ a b c d e f g h. (refl, tt)) regs eight

-- ---- the tasks of a plan are from registry 1 to registry 2

-- a lane has both connections of a task, which has from 1 to 4 attempts
pub record Fits (lane : State) (spec : TaskSpec) : Type 0 where
  pub source : IsSome (link_at lane.sources spec.src)
  pub dest : IsSome (link_at lane.dests spec.dst)
  pub attempts : HasAttempts spec

spec_fits : (regs : List Mem) → length regs ≡ 8 → (repo : RepoName) (tags : List Tagged)
    → Fits (new_lane (sources_of regs) (dests_of regs)) (spec_of repo tags)
spec_fits regs eight repo tags =
    of_eight (λ (regs : List Mem). Fits (new_lane (sources_of regs) (dests_of regs)) (spec_of repo tags))
    (λ a b c d e f g h. record { source = refl; dest = refl; attempts = (omega arith, omega arith) }) regs eight

specs_for_fit : (regs : List Mem) → length regs ≡ 8 → (repo : RepoName) (tags : List Tagged) (rest : List TaskSpec)
    → AllByRecursion (Fits (new_lane (sources_of regs) (dests_of regs))) rest
    → AllByRecursion (Fits (new_lane (sources_of regs) (dests_of regs))) (specs_for repo tags ++ rest)
specs_for_fit regs eight repo [] rest others = others
specs_for_fit regs eight repo (tagged ∷ tags) rest others = (spec_fits regs eight repo (tagged ∷ tags), others)

specs_fit : (regs : List Mem) → length regs ≡ 8 → (c : Content) (repos : List RepoName)
    → AllByRecursion (Fits (new_lane (sources_of regs) (dests_of regs))) (specs_of c repos)
specs_fit regs eight c [] = tt
specs_fit regs eight c (repo ∷ repos) =
    specs_for_fit regs eight repo (tags_of c repo) (specs_of c repos) (specs_fit regs eight c repos)

pub plan_fits : (regs : List Mem) → length regs ≡ 8 → (c : Content)
    → IfSome (plan_of c) (AllByRecursion (Fits (new_lane (sources_of regs) (dests_of regs))))
plan_fits regs eight c = elim (cases_Bool (is_short (repos_of c) && are_listed c (repos_of c))) [
  | inl short ↦ rw short (specs_fit regs eight c (repos_of c))
  | inr long ↦ rw long tt
]

-- what holds of each task that fits, holds of each planned one
plan_each : {P Q : TaskSpec → Type 0} → ((spec : TaskSpec) → P spec → Q spec) → (plan : Option (List TaskSpec)) → IfSome plan (AllByRecursion P)
    → IfSome plan (AllByRecursion Q)
plan_each each None fit = tt
plan_each each (Some specs) fit = each_then each specs fit

-- ---- connections as they are made

filter_more : (P : Link → Bool) (x : Link) (xs : List Link) → filter P (x ∷ xs) ≡ filter P (x ∷ []) ++ filter P xs
filter_more P x xs = elim (cases_Bool (P x)) [
  | inl here ↦ rw here refl
  | inr other ↦ rw other refl
]

more_of : (P : Link → Bool) (made later : List Link) (left rest : List Mem) (m : Mem) (number : ℕ) (all : List Link)
    → made ++ filter P (links_from number left) ≡ all → left ≡ m ∷ rest
    → later ≡ made ++ filter P (record { reg = record { 0 = number }; seen = seen_of m } ∷ [])
    → later ++ filter P (links_from (number + 1) rest) ≡ all
more_of P made later left rest m number all so_far is more =
    let one : Link = record { reg = record { 0 = number }; seen = seen_of m } in
    ap (λ (xs : List Link). xs ++ filter P (links_from (number + 1) rest)) more
    ∙ append_assoc made (filter P (one ∷ [])) (filter P (links_from (number + 1) rest))
    ∙ ap (λ (xs : List Link). made ++ xs) (sym (filter_more P one (links_from (number + 1) rest)))
    ∙ ap (λ (xs : List Mem). made ++ filter P (links_from number xs)) (sym is) ∙ so_far

-- so many connections were made, and these registries are left
pub record SoFar (sources dests : List Link) (left : List Mem) (number : ℕ) (regs : List Mem) : Type 0 where
  pub count : number + length left ≡ 9
  pub sources_so : sources ++ filter is_source (links_from number left) ≡ sources_of regs
  pub dests_so : dests ++ filter is_dest (links_from number left) ≡ dests_of regs

pub none_made : (left regs : List Mem) (sources dests : List Link) → sources ≡ [] → dests ≡ [] → left ≡ regs → length regs ≡ 8
    → SoFar sources dests left 1 regs
none_made left regs sources dests one two same eight =
    let lengths = ap (λ (xs : List Mem). length xs) same in
    record {
      count = omega (arith, lengths, eight);
      sources_so = ap (λ (xs : List Link). xs ++ filter is_source (links_from 1 left)) one
          ∙ ap (λ (xs : List Mem). sources_of xs) same;
      dests_so = ap (λ (xs : List Link). xs ++ filter is_dest (links_from 1 left)) two
          ∙ ap (λ (xs : List Mem). dests_of xs) same;
    }

pub one_made : (sources dests sources' dests' : List Link) (left rest : List Mem) (m : Mem) (number : ℕ) (regs : List Mem)
    → SoFar sources dests left number regs → left ≡ m ∷ rest
    → sources' ≡ sources ++ filter is_source (record { reg = record { 0 = number }; seen = seen_of m } ∷ [])
    → dests' ≡ dests ++ filter is_dest (record { reg = record { 0 = number }; seen = seen_of m } ∷ [])
    → SoFar sources' dests' rest (number + 1) regs
one_made sources dests sources' dests' left rest m number regs so_far is one two =
    let lengths = ap (λ (xs : List Mem). length xs) is in let count = so_far.count in
    record {
      count = omega (arith, lengths, count);
      sources_so = more_of is_source sources sources' left rest m number (sources_of regs) so_far.sources_so is one;
      dests_so = more_of is_dest dests dests' left rest m number (dests_of regs) so_far.dests_so is two;
    }

pub all_made : (sources dests : List Link) (left : List Mem) (number : ℕ) (regs : List Mem) → SoFar sources dests left number regs
    → left ≡ [] → (sources ≡ sources_of regs) × (dests ≡ dests_of regs)
all_made sources dests left number regs so_far none = (
  sym (append-nil sources) ∙ ap (λ (xs : List Mem). sources ++ filter is_source (links_from number xs)) (sym none)
      ∙ so_far.sources_so,
  sym (append-nil dests) ∙ ap (λ (xs : List Mem). dests ++ filter is_dest (links_from number xs)) (sym none)
      ∙ so_far.dests_so,
)

-- ---- the core that begins

planned_in : (P : State → TaskSpec → Type 0) (lane : State) (regs : List Mem) (c : Content) (plan : Option (List TaskSpec))
    → ((spec : TaskSpec) → Fits (new_lane (sources_of regs) (dests_of regs)) spec → P (new_lane (sources_of regs) (dests_of regs)) spec)
    → length regs ≡ 8 → plan ≡ plan_of c → lane ≡ new_lane (sources_of regs) (dests_of regs) → IfSome plan (AllByRecursion (P lane))
planned_in P lane regs c plan each eight planned is =
    subst (λ (x : State). IfSome plan (AllByRecursion (P x))) (sym is)
    (subst (λ (p : Option (List TaskSpec)). IfSome p (AllByRecursion (P (new_lane (sources_of regs) (dests_of regs))))) (sym planned)
    (plan_each each (plan_of c) (plan_fits regs eight c)))

runs_alone : (lane : State) (spec : TaskSpec) → Fits lane spec → CanRun (lane ∷ []) spec
runs_alone lane spec fit = record { lane = lane; there = refl; source = fit.source; dest = fit.dest }

lane_is : (regs : List Mem) (sources dests : List Link) (lane : State) → sources ≡ sources_of regs → dests ≡ dests_of regs
    → lane ≡ new_lane sources dests → lane ≡ new_lane (sources_of regs) (dests_of regs)
lane_is regs sources dests lane one two is =
    is ∙ ap (λ (x : List Link). new_lane x dests) one ∙ ap (λ (x : List Link). new_lane (sources_of regs) x) two

pub plan_runs_in : (regs : List Mem) → length regs ≡ 8 → (c : Content) (plan : Option (List TaskSpec)) (sources dests : List Link) (lane : State)
    → plan ≡ plan_of c → sources ≡ sources_of regs → dests ≡ dests_of regs → lane ≡ new_lane sources dests
    → IfSome plan (AllByRecursion (CanRun (lane ∷ [])))
plan_runs_in regs eight c plan sources dests lane planned one two is =
    planned_in (λ (x : State) (spec : TaskSpec). CanRun (x ∷ []) spec) lane regs c plan (λ spec fit. runs_alone _ spec fit) eight planned
    (lane_is regs sources dests lane one two is)

pub plan_tries_in : (regs : List Mem) → length regs ≡ 8 → (c : Content) (plan : Option (List TaskSpec)) → plan ≡ plan_of c
    → IfSome plan (AllByRecursion HasAttempts)
plan_tries_in regs eight c plan planned =
    subst (λ (p : Option (List TaskSpec)). IfSome p (AllByRecursion HasAttempts)) (sym planned)
    (plan_each (λ spec fit. fit.attempts) (plan_of c) (plan_fits regs eight c))

pub plan_has_sources : (regs : List Mem) → length regs ≡ 8 → (c : Content)
    → IfSome (plan_of c) (AllByRecursion (LanesHaveSource (new_lane (sources_of regs) (dests_of regs) ∷ [])))
plan_has_sources regs eight c = plan_each (λ spec fit. (fit.source, tt)) (plan_of c) (plan_fits regs eight c)

-- a lane with these connections is a new one
pub opens_in : (regs : List Mem) (sources dests : List Link) (lane : State) → length regs ≡ 8 → dests ≡ dests_of regs
    → lane ≡ new_lane sources dests → IsOpening lane
opens_in regs sources dests lane eight two is =
    subst IsOpening (sym is) (record {
      log = refl;
      hooks = refl;
      admitted = refl;
      held = refl;
      apart = subst (λ (links : List Link). AreApart links) (sym two) (dests_apart regs eight);
    })

-- a core that opens with one lane
pub opened_with : (lanes old : List State) (lane : State) (others : List Link) (plan : Option (List TaskSpec)) (jobs : ℕ) (s : CoreState)
    → old ≡ [] → lanes ≡ old ++ lane ∷ [] → s ≡ opening lanes others plan jobs → s ≡ opening (lane ∷ []) others plan jobs
opened_with lanes old lane others plan jobs s none more is =
    is ∙ ap (λ (x : List State). opening x others plan jobs) (more ∙ ap (λ (x : List State). x ++ lane ∷ []) none)

first_content : (setups : Setups) (m : Mem) → length (registries_of setups) ≡ 8
    → (get_or (registries_of setups) 0 m).content ≡ (setup_in setups 1).content
first_content [] m eight = absurd (omega (arith, eight))
first_content (x ∷ more) m eight = refl

pub begins_first : (setups : Setups) (regs items : List Mem) (m : Mem) (plan : Option (List TaskSpec)) (sources dests : List Link) (lane : State)
    (jobs : ℕ) (held : List (Conn Mem)) (s : CoreState) → held ≡ [] → regs ≡ registries_of setups → length regs ≡ 8 → items ≡ regs → m ≡ get_or items 0 m
    → plan ≡ plan_of m.content → sources ≡ sources_of regs → dests ≡ dests_of regs → lane ≡ new_lane sources dests
    → s ≡ opening (lane ∷ []) (links_of seen_of held) plan jobs → s ≡ first_core setups jobs
begins_first setups regs items m plan sources dests lane jobs held s none opened eight same at planned one two new is =
    let few : length (registries_of setups) ≡ 8 = sym (ap (λ (xs : List Mem). length xs) opened) ∙ eight in
    let content : m.content ≡ (setup_in setups 1).content =
    ap (λ (x : Mem). x.content) (at ∙ ap (λ (xs : List Mem). get_or xs 0 m) (same ∙ opened)) ∙ first_content setups m few in
    let first : lane ≡ first_lane setups =
    lane_is regs sources dests lane one two new ∙ ap (λ (xs : List Mem). new_lane (sources_of xs) (dests_of xs)) opened in
    is
    ∙ ap (λ (x : List (Conn Mem)). opening (lane ∷ []) (links_of seen_of x) plan jobs) none
    ∙ ap (λ (x : State). opening (x ∷ []) [] plan jobs) first
    ∙ ap (λ (x : Option (List TaskSpec)). opening (first_lane setups ∷ []) [] x jobs) (planned ∙ ap (λ (c : Content). plan_of c) content)
