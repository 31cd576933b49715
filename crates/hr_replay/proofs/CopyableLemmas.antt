-- What can be copied by what the registries of a script open with can arrive by its core.
use Rattle.std.proofs.Common.{◌≡◌, inl, inr, refl, sym, ap, subst, ◌∙◌, ℕ, Bool, true, false, List, [], ◌∷◌, ◌++◌, length, cond, arith}
use Rattle.std.proofs.lemmas.List.{length-map}
use Rattle.std.specs.Prelude.{◌&&◌, not, Option, Some, None, IfSome, IsSome, IsTrue, Contains, if◌then◌else◌, map, nat_eq, option_map}
use Rattle.std.specs.BTreeMap.{is_at}
use Rattle.std.specs.Cmp.Lexicographic.{slice_cmp}
use Rattle.std.specs.List.{AllByRecursion}
use Rattle.std.specs.Map.{keys_of, lookup}
use Rattle.std.specs.Option.{option_and_then, option_flatten, unwrap_or}
use Rattle.std.specs.Ordering.{is_eq, nat_cmp}
use Rattle.std.specs.declared.cmp.Ordering.{Ordering}
use Rattle.hr_base.specs.Bytes.{ByteList}
use Rattle.hr_base.specs.declared.number.RegNo.{RegNo}
use Rattle.hr_digest.specs.declared.digest.Digest.{Digest}
use Rattle.hr_event.specs.declared.task.TaskSpec.{TaskSpec}
use Rattle.hr_name.specs.Name.{RepoName}
use Rattle.hr_name.specs.Tag.{TagName}
use Rattle.hr_adapter.specs.Content.{Content, Honest, Repo, Target, manifest_at, repo_at, tag_at, target_at}
use Rattle.hr_adapter.specs.Listing.{repos_of, tagged_in, tagged_of, tags_of}
use Rattle.hr_adapter.specs.Plan.{will_fail, will_move}
use Rattle.hr_adapter.specs.Reg.{Reg}
use Rattle.hr_adapter.specs.declared.listed.Tagged.{Tagged}
use Rattle.hr_adapter.specs.declared.plan.Change.{Change}
use Rattle.hr_adapter.specs.declared.plan.Planned.{Planned}
use Rattle.hr_adapter.proofs.ContentLaws.{name_itself}
use Rattle.hr_copyable.specs.Copyable.{HoldsTags, IsCopyable, IsHeld, OpensWith}
use Rattle.hr_journal.proofs.ListLaws.{contains_cases, contains_first, contains_later, each_then}
use Rattle.hr_journal.specs.Origin.{Holds}
use Rattle.hr_line.specs.Run.{IsDestination}
use Rattle.hr_line.specs.State.{Link, State, link_at}
use Rattle.hr_memreg.specs.Mem.{seen_of}
use Rattle.hr_opening.specs.Plan.{are_listed, is_short, plan_of, spec_of, specs_for, specs_of}
use Rattle.hr_opening.specs.Setup.{Setups, registries_of, registry_of, setup_in}
use Rattle.hr_opening.specs.declared.setup.RegSetup.{RegSetup}
use Rattle.hr_run.specs.Arrives.{Arrives, CanArrive}
use Rattle.hr_run.specs.State.{CoreState}
use Rattle.hr_promise.specs.Arrives.{TaskCanArrive}
use Rattle.hr_whole.specs.Texts.{IsOpenText, OpensWithOneText}
use Rattle.hr_whole.specs.Whole.{TagIsWhole}
use Rattle.hr_replay.specs.Connect.{TARGET, first_lane}
use Rattle.hr_replay.specs.Replay.{EndsWell, HasStatus, IsListed, OpensClear}
use Rattle.hr_replay.proofs.ConnectLemmas.{of_eight}

-- ---- each tag that is listed is whole

some_along : {X : Type 0} (o p : Option X) → o ≡ p → IsSome p → IsSome o
some_along o p same is = subst (λ (x : _). IsSome x) (sym same) is

-- what stands under a key is found
found_key : (tags : List (TagName × Target)) (tag : TagName) → Contains (keys_of tags) tag
    → IsSome (lookup (is_at (slice_cmp nat_cmp tag)) tags)
found_key [] tag (k, within, is) = absurd (omega arith)
found_key (entry ∷ tags) tag within = by (found_key tags tag) (is_at (slice_cmp nat_cmp tag) entry.0) refl
  where
    here : entry.0 ≡ tag → is_at (slice_cmp nat_cmp tag) entry.0 ≡ true
    here same = ap (λ (k : TagName). is_at (slice_cmp nat_cmp tag) k) same ∙ ap (λ (o : Ordering). is_eq o) (name_itself tag)

    by : (Contains (keys_of tags) tag → IsSome (lookup (is_at (slice_cmp nat_cmp tag)) tags)) → (found : Bool)
        → is_at (slice_cmp nat_cmp tag) entry.0 ≡ found
        → IsSome (cond found (Some entry.1) (lookup (is_at (slice_cmp nat_cmp tag)) tags))
    by rest true is = refl
    by rest false is = elim (contains_cases entry.0 (keys_of tags) tag within) [
      | inl same ↦ let both = sym is ∙ here same in cc
      | inr behind ↦ rest behind
    ]

target_there : (c : Content) (repo : RepoName) (held : Repo) (tag : TagName) → repo_at c repo ≡ Some held
    → Contains (keys_of held.tags) tag → IsSome (target_at c repo tag)
unfolding target_at
target_there c repo held tag is within =
    some_along (target_at c repo tag) (lookup (is_at (slice_cmp nat_cmp tag)) held.tags)
    (ap (λ (o : Option Repo). option_and_then (λ h. lookup (is_at (slice_cmp nat_cmp tag)) h.tags) o) is)
    (found_key held.tags tag within)

whole_tag : (c : Content) (repo : RepoName) (held : Repo) (tag : TagName) → Honest c → HoldsTags c → repo_at c repo ≡ Some held
    → Contains (keys_of held.tags) tag → TagIsWhole c repo tag
whole_tag c repo held tag honest holds is within =
    by (target_at c repo tag) refl (honest.tags repo tag) (target_there c repo held tag is within)
  where
    by : (target : Option Target) → target_at c repo tag ≡ target
        → IfSome target (λ found. IsSome (option_and_then (manifest_at c repo) found)) → IsSome target → TagIsWhole c repo tag
    by None at leads some = cc
    by (Some None) at leads some = cc
    by (Some (Some d)) at leads some =
        let named : tag_at c repo tag ≡ Some d = ap (λ (t : Option Target). option_flatten t) at in
        let here : IsHeld c repo d = subst (λ (o : Option Digest). IfSome o (IsHeld c repo)) named (holds repo tag) in
        record { digest = d; named = named; whole = here.whole; few = here.few }

each_key : (P : TagName → Type 0) (held : Repo) (keys : List TagName) → ((tag : TagName) → Contains keys tag → P tag)
    → AllByRecursion P (map (λ (tagged : Tagged). tagged.tag) (map (tagged_in held) keys))
each_key P held [] each = tt
each_key P held (key ∷ keys) each =
    (each key (contains_first key keys), each_key P held keys (λ tag within. each tag (contains_later key keys tag within)))

listed_whole : (c : Content) (repo : RepoName) → Honest c → HoldsTags c
    → AllByRecursion (TagIsWhole c repo) (map (λ (tagged : Tagged). tagged.tag) (tags_of c repo))
listed_whole c repo honest holds = by (repo_at c repo) refl
  where
    by : (found : Option Repo) → repo_at c repo ≡ found
        → AllByRecursion (TagIsWhole c repo) (map (λ (tagged : Tagged). tagged.tag) (unwrap_or (option_map tagged_of found) []))
    by None is = tt
    by (Some held) is = each_key (TagIsWhole c repo) held (keys_of held.tags) (λ tag within. whole_tag c repo held tag honest holds is within)

-- ---- connections

-- what holds of each of these connections holds of the one to any registry
each_link : (P : Reg → Type 0) (links : List Link) → AllByRecursion (λ l. P l.seen) links → (r : RegNo) → IfSome (link_at links r) P
each_link P [] all r = tt
each_link P (l ∷ more) all r = by (each_link P more all.1 r) (nat_eq l.reg.0 r.0)
  where
    by : IfSome (link_at more r) P → (same : Bool) → IfSome (if same then Some l.seen else link_at more r) P
    by rest true = all.0
    by rest false = rest

-- a registry without planned changes is quiet
quiet_of : (setup : RegSetup) → setup.moves ≡ [] → IsTrue (seen_of (registry_of setup)).quiet
quiet_of setup none =
    subst (λ (moves : List Change). IsTrue (not (will_move (record { operations = 0; failing = setup.failing; moves = moves })))) (sym none)
    refl

-- and without planned faults it can't fail
sure_of : (setup : RegSetup) → setup.failing ≡ [] → IsTrue (seen_of (registry_of setup)).sure
sure_of setup none =
    subst (λ (failing : List Planned). IsTrue (not (will_fail (record { operations = 0; failing = failing; moves = setup.moves })) && true))
    (sym none) refl

-- the bytes of a registry are among those that all open with
opens_with : (opens : Setups) (reg : ℕ) (bytes : ByteList) (c : Content) → Some (setup_in opens reg).content ≡ Some c → Holds c bytes
    → OpensWith opens bytes
opens_with opens reg bytes c is held =
    let same : (setup_in opens reg).content ≡ c = cc in
    record { reg = reg; held = subst (λ (x : Content). Holds x bytes) (sym same) held }

-- where all opens clear, the lane opens with one text a digest
pub opens_one_text : (opens : Setups) → length (registries_of opens) ≡ 8 → OpensClear opens
    → OpensWithOneText (first_lane opens) (setup_in opens 2).content
opens_one_text opens eight =
    of_eight (λ (opens : Setups). OpensClear opens → OpensWithOneText (first_lane opens) (setup_in opens 2).content) one opens
    (sym (length-map opens registry_of) ∙ eight)
  where
    one : (a b c d e f g h : RegSetup) → OpensClear (a ∷ b ∷ c ∷ d ∷ e ∷ f ∷ g ∷ h ∷ [])
        → OpensWithOneText (first_lane (a ∷ b ∷ c ∷ d ∷ e ∷ f ∷ g ∷ h ∷ [])) b.content
    one a b c d e f g h clear = record {
      tell =
          each_link (λ (f : Reg). IsTrue f.quiet × IsSome f.told) (first_lane all).sources (
            (quiet_of a (clear.moves 1), refl),
            (
              (quiet_of c (clear.moves 3), refl),
              (
                (quiet_of d (clear.moves 4), refl),
                (
                  (quiet_of e (clear.moves 5), refl),
                  (
                    (quiet_of f (clear.moves 6), refl),
                    (
                      (quiet_of g (clear.moves 7), refl),
                      ((quiet_of h (clear.moves 8), refl), tt),
                    ),
                  ),
                ),
              ),
            ),
          );
      once = λ x y first second same. clear.once x y (text_opens x first) (text_opens y second) same;
    }
      where
        all : Setups
        all = a ∷ b ∷ c ∷ d ∷ e ∷ f ∷ g ∷ h ∷ []

        from_source : (bytes : ByteList) (r : RegNo)
            → IfSome (link_at (first_lane all).sources r) (λ f. (x : Content) → f.told ≡ Some x → Holds x bytes → OpensWith all bytes)
        from_source bytes =
            each_link (λ (f : Reg). (x : Content) → f.told ≡ Some x → Holds x bytes → OpensWith all bytes) (first_lane all).sources (
              opens_with all 1 bytes,
              (
                opens_with all 3 bytes,
                (
                  opens_with all 4 bytes,
                  (
                    opens_with all 5 bytes,
                    (opens_with all 6 bytes, (opens_with all 7 bytes, (opens_with all 8 bytes, tt))),
                  ),
                ),
              ),
            )

        text_opens : (bytes : ByteList) → IsOpenText (first_lane all) b.content bytes → OpensWith all bytes
        text_opens bytes (IsOpenText.dest held) = record { reg = 2; held = held }
        text_opens bytes (IsOpenText.source r f x is told held) =
            subst (λ (o : Option Reg). IfSome o (λ f. (x : Content) → f.told ≡ Some x → Holds x bytes → OpensWith all bytes)) is
            (from_source bytes r) x told held

-- registry 2 is a destination as it was opened
pub is_target : (opens : Setups) (lane : State) (seen : Reg) (c : Content) → length (registries_of opens) ≡ 8 → OpensClear opens
    → link_at lane.dests TARGET ≡ Some seen → seen.told ≡ Some c
    → IsDestination (first_lane opens).dests lane TARGET (setup_in opens 2).content c
is_target opens lane seen c eight clear there tells =
    of_eight (λ (opens : Setups). OpensClear opens → IsDestination (first_lane opens).dests lane TARGET (setup_in opens 2).content c)
    (λ a b x d e f g h clear. record {
      first = record { reg = TARGET; seen = seen_of (registry_of b) };
      within = contains_first _ [];
      named = refl;
      quiet = quiet_of b (clear.moves 2);
      told = refl;
      honest = clear.honest;
      now = seen;
      there = there;
      tells = tells;
    }) opens (sym (length-map opens registry_of) ∙ eight) clear

task_arrives : (opens : Setups) → length opens ≡ 8 → IsCopyable opens → (repo : RepoName) (tags : List Tagged)
    → AllByRecursion (TagIsWhole (setup_in opens 1).content repo) (map (λ (tagged : Tagged). tagged.tag) tags)
    → TaskCanArrive (first_lane opens) (spec_of repo tags)
task_arrives opens eight = of_eight (λ (opens : Setups). IsCopyable opens → (repo : RepoName) (tags : List Tagged)
    → AllByRecursion (TagIsWhole (setup_in opens 1).content repo) (map (λ (tagged : Tagged). tagged.tag) tags)
    → TaskCanArrive (first_lane opens) (spec_of repo tags)) one opens eight
  where
    one : (a b c d e f g h : RegSetup) → IsCopyable (a ∷ b ∷ c ∷ d ∷ e ∷ f ∷ g ∷ h ∷ []) → (repo : RepoName) (tags : List Tagged)
        → AllByRecursion (TagIsWhole a.content repo) (map (λ (tagged : Tagged). tagged.tag) tags)
        → TaskCanArrive (first_lane (a ∷ b ∷ c ∷ d ∷ e ∷ f ∷ g ∷ h ∷ [])) (spec_of repo tags)
    one a b c d e f g h can repo tags whole = record {
      from = a.content;
      to = b.content;
      copied = record {
        calm = record {
          source = seen_of (registry_of a);
          from = refl;
          quiet = quiet_of a (can.undisturbed 1).moves;
          told = refl;
          dest = record { reg = record { 0 = 2 }; seen = seen_of (registry_of b) };
          within = contains_first _ [];
          named = refl;
          still = quiet_of b (can.undisturbed 2).moves;
          tells = refl;
          honest = (can.undisturbed 2).honest;
        };
        honest = (can.undisturbed 1).honest;
        tags = whole;
      };
      unfailing = record {
        source = seen_of (registry_of a);
        from = refl;
        can_read = record { sure = sure_of a (can.undisturbed 1).failing; none = refl };
        dest = seen_of (registry_of b);
        to = refl;
        can_write = record { sure = sure_of b (can.undisturbed 2).failing; none = refl };
      };
      one_text = opens_one_text (a ∷ b ∷ c ∷ d ∷ e ∷ f ∷ g ∷ h ∷ []) refl (record {
        honest = (can.undisturbed 2).honest;
        moves = λ reg. (can.undisturbed reg).moves;
        once = can.once;
      });
    }

-- ---- what a trigger plans

spec_arrives : (opens : Setups) → length opens ≡ 8 → IsCopyable opens → (repo : RepoName) (tags : List Tagged) (rest : List TaskSpec)
    → AllByRecursion (TagIsWhole (setup_in opens 1).content repo) (map (λ (tagged : Tagged). tagged.tag) tags)
    → AllByRecursion (TaskCanArrive (first_lane opens)) rest → AllByRecursion (TaskCanArrive (first_lane opens)) (specs_for repo tags ++ rest)
spec_arrives opens eight can repo [] rest whole others = others
spec_arrives opens eight can repo (tagged ∷ tags) rest whole others = (task_arrives opens eight can repo (tagged ∷ tags) whole, others)

specs_arrive : (opens : Setups) → length opens ≡ 8 → IsCopyable opens → (repos : List RepoName)
    → AllByRecursion (TaskCanArrive (first_lane opens)) (specs_of (setup_in opens 1).content repos)
specs_arrive opens eight can [] = tt
specs_arrive opens eight can (repo ∷ repos) =
    let c = (setup_in opens 1).content in
    spec_arrives opens eight can repo (tags_of c repo) (specs_of c repos)
    (listed_whole c repo (can.undisturbed 1).honest (can.held 1 (λ e. absurd (omega (arith, e))))) (specs_arrive opens eight can repos)

-- what is listed is planned
planned_of : (c : Content) → IsSome (plan_of c) → plan_of c ≡ Some (specs_of c (repos_of c))
planned_of c = by (is_short (repos_of c) && are_listed c (repos_of c))
  where
    by : (short : Bool) → IsSome (if short then Some (specs_of c (repos_of c)) else None)
        → (if short then Some (specs_of c (repos_of c)) else None) ≡ Some (specs_of c (repos_of c))
    by true some = refl
    by false some = cc

pub can_arrive : (opens : Setups) → length (registries_of opens) ≡ 8 → IsCopyable opens → IsListed opens
    → CanArrive (first_lane opens ∷ []) (plan_of (setup_in opens 1).content)
can_arrive opens eight can listed = record {
  specs = specs_of (setup_in opens 1).content (repos_of (setup_in opens 1).content);
  planned = planned_of (setup_in opens 1).content listed;
  each = each_then (λ (spec : TaskSpec) (one : TaskCanArrive (first_lane opens) spec). (one, tt))
      (specs_of (setup_in opens 1).content (repos_of (setup_in opens 1).content))
      (specs_arrive opens (sym (length-map opens registry_of) ∙ eight) can (repos_of (setup_in opens 1).content));
}

-- the status where all arrives
pub ends_well : (now : CoreState) (status : ℕ) → HasStatus now status → Arrives now → EndsWell now status
ends_well now status (inl done) arrives = inl done.1
ends_well now status (inr failed) (inl all) = absurd (failed.0 all.execs)
ends_well now status (inr failed) (inr wanting) = inr wanting
