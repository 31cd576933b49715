-- What a configuration without a fault keeps.
use Rattle.std.proofs.Common.{◌≡◌, ◌≢◌, ◌==◌, ◌||◌, ℕ, Bool, true, false, not, cond, inl, inr, List, [], ◌∷◌, map, Option, Some, None, option_map, Ok, refl, sym, ap, ◌∙◌}
use Rattle.std.specs.List.{AllByRecursion, flat_map}
use Rattle.std.specs.Option.{option_or}
use Rattle.std.proofs.lemmas.Bool.Decides.{eqb_tells}
use Rattle.serde_json.specs.Data.{Data}
use Rattle.hr_policy.specs.declared.config.Config.{Config}
use Rattle.hr_policy.specs.declared.config.Policy.{Policy}
use Rattle.hr_policy.specs.declared.refusal.ConfigRefused.{ConfigRefused}
use Rattle.hr_policy.specs.Fault.{chain_fault, destinations, fault_of, first_such, policy_ids, reg_ids, repeated, repeated_fault, same_fault, sources, stands, unknown_fault, used}
use Rattle.hr_policy.specs.Reading.{config_in, content_of}
use Rattle.hr_policy.specs.Sound.{AreDistinct, IsSound}
use Rattle.hr_policy.proofs.ConfigBackLemmas.{unless-is}
use Rattle.hr_policy.proofs.GivenLemmas.{given}

-- ---- tests that fail

chosen-none : (b : Bool) (n : ℕ) (rest : Option ℕ) → cond b (Some n) rest ≡ None → (b ≡ false) × (rest ≡ None)
chosen-none true n rest e = absurd cc
chosen-none false n rest e = (refl, e)

either-off : (a b : Bool) → (a || b) ≡ false → (a ≡ false) × (b ≡ false)
either-off false false e = (refl, refl)
either-off true b e = absurd cc
either-off false true e = absurd cc

turned-on : (b : Bool) → not b ≡ false → b ≡ true
turned-on true e = refl
turned-on false e = absurd cc

unlike-by : (m n : ℕ) → (m == n) ≡ false → m ≢ n
unlike-by m n e = elim (eqb_tells m n) [
  | inl t ↦ absurd (let both : true ≡ false = sym t.0 ∙ e in cc)
  | inr t ↦ t.1
]

-- ---- numbers

none-such : (test : ℕ → Bool) (ns : List ℕ) → first_such test ns ≡ None → AllByRecursion (λ n. test n ≡ false) ns
none-such test [] e = tt
none-such test (n ∷ ns) e = let c = chosen-none (test n) n (first_such test ns) e in (c.0, none-such test ns c.1)

none-stands : (ns : List ℕ) (n : ℕ) → stands ns n ≡ false → AllByRecursion (λ m. m ≢ n) ns
none-stands [] n e = tt
none-stands (m ∷ ns) n e = let o = either-off (m == n) (stands ns n) e in (unlike-by m n o.0, none-stands ns n o.1)

unlike-first : (n : ℕ) (before ns : List ℕ) → AllByRecursion (λ m. stands (n ∷ before) m ≡ false) ns → AllByRecursion (λ m. n ≢ m) ns
unlike-first n before [] h = tt
unlike-first n before (m ∷ ns) h = (unlike-by n m (either-off (n == m) (stands before m) h.0).0, unlike-first n before ns h.1)

unlike-others : (n : ℕ) (before ns : List ℕ) → AllByRecursion (λ m. stands (n ∷ before) m ≡ false) ns → AllByRecursion (λ m. stands before m ≡ false) ns
unlike-others n before [] h = tt
unlike-others n before (m ∷ ns) h = ((either-off (n == m) (stands before m) h.0).1, unlike-others n before ns h.1)

distinct : (before ns : List ℕ) → repeated before ns ≡ None → AreDistinct ns × AllByRecursion (λ n. stands before n ≡ false) ns
distinct before [] e = (tt, tt)
distinct before (n ∷ ns) e =
    let c = chosen-none (stands before n) n (repeated (n ∷ before) ns) e in
    let rest = distinct (n ∷ before) ns c.1 in
    ((unlike-first n before ns rest.1, rest.0), (c.0, unlike-others n before ns rest.1))

-- ---- policies

all-known : (ids : List ℕ) (ps : List Policy) → AllByRecursion (λ n. not (stands ids n) ≡ false) (flat_map (λ (p : Policy). p.src.0 ∷ p.dst.0 ∷ []) ps)
    → AllByRecursion (λ (p : Policy). (stands ids p.src.0 ≡ true) × (stands ids p.dst.0 ≡ true)) ps
all-known ids [] h = tt
all-known ids (p ∷ ps) h = ((turned-on (stands ids p.src.0) h.0, turned-on (stands ids p.dst.0) h.1.0), all-known ids ps h.1.1)

unlike-ends : (n : ℕ) (ps : List Policy) → AllByRecursion (λ m. m ≢ n) (map (λ (p : Policy). p.dst.0) ps) → AllByRecursion (λ (q : Policy). n ≢ q.dst.0) ps
unlike-ends n [] h = tt
unlike-ends n (q ∷ ps) h = (λ e. h.0 (sym e), unlike-ends n ps h.1)

all-apart : (all ps : List Policy) → AllByRecursion (λ n. stands (map (λ (p : Policy). p.dst.0) all) n ≡ false) (map (λ (p : Policy). p.src.0) ps)
    → AllByRecursion (λ (p : Policy). AllByRecursion (λ (q : Policy). p.src.0 ≢ q.dst.0) all) ps
all-apart all [] h = tt
all-apart all (p ∷ ps) h =
    (unlike-ends p.src.0 all (none-stands (map (λ (p : Policy). p.dst.0) all) p.src.0 h.0), all-apart all ps h.1)

-- ---- the whole

or-none : (a b : Option ConfigRefused) → option_or a b ≡ None → (a ≡ None) × (b ≡ None)
or-none None b e = (refl, e)
or-none (Some why) b e = absurd cc

map-none : (f : ℕ → ConfigRefused) (o : Option ℕ) → option_map f o ≡ None → o ≡ None
map-none f None e = refl
map-none f (Some n) e = absurd cc

sound-by : (c : Config) → fault_of c ≡ None → IsSound c
sound-by c e =
    let registries = or-none (repeated_fault (reg_ids c)) _ e in
    let policies = or-none (repeated_fault (policy_ids c)) _ registries.1 in
    let unknown = or-none (unknown_fault c) _ policies.1 in
    let same = or-none (same_fault c) (chain_fault c) unknown.1 in
    record {
      registries = (distinct [] (reg_ids c) (map-none _ (repeated [] (reg_ids c)) registries.0)).0;
      policies = (distinct [] (policy_ids c) (map-none _ (repeated [] (policy_ids c)) policies.0)).0;
      known = all-known (reg_ids c) c.policies (none-such (λ n. not (stands (reg_ids c) n)) (used c) (map-none _ (first_such (λ n. not (stands (reg_ids c) n)) (used c)) unknown.0));
      apart = all-apart c.policies c.policies (none-such (stands (destinations c)) (sources c) (map-none _ (first_such (stands (destinations c)) (sources c)) same.1));
    }

pub config-sound : (d : Data) (c : Config) → config_in d ≡ Ok c → IsSound c
config-sound d c e =
    let g = given (content_of d) _ c e in
    let u = unless-is (fault_of g.value) g.value c g.then_ in
    sound-by c (ap fault_of (sym u.1) ∙ u.0)
