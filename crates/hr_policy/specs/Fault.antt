-- What is wrong with a configuration as a whole. (Our own.)
use Rattle.std.specs.Prelude.{ℕ, ◌==◌, Bool, not, List, [], ◌∷◌, map, Option, Some, None, option_map, if◌then◌else◌}
use Rattle.std.specs.Option.{option_or}
use Rattle.std.specs.List.{list_any, flat_map}
use Rattle.hr_policy.specs.declared.config.Config.{Config}
use Rattle.hr_policy.specs.declared.config.Policy.{Policy}
use Rattle.hr_policy.specs.declared.refusal.ConfigRefused.{ConfigRefused}
use Rattle.hr_policy.specs.declared.refusal.ConfigRefused.TheVariants as why

-- the numbers of the registries, in order
abbrev pub reg_ids : Config → List ℕ
reg_ids config = map (λ r. r.id.0) config.registries

-- the numbers of the policies, in order
abbrev pub policy_ids : Config → List ℕ
policy_ids config = map (λ p. p.id.0) config.policies

-- the sources of the policies, in order
abbrev pub sources : Config → List ℕ
sources config = map (λ p. p.src.0) config.policies

-- the destinations of the policies, in order
abbrev pub destinations : Config → List ℕ
destinations config = map (λ p. p.dst.0) config.policies

-- the registries of the policies in order, each policy's source first
abbrev pub used : Config → List ℕ
used config = flat_map (λ p. p.src.0 ∷ p.dst.0 ∷ []) config.policies

-- the number stands in the list
abbrev pub stands : List ℕ → ℕ → Bool
stands numbers n = list_any (λ m. m == n) numbers

-- the first number that passes the test
abbrev pub first_such : (ℕ → Bool) → List ℕ → Option ℕ
first_such test [] = None
first_such test (n ∷ ns) = if test n then Some n else first_such test ns

-- the first number that stands further to the front too, or in the list before
abbrev pub repeated : List ℕ → List ℕ → Option ℕ
repeated before [] = None
repeated before (n ∷ ns) = if stands before n then Some n else repeated (n ∷ before) ns

-- the number of the first policy whose source is its destination
abbrev pub first_turning : List Policy → Option ℕ
first_turning [] = None
first_turning (p ∷ ps) = if p.src.0 == p.dst.0 then Some p.id.0 else first_turning ps

-- a number that stands twice
abbrev pub repeated_fault : List ℕ → Option ConfigRefused
repeated_fault ids = option_map (λ n. why.Repeated n) (repeated [] ids)

-- a source or a destination that is no registry
abbrev pub unknown_fault : Config → Option ConfigRefused
unknown_fault config = option_map (λ n. why.Unknown n) (first_such (λ n. not (stands (reg_ids config) n)) (used config))

-- a policy that copies a registry to itself
abbrev pub same_fault : Config → Option ConfigRefused
same_fault config = option_map (λ n. why.SameRegistry n) (first_turning config.policies)

-- a source that is a destination
abbrev pub chain_fault : Config → Option ConfigRefused
chain_fault config = option_map (λ n. why.Chain n) (first_such (stands (destinations config)) (sources config))

-- the first fault of a configuration as a whole
abbrev pub fault_of : Config → Option ConfigRefused
fault_of config =
    option_or (repeated_fault (reg_ids config))
    (option_or (repeated_fault (policy_ids config))
    (option_or (unknown_fault config)
    (option_or (same_fault config) (chain_fault config))))
