-- What a configuration without a fault keeps. (Our own.)
use Rattle.std.specs.Prelude.{⊤, ◌≡◌, ◌≢◌, ℕ, true, List, [], ◌∷◌}
use Rattle.std.specs.List.{AllByRecursion}
use Rattle.hr_policy.specs.declared.config.Config.{Config}
use Rattle.hr_policy.specs.Fault.{policy_ids, reg_ids, stands}

-- no number stands twice
abbrev pub AreDistinct : List ℕ → Type 0
AreDistinct [] = ⊤
AreDistinct (n ∷ ns) = AllByRecursion (λ m. n ≢ m) ns × AreDistinct ns

-- the numbers are distinct, each policy copies from a registry to a registry, and what one policy
-- copies to no policy copies from
pub record IsSound (c : Config) : Type 0 where
  pub registries : AreDistinct (reg_ids c)
  pub policies : AreDistinct (policy_ids c)
  pub known : AllByRecursion (λ p. (stands (reg_ids c) p.src.0 ≡ true) × (stands (reg_ids c) p.dst.0 ≡ true)) c.policies
  pub apart : AllByRecursion (λ p. AllByRecursion (λ q. p.src.0 ≢ q.dst.0) c.policies) c.policies
