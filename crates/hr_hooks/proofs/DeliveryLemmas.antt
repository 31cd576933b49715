-- Lemmas on deliveries.
use Rattle.std.proofs.Common.{◌≡◌, ℕ, ◌<◌, ◌≤◌, List, [], ◌∷◌, ◌++◌, length, take, drop, Option, Some, None, refl, sym, ap, ◌∙◌, subst, append_assoc, arith}
use Rattle.std.proofs.lemmas.List.{append-nil}
use Rattle.hr_base.specs.declared.status.Hook.{Hook}
use Rattle.hr_hooks.specs.Link.{Delivers}

pub delivers-none : (a : Option (List Hook)) → Delivers a [] a
delivers-none (Some a) = sym (append-nil a)
delivers-none None = tt

pub delivers-more : (a b c : Option (List Hook)) (x y : List Hook) → Delivers a x b → Delivers b y c → Delivers a (x ++ y) c
delivers-more (Some a) (Some b) (Some c) x y p q = q ∙ ap (λ (t : List Hook). t ++ y) p ∙ append_assoc a x y
delivers-more (Some a) (Some b) None x y p q = absurd q
delivers-more (Some a) None c x y p q = absurd p
delivers-more None (Some b) c x y p q = absurd p
delivers-more None None (Some c) x y p q = absurd q
delivers-more None None None x y p q = tt
