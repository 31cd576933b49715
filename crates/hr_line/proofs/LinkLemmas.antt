-- Connections by the numbers of their registries, and the revisions that are held by their jobs.
use Rattle.std.proofs.Common.{◌≡◌, ◌⊎◌, inl, inr, refl, sym, ap, ◌∙◌, ℕ, Bool, true, false, List, [], ◌∷◌}
use Rattle.std.proofs.lemmas.Bool.{eq-eqb, eqb-false, eqb-true}
use Rattle.std.specs.Prelude.{◌≢◌, Option, Some, IfSome, if◌then◌else◌, nat_eq}
use Rattle.hr_base.specs.declared.number.RegNo.{RegNo}
use Rattle.hr_adapter.specs.Reg.{IsSound, Reg}
use Rattle.hr_line.specs.State.{AreSound, HeldAfter, Link, held_at, link_at, with_link}
use Rattle.hr_line.specs.declared.held.Held.{Held}

-- two numbers are equal or not
pub number_cases : (m n : ℕ) → (m ≡ n) ⊎ (m ≢ n)
number_cases m n = by (nat_eq m n) refl
  where
    by : (same : Bool) → nat_eq m n ≡ same → (m ≡ n) ⊎ (m ≢ n)
    by true is = inl (eqb-true m n is)
    by false is = inr (eqb-false m n is)

pub registry_same : (r q : RegNo) → r.0 ≡ q.0 → r ≡ q
registry_same r q e = let made : ℕ → RegNo = λ n. record { 0 = n } in ap made e

pub equal_true : (m n : ℕ) → m ≡ n → nat_eq m n ≡ true
equal_true m n e = eq-eqb m n e

pub equal_false : (m n : ℕ) → m ≢ n → nat_eq m n ≡ false
equal_false m n apart = by (nat_eq m n) refl
  where
    by : (same : Bool) → nat_eq m n ≡ same → nat_eq m n ≡ false
    by true is = absurd (apart (eqb-true m n is))
    by false is = is

pub if_true : {X : Type 0} (b : Bool) (x y : X) → b ≡ true → (if b then x else y) ≡ x
if_true true x y is = refl
if_true false x y is = cc

pub if_false : {X : Type 0} (b : Bool) (x y : X) → b ≡ false → (if b then x else y) ≡ y
if_false true x y is = cc
if_false false x y is = refl

-- ---- connections

-- the connection to a registry is sound where all are
pub link_sound : (links : List Link) (r : RegNo) → AreSound links → IfSome (link_at links r) IsSound
link_sound [] r sound = tt
link_sound (l ∷ more) r sound = by (link_sound more r sound.1) (nat_eq l.reg.0 r.0)
  where
    by : IfSome (link_at more r) IsSound → (same : Bool) → IfSome (if same then Some l.seen else link_at more r) IsSound
    by rest true = sound.0
    by rest false = rest

abbrev moved : Reg → Bool → Link → Link
moved seen here l = if here then record l { seen = seen } else l

-- the connection to a registry after it did something
pub link_same : (links : List Link) (r : RegNo) (seen p : Reg) → link_at links r ≡ Some p → link_at (with_link links r seen) r ≡ Some seen
link_same [] r seen p known = cc
link_same (l ∷ more) r seen p known =
    by (λ is. link_same more r seen p (sym (if_false (nat_eq l.reg.0 r.0) (Some l.seen) (link_at more r) is) ∙ known))
    (nat_eq l.reg.0 r.0) refl
  where
    by : (nat_eq l.reg.0 r.0 ≡ false → link_at (with_link more r seen) r ≡ Some seen) → (b : Bool) → nat_eq l.reg.0 r.0 ≡ b
        → (if nat_eq (moved seen b l).reg.0 r.0 then Some (moved seen b l).seen else link_at (with_link more r seen) r) ≡ Some seen
    by rest true is = if_true (nat_eq l.reg.0 r.0) (Some seen) (link_at (with_link more r seen) r) is
    by rest false is = if_false (nat_eq l.reg.0 r.0) (Some l.seen) (link_at (with_link more r seen) r) is ∙ rest is

-- and that to another one
pub link_other : (links : List Link) (r q : RegNo) (seen : Reg) → q.0 ≢ r.0
    → link_at (with_link links r seen) q ≡ link_at links q
link_other [] r q seen apart = refl
link_other (l ∷ more) r q seen apart = by (link_other more r q seen apart) (nat_eq l.reg.0 r.0) refl
  where
    by : link_at (with_link more r seen) q ≡ link_at more q → (b : Bool) → nat_eq l.reg.0 r.0 ≡ b
        → (if nat_eq (moved seen b l).reg.0 q.0 then Some (moved seen b l).seen else link_at (with_link more r seen) q)
        ≡ (if nat_eq l.reg.0 q.0 then Some l.seen else link_at more q)
    by rest true is =
        let here : l.reg.0 ≡ r.0 = eqb-true l.reg.0 r.0 is in
        let other : nat_eq l.reg.0 q.0 ≡ false = equal_false l.reg.0 q.0 (λ e. apart (sym e ∙ here)) in
        if_false (nat_eq l.reg.0 q.0) (Some seen) (link_at (with_link more r seen) q) other
        ∙ rest
        ∙ sym (if_false (nat_eq l.reg.0 q.0) (Some l.seen) (link_at more q) other)
    by rest false is =
        ap (λ (x : Option Reg). if nat_eq l.reg.0 q.0 then Some l.seen else x) rest

-- ---- revisions that are held

-- that of the job itself
pub held_same : (job : ℕ) (now : Option Held) (before after : List Held) → HeldAfter job now before after
    → held_at after job ≡ now
held_same job now before after changes =
    changes job ∙ if_true (nat_eq job job) now (held_at before job) (equal_true job job refl)

-- and that of another one
pub held_other : (job : ℕ) (now : Option Held) (before after : List Held) (other : ℕ) → HeldAfter job now before after
    → other ≢ job → held_at after other ≡ held_at before other
held_other job now before after other changes apart =
    changes other ∙ if_false (nat_eq other job) now (held_at before other) (equal_false other job apart)
