-- Connections to different registries: one is found by its number, and is changed alone.
use Rattle.std.proofs.Common.{◌≡◌, refl, sym, ap, subst, ◌∙◌, zero, suc, ℕ, Bool, true, false, List, [], ◌∷◌}
use Rattle.std.proofs.lemmas.Bool.{eqb-true, true≢false}
use Rattle.std.proofs.lemmas.List.Elements.{All-head, All-tail}
use Rattle.std.proofs.lemmas.Option.{get_or_from_slice_get}
use Rattle.std.specs.Prelude.{◌≢◌, All, Option, Some, None, IsSome, if◌then◌else◌, nat_eq, slice_get, slice_index_or, slice_set}
use Rattle.std.specs.Cmp.{nat_eq_equiv}
use Rattle.std.specs.List.{AllByRecursion}
use Rattle.hr_base.specs.declared.number.RegNo.{RegNo}
use Rattle.hr_adapter.specs.Reg.{IsSound, Reg}
use Rattle.hr_line.specs.State.{Link, link_at, with_link}
use Rattle.hr_lane.specs.Conn.{AreDistinct, StandsAt, link_of, links_of}
use Rattle.hr_lane.specs.declared.conn.Conn.{Conn}

-- ---- one connection changed

-- where there is none to a registry, nothing is changed
none_stays : (b : Bool) (x : Reg) (o : Option Reg) → (if b then Some x else o) ≡ None
    → (b ≡ false) × (o ≡ None)
none_stays true x o is = cc
none_stays false x o is = (refl, is)

pub with_absent : (links : List Link) (reg : RegNo) (g : Reg) → link_at links reg ≡ None
    → with_link links reg g ≡ links
with_absent [] reg g absent = refl
with_absent (l ∷ more) reg g absent =
    let other = none_stays (nat_eq l.reg.0 reg.0) l.seen (link_at more reg) absent in
    ap (λ b. (if b then record l { seen = g } else l) ∷ with_link more reg g) other.0
    ∙ ap (λ rest. l ∷ rest) (with_absent more reg g other.1)

-- the number of a registry stays
number_stays : (b : Bool) (l : Link) (g : Reg) → (if b then record l { seen = g } else l).reg ≡ l.reg
number_stays true l g = refl
number_stays false l g = refl

-- what is not there, is not there after
pub absent_with : (links : List Link) (reg other : RegNo) (g : Reg) → link_at links other ≡ None
    → link_at (with_link links reg g) other ≡ None
absent_with [] reg other g absent = refl
absent_with (l ∷ more) reg other g absent =
    let apart = none_stays (nat_eq l.reg.0 other.0) l.seen (link_at more other) absent in
    let now : Link = if nat_eq l.reg.0 reg.0 then record l { seen = g } else l in
    ap (λ b. if b then Some now.seen else link_at (with_link more reg g) other)
    (ap (λ n. nat_eq n.0 other.0) (number_stays (nat_eq l.reg.0 reg.0) l g) ∙ apart.0)
    ∙ absent_with more reg other g apart.1

some_at : (b : Bool) (x y : Reg) (o p : Option Reg) → (IsSome o → IsSome p)
    → IsSome (if b then Some x else o) → IsSome (if b then Some y else p)
some_at true x y o p later there = refl
some_at false x y o p later there = later there

-- what is there, is there after
pub there_with : (links : List Link) (reg other : RegNo) (g : Reg) → IsSome (link_at links other)
    → IsSome (link_at (with_link links reg g) other)
there_with [] reg other g there = cc
there_with (l ∷ more) reg other g there =
    let now : Link = if nat_eq l.reg.0 reg.0 then record l { seen = g } else l in
    subst (λ (n : RegNo). IsSome (if nat_eq n.0 other.0 then Some now.seen else link_at (with_link more reg g) other))
    (sym (number_stays (nat_eq l.reg.0 reg.0) l g))
    (some_at (nat_eq l.reg.0 other.0) l.seen now.seen (link_at more other) (link_at (with_link more reg g) other)
    (there_with more reg other g) there)

pub distinct_with : (links : List Link) (reg : RegNo) (g : Reg) → AreDistinct links
    → AreDistinct (with_link links reg g)
distinct_with [] reg g distinct = tt
distinct_with (l ∷ more) reg g distinct = (
  subst (λ (n : RegNo). link_at (with_link more reg g) n ≡ None) (sym (number_stays (nat_eq l.reg.0 reg.0) l g))
      (absent_with more reg l.reg g distinct.0),
  distinct_with more reg g distinct.1,
)

sound_now : (b : Bool) (l : Link) (g : Reg) → IsSound l.seen → IsSound g
    → IsSound (if b then record l { seen = g } else l).seen
sound_now true l g old new = new
sound_now false l g old new = old

pub sound_with : (links : List Link) (reg : RegNo) (g : Reg) → AllByRecursion (λ l. IsSound l.seen) links
    → IsSound g → AllByRecursion (λ l. IsSound l.seen) (with_link links reg g)
sound_with [] reg g sound now = tt
sound_with (l ∷ more) reg g sound now =
    (sound_now (nat_eq l.reg.0 reg.0) l g sound.0 now, sound_with more reg g sound.1 now)

-- ---- where one stands

-- the first of two equal numbers, or none
by_number : (b : Bool) (x : Reg) (o : Option Reg) (y : Reg) → o ≡ Some y → (b ≡ true → o ≡ None)
    → ((b ≡ false) × ((if b then Some x else o) ≡ Some y))
by_number true x o y is apart = let none = apart refl in cc
by_number false x o y is apart = (refl, is)

same_links : (l reg : RegNo) (links : List Link) → l.0 ≡ reg.0 → link_at links l ≡ link_at links reg
same_links l reg [] e = refl
same_links l reg (x ∷ more) e =
    ap (λ n. if nat_eq x.reg.0 n then Some x.seen else link_at more l) e
    ∙ ap (λ o. if nat_eq x.reg.0 reg.0 then Some x.seen else o) (same_links l reg more e)

same_number : (l : RegNo) (reg : RegNo) → nat_eq l.0 reg.0 ≡ true → (links : List Link)
    → link_at links l ≡ None → link_at links reg ≡ None
same_number l reg same links absent = sym (same_links l reg links (eqb-true l.0 reg.0 same)) ∙ absent

same_reg : (l reg : RegNo) → l.0 ≡ reg.0 → l ≡ reg
same_reg l reg e = ap (λ n. record { 0 = n }) e

pub none_is_none : (o : Option Reg) → o ≡ None → IsSome o → ⊥
none_is_none None e some = true≢false (sym some)
none_is_none (Some x) e some = cc

module _ {A : Type 0} (seen : A → Reg) where
  pub stands_link : (conns : List (Conn A)) (reg : RegNo) (at : ℕ) (conn : Conn A) → slice_get conns at ≡ Some conn
      → conn.reg ≡ reg → AreDistinct (links_of seen conns) → link_at (links_of seen conns) reg ≡ Some (seen conn.link)
  stands_link [] reg at conn there named distinct = cc
  stands_link (c ∷ more) reg zero conn there named distinct =
      let e : c ≡ conn = cc in
      ap (λ (b : Bool). if b then Some (seen c.link) else link_at (links_of seen more) reg)
      (ap (λ (n : RegNo). nat_eq n.0 reg.0) (ap (λ (x : Conn A). x.reg) e ∙ named) ∙ nat_eq_equiv.refl reg.0)
      ∙ ap (λ (x : Conn A). Some (seen x.link)) e
  stands_link (c ∷ more) reg (suc at) conn there named distinct =
      (by_number (nat_eq c.reg.0 reg.0) (seen c.link) (link_at (links_of seen more) reg) (seen conn.link)
      (stands_link more reg at conn there named distinct.1)
      (λ same. same_number c.reg reg same (links_of seen more) distinct.0)).1

  pub stands_with : (conns : List (Conn A)) (reg : RegNo) (at : ℕ) (conn : Conn A) (link : A)
      → slice_get conns at ≡ Some conn → conn.reg ≡ reg → AreDistinct (links_of seen conns)
      → links_of seen (slice_set conns at (record conn { link = link })) ≡ with_link (links_of seen conns) reg (seen link)
  stands_with [] reg at conn link there named distinct = cc
  stands_with (c ∷ more) reg zero conn link there named distinct =
      let e : c ≡ conn = cc in
      let f : c.reg ≡ reg = ap (λ (x : Conn A). x.reg) e ∙ named in
      let g : nat_eq c.reg.0 reg.0 ≡ true = ap (λ (n : RegNo). nat_eq n.0 reg.0) f ∙ nat_eq_equiv.refl reg.0 in
      ap (λ (x : Conn A). link_of seen (record x { link = link }) ∷ links_of seen more) (sym e)
      ∙ sym (ap (λ (b : Bool). (if b then record (link_of seen c) { seen = seen link } else link_of seen c)
      ∷ with_link (links_of seen more) reg (seen link)) g
      ∙ ap (λ (rest : List Link). record (link_of seen c) { seen = seen link } ∷ rest)
      (with_absent (links_of seen more) reg (seen link)
      (subst (λ (n : RegNo). link_at (links_of seen more) n ≡ None) f distinct.0)))
  stands_with (c ∷ more) reg (suc at) conn link there named distinct =
      let apart = by_number (nat_eq c.reg.0 reg.0) (seen c.link) (link_at (links_of seen more) reg) (seen conn.link)
      (stands_link more reg at conn there named distinct.1)
      (λ same. same_number c.reg reg same (links_of seen more) distinct.0) in
      ap (λ (rest : List Link). link_of seen c ∷ rest) (stands_with more reg at conn link there named distinct.1)
      ∙ sym (ap (λ (b : Bool). (if b then record (link_of seen c) { seen = seen link } else link_of seen c)
      ∷ with_link (links_of seen more) reg (seen link)) apart.0)

  -- what holds of each connection, by its place, holds of all
  pub all_sound : (conns : List (Conn A)) → All (λ (c : Conn A). IsSound (seen c.link)) conns
      → AllByRecursion (λ l. IsSound l.seen) (links_of seen conns)
  all_sound [] each = tt
  all_sound (c ∷ more) each = (
    All-head (λ (c : Conn A). IsSound (seen c.link)) c more each,
    all_sound more (All-tail (λ (c : Conn A). IsSound (seen c.link)) c more each),
  )

  -- where none is to a registry, none is found
  pub none_named : (conns : List (Conn A)) (reg : RegNo) → All (λ (c : Conn A). c.reg ≢ reg) conns
      → link_at (links_of seen conns) reg ≡ None
  none_named [] reg each = refl
  none_named (c ∷ more) reg each =
      named_at (nat_eq c.reg.0 reg.0) refl
      (none_named more reg (All-tail (λ (c : Conn A). c.reg ≢ reg) c more each))
    where
      named_at : (b : Bool) → nat_eq c.reg.0 reg.0 ≡ b → link_at (links_of seen more) reg ≡ None
          → (if b then Some (seen c.link) else link_at (links_of seen more) reg) ≡ None
      named_at true same rest =
          absurd (All-head (λ (c : Conn A). c.reg ≢ reg) c more each
          (same_reg c.reg reg (eqb-true c.reg.0 reg.0 same)))
      named_at false apart rest = rest

-- a connection that was found and lent: it is the one to the registry, and the others stay
module _ {A : Type 0} (seen : A → Reg) (conns : List (Conn A)) (reg : RegNo) (at : ℕ) (lent : Conn A)
    (stands : StandsAt seen conns reg at)
    (distinct : AreDistinct (links_of seen conns)) where
  is_lent : slice_index_or conns at lent ≡ stands.conn
  is_lent = get_or_from_slice_get conns at stands.conn lent stands.there

  pub placed_link : link_at (links_of seen conns) reg ≡ Some (seen (slice_index_or conns at lent).link)
  placed_link =
      stands_link seen conns reg at stands.conn stands.there stands.named distinct
      ∙ ap (λ (x : Conn A). Some (seen x.link)) (sym is_lent)

  pub placed_with : (link : A)
      → links_of seen (slice_set conns at (record { reg = (slice_index_or conns at lent).reg; link = link }))
      ≡ with_link (links_of seen conns) reg (seen link)
  placed_with link =
      ap (λ (x : Conn A). links_of seen (slice_set conns at (record { reg = x.reg; link = link }))) is_lent
      ∙ stands_with seen conns reg at stands.conn link stands.there stands.named distinct
