-- The tags of the registry to which one of some connections is.
use Rattle.std.proofs.Common.{◌≡◌, refl, sym, ap, ◌∙◌, suc, ℕ, ◌+◌, ◌<◌, ◌≤◌, Bool, true, false, List, [], ◌∷◌, ◌++◌, length, map, drop, get_or, arith}
use Rattle.std.proofs.Math.Seq.{drop-cons}
use Rattle.std.proofs.lemmas.List.{drop_all}
use Rattle.std.specs.Option.{option_map}
use Rattle.std.specs.Prelude.{Option, Some, None, Result, Ok, Err, IfOk, if◌then◌else◌, nat_eq, unwrap_or}
use Rattle.hr_base.specs.declared.memory.Memory.{Memory}
use Rattle.hr_base.specs.declared.number.RegNo.{RegNo}
use Rattle.hr_event.specs.declared.told.Told.{Told}
use Rattle.hr_adapter.specs.Calls.{shown_of}
use Rattle.hr_adapter.specs.Reg.{Reg}
use Rattle.hr_line.specs.State.{Link, link_at}
use Rattle.hr_lane.specs.Conn.{links_of}
use Rattle.hr_lane.specs.declared.conn.Conn.{Conn}
use Rattle.hr_promise.specs.Answer.{tag_told}
use Rattle.hr_core.specs.Tags.{told_of}
use Rattle.hr_line.specs.State.{State}
use Rattle.hr_run.specs.Does.{tags_told}
use Rattle.hr_run.specs.Does as does
use Rattle.hr_run.specs.State.{CoreState}

-- the first answer, or else the second
abbrev pub or_else : Option (List Told) → Option (List Told) → Option (List Told)
or_else None second = second
or_else (Some told) second = Some told

pub told_append : (first second : List Link) (reg : RegNo)
    → told_of (first ++ second) reg ≡ or_else (told_of first reg) (told_of second reg)
told_append [] second reg = refl
told_append (l ∷ more) second reg = by (nat_eq l.reg.0 reg.0) (told_append more second reg)
  where
    by : (b : Bool) → told_of (more ++ second) reg ≡ or_else (told_of more reg) (told_of second reg)
        → option_map (λ r. map tag_told (shown_of r)) (if b then Some l.seen else link_at (more ++ second) reg)
        ≡ or_else (option_map (λ r. map tag_told (shown_of r)) (if b then Some l.seen else link_at more reg)) (told_of second reg)
    by true rest = refl
    by false rest = rest

-- two lists of connections: the first tell, or else the second
pub told_first : (first second : List Link) (reg : RegNo) (told : List Told) → Some told ≡ told_of first reg
    → Some told ≡ told_of (first ++ second) reg
told_first first second reg told is =
    sym (told_append first second reg ∙ ap (λ (o : Option (List Told)). or_else o (told_of second reg)) (sym is))

pub told_second : (first second : List Link) (reg : RegNo) (told : Option (List Told)) → None ≡ told_of first reg
    → told ≡ told_of second reg → told ≡ told_of (first ++ second) reg
told_second first second reg told none is =
    is ∙ sym (told_append first second reg ∙ ap (λ (o : Option (List Told)). or_else o (told_of second reg)) (sym none))

pub second_tells : (first second links : List Link) (reg : RegNo) (r : Result (Option (List Told)) Memory) → None ≡ told_of first reg
    → links ≡ second → IfOk r (λ told. told ≡ told_of links reg) → IfOk r (λ told. told ≡ told_of (first ++ second) reg)
second_tells first second links reg (Ok told) none same is =
    told_second first second reg told none (is ∙ ap (λ (l : List Link). told_of l reg) same)
second_tells first second links reg (Err why) none same is = tt

-- ---- lanes

told_lane : (lanes : List State) (at : ℕ) (lane : State) (reg : RegNo) → at < length lanes → lane ≡ get_or lanes at lane
    → told_of (does.links_of lanes) reg ≡ told_of (does.links_of (drop at lanes)) reg
    → told_of (does.links_of lanes) reg
    ≡ or_else (told_of (lane.sources ++ lane.dests) reg) (told_of (does.links_of (drop (suc at) lanes)) reg)
told_lane lanes at lane reg within is so =
    so ∙ ap (λ (ls : List State). told_of (does.links_of ls) reg) (drop-cons lanes at lane within)
    ∙ ap (λ (x : State). told_of (does.links_of (x ∷ drop (suc at) lanes)) reg) (sym is)
    ∙ ap (λ (links : List Link). told_of links reg) (three lane.sources lane.dests (does.links_of (drop (suc at) lanes)))
    ∙ told_append (lane.sources ++ lane.dests) (does.links_of (drop (suc at) lanes)) reg
  where
    three : (a b c : List Link) → a ++ b ++ c ≡ (a ++ b) ++ c
    three [] b c = refl
    three (x ∷ a) b c = ap (λ (l : List Link). x ∷ l) (three a b c)

pub lane_tells : (lanes : List State) (at : ℕ) (lane : State) (reg : RegNo) (told : List Told) → at < length lanes
    → lane ≡ get_or lanes at lane → told_of (does.links_of lanes) reg ≡ told_of (does.links_of (drop at lanes)) reg
    → Some told ≡ told_of (lane.sources ++ lane.dests) reg → Some told ≡ told_of (does.links_of lanes) reg
lane_tells lanes at lane reg told within is so tells =
    sym (told_lane lanes at lane reg within is so
    ∙ ap (λ (o : Option (List Told)). or_else o (told_of (does.links_of (drop (suc at) lanes)) reg)) (sym tells))

pub lane_passed : (lanes : List State) (at : ℕ) (lane : State) (reg : RegNo) → at < length lanes
    → lane ≡ get_or lanes at lane → told_of (does.links_of lanes) reg ≡ told_of (does.links_of (drop at lanes)) reg
    → None ≡ told_of (lane.sources ++ lane.dests) reg
    → told_of (does.links_of lanes) reg ≡ told_of (does.links_of (drop (at + 1) lanes)) reg
lane_passed lanes at lane reg within is so none =
    told_lane lanes at lane reg within is so
    ∙ ap (λ (o : Option (List Told)). or_else o (told_of (does.links_of (drop (suc at) lanes)) reg)) (sym none)
    ∙ ap (λ (n : ℕ). told_of (does.links_of (drop n lanes)) reg) (let e : suc at ≡ at + 1 = omega arith in e)

pub lanes_none : (lanes : List State) (at : ℕ) (reg : RegNo) → length lanes ≤ at
    → told_of (does.links_of lanes) reg ≡ told_of (does.links_of (drop at lanes)) reg
    → None ≡ told_of (does.links_of lanes) reg
lanes_none lanes at reg past so =
    sym (so ∙ ap (λ (ls : List State). told_of (does.links_of ls) reg) (drop_all at lanes past))

-- what is told of the core
pub core_tells : (before now : CoreState) (reg : RegNo) (o : Option (List Told)) → before ≡ now
    → o ≡ told_of (does.links_of before.lanes ++ before.others) reg → unwrap_or o [] ≡ tags_told now reg
core_tells before now reg o same is =
    ap (λ (x : Option (List Told)). unwrap_or x []) is ∙ ap (λ (p : CoreState). tags_told p reg) same

-- ---- one list of connections

chosen : {X : Type 0} (b : Bool) (x y : X) → b ≡ true → (if b then x else y) ≡ x
chosen true x y is = refl
chosen false x y is = cc

left : {X : Type 0} (b : Bool) (x y : X) → b ≡ false → (if b then x else y) ≡ y
left true x y is = cc
left false x y is = refl

module _ {A : Type 0} (seen : A → Reg) (conns : List (Conn A)) (at : ℕ) (c : Conn A) (reg : RegNo)
    (within : at < length conns) (is : c ≡ get_or conns at c)
    (so : link_at (links_of seen conns) reg ≡ link_at (links_of seen (drop at conns)) reg) where
  next : link_at (links_of seen conns) reg
      ≡ (if nat_eq c.reg.0 reg.0 then Some (seen c.link) else link_at (links_of seen (drop (suc at) conns)) reg)
  next =
      so ∙ ap (λ (cs : List (Conn A)). link_at (links_of seen cs) reg) (drop-cons conns at c within)
      ∙ ap (λ (x : Conn A). link_at (links_of seen (x ∷ drop (suc at) conns)) reg) (sym is)

  -- it is the connection to the registry
  pub is_found : nat_eq c.reg.0 reg.0 ≡ true → (told : List Told) → told ≡ map tag_told (shown_of (seen c.link))
      → Some told ≡ told_of (links_of seen conns) reg
  is_found same told tells =
      ap Some tells
      ∙ ap (λ (o : Option Reg). option_map (λ r. map tag_told (shown_of r)) o)
      (sym (next ∙ chosen (nat_eq c.reg.0 reg.0) (Some (seen c.link)) (link_at (links_of seen (drop (suc at) conns)) reg) same))

  -- it is another one
  pub is_passed : nat_eq c.reg.0 reg.0 ≡ false
      → link_at (links_of seen conns) reg ≡ link_at (links_of seen (drop (at + 1) conns)) reg
  is_passed other =
      next ∙ left (nat_eq c.reg.0 reg.0) (Some (seen c.link)) (link_at (links_of seen (drop (suc at) conns)) reg) other
      ∙ ap (λ (n : ℕ). link_at (links_of seen (drop n conns)) reg) (let e : suc at ≡ at + 1 = omega arith in e)

-- none of them is to the registry
pub none_found : {A : Type 0} (seen : A → Reg) (conns : List (Conn A)) (at : ℕ) (reg : RegNo) → length conns ≤ at
    → link_at (links_of seen conns) reg ≡ link_at (links_of seen (drop at conns)) reg
    → None ≡ told_of (links_of seen conns) reg
none_found {A} seen conns at reg past so =
    ap (λ (o : Option Reg). option_map (λ r. map tag_told (shown_of r)) o)
    (sym (so ∙ ap (λ (cs : List (Conn A)). link_at (links_of seen cs) reg) (drop_all at conns past)))
