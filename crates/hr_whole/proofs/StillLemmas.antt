-- A source that is quiet stays as it is, and a connection that can't fail doesn't, line by line.
use Rattle.std.proofs.Common.{◌≡◌, ◌⊎◌, inl, inr, refl, sym, ap, subst, ◌∙◌, ℕ, Bool, true, false, List, [], ◌∷◌}
use Rattle.std.proofs.lemmas.Bool.{eqb-false, eqb-true}
use Rattle.std.specs.Prelude.{◌≢◌, Option, Some, None, IfSome, IsTrue, Result, Ok, Err, if◌then◌else◌, nat_eq}
use Rattle.hr_base.specs.declared.number.RegNo.{RegNo}
use Rattle.hr_digest.specs.Order.{digest_eq}
use Rattle.hr_digest.specs.declared.digest.Digest.{Digest}
use Rattle.hr_name.specs.Name.{RepoName}
use Rattle.hr_name.specs.Tag.{TagName}
use Rattle.hr_event.specs.declared.entry.Entry.{Entry}
use Rattle.hr_event.specs.declared.entry.How.{How}
use Rattle.hr_graph.specs.declared.need.Need.{Need}
use Rattle.hr_graph.specs.declared.need.Need.TheVariants as need
use Rattle.hr_adapter.specs.Calls.{Asks}
use Rattle.hr_adapter.specs.Reg.{IsSound, Reg}
use Rattle.hr_adapter.specs.declared.fault.RegFault.{RegFault}
use Rattle.hr_adapter.proofs.CallLaws.{Asks-quiet, Moved-found}
use Rattle.hr_blob.specs.Copies.{Ends, opening}
use Rattle.hr_blob.specs.declared.outcome.NotCopied.{NotCopied}
use Rattle.hr_blob.specs.declared.outcome.NotCopied.TheVariants as copy
use Rattle.hr_line.specs.Line.{LineEnd, RootDecided, RootLooked, decide}
use Rattle.hr_line.specs.State.{AreSound, Link, link_at, with_link}
use Rattle.hr_line.specs.Step.{Line, StoreLine, WalkLine, WorkLine}
use Rattle.hr_line.specs.declared.held.Admitted.{Admitted}
use Rattle.hr_line.specs.declared.held.Work.{Work}

-- a connection that can't fail has not failed, and can't
abbrev pub StaysSure : Reg → Reg → Type 0
StaysSure p q = IsTrue p.sure → IsTrue q.sure × (q.faults ≡ p.faults)

-- a quiet connection tells what it told
pub record StaysStill (f g : Reg) : Type 0 where
  pub quiet : IsTrue f.quiet → IsTrue g.quiet × (g.told ≡ f.told)
  pub sure : StaysSure f g

same_sure : (p q : Reg) → q ≡ p → StaysSure p q
same_sure p q same sure = subst (λ (x : Reg). IsTrue x.sure × (x.faults ≡ p.faults)) (sym same) (sure, refl)

pub sure_itself : (p : Reg) → StaysSure p p
sure_itself p sure = (sure, refl)

pub sure_then : (p m q : Reg) → StaysSure p m → StaysSure m q → StaysSure p q
sure_then p m q first next sure =
    let one = first sure in
    let two = next one.0 in (two.0, two.1 ∙ one.1)

pub still_itself : (f : Reg) → StaysStill f f
still_itself f = record { quiet = λ quiet. (quiet, refl); sure = sure_itself f }

same_still : (f g : Reg) → g ≡ f → StaysStill f g
same_still f g same = subst (λ (x : Reg). StaysStill f x) (sym same) (still_itself f)

pub still_then : (f m g : Reg) → StaysStill f m → StaysStill m g → StaysStill f g
still_then f m g first next = record {
  quiet = λ quiet.
      let one = first.quiet quiet in
      let two = next.quiet one.0 in (two.0, two.1 ∙ one.1);
  sure = sure_then f m g first.sure next.sure;
}

asked_still : {T : Type 0} (f g : Reg) (result : Result T RegFault) → IsSound f → Asks f g result → StaysStill f g
asked_still f g result sound asks = record {
  quiet = λ quiet. (asks.left.quiet quiet, Asks-quiet f g result sound asks quiet);
  sure = asks.left.sure;
}

-- ---- the destination of a copy

copied_sure : (from to : RepoName) (d : Digest) (said : ℕ) (f g p q : Reg) (copied : Result ℕ NotCopied)
    → Ends from to d said f g p q copied → StaysSure p q
copied_sure from to d said f g p q (Ok len) ends = ends.ended.went.sure
copied_sure from to d said f g p q (Err copy.Gone) ends = same_sure p q ends.0
copied_sure from to d said f g p q (Err (copy.Unopened x)) ends = same_sure p q ends.0
copied_sure from to d said f g p q (Err (copy.Unbegun x)) ends = ends.0.went.sure
copied_sure from to d said f g p q (Err (copy.Unread x)) ends = ends.0.went.sure
copied_sure from to d said f g p q (Err (copy.Unwritten x)) ends = ends.0.went.sure
copied_sure from to d said f g p q (Err (copy.TooLong len)) ends = ends.0.went.sure
copied_sure from to d said f g p q (Err (copy.Differs got)) ends = ends.0.went.sure
copied_sure from to d said f g p q (Err (copy.SizeDiffers got)) ends = ends.0.went.sure
copied_sure from to d said f g p q (Err (copy.Unsure len x)) ends = ends.0.ended.went.sure

-- ---- each line

module _ (a : Admitted) (tag : TagName) (f g p q : Reg) (log after : List Entry) (end : LineEnd) where
  walk_still : (w : Work) (x : Need) → IsSound f → WalkLine x a tag w f g p q log after end → StaysStill f g
  walk_still w (need.Manifest d) sound line = asked_still f g line.1.fetched sound line.1.asks.asks
  walk_still w (need.HasBlob d) sound line = same_still f g line.0
  walk_still w (need.CopyBlob d) sound line = record {
    quiet = λ quiet.
        (line.copies.source.went.quiet quiet, (Moved-found f g (opening line.copied) sound line.copies.source.found).quiet quiet);
    sure = line.copies.source.went.sure;
  }
  walk_still w (need.PutManifest d) sound line = same_still f g line.0
  walk_still w need.Done sound line = absurd line

  work_still : (w : Work) (looked : Bool) → IsSound f → WorkLine looked a tag w f g p q log after end → StaysStill f g
  work_still w true sound line = walk_still w w.walk.need sound line
  work_still w false sound line = same_still f g line.0

  -- a line leaves its source still
  pub line_still : (work : Option Work) → IsSound f → Line a tag work f g p q log after end → StaysStill f g
  line_still None sound line = asked_still f g line.1.fetched sound line.1.asks.asks
  line_still (Some w) sound line = work_still w w.looked sound line

  decided_sure : (w : Work) (found : Option Digest) (mid : Reg) (how : Option How)
      → RootDecided a tag w found mid q log after end how → StaysSure mid q
  decided_sure w found mid None puts = puts.puts.left.sure
  decided_sure w found mid (Some how) ends = same_sure mid q ends.0

  looked_sure : (w : Work) (mid : Reg) (found : Result (Option Digest) RegFault)
      → RootLooked a tag w p mid q log after end found → StaysSure mid q
  looked_sure w mid (Ok found) finds = decided_sure w found mid (decide found w.walk.root a.spec.override_it) finds
  looked_sure w mid (Err fault) ends = same_sure mid q ends.0

  store_sure : (w : Work) (d : Digest) (root : Bool) → StoreLine root a tag w d p q log after end → StaysSure p q
  store_sure w d true line = sure_then p line.mid q line.asks.asks.left.sure (looked_sure w line.mid line.found line.finds)
  store_sure w d false line = line.puts.left.sure

  walk_sure : (w : Work) (x : Need) → WalkLine x a tag w f g p q log after end → StaysSure p q
  walk_sure w (need.Manifest d) line = same_sure p q line.0
  walk_sure w (need.HasBlob d) line = line.1.asks.asks.left.sure
  walk_sure w (need.CopyBlob d) line = copied_sure a.spec.from a.spec.to d line.said f g p q line.copied line.copies.ends
  walk_sure w (need.PutManifest d) line = store_sure w d (digest_eq d w.walk.root) line.1
  walk_sure w need.Done line = absurd line

  work_sure : (w : Work) (looked : Bool) → WorkLine looked a tag w f g p q log after end → StaysSure p q
  work_sure w true line = walk_sure w w.walk.need line
  work_sure w false line = line.1.asks.asks.left.sure

  -- and its destination sure
  pub line_sure : (work : Option Work) → Line a tag work f g p q log after end → StaysSure p q
  line_sure None line = same_sure p q line.0
  line_sure (Some w) line = work_sure w w.looked line

-- ---- connections

pub number_cases : (m n : ℕ) → (m ≡ n) ⊎ (m ≢ n)
number_cases m n = by (nat_eq m n) refl
  where
    by : (same : Bool) → nat_eq m n ≡ same → (m ≡ n) ⊎ (m ≢ n)
    by true is = inl (eqb-true m n is)
    by false is = inr (eqb-false m n is)

registry_same : (r q : RegNo) → r.0 ≡ q.0 → r ≡ q
registry_same r q e = let made : ℕ → RegNo = λ n. record { 0 = n } in ap made e

equal_false : (m n : ℕ) → m ≢ n → nat_eq m n ≡ false
equal_false m n apart = by (nat_eq m n) refl
  where
    by : (same : Bool) → nat_eq m n ≡ same → nat_eq m n ≡ false
    by true is = absurd (apart (eqb-true m n is))
    by false is = is

if_true : {X : Type 0} (b : Bool) (x y : X) → b ≡ true → (if b then x else y) ≡ x
if_true true x y is = refl
if_true false x y is = cc

if_false : {X : Type 0} (b : Bool) (x y : X) → b ≡ false → (if b then x else y) ≡ y
if_false true x y is = cc
if_false false x y is = refl

-- the connection to a registry is sound where all are
link_is_sound : (links : List Link) (r : RegNo) → AreSound links → IfSome (link_at links r) IsSound
link_is_sound [] r sound = tt
link_is_sound (l ∷ more) r sound = by (link_is_sound more r sound.1) (nat_eq l.reg.0 r.0)
  where
    by : IfSome (link_at more r) IsSound → (same : Bool) → IfSome (if same then Some l.seen else link_at more r) IsSound
    by rest true = sound.0
    by rest false = rest

pub link_sound : (links : List Link) (r : RegNo) (f : Reg) → AreSound links → link_at links r ≡ Some f → IsSound f
link_sound links r f sound there = subst (λ (o : Option Reg). IfSome o IsSound) there (link_is_sound links r sound)

abbrev moved : Reg → Bool → Link → Link
moved seen here l = if here then record l { seen = seen } else l

link_same : (links : List Link) (r : RegNo) (seen p : Reg) → link_at links r ≡ Some p → link_at (with_link links r seen) r ≡ Some seen
link_same [] r seen p known = cc
link_same (l ∷ more) r seen p known =
    by (λ is. link_same more r seen p (sym (if_false (nat_eq l.reg.0 r.0) (Some l.seen) (link_at more r) is) ∙ known))
    (nat_eq l.reg.0 r.0) refl
  where
    by : (nat_eq l.reg.0 r.0 ≡ false → link_at (with_link more r seen) r ≡ Some seen) → (b : Bool) → nat_eq l.reg.0 r.0 ≡ b
        → (if nat_eq (moved seen b l).reg.0 r.0 then Some (moved seen b l).seen else link_at (with_link more r seen) r) ≡ Some seen
    by rest true is = if_true (nat_eq l.reg.0 r.0) (Some seen) (link_at (with_link more r seen) r) is
    by rest false is = if_false (nat_eq l.reg.0 r.0) (Some l.seen) (link_at (with_link more r seen) r) is ∙ rest is

link_other : (links : List Link) (r q : RegNo) (seen : Reg) → q.0 ≢ r.0 → link_at (with_link links r seen) q ≡ link_at links q
link_other [] r q seen apart = refl
link_other (l ∷ more) r q seen apart = by (link_other more r q seen apart) (nat_eq l.reg.0 r.0) refl
  where
    by : link_at (with_link more r seen) q ≡ link_at more q → (b : Bool) → nat_eq l.reg.0 r.0 ≡ b
        → (if nat_eq (moved seen b l).reg.0 q.0 then Some (moved seen b l).seen else link_at (with_link more r seen) q)
        ≡ (if nat_eq l.reg.0 q.0 then Some l.seen else link_at more q)
    by rest true is =
        let here : l.reg.0 ≡ r.0 = eqb-true l.reg.0 r.0 is in
        let other : nat_eq l.reg.0 q.0 ≡ false = equal_false l.reg.0 q.0 (λ e. apart (sym e ∙ here)) in
        if_false (nat_eq l.reg.0 q.0) (Some seen) (link_at (with_link more r seen) q) other
        ∙ rest
        ∙ sym (if_false (nat_eq l.reg.0 q.0) (Some l.seen) (link_at more q) other)
    by rest false is =
        ap (λ (x : Option Reg). if nat_eq l.reg.0 q.0 then Some l.seen else x) rest

-- each connection is there later on, and R holds between the two
abbrev pub GoOn : (Reg → Reg → Type 0) → List Link → List Link → Type 0
GoOn R links after = (r : RegNo) (f : Reg) → link_at links r ≡ Some f → (g : Reg) × (link_at after r ≡ Some g) × R f g

pub go_same : (R : Reg → Reg → Type 0) → ((x : Reg) → R x x) → (links after : List Link) → after ≡ links → GoOn R links after
go_same R itself links after same r f there = (f, ap (λ (ls : List Link). link_at ls r) same ∙ there, itself f)

pub go_then : (R : Reg → Reg → Type 0) → ((x y z : Reg) → R x y → R y z → R x z) → (links mid after : List Link) → GoOn R links mid
    → GoOn R mid after → GoOn R links after
go_then R joined links mid after first next r f there =
    let one = first r f there in
    let two = next r one.0 one.1 in (two.0, two.1, joined f one.0 two.0 one.2 two.2)

pub go_line : (R : Reg → Reg → Type 0) → ((x : Reg) → R x x) → (links after : List Link) (r : RegNo) (f g : Reg) → link_at links r ≡ Some f
    → after ≡ with_link links r g → R f g → GoOn R links after
go_line R itself links after r f g here is later q x there = elim (number_cases q.0 r.0) [
  | inl same ↦
      let one : q ≡ r = registry_same q r same in
      let both : Some f ≡ Some x = sym here ∙ ap (link_at links) (sym one) ∙ there in
      let old : f ≡ x = cc in (
        g,
        ap (λ (ls : List Link). link_at ls q) is ∙ ap (link_at (with_link links r g)) one ∙ link_same links r g f here,
        subst (λ (y : Reg). R y g) old later,
      )
  | inr apart ↦ (x, ap (λ (ls : List Link). link_at ls q) is ∙ link_other links r q g apart ∙ there, itself x)
]
