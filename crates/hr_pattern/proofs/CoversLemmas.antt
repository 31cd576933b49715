-- The steps of a walk that remembers the newest star alone, and that they lose no covering.
use Rattle.std.proofs.Common.{◌≡◌, ℕ, ◌+◌, ◌≤◌, zero, suc, Bool, true, false, List, [], ◌∷◌, drop, length, ◌⊎◌, ◌↔◌, inl, inr, refl, sym, subst, arith, ◌*◌, ◌<◌, ap}
use Rattle.std.specs.Prelude.{MatchBool}
use Rattle.std.proofs.lemmas.List.{drop-drop, length-drop}
use Rattle.std.proofs.Math.Seq.{drop-nil}
use Rattle.hr_pattern.specs.Covers.{AfterRun, AfterOne, CoversInOrder}

-- the cases of a choice
at_true : (P Q : Type 0) (b : Bool) → b ≡ true → MatchBool b P Q → P
at_true P Q true e h = h
at_true P Q false e h = absurd (cc)

at_false : (P Q : Type 0) (b : Bool) → b ≡ false → MatchBool b P Q → Q
at_false P Q true e h = absurd (cc)
at_false P Q false e h = h

of_true : (P Q : Type 0) (b : Bool) → b ≡ true → P → MatchBool b P Q
of_true P Q true e h = h
of_true P Q false e h = absurd (cc)

of_false : (P Q : Type 0) (b : Bool) → b ≡ false → Q → MatchBool b P Q
of_false P Q true e h = absurd (cc)
of_false P Q false e h = h

behind_next : {T : Type 0} (n : ℕ) (xs : List T) → drop n (drop 1 xs) ≡ drop (suc n) xs
behind_next n [] = drop-nil n
behind_next n (x ∷ xs) = refl

next_behind : {T : Type 0} (n : ℕ) (xs : List T) → drop 1 (drop n xs) ≡ drop (suc n) xs
next_behind zero xs = refl
next_behind (suc n) [] = refl
next_behind (suc n) (x ∷ xs) = next_behind n xs

-- the signs cover what stands behind the first thing or later
-- the signs cover some end of the things but the whole
abbrev pub Later : {S T : Type 0} → (S → Bool) → (S → T → Type 0) → List S → List T → Type 0
Later is_star Meets signs things = (n : ℕ) × CoversInOrder is_star Meets signs (drop (suc n) things)

-- Whether the signs cover some end of the things, asked by a walk: its newest star stood before
-- `behind`, which it tries at the front of `tried`, and there `asked` and `left` remain.
pub record Walk {S T : Type 0} (is_star : S → Bool) (Meets : S → T → Type 0) (signs : List S) (things : List T) (behind : List S) (tried : List T) (asked : List S) (left : List T) : Type 0 where
  pub found : AfterRun (CoversInOrder is_star Meets signs) things → CoversInOrder is_star Meets asked left ⊎ Later is_star Meets behind tried
  pub sound : CoversInOrder is_star Meets asked left ⊎ Later is_star Meets behind tried → AfterRun (CoversInOrder is_star Meets signs) things
  pub newest : (n : ℕ) → CoversInOrder is_star Meets behind (drop n tried) → CoversInOrder is_star Meets asked (drop n left)
  pub shorter : length left ≤ length tried
  pub part : length asked ≤ length signs
  pub part_behind : length behind ≤ length signs

here_or_later : {S T : Type 0} (is_star : S → Bool) (Meets : S → T → Type 0) (signs : List S) (things : List T) (n : ℕ) → CoversInOrder is_star Meets signs (drop n things) → CoversInOrder is_star Meets signs things ⊎ Later is_star Meets signs things
here_or_later is_star Meets signs things zero h = inl h
here_or_later is_star Meets signs things (suc n) h = inr (n, h)

from_here_or_later : {S T : Type 0} (is_star : S → Bool) (Meets : S → T → Type 0) (signs : List S) (things : List T) → CoversInOrder is_star Meets signs things ⊎ Later is_star Meets signs things → AfterRun (CoversInOrder is_star Meets signs) things
from_here_or_later is_star Meets signs things = elim [ inl h ↦ (zero, h) | inr h ↦ (suc h.0, h.1) ]

-- a walk begins with all of both
pub walk_begins : {S T : Type 0} (is_star : S → Bool) (Meets : S → T → Type 0) (signs : List S) (things : List T) → Walk is_star Meets signs things signs things signs things
walk_begins is_star Meets signs things = record {
  found = λ h. here_or_later is_star Meets signs things h.0 h.1;
  sound = from_here_or_later is_star Meets signs things;
  newest = λ n h. h;
  shorter = omega arith;
  part = omega arith;
  part_behind = omega arith;
}

-- what a newer star covers, an older one need not try
only_newest : {S T : Type 0} (is_star : S → Bool) (Meets : S → T → Type 0) (behind : List S) (tried : List T) (s : S) (ss : List S) (left : List T) → is_star s ≡ true → ((n : ℕ) → CoversInOrder is_star Meets behind (drop n tried) → CoversInOrder is_star Meets (s ∷ ss) (drop n left)) → CoversInOrder is_star Meets (s ∷ ss) left ⊎ Later is_star Meets behind tried → AfterRun (CoversInOrder is_star Meets ss) left
only_newest is_star Meets behind tried s ss left e newest =
    elim [
      | inl h ↦ at_true (AfterRun (CoversInOrder is_star Meets ss) left) (AfterOne (Meets s) (CoversInOrder is_star Meets ss) left) (is_star s) e h
      | inr h ↦
          let run : AfterRun (CoversInOrder is_star Meets ss) (drop (suc h.0) left) = at_true (AfterRun (CoversInOrder is_star Meets ss) (drop (suc h.0) left)) (AfterOne (Meets s) (CoversInOrder is_star Meets ss) (drop (suc h.0) left)) (is_star s) e (newest (suc h.0) h.1)
          in (suc h.0 + run.0, subst (CoversInOrder is_star Meets ss) (drop-drop run.0 (suc h.0) left) run.1)
    ]

at_star : {S T : Type 0} (is_star : S → Bool) (Meets : S → T → Type 0) (signs : List S) (things : List T) (behind : List S) (tried : List T) (s : S) (ss : List S) (left : List T) → is_star s ≡ true → Walk is_star Meets signs things behind tried (s ∷ ss) left → Walk is_star Meets signs things ss left ss left
at_star is_star Meets signs things behind tried s ss left e walk =
    let part : suc (length ss) ≤ length signs = walk.part in
    record {
      found = λ h. let run : AfterRun (CoversInOrder is_star Meets ss) left = only_newest is_star Meets behind tried s ss left e walk.newest (walk.found h) in here_or_later is_star Meets ss left run.0 run.1;
      sound = λ h. walk.sound (inl (of_true (AfterRun (CoversInOrder is_star Meets ss) left) (AfterOne (Meets s) (CoversInOrder is_star Meets ss) left) (is_star s) e (from_here_or_later is_star Meets ss left h)));
      newest = λ n h. h;
      shorter = omega arith;
      part = omega arith;
      part_behind = omega arith;
    }

-- a star: the walk goes on behind it, and forgets the one before
pub walk_star : {S T : Type 0} (is_star : S → Bool) (Meets : S → T → Type 0) (signs : List S) (things : List T) (behind : List S) (tried : List T) (asked : List S) (left : List T) (s : S) (ss : List S) → asked ≡ s ∷ ss → is_star s ≡ true → Walk is_star Meets signs things behind tried asked left → Walk is_star Meets signs things ss left ss left
walk_star is_star Meets signs things behind tried asked left s ss is e walk =
    at_star is_star Meets signs things behind tried s ss left e (subst (λ (a : List _). Walk is_star Meets signs things behind tried a left) is walk)

-- what no star covers, it covers by one thing
by_one : {S T : Type 0} (is_star : S → Bool) (Meets : S → T → Type 0) (s : S) (ss : List S) (ts : List T) → is_star s ≡ false → CoversInOrder is_star Meets (s ∷ ss) ts → AfterOne (Meets s) (CoversInOrder is_star Meets ss) ts
by_one is_star Meets s ss ts e h = at_false (AfterRun (CoversInOrder is_star Meets ss) ts) (AfterOne (Meets s) (CoversInOrder is_star Meets ss) ts) (is_star s) e h

rest_after_one : {T : Type 0} (Meets : T → Type 0) (Left : List T → Type 0) (ts : List T) → AfterOne Meets Left ts → Left (drop 1 ts)
rest_after_one Meets Left [] h = absurd h
rest_after_one Meets Left (t ∷ ts) h = h.1

at_one : {S T : Type 0} (is_star : S → Bool) (Meets : S → T → Type 0) (signs : List S) (things : List T) (behind : List S) (tried : List T) (s : S) (ss : List S) (t : T) (ts : List T) → is_star s ≡ false → Meets s t → Walk is_star Meets signs things behind tried (s ∷ ss) (t ∷ ts) → Walk is_star Meets signs things behind tried ss ts
at_one is_star Meets signs things behind tried s ss t ts e meets walk =
    let part : suc (length ss) ≤ length signs = walk.part in
    let shorter : suc (length ts) ≤ length tried = walk.shorter in
    let Rest : List _ → Type 0 = CoversInOrder is_star Meets ss in
    record {
      found = λ h. elim (walk.found h) [ inl g ↦ inl (by_one is_star Meets s ss (t ∷ ts) e g).1 | inr g ↦ inr g ];
      sound = λ h. walk.sound (elim h [ inl g ↦ inl (of_false (AfterRun Rest (t ∷ ts)) (AfterOne (Meets s) Rest (t ∷ ts)) (is_star s) e (meets, g)) | inr g ↦ inr g ]);
      newest = λ n h. subst Rest (next_behind n (t ∷ ts)) (rest_after_one (Meets s) Rest (drop n (t ∷ ts)) (by_one is_star Meets s ss (drop n (t ∷ ts)) e (walk.newest n h)));
      shorter = omega arith;
      part = omega arith;
      part_behind = walk.part_behind;
    }

-- a sign that meets the next thing: the walk goes on behind both
pub walk_one : {S T : Type 0} (is_star : S → Bool) (Meets : S → T → Type 0) (signs : List S) (things : List T) (behind : List S) (tried : List T) (asked : List S) (left : List T) (s : S) (ss : List S) (t : T) (ts : List T) → asked ≡ s ∷ ss → left ≡ t ∷ ts → is_star s ≡ false → Meets s t → Walk is_star Meets signs things behind tried asked left → Walk is_star Meets signs things behind tried ss ts
walk_one is_star Meets signs things behind tried asked left s ss t ts is there e meets walk =
    at_one is_star Meets signs things behind tried s ss t ts e meets (subst (λ (b : List _). Walk is_star Meets signs things behind tried (s ∷ ss) b) there (subst (λ (a : List _). Walk is_star Meets signs things behind tried a left) is walk))

at_back : {S T : Type 0} (is_star : S → Bool) (Meets : S → T → Type 0) (signs : List S) (things : List T) (behind : List S) (tried : List T) (asked : List S) (left : List T) → (CoversInOrder is_star Meets asked left → ⊥) → Walk is_star Meets signs things behind tried asked left → Walk is_star Meets signs things behind (drop 1 tried) behind (drop 1 tried)
at_back is_star Meets signs things behind tried asked left not walk =
    record {
      found = λ h. elim (walk.found h) [ inl g ↦ absurd (not g) | inr g ↦ here_or_later is_star Meets behind (drop 1 tried) g.0 (subst (CoversInOrder is_star Meets behind) (sym (behind_next g.0 tried)) g.1) ];
      sound = λ h. let run : AfterRun (CoversInOrder is_star Meets behind) (drop 1 tried) = from_here_or_later is_star Meets behind (drop 1 tried) h in walk.sound (inr (run.0, subst (CoversInOrder is_star Meets behind) (behind_next run.0 tried) run.1));
      newest = λ n h. h;
      shorter = omega arith;
      part = walk.part_behind;
      part_behind = walk.part_behind;
    }

-- where the signs do not cover what is left, the walk tries one thing later
pub walk_back : {S T : Type 0} (is_star : S → Bool) (Meets : S → T → Type 0) (signs : List S) (things : List T) (behind : List S) (tried : List T) (asked : List S) (left later : List T) → later ≡ drop 1 tried → (CoversInOrder is_star Meets asked left → ⊥) → Walk is_star Meets signs things behind tried asked left → Walk is_star Meets signs things behind later behind later
walk_back is_star Meets signs things behind tried asked left later is not walk =
    subst (λ (b : List _). Walk is_star Meets signs things behind b behind b) (sym is) (at_back is_star Meets signs things behind tried asked left not walk)

-- the two ways in which the walk does not go on
pub no_signs : {S T : Type 0} (is_star : S → Bool) (Meets : S → T → Type 0) (asked : List S) (left : List T) (t : T) (ts : List T) → asked ≡ [] → left ≡ t ∷ ts → CoversInOrder is_star Meets asked left → ⊥
no_signs is_star Meets asked left t ts none there h =
    let empty : left ≡ [] = subst (λ (a : List _). CoversInOrder is_star Meets a left) none h in cc

pub not_met : {S T : Type 0} (is_star : S → Bool) (Meets : S → T → Type 0) (asked : List S) (left : List T) (s : S) (ss : List S) (t : T) (ts : List T) → asked ≡ s ∷ ss → left ≡ t ∷ ts → is_star s ≡ false → (Meets s t → ⊥) → CoversInOrder is_star Meets asked left → ⊥
not_met is_star Meets asked left s ss t ts is there e not h =
    let first : CoversInOrder is_star Meets (s ∷ ss) left = subst (λ (a : List _). CoversInOrder is_star Meets a left) is h in
    let both : CoversInOrder is_star Meets (s ∷ ss) (t ∷ ts) = subst (CoversInOrder is_star Meets (s ∷ ss)) there first in
    not (by_one is_star Meets s ss (t ∷ ts) e both).0

-- where nothing is left, the answer is whether the signs cover nothing
pub walk_ends : {S T : Type 0} (is_star : S → Bool) (Meets : S → T → Type 0) (signs : List S) (things : List T) (behind : List S) (tried : List T) (asked : List S) (left : List T) → left ≡ [] → Walk is_star Meets signs things behind tried asked left → CoversInOrder is_star Meets asked [] ↔ AfterRun (CoversInOrder is_star Meets signs) things
walk_ends is_star Meets signs things behind tried asked left none walk =
    let end : Walk is_star Meets signs things behind tried asked [] = subst (Walk is_star Meets signs things behind tried asked) none walk in (
      λ h. end.sound (inl h),
      λ h. elim (end.found h) [ inl g ↦ g | inr g ↦ subst (CoversInOrder is_star Meets asked) (drop-nil (suc g.0)) (end.newest (suc g.0) g.1) ],
    )

-- going back one thing later, the measure of the walk falls
falls : (tried most asked behind : ℕ) → behind ≤ most → tried * (most + 1) + behind < (tried + 1) * (most + 1) + asked
falls tried most asked behind h = omega arith

pub walk_falls : {S T : Type 0} (is_star : S → Bool) (Meets : S → T → Type 0) (signs : List S) (things : List T) (behind : List S) (tried : List T) (asked : List S) (left : List T) (t : T) (ts later : List T) (again : List S) → left ≡ t ∷ ts → later ≡ drop 1 tried → again ≡ behind → Walk is_star Meets signs things behind tried asked left → length later * (length signs + 1) + length again < length tried * (length signs + 1) + length asked
walk_falls is_star Meets signs things behind tried asked left t ts later again there is same walk =
    let one : length tried ≡ length later + 1 = omega (arith, ap length there, ap length is, length-drop 1 tried, walk.shorter) in
    let part : length again ≤ length signs = omega (arith, ap length same, walk.part_behind) in
    rw one (falls (length later) (length signs) (length asked) (length again) part)
