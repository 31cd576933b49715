use Rattle.std.proofs.Common.{◌≡◌, true, false}
use Rattle.std.proofs.lemmas.List.{take_rest, nil_from_length}
use Rattle.hr_pattern.specs.Item.{CoversBytes, is_any, MeetsByte}
use Rattle.hr_pattern.proofs.CoversLemmas.{walk_begins, walk_star, walk_one, walk_back, walk_ends, no_signs, not_met}
use Rattle.hr_pattern.proofs.covering.covers_some_end.Goals as goal
use Rattle.hr_pattern.proofs.covering.covers_some_end.Goals.{in-Some-split_first+else-is_any+else-meets, in_default-split_first}

pub loop-byte-init : goal.loop-byte-init
loop-byte-init c = walk_begins is_any MeetsByte c.args.items.now c.args.bytes.now

pub loop-byte-preserved-then-is_any : goal.loop-byte-preserved-then-is_any
loop-byte-preserved-then-is_any c =
    let star : is_any c.in-Some-split_first.item.now ≡ true = cc in
    walk_star is_any MeetsByte _ _ _ _ _ _ _ _ c.in-Some-split_first.ensures.cases.0 star c.loop-byte.invariant

pub loop-byte-preserved-then-meets : goal.loop-byte-preserved-then-meets
loop-byte-preserved-then-meets c =
    let no_star : is_any c.in-Some-split_first.item.now ≡ false = cc in
    walk_one is_any MeetsByte _ _ _ _ _ _ _ _ _ _ c.in-Some-split_first.ensures.cases.0 c.in-Some.ensures.cases.0 no_star (c.meets.ensures.0 c.if-meets.true) c.loop-byte.invariant

pub loop-byte-preserved : goal.loop-byte-preserved
loop-byte-preserved c =
    let not : CoversBytes c.loop-byte.asked.now c.loop-byte.left.now → ⊥ =
    elim c.match-split_first-2.branch [
      | in-Some-split_first+else-is_any+else-meets w ↦
          let no_star : is_any w.in-Some-split_first.item.now ≡ false = cc in
          not_met is_any MeetsByte _ _ _ _ _ _ w.in-Some-split_first.ensures.cases.0 c.in-Some.ensures.cases.0 no_star (λ met. let met' : w.meets.result ≡ true = w.meets.ensures.1 met in cc)
      | in_default-split_first w ↦
          no_signs is_any MeetsByte _ _ _ _ (nil_from_length _ w.in_default-split_first.ensures.cases) c.in-Some.ensures.cases.0
    ]
    in
    walk_back is_any MeetsByte _ _ _ _ _ _ _ (take_rest c.loop-byte.tried.now 1) not c.loop-byte.invariant

pub returns : goal.returns
returns c =
    let ends = walk_ends is_any MeetsByte c.args.items.now c.args.bytes.now _ _ _ _ (nil_from_length c.loop-byte.left.now c.in_default.ensures.cases) c.loop-byte.invariant in
    (λ yes. ends.0 (c.covers_nothing.ensures.0 yes), λ run. c.covers_nothing.ensures.1 (ends.1 run))
