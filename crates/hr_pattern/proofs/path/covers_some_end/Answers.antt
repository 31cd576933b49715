use Rattle.std.proofs.Common.{◌≡◌, true, false}
use Rattle.hr_pattern.specs.Item.{CoversPath, is_any_path, CoversBytes}
use Rattle.hr_pattern.proofs.CoversLemmas.{walk_begins, walk_star, walk_one, walk_back, walk_ends, walk_falls, no_signs, not_met}
use Rattle.hr_pattern.proofs.path.covers_some_end.Goals as goal
use Rattle.hr_pattern.proofs.path.covers_some_end.Goals.{in-Some-split_first+else-is_any_path+else-covers_bytes, in_default-split_first}

pub loop-component-init : goal.loop-component-init
loop-component-init c =
    let begins = walk_begins is_any_path CoversBytes c.args.form.now c.args.text.now in
    rw (c.again-behind_star.ensures, c.again-tried.ensures, c.again-asked.ensures, c.again-left.ensures) begins

pub loop-component-preserved-then-is_any_path : goal.loop-component-preserved-then-is_any_path
loop-component-preserved-then-is_any_path c =
    let star : is_any_path c.in-Some-split_first.items.now ≡ true = cc in
    rw (c.again-behind_star-then-is_any_path.ensures, c.again-tried-then-is_any_path.ensures) (walk_star is_any_path CoversBytes _ _ _ _ _ _ _ _ c.in-Some-split_first.ensures.0 star c.loop-component.invariant)

pub loop-component-preserved-then-covers_bytes : goal.loop-component-preserved-then-covers_bytes
loop-component-preserved-then-covers_bytes c =
    let no_star : is_any_path c.in-Some-split_first.items.now ≡ false = cc in
    walk_one is_any_path CoversBytes _ _ _ _ _ _ _ _ _ _ c.in-Some-split_first.ensures.0 c.in-Some.ensures.0 no_star (c.covers_bytes.ensures.0 c.if-covers_bytes.true) c.loop-component.invariant

pub loop-component-smaller : goal.loop-component-smaller
loop-component-smaller c = walk_falls is_any_path CoversBytes _ _ _ _ _ _ _ _ _ _ c.in-Some.ensures.0 c.behind_first-tried.ensures c.again-asked-in-Some.ensures c.loop-component.invariant

pub loop-component-preserved : goal.loop-component-preserved
loop-component-preserved c =
    let not : CoversPath c.loop-component.asked c.loop-component.left → ⊥ =
    elim c.match-split_first-2.branch [
      | in-Some-split_first+else-is_any_path+else-covers_bytes w ↦
          let no_star : is_any_path w.in-Some-split_first.items.now ≡ false = cc in
          not_met is_any_path CoversBytes _ _ _ _ _ _ w.in-Some-split_first.ensures.0 c.in-Some.ensures.0 no_star (λ covers. let yes : w.covers_bytes.result ≡ true = w.covers_bytes.ensures.1 covers in cc)
      | in_default-split_first w ↦ no_signs is_any_path CoversBytes _ _ _ _ w.in_default-split_first.ensures c.in-Some.ensures.0
    ]
    in
    rw (c.again-asked-in-Some.ensures, c.again-left-in-Some.ensures) (walk_back is_any_path CoversBytes _ _ _ _ _ _ _ c.behind_first-tried.ensures not c.loop-component.invariant)

pub returns : goal.returns
returns c =
    let ends = walk_ends is_any_path CoversBytes c.args.form.now c.args.text.now _ _ _ _ c.in_default.ensures c.loop-component.invariant in
    (λ yes. ends.0 (c.covers_nothing.ensures.0 yes), λ run. c.covers_nothing.ensures.1 (ends.1 run))
