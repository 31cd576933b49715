use Rattle.std.proofs.Common.{◌≡◌, ◌∷◌, ℕ, [], None, Err, ap, ◌∙◌, arith, rules}
use Rattle.std.proofs.lemmas.Grind.{common_steps}
use Rattle.std.specs.Vec.Iter.{into_iter_items}
use Rattle.hr_script.specs.declared.reading.Numbered.{Numbered}
use Rattle.hr_opening.specs.Opening.{after_line}
use Rattle.hr_opening.proofs.TakenLemmas.{all_taken, none_taken, one_fits, one_lacks, one_taken}
use Rattle.hr_opening.proofs.opening.take_lines.Goals as goal

pub loop-number-init : goal.loop-number-init
loop-number-init c =
    let all : into_iter_items c.into_iter-number-iterator.result ≡ c.args.lines = search rules in
    record {
      eight = c.requires.eight;
      taken = none_taken c.args.setups.now c.args.lines (into_iter_items c.into_iter-number-iterator.result) c.new-events.result all c.new-events.ensures c.requires.fit c.requires.plain;
    }

pub take_line-requires : goal.take_line-requires
take_line-requires c =
    let one : Numbered = c.in-Some.field-0 in
    let is : into_iter_items c.loop-number.number-iterator ≡ one ∷ into_iter_items c.next.new.self = search rules in
    record {
      fit = one_fits c.args.setups.now c.args.lines c.loop-number.setups c.loop-number.events (into_iter_items c.loop-number.number-iterator) (into_iter_items c.next.new.self) one c.loop-number.invariant.taken is;
      eight = c.loop-number.invariant.eight;
      plain = c.loop-number.invariant.taken.plain;
    }

pub loop-number-preserved : goal.loop-number-preserved
loop-number-preserved c =
    let one : Numbered = c.in-Some.field-0 in
    let is : into_iter_items c.loop-number.number-iterator ≡ one ∷ into_iter_items c.next.new.self = search rules in
    record {
      eight = omega (arith, c.take_line.auto.setups, c.loop-number.invariant.eight);
      taken = one_taken c.args.setups.now c.args.lines c.loop-number.setups c.take_line.new.setups c.loop-number.events c.take_line.new.events (into_iter_items c.loop-number.number-iterator) (into_iter_items c.next.new.self) one
          c.loop-number.invariant.taken is c.in-Ok.ensures.ok c.in-Ok.ensures.event;
    }

pub returns-in-Err-Reference : goal.returns-in-Err-Reference
returns-in-Err-Reference c =
    let one : Numbered = c.in-Some.field-0 in
    let is : into_iter_items c.loop-number.number-iterator ≡ one ∷ into_iter_items c.next.new.self = search rules in
    let lacks : after_line c.loop-number.setups c.in-Some.field-0.line ≡ None = search rules in
    record {
      setups = tt;
      events = tt;
      reference = λ number e.
          let same : c.in-Some.field-0.number ≡ number = cc e in
          one_lacks c.args.setups.now c.args.lines c.loop-number.setups c.loop-number.events (into_iter_items c.loop-number.number-iterator) (into_iter_items c.next.new.self) one c.loop-number.invariant.taken is lacks
          ∙ ap (λ (n : ℕ). Err n) same;
    }

pub returns : goal.returns
returns c =
    let none : into_iter_items c.loop-number.number-iterator ≡ [] = grind (arith, common_steps) in
    let done = all_taken c.args.setups.now c.args.lines c.loop-number.setups c.loop-number.events (into_iter_items c.loop-number.number-iterator) c.loop-number.invariant.taken none in
    record {
      setups = done.0;
      events = done.1;
      reference = λ number e. cc e;
    }
