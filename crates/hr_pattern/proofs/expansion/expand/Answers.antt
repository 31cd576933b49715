use Rattle.std.proofs.Common.{◌++◌, List, ap, arith, length}
use Rattle.hr_pattern.specs.declared.item.Item.{Item}
use Rattle.hr_pattern.specs.Choice.{form_at}
use Rattle.hr_pattern.specs.Form.{reading_of}
use Rattle.hr_pattern.proofs.FaultLemmas.{sound_short, sound_reading}
use Rattle.hr_pattern.proofs.expansion.expand.Goals as goal

pub loop-at-init : goal.loop-at-init
loop-at-init c = record {
  within = omega arith;
  room = omega (arith, ap length c.requires.empty);
  sound = sound_reading c.args.text.now c.requires.sound;
  so_far = ap (λ (front : List Item). front ++ form_at c.args.number (reading_of c.args.text.now).parts) c.requires.empty;
}

pub push_choice-at-requires-clause-short : goal.push_choice-at-requires-clause-short
push_choice-at-requires-clause-short c = sound_short c.args.text.now c.requires.sound
