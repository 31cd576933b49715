use Rattle.std.proofs.Common.{nat_eq, ◌∙◌, ap}
use Rattle.std.specs.Cmp.Lexicographic.{pointwise}
use Rattle.std.specs.Prelude.{codes}
use Rattle.hr_top.proofs.CommandLemmas.{one_word}
use Rattle.hr_top.proofs.command.is_replay.Goals as goal

pub returns-in-len1 : goal.returns-in-len1
returns-in-len1 c = one_word c.args.words.now c.word-item.result c.view.result.now (codes "replay") c.eq.result c.in-len1.len_at_least c.in-len1.len_below c.word-item.is c.view.ensures (c.eq.ensures ∙ ap (pointwise nat_eq c.view.result.now) c.as_slice.ensures)
