use Rattle.std.proofs.Common.{◌≡◌, ◌<◌, ◌≤◌, ◌+◌, length, arith}
use Rattle.std.proofs.lemmas.Grind.{common_steps}
use Rattle.hr_body.specs.Reading.{in_word}
use Rattle.hr_body.proofs.ReadingLemmas.{data_gave}
use Rattle.hr_body.proofs.piece.take_data.Goals as goal

pub returns-clause-ok : goal.returns-clause-ok
returns-clause-ok g c =
    let le : c.in_ok-count.count ≤ length c.read.new.buf = c.in_ok-count.ensures.ok.within in
    let some : 0 < c.in_ok-count.count = grind (arith, common_steps) in
    let few : c.in_ok-count.count ≤ c.most_data.result = grind (arith, common_steps) in
    let count : c.saturating_add.result ≡ in_word (c.args.at + c.in_ok-count.count) = grind (arith, common_steps) in
    data_gave _ _ c.args.stage _ c.args.at _ _ c.read.new.buf _ c.in_ok-count.ensures.ok.told le some (c.most_data.ensures.fits c.in_ok-count.count few) c.behind_data-next.ensures count
