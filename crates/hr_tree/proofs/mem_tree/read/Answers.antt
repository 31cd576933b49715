use Rattle.std.proofs.Common.{◌≡◌, length, Some, sym, ap, ◌∙◌}
use Rattle.std.specs.Option.{option_copied, option_map}
use Rattle.hr_base.specs.Bytes.{ByteList}
use Rattle.hr_tree.specs.Tree.{file_at}
use Rattle.hr_tree.proofs.FileLemmas.{found_at}
use Rattle.hr_tree.proofs.mem_tree.read.Goals as goal

pub returns-in_default-clause-answer : goal.returns-in_default-clause-answer
returns-in_default-clause-answer c =
    sym (ap option_copied c.in_default.is) ∙ found_at c.args.files.now.entries c.args.path.now _ _ c.get.ensures.value c.in_ok-path.ensures

pub returns-then-len-limit-clause-answer : goal.returns-then-len-limit-clause-answer
returns-then-len-limit-clause-answer c =
    let found : Some c.in-Some.bytes.now ≡ file_at c.args.files.now.entries c.args.path.now
    = sym (ap option_copied c.in-Some.is) ∙ found_at c.args.files.now.entries c.args.path.now _ _ c.get.ensures.value c.in_ok-path.ensures in
    (ap (option_map length) (sym found) ∙ ap (λ (b : ByteList). Some (length b)) (sym c.view.ensures), c.if-len-limit.true)

pub returns-clause-answer : goal.returns-clause-answer
returns-clause-answer c =
    ap Some c.in_ok-copy.ensures
    ∙ sym (ap option_copied c.in-Some.is) ∙ found_at c.args.files.now.entries c.args.path.now _ _ c.get.ensures.value c.in_ok-path.ensures
