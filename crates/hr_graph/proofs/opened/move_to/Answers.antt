use Rattle.std.proofs.Common.{◌≡◌, ◌<◌, ◌-◌, ◌∷◌, ℕ, List, reverse, take, arith, sym, ◌∙◌, ap, length, get_or}
use Rattle.std.proofs.Math.ListN.{set}
use Rattle.hr_graph.specs.Meeting.{moved_to}
use Rattle.hr_graph.specs.declared.opened.Opened.{Opened}
use Rattle.hr_graph.proofs.ListLemmas.{reverse_last, reverse_set_last}
use Rattle.hr_graph.proofs.opened.move_to.Goals as goal

moved : (xs : List Opened) (n at : ℕ) (o : Opened) → n ≡ length xs → 0 < n
    → o ≡ get_or xs (n - 1) o
    → reverse (set xs (n - 1) (record o { next = at })) ≡ moved_to at (reverse xs)
moved xs n at o is some last =
    let e : reverse xs ≡ o ∷ reverse (take (length xs - 1) xs) =
    reverse_last xs o (omega (arith, is, some)) (rw (← is) (sym last)) in
    rw is (reverse_set_last xs (record o { next = at }) (omega (arith, is, some)) ∙ sym (ap (moved_to at) e))

pub returns-then-len-gt0 : goal.returns-then-len-gt0
returns-then-len-gt0 c =
    moved c.args.opened.now.items c.len-len.result c.args.at c.index_mut-newest.result.now (omega (arith, c.args.opened.now.ok)) c.if-len-gt0.true c.index_mut-newest.ensures.value
