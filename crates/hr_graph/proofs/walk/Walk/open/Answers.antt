use Rattle.std.proofs.Common.{◌∙◌, ap, sym, reverse, arith}
use Rattle.hr_graph.specs.Meeting.{moved_to}
use Rattle.hr_graph.proofs.StepLemmas.{in_bounds, size_refused, new_placed, open_ok, open_keeps, open_err}
use Rattle.hr_graph.proofs.walk.Walk.open.Goals as goal

pub bounds-children-newest : goal.bounds-children-newest
bounds-children-newest c =
    in_bounds _ _ _ _ _ c.args.self.now c.self.view_is c.self.invariant c.index-newest.result.now c.len.result
    (omega (arith, c.self.inside.opened.ok)) c.index-newest.ensures c.args.digest c.args.manifest c.requires.asked
    _ c.children.ensures

pub bounds-children-newest-2 : goal.bounds-children-newest-2
bounds-children-newest-2 c =
    in_bounds _ _ _ _ _ c.args.self.now c.self.view_is c.self.invariant c.index-newest.result.now c.len.result
    (omega (arith, c.self.inside.opened.ok)) c.index-newest.ensures c.args.digest c.args.manifest c.requires.asked
    _ c.children.ensures

pub returns-then-said-got-clause-err : goal.returns-then-said-got-clause-err
returns-then-said-got-clause-err c = λ _.
    size_refused _ _ _ _ _ c.args.self.now c.self.view_is c.self.invariant c.index-newest.result.now c.len.result
    (omega (arith, c.self.inside.opened.ok)) c.index-newest.ensures c.args.digest c.args.manifest c.requires.asked
    _ c.children.ensures c.index-children-newest.result _ c.bytes.ensures c.if-said-got.true

pub next_in-requires-clause-placed : goal.next_in-requires-clause-placed
next_in-requires-clause-placed c =
    new_placed _ _ _ _ _ c.args.self.now c.self.view_is c.self.invariant c.index-newest.result.now c.len.result
    (omega (arith, c.self.inside.opened.ok)) c.index-newest.ensures c.args.digest c.args.manifest c.requires.asked
    _ c.children.ensures c.index-children-newest.result _ c.bytes.ensures c.if-said-got.false c.requires.fits _ (c.deref.ensures.value ∙ c.in_ok-push.ensures.items)

pub invariant_of-self-in-Ok : goal.invariant_of-self-in-Ok
invariant_of-self-in-Ok c =
    open_keeps _ _ _ _ _ c.args.self.now c.self.view_is c.self.invariant c.index-newest.result.now c.len.result
    (omega (arith, c.self.inside.opened.ok)) c.index-newest.ensures c.args.digest c.args.manifest c.requires.asked
    _ c.children.ensures c.index-children-newest.result _ c.bytes.ensures c.if-said-got.false c.requires.fits _ (c.deref.ensures.value ∙ c.in_ok-push.ensures.items) _ c.next_in.ensures c.in-Ok.next
    c.move_to.new.opened.items c.in-Ok.is (c.move_to.ensures ∙ ap (λ l. moved_to c.in-Ok.next.at (reverse l)) (sym c.deref.ensures.value))

pub returns-in-Ok-clause-ok : goal.returns-in-Ok-clause-ok
returns-in-Ok-clause-ok c =
    open_ok _ _ _ _ _ c.args.self.now c.self.view_is c.self.invariant c.index-newest.result.now c.len.result
    (omega (arith, c.self.inside.opened.ok)) c.index-newest.ensures c.args.digest c.args.manifest c.requires.asked
    _ c.children.ensures c.index-children-newest.result _ c.bytes.ensures c.if-said-got.false c.requires.fits _ (c.deref.ensures.value ∙ c.in_ok-push.ensures.items) _ c.next_in.ensures c.in-Ok.next
    c.move_to.new.opened.items c.in-Ok.is (c.move_to.ensures ∙ ap (λ l. moved_to c.in-Ok.next.at (reverse l)) (sym c.deref.ensures.value))

pub returns-in-Err-clause-err : goal.returns-in-Err-clause-err
returns-in-Err-clause-err c = λ _.
    open_err _ _ _ _ _ c.args.self.now c.self.view_is c.self.invariant c.index-newest.result.now c.len.result
    (omega (arith, c.self.inside.opened.ok)) c.index-newest.ensures c.args.digest c.args.manifest c.requires.asked
    _ c.children.ensures c.index-children-newest.result _ c.bytes.ensures c.if-said-got.false c.requires.fits _ (c.deref.ensures.value ∙ c.in_ok-push.ensures.items) _ c.next_in.ensures c.in-Err.why c.in-Err.is
