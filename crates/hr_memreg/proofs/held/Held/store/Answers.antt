use Rattle.std.proofs.Common.{ℕ, List, sym, ap, ◌∙◌}
use Rattle.std.proofs.lemmas.Result.{on_ok_weaker, on_err_weaker}
use Rattle.std.specs.BTreeMap.{BTreeMap, insert_entry}
use Rattle.std.specs.Cmp.Lexicographic.{slice_cmp}
use Rattle.std.specs.Ordering.{nat_cmp}
use Rattle.hr_adapter.specs.Content.{Repo, with_repo}
use Rattle.hr_memreg.specs.Item.{with_item}
use Rattle.hr_memreg.proofs.ItemLemmas.{with_repo-there, with_repo-kept, with_repo-new}
use Rattle.hr_memreg.proofs.held.Held.store.Goals as goal

pub returns-in-Some-clause-ok : goal.returns-in-Some-clause-ok
returns-in-Some-clause-ok c =
    let found = c.in-Some.ensures.value in
    on_ok_weaker c.store.result
    (λ made. with_repo-there c.self.inside.repos.entries c.args.repo.now (with_item c.args.item)
    c.in-Some.repository.now c.store.new.self _
    c.get_mut.ensures.ordered (sym found) (c.get_mut.follows.holds c.store.new.self).0 made
    ∙ ap (λ t. with_repo t c.args.repo.now (with_item c.args.item)) c.self.view_is)
    c.store.ensures.ok

pub returns-in-Some-clause-err : goal.returns-in-Some-clause-err
returns-in-Some-clause-err c =
    let found = c.in-Some.ensures.value in
    on_err_weaker c.store.result
    (λ same. with_repo-kept c.self.inside.repos.entries c.args.repo.now c.in-Some.repository.now c.store.new.self _ (sym found)
    (c.get_mut.follows.holds c.store.new.self).0 same
    ∙ c.self.view_is)
    c.store.ensures.err

pub returns-clause-ok : goal.returns-clause-ok
returns-clause-ok c =
    let absent = c.in_default.ensures.value in
    with_repo-new c.self.inside.repos.entries c.args.repo.now c.in_ok-copy.field-0 (with_item c.args.item) c.store-2.new.self _
    (sym absent) c.in_ok-copy.ensures (c.in_ok-store.ensures.ok ∙ ap (with_item c.args.item) c.new-repository.ensures)
    (c.in_ok-insert.ensures.entries
    ∙ ap (λ (m : BTreeMap (List ℕ) Repo). insert_entry (slice_cmp nat_cmp) m.entries c.in_ok-copy.field-0
    c.store-2.new.self) c.get_mut.follows.holds-at-none)
    ∙ ap (λ t. with_repo t c.args.repo.now (with_item c.args.item)) c.self.view_is
