use Rattle.std.proofs.Common.{arith, sym, ap, subst, refl, List, set, length, length-set, ◌<◌}
use Rattle.hr_store.specs.Execution.{ExecState, is_error, is_stopped, is_success, one_if}
use Rattle.hr_store.specs.Row.{RowState, is_over, row_status}
use Rattle.hr_store.proofs.RowLemmas.{count-length, count-set, heard-count, get-at}
use Rattle.hr_store.proofs.execution.Execution.receive.Goals as goal

pub moved-self-inside-requires-clause-high : goal.moved-self-inside-requires-clause-high
moved-self-inside-requires-clause-high c =
    let l = count-length (λ r. is_success (row_status r)) c.self.inside.rows.items in omega (arith, l, c.self.invariant.0.succeed_is)

pub moved-self-inside-requires-2-clause-high : goal.moved-self-inside-requires-2-clause-high
moved-self-inside-requires-2-clause-high c =
    let l = count-length (λ r. is_error (row_status r)) c.self.inside.rows.items in omega (arith, l, c.self.invariant.0.failed_is)

pub moved-self-inside-requires-3-clause-high : goal.moved-self-inside-requires-3-clause-high
moved-self-inside-requires-3-clause-high c =
    let l = count-length (λ r. is_stopped (row_status r)) c.self.inside.rows.items in omega (arith, l, c.self.invariant.0.stopped_is)

pub moved-self-inside-requires-4-clause-high : goal.moved-self-inside-requires-4-clause-high
moved-self-inside-requires-4-clause-high c =
    let l = count-length is_over c.self.inside.rows.items in omega (arith, l, c.self.invariant.0.over_is)

pub invariant_of-self : goal.invariant_of-self
invariant_of-self c =
    let within : c.args.at < length c.self.inside.rows.items = let P : ExecState → Type 0 = λ v. c.args.at < length v.rows in subst P (sym c.self.view_is) c.requires.at in (
      record {
        succeed_is = heard-count is_success c.self.inside.rows.items c.args.at c.index_mut-row.result.now c.receive-raised.new.self c.known-old.result c.known-new.result
            c.is_success.result c.is_success-2.result _ _ within c.index_mut-row.ensures.value c.known-old.ensures c.known-new.ensures c.is_success.ensures c.is_success-2.ensures
            c.self.invariant.0.succeed_is c.moved-self-inside.ensures;
        failed_is = heard-count is_error c.self.inside.rows.items c.args.at c.index_mut-row.result.now c.receive-raised.new.self c.known-old.result c.known-new.result
            c.is_error.result c.is_error-2.result _ _ within c.index_mut-row.ensures.value c.known-old.ensures c.known-new.ensures c.is_error.ensures c.is_error-2.ensures
            c.self.invariant.0.failed_is c.moved-self-inside-2.ensures;
        stopped_is = heard-count is_stopped c.self.inside.rows.items c.args.at c.index_mut-row.result.now c.receive-raised.new.self c.known-old.result c.known-new.result
            c.is_stopped.result c.is_stopped-2.result _ _ within c.index_mut-row.ensures.value c.known-old.ensures c.known-new.ensures c.is_stopped.ensures c.is_stopped-2.ensures
            c.self.invariant.0.stopped_is c.moved-self-inside-3.ensures;
        over_is = count-set is_over c.self.inside.rows.items _ c.args.at c.index_mut-row.result.now c.receive-raised.new.self _ _ within c.index_mut-row.ensures.value refl c.self.invariant.0.over_is
            (let a = ap one_if c.is_over-old_over.ensures in let b = ap one_if c.is_over-new_over.ensures in let m = c.moved-self-inside-4.ensures in omega (arith, a, b, m));
      },
      let l = length-set c.self.inside.rows.items c.args.at c.receive-raised.new.self in omega (arith, l, c.self.invariant.1),
    )

pub returns-clause-receives : goal.returns-clause-receives
returns-clause-receives c =
    let within : c.args.at < length c.self.inside.rows.items = let P : ExecState → Type 0 = λ v. c.args.at < length v.rows in subst P (sym c.self.view_is) c.requires.at in
    rw (← c.self.view_is) (record {
      row = c.index_mut-row.result.now;
      there = get-at c.self.inside.rows.items c.args.at c.index_mut-row.result.now within c.index_mut-row.ensures.value;
      set = let S : RowState → List RowState = λ r. set c.self.inside.rows.items c.args.at r in ap S c.receive-raised.ensures.received;
      rose = c.receive-raised.ensures.rose;
    })
