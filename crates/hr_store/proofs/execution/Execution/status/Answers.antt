use Rattle.std.proofs.Common.{arith, ap, ℕ}
use Rattle.hr_store.specs.Execution.{ExecState, is_unfinished, rows_at}
use Rattle.hr_store.proofs.RowLemmas.{status-open, status-failed, status-stopped, status-succeed}
use Rattle.hr_store.proofs.execution.Execution.status.Goals as goal

pub returns-then-in_progress-gt0 : goal.returns-then-in_progress-gt0
returns-then-in_progress-gt0 c =
    let R : ExecState → ℕ = λ v. rows_at is_unfinished v.rows in
    let k = ap R c.self.view_is in
    rw (← c.self.view_is) (status-open c.self.inside.plan_failed c.self.inside.rows.items c.if-self.false (omega (arith, c.if-in_progress-gt0.true, c.in_progress.ensures, k)))

pub returns-then-self-gt0 : goal.returns-then-self-gt0
returns-then-self-gt0 c =
    let R : ExecState → ℕ = λ v. rows_at is_unfinished v.rows in
    let k = ap R c.self.view_is in
    rw (← c.self.view_is) (status-failed c.self.inside.plan_failed c.self.inside.rows.items c.if-self.false (omega (arith, c.if-in_progress-gt0.false, c.in_progress.ensures, k)) (omega (arith, c.if-self-gt0.true, c.self.invariant.0.failed_is)))

pub returns-then-self-gt0-2 : goal.returns-then-self-gt0-2
returns-then-self-gt0-2 c =
    let R : ExecState → ℕ = λ v. rows_at is_unfinished v.rows in
    let k = ap R c.self.view_is in
    rw (← c.self.view_is) (status-stopped c.self.inside.plan_failed c.self.inside.rows.items c.if-self.false (omega (arith, c.if-in_progress-gt0.false, c.in_progress.ensures, k)) (omega (arith, c.if-self-gt0.false, c.self.invariant.0.failed_is)) (omega (arith, c.if-self-gt0-2.true, c.self.invariant.0.stopped_is)))

pub returns-else-self-gt0-2 : goal.returns-else-self-gt0-2
returns-else-self-gt0-2 c =
    let R : ExecState → ℕ = λ v. rows_at is_unfinished v.rows in
    let k = ap R c.self.view_is in
    rw (← c.self.view_is) (status-succeed c.self.inside.plan_failed c.self.inside.rows.items c.if-self.false (omega (arith, c.if-in_progress-gt0.false, c.in_progress.ensures, k)) (omega (arith, c.if-self-gt0.false, c.self.invariant.0.failed_is)) (omega (arith, c.if-self-gt0-2.false, c.self.invariant.0.stopped_is)))
