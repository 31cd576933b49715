-- A snapshot of the store and of the policies. (Our own.)
use Rattle.std.specs.Prelude.{List, map, Some, None}
use Rattle.std.specs.List.{flat_map}
use Rattle.hr_event.specs.declared.view.RowView.{RowView}
use Rattle.hr_policy.specs.declared.config.Policy.{Policy}
use Rattle.hr_store.specs.Execution.{ExecState, exec_view}
use Rattle.hr_store.specs.Store.{StoreState, tasks_in}
use Rattle.hr_rest.specs.declared.view.Snapshot.{Snapshot}

-- the rows of an execution as they are told
abbrev pub tasks_of : ExecState → List RowView
tasks_of exec = tasks_in (Some exec)

-- the rows of these executions as they are told, in order
abbrev pub rows_kept : List ExecState → List RowView
rows_kept execs = flat_map tasks_of execs

-- all that the store keeps, with these policies
abbrev pub snapshot_of : StoreState → List Policy → Snapshot
snapshot_of store policies = record {
  policies = policies;
  execs = map exec_view store.kept;
  rows = rows_kept store.kept;
  made = None;
}
