-- How many rows of the execution there were so far, and the values of those that stand on the page.
use Rattle.std.proofs.Common.{◌≡◌, ◌≤◌, drop, length, map, take}
use Rattle.serde_json.specs.View.{view}
use Rattle.hr_rest.specs.Page.{rows_of}
use Rattle.hr_rest.specs.Value.{row_value}
use Rattle.hr_rest.proofs.listing.rows_value.Given as goal

abbrev pub invariant-loop-row : goal.invariant-loop-row
invariant-loop-row l = record {
  few : l.seen ≤ l.row-index;
  seen : l.seen ≡ length (rows_of l.exec.0 (take l.row-index l.rows));
  values : map view l.list.items ≡ map row_value (take l.size (drop l.first (rows_of l.exec.0 (take l.row-index l.rows))));
}
