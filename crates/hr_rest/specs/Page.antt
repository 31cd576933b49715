-- Pages of lists: a page of so many items, by its number from 1. (After Harbor's API.)
use Rattle.std.specs.Prelude.{ℕ, ◌-◌, ◌*◌, Bool, ◌&&◌, nat_eq, nat_le, nat_lt, List, take, drop}
use Rattle.std.specs.List.{filter}
use Rattle.hr_event.specs.declared.view.RowView.{RowView}

-- how many items stand before a page
abbrev pub before_page : ℕ → ℕ → ℕ
before_page page size = (page - 1) * size

-- the items of a page
abbrev pub page_of : {A : Type 0} → ℕ → ℕ → List A → List A
page_of page size items = take size (drop (before_page page size) items)

-- the rows of an execution, in order
abbrev pub rows_of : ℕ → List RowView → List RowView
rows_of exec rows = filter (λ row. nat_eq row.exec.0 exec) rows

-- whether an item stands on a page, where so many items stand before it, and before the page
abbrev pub is_on_page : ℕ → ℕ → ℕ → Bool
is_on_page seen first size = nat_le first seen && nat_lt (seen - first) size
