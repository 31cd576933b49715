-- A value within a document, and the items of a list (RFC 8259, section 5).
use Rattle.std.specs.Prelude.{List, [], ◌∷◌, map, Option, option_map}
use Rattle.serde_json.specs.Data.{Data, Items, no_items, item}
use Rattle.serde_json.specs.Find.{as_array}
use Rattle.serde_json.specs.View.{view}
use Rattle.hr_json.specs.declared.node.Node.{Node}
use Rattle.hr_json.specs.declared.items.Items.{Items as Listed}

-- The JSON value of a node.
abbrev pub value_of : Node → Data
value_of node = view node.value.now

-- The items of a JSON list, as a list of values.
abbrev pub list_of : Items → List Data
list_of no_items = []
list_of (item first rest) = first ∷ list_of rest

-- The items of a JSON value in order, where it is a list.
abbrev pub items_in : Data → Option (List Data)
items_in value = option_map list_of (as_array value)

-- The JSON values of items within a document, in order.
abbrev pub values_of : Listed → List Data
values_of items = map view items.list.now.items
