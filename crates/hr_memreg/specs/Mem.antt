-- A registry in memory, as contracts see it. (Our own.)
use Rattle.std.specs.Prelude.{◌≡◌, ◌≤◌, ◌+◌, ◌-◌, ◌^◌, ◌++◌, ◌∷◌, ◌&&◌, ℕ, min, not, List, [], length, take, Option, Some, None, option_map}
use Rattle.hr_base.specs.Bytes.{ByteList}
use Rattle.hr_adapter.specs.Content.{Content}
use Rattle.hr_adapter.specs.Plan.{Plan, moved_next, went_on, will_fail, will_move}
use Rattle.hr_adapter.specs.Reg.{Reg, Row, Writing, end_fails}
use Rattle.hr_adapter.specs.declared.plan.Change.{Change}
use Rattle.hr_adapter.specs.declared.plan.Planned.{Planned}
use Rattle.hr_memreg.specs.Shown.{rows_ever, rows_standing}
use Rattle.hr_memreg.specs.declared.standing.Standing.{Standing}

-- a registry in memory
pub record Mem : Type 0 where
  -- what it holds
  pub content : Content
  -- every manifest that a tag showed since it was opened, or will show by its plan
  pub ever : List Row
  -- its operations, and what is planned for them
  pub plan : Plan
  -- how often it failed, at most 2^64 - 1
  pub faults : ℕ
  -- the bytes that are left of the blob that is open to be read
  pub reading : Option ByteList
  -- the blob that is being written
  pub writing : Option Writing

-- a registry in memory as a connection: it tells all, and its plan says what is to come
abbrev pub seen_of : Mem → Reg
seen_of m = record {
  told = Some m.content;
  coming = Some (moved_next m.plan m.content);
  ever = m.ever;
  faults = m.faults;
  quiet = not (will_move m.plan);
  sure = not (will_fail m.plan) && not (end_fails m.plan m.writing);
  plan = Some m.plan;
  reading = option_map Some m.reading;
  writing = m.writing;
}

-- what stands in it
abbrev pub standing_of : Mem → Standing
standing_of m = record { held = m.content; moves = m.plan.moves; operations = m.plan.operations }

-- a registry that was opened on a content, and was asked for nothing
abbrev pub new_mem : Content → Mem
new_mem c = record {
  content = c;
  ever = rows_ever (record { held = c; moves = []; operations = 0 } ∷ []);
  plan = record { operations = 0; failing = []; moves = [] };
  faults = 0;
  reading = None;
  writing = None;
}

-- a registry with another list of operations that fail
abbrev pub with_failing : List Planned → Mem → Mem
with_failing failing m = record m { plan = record m.plan { failing = failing } }

-- a registry with what stands in it behind all that it ever showed
abbrev pub with_rows : Mem → Mem
with_rows m = record m { ever = m.ever ++ rows_standing (standing_of m) }

-- a registry with another list of changes, which will show what it shows
abbrev pub with_moves : List Change → Mem → Mem
with_moves moves m = with_rows (record m { plan = record m.plan { moves = moves } })

-- a registry came to hold another content, and nothing that it ever showed was lost
abbrev pub Holds : Content → Mem → Mem → Type 0
Holds c m n = (n ≡ record m { content = c; ever = n.ever }) × (take (length m.ever) n.ever ≡ m.ever)

-- a registry that counted one fault more
abbrev pub after_fault : Mem → Mem
after_fault m = record m { faults = min (m.faults + 1) (2 ^ 64 - 1) }

-- a registry after one operation more, whose changes were made
abbrev pub after_operation : Mem → Mem
after_operation m = record m { content = moved_next m.plan m.content; plan = went_on m.plan }
