-- The texts of a call that runs no script, each a line ended by a line feed. (Our own.)
use Rattle.std.specs.Prelude.{codes}
use Rattle.hr_base.specs.Bytes.{Text}
use Rattle.hr_replay.specs.Text.{line}

-- what is said where the words name no command
abbrev pub usage_text : Text
usage_text = line (codes "usage: harborrep replay | check FILE | plan FILE P | once FILE P | gen START REPOS | run FILE WORKERS | serve FILE WORKERS PORT")

-- what is said of an input that is longer than a script may be
abbrev pub long_text : Text
long_text = line (codes "line 0 long")

-- what is said where the input failed
abbrev pub fault_text : Text
fault_text = line (codes "fault input")

-- what is said where the tree failed
abbrev pub tree_fault_text : Text
tree_fault_text = line (codes "fault tree")

-- what is said for want of memory
abbrev pub memory_text : Text
memory_text = line (codes "memory")
