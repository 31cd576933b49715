-- How a command came out, before its text is sent. (Our own.)
use Rattle.std.specs.Prelude.{◌≡◌, ℕ, List, Option}
use Rattle.hr_base.specs.Bytes.{ByteList, Text}
use Rattle.hr_tree.specs.Tree.{Files}
use Rattle.hr_top.specs.Answers.{fault_text, long_text, memory_text, tree_fault_text, usage_text}
use Rattle.hr_top.specs.Command.{Checked as IsChecked, IsBadFile, IsBadScript, IsInputFault, IsTreeFault, IsUsage, Replayed as IsReplayed}
use Rattle.hr_replay.specs.Replay.{IsNothing}
use Rattle.hr_replay.specs.declared.ending.Ending.{Ending}
use Rattle.hr_top.specs.declared.outcome.Outcome.{Outcome}
use Rattle.hr_top.specs.declared.outcome.Outcome.TheVariants.{Replayed, Checked, Usage, Bad, TooLong, Unfit, Faulted, TreeFaulted, Memory}

-- the text that is sent of an outcome
abbrev pub text_of : Outcome → Text
text_of (Replayed text status) = text
text_of (Checked text) = text
text_of Usage = usage_text
text_of (Bad text) = text
text_of TooLong = long_text
text_of (Unfit text) = text
text_of Faulted = fault_text
text_of TreeFaulted = tree_fault_text
text_of Memory = memory_text

-- the status of an outcome whose text was sent
abbrev pub sent_status_of : Outcome → ℕ
sent_status_of (Replayed text status) = status
sent_status_of (Checked text) = 0
sent_status_of Usage = 1
sent_status_of (Bad text) = 2
sent_status_of TooLong = 2
sent_status_of (Unfit text) = 2
sent_status_of Faulted = 3
sent_status_of TreeFaulted = 3
sent_status_of Memory = 5

-- the status of an outcome whose text could not be sent whole
abbrev pub unsent_status_of : Outcome → ℕ
unsent_status_of (Replayed text status) = 4
unsent_status_of (Checked text) = 4
unsent_status_of Usage = 4
unsent_status_of (Bad text) = 4
unsent_status_of TooLong = 4
unsent_status_of (Unfit text) = 4
unsent_status_of Faulted = 4
unsent_status_of TreeFaulted = 4
unsent_status_of Memory = 5

-- the outcome has its cause, and only a failing input or tree has counted a fault
abbrev pub Comes : Outcome → List Text → Option ByteList → Option ByteList → Option Files → ℕ → ℕ → ℕ → ℕ → Ending → Type 0
Comes (Replayed text status) words before now files faults faults' tree tree' kept =
    IsReplayed words before now kept text status × (faults' ≡ faults) × (tree' ≡ tree)
Comes (Checked text) words before now files faults faults' tree tree' kept =
    IsChecked words files kept text × (faults' ≡ faults) × (tree' ≡ tree)
Comes Usage words before now files faults faults' tree tree' kept =
    IsUsage words before now kept usage_text × (faults' ≡ faults) × (tree' ≡ tree)
Comes (Bad text) words before now files faults faults' tree tree' kept =
    IsBadScript words before now kept text × (faults' ≡ faults) × (tree' ≡ tree)
Comes TooLong words before now files faults faults' tree tree' kept =
    IsBadScript words before now kept long_text × (faults' ≡ faults) × (tree' ≡ tree)
Comes (Unfit text) words before now files faults faults' tree tree' kept =
    IsBadFile words files kept text × (faults' ≡ faults) × (tree' ≡ tree)
Comes Faulted words before now files faults faults' tree tree' kept =
    IsInputFault words faults faults' kept fault_text × (tree' ≡ tree)
Comes TreeFaulted words before now files faults faults' tree tree' kept =
    IsTreeFault words tree tree' kept tree_fault_text × (faults' ≡ faults)
Comes Memory words before now files faults faults' tree tree' kept =
    IsNothing kept × (faults' ≡ faults) × (tree' ≡ tree)
