-- What one call of `top` does, by its status. (Our own.)
use Rattle.std.specs.Prelude.{◌≡◌, ◌⊎◌, ℕ, List, [], ◌∷◌, codes, Contains, Option}
use Rattle.hr_base.specs.Bytes.{ByteList, Text}
use Rattle.hr_cause.specs.Stream.{Rose, Took, TookFront}
use Rattle.hr_tree.specs.Tree.{Files}
use Rattle.hr_script.specs.declared.refusal.Why.{Why}
use Rattle.hr_replay.specs.Replay.{IsNothing, IsReplayed}
use Rattle.hr_replay.specs.Script.{IsBad, LacksTag}
use Rattle.hr_replay.specs.Text.{bad_text, why_text}
use Rattle.hr_replay.specs.declared.ending.Ending.{Ending}
use Rattle.hr_top.specs.Input.{IsLong, WasRead}
use Rattle.hr_top.specs.Answers.{usage_text, long_text, fault_text, tree_fault_text}
use Rattle.hr_top.specs.Checking.{FitAt, IsCheck, NamesFile, UnfitAt}

-- the words are the one word `replay`
abbrev pub IsReplay : List Text → Type 0
IsReplay words = words ≡ codes "replay" ∷ []

-- ---- a command was run

-- the words are `replay`, and the whole input, from what was left before to what is left now, is a
-- script, which was run: this is kept, this is the text of its answers, and this the status
pub record Replayed (words : List Text) (before now : Option ByteList) (kept : Ending)
    (text : Text) (status : ℕ) : Type 0 where
  pub replay : IsReplay words
  pub bytes : ByteList
  pub read : WasRead before bytes now
  pub run : IsReplayed bytes kept text status

-- the words are `check` and the path of a configuration, as the text says
pub record Checked (words : List Text) (files : Option Files) (kept : Ending) (text : Text)
    : Type 0 where
  pub path : Text
  pub check : IsCheck words path
  pub fit : FitAt files path text
  pub nothing : IsNothing kept

-- a script was run, or a configuration was checked and is one
abbrev pub IsDone : List Text → Option ByteList → Option ByteList → Option Files → Ending → ℕ → Text → Type 0
IsDone words before now files kept status text =
    Replayed words before now kept text status
    ⊎ ((status ≡ 0) × Checked words files kept text)

-- ---- the words name no command

-- the words name no command, and the input was not touched
pub record IsUsage (words : List Text) (before now : Option ByteList) (kept : Ending)
    (text : Text) : Type 0 where
  pub no_replay : ¬ IsReplay words
  pub no_check : ¬ NamesFile words
  pub unread : now ≡ before
  pub nothing : IsNothing kept
  pub says : text ≡ usage_text

-- ---- what a command reads is not what it should be

-- the text is no script, which this says with the number of its first bad line
abbrev pub SaysBad : ByteList → Text → Type 0
SaysBad bytes said =
    ((number : ℕ) × LacksTag bytes number × (said ≡ bad_text number (codes "reference")))
    ⊎ ((number : ℕ) × (why : Why) × IsBad bytes number why
    × (said ≡ bad_text number (why_text why)))

-- the whole input is no script
pub record HasBadLine (before now : Option ByteList) (text : Text) : Type 0 where
  pub bytes : ByteList
  pub read : WasRead before bytes now
  pub says : SaysBad bytes text

-- the input is no script, which the text says
pub record IsBadScript (words : List Text) (before now : Option ByteList) (kept : Ending)
    (text : Text) : Type 0 where
  pub replay : IsReplay words
  pub nothing : IsNothing kept
  pub says : (IsLong before now × (text ≡ long_text)) ⊎ HasBadLine before now text

-- the words are `check` and a path where no configuration stands, which the text says
pub record IsBadFile (words : List Text) (files : Option Files) (kept : Ending) (text : Text)
    : Type 0 where
  pub path : Text
  pub check : IsCheck words path
  pub nothing : IsNothing kept
  pub says : UnfitAt files path text

-- the input is no script, or the file is no configuration
abbrev pub IsRefused : List Text → Option ByteList → Option ByteList → Option Files → Ending → Text → Type 0
IsRefused words before now files kept text =
    IsBadScript words before now kept text ⊎ IsBadFile words files kept text

-- ---- a device failed

-- the input failed: its count of faults rose
pub record IsInputFault (words : List Text) (faults faults' : ℕ) (kept : Ending) (text : Text)
    : Type 0 where
  pub replay : IsReplay words
  pub rose : Rose faults faults'
  pub nothing : IsNothing kept
  pub says : text ≡ fault_text

-- the tree failed: its count of faults rose
pub record IsTreeFault (words : List Text) (tree tree' : ℕ) (kept : Ending) (text : Text)
    : Type 0 where
  pub check : NamesFile words
  pub rose : Rose tree tree'
  pub nothing : IsNothing kept
  pub says : text ≡ tree_fault_text

-- the device that the command reads failed: the count of the input or of the tree rose
abbrev pub IsFaulted : List Text → ℕ → ℕ → ℕ → ℕ → Ending → Text → Type 0
IsFaulted words faults faults' tree tree' kept text =
    IsInputFault words faults faults' kept text ⊎ IsTreeFault words tree tree' kept text

-- ---- a text was sent

-- a call came out in one of the ways in which a text is sent: a command was run, the words name
-- none, what it reads is not what it should be, or a device failed
abbrev pub IsAny : List Text → Option ByteList → Option ByteList → Option Files → ℕ → ℕ → ℕ → ℕ → Ending → Text → Type 0
IsAny words before now files faults faults' tree tree' kept text =
    ((status : ℕ) × IsDone words before now files kept status text)
    ⊎ (IsUsage words before now kept text)
    ⊎ (IsRefused words before now files kept text)
    ⊎ (IsFaulted words faults faults' tree tree' kept text)

-- a text of this kind went to the sink
abbrev pub Sent : (Text → Type 0) → Option ByteList → Option ByteList → Type 0
Sent P before now = (text : Text) × P text × Took before text now

-- a front of a text of this kind went to the sink
abbrev pub SentFront : (Text → Type 0) → Option ByteList → Option ByteList → Type 0
SentFront P before now = (text : Text) × P text × TookFront before text now

-- the statuses that a call answers
abbrev pub IsStatus : ℕ → Type 0
IsStatus status = Contains (0 ∷ 1 ∷ 2 ∷ 3 ∷ 4 ∷ 5 ∷ 7 ∷ []) status
