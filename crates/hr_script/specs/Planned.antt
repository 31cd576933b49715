-- What a line means that plans something for an operation of a lane's connection, by the words
-- behind its first one. (Our own.)
use Rattle.std.specs.Prelude.{Bool, List, [], ◌∷◌}
use Rattle.hr_base.specs.Bytes.{Text}
use Rattle.hr_script.specs.declared.line.Line.{Line}
use Rattle.hr_script.specs.declared.line.Line.TheVariants.{Fault, Change}
use Rattle.hr_script.specs.declared.refusal.Why.TheVariants as why
use Rattle.hr_script.specs.Meaning.{Meaning, gives, refuses, ◌>>=◌}
use Rattle.hr_script.specs.Word.{lane_in, name_in, operation_in, registry_in, tag_in}

-- what the words behind `fault` mean, or those behind `lands`
abbrev pub fault_of : Bool → List Text → Meaning Line
fault_of lands (lane ∷ reg ∷ op ∷ []) = do
  lane ← lane_in lane
  reg ← registry_in reg
  op ← operation_in op
  gives (Fault lane reg op lands)
fault_of lands _ = refuses why.Count

-- what the words behind `change` mean
abbrev pub change_of : List Text → Meaning Line
change_of (lane ∷ reg ∷ op ∷ repo ∷ tag ∷ to ∷ []) = do
  lane ← lane_in lane
  reg ← registry_in reg
  op ← operation_in op
  repo ← name_in repo
  tag ← tag_in tag
  to ← tag_in to
  gives (Change lane reg op repo tag to)
change_of _ = refuses why.Count
