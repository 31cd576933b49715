-- Which file a check reads, and what it says of the bytes that stand there. (Our own.)
use Rattle.std.specs.Prelude.{⊤, ◌≡◌, ◌⊎◌, ℕ, List, [], ◌∷◌, length, codes, Option, Some, None, IfSome, Ok, Err}
use Rattle.hr_base.specs.Bytes.{ByteList, Text}
use Rattle.hr_cause.specs.Stream.{Rose}
use Rattle.hr_tree.specs.Path.{IsPath}
use Rattle.hr_tree.specs.Tree.{Files, file_at}
use Rattle.hr_policy.specs.Reading.{config_of}
use Rattle.hr_policy.specs.declared.config.Config.{Config}
use Rattle.hr_policy.specs.declared.refusal.ConfigRefused.{ConfigRefused}
use Rattle.hr_top.specs.Wording.{fit_text, missing_text, refused_text}
use Rattle.hr_top.specs.declared.outcome.Outcome.{Outcome}
use Rattle.hr_top.specs.declared.outcome.Outcome.TheVariants.{Replayed, Checked, Usage, Bad, TooLong, Unfit, Faulted, TreeFaulted, Memory}

-- the words are `check` and this path
pub record IsCheck (words : List Text) (path : Text) : Type 0 where
  pub words_are : words ≡ codes "check" ∷ path ∷ []
  pub is_path : IsPath path

-- the words are `check` and some path
abbrev pub NamesFile : List Text → Type 0
NamesFile words = (path : Text) × IsCheck words path

-- where the files are told, these bytes stand at the path
abbrev pub StandsAt : Option Files → Text → ByteList → Type 0
StandsAt files path bytes = IfSome files (λ told. file_at told path ≡ Some bytes)

-- where the files are told, none stands at the path
abbrev pub IsMissing : Option Files → Text → Type 0
IsMissing files path = IfSome files (λ told. file_at told path ≡ None)

-- the bytes are a configuration, and the text says how many registries and policies it has
pub record IsFit (bytes : ByteList) (text : Text) : Type 0 where
  pub config : Config
  pub said : config_of bytes ≡ Ok config
  pub says : text ≡ fit_text (length config.registries) (length config.policies)

-- the bytes are no configuration, and the text says their first fault
pub record IsUnfit (bytes : ByteList) (text : Text) : Type 0 where
  pub why : ConfigRefused
  pub fault : config_of bytes ≡ Err why
  pub says : text ≡ refused_text why

-- what stands at the path is a configuration, as the text says
pub record FitAt (files : Option Files) (path text : Text) : Type 0 where
  pub bytes : ByteList
  pub stands : StandsAt files path bytes
  pub fit : IsFit bytes text

-- what stands at the path is none, and the text says its first fault
pub record FaultAt (files : Option Files) (path text : Text) : Type 0 where
  pub bytes : ByteList
  pub stands : StandsAt files path bytes
  pub unfit : IsUnfit bytes text

-- no file stands at the path, or what stands there is no configuration, as the text says
abbrev pub UnfitAt : Option Files → Text → Text → Type 0
UnfitAt files path text = (IsMissing files path × (text ≡ missing_text)) ⊎ FaultAt files path text

-- the outcome is a refusal of a file by this text, unless memory ran out
abbrev pub SaysUnfit : Text → Outcome → Type 0
SaysUnfit text (Unfit said) = said ≡ text
SaysUnfit text Memory = ⊤
SaysUnfit text (Replayed said status) = ⊥
SaysUnfit text (Checked said) = ⊥
SaysUnfit text Usage = ⊥
SaysUnfit text (Bad said) = ⊥
SaysUnfit text TooLong = ⊥
SaysUnfit text Faulted = ⊥
SaysUnfit text TreeFaulted = ⊥

-- what is said of some bytes, unless memory ran out
abbrev pub Judges : ByteList → Outcome → Type 0
Judges bytes (Checked text) = IsFit bytes text
Judges bytes (Unfit text) = IsUnfit bytes text
Judges bytes Memory = ⊤
Judges bytes (Replayed text status) = ⊥
Judges bytes Usage = ⊥
Judges bytes (Bad text) = ⊥
Judges bytes TooLong = ⊥
Judges bytes Faulted = ⊥
Judges bytes TreeFaulted = ⊥

-- what is said of what stands at a path: only a failing tree has counted a fault
abbrev pub Checks : Option Files → ℕ → ℕ → Text → Outcome → Type 0
Checks files faults faults' path (Checked text) = FitAt files path text × (faults' ≡ faults)
Checks files faults faults' path (Unfit text) = UnfitAt files path text × (faults' ≡ faults)
Checks files faults faults' path TreeFaulted = Rose faults faults'
Checks files faults faults' path Memory = faults' ≡ faults
Checks files faults faults' path (Replayed text status) = ⊥
Checks files faults faults' path Usage = ⊥
Checks files faults faults' path (Bad text) = ⊥
Checks files faults faults' path TooLong = ⊥
Checks files faults faults' path Faulted = ⊥
