-- What a line of a script means, by its words. (Our own.)
use Rattle.std.specs.Prelude.{Bool, true, false, List, [], ◌∷◌, Option, Some, None}
use Rattle.std.specs.List.{join_with_byte}
use Rattle.hr_base.specs.Bytes.{Text}
use Rattle.hr_script.specs.declared.kind.Kind.{Kind}
use Rattle.hr_script.specs.declared.kind.Kind.TheVariants as kinds
use Rattle.hr_script.specs.declared.line.Line.{Line}
use Rattle.hr_script.specs.declared.line.Line.TheVariants.{Image, Index, Orphan, Manifest, Break, Jobs}
use Rattle.hr_script.specs.declared.refusal.Why.TheVariants as why
use Rattle.hr_script.specs.declared.progress.Progress.{Progress}
use Rattle.hr_script.specs.Event.{cause_of, deliver_of, exec_of, finish_of, forge_of, row_of, settle_of, step_of, stop_of, sweep_of, tags_of, take_of, trigger_of, wait_of, word_of}
use Rattle.hr_script.specs.Kind.{kind_in}
use Rattle.hr_script.specs.Meaning.{Meaning, gives, refuses, each, ◌>>=◌}
use Rattle.hr_script.specs.Planned.{change_of, fault_of}
use Rattle.hr_script.specs.Progress.{is_misplaced}
use Rattle.hr_script.specs.Text.{is_read, words_of}
use Rattle.hr_script.specs.Word.{registry_in, name_in, tag_in, job_count_in, layer_in, media_in}

-- what the words behind `image` mean
abbrev pub image_of : List Text → Meaning Line
image_of (reg ∷ repo ∷ tag ∷ layers) = do
  reg ← registry_in reg
  repo ← name_in repo
  tag ← tag_in tag
  layers ← each layer_in layers
  gives (Image reg repo tag layers)
image_of _ = refuses why.Count

-- what the words behind `index` mean
abbrev pub index_of : List Text → Meaning Line
index_of (reg ∷ repo ∷ tag ∷ children) = do
  reg ← registry_in reg
  repo ← name_in repo
  tag ← tag_in tag
  children ← each tag_in children
  gives (Index reg repo tag children)
index_of _ = refuses why.Count

-- what the words behind `orphan` mean
abbrev pub orphan_of : List Text → Meaning Line
orphan_of (reg ∷ repo ∷ layers) = do
  reg ← registry_in reg
  repo ← name_in repo
  layers ← each layer_in layers
  gives (Orphan reg repo layers)
orphan_of _ = refuses why.Count

-- what the words behind `manifest` mean: those behind the media type are one text with its spaces
abbrev pub manifest_of : List Text → Meaning Line
manifest_of (reg ∷ repo ∷ tag ∷ media ∷ first ∷ others) = do
  reg ← registry_in reg
  repo ← name_in repo
  tag ← tag_in tag
  media ← media_in media
  gives (Manifest reg repo tag media (join_with_byte 32 (first ∷ others)))
manifest_of _ = refuses why.Count

-- what the words behind `break` mean
abbrev pub break_of : List Text → Meaning Line
break_of (reg ∷ repo ∷ honest ∷ stored ∷ []) = do
  reg ← registry_in reg
  repo ← name_in repo
  honest ← layer_in honest
  stored ← layer_in stored
  gives (Break reg repo honest stored)
break_of _ = refuses why.Count

-- what the words behind `jobs` mean
abbrev pub jobs_of : List Text → Meaning Line
jobs_of (jobs ∷ []) = do
  jobs ← job_count_in jobs
  gives (Jobs jobs)
jobs_of _ = refuses why.Count

-- what the words behind the first one mean in a line of this kind
abbrev pub arguments_of : Kind → List Text → Meaning Line
arguments_of kinds.Image words = image_of words
arguments_of kinds.Index words = index_of words
arguments_of kinds.Orphan words = orphan_of words
arguments_of kinds.Manifest words = manifest_of words
arguments_of kinds.Break words = break_of words
arguments_of kinds.Fault words = fault_of false words
arguments_of kinds.Lands words = fault_of true words
arguments_of kinds.Change words = change_of words
arguments_of kinds.Jobs words = jobs_of words
arguments_of kinds.Trigger words = trigger_of words
arguments_of kinds.Take words = take_of words
arguments_of kinds.Step words = step_of words
arguments_of kinds.Settle words = settle_of words
arguments_of kinds.Stop words = stop_of words
arguments_of kinds.Deliver words = deliver_of words
arguments_of kinds.Forge words = forge_of words
arguments_of kinds.Wait words = wait_of words
arguments_of kinds.Sweep words = sweep_of words
arguments_of kinds.Finish words = finish_of words
arguments_of kinds.Tags words = tags_of words
arguments_of kinds.Row words = row_of words
arguments_of kinds.Exec words = exec_of words
arguments_of kinds.Word words = word_of words
arguments_of kinds.Cause words = cause_of words
arguments_of kinds.Later words = refuses why.NotYet

-- a meaning where the line may stand where it stands, and why not where it may not
abbrev pub unless_misplaced : Bool → Meaning Line → Meaning Line
unless_misplaced true meaning = refuses why.Order
unless_misplaced false meaning = meaning

-- what the words of a line mean behind the lines so far
abbrev pub meaning_of : Progress → List Text → Meaning Line
meaning_of progress [] = refuses why.Word
meaning_of progress (first ∷ others) = do
  kind ← kind_in first
  unless_misplaced (is_misplaced progress kind) (arguments_of kind others)

-- a meaning where the line is read, and nothing where it is passed over
abbrev pub where_read : Bool → Meaning (Option Line) → Meaning (Option Line)
where_read true meaning = meaning
where_read false meaning = gives None

-- what a line means behind the lines so far, which is nothing where it is passed over
abbrev pub line_meaning : Progress → Text → Meaning (Option Line)
line_meaning progress line = where_read (is_read line) (do
  meant ← meaning_of progress (words_of line)
  gives (Some meant))
