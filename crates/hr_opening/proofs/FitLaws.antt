-- Laws of lines that were read: each is fit to be taken, and their events are those that a script
-- may have.
use Rattle.std.proofs.Common.{◌≡◌, ◌==◌, cond, ℕ, Bool, true, false, List, [], ◌∷◌, ◌++◌, Result, Ok, Err, sym, ap, subst}
use Rattle.std.specs.List.{AllByRecursion}
use Rattle.hr_base.specs.Bytes.{Text, Media}
use Rattle.hr_base.specs.declared.number.RegNo.{RegNo}
use Rattle.hr_event.specs.declared.event.Event.{Event}
use Rattle.hr_event.specs.declared.event.Event.TheVariants as event
use Rattle.hr_text.specs.Escaping.{IsUnescaped}
use Rattle.hr_script.specs.Event.{cause_of, deliver_of, exec_of, finish_of, forge_of, only_job, only_number, row_of, settle_of, step_of, stop_of, sweep_of, tags_of, take_of, trigger_of, wait_of, word_of}
use Rattle.hr_script.specs.Line.{break_of, image_of, index_of, jobs_of, manifest_of, orphan_of}
use Rattle.hr_script.specs.Meaning.{Follows, each, gives}
use Rattle.hr_script.specs.Planned.{change_of, fault_of}
use Rattle.hr_script.specs.Reading.{IsReading}
use Rattle.hr_script.specs.Status.{status_in}
use Rattle.hr_script.specs.Word.{IsMedia, IsRegistry, job_count_in, job_in, lane_in, lane_numbered, layer_in, media_in, name_in, operation_in, policy_in, registry_in, revision_in, seconds_in, small_in, tag_in}
use Rattle.hr_script.specs.declared.line.Line.{Line}
use Rattle.hr_script.specs.declared.line.Line.TheVariants as line
use Rattle.hr_script.specs.declared.reading.Lines.{Lines}
use Rattle.hr_script.specs.declared.reading.Numbered.{Numbered}
use Rattle.hr_script.specs.declared.refusal.Why.{Why}
use Rattle.hr_script.specs.declared.refusal.Why.TheVariants as why
use Rattle.hr_script.proofs.CaseLaws.{OfEachKind, reading_holds, through}
use Rattle.hr_opening.specs.Fit.{AreFit, IsFit, IsNumbered, IsScripted}
use Rattle.hr_opening.specs.Opening.{event_in, events_in}

-- ---- words

media_plain : (word : Text) (media : Media) → IsMedia word media → IsUnescaped media
media_plain word media is = subst (λ (bytes : Media). IsUnescaped bytes) (sym is.same) is.unescaped

numbered : (word : Text) (reg : RegNo) → IsRegistry word reg → IsNumbered reg
numbered word reg is = record { some = is.some; few = is.few }

-- there is lane 0 alone
only_lane : (word : Text) (lane : ℕ) → lane_in word (Ok lane) → lane ≡ 0
only_lane word lane is = go is.0 is.1 is.2
  where
    zero_or : (b : Bool) → Ok lane ≡ cond b (Ok 0) (Err why.NotYet) → lane ≡ 0
    zero_or true e = cc e
    zero_or false e = cc e

    go : (value : Result ℕ Why) → small_in word value → Follows (λ number answer. answer ≡ lane_numbered number) value (Ok lane) → lane ≡ 0
    go (Ok number) was then = zero_or (number == 0) then
    go (Err reason) was then = cc then

-- ---- the kinds of lines

line_or : Line → Result Line Why → Line
line_or other (Ok l) = l
line_or other (Err why) = other

given : (l m : Line) → gives m (Ok l) → IsFit m → IsFit l
unfolding line_or
given l m is fit = subst IsFit (sym (ap (line_or l) is)) fit

image_fit : (words : List Text) (l : Line) → image_of words (Ok l) → IsFit l
image_fit [] l is = cc is
image_fit (a ∷ []) l is = cc is
image_fit (a ∷ b ∷ []) l is = cc is
image_fit (a ∷ b ∷ c ∷ others) l is =
    through IsFit (registry_in a) _ (λ reg one. through IsFit (name_in b) _ (λ repo two. through IsFit (tag_in c) _ (λ tag three. through IsFit (each layer_in others) _
    (λ layers four l then. given l (line.Image reg repo tag layers) then (numbered a reg one))))) l is

index_fit : (words : List Text) (l : Line) → index_of words (Ok l) → IsFit l
index_fit [] l is = cc is
index_fit (a ∷ []) l is = cc is
index_fit (a ∷ b ∷ []) l is = cc is
index_fit (a ∷ b ∷ c ∷ others) l is =
    through IsFit (registry_in a) _ (λ reg one. through IsFit (name_in b) _ (λ repo two. through IsFit (tag_in c) _ (λ tag three. through IsFit (each tag_in others) _
    (λ children four l then. given l (line.Index reg repo tag children) then (numbered a reg one))))) l is

orphan_fit : (words : List Text) (l : Line) → orphan_of words (Ok l) → IsFit l
orphan_fit [] l is = cc is
orphan_fit (a ∷ []) l is = cc is
orphan_fit (a ∷ b ∷ others) l is =
    through IsFit (registry_in a) _ (λ reg one. through IsFit (name_in b) _ (λ repo two. through IsFit (each layer_in others) _
    (λ layers three l then. given l (line.Orphan reg repo layers) then (numbered a reg one)))) l is

manifest_fit : (words : List Text) (l : Line) → manifest_of words (Ok l) → IsFit l
manifest_fit [] l is = cc is
manifest_fit (a ∷ []) l is = cc is
manifest_fit (a ∷ b ∷ []) l is = cc is
manifest_fit (a ∷ b ∷ c ∷ []) l is = cc is
manifest_fit (a ∷ b ∷ c ∷ d ∷ []) l is = cc is
manifest_fit (a ∷ b ∷ c ∷ d ∷ e ∷ others) l is =
    through IsFit (registry_in a) _ (λ reg one. through IsFit (name_in b) _ (λ repo two. through IsFit (tag_in c) _ (λ tag three. through IsFit (media_in d) _
    (λ media four l then. given l (line.Manifest reg repo tag media _) then (numbered a reg one, media_plain d media four))))) l is

break_fit : (words : List Text) (l : Line) → break_of words (Ok l) → IsFit l
break_fit [] l is = cc is
break_fit (a ∷ []) l is = cc is
break_fit (a ∷ b ∷ []) l is = cc is
break_fit (a ∷ b ∷ c ∷ []) l is = cc is
break_fit (a ∷ b ∷ c ∷ d ∷ []) l is =
    through IsFit (registry_in a) _ (λ reg one. through IsFit (name_in b) _ (λ repo two. through IsFit (layer_in c) _ (λ honest three. through IsFit (layer_in d) _
    (λ stored four l then. given l (line.Break reg repo honest stored) then (numbered a reg one))))) l is
break_fit (a ∷ b ∷ c ∷ d ∷ e ∷ others) l is = cc is

fault_fit : (lands : Bool) (words : List Text) (l : Line) → fault_of lands words (Ok l) → IsFit l
fault_fit lands [] l is = cc is
fault_fit lands (a ∷ []) l is = cc is
fault_fit lands (a ∷ b ∷ []) l is = cc is
fault_fit lands (a ∷ b ∷ c ∷ []) l is =
    through IsFit (lane_in a) _ (λ lane one. through IsFit (registry_in b) _ (λ reg two. through IsFit (operation_in c) _
    (λ op three l then. given l (line.Fault lane reg op lands) then (numbered b reg two, only_lane a lane one)))) l is
fault_fit lands (a ∷ b ∷ c ∷ d ∷ others) l is = cc is

change_fit : (words : List Text) (l : Line) → change_of words (Ok l) → IsFit l
change_fit [] l is = cc is
change_fit (a ∷ []) l is = cc is
change_fit (a ∷ b ∷ []) l is = cc is
change_fit (a ∷ b ∷ c ∷ []) l is = cc is
change_fit (a ∷ b ∷ c ∷ d ∷ []) l is = cc is
change_fit (a ∷ b ∷ c ∷ d ∷ e ∷ []) l is = cc is
change_fit (a ∷ b ∷ c ∷ d ∷ e ∷ f ∷ []) l is =
    through IsFit (lane_in a) _ (λ lane one. through IsFit (registry_in b) _ (λ reg two. through IsFit (operation_in c) _ (λ op three. through IsFit (name_in d) _
    (λ repo four. through IsFit (tag_in e) _ (λ tag five. through IsFit (tag_in f) _
    (λ to six l then. given l (line.Change lane reg op repo tag to) then (numbered b reg two, only_lane a lane one))))))) l is
change_fit (a ∷ b ∷ c ∷ d ∷ e ∷ f ∷ g ∷ others) l is = cc is

jobs_fit : (words : List Text) (l : Line) → jobs_of words (Ok l) → IsFit l
jobs_fit [] l is = cc is
jobs_fit (a ∷ []) l is = through IsFit (job_count_in a) _ (λ jobs one l then. given l (line.Jobs jobs) then (record { some = one.some; few = one.few })) l is
jobs_fit (a ∷ b ∷ others) l is = cc is

trigger_fit : (words : List Text) (l : Line) → trigger_of words (Ok l) → IsFit l
trigger_fit [] l is = cc is
trigger_fit (a ∷ []) l is = through IsFit (policy_in a) _ (λ policy one l then. given l (line.Event (event.Trigger policy)) then tt) l is
trigger_fit (a ∷ b ∷ others) l is = cc is

take_fit : (words : List Text) (l : Line) → take_of words (Ok l) → IsFit l
take_fit [] l is = given l (line.Event event.Take) is tt
take_fit (a ∷ others) l is = cc is

step_fit : (words : List Text) (l : Line) → step_of words (Ok l) → IsFit l
step_fit words l is = through IsFit (only_job words) _ (λ job one l then. given l (line.Event (event.Step job)) then tt) l is

stop_fit : (words : List Text) (l : Line) → stop_of words (Ok l) → IsFit l
stop_fit words l is = through IsFit (only_job words) _ (λ job one l then. given l (line.Event (event.Stop job)) then tt) l is

finish_fit : (words : List Text) (l : Line) → finish_of words (Ok l) → IsFit l
finish_fit [] l is = given l (line.Event event.Finish) is tt
finish_fit (a ∷ others) l is = cc is

tags_fit : (words : List Text) (l : Line) → tags_of words (Ok l) → IsFit l
tags_fit [] l is = cc is
tags_fit (a ∷ []) l is = through IsFit (registry_in a) _ (λ reg one l then. given l (line.Event (event.Tags reg)) then (numbered a reg one)) l is
tags_fit (a ∷ b ∷ others) l is = cc is

word_fit : (words : List Text) (l : Line) → word_of words (Ok l) → IsFit l
word_fit [] l is = cc is
word_fit (a ∷ []) l is = cc is
word_fit (a ∷ b ∷ []) l is =
    through IsFit (job_in a) _ (λ job one. through IsFit (revision_in b) _ (λ rev two l then. given l (line.Event (event.Word job rev)) then two.few)) l is
word_fit (a ∷ b ∷ c ∷ others) l is = cc is

settle_fit : (words : List Text) (l : Line) → settle_of words (Ok l) → IsFit l
settle_fit words l is = through IsFit (only_job words) _ (λ job one l then. given l (line.Event (event.Settle job)) then tt) l is

deliver_fit : (words : List Text) (l : Line) → deliver_of words (Ok l) → IsFit l
deliver_fit words l is = through IsFit (only_number words) _ (λ hook one l then. given l (line.Event (event.Deliver hook)) then tt) l is

forge_fit : (words : List Text) (l : Line) → forge_of words (Ok l) → IsFit l
forge_fit [] l is = cc is
forge_fit (a ∷ []) l is = cc is
forge_fit (a ∷ b ∷ []) l is = cc is
forge_fit (a ∷ b ∷ c ∷ []) l is =
    through IsFit (job_in a) _ (λ job one. through IsFit (revision_in b) _ (λ rev two. through IsFit (status_in c) _
    (λ status three l then. given l (line.Event (event.Forge (record { job = job; rev = rev; status = status }))) then two.few))) l is
forge_fit (a ∷ b ∷ c ∷ d ∷ others) l is = cc is

wait_fit : (words : List Text) (l : Line) → wait_of words (Ok l) → IsFit l
wait_fit [] l is = cc is
wait_fit (a ∷ []) l is = through IsFit (seconds_in a) _ (λ seconds one l then. given l (line.Event (event.Wait seconds)) then one.few) l is
wait_fit (a ∷ b ∷ others) l is = cc is

sweep_fit : (words : List Text) (l : Line) → sweep_of words (Ok l) → IsFit l
sweep_fit words l is = through IsFit (only_number words) _ (λ keep one l then. given l (line.Event (event.Sweep keep)) then tt) l is

row_fit : (words : List Text) (l : Line) → row_of words (Ok l) → IsFit l
row_fit words l is = through IsFit (only_job words) _ (λ job one l then. given l (line.Event (event.Row job)) then tt) l is

exec_fit : (words : List Text) (l : Line) → exec_of words (Ok l) → IsFit l
exec_fit words l is = through IsFit (only_number words) _ (λ number one l then. given l (line.Event (event.Exec (record { 0 = number }))) then tt) l is

cause_fit : (words : List Text) (l : Line) → cause_of words (Ok l) → IsFit l
cause_fit words l is = through IsFit (only_job words) _ (λ job one l then. given l (line.Event (event.CauseOf job)) then tt) l is

each_fit : OfEachKind IsFit
each_fit = record {
  image = image_fit;
  index = index_fit;
  orphan = orphan_fit;
  manifest = manifest_fit;
  broken = break_fit;
  fault = fault_fit;
  change = change_fit;
  jobs = jobs_fit;
  trigger = trigger_fit;
  take = take_fit;
  step = step_fit;
  settle = settle_fit;
  stop = stop_fit;
  deliver = deliver_fit;
  forge = forge_fit;
  wait = wait_fit;
  sweep = sweep_fit;
  finish = finish_fit;
  tags = tags_fit;
  row = row_fit;
  exec = exec_fit;
  word = word_fit;
  cause = cause_fit;
}

-- every line that is read of a text is fit to be taken
pub reading_fit : (text : Text) (lines : Lines) → IsReading text lines → AreFit lines.lines
reading_fit text lines is = reading_holds IsFit each_fit text lines is

-- ---- events

event_fit : (l : Line) → IsFit l → (rest : List Event) → AllByRecursion IsScripted rest → AllByRecursion IsScripted (event_in l ++ rest)
event_fit (line.Image reg repo tag layers) fit rest others = others
event_fit (line.Index reg repo tag children) fit rest others = others
event_fit (line.Orphan reg repo layers) fit rest others = others
event_fit (line.Manifest reg repo tag media text) fit rest others = others
event_fit (line.Break reg repo honest stored) fit rest others = others
event_fit (line.Fault lane reg op lands) fit rest others = others
event_fit (line.Change lane reg op repo tag to) fit rest others = others
event_fit (line.Jobs jobs) fit rest others = others
event_fit (line.Event e) fit rest others = (fit, others)

-- the events of lines that are fit are those that a script may have
pub events_fit : (lines : List Numbered) → AreFit lines → AllByRecursion IsScripted (events_in lines)
events_fit [] fit = tt
events_fit (one ∷ rest) fit = event_fit one.line fit.0 (events_in rest) (events_fit rest fit.1)
