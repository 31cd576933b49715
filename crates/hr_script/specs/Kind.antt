-- The first words of lines. (Our own.)
use Rattle.std.specs.Prelude.{◌≡◌, ◌||◌, nat_eq, Bool, true, false, if◌then◌else◌, List, [], ◌∷◌, codes, Option, Some, None, Result, Ok, Err}
use Rattle.std.specs.List.{list_any}
use Rattle.std.specs.Cmp.Lexicographic.{pointwise}
use Rattle.hr_base.specs.Bytes.{Text}
use Rattle.hr_script.specs.declared.kind.Kind.{Kind}
use Rattle.hr_script.specs.declared.kind.Kind.TheVariants as kinds
use Rattle.hr_script.specs.Meaning.{Meaning}
use Rattle.hr_script.specs.declared.refusal.Why.{Why}
use Rattle.hr_script.specs.declared.refusal.Why.TheVariants as why

-- whether two words are equal
abbrev pub is_same : Text → Text → Bool
is_same word other = pointwise nat_eq word other

-- whether a word is one of these
abbrev pub is_one_of : List Text → Text → Bool
is_one_of words word = list_any (is_same word) words

-- the first words of setup lines that are not read yet
abbrev pub later_setup : List Text
later_setup =
    codes "lanes" ∷ codes "policy" ∷ codes "schedule" ∷ codes "label" ∷ codes "conflict" ∷ []

-- the first words of events that are not read yet
abbrev pub later_events : List Text
later_events = codes "due" ∷ []

-- whether a word of the language begins lines that are not read yet
abbrev pub is_later : Text → Bool
is_later word = is_one_of later_setup word || is_one_of later_events word

-- the kind of the setup lines that a word begins, where it begins some
abbrev pub setup_kind : Text → Option Kind
setup_kind word =
    if is_same word (codes "image") then Some kinds.Image
    else (if is_same word (codes "index") then Some kinds.Index
    else (if is_same word (codes "orphan") then Some kinds.Orphan
    else (if is_same word (codes "manifest") then Some kinds.Manifest
    else (if is_same word (codes "break") then Some kinds.Break
    else (if is_same word (codes "fault") then Some kinds.Fault
    else (if is_same word (codes "lands") then Some kinds.Lands
    else (if is_same word (codes "change") then Some kinds.Change
    else (if is_same word (codes "jobs") then Some kinds.Jobs
    else None))))))))

-- the kind of the events that a word begins, where it begins some that do something
abbrev pub event_kind : Text → Option Kind
event_kind word =
    if is_same word (codes "trigger") then Some kinds.Trigger
    else (if is_same word (codes "take") then Some kinds.Take
    else (if is_same word (codes "step") then Some kinds.Step
    else (if is_same word (codes "settle") then Some kinds.Settle
    else (if is_same word (codes "stop") then Some kinds.Stop
    else (if is_same word (codes "deliver") then Some kinds.Deliver
    else (if is_same word (codes "forge") then Some kinds.Forge
    else (if is_same word (codes "wait") then Some kinds.Wait
    else (if is_same word (codes "sweep") then Some kinds.Sweep
    else (if is_same word (codes "finish") then Some kinds.Finish
    else None)))))))))

-- the kind of the events that a word begins, where it begins some that ask for something
abbrev pub question_kind : Text → Option Kind
question_kind word =
    if is_same word (codes "tags") then Some kinds.Tags
    else (if is_same word (codes "row") then Some kinds.Row
    else (if is_same word (codes "exec") then Some kinds.Exec
    else (if is_same word (codes "word") then Some kinds.Word
    else (if is_same word (codes "cause") then Some kinds.Cause
    else None))))

-- the first of these kinds, or that of lines that are not read yet, where there is one
abbrev pub first_kind : Option Kind → Option Kind → Option Kind → Bool → Result Kind Why
first_kind (Some kind) event question later = Ok kind
first_kind None (Some kind) question later = Ok kind
first_kind None None (Some kind) later = Ok kind
first_kind None None None true = Ok kinds.Later
first_kind None None None false = Err why.Word

-- the kind of the lines that a word begins, or that it begins none
abbrev pub kind_of : Text → Result Kind Why
kind_of word =
    first_kind (setup_kind word) (event_kind word) (question_kind word) (is_later word)

-- the answer is the kind of the lines that a word begins, or that it begins none
abbrev pub kind_in : Text → Meaning Kind
kind_in word answer = answer ≡ kind_of word

-- whether lines of this kind set something up, and so stand before the first event
abbrev pub is_setup : Kind → Bool
is_setup kinds.Image = true
is_setup kinds.Index = true
is_setup kinds.Orphan = true
is_setup kinds.Manifest = true
is_setup kinds.Break = true
is_setup kinds.Fault = true
is_setup kinds.Lands = true
is_setup kinds.Change = true
is_setup kinds.Jobs = true
is_setup _ = false
