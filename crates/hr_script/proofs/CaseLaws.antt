-- A line that was read is of one of the kinds: what holds of each of them holds of it.
use Rattle.std.proofs.Common.{◌+◌, ℕ, Bool, true, false, List, [], ◌∷◌, Option, Some, None, Result, Ok, Err, sym, subst}
use Rattle.std.specs.Prelude.{⊤}
use Rattle.std.specs.List.{AllByRecursion}
use Rattle.hr_base.specs.Bytes.{Text}
use Rattle.hr_script.specs.Event.{cause_of, deliver_of, exec_of, finish_of, forge_of, row_of, settle_of, step_of, stop_of, sweep_of, tags_of, take_of, trigger_of, wait_of, word_of}
use Rattle.hr_script.specs.Kind.{kind_in}
use Rattle.hr_script.specs.Line.{arguments_of, break_of, image_of, index_of, jobs_of, line_meaning, manifest_of, meaning_of, orphan_of, unless_misplaced, where_read}
use Rattle.hr_script.specs.Meaning.{Follows, Meaning, gives, ◌>>=◌}
use Rattle.hr_script.specs.Planned.{change_of, fault_of}
use Rattle.hr_script.specs.Progress.{at_start, is_misplaced, progress_after}
use Rattle.hr_script.specs.Reading.{AreRead, GoesOn, IsReading}
use Rattle.hr_script.specs.Text.{is_read, lines_of, words_of}
use Rattle.hr_script.specs.declared.kind.Kind.{Kind}
use Rattle.hr_script.specs.declared.kind.Kind.TheVariants as kinds
use Rattle.hr_script.specs.declared.line.Line.{Line}
use Rattle.hr_script.specs.declared.progress.Progress.{Progress}
use Rattle.hr_script.specs.declared.reading.Lines.{Lines}
use Rattle.hr_script.specs.declared.reading.Numbered.{Numbered}
use Rattle.hr_script.specs.declared.refusal.Why.{Why}

-- P holds of each line that these words mean
abbrev pub GivesOnly : (Line → Type 0) → (List Text → Meaning Line) → Type 0
GivesOnly P meaning = (words : List Text) (l : Line) → meaning words (Ok l) → P l

-- P holds of each line of each kind
pub record OfEachKind (P : Line → Type 0) : Type 0 where
  pub image : GivesOnly P image_of
  pub index : GivesOnly P index_of
  pub orphan : GivesOnly P orphan_of
  pub manifest : GivesOnly P manifest_of
  pub broken : GivesOnly P break_of
  pub fault : (lands : Bool) → GivesOnly P (fault_of lands)
  pub change : GivesOnly P change_of
  pub jobs : GivesOnly P jobs_of
  pub trigger : GivesOnly P trigger_of
  pub take : GivesOnly P take_of
  pub step : GivesOnly P step_of
  pub settle : GivesOnly P settle_of
  pub stop : GivesOnly P stop_of
  pub deliver : GivesOnly P deliver_of
  pub forge : GivesOnly P forge_of
  pub wait : GivesOnly P wait_of
  pub sweep : GivesOnly P sweep_of
  pub finish : GivesOnly P finish_of
  pub tags : GivesOnly P tags_of
  pub row : GivesOnly P row_of
  pub exec : GivesOnly P exec_of
  pub word : GivesOnly P word_of
  pub cause : GivesOnly P cause_of

-- what follows from each value that a first meaning gives
pub through : {A : Type 0} (P : Line → Type 0) (first : Meaning A) (next : A → Meaning Line) → ((a : A) → first (Ok a) → (l : Line) → next a (Ok l) → P l)
    → (l : Line) → (first >>= next) (Ok l) → P l
through {A} P first next holds l is = go is.0 is.1 is.2
  where
    go : (value : Result A Why) → first value → Follows next value (Ok l) → P l
    go (Ok a) was then = holds a was l then
    go (Err why) was then = cc then

kind_holds : (P : Line → Type 0) → OfEachKind P → (kind : Kind) (words : List Text) (l : Line) → arguments_of kind words (Ok l) → P l
kind_holds P each kinds.Image words l is = each.image words l is
kind_holds P each kinds.Index words l is = each.index words l is
kind_holds P each kinds.Orphan words l is = each.orphan words l is
kind_holds P each kinds.Manifest words l is = each.manifest words l is
kind_holds P each kinds.Break words l is = each.broken words l is
kind_holds P each kinds.Fault words l is = each.fault false words l is
kind_holds P each kinds.Lands words l is = each.fault true words l is
kind_holds P each kinds.Change words l is = each.change words l is
kind_holds P each kinds.Jobs words l is = each.jobs words l is
kind_holds P each kinds.Trigger words l is = each.trigger words l is
kind_holds P each kinds.Take words l is = each.take words l is
kind_holds P each kinds.Step words l is = each.step words l is
kind_holds P each kinds.Settle words l is = each.settle words l is
kind_holds P each kinds.Stop words l is = each.stop words l is
kind_holds P each kinds.Deliver words l is = each.deliver words l is
kind_holds P each kinds.Forge words l is = each.forge words l is
kind_holds P each kinds.Wait words l is = each.wait words l is
kind_holds P each kinds.Sweep words l is = each.sweep words l is
kind_holds P each kinds.Finish words l is = each.finish words l is
kind_holds P each kinds.Tags words l is = each.tags words l is
kind_holds P each kinds.Row words l is = each.row words l is
kind_holds P each kinds.Exec words l is = each.exec words l is
kind_holds P each kinds.Word words l is = each.word words l is
kind_holds P each kinds.Cause words l is = each.cause words l is
kind_holds P each kinds.Later words l is = cc is

placed_holds : (P : Line → Type 0) → OfEachKind P → (misplaced : Bool) (kind : Kind) (words : List Text) (l : Line)
    → unless_misplaced misplaced (arguments_of kind words) (Ok l) → P l
placed_holds P each true kind words l is = cc is
placed_holds P each false kind words l is = kind_holds P each kind words l is

-- what holds of each line of each kind holds of each line
line_cases : (P : Line → Type 0) → OfEachKind P → (progress : Progress) (words : List Text) (l : Line) → meaning_of progress words (Ok l) → P l
line_cases P each progress [] l is = cc is
line_cases P each progress (first ∷ others) l is =
    through P (kind_in first) _ (λ kind one l then. placed_holds P each (is_misplaced progress kind) kind others l then) l is

-- ---- lines one after the other

abbrev HoldsIfSome : (Line → Type 0) → Result (Option Line) Why → Type 0
HoldsIfSome P (Ok (Some l)) = P l
HoldsIfSome P (Ok None) = ⊤
HoldsIfSome P (Err why) = ⊤

some_holds : (P : Line → Type 0) (first : Meaning Line) → ((l : Line) → first (Ok l) → P l) → (m : Result (Option Line) Why)
    → (first >>= λ meant. gives (Some meant)) m → HoldsIfSome P m
some_holds P first holds m is = go is.0 is.1 is.2
  where
    go : (value : Result Line Why) → first value → Follows (λ meant. gives (Some meant)) value m → HoldsIfSome P m
    go (Ok l) was then = subst (HoldsIfSome P) (sym then) (holds l was)
    go (Err why) was then = subst (HoldsIfSome P) (sym then) tt

where_holds : (P : Line → Type 0) (read : Bool) (meaning : Meaning (Option Line)) → ((m : Result (Option Line) Why) → meaning m → HoldsIfSome P m)
    → (m : Result (Option Line) Why) → where_read read meaning m → HoldsIfSome P m
where_holds P true meaning holds m is = holds m is
where_holds P false meaning holds m is = subst (HoldsIfSome P) (sym is) tt

line_holds : (P : Line → Type 0) → OfEachKind P → (progress : Progress) (text : Text) (m : Result (Option Line) Why) → line_meaning progress text m → HoldsIfSome P m
line_holds P each progress text m is =
    where_holds P (is_read text) _ (λ n given. some_holds P (meaning_of progress (words_of text)) (λ l was. line_cases P each progress (words_of text) l was) n given) m is

-- P holds of each of these lines
abbrev pub HoldsOfEach : (Line → Type 0) → List Numbered → Type 0
HoldsOfEach P lines = AllByRecursion (λ numbered. P numbered.line) lines

behind_holds : (P : Line → Type 0) (Behind : Progress → Lines → Type 0) → ((later : Progress) (found : Lines) → Behind later found → HoldsOfEach P found.lines)
    → (number : ℕ) (progress : Progress) (m : Result (Option Line) Why) (found : Lines) → HoldsIfSome P m → GoesOn Behind number progress m found → HoldsOfEach P found.lines
behind_holds P Behind rest number progress (Ok None) found holds is = rest progress found is
behind_holds P Behind rest number progress (Ok (Some l)) found holds is =
    subst (λ (f : Lines). HoldsOfEach P f.lines) (sym is.2) (holds, rest (progress_after progress l) is.0 is.1)
behind_holds P Behind rest number progress (Err why) found holds is = subst (λ (f : Lines). HoldsOfEach P f.lines) (sym is) tt

all_hold : (P : Line → Type 0) → OfEachKind P → (number : ℕ) (progress : Progress) (texts : List Text) (found : Lines) → AreRead number progress texts found → HoldsOfEach P found.lines
all_hold P each number progress [] found is = subst (λ (f : Lines). HoldsOfEach P f.lines) (sym is) tt
all_hold P each number progress (text ∷ texts) found is =
    behind_holds P (λ later. AreRead (number + 1) later texts) (λ later rest given. all_hold P each (number + 1) later texts rest given)
    number progress is.0 found (line_holds P each progress text is.0 is.1) is.2

-- what holds of each line of each kind holds of each line that is read of a text
pub reading_holds : (P : Line → Type 0) → OfEachKind P → (text : Text) (lines : Lines) → IsReading text lines → HoldsOfEach P lines.lines
reading_holds P each text lines is = all_hold P each 1 at_start (lines_of text) lines is
