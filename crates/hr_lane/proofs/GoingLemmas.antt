-- A revision that goes on after a line is the one that was taken out.
use Rattle.std.proofs.Common.{◌≡◌, refl, ap, subst, ◌∙◌, List}
use Rattle.std.specs.Prelude.{Option, Some, None}
use Rattle.hr_name.specs.Tag.{TagName}
use Rattle.hr_event.specs.declared.entry.Entry.{Entry}
use Rattle.hr_line.specs.Line.{LineEnd}
use Rattle.hr_line.specs.State.{HeldAfter, Link, held_at}
use Rattle.hr_line.specs.Step.{goes_on, next_tag}
use Rattle.hr_line.specs.declared.held.Admitted.{Admitted}
use Rattle.hr_line.specs.declared.held.Held.{Held}
use Rattle.hr_line.specs.declared.held.Work.{Work}
use Rattle.hr_lane.specs.Going.{TriesNext}
use Rattle.hr_lane.specs.Line.{DoesBetween}

goes_by : (h : Held) (work : Option Work) → (goes_on h work).by ≡ h.by
goes_by h None = refl
goes_by h (Some w) = refl

-- its job is free where it was
pub goes_free : (h made : Held) (work : Option Work) (held later : List Held) → later ≡ held
    → made ≡ goes_on h work → held_at held h.by.job.0 ≡ None → held_at later made.by.job.0 ≡ None
goes_free h made work held later same is free =
    ap (λ (hs : List Held). held_at hs made.by.job.0) same
    ∙ ap (λ (x : Held). held_at held x.by.job.0) is
    ∙ ap (λ (b : Admitted). held_at held b.job.0) (goes_by h work) ∙ free

-- it is put back under its job
pub goes_after : (h made : Held) (work : Option Work) (held later after : List Held) → later ≡ held
    → made ≡ goes_on h work → HeldAfter made.by.job.0 (Some made) later after
    → HeldAfter h.by.job.0 (Some (goes_on h work)) held after
goes_after h made work held later after same is put =
    let moved : HeldAfter (goes_on h work).by.job.0 (Some (goes_on h work)) later after =
    subst (λ (x : Held). HeldAfter x.by.job.0 (Some x) later after) is put in
    let own : HeldAfter h.by.job.0 (Some (goes_on h work)) later after =
    subst (λ (b : Admitted). HeldAfter b.job.0 (Some (goes_on h work)) later after) (goes_by h work) moved in
    subst (λ (hs : List Held). HeldAfter h.by.job.0 (Some (goes_on h work)) hs after) same own

-- the line was tried for its next tag, over the journal as it was
pub tries_next : (h : Held) (tag : TagName) (sources from dests to : List Link) (log before after : List Entry)
    (end : LineEnd) → next_tag h ≡ Some tag → before ≡ log
    → DoesBetween h.by tag h.work sources from dests to before after end
    → TriesNext h sources from dests to log after end
tries_next h tag sources from dests to log before after end next same between = record {
  tag = tag;
  next = next;
  between = subst (λ (l : List Entry). DoesBetween h.by tag h.work sources from dests to l after end) same between;
}
