-- Each end of a revision is one that the journal shows: a success finished each of its tags, and an
-- error has its cause.
use Rattle.std.proofs.Common.{◌≡◌, inl, inr, refl, sym, ap, subst, ◌∙◌, ℕ, zero, suc, ◌+◌, List, [], ◌∷◌, ◌++◌, arith}
use Rattle.std.specs.Prelude.{Option, Some, None, IfSome, IsSome, Result, Ok, Err, map, slice_get, take}
use Rattle.std.specs.List.{AllByRecursion}
use Rattle.hr_base.specs.declared.number.JobNo.{JobNo}
use Rattle.hr_base.specs.declared.status.Mark.{Mark}
use Rattle.hr_base.specs.declared.status.Status.{Status}
use Rattle.hr_name.specs.Tag.{TagName}
use Rattle.hr_event.specs.declared.cause.Cause.{Cause}
use Rattle.hr_event.specs.declared.entry.Entry.{Entry}
use Rattle.hr_event.specs.declared.entry.What.{What}
use Rattle.hr_event.specs.declared.entry.What.TheVariants as what
use Rattle.hr_journal.proofs.ListLaws.{each_then}
use Rattle.hr_line.specs.Admission.{Admits, Begins, held_first}
use Rattle.hr_line.specs.Evidence.{Says}
use Rattle.hr_line.specs.Finals.{EndHolds, EndsHold, IsFinished, SaysEnd}
use Rattle.hr_line.specs.Line.{entry_of}
use Rattle.hr_line.specs.Orderly.{IsNew, IsOrderly, admitted_at}
use Rattle.hr_line.specs.State.{HeldAfter, State, held_at}
use Rattle.hr_line.specs.Step.{Closes, ComesToEnd, DoesLine, Ends, Step, end_status, goes_on}
use Rattle.hr_line.specs.declared.answer.Admit.{Admit}
use Rattle.hr_line.specs.declared.answer.Admit.TheVariants as admit
use Rattle.hr_line.specs.declared.answer.Stepped.{Stepped}
use Rattle.hr_line.specs.declared.answer.Stepped.TheVariants as stepped
use Rattle.hr_line.specs.declared.held.Admitted.{Admitted}
use Rattle.hr_line.specs.declared.held.Held.{Held}
use Rattle.hr_line.specs.declared.held.Work.{Work}
use Rattle.hr_line.proofs.EvidenceLemmas.{says_later}
use Rattle.hr_line.proofs.FinalLemmas.{comes_says, line_says}
use Rattle.hr_line.proofs.FinishLemmas.{line_finishes}
use Rattle.hr_line.proofs.LinkLemmas.{held_other, held_same, number_cases}
use Rattle.hr_line.proofs.OrderlyLemmas.{end_admitted, is_held, older_admitted}
use Rattle.hr_line.proofs.WroteLemmas.{EndsNone, Unended, unended_one, unended_then}

-- ---- lists

-- one element more, which is the next
take_next : {X : Type 0} (P : X → Type 0) (xs : List X) (n : ℕ) (x : X) → slice_get xs n ≡ Some x → AllByRecursion P (take n xs)
    → P x → AllByRecursion P (take (suc n) xs)
take_next P [] n x is all holds = cc
take_next P (y ∷ []) zero x is all holds = let same : y ≡ x = cc in (subst P (sym same) holds, tt)
take_next P (y ∷ z ∷ ys) zero x is all holds = let same : y ≡ x = cc in (subst P (sym same) holds, tt)
take_next P (y ∷ ys) (suc n) x is all holds = (all.0, take_next P ys n x is all.1 holds)

-- all elements, where none is next
all_taken : {X : Type 0} (P : X → Type 0) (xs : List X) (n : ℕ) → slice_get xs n ≡ None → AllByRecursion P (take n xs)
    → AllByRecursion P xs
all_taken P [] n is all = tt
all_taken P (y ∷ ys) zero is all = cc
all_taken P (y ∷ ys) (suc n) is all = (all.0, all_taken P ys n is all.1)

-- ---- what was finished stays so

says_more : (a b : Admitted) (more : List What) (log : List Entry) (said : What) → Says a log said
    → Says a (map (entry_of b) more ++ log) said
says_more a b [] log said says = says
says_more a b (first ∷ more) log said says =
    says_later a (entry_of b first) (map (entry_of b) more ++ log) said (says_more a b more log said says)

finished_later : (a b : Admitted) (older newer : List Entry) → Unended b older newer → (tag : TagName) → IsFinished a older tag
    → IsFinished a newer tag
finished_later a b older newer wrote tag done = record {
  digest = done.digest;
  old = done.old;
  how = done.how;
  says = subst (λ (es : List Entry). Says a es (what.Show tag done.digest done.old done.how)) (sym wrote.joined)
      (says_more a b wrote.more older (what.Show tag done.digest done.old done.how) done.says);
  sure = done.sure;
}

all_later : (a b : Admitted) (older newer : List Entry) → Unended b older newer → (tags : List TagName)
    → AllByRecursion (IsFinished a older) tags → AllByRecursion (IsFinished a newer) tags
all_later a b older newer wrote tags done =
    each_then {P = IsFinished a older} {Q = IsFinished a newer} (finished_later a b older newer wrote) tags done

holds_later : (a b : Admitted) (older newer : List Entry) → Unended b older newer → (status : Status) (cause : Option Cause)
    → EndHolds a older status cause → EndHolds a newer status cause
holds_later a b older newer wrote status None holds = (holds.0, all_later a b older newer wrote a.spec.tags holds.1)
holds_later a b older newer wrote status (Some why) holds = holds

says_end_later : (a b : Admitted) (older newer : List Entry) → Unended b older newer → (said : What) → SaysEnd a older said
    → SaysEnd a newer said
says_end_later a b older newer wrote (what.Ended status cause) says = holds_later a b older newer wrote status cause says
says_end_later a b older newer wrote said says = tt

-- an entry that says no end
says_no_end : (a : Admitted) (log : List Entry) (said : What) → EndsNone said → SaysEnd a log said
says_no_end a log (what.Ended status cause) none = absurd none
says_no_end a log said none = tt

abbrev EndAt : List Admitted → List Entry → Entry → Type 0
EndAt all log e = IfSome (admitted_at all e.job.0 e.rev) (λ a. SaysEnd a log e.what)

if_later : (found : Option Admitted) (b : Admitted) (older newer : List Entry) → Unended b older newer → (said : What)
    → IfSome found (λ a. SaysEnd a older said) → IfSome found (λ a. SaysEnd a newer said)
if_later None b older newer wrote said says = tt
if_later (Some a) b older newer wrote said says = says_end_later a b older newer wrote said says

if_none : (found : Option Admitted) (log : List Entry) (said : What) → EndsNone said → IfSome found (λ a. SaysEnd a log said)
if_none None log said none = tt
if_none (Some a) log said none = says_no_end a log said none

ends_later : (all : List Admitted) (b : Admitted) (older newer : List Entry) → Unended b older newer → (log : List Entry)
    → AllByRecursion (EndAt all older) log → AllByRecursion (EndAt all newer) log
ends_later all b older newer wrote log says =
    each_then {P = EndAt all older} {Q = EndAt all newer}
    (λ e had. if_later (admitted_at all e.job.0 e.rev) b older newer wrote e.what had) log says

ends_more : (all : List Admitted) (a : Admitted) (more : List What) (log whole : List Entry) → AllByRecursion EndsNone more
    → AllByRecursion (EndAt all whole) log → AllByRecursion (EndAt all whole) (map (entry_of a) more ++ log)
ends_more all a [] log whole none says = says
ends_more all a (said ∷ more) log whole none says = (
  if_none (admitted_at all a.job.0 a.rev) whole said none.0,
  ends_more all a more log whole none.1 says,
)

-- what the ends of a journal say is so with entries more that say no end
ends_unended : (all : List Admitted) (a : Admitted) (older newer : List Entry) → Unended a older newer
    → AllByRecursion (EndAt all older) older → AllByRecursion (EndAt all newer) newer
ends_unended all a older newer wrote says =
    subst (λ (es : List Entry). AllByRecursion (EndAt all newer) es) (sym wrote.joined)
    (ends_more all a wrote.more older newer wrote.each (ends_later all a older newer wrote older says))

-- ---- a revision that is held

module _ (s t : State) (job : ℕ) (h : Held) (orderly : IsOrderly s) (here : held_at s.held job ≡ Some h) (holds : EndsHold s)
    (admitted : t.admitted ≡ s.admitted) where
  own_finished : AllByRecursion (IsFinished h.by s.log) (take h.next h.by.spec.tags)
  own_finished =
      subst (λ (x : Option Held). IfSome x (λ k. AllByRecursion (IsFinished k.by s.log) (take k.next k.by.spec.tags))) here (holds.held job)

  held_finished : (now : Option Held) → HeldAfter job now s.held t.held
      → ((k : Held) → AllByRecursion (IsFinished k.by s.log) (take k.next k.by.spec.tags)
      → AllByRecursion (IsFinished k.by t.log) (take k.next k.by.spec.tags))
      → IfSome now (λ k. AllByRecursion (IsFinished k.by t.log) (take k.next k.by.spec.tags))
      → (other : ℕ) → IfSome (held_at t.held other) (λ k. AllByRecursion (IsFinished k.by t.log) (take k.next k.by.spec.tags))
  held_finished now after stay own other = elim (number_cases other job) [
    | inl is ↦
        subst (λ (x : Option Held). IfSome x (λ k. AllByRecursion (IsFinished k.by t.log) (take k.next k.by.spec.tags)))
        (sym (ap (held_at t.held) is ∙ held_same job now s.held t.held after)) own
    | inr apart ↦
        subst (λ (x : Option Held). IfSome x (λ k. AllByRecursion (IsFinished k.by t.log) (take k.next k.by.spec.tags)))
        (sym (held_other job now s.held t.held other after apart)) (one (held_at s.held other) (holds.held other))
  ]
    where
      one : (found : Option Held) → IfSome found (λ k. AllByRecursion (IsFinished k.by s.log) (take k.next k.by.spec.tags))
          → IfSome found (λ k. AllByRecursion (IsFinished k.by t.log) (take k.next k.by.spec.tags))
      one None had = tt
      one (Some k) had = stay k had

  -- nothing ended
  unended_holds : (now : Option Held) → HeldAfter job now s.held t.held → Unended h.by s.log t.log
      → IfSome now (λ k. AllByRecursion (IsFinished k.by t.log) (take k.next k.by.spec.tags)) → EndsHold t
  unended_holds now after wrote own = record {
    logged = subst (λ (all : List Admitted). AllByRecursion (EndAt all t.log) t.log) (sym admitted)
        (ends_unended s.admitted h.by s.log t.log wrote holds.logged);
    held = held_finished now after (λ k had. all_later k.by h.by s.log t.log wrote (take k.next k.by.spec.tags) had) own;
  }

  -- the revision ended
  ended_holds : (status : Status) (cause : Option Cause) (middle : List Entry) → HeldAfter job None s.held t.held
      → Unended h.by s.log middle → t.log ≡ entry_of h.by (what.Ended status cause) ∷ middle → EndHolds h.by middle status cause
      → EndsHold t
  ended_holds status cause middle after wrote writes now =
      let last : List Entry = entry_of h.by (what.Ended status cause) ∷ middle in
      record {
        logged = subst (λ (all : List Admitted). AllByRecursion (EndAt all t.log) t.log) (sym admitted)
            (subst (λ (es : List Entry). AllByRecursion (EndAt s.admitted es) es) (sym writes) (
              subst (λ (x : Option Admitted). IfSome x (λ a. EndHolds a last status cause)) (sym (is_held s job h orderly here).admitted)
                  (one_later h.by status cause now),
              each_then {P = EndAt s.admitted middle} {Q = EndAt s.admitted last}
                  (λ e had. at_later (admitted_at s.admitted e.job.0 e.rev) e.what had) middle
                  (ends_unended s.admitted h.by s.log middle wrote holds.logged),
            ));
        held = held_finished None after (λ k had.
            subst (λ (es : List Entry). AllByRecursion (IsFinished k.by es) (take k.next k.by.spec.tags)) (sym writes)
            (finished_once k.by (take k.next k.by.spec.tags) (all_later k.by h.by s.log middle wrote (take k.next k.by.spec.tags) had))) tt;
      }
    where
      finished_once : (a : Admitted) (tags : List TagName) → AllByRecursion (IsFinished a middle) tags
          → AllByRecursion (IsFinished a (entry_of h.by (what.Ended status cause) ∷ middle)) tags
      finished_once a tags done =
          each_then {P = IsFinished a middle} {Q = IsFinished a (entry_of h.by (what.Ended status cause) ∷ middle)}
          (λ tag had. record {
            digest = had.digest;
            old = had.old;
            how = had.how;
            says = says_later a (entry_of h.by (what.Ended status cause)) middle (what.Show tag had.digest had.old had.how) had.says;
            sure = had.sure;
          }) tags done

      one_later : (a : Admitted) (st : Status) (why : Option Cause) → EndHolds a middle st why
          → EndHolds a (entry_of h.by (what.Ended status cause) ∷ middle) st why
      one_later a st None had = (had.0, finished_once a a.spec.tags had.1)
      one_later a st (Some w) had = had

      said_later : (a : Admitted) (said : What) → SaysEnd a middle said
          → SaysEnd a (entry_of h.by (what.Ended status cause) ∷ middle) said
      said_later a (what.Ended st why) had = one_later a st why had
      said_later a said had = tt

      at_later : (found : Option Admitted) (said : What) → IfSome found (λ a. SaysEnd a middle said)
          → IfSome found (λ a. SaysEnd a (entry_of h.by (what.Ended status cause) ∷ middle) said)
      at_later None said had = tt
      at_later (Some a) said had = said_later a said had

-- ---- each part of a step

goes_finished : (s t : State) (h : Held) (work : Option Work) → DoesLine h s t (Ok work)
    → AllByRecursion (IsFinished h.by s.log) (take h.next h.by.spec.tags)
    → AllByRecursion (IsFinished (goes_on h work).by t.log) (take (goes_on h work).next (goes_on h work).by.spec.tags)
goes_finished s t h (Some w) line done =
    all_later h.by h.by s.log t.log (line_says h s t (Ok (Some w)) line) (take h.next h.by.spec.tags) done
goes_finished s t h None line done =
    let next : suc h.next ≡ h.next + 1 = omega arith in
    subst (λ (n : ℕ). AllByRecursion (IsFinished h.by t.log) (take n h.by.spec.tags)) next
    (take_next (IsFinished h.by t.log) h.by.spec.tags h.next line.tag line.next
    (all_later h.by h.by s.log t.log (line_says h s t (Ok None) line) (take h.next h.by.spec.tags) done)
    (line_finishes h.by line.tag s.log t.log (Ok None) refl h.work line.f line.g line.p line.q line.line))

end_holds : (s mid : State) (h : Held) (why : Option Cause) (status : Status) → status ≡ end_status why → ComesToEnd h s mid why
    → AllByRecursion (IsFinished h.by s.log) (take h.next h.by.spec.tags) → EndHolds h.by mid.log status why
end_holds s mid h None status is comes done = (
  is,
  all_taken (IsFinished h.by mid.log) h.by.spec.tags h.next comes.0
      (all_later h.by h.by s.log mid.log (comes_says h s mid None comes) (take h.next h.by.spec.tags) done),
)
end_holds s mid h (Some why) status is comes done = is

ends_hold : (s t : State) (job : JobNo) (closed : Result Status Mark) → IsOrderly s → EndsHold s → Ends s t job closed → EndsHold t
ends_hold s t job closed orderly holds ends = at closed ends.closes
  where
    wrote : Unended ends.held.by s.log ends.mid.log
    wrote = comes_says ends.held s ends.mid ends.why ends.comes

    admitted : t.admitted ≡ s.admitted
    admitted = ends.admitted ∙ end_admitted ends.held s ends.mid ends.why ends.comes

    at : (closed : Result Status Mark) → Closes ends.held.by ends.why ends.mid t closed → EndsHold t
    at (Ok status) closes =
        ended_holds s t job.0 ends.held orderly ends.here holds admitted status ends.why ends.mid.log ends.gone wrote closes.1
        (end_holds s ends.mid ends.held ends.why status closes.0 ends.comes
        (own_finished s t job.0 ends.held orderly ends.here holds admitted))
    at (Err mark) closes =
        unended_holds s t job.0 ends.held orderly ends.here holds admitted None ends.gone
        (unended_then ends.held.by what.Dropped s.log ends.mid.log t.log tt wrote closes.0) tt

-- each step ends a revision only so
pub step_holds : (s t : State) (job : JobNo) (answer : Stepped) → IsOrderly s → EndsHold s → Step s t job answer → EndsHold t
step_holds s t job stepped.NotHere orderly holds step = subst EndsHold (sym step.1) holds
step_holds s t job stepped.Did orderly holds step =
    unended_holds s t job.0 step.held orderly step.here holds step.line.admitted (Some (goes_on step.held step.work)) step.now
    (line_says step.held s t (Ok step.work) step.line)
    (goes_finished s t step.held step.work step.line
    (own_finished s t job.0 step.held orderly step.here holds step.line.admitted))
step_holds s t job (stepped.Lost mark) orderly holds (inl drops) =
    unended_holds s t job.0 drops.held orderly drops.here holds drops.admitted None drops.gone
    (unended_one drops.held.by what.Dropped s.log t.log tt drops.log) tt
step_holds s t job (stepped.Lost mark) orderly holds (inr ends) = ends_hold s t job (Err mark) orderly holds ends
step_holds s t job (stepped.Ended status) orderly holds step = ends_hold s t job (Ok status) orderly holds step

-- ---- an admission

begins_hold : (s t : State) (a : Admitted) → IsOrderly s → IsNew s.admitted a → EndsHold s → Begins s t a → EndsHold t
begins_hold s t a orderly new holds begins = record {
  logged = subst (λ (all : List Admitted). AllByRecursion (EndAt all t.log) t.log) (sym begins.admitted)
      (ends_unended (a ∷ s.admitted) a s.log t.log wrote (known s.log orderly.logged holds.logged));
  held = λ other. elim (number_cases other a.job.0) [
    | inl is ↦
        subst (λ (x : Option Held). IfSome x (λ k. AllByRecursion (IsFinished k.by t.log) (take k.next k.by.spec.tags)))
        (sym (ap (held_at t.held) is ∙ held_same a.job.0 (Some (held_first a)) s.held t.held begins.held)) (none a.spec.tags)
    | inr apart ↦
        subst (λ (x : Option Held). IfSome x (λ k. AllByRecursion (IsFinished k.by t.log) (take k.next k.by.spec.tags)))
        (sym (held_other a.job.0 (Some (held_first a)) s.held t.held other begins.held apart))
        (one (held_at s.held other) (holds.held other))
  ];
}
  where
    wrote : Unended a s.log t.log
    wrote = unended_one a what.Began s.log t.log tt begins.log

    none : (tags : List TagName) → AllByRecursion (IsFinished a t.log) (take 0 tags)
    none [] = tt
    none (tag ∷ tags) = tt

    one : (found : Option Held) → IfSome found (λ k. AllByRecursion (IsFinished k.by s.log) (take k.next k.by.spec.tags))
        → IfSome found (λ k. AllByRecursion (IsFinished k.by t.log) (take k.next k.by.spec.tags))
    one None had = tt
    one (Some k) had = all_later k.by a s.log t.log wrote (take k.next k.by.spec.tags) had

    known : (log : List Entry) → AllByRecursion (λ e. IsSome (admitted_at s.admitted e.job.0 e.rev)) log
        → AllByRecursion (EndAt s.admitted s.log) log → AllByRecursion (EndAt (a ∷ s.admitted) s.log) log
    known [] logged says = tt
    known (e ∷ es) logged says = (
      subst (λ (x : Option Admitted). IfSome x (λ b. SaysEnd b s.log e.what))
          (sym (older_admitted s.admitted a e.job.0 e.rev new logged.0)) says.0,
      known es logged.1 says.1,
    )

pub admits_hold : (s t : State) (a : Admitted) (answer : Admit) → IsOrderly s → IsNew s.admitted a → EndsHold s → Admits s t a answer
    → EndsHold t
admits_hold s t a admit.Began orderly new holds admits = begins_hold s t a orderly new holds admits
admits_hold s t a (admit.Lost mark) orderly new holds admits = subst EndsHold (sym admits) holds
admits_hold s t a admit.Memory orderly new holds admits = subst EndsHold (sym admits) holds
