-- Each tag that a lane finished was read before, and came out as the look just before decides.
use Rattle.std.proofs.Common.{◌≡◌, inl, inr, sym, ap, subst, ◌∙◌, ℕ, List, [], ◌∷◌, ◌++◌}
use Rattle.std.specs.Prelude.{Option, Some, None, IfSome, IsSome, Result, Ok, Err, map}
use Rattle.std.specs.List.{AllByRecursion}
use Rattle.hr_base.specs.declared.number.JobNo.{JobNo}
use Rattle.hr_base.specs.declared.status.Mark.{Mark}
use Rattle.hr_base.specs.declared.status.Status.{Status}
use Rattle.hr_digest.specs.declared.digest.Digest.{Digest}
use Rattle.hr_name.specs.Tag.{TagName}
use Rattle.hr_event.specs.declared.cause.Cause.{Cause}
use Rattle.hr_event.specs.declared.entry.Entry.{Entry}
use Rattle.hr_event.specs.declared.entry.What.{What}
use Rattle.hr_event.specs.declared.entry.What.TheVariants as what
use Rattle.hr_graph.specs.Sound.{IsSound}
use Rattle.hr_line.specs.Admission.{Admits, Begins, held_first}
use Rattle.hr_line.specs.Causes.{AreCausesShown}
use Rattle.hr_line.specs.Kept.{WorkSeen}
use Rattle.hr_line.specs.Line.{LineEnd, entry_of}
use Rattle.hr_line.specs.Orderly.{IsNew, IsOrderly, admitted_at}
use Rattle.hr_line.specs.Shows.{AreShowsRead, RootRead, SaysShow, ShowsHold}
use Rattle.hr_line.specs.State.{HeldAfter, State, held_at}
use Rattle.hr_line.specs.Step.{Closes, ComesToEnd, DoesLine, Ends, Step, goes_on, next_tag}
use Rattle.hr_line.specs.declared.answer.Admit.{Admit}
use Rattle.hr_line.specs.declared.answer.Admit.TheVariants as admit
use Rattle.hr_line.specs.declared.answer.Stepped.{Stepped}
use Rattle.hr_line.specs.declared.answer.Stepped.TheVariants as stepped
use Rattle.hr_line.specs.declared.held.Admitted.{Admitted}
use Rattle.hr_line.specs.declared.held.Held.{Held}
use Rattle.hr_line.specs.declared.held.Work.{Work}
use Rattle.hr_line.proofs.FinalLemmas.{comes_says, line_says}
use Rattle.hr_line.proofs.LinkLemmas.{held_other, held_same, number_cases}
use Rattle.hr_line.proofs.ListLemmas.{get_contains}
use Rattle.hr_line.proofs.OrderlyLemmas.{end_admitted, is_held, older_admitted}
use Rattle.hr_line.proofs.ShowLineLemmas.{LineShows, line_shows, root_later, shows_still}
use Rattle.hr_line.proofs.WroteLemmas.{Unended, unended_one}

-- what is known of the work of a revision that is held
abbrev HeldRead : List Entry → Held → Type 0
HeldRead log h = IfSome h.work (λ w. IfSome (next_tag h) (λ tag. RootRead h.by log tag w.walk.root))

root_more : (a b : Admitted) (more : List What) (log : List Entry) (tag : TagName) (d : Digest) → RootRead a log tag d
    → RootRead a (map (entry_of b) more ++ log) tag d
root_more a b [] log tag d read = read
root_more a b (said ∷ more) log tag d read =
    root_later a (entry_of b said) (map (entry_of b) more ++ log) tag d (root_more a b more log tag d read)

work_later : (a b : Admitted) (older newer : List Entry) → Unended b older newer → (work : Option Work) (next : Option TagName)
    → IfSome work (λ w. IfSome next (λ tag. RootRead a older tag w.walk.root))
    → IfSome work (λ w. IfSome next (λ tag. RootRead a newer tag w.walk.root))
work_later a b older newer wrote None next read = tt
work_later a b older newer wrote (Some w) None read = tt
work_later a b older newer wrote (Some w) (Some tag) read =
    subst (λ (es : List Entry). RootRead a es tag w.walk.root) (sym wrote.joined)
    (root_more a b wrote.more older tag w.walk.root read)

found_later : (b : Admitted) (older newer : List Entry) → Unended b older newer → (found : Option Held)
    → IfSome found (HeldRead older) → IfSome found (HeldRead newer)
found_later b older newer wrote None read = tt
found_later b older newer wrote (Some k) read = work_later k.by b older newer wrote k.work (next_tag k) read

held_read : (s t : State) (job : ℕ) (now : Option Held) → HeldAfter job now s.held t.held
    → ((found : Option Held) → IfSome found (HeldRead s.log) → IfSome found (HeldRead t.log))
    → ((other : ℕ) → IfSome (held_at s.held other) (HeldRead s.log)) → IfSome now (HeldRead t.log)
    → (other : ℕ) → IfSome (held_at t.held other) (HeldRead t.log)
held_read s t job now after stay had own other = elim (number_cases other job) [
  | inl is ↦
      subst (λ (x : Option Held). IfSome x (HeldRead t.log))
      (sym (ap (held_at t.held) is ∙ held_same job now s.held t.held after)) own
  | inr apart ↦
      subst (λ (x : Option Held). IfSome x (HeldRead t.log))
      (sym (held_other job now s.held t.held other after apart)) (stay (held_at s.held other) (had other))
]

-- ---- a line

module _ (h : Held) (s t : State) (job : ℕ) (orderly : IsOrderly s) (here : held_at s.held job ≡ Some h)
    (shown : AreCausesShown s) (reads : AreShowsRead s) where
  own_read : HeldRead s.log h
  own_read = subst (λ (x : Option Held). IfSome x (HeldRead s.log)) here (reads.held job)

  own_seen : IfSome h.work (WorkSeen h.by s.log)
  own_seen = subst (λ (x : Option Held). IfSome x (λ k. IfSome k.work (WorkSeen k.by s.log))) here (shown.held job)

  work_known : (work : Option Work) (next : Option TagName) (tag : TagName) → next ≡ Some tag → IfSome work (WorkSeen h.by s.log)
      → IfSome work (λ w. IfSome next (λ x. RootRead h.by s.log x w.walk.root))
      → IfSome work (λ w. IsSound w.walk × RootRead h.by s.log tag w.walk.root)
  work_known None next tag is seen read = tt
  work_known (Some w) next tag is seen read =
      (seen.sound, subst (λ (n : Option TagName). IfSome n (λ x. RootRead h.by s.log x w.walk.root)) is read)

  line_leaves : (end : LineEnd) → (line : DoesLine h s t end) → LineShows s.admitted h.by line.tag t.log end
  line_leaves end line =
      line_shows s.admitted h.by line.tag (is_held s job h orderly here).admitted
      (get_contains h.by.spec.tags h.next line.tag line.next) s.log t.log end reads.logged h.work line.f line.g line.p line.q
      (work_known h.work (next_tag h) line.tag line.next own_seen own_read) line.line

  going_read : (work : Option Work) → DoesLine h s t (Ok work) → HeldRead t.log (goes_on h work)
  going_read None line = tt
  going_read (Some w) line =
      subst (λ (n : Option TagName). IfSome n (λ x. RootRead h.by t.log x w.walk.root)) (sym line.next)
      (line_leaves (Ok (Some w)) line).goes

  end_logged : (why : Option Cause) → ComesToEnd h s t why → ShowsHold s.admitted t.log
  end_logged None comes = subst (λ (es : List Entry). ShowsHold s.admitted es) (sym comes.1.log) reads.logged
  end_logged (Some why) (inl line) = (line_leaves (Err why) line).logged
  end_logged (Some why) (inr rests) = subst (λ (es : List Entry). ShowsHold s.admitted es) (sym rests.1.log) reads.logged

-- what a part of a step leaves
left_read : (s t : State) (job : ℕ) (now : Option Held) → AreShowsRead s → t.admitted ≡ s.admitted → HeldAfter job now s.held t.held
    → ShowsHold s.admitted t.log → ((found : Option Held) → IfSome found (HeldRead s.log) → IfSome found (HeldRead t.log))
    → IfSome now (HeldRead t.log) → AreShowsRead t
left_read s t job now reads admitted after logged stay own = record {
  logged = subst (λ (all : List Admitted). ShowsHold all t.log) (sym admitted) logged;
  held = held_read s t job now after stay reads.held own;
}

ends_read : (s t : State) (job : JobNo) (closed : Result Status Mark) → IsOrderly s → AreCausesShown s → AreShowsRead s
    → Ends s t job closed → AreShowsRead t
ends_read s t job closed orderly shown reads ends = at closed ends.closes
  where
    wrote : Unended ends.held.by s.log ends.mid.log
    wrote = comes_says ends.held s ends.mid ends.why ends.comes

    admitted : t.admitted ≡ s.admitted
    admitted = ends.admitted ∙ end_admitted ends.held s ends.mid ends.why ends.comes

    logged : ShowsHold s.admitted ends.mid.log
    logged = end_logged ends.held s ends.mid job.0 orderly ends.here shown reads ends.why ends.comes

    one_more : (a b : Admitted) (said : What) (older : List Entry) (work : Option Work) (next : Option TagName)
        → IfSome work (λ w. IfSome next (λ tag. RootRead a older tag w.walk.root))
        → IfSome work (λ w. IfSome next (λ tag. RootRead a (entry_of b said ∷ older) tag w.walk.root))
    one_more a b said older None next read = tt
    one_more a b said older (Some w) None read = tt
    one_more a b said older (Some w) (Some tag) read = root_later a (entry_of b said) older tag w.walk.root read

    stay : (said : What) → t.log ≡ entry_of ends.held.by said ∷ ends.mid.log → (found : Option Held) → IfSome found (HeldRead s.log)
        → IfSome found (HeldRead t.log)
    stay said writes None read = tt
    stay said writes (Some k) read =
        subst (λ (es : List Entry). HeldRead es k) (sym writes)
        (one_more k.by ends.held.by said ends.mid.log k.work (next_tag k)
        (work_later k.by ends.held.by s.log ends.mid.log wrote k.work (next_tag k) read))

    at : (closed : Result Status Mark) → Closes ends.held.by ends.why ends.mid t closed → AreShowsRead t
    at (Ok status) closes =
        left_read s t job.0 None reads admitted ends.gone
        (subst (λ (es : List Entry). ShowsHold s.admitted es) (sym closes.1)
        (shows_still s.admitted ends.held.by (what.Ended status ends.why) ends.mid.log tt logged))
        (stay (what.Ended status ends.why) closes.1) tt
    at (Err mark) closes =
        left_read s t job.0 None reads admitted ends.gone
        (subst (λ (es : List Entry). ShowsHold s.admitted es) (sym closes.0)
        (shows_still s.admitted ends.held.by what.Dropped ends.mid.log tt logged))
        (stay what.Dropped closes.0) tt

-- each step finishes a tag only so
pub step_read : (s t : State) (job : JobNo) (answer : Stepped) → IsOrderly s → AreCausesShown s → AreShowsRead s → Step s t job answer
    → AreShowsRead t
step_read s t job stepped.NotHere orderly shown reads step = subst AreShowsRead (sym step.1) reads
step_read s t job stepped.Did orderly shown reads step =
    left_read s t job.0 (Some (goes_on step.held step.work)) reads step.line.admitted step.now
    (line_leaves step.held s t job.0 orderly step.here shown reads (Ok step.work) step.line).logged
    (found_later step.held.by s.log t.log (line_says step.held s t (Ok step.work) step.line))
    (going_read step.held s t job.0 orderly step.here shown reads step.work step.line)
step_read s t job (stepped.Lost mark) orderly shown reads (inl drops) =
    left_read s t job.0 None reads drops.admitted drops.gone
    (subst (λ (es : List Entry). ShowsHold s.admitted es) (sym drops.log)
    (shows_still s.admitted drops.held.by what.Dropped s.log tt reads.logged))
    (found_later drops.held.by s.log t.log (unended_one drops.held.by what.Dropped s.log t.log tt drops.log)) tt
step_read s t job (stepped.Lost mark) orderly shown reads (inr ends) = ends_read s t job (Err mark) orderly shown reads ends
step_read s t job (stepped.Ended status) orderly shown reads step = ends_read s t job (Ok status) orderly shown reads step

-- ---- an admission

more_admitted : (all : List Admitted) (a : Admitted) (log : List Entry) → IsNew all a
    → AllByRecursion (λ e. IsSome (admitted_at all e.job.0 e.rev)) log → ShowsHold all log → ShowsHold (a ∷ all) log
more_admitted all a [] new logged holds = tt
more_admitted all a (e ∷ es) new logged holds = (
  subst (λ (x : Option Admitted). IfSome x (λ b. SaysShow b es e.what)) (sym (older_admitted all a e.job.0 e.rev new logged.0)) holds.0,
  more_admitted all a es new logged.1 holds.1,
)

begins_read : (s t : State) (a : Admitted) → IsOrderly s → IsNew s.admitted a → AreShowsRead s → Begins s t a → AreShowsRead t
begins_read s t a orderly new reads begins = record {
  logged = subst (λ (all : List Admitted). ShowsHold all t.log) (sym begins.admitted)
      (subst (λ (es : List Entry). ShowsHold (a ∷ s.admitted) es) (sym begins.log)
      (shows_still (a ∷ s.admitted) a what.Began s.log tt (more_admitted s.admitted a s.log new orderly.logged reads.logged)));
  held = held_read s t a.job.0 (Some (held_first a)) begins.held
      (found_later a s.log t.log (unended_one a what.Began s.log t.log tt begins.log)) reads.held tt;
}

-- and each admission does
pub admits_read : (s t : State) (a : Admitted) (answer : Admit) → IsOrderly s → IsNew s.admitted a → AreShowsRead s → Admits s t a answer
    → AreShowsRead t
admits_read s t a admit.Began orderly new reads admits = begins_read s t a orderly new reads admits
admits_read s t a (admit.Lost mark) orderly new reads admits = subst AreShowsRead (sym admits) reads
admits_read s t a admit.Memory orderly new reads admits = subst AreShowsRead (sym admits) reads
