-- What holds of a lane at every moment, holds after a step.
use Rattle.std.proofs.Common.{◌≡◌, refl, sym, subst, ℕ, ◌≤◌, Bool, true, false, List, length, inl, inr}
use Rattle.std.specs.Prelude.{Option, Some, None, IsSome, IfSome, Result, Ok, Err, if◌then◌else◌, nat_eq}
use Rattle.hr_base.specs.declared.number.JobNo.{JobNo}
use Rattle.hr_base.specs.declared.number.RegNo.{RegNo}
use Rattle.hr_base.specs.declared.status.Mark.{Mark}
use Rattle.hr_base.specs.declared.status.Status.{Status}
use Rattle.hr_board.specs.View.{View}
use Rattle.hr_event.specs.declared.cause.Cause.{Cause}
use Rattle.hr_line.specs.Admission.{Begins, held_first}
use Rattle.hr_line.specs.Line.{LineEnd}
use Rattle.hr_line.specs.State.{HeldAfter, Link, State, held_at, link_at}
use Rattle.hr_line.specs.Step.{ComesToEnd, DoesLine, Drops, Ends, GoesOn, goes_on}
use Rattle.hr_line.specs.declared.answer.Admit.{Admit}
use Rattle.hr_line.specs.declared.answer.Admit.TheVariants as admit
use Rattle.hr_line.specs.declared.answer.Stepped.{Stepped}
use Rattle.hr_line.specs.declared.answer.Stepped.TheVariants as stepped
use Rattle.hr_line.specs.declared.held.Admitted.{Admitted}
use Rattle.hr_line.specs.declared.held.Held.{Held}
use Rattle.hr_line.specs.declared.held.Work.{Work}
use Rattle.hr_lane.specs.Admission.{AdmitsWord}
use Rattle.hr_lane.specs.Line.{IsLive}
use Rattle.hr_base.specs.declared.limit.TheConstants.{PIECE}
use Rattle.hr_lane.specs.State.{AreInOrder, CanStep, IsReady}
use Rattle.hr_lane.specs.Word.{Steps}
use Rattle.hr_lane.proofs.ConnLemmas.{there_with}
use Rattle.hr_lane.proofs.LiveLemmas.{line_live}

-- each connection that was there is there
record LinksStay (s t : State) : Type 0 where
  sources : (reg : RegNo) → IsSome (link_at s.sources reg) → IsSome (link_at t.sources reg)
  dests : (reg : RegNo) → IsSome (link_at s.dests reg) → IsSome (link_at t.dests reg)

-- what is held can be stepped
abbrev pub AllCanStep : State → Type 0
AllCanStep s = (job : ℕ) → IfSome (held_at s.held job) (CanStep s)

can_later : (s t : State) (h : Held) → LinksStay s t → CanStep s h → CanStep t h
can_later s t h stay can = record {
  job = can.job;
  rev = can.rev;
  source = stay.sources h.by.spec.src can.source;
  dest = stay.dests h.by.spec.dst can.dest;
  live = can.live;
}

if_later : (s t : State) (o : Option Held) → LinksStay s t → IfSome o (CanStep s) → IfSome o (CanStep t)
if_later s t None stay can = can
if_later s t (Some h) stay can = can_later s t h stay can

by_choice : (b : Bool) (t : State) (now o : Option Held) → IfSome now (CanStep t) → IfSome o (CanStep t)
    → IfSome (if b then now else o) (CanStep t)
by_choice true t now o one two = one
by_choice false t now o one two = two

-- one changed, and the others as they were
can_after : (s t : State) (job : ℕ) (now : Option Held) → LinksStay s t → HeldAfter job now s.held t.held
    → IfSome now (CanStep t) → AllCanStep s → AllCanStep t
can_after s t job now stay after one each other =
    subst (λ (o : Option Held). IfSome o (CanStep t)) (sym (after other))
    (by_choice (nat_eq other job) t now (held_at s.held other) one (if_later s t (held_at s.held other) stay (each other)))

-- ---- the connections

same_stay : (s t : State) → t.sources ≡ s.sources → t.dests ≡ s.dests → LinksStay s t
same_stay s t one two = record {
  sources = λ reg there. subst (λ (l : List Link). IsSome (link_at l reg)) (sym one) there;
  dests = λ reg there. subst (λ (l : List Link). IsSome (link_at l reg)) (sym two) there;
}

line_stay : (h : Held) (s t : State) (end : LineEnd) → DoesLine h s t end → LinksStay s t
line_stay h s t end line = record {
  sources = λ reg there. subst (λ (l : List Link). IsSome (link_at l reg)) (sym line.moves.sources)
      (there_with s.sources h.by.spec.src reg line.g there);
  dests = λ reg there. subst (λ (l : List Link). IsSome (link_at l reg)) (sym line.moves.dests)
      (there_with s.dests h.by.spec.dst reg line.q there);
}

end_stay : (h : Held) (s mid : State) (why : Option Cause) → ComesToEnd h s mid why → LinksStay s mid
end_stay h s mid None comes = same_stay s mid comes.1.sources comes.1.dests
end_stay h s mid (Some why) comes = elim comes [
  | inl line ↦ line_stay h s mid (Err why) line
  | inr none ↦ same_stay s mid none.1.sources none.1.dests
]

then_same : (s mid t : State) → LinksStay s mid → t.sources ≡ mid.sources → t.dests ≡ mid.dests → LinksStay s t
then_same s mid t stay one two = record {
  sources = λ reg there. subst (λ (l : List Link). IsSome (link_at l reg)) (sym one) (stay.sources reg there);
  dests = λ reg there. subst (λ (l : List Link). IsSome (link_at l reg)) (sym two) (stay.dests reg there);
}

-- ---- each end of a step

can_of : (held : List Held) (job : ℕ) (h : Held) (P : Held → Type 0) → held_at held job ≡ Some h
    → IfSome (held_at held job) P → P h
can_of held job h P is each = subst (λ (o : Option Held). IfSome o P) is each

can_go : (t : State) (h : Held) (work : Option Work) → 1 ≤ h.by.job.0 → h.by.rev ≤ 3
    → IsSome (link_at t.sources h.by.spec.src) → IsSome (link_at t.dests h.by.spec.dst) → IfSome work IsLive
    → CanStep t (goes_on h work)
can_go t h None job rev source dest live =
    record { job = job; rev = rev; source = source; dest = dest; live = tt }
can_go t h (Some w) job rev source dest live =
    record { job = job; rev = rev; source = source; dest = dest; live = live }

did_can : (s t : State) (job : JobNo) → GoesOn s t job → AllCanStep s → AllCanStep t
did_can s t job goes each =
    let h = goes.held in
    let can : CanStep s h = can_of s.held job.0 h (CanStep s) goes.here (each job.0) in
    let stay : LinksStay s t = line_stay h s t (Ok goes.work) goes.line in
    can_after s t job.0 (Some (goes_on h goes.work)) stay goes.now
    (can_go t h goes.work can.job can.rev (stay.sources h.by.spec.src can.source) (stay.dests h.by.spec.dst can.dest)
    (line_live h.by goes.line.tag h.work goes.line.f goes.line.g goes.line.p goes.line.q s.log t.log (Ok goes.work)
    can.live goes.line.line)) each

drop_can : (s t : State) (job : JobNo) → Drops s t job → AllCanStep s → AllCanStep t
drop_can s t job drops each =
    can_after s t job.0 None (same_stay s t drops.sources drops.dests) drops.gone tt each

end_can : (s t : State) (job : JobNo) (closed : Result Status Mark) → Ends s t job closed → AllCanStep s → AllCanStep t
end_can s t job closed ends each =
    can_after s t job.0 None
    (then_same s ends.mid t (end_stay ends.held s ends.mid ends.why ends.comes) ends.sources ends.dests) ends.gone tt each

pub steps_can : (s t : State) (job : JobNo) (v w : View) (answer : Stepped) → Steps s t job v w answer → AllCanStep s
    → AllCanStep t
steps_can s t job v w stepped.NotHere steps each = subst AllCanStep (sym steps.0.1) each
steps_can s t job v w stepped.Did steps each = did_can s t job steps.0 each
steps_can s t job v w (stepped.Lost mark) steps each = elim steps [
  | inl drops ↦ drop_can s t job drops.0 each
  | inr ends ↦ end_can s t job (Err mark) ends.0 each
]
steps_can s t job v w (stepped.Ended status) steps each = end_can s t job (Ok status) steps.0 each

-- what holds of a lane at every moment, put together
pub ready_now : (s : State) (entries hooks buffer : ℕ) → AreInOrder s.sources → AreInOrder s.dests → AllCanStep s
    → length s.held ≤ entries → length s.held ≤ hooks → buffer ≡ PIECE → IsReady s entries hooks buffer
ready_now s entries hooks buffer one two each fit give full = record {
  sources = one;
  dests = two;
  each = each;
  entries_fit = fit;
  hooks_fit = give;
  buffer_full = λ job there. full;
}

-- ---- an admission

can_first : (s : State) (a : Admitted) → 1 ≤ a.job.0 → a.rev ≤ 3 → IsSome (link_at s.sources a.spec.src)
    → IsSome (link_at s.dests a.spec.dst) → CanStep s (held_first a)
can_first s a job rev source dest = record { job = job; rev = rev; source = source; dest = dest; live = tt }

begun_ready : (s t : State) (a : Admitted) (e h b e2 h2 b2 : ℕ) → IsReady s e h b → 1 ≤ a.job.0 → a.rev ≤ 3
    → IsSome (link_at s.sources a.spec.src) → IsSome (link_at s.dests a.spec.dst) → Begins s t a → b2 ≡ PIECE
    → length t.held ≤ e2 → length t.held ≤ h2 → IsReady t e2 h2 b2
begun_ready s t a e h b e2 h2 b2 ready job rev source dest begins full fit give =
    let stay : LinksStay s t = same_stay s t begins.sources begins.dests in
    ready_now t e2 h2 b2 (subst AreInOrder (sym begins.sources) ready.sources)
    (subst AreInOrder (sym begins.dests) ready.dests)
    (can_after s t a.job.0 (Some (held_first a)) stay begins.held
    (can_first t a job rev (stay.sources a.spec.src source) (stay.dests a.spec.dst dest)) ready.each) fit give full

same_ready : (s t : State) (e h b e2 h2 b2 : ℕ) → IsReady s e h b → t ≡ s → (b ≡ PIECE → b2 ≡ PIECE)
    → length t.held ≤ e2 → length t.held ≤ h2 → IsReady t e2 h2 b2
same_ready s t e h b e2 h2 b2 ready same whole fit give = record {
  sources = subst (λ (x : State). AreInOrder x.sources) (sym same) ready.sources;
  dests = subst (λ (x : State). AreInOrder x.dests) (sym same) ready.dests;
  each = subst AllCanStep (sym same) ready.each;
  entries_fit = fit;
  hooks_fit = give;
  buffer_full = λ job there.
      whole (ready.buffer_full job (subst (λ (x : State). IsSome (held_at x.held job)) same there));
}

pub admit_ready : (s t : State) (a : Admitted) (v w : View) (answer : Admit) (e h b e2 h2 b2 : ℕ) → IsReady s e h b
    → 1 ≤ a.job.0 → a.rev ≤ 3 → IsSome (link_at s.sources a.spec.src) → IsSome (link_at s.dests a.spec.dst)
    → AdmitsWord s t a v w answer → (answer ≡ admit.Began → b2 ≡ PIECE) → (b ≡ PIECE → b2 ≡ PIECE)
    → length t.held ≤ e2 → length t.held ≤ h2 → IsReady t e2 h2 b2
admit_ready s t a v w admit.Began e h b e2 h2 b2 ready job rev source dest admits full whole fit give =
    begun_ready s t a e h b e2 h2 b2 ready job rev source dest admits.0 (full refl) fit give
admit_ready s t a v w (admit.Lost mark) e h b e2 h2 b2 ready job rev source dest admits full whole fit give =
    same_ready s t e h b e2 h2 b2 ready admits.0 whole fit give
admit_ready s t a v w admit.Memory e h b e2 h2 b2 ready job rev source dest admits full whole fit give =
    same_ready s t e h b e2 h2 b2 ready admits.0 whole fit give
