-- Admissions and steps keep what was read being what the sources have.
use Rattle.std.proofs.Common.{◌≡◌, inl, inr, refl, sym, ap, subst, ◌∙◌, ℕ, List, ◌∷◌}
use Rattle.std.specs.Prelude.{Option, Some, None, IfSome, IsSome, Result, Ok, Err, option_and_then}
use Rattle.hr_base.specs.declared.number.JobNo.{JobNo}
use Rattle.hr_base.specs.declared.number.RegNo.{RegNo}
use Rattle.hr_base.specs.declared.status.Mark.{Mark}
use Rattle.hr_base.specs.declared.status.Status.{Status}
use Rattle.hr_event.specs.declared.cause.Cause.{Cause}
use Rattle.hr_event.specs.declared.entry.Entry.{Entry}
use Rattle.hr_event.specs.declared.entry.What.TheVariants as what
use Rattle.hr_adapter.specs.Reg.{IsSound, Reg}
use Rattle.hr_journal.specs.Origin.{ToldBefore, WereThere}
use Rattle.hr_journal.specs.Shown.{AreAlike}
use Rattle.hr_journal.proofs.ListLaws.{each_has}
use Rattle.hr_journal.proofs.PromiseLaws.{there_alike, there_later, there_still, told_itself}
use Rattle.hr_line.specs.Admission.{Admits, Begins}
use Rattle.hr_line.specs.Line.{LineEnd, entry_of}
use Rattle.hr_line.specs.Orderly.{IsNew, IsOrderly, admitted_at}
use Rattle.hr_line.specs.Sources.{AreSourced, origin, source_of, source_seen}
use Rattle.hr_line.specs.State.{AreSound, Link, State, held_at, link_at}
use Rattle.hr_line.specs.Step.{Closes, ComesToEnd, DoesLine, Drops, Ends, Rests, Step}
use Rattle.hr_line.specs.declared.answer.Admit.{Admit}
use Rattle.hr_line.specs.declared.answer.Admit.TheVariants as admit
use Rattle.hr_line.specs.declared.answer.Stepped.{Stepped}
use Rattle.hr_line.specs.declared.answer.Stepped.TheVariants as stepped
use Rattle.hr_line.specs.declared.held.Admitted.{Admitted}
use Rattle.hr_line.specs.declared.held.Held.{Held}
use Rattle.hr_line.proofs.LinkLemmas.{link_other, link_same, link_sound, number_cases, registry_same}
use Rattle.hr_line.proofs.OrderlyLemmas.{is_held, older_admitted}
use Rattle.hr_line.proofs.SourceLemmas.{IsRead, line_read, line_there, told_before}

-- the same connections, and what was admitted
sourced_same : (sources other : List Link) (admitted others : List Admitted) (log : List Entry) → other ≡ sources → others ≡ admitted
    → WereThere (origin sources admitted) log → WereThere (origin other others) log
sourced_same sources other admitted others log links all there =
    subst (λ (ls : List Link). WereThere (origin ls others) log) (sym links)
    (subst (λ (as_now : List Admitted). WereThere (origin sources as_now) log) (sym all) there)

pub sound_at : (links : List Link) (r : RegNo) (seen : Reg) → AreSound links → link_at links r ≡ Some seen → IsSound seen
sound_at links r seen sound is = subst (λ (x : Option Reg). IfSome x IsSound) is (link_sound links r sound)

-- ---- a line

module _ (h : Held) (s t : State) (job : ℕ) (end : LineEnd) (orderly : IsOrderly s) (here : held_at s.held job ≡ Some h)
    (sound : AreSound s.sources) (after : AreSound t.sources) (line : DoesLine h s t end) where
  now_there : link_at t.sources h.by.spec.src ≡ Some line.g
  now_there =
      ap (λ (ls : List Link). link_at ls h.by.spec.src) line.moves.sources
      ∙ link_same s.sources h.by.spec.src line.g line.f line.moves.source

  reads : IsRead line.f line.g
  reads = line_read h.by line.tag h.work line.f line.g line.p line.q s.log t.log end
      (sound_at s.sources h.by.spec.src line.f sound line.moves.source) line.line

  told_at : (a : Admitted) → ToldBefore (source_of s.sources a) (source_of t.sources a)
  told_at a = elim (number_cases a.spec.src.0 h.by.spec.src.0) [
    | inl same ↦ here_too (registry_same a.spec.src h.by.spec.src same)
    | inr apart ↦
        subst (λ (x : Option Reg). ToldBefore (source_of s.sources a) (option_and_then (source_seen a.spec.from) x))
        (sym (ap (λ (ls : List Link). link_at ls a.spec.src) line.moves.sources
        ∙ link_other s.sources h.by.spec.src a.spec.src line.g apart))
        (told_itself (source_of s.sources a))
  ]
    where
      here_too : a.spec.src ≡ h.by.spec.src → ToldBefore (source_of s.sources a) (source_of t.sources a)
      here_too same =
          subst (λ (x : Option Reg). ToldBefore (option_and_then (source_seen a.spec.from) x) (source_of t.sources a))
          (sym (ap (link_at s.sources) same ∙ line.moves.source))
          (subst (λ (x : Option Reg). ToldBefore (source_seen a.spec.from line.f) (option_and_then (source_seen a.spec.from) x))
          (sym (ap (link_at t.sources) same ∙ now_there)) (told_before a.spec.from line.f line.g reads))

  told_all : (found : Option Admitted) → ToldBefore (option_and_then (source_of s.sources) found) (option_and_then (source_of t.sources) found)
  told_all None = tt
  told_all (Some a) = told_at a

  line_sourced : AreSourced s → AreSourced t
  line_sourced there =
      line_there (origin t.sources t.admitted) h.by line.g
      (sound_at t.sources h.by.spec.src line.g after now_there)
      (ap (λ (all : List Admitted). option_and_then (source_of t.sources) (admitted_at all h.by.job.0 h.by.rev)) line.admitted
      ∙ ap (option_and_then (source_of t.sources)) (is_held s job h orderly here).admitted
      ∙ ap (option_and_then (source_seen h.by.spec.from)) now_there)
      s.log t.log end
      (sourced_same t.sources t.sources s.admitted t.admitted s.log refl line.admitted
      (there_later (origin s.sources s.admitted) (origin t.sources s.admitted) s.log
      (λ e within. told_all (admitted_at s.admitted e.job.0 e.rev)) there))
      line.tag h.work line.f line.p line.q line.line

rests_sourced : (s t : State) → Rests s t → AreSourced s → AreSourced t
rests_sourced s t rests there =
    subst (λ (es : List Entry). WereThere (origin t.sources t.admitted) es) (sym rests.log)
    (sourced_same s.sources t.sources s.admitted t.admitted s.log rests.sources rests.admitted there)

end_sourced : (h : Held) (s t : State) (job : ℕ) (why : Option Cause) → IsOrderly s → held_at s.held job ≡ Some h → AreSound s.sources
    → AreSound t.sources → ComesToEnd h s t why → AreSourced s → AreSourced t
end_sourced h s t job None orderly here sound after comes there = rests_sourced s t comes.1 there
end_sourced h s t job (Some why) orderly here sound after (inl line) there =
    line_sourced h s t job (Err why) orderly here sound after line there
end_sourced h s t job (Some why) orderly here sound after (inr rests) there = rests_sourced s t rests.1 there

closes_sourced : (a : Admitted) (why : Option Cause) (s t : State) (closed : Result Status Mark) → Closes a why s t closed
    → t.sources ≡ s.sources → t.admitted ≡ s.admitted → AreSourced s → AreSourced t
closes_sourced a why s t (Ok status) closes links all there =
    subst (λ (es : List Entry). WereThere (origin t.sources t.admitted) es) (sym closes.1)
    (there_still (origin t.sources t.admitted) (entry_of a (what.Ended status why)) s.log
    (sourced_same s.sources t.sources s.admitted t.admitted s.log links all there) tt)
closes_sourced a why s t (Err mark) closes links all there =
    subst (λ (es : List Entry). WereThere (origin t.sources t.admitted) es) (sym closes.0)
    (there_still (origin t.sources t.admitted) (entry_of a what.Dropped) s.log
    (sourced_same s.sources t.sources s.admitted t.admitted s.log links all there) tt)

ends_sourced : (s t : State) (job : JobNo) (closed : Result Status Mark) → IsOrderly s → AreSound s.sources → AreSound t.sources
    → Ends s t job closed → AreSourced s → AreSourced t
ends_sourced s t job closed orderly sound after ends there =
    closes_sourced ends.held.by ends.why ends.mid t closed ends.closes ends.sources ends.admitted
    (end_sourced ends.held s ends.mid job.0 ends.why orderly ends.here sound
    (subst (λ (ls : List Link). AreSound ls) ends.sources after) ends.comes there)

drops_sourced : (s t : State) (job : JobNo) → Drops s t job → AreSourced s → AreSourced t
drops_sourced s t job drops there =
    subst (λ (es : List Entry). WereThere (origin t.sources t.admitted) es) (sym drops.log)
    (there_still (origin t.sources t.admitted) (entry_of drops.held.by what.Dropped) s.log
    (sourced_same s.sources t.sources s.admitted t.admitted s.log drops.sources drops.admitted there) tt)

-- what was read goes on being what the sources have with each step
pub step_sourced : (s t : State) (job : JobNo) (answer : Stepped) → IsOrderly s → AreSound s.sources → AreSound t.sources
    → Step s t job answer → AreSourced s → AreSourced t
step_sourced s t job stepped.NotHere orderly sound after step there = subst AreSourced (sym step.1) there
step_sourced s t job stepped.Did orderly sound after step there =
    line_sourced step.held s t job.0 (Ok step.work) orderly step.here sound after step.line there
step_sourced s t job (stepped.Lost mark) orderly sound after (inl drops) there = drops_sourced s t job drops there
step_sourced s t job (stepped.Lost mark) orderly sound after (inr ends) there =
    ends_sourced s t job (Err mark) orderly sound after ends there
step_sourced s t job (stepped.Ended status) orderly sound after step there =
    ends_sourced s t job (Ok status) orderly sound after step there

-- ---- an admission

begins_sourced : (s t : State) (a : Admitted) → IsOrderly s → IsNew s.admitted a → Begins s t a → AreSourced s → AreSourced t
begins_sourced s t a orderly new begins there =
    subst (λ (es : List Entry). WereThere (origin t.sources t.admitted) es) (sym begins.log)
    (there_still (origin t.sources t.admitted) (entry_of a what.Began) s.log
    (sourced_same s.sources t.sources (a ∷ s.admitted) t.admitted s.log begins.sources begins.admitted
    (there_alike (origin s.sources s.admitted) (origin s.sources (a ∷ s.admitted)) s.log alike there)) tt)
  where
    alike : AreAlike (origin s.sources s.admitted) (origin s.sources (a ∷ s.admitted)) s.log
    alike e within =
        ap (option_and_then (source_of s.sources))
        (sym (older_admitted s.admitted a e.job.0 e.rev new
        (each_has (λ (x : Entry). IsSome (admitted_at s.admitted x.job.0 x.rev)) s.log orderly.logged e within)))

-- and with each admission
pub admits_sourced : (s t : State) (a : Admitted) (answer : Admit) → IsOrderly s → IsNew s.admitted a → Admits s t a answer
    → AreSourced s → AreSourced t
admits_sourced s t a admit.Began orderly new admits there = begins_sourced s t a orderly new admits there
admits_sourced s t a (admit.Lost mark) orderly new admits there = subst AreSourced (sym admits) there
admits_sourced s t a admit.Memory orderly new admits there = subst AreSourced (sym admits) there
