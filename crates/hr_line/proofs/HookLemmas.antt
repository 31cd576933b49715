-- The hooks of a lane are those that go with its entries.
use Rattle.std.proofs.Common.{◌≡◌, inl, inr, refl, sym, ap, subst, ◌∙◌, ℕ, List, [], ◌∷◌, ◌++◌}
use Rattle.std.specs.Prelude.{Option, Some, None, Result, Ok, Err, map}
use Rattle.std.specs.List.{AllByRecursion, cons_option, filter_map}
use Rattle.hr_base.specs.declared.number.JobNo.{JobNo}
use Rattle.hr_base.specs.declared.status.Hook.{Hook}
use Rattle.hr_base.specs.declared.status.Mark.{Mark}
use Rattle.hr_base.specs.declared.status.Status.{Status}
use Rattle.hr_base.specs.declared.status.Status.TheVariants.{Running}
use Rattle.hr_event.specs.declared.cause.Cause.{Cause}
use Rattle.hr_event.specs.declared.entry.Entry.{Entry}
use Rattle.hr_event.specs.declared.entry.What.{What}
use Rattle.hr_event.specs.declared.entry.What.TheVariants as what
use Rattle.hr_line.specs.Admission.{Admits}
use Rattle.hr_line.specs.Hooks.{HooksTell, hook_from}
use Rattle.hr_line.specs.Line.{LineEnd, entry_of}
use Rattle.hr_line.specs.State.{State}
use Rattle.hr_line.specs.Step.{Closes, ComesToEnd, DoesLine, Rests, Step, hook_of}
use Rattle.hr_line.specs.declared.answer.Admit.{Admit}
use Rattle.hr_line.specs.declared.answer.Admit.TheVariants as admit
use Rattle.hr_line.specs.declared.answer.Stepped.{Stepped}
use Rattle.hr_line.specs.declared.answer.Stepped.TheVariants as stepped
use Rattle.hr_line.specs.declared.held.Admitted.{Admitted}
use Rattle.hr_line.specs.declared.held.Held.{Held}
use Rattle.hr_line.proofs.WroteLemmas.{IsPlain, Plain, line_plain}

-- the hooks that go with a journal
abbrev hooks_of : List Entry → List Hook
hooks_of log = filter_map (λ e. hook_from e.job e.rev e.what) log

no_hook : (job : JobNo) (rev : ℕ) (said : What) → IsPlain said → hook_from job rev said ≡ None
no_hook job rev what.Began plain = absurd plain
no_hook job rev (what.Ended status cause) plain = absurd plain
no_hook job rev said plain = refl

plain_hooks : (a : Admitted) (more : List What) (log : List Entry) → AllByRecursion IsPlain more
    → hooks_of (map (entry_of a) more ++ log) ≡ hooks_of log
plain_hooks a [] log plain = refl
plain_hooks a (said ∷ more) log plain =
    ap (λ (h : Option Hook). cons_option h (hooks_of (map (entry_of a) more ++ log))) (no_hook a.job a.rev said plain.0)
    ∙ plain_hooks a more log plain.1

same_hooks : (a : Admitted) (older newer : List Entry) → Plain a older newer → hooks_of newer ≡ hooks_of older
same_hooks a older newer wrote = ap hooks_of wrote.joined ∙ plain_hooks a wrote.more older wrote.each

line_hooks : (h : Held) (s t : State) (end : LineEnd) → DoesLine h s t end → HooksTell s → HooksTell t
line_hooks h s t end line tell =
    line.hooks ∙ tell
    ∙ sym (same_hooks h.by s.log t.log (line_plain h.by s.log t.log end line.tag h.work line.f line.g line.p line.q line.line))

rests_hooks : (s t : State) → Rests s t → HooksTell s → HooksTell t
rests_hooks s t rests tell = rests.hooks ∙ tell ∙ ap hooks_of (sym rests.log)

end_hooks : (h : Held) (s t : State) (why : Option Cause) → ComesToEnd h s t why → HooksTell s → HooksTell t
end_hooks h s t None comes tell = rests_hooks s t comes.1 tell
end_hooks h s t (Some why) (inl line) tell = line_hooks h s t (Err why) line tell
end_hooks h s t (Some why) (inr rests) tell = rests_hooks s t rests.1 tell

closes_hooks : (a : Admitted) (why : Option Cause) (s t : State) (closed : Result Status Mark) → Closes a why s t closed → HooksTell s
    → HooksTell t
closes_hooks a why s t (Ok status) closes tell =
    closes.2 ∙ ap (λ (hs : List Hook). hook_of a status ∷ hs) tell ∙ ap hooks_of (sym closes.1)
closes_hooks a why s t (Err mark) closes tell = closes.1 ∙ tell ∙ ap hooks_of (sym closes.0)

-- each step gives the hooks of its entries
pub step_hooks : (s t : State) (job : JobNo) (answer : Stepped) → Step s t job answer → HooksTell s → HooksTell t
step_hooks s t job stepped.NotHere step tell = subst HooksTell (sym step.1) tell
step_hooks s t job stepped.Did step tell = line_hooks step.held s t (Ok step.work) step.line tell
step_hooks s t job (stepped.Lost mark) (inl drops) tell = drops.hooks ∙ tell ∙ ap hooks_of (sym drops.log)
step_hooks s t job (stepped.Lost mark) (inr ends) tell =
    closes_hooks ends.held.by ends.why ends.mid t (Err mark) ends.closes (end_hooks ends.held s ends.mid ends.why ends.comes tell)
step_hooks s t job (stepped.Ended status) step tell =
    closes_hooks step.held.by step.why step.mid t (Ok status) step.closes (end_hooks step.held s step.mid step.why step.comes tell)

-- and each admission does
pub admits_hooks : (s t : State) (a : Admitted) (answer : Admit) → Admits s t a answer → HooksTell s → HooksTell t
admits_hooks s t a admit.Began begins tell =
    begins.hooks ∙ ap (λ (hs : List Hook). hook_of a Running ∷ hs) tell ∙ ap hooks_of (sym begins.log)
admits_hooks s t a (admit.Lost mark) admits tell = subst HooksTell (sym admits) tell
admits_hooks s t a admit.Memory admits tell = subst HooksTell (sym admits) tell
