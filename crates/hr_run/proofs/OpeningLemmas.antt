-- What holds as the core opens.
use Rattle.std.proofs.Common.{◌≡◌, refl, sym, ap, zero, suc, ℕ, ◌*◌, List, [], ◌∷◌, subst, arith}
use Rattle.std.proofs.lemmas.List.{length-replicate}
use Rattle.std.proofs.lemmas.List.Sums.{sum_by-cons}
use Rattle.std.specs.Prelude.{Option, IfSome, true}
use Rattle.std.specs.List.{AllByRecursion, sum_by}
use Rattle.hr_base.specs.declared.status.Hook.{Hook}
use Rattle.hr_event.specs.declared.task.TaskSpec.{TaskSpec}
use Rattle.hr_board.specs.Plain.{IsLawful, new_board, view_of}
use Rattle.hr_board.specs.View as board
use Rattle.hr_line.specs.Finals.{EndsHold}
use Rattle.hr_line.specs.Hooks.{HooksTell}
use Rattle.hr_line.specs.Orderly.{IsOrderly}
use Rattle.hr_line.specs.Run.{IsOpening}
use Rattle.hr_line.specs.State.{Link, State, held_at}
use Rattle.hr_line.specs.declared.held.Held.{Held}
use Rattle.hr_line.specs.declared.held.Admitted.{Admitted}
use Rattle.hr_lane.specs.Admission.{AreNoted}
use Rattle.hr_queue.specs.Gains.{Agrees}
use Rattle.hr_queue.specs.View.{empty_queue}
use Rattle.hr_run.specs.Holds.{HasAttempts, Holds, HoldsOut, IsTurnOut, IsServing, IsTask}
use Rattle.hr_run.specs.State.{opening, was_delivered}
use Rattle.hr_run.specs.Weight.{lane_weight}
use Rattle.hr_run.proofs.ListLemmas.{all_then}

no_hooks : (g : Hook → ℕ) (lanes : List State) → AllByRecursion IsOpening lanes → sum_by (lane_weight g) lanes ≡ 0
no_hooks g [] a = refl
no_hooks g (l ∷ ls) a =
    let c = sum_by-cons (lane_weight g) l ls in
    let e = ap (sum_by g) a.0.hooks in
    let r = no_hooks g ls a.1 in
    omega (arith, c, e, r)

none_admitted : (v : board.View) → AreNoted [] v
none_admitted v job rev there = cc

none_held : (s : State) → IsOpening s → HoldsOut [] s
none_held s o = subst (λ (hs : List Held). (job : ℕ) → IfSome (held_at hs job) (λ h. IsTurnOut [] job h.by.rev)) (sym o.held) (λ job. tt)

module _ (orderly : (s : State) → IsOpening s → IsOrderly s) (ends : (s : State) → IsOpening s → EndsHold s)
    (hooks : (s : State) → IsOpening s → HooksTell s)
    (agrees : (b : board.View) → b.opens ≡ [] → Agrees empty_queue b) where
  serves : (made : List TaskSpec) (v : board.View) (s : State) → IsOpening s → IsServing made v s
  serves made v s o = record {
    orderly = orderly s o;
    ends = ends s o;
    hooks = hooks s o;
    tasks = subst (λ (all : List Admitted). AllByRecursion (IsTask made) all) (sym o.admitted) tt;
    noted = subst (λ (all : List Admitted). AreNoted all v) (sym o.admitted) (none_admitted v);
  }

  pub opens : (lanes : List State) (others : List Link) (plan : Option (List TaskSpec)) (jobs : ℕ)
      → AllByRecursion IsOpening lanes → IfSome plan (AllByRecursion HasAttempts)
      → IsLawful (new_board jobs).words (new_board jobs).past → Holds (opening lanes others plan jobs)
  opens lanes others plan jobs a planned lawful = record {
    lawful = lawful;
    whole = record {
      turns = record { waits = tt; delays = tt; outs = tt; rising = tt };
      known = record { waits = tt; delays = tt; outs = tt };
      once = λ job. refl;
      distinct = λ job. omega arith;
    };
    agrees = agrees (view_of (new_board jobs)) refl;
    added = refl;
    numbered = refl;
    fits = (let l = length-replicate {A = ℕ} (4 * jobs) 0 in omega (arith, l));
    few = tt;
    planned = planned;
    rows = λ job row e. absurd (cc);
    lanes = all_then IsOpening (IsServing [] (view_of (new_board jobs))) (serves [] (view_of (new_board jobs))) lanes a;
    held = all_then IsOpening (HoldsOut []) none_held lanes a;
    shares = λ g. (let n = no_hooks g lanes a in omega (arith, n));
    finals = λ f. refl;
    emitted = tt;
    received = λ job heard e. absurd (cc);
    delivered = λ number e. absurd (unmarked number e);
  }
    where
      unmarked : (number : ℕ) → was_delivered [] number ≡ true → ⊥
      unmarked zero e = cc
      unmarked (suc zero) e = cc
      unmarked (suc (suc number)) e = cc
