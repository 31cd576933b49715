-- What parts do to each lane is a run of its calls.
use Rattle.std.proofs.Common.{◌≡◌, refl, sym, ap, subst, ◌∙◌, zero, suc, ℕ, List, [], ◌∷◌, ◌++◌, set, slice_get}
use Rattle.std.specs.Prelude.{Some}
use Rattle.std.specs.List.{AllByRecursion}
use Rattle.hr_base.specs.declared.number.JobNo.{JobNo}
use Rattle.hr_board.specs.Plain.{view_of}
use Rattle.hr_board.specs.View.{View}
use Rattle.hr_line.specs.Run.{Call, Runs as Called}
use Rattle.hr_line.specs.State.{State}
use Rattle.hr_line.specs.Step.{Step}
use Rattle.hr_line.specs.declared.answer.Admit.{Admit}
use Rattle.hr_line.specs.declared.answer.Admit.TheVariants as admit
use Rattle.hr_line.specs.declared.answer.Stepped.{Stepped}
use Rattle.hr_line.specs.declared.held.Admitted.{Admitted}
use Rattle.hr_lane.specs.Admission.{AdmitsWord}
use Rattle.hr_lane.specs.Word.{Steps}
use Rattle.hr_promise.specs.Holds.{LaneRuns}
use Rattle.hr_promise.specs.Lane.{IsLaneSound}
use Rattle.hr_run.specs.Part.{LaneDoes, Part, Parts}
use Rattle.hr_run.specs.Part.LaneDoes.{admits, steps}
use Rattle.hr_run.specs.Part.Part.{makes, passes, receives, stops, turns, works}
use Rattle.hr_run.specs.Part.Parts.{next, none}
use Rattle.hr_run.specs.Claims.{LanesRun}
use Rattle.hr_run.specs.State.{CoreState}
use Rattle.hr_run.proofs.ListLemmas.{all_set}

lane_still : (s t : State) → t ≡ s → LaneRuns s t
lane_still s t same = record { calls = []; runs = same }

called_then : (later before : List Call) (s mid t : State) → Called before s mid → Called later mid t → Called (later ++ before) s t
called_then [] before s mid t first same = subst (λ (x : State). Called before s x) (sym same) first
called_then (call ∷ later) before s mid t first (last, ran, sources, dests, happens) =
    (last, called_then later before s mid last first ran, sources, dests, happens)

lane_then : (s mid t : State) → LaneRuns s mid → LaneRuns mid t → LaneRuns s t
lane_then s mid t first later = record {
  calls = later.calls ++ first.calls;
  runs = called_then later.calls first.calls s mid t first.runs later.runs;
}

-- the lane steps as the laws of lanes take it
abbrev pub StepsAreSteps : Type 0
StepsAreSteps = (s t : State) (job : JobNo) (v w : View) (answer : Stepped) → Steps s t job v w answer → Step s t job answer

admit_runs : (s t : State) (a : Admitted) (v w : View) (came : Admit) → IsLaneSound s → AdmitsWord s t a v w came → LaneRuns s t
admit_runs s t a v w admit.Began sound does = record {
  calls = Call.admit a admit.Began ∷ [];
  runs = (s, refl, sound.sources, sound.dests, (does.1, does.0));
}
admit_runs s t a v w (admit.Lost mark) sound does = lane_still s t does.0
admit_runs s t a v w admit.Memory sound does = lane_still s t does.0

does_run : StepsAreSteps → (s t : CoreState) (lane worked : State) → IsLaneSound lane
    → LaneDoes s.made s.turns.out lane worked (view_of s.board) (view_of t.board) → LaneRuns lane worked
does_run are_steps s t lane worked sound (admits a came task is_out does) =
    admit_runs lane worked a (view_of s.board) (view_of t.board) came sound does
does_run are_steps s t lane worked sound (steps job came does) = record {
  calls = Call.step job came ∷ [];
  runs = (lane, refl, sound.sources, sound.dests, are_steps lane worked job (view_of s.board) (view_of t.board) came does);
}

-- ---- all lanes

lanes_still : (ls ms : List State) → ms ≡ ls → LanesRun ls ms
lanes_still ls ms same at lane there = (lane, ap (λ (xs : List State). slice_get xs at) same ∙ there, lane_still lane lane refl)

lanes_then : (ls ms ns : List State) → LanesRun ls ms → LanesRun ms ns → LanesRun ls ns
lanes_then ls ms ns first later at lane there =
    let a = first at lane there in
    let b = later at a.0 a.1 in
    (b.0, b.1, lane_then lane a.0 b.0 a.2 b.2)

-- one lane of a list is exchanged
set_run : (ls : List State) (i : ℕ) (lane worked : State) → slice_get ls i ≡ Some lane → LaneRuns lane worked → LanesRun ls (set ls i worked)
set_run [] zero lane worked e r at x there = absurd (cc)
set_run [] (suc i) lane worked e r at x there = absurd (cc)
set_run (l ∷ ls) zero lane worked e r zero x there =
    let both : Some lane ≡ Some x = sym e ∙ there in
    let same : lane ≡ x = cc in
    (worked, refl, subst (λ (y : State). LaneRuns y worked) same r)
set_run (l ∷ ls) zero lane worked e r (suc at) x there = (x, there, lane_still x x refl)
set_run (l ∷ ls) (suc i) lane worked e r zero x there = (x, there, lane_still x x refl)
set_run (l ∷ ls) (suc i) lane worked e r (suc at) x there = set_run ls i lane worked e r at x there

module _ (are_steps : StepsAreSteps) where
  part_runs : (s t : CoreState) → Part s t → LanesRun s.lanes t.lanes
  part_runs s t (makes h) = lanes_still s.lanes t.lanes (ap (λ (x : CoreState). x.lanes) h.after)
  part_runs s t (turns h) = lanes_still s.lanes t.lanes (ap (λ (x : CoreState). x.lanes) h.after)
  part_runs s t (works h) =
      let runs = does_run are_steps s t h.lane h.worked h.calls.sound h.does in
      subst (λ (ls : List State). LanesRun s.lanes ls) (sym h.calls.lanes) (set_run s.lanes h.at h.lane h.worked h.calls.there runs)
  part_runs s t (stops h) = lanes_still s.lanes t.lanes (ap (λ (x : CoreState). x.lanes) h.after)
  part_runs s t (receives h) = lanes_still s.lanes t.lanes (ap (λ (x : CoreState). x.lanes) h.after)
  part_runs s t (passes h) = lanes_still s.lanes t.lanes (ap (λ (x : CoreState). x.lanes) h.after)

  pub parts_run : (s t : CoreState) → Parts s t → LanesRun s.lanes t.lanes
  parts_run s _ (none _) = lanes_still s.lanes s.lanes refl
  parts_run s t (next _ m _ p ps) = lanes_then s.lanes m.lanes t.lanes (part_runs s m p) (parts_run m t ps)

part_sound : (s t : CoreState) → AllByRecursion IsLaneSound s.lanes → Part s t → AllByRecursion IsLaneSound t.lanes
part_sound s t was (makes h) = subst (λ (ls : List State). AllByRecursion IsLaneSound ls) (sym (ap (λ (x : CoreState). x.lanes) h.after)) was
part_sound s t was (turns h) = subst (λ (ls : List State). AllByRecursion IsLaneSound ls) (sym (ap (λ (x : CoreState). x.lanes) h.after)) was
part_sound s t was (works h) =
    subst (λ (ls : List State). AllByRecursion IsLaneSound ls) (sym h.calls.lanes)
    (all_set IsLaneSound s.lanes h.at h.worked was h.calls.sound_after)
part_sound s t was (stops h) = subst (λ (ls : List State). AllByRecursion IsLaneSound ls) (sym (ap (λ (x : CoreState). x.lanes) h.after)) was
part_sound s t was (receives h) = subst (λ (ls : List State). AllByRecursion IsLaneSound ls) (sym (ap (λ (x : CoreState). x.lanes) h.after)) was
part_sound s t was (passes h) = subst (λ (ls : List State). AllByRecursion IsLaneSound ls) (sym (ap (λ (x : CoreState). x.lanes) h.after)) was

pub parts_sound : (s t : CoreState) → AllByRecursion IsLaneSound s.lanes → Parts s t → AllByRecursion IsLaneSound t.lanes
parts_sound s _ was (none _) = was
parts_sound s t was (next _ m _ p ps) = parts_sound m t (part_sound s m was p) ps
