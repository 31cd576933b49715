-- The newest cause of a job's errors, by the journals of lanes.
use Rattle.std.proofs.Common.{◌≡◌, sym, ap, ◌∙◌, suc, ℕ, ◌+◌, ◌<◌, ◌≤◌, List, ◌∷◌, length, drop, get_or, arith}
use Rattle.std.proofs.Math.Seq.{drop-cons}
use Rattle.std.proofs.lemmas.List.{drop_all}
use Rattle.std.specs.Prelude.{Option, Some, None}
use Rattle.hr_event.specs.declared.cause.Cause.{Cause}
use Rattle.hr_line.specs.State.{State}
use Rattle.hr_promise.specs.Answer.{cause_in}
use Rattle.hr_run.specs.Does.{cause_among, first_cause}

cause_lane : (lanes : List State) (at : ℕ) (lane : State) (job : ℕ) → at < length lanes → lane ≡ get_or lanes at lane
    → cause_among lanes job ≡ cause_among (drop at lanes) job
    → cause_among lanes job ≡ first_cause (cause_in lane.log job) (cause_among (drop (suc at) lanes) job)
cause_lane lanes at lane job within is so =
    so ∙ ap (λ (ls : List State). cause_among ls job) (drop-cons lanes at lane within)
    ∙ ap (λ (x : State). cause_among (x ∷ drop (suc at) lanes) job) (sym is)

-- the journal of this lane has one
pub lane_has : (lanes : List State) (at : ℕ) (lane : State) (job : ℕ) (found : ℕ × Cause) → at < length lanes
    → lane ≡ get_or lanes at lane → cause_among lanes job ≡ cause_among (drop at lanes) job
    → Some found ≡ cause_in lane.log job → Some found ≡ cause_among lanes job
lane_has lanes at lane job found within is so here =
    sym (cause_lane lanes at lane job within is so
    ∙ ap (λ (o : Option (ℕ × Cause)). first_cause o (cause_among (drop (suc at) lanes) job)) (sym here))

-- the journal of this lane has none
pub lane_lacks : (lanes : List State) (at : ℕ) (lane : State) (job : ℕ) → at < length lanes
    → lane ≡ get_or lanes at lane → cause_among lanes job ≡ cause_among (drop at lanes) job
    → None ≡ cause_in lane.log job → cause_among lanes job ≡ cause_among (drop (at + 1) lanes) job
lane_lacks lanes at lane job within is so none =
    cause_lane lanes at lane job within is so
    ∙ ap (λ (o : Option (ℕ × Cause)). first_cause o (cause_among (drop (suc at) lanes) job)) (sym none)
    ∙ ap (λ (n : ℕ). cause_among (drop n lanes) job) (let e : suc at ≡ at + 1 = omega arith in e)

-- no lane has one
pub none_has : (lanes : List State) (at job : ℕ) → length lanes ≤ at
    → cause_among lanes job ≡ cause_among (drop at lanes) job → None ≡ cause_among lanes job
none_has lanes at job past so =
    sym (so ∙ ap (λ (ls : List State). cause_among ls job) (drop_all at lanes past))
