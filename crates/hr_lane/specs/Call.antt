-- Calls of a registry with the counts of faults around them. (Our own.)
use Rattle.std.specs.Prelude.{◌≡◌, Result, IfErr}
use Rattle.hr_adapter.specs.Reg.{Reg}
use Rattle.hr_blob.specs.declared.outcome.Failing.{Failing}

-- an error has the counts of faults before a call and after it
abbrev pub IsCounted : {T : Type 0} → Reg → Reg → Result T Failing → Type 0
IsCounted before after result =
    IfErr result (λ failing. (failing.before ≡ before.faults) × (failing.after ≡ after.faults))
