-- The causes of faults of messages. (Our own.)
use Rattle.std.specs.Prelude.{◌≡◌, ℕ, Result}
use Rattle.hr_cause.specs.Stream.{HasCause}
use Rattle.hr_body.specs.declared.fault.WireFault.{WireFault}
use Rattle.hr_body.specs.declared.fault.WireFault.TheVariants.{Failed}

-- `Failed` comes only where the count of the device's faults rose, and at every other answer the
-- count stays
abbrev pub FailsByDevice : {T : Type 0} → ℕ → ℕ → Result T WireFault → Type 0
FailsByDevice before now result = HasCause (λ why. why ≡ Failed) before now result
