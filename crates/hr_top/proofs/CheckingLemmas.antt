-- A file that is too long to be a configuration.
use Rattle.std.proofs.Common.{◌≡◌, ◌<◌, ◌⊎◌, ℕ, zero, suc, false, nat_le, [], ◌∷◌, length, Option, Some, None, IfSome, Err, inr, ⊎_elim, refl, ap, arith}
use Rattle.std.specs.Option.{option_map}
use Rattle.std.proofs.lemmas.Bool.Decides.{nat_tests}
use Rattle.hr_base.specs.Bytes.{ByteList, Text}
use Rattle.hr_tree.specs.Tree.{Files, IsFailed, IsTooLong, IsWithin, ReadsFile, file_at}
use Rattle.hr_tree.specs.declared.fault.TreeFault.{TreeFault}
use Rattle.hr_tree.specs.declared.fault.TreeFault.TheVariants as tree
use Rattle.hr_policy.specs.Reading.{config_of}
use Rattle.hr_policy.specs.declared.reading.TheConstants.{CONFIG_LIMIT}
use Rattle.hr_policy.specs.declared.refusal.ConfigRefused.TheVariants as why
use Rattle.hr_top.specs.Checking.{Checks, FaultAt, SaysUnfit}
use Rattle.hr_top.specs.Wording.{refused_text}
use Rattle.hr_top.specs.declared.outcome.Outcome.{Outcome}
use Rattle.hr_top.specs.declared.outcome.Outcome.TheVariants.{Replayed, Checked, Usage, Bad, TooLong, Unfit, Faulted, TreeFaulted, Memory}

-- so many bytes
zeros : ℕ → ByteList
zeros zero = []
zeros (suc n) = 0 ∷ zeros n

length-zeros : (n : ℕ) → length (zeros n) ≡ n
unfolding zeros
length-zeros zero = refl
length-zeros (suc n) = ap (λ m. suc m) (length-zeros n)

-- bytes above the limit are no configuration
long_fault : (bytes : ByteList) (len : ℕ) → length bytes ≡ len → CONFIG_LIMIT < len → config_of bytes ≡ Err (why.TooLong len)
long_fault bytes len same above =
    let no : nat_le (length bytes) CONFIG_LIMIT ≡ false = grind (arith, nat_tests) in
    rw (no, same) refl

-- a file that is too long has bytes, and they are too many
long_bytes : (file : Option ByteList) (len : ℕ) → option_map length file ≡ Some len → (bytes : ByteList) × (file ≡ Some bytes) × (length bytes ≡ len)
long_bytes None len has = absurd cc
long_bytes (Some bytes) len has = (bytes, refl, cc)

-- what stands at the path is too long to be a configuration
long_at : (files : Option Files) (path : Text) (len : ℕ) (text : Text) → IfSome files (λ told. IsTooLong (file_at told path) CONFIG_LIMIT len) → CONFIG_LIMIT < len → text ≡ refused_text (why.TooLong len)
    → FaultAt files path text
long_at None path len text long above says =
    record { bytes = zeros len; stands = tt; unfit = record { why = why.TooLong len; fault = long_fault (zeros len) len (length-zeros len) above; says = says } }
long_at (Some told) path len text long above says =
    let found = long_bytes (file_at told path) len long.0 in
    record { bytes = found.0; stands = found.1; unfit = record { why = why.TooLong len; fault = long_fault found.0 len found.2 above; says = says } }

-- what is said of a path where the file is too long
checks_of_long : (outcome : Outcome) (files : Option Files) (path : Text) (len faults faults' : ℕ) → IfSome files (λ told. IsTooLong (file_at told path) CONFIG_LIMIT len) → CONFIG_LIMIT < len → faults' ≡ faults → SaysUnfit (refused_text (why.TooLong len)) outcome
    → Checks files faults faults' path outcome
checks_of_long (Unfit text) files path len faults faults' long above calm says = (inr (long_at files path len text long above says), calm)
checks_of_long Memory files path len faults faults' long above calm says = calm
checks_of_long (Replayed text status) files path len faults faults' long above calm says = absurd says
checks_of_long (Checked text) files path len faults faults' long above calm says = absurd says
checks_of_long Usage files path len faults faults' long above calm says = absurd says
checks_of_long (Bad text) files path len faults faults' long above calm says = absurd says
checks_of_long TooLong files path len faults faults' long above calm says = absurd says
checks_of_long Faulted files path len faults faults' long above calm says = absurd says
checks_of_long TreeFaulted files path len faults faults' long above calm says = absurd says

-- the same, of a fault that says so
pub checks_of_fault : (outcome : Outcome) (files : Option Files) (path : Text) (fault : TreeFault) (len faults faults' : ℕ) → fault ≡ tree.TooLong len → IfSome files (λ told. ReadsFile told path CONFIG_LIMIT (Err fault)) → IsWithin CONFIG_LIMIT (Err fault) → IsFailed fault ⊎ (faults' ≡ faults) → SaysUnfit (refused_text (why.TooLong len)) outcome
    → Checks files faults faults' path outcome
checks_of_fault outcome files path (tree.TooLong m) len faults faults' is told within calm says =
    let same : m ≡ len = cc in
    let long : IfSome files (λ held. IsTooLong (file_at held path) CONFIG_LIMIT len) = rw (← same) told in
    let above : CONFIG_LIMIT < len = rw (← same) within in
    checks_of_long outcome files path len faults faults' long above (⊎_elim (λ failed. absurd failed) (λ e. e) calm) says
checks_of_fault outcome files path tree.Failed len faults faults' is told within calm says = absurd cc
checks_of_fault outcome files path tree.Memory len faults faults' is told within calm says = absurd cc
