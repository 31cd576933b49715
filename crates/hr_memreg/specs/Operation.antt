-- How the operations of a registry in memory go. (Our own.)
use Rattle.std.specs.Prelude.{◌≡◌, ◌≤◌, ◌⊎◌, ℕ, Bool, true, false, take, is_some, Option, Some, None, IfSome, option_map, List, [], OnErr, length, Result, Ok, Err}
use Rattle.hr_base.specs.Bytes.{ByteList, Media}
use Rattle.hr_base.specs.declared.memory.Memory.{Memory}
use Rattle.hr_cause.specs.Stream.{Reads}
use Rattle.hr_digest.specs.declared.digest.Digest.{Digest}
use Rattle.hr_name.specs.Name.{RepoName}
use Rattle.hr_event.specs.declared.reference.Reference.{Reference}
use Rattle.hr_adapter.specs.Calls.{with_piece}
use Rattle.hr_adapter.specs.Content.{blob_at, with_blob}
use Rattle.hr_adapter.specs.Plan.{fails_next, moved_at, next_operation, went_on}
use Rattle.hr_adapter.specs.Put.{manifest_alone, put_under}
use Rattle.hr_adapter.specs.declared.fault.RegFault.{RegFault}
use Rattle.hr_adapter.specs.declared.fault.RegFault.TheVariants as why
use Rattle.hr_adapter.specs.declared.registry.TheConstants.{BLOB_LIMIT}
use Rattle.hr_memreg.specs.Mem.{Holds, Mem, after_fault, after_operation}
use Rattle.hr_memreg.specs.Standing.{fate_at}
use Rattle.hr_memreg.specs.declared.standing.Fate.{Fate}

-- an operation without memory for its changes: a front of them is made, and it is counted
abbrev pub IsStuck : Mem → Mem → Type 0
IsStuck m n = (k : ℕ) × (n ≡ record m {
  content = moved_at (next_operation m.plan) (take k m.plan.moves) m.content;
  plan = went_on m.plan;
})

-- an operation begins: its changes are made, and its fate is what was planned
abbrev pub Operates : Mem → Mem → Result Fate Memory → Type 0
Operates m n (Ok fate) =
    (n ≡ after_operation m) × (fate ≡ fate_at (next_operation m.plan) m.plan.failing)
Operates m n (Err memory) = IsStuck m n

-- it failed: one fault more was counted
abbrev pub HasFailed : Mem → Mem → Type 0
HasFailed m n = (n ≡ after_fault m) × (m.faults ≤ n.faults)

-- an operation that asks begins: it fails at once where that was planned
abbrev pub IsAsked : Mem → Mem → Result Unit RegFault → Type 0
IsAsked m n (Ok done) = (n ≡ after_operation m) × (fails_next m.plan ≡ false)
IsAsked m n (Err why.Failed) = HasFailed (after_operation m) n × (fails_next m.plan ≡ true)
IsAsked m n (Err (why.TooLong len)) = ⊥
IsAsked m n (Err why.Memory) = IsStuck m n

-- a blob is opened, where it is there; without memory nothing is open
abbrev pub Opens : RepoName → Digest → Mem → Mem → Result Bool Memory → Type 0
Opens repo d m n (Ok found) = (n ≡ record m { reading = blob_at m.content repo d })
    × (found ≡ is_some (blob_at m.content repo d))
    × IfSome (blob_at m.content repo d) (λ bytes. length bytes ≤ BLOB_LIMIT)
Opens repo d m n (Err memory) = n ≡ record m { reading = None }

-- a read of bytes of which some were left, and of which some are left
abbrev pub IsRead : Option ByteList → ByteList → ℕ → Option ByteList → Type 0
IsRead (Some before) buf count (Some after) = Reads (Some before) buf count (Some after)
IsRead (Some before) buf count None = ⊥
IsRead None buf count after = ⊥

-- a blob is stored under a digest, or without memory nothing
abbrev pub StoresBlob : RepoName → Digest → ByteList → Mem → Mem → Result Unit Memory → Type 0
StoresBlob repo d bytes m n (Ok done) = Holds (with_blob m.content repo d bytes) m n
StoresBlob repo d bytes m n (Err memory) = Holds m.content m n

-- a manifest is put under a reference, or without memory nothing or the manifest alone
abbrev pub StoresManifest : RepoName → Reference → Media → ByteList → Mem → Mem
    → Result Unit Memory → Type 0
StoresManifest repo reference media bytes m n (Ok done) =
    Holds (put_under repo reference media bytes m.content) m n
StoresManifest repo reference media bytes m n (Err memory) =
    Holds m.content m n ⊎ Holds (manifest_alone repo reference media bytes m.content) m n

-- the open blob is read: what is left of it is what was left without what the buffer begins with
abbrev pub ReadsOn : ByteList → ℕ → Mem → Mem → Type 0
ReadsOn buf count m n =
    (n ≡ record m { reading = n.reading }) × IsRead m.reading buf count n.reading

-- a writing begins by the newest operation; without memory none does
abbrev pub Begins : RepoName → Mem → Mem → Result Unit Memory → Type 0
Begins repo m n (Ok done) = n ≡ record m {
  writing = Some (record {
    repo = repo;
    bytes = [];
    broken = false;
    operation = Some m.plan.operations;
  });
}
Begins repo m n (Err memory) = n ≡ m

-- a piece is added to the writing; without memory for it the writing is broken
abbrev pub WritesOn : ByteList → Mem → Mem → Result Unit RegFault → Type 0
WritesOn piece m n result =
    (n ≡ record m { writing = option_map (with_piece piece result) m.writing })
    × OnErr result (result ≡ Err RegFault.Memory)
