-- That no digest stands for two texts, as the lane is opened. (Our own.)
use Rattle.std.specs.Prelude.{◌≡◌, ℕ, IsTrue, Some, IfSome, IsSome}
use Rattle.hr_base.specs.Bytes.{ByteList}
use Rattle.hr_base.specs.declared.number.RegNo.{RegNo}
use Rattle.hr_digest.specs.Digest.{digest_of}
use Rattle.hr_adapter.specs.Content.{Content}
use Rattle.hr_adapter.specs.Reg.{Reg}
use Rattle.hr_journal.specs.Origin.{Holds}
use Rattle.hr_line.specs.Orderly.{admitted_at}
use Rattle.hr_line.specs.State.{State, link_at}

-- bytes that a destination of this content has as the lane is opened, or that some source has
pub data IsOpenText (opened : State) (o : Content) (bytes : ByteList) : Type 0 where
  dest : Holds o bytes → IsOpenText opened o bytes
  source : (r : RegNo) (f : Reg) (c : Content) → link_at opened.sources r ≡ Some f → f.told ≡ Some c → Holds c bytes
      → IsOpenText opened o bytes

-- every source was opened quiet and tells, and no digest stands for two of these texts
pub record OpensWithOneText (opened : State) (o : Content) : Type 0 where
  pub tell : (r : RegNo) → IfSome (link_at opened.sources r) (λ f. IsTrue f.quiet × IsSome f.told)
  pub once : (a b : ByteList) → IsOpenText opened o a → IsOpenText opened o b → digest_of a ≡ digest_of b
      → a ≡ b

-- each revision that was admitted reads from a connection that the lane was opened with
abbrev pub HaveSources : State → State → Type 0
HaveSources opened t = (job rev : ℕ)
    → IfSome (admitted_at t.admitted job rev) (λ a. IsSome (link_at opened.sources a.spec.src))
