-- What canonical lines open can be copied.
use Rattle.std.proofs.Common.{◌≡◌, ◌≤◌, ℕ, zero, suc, List, [], Option, Some, None, IfSome, Ok, refl, arith}
use Rattle.std.specs.Prelude.{Contains}
use Rattle.hr_base.specs.Bytes.{ByteList}
use Rattle.hr_digest.specs.declared.digest.Digest.{Digest}
use Rattle.hr_adapter.specs.Content.{Content, tag_at}
use Rattle.hr_adapter.specs.Put.{as_manifest}
use Rattle.hr_journal.specs.Origin.{Holds}
use Rattle.hr_script.specs.declared.line.Line.{Line}
use Rattle.hr_script.specs.declared.reading.Numbered.{Numbered}
use Rattle.hr_opening.specs.Fit.{AreFit}
use Rattle.hr_opening.specs.Opening.{after_lines}
use Rattle.hr_opening.specs.Setup.{Setups, no_setups, setup_in}
use Rattle.hr_copyable.specs.Canonical.{AreCanonical}
use Rattle.hr_copyable.specs.Copyable.{HoldsTags, IsCopyable, IsHeld, OpensUndisturbed}
use Rattle.hr_copyable.specs.LineTexts.{StoreOneText, texts_from}
use Rattle.hr_copyable.proofs.HoldLemmas.{IsOf}
use Rattle.hr_copyable.proofs.LineLemmas.{AllStand, SetupStands, lines_stand, none_stand}
use Rattle.hr_copyable.proofs.StepLemmas.{ImagesReadBack, IndexesReadBack}
use Rattle.hr_copyable.proofs.TreeLemmas.{FewAreReached, held_of}

-- the number 0 stands for the first registry, as 1 does
numbered : (P : ℕ → Type 0) → P 1 → ((reg : ℕ) → 1 ≤ reg → P reg) → (P 1 → P 0) → (reg : ℕ) → P reg
numbered P one some first zero = first one
numbered P one some first (suc n) = some (suc n) (omega arith)

module _ (few : FewAreReached) (images : ImagesReadBack) (indexes : IndexesReadBack) (lines : List Numbered) (opens : Setups) (fit : AreFit lines) (canonical : AreCanonical lines)
    (once : StoreOneText lines) (is : after_lines no_setups lines ≡ Ok opens) where
  abbrev IsStored : ByteList → Type 0
  IsStored bytes = Contains (texts_from no_setups lines) bytes

  stand : (all : List Line) × AllStand IsStored all opens
  stand = lines_stand IsStored once images indexes [] no_setups opens lines fit canonical (none_stand IsStored) (λ x within. within) is

  each : (reg : ℕ) → 1 ≤ reg → SetupStands IsStored stand.0 reg (setup_in opens reg)
  each reg some = stand.1.each reg some

  tags_held : (reg : ℕ) → 1 ≤ reg → HoldsTags (setup_in opens reg).content
  tags_held reg some repo tag = go (tag_at (setup_in opens reg).content repo tag) refl
    where
      go : (o : Option Digest) → tag_at (setup_in opens reg).content repo tag ≡ o → IfSome o (IsHeld (setup_in opens reg).content repo)
      go (Some d) named =
          let whole = (each reg some).stands.graphs repo tag d named in
          held_of few (setup_in opens reg).content repo d _ whole.graph whole.within
      go None named = tt

  pub tags_are_held : (reg : ℕ) → HoldsTags (setup_in opens reg).content
  tags_are_held = numbered (λ reg. HoldsTags (setup_in opens reg).content) (tags_held 1 (omega arith)) tags_held (λ h. h)

  calm_at : (reg : ℕ) → 1 ≤ reg → OpensUndisturbed (setup_in opens reg)
  calm_at reg some =
      let it = each reg some in
      record { honest = it.stands.of.honest; failing = it.calm.failing; moves = it.calm.moves }

  of_at : (reg : ℕ) → 1 ≤ reg → IsOf IsStored (setup_in opens reg).content
  of_at reg some = (each reg some).stands.of

  stored_at : (reg : ℕ) → IsOf IsStored (setup_in opens reg).content
  stored_at = numbered (λ reg. IsOf IsStored (setup_in opens reg).content) (of_at 1 (omega arith)) of_at (λ h. h)

  held_stored : (c : Content) → IsOf IsStored c → (bytes : ByteList) → Holds c bytes → IsStored bytes
  held_stored c of bytes (Holds.blob repo d at) = of.blobs repo d bytes at
  held_stored c of bytes (Holds.manifest repo d media at) = of.manifests repo d (as_manifest media bytes) at

  pub can_be_copied : IsCopyable opens
  can_be_copied = record {
    undisturbed = numbered (λ reg. OpensUndisturbed (setup_in opens reg)) (calm_at 1 (omega arith)) calm_at (λ h. h);
    held = λ reg apart. tags_are_held reg;
    once = λ a b one other same.
        once a b (held_stored (setup_in opens one.reg).content (stored_at one.reg) a one.held)
        (held_stored (setup_in opens other.reg).content (stored_at other.reg) b other.held) same;
  }
