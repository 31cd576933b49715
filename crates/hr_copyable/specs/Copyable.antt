-- When all that stands in the registries of a script can be copied, by what they open with alone.
-- (Our own, over OCI Image 1.1, "Image Manifest" and "Image Index".)
use Rattle.std.specs.Prelude.{◌≡◌, ◌≢◌, ℕ, IsTrue, [], Some, IfSome}
use Rattle.hr_base.specs.Bytes.{ByteList}
use Rattle.hr_digest.specs.Digest.{digest_of}
use Rattle.hr_digest.specs.declared.digest.Digest.{Digest}
use Rattle.hr_name.specs.Name.{RepoName}
use Rattle.hr_name.specs.Tag.{TagName}
use Rattle.hr_adapter.specs.Content.{Content, Honest, tag_at}
use Rattle.hr_adapter.specs.Reg.{Reg}
use Rattle.hr_journal.specs.Graph.{StandsWhole}
use Rattle.hr_journal.specs.Origin.{Holds}
use Rattle.hr_opening.specs.Setup.{Setups, setup_in}
use Rattle.hr_opening.specs.declared.setup.RegSetup.{RegSetup}
use Rattle.hr_whole.specs.Whole.{HasFewPairs}

-- the graph of a manifest is held: all of it stands there, readable, with the lengths that its
-- descriptors say, no deeper than a graph may be, and of no more pairs than a walk may meet
pub record IsHeld (c : Content) (repo : RepoName) (d : Digest) : Type 0 where
  pub whole : StandsWhole c repo d
  pub few : HasFewPairs c repo d

-- the graph of each manifest that a tag names is held
abbrev pub HoldsTags : Content → Type 0
HoldsTags c = (repo : RepoName) (tag : TagName) → IfSome (tag_at c repo tag) (IsHeld c repo)

-- a registry opens with everything under its own digest, and neither a fault nor a change of a tag
-- is planned for it
pub record OpensUndisturbed (setup : RegSetup) : Type 0 where
  pub honest : Honest setup.content
  pub failing : setup.failing ≡ []
  pub moves : setup.moves ≡ []

-- one of the registries opens with these bytes, as a blob or as a manifest
pub record OpensWith (opens : Setups) (bytes : ByteList) : Type 0 where
  pub reg : ℕ
  pub held : Holds (setup_in opens reg).content bytes

-- no digest stands for two texts of all that the registries open with
abbrev pub HasOneText : Setups → Type 0
HasOneText opens =
    (a b : ByteList) → OpensWith opens a → OpensWith opens b → digest_of a ≡ digest_of b → a ≡ b

-- all that stands in the registries can be copied: nothing disturbs them, what tags name is held
-- in each that is read from (all but number 2, which is written to), and no digest stands for two
-- texts
pub record IsCopyable (opens : Setups) : Type 0 where
  pub undisturbed : (reg : ℕ) → OpensUndisturbed (setup_in opens reg)
  pub held : (reg : ℕ) → reg ≢ 2 → HoldsTags (setup_in opens reg).content
  pub once : HasOneText opens

-- a connection tells this content, has not failed and can't, and no change is planned for it
pub record IsUndisturbed (reg : Reg) (c : Content) : Type 0 where
  pub told : reg.told ≡ Some c
  pub quiet : IsTrue reg.quiet
  pub sure : IsTrue reg.sure
  pub none : reg.faults ≡ 0
