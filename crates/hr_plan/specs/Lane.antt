-- Which lane owns a name at a destination. (Our own.)
use Rattle.std.specs.Prelude.{◌≡◌, ◌<◌, ◌+◌, ◌%◌, ℕ, sum}
use Rattle.hr_base.specs.declared.number.RegNo.{RegNo}
use Rattle.hr_name.specs.Name.{RepoName}

-- the lane that owns a name at a destination: the sum of the bytes of the name and of the
-- destination's number, modulo the number of lanes
abbrev pub lane_of : RepoName → RegNo → ℕ → ℕ
lane_of to dst lanes = (sum to + dst.0) % lanes

-- it is one of the lanes, and owns the name at the destination
pub record Owns (to : RepoName) (dst : RegNo) (lanes lane : ℕ) : Type 0 where
  pub below : lane < lanes
  pub is : lane ≡ lane_of to dst lanes

-- exactly one of the lanes owns the name at the destination
pub record HasOneLane (to : RepoName) (dst : RegNo) (lanes : ℕ) : Type 0 where
  pub lane : ℕ
  pub owns : Owns to dst lanes lane
  pub alone : (other : ℕ) → Owns to dst lanes other → other ≡ lane
