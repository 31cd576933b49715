-- The manifests that tags show, or will show by a plan, as rows. (Our own.)
use Rattle.std.specs.Prelude.{◌+◌, ◌-◌, ◌^◌, ◌++◌, ℕ, IsTrue, min, nat_le, if◌then◌else◌, List, Contains, Option, None, IfSome, option_map, option_and_then}
use Rattle.std.specs.List.{AllByRecursion, filter_map, flat_map}
use Rattle.std.specs.Map.{lookup}
use Rattle.std.specs.BTreeMap.{is_at}
use Rattle.hr_digest.specs.Order.{digest_cmp}
use Rattle.hr_name.specs.Name.{RepoName}
use Rattle.hr_name.specs.Tag.{TagName}
use Rattle.hr_event.specs.declared.reference.Fetched.{Fetched}
use Rattle.hr_adapter.specs.Content.{Content, Repo, Target, manifest_at}
use Rattle.hr_adapter.specs.Reg.{AreShown, Row}
use Rattle.hr_adapter.specs.declared.plan.Change.{Change}
use Rattle.hr_memreg.specs.declared.standing.Standing.{Standing}

-- the number of the operation after one of this number
abbrev pub number_after : ℕ → ℕ
number_after n = min (n + 1) (2 ^ 64 - 1)

-- a manifest that a tag shows, as a row
abbrev pub row_of : RepoName → TagName → Fetched → Row
row_of repo tag m = record { repo = repo; tag = tag; media = m.media; bytes = m.bytes }

-- the row of one tag of a repository, where its manifest is there
abbrev pub row_shown : RepoName × Repo → TagName × Target → Option Row
row_shown repo tag = option_map (row_of repo.0 tag.0)
    (option_and_then (λ d. lookup (is_at (digest_cmp d)) repo.1.manifests) tag.1)

-- a row for each tag of a content whose manifest is there
unfoldable pub rows_shown : Content → List Row
rows_shown c = flat_map (λ repo. filter_map (row_shown repo) repo.1.tags) c

-- the row that a change will show, where it is for operation n or a later one and its manifest is
-- there
abbrev pub row_coming : ℕ → Content → Change → Option Row
row_coming n c m =
    if nat_le n m.op then option_map (row_of m.repo m.tag) (manifest_at c m.repo m.digest) else None

-- the rows of what stood at one moment: what the tags show, and what the changes to come will show
abbrev pub rows_standing : Standing → List Row
rows_standing s =
    rows_shown s.held ++ filter_map (row_coming (number_after s.operations) s.held) s.moves

-- the rows of what stood at several moments
abbrev pub rows_ever : List Standing → List Row
rows_ever moments = flat_map rows_standing moments

-- rows have what a change shows, where it is for operation n or a later one
abbrev pub IsComing : ℕ → Content → List Row → Change → Type 0
IsComing n c rows m = IsTrue (nat_le n m.op)
    → IfSome (manifest_at c m.repo m.digest) (λ stored. Contains rows (row_of m.repo m.tag stored))

-- rows have all that the tags show and that the changes to come will show
pub record AreRows (s : Standing) (rows : List Row) : Type 0 where
  pub shown : AreShown s.held rows
  pub coming : AllByRecursion (IsComing (number_after s.operations) s.held rows) s.moves
