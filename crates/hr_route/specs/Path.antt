-- The paths of the API, taken apart at their last slash (OCI Distribution 1.1, "Endpoints").
use Rattle.std.specs.Prelude.{◌≡◌, ◌≢◌, ℕ, ◌∷◌, ◌++◌, length, codes, All}
use Rattle.hr_base.specs.Bytes.{Text}
use Rattle.hr_route.specs.declared.path.Kind.{Kind}
use Rattle.hr_route.specs.declared.path.Kind.TheVariants.{Tags, Manifests, Blobs, Uploads}
use Rattle.hr_route.specs.declared.path.Parts.{Parts}
use Rattle.hr_route.specs.declared.path.Parts.TheVariants.{Top, Within}

-- where a path leads: to what stands behind `/v2/`, or to something of a repository, by the texts
-- that stand in the path
pub data Way : Type 0 where
  top : Text → Way
  within : Text → Kind → Text → Way

-- what stands behind the name of a repository, and before the last slash
abbrev pub kind_text : Kind → Text
kind_text Tags = codes "/tags"
kind_text Manifests = codes "/manifests"
kind_text Blobs = codes "/blobs"
kind_text Uploads = codes "/blobs/uploads"

-- what stands before the last slash
abbrev pub front_of : Way → Text
front_of (top last) = codes "/v2"
front_of (within repo kind last) = codes "/v2/" ++ (repo ++ kind_text kind)

-- what stands behind the last slash
abbrev pub last_of : Way → Text
last_of (top last) = last
last_of (within repo kind last) = last

-- the path of a way
abbrev pub path_text : Way → Text
path_text way = front_of way ++ 47 ∷ last_of way

-- the text has no slash
abbrev pub HasNoSlash : Text → Type 0
HasNoSlash text = All (λ byte. byte ≢ 47) text

-- the path leads this way: the way's last part has no slash
pub record IsWay (path : Text) (way : Way) : Type 0 where
  pub is : path ≡ path_text way
  pub last : HasNoSlash (last_of way)

-- the text is cut at its last slash, which stands at this place
pub record SplitsAt (text : Text) (at : ℕ) : Type 0 where
  pub front : Text
  pub last : Text
  pub is : text ≡ front ++ 47 ∷ last
  pub len : length front ≡ at
  pub none : HasNoSlash last

-- the way of parts as they were found
abbrev pub way_in : Parts → Way
way_in (Top last) = top last.now
way_in (Within repo kind last) = within repo.now kind last.now
