-- The paths of the REST front. (After Harbor's replication API.)
use Rattle.std.specs.Prelude.{◌≡◌, ◌≢◌, ◌++◌, [], codes}
use Rattle.std.specs.List.{All}
use Rattle.hr_base.specs.Bytes.{Text}
use Rattle.hr_rest.specs.declared.path.Way.{Way}
use Rattle.hr_rest.specs.declared.path.Way.TheVariants as way

-- where a path leads: to the policies, to the executions, to one of these, or to its tasks; with
-- the text that stands for its number
pub data Place : Type 0 where
  policies : Place
  executions : Place
  one : Text → Place
  tasks : Text → Place

-- what stands behind the base of a path
abbrev pub rest_text : Place → Text
rest_text policies = codes "policies"
rest_text executions = codes "executions"
rest_text (one id) = codes "executions/" ++ id
rest_text (tasks id) = codes "executions/" ++ (id ++ codes "/tasks")

-- the text that stands for a number, where there is one
abbrev pub id_text : Place → Text
id_text policies = []
id_text executions = []
id_text (one id) = id
id_text (tasks id) = id

-- what stands behind the base leads to this place: the text that stands for a number has no slash
pub record LeadsBehind (rest : Text) (place : Place) : Type 0 where
  pub is : rest ≡ rest_text place
  pub plain : All (λ byte. byte ≢ 47) (id_text place)

-- the path leads to this place
pub record LeadsTo (path : Text) (place : Place) : Type 0 where
  pub rest : Text
  pub is : path ≡ codes "/api/v2.0/replication/" ++ rest
  pub leads : LeadsBehind rest place

-- the place of a way as it was found
abbrev pub place_in : Way → Place
place_in way.Policies = policies
place_in way.Executions = executions
place_in (way.One id) = one id.now
place_in (way.Tasks id) = tasks id.now
