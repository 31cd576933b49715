-- What a request asks for. (After Harbor's replication API.)
use Rattle.std.specs.Prelude.{◌≡◌, ◌⊎◌, ℕ, nat_le, length, codes, Option, Some, None, option_map, option_and_then, if◌then◌else◌}
use Rattle.hr_base.specs.Bytes.{ByteList, Text}
use Rattle.hr_head.specs.declared.verb.Verb.{Verb}
use Rattle.hr_head.specs.declared.verb.Verb.TheVariants as verb
use Rattle.hr_http1.specs.declared.message.Request.{Request}
use Rattle.hr_json.specs.Doc.{document_of}
use Rattle.hr_json.specs.declared.doc.TheConstants.{DOC_LIMIT}
use Rattle.hr_setting.specs.Member.{must, whole_in}
use Rattle.hr_rest.specs.Number.{id_in}
use Rattle.hr_rest.specs.Path.{LeadsTo, Place, executions, one, policies, tasks}
use Rattle.hr_rest.specs.Query.{paging_of, path_of, query_of}
use Rattle.hr_rest.specs.declared.number.TheConstants.{LAST_NUMBER}
use Rattle.hr_rest.specs.declared.question.Asked.{Asked}
use Rattle.hr_rest.specs.declared.question.Asked.TheVariants as asks

-- the policy that a body names: its member `policy_id`
abbrev pub policy_in : ByteList → Option ℕ
policy_in body =
    if nat_le (length body) DOC_LIMIT
    then option_and_then (must (whole_in 1 LAST_NUMBER) (codes "policy_id")) (document_of body)
    else None

-- what is asked, or 400 where a part of it is bad
abbrev pub or_bad : Option Asked → Asked
or_bad None = asks.Refused 400
or_bad (Some asked) = asked

-- a new execution of the policy of a number
abbrev pub start_of : ℕ → Asked
start_of policy = asks.Start (record { 0 = policy })

-- a page of the executions
abbrev pub executions_at : ℕ × ℕ → Asked
executions_at (page, size) = asks.Executions page size

-- the execution of a number
abbrev pub one_of : ℕ → Asked
one_of exec = asks.One (record { 0 = exec })

-- the stop of the execution of a number
abbrev pub stop_of : ℕ → Asked
stop_of exec = asks.Stop (record { 0 = exec })

-- a page of the tasks of the execution of a number
abbrev pub tasks_at : Option ℕ → Option (ℕ × ℕ) → Option Asked
tasks_at None paging = None
tasks_at (Some exec) None = None
tasks_at (Some exec) (Some (page, size)) = Some (asks.Tasks (record { 0 = exec }) page size)

-- what a verb asks of a place, with this query and this body
abbrev pub asks_of : Verb → Place → Text → ByteList → Asked
asks_of verb.Get policies query body = asks.Policies
asks_of verb.Post executions query body = or_bad (option_map start_of (policy_in body))
asks_of verb.Get executions query body = or_bad (option_map executions_at (paging_of query))
asks_of verb.Get (one id) query body = or_bad (option_map one_of (id_in id))
asks_of verb.Put (one id) query body = or_bad (option_map stop_of (id_in id))
asks_of verb.Get (tasks id) query body = or_bad (tasks_at (id_in id) (paging_of query))
asks_of method place query body = asks.Refused 405

-- the path of a request leads to this place, of which its verb asks this
pub record AsksThere (request : Request) (asked : Asked) : Type 0 where
  pub place : Place
  pub leads : LeadsTo (path_of request.target) place
  pub is : asked ≡ asks_of request.verb place (query_of request.target) request.body

-- the path of a request leads nowhere, which is 404
pub record AsksNowhere (request : Request) (asked : Asked) : Type 0 where
  pub none : (place : Place) → LeadsTo (path_of request.target) place → ⊥
  pub is : asked ≡ asks.Refused 404

-- what a request asks for
abbrev pub IsAsked : Request → Asked → Type 0
IsAsked request asked = AsksThere request asked ⊎ AsksNowhere request asked
