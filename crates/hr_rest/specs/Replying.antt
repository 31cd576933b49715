-- The replies, each by what is asked and by a snapshot. (After Harbor's replication API.)
use Rattle.std.specs.Prelude.{ℕ, nat_eq, List, [], ◌∷◌, ◌++◌, length, map, reverse, codes, decimal, Option, Some, None, if◌then◌else◌}
use Rattle.std.specs.List.{find}
use Rattle.serde_json.specs.Data.{Data, boolean, object, no_members, member}
use Rattle.serde_json.specs.Written.{compact_text}
use Rattle.hr_base.specs.Bytes.{Text}
use Rattle.hr_base.specs.declared.number.ExecNo.{ExecNo}
use Rattle.hr_event.specs.declared.view.ExecView.{ExecView}
use Rattle.hr_event.specs.declared.view.RowView.{RowView}
use Rattle.hr_frame.specs.declared.head.Head.{Head}
use Rattle.hr_http1.specs.declared.message.Reply.{Reply}
use Rattle.hr_policy.specs.declared.config.Policy.{Policy}
use Rattle.hr_rest.specs.Page.{page_of, rows_of}
use Rattle.hr_rest.specs.Value.{exec_value, list_value, row_value, text_value, whole_value}
use Rattle.hr_rest.specs.declared.question.Asked.{Asked}
use Rattle.hr_rest.specs.declared.question.Asked.TheVariants as asks
use Rattle.hr_rest.specs.declared.view.Snapshot.{Snapshot}

-- a field line
abbrev pub line : Text → Text → Head
line name value = record { name = name; value = value }

-- a reply with no body
abbrev pub empty_reply : ℕ → Reply
empty_reply status = record { status = status; heads = []; body = [] }

-- a list, with the number of all items that it is a page of
abbrev pub list_reply : ℕ → Data → Reply
list_reply total list = record {
  status = 200;
  heads = line (codes "X-Total-Count") (decimal total) ∷ [];
  body = compact_text list;
}

-- the value of a policy
abbrev pub policy_value : Policy → Data
policy_value policy =
    object (member (codes "enabled") (boolean policy.enabled)
    (member (codes "id") (whole_value policy.id.0)
    (member (codes "name") (text_value policy.name) no_members)))

-- the policy of a number
abbrev pub policy_numbered : ℕ → List Policy → Option Policy
policy_numbered number policies = find (λ policy. nat_eq policy.id.0 number) policies

-- the execution of a number
abbrev pub view_numbered : ℕ → List ExecView → Option ExecView
view_numbered number execs = find (λ exec. nat_eq exec.exec.0 number) execs

-- all policies
abbrev pub policies_reply : List Policy → Reply
policies_reply policies = list_reply (length policies) (list_value (map policy_value policies))

-- where an execution is found
abbrev pub location_of : ℕ → Text
location_of exec = codes "/api/v2.0/replication/executions/" ++ decimal exec

-- an execution that was made, or 507 where there was no room for one
abbrev pub made_reply : Option ExecNo → Reply
made_reply None = empty_reply 507
made_reply (Some exec) = record {
  status = 201;
  heads = line (codes "Location") (location_of exec.0) ∷ [];
  body = [];
}

-- a start of a policy: 404 where there is none, 412 where it is off
abbrev pub start_reply : Option Policy → Option ExecNo → Reply
start_reply None made = empty_reply 404
start_reply (Some policy) made = if policy.enabled then made_reply made else empty_reply 412

-- a page of the executions, the newest first
abbrev pub executions_reply : ℕ → ℕ → List ExecView → Reply
executions_reply page size execs =
    list_reply (length execs) (list_value (map exec_value (page_of page size (reverse execs))))

-- an execution: 404 where there is none
abbrev pub one_reply : Option ExecView → Reply
one_reply None = empty_reply 404
one_reply (Some exec) =
    record { status = 200; heads = []; body = compact_text (exec_value exec) }

-- a stop of an execution: 404 where there is none
abbrev pub stop_reply : Option ExecView → Reply
stop_reply None = empty_reply 404
stop_reply (Some exec) = empty_reply 200

-- a page of the tasks of an execution, of which these are all: 404 where there is none
abbrev pub tasks_reply : Option ExecView → ℕ → ℕ → List RowView → Reply
tasks_reply None page size rows = empty_reply 404
tasks_reply (Some exec) page size rows =
    list_reply (length rows) (list_value (map row_value (page_of page size rows)))

-- the reply to what is asked
abbrev pub reply_of : Asked → Snapshot → Reply
reply_of asks.Policies view = policies_reply view.policies
reply_of (asks.Start policy) view = start_reply (policy_numbered policy.0 view.policies) view.made
reply_of (asks.Executions page size) view = executions_reply page size view.execs
reply_of (asks.One exec) view = one_reply (view_numbered exec.0 view.execs)
reply_of (asks.Stop exec) view = stop_reply (view_numbered exec.0 view.execs)
reply_of (asks.Tasks exec page size) view =
    tasks_reply (view_numbered exec.0 view.execs) page size (rows_of exec.0 view.rows)
reply_of (asks.Refused status) view = empty_reply status
