-- What requests ask for, and how they are refused.
use Rattle.std.proofs.Common.{◌≡◌, ◌⊎◌, ◌<◌, ℕ, length, Option, Some, None, option_map, Result, Ok, Err, IfOk, refl, sym, ap, ◌∙◌, subst, inl, inr, arith}
use Rattle.std.specs.Prelude.{codes, option_and_then, if◌then◌else◌}
use Rattle.std.proofs.lemmas.Bool.Decides.{leb_tells}
use Rattle.hr_base.specs.Bytes.{ByteList, Text}
use Rattle.hr_base.specs.declared.memory.Memory.{Memory}
use Rattle.hr_head.specs.declared.verb.Verb.{Verb}
use Rattle.hr_head.specs.declared.verb.Verb.TheVariants as verb
use Rattle.hr_http1.specs.declared.message.Request.{Request}
use Rattle.hr_json.specs.Doc.{document_of}
use Rattle.hr_json.specs.declared.doc.TheConstants.{DOC_LIMIT}
use Rattle.hr_setting.specs.Member.{must, whole_in}
use Rattle.hr_rest.specs.declared.number.TheConstants.{LAST_NUMBER}
use Rattle.hr_rest.specs.Asking.{IsAsked, asks_of, executions_at, one_of, or_bad, policy_in, start_of, stop_of, tasks_at}
use Rattle.hr_rest.specs.Number.{id_in}
use Rattle.hr_rest.specs.Path.{LeadsTo, Place, executions, one, policies, tasks}
use Rattle.hr_rest.specs.Query.{paging_of, path_of, query_of}
use Rattle.hr_rest.specs.declared.question.Asked.{Asked}
use Rattle.hr_rest.specs.declared.question.Asked.TheVariants as asks
use Rattle.hr_rest.proofs.PathLemmas.{one_place}

pub one_thing : (request : Request) (a b : Asked) → IsAsked request a → IsAsked request b → a ≡ b
one_thing request a b (inl l) (inl k) =
    l.is ∙ ap (λ place. asks_of request.verb place (query_of request.target) request.body) (one_place (path_of request.target) l.place k.place l.leads k.leads) ∙ sym k.is
one_thing request a b (inl l) (inr k) = absurd (k.none l.place l.leads)
one_thing request a b (inr l) (inl k) = absurd (l.none k.place k.leads)
one_thing request a b (inr l) (inr k) = l.is ∙ sym k.is

-- a refusal is one of the three
abbrev pub IsFine : Asked → Type 0
IsFine (asks.Refused status) = (status ≡ 400) ⊎ (status ≡ 404) ⊎ (status ≡ 405)
IsFine other = Unit {0}

fine_start : (policy : Option ℕ) → IsFine (or_bad (option_map start_of policy))
fine_start None = inl refl
fine_start (Some policy) = tt

fine_one : (exec : Option ℕ) → IsFine (or_bad (option_map one_of exec))
fine_one None = inl refl
fine_one (Some exec) = tt

fine_stop : (exec : Option ℕ) → IsFine (or_bad (option_map stop_of exec))
fine_stop None = inl refl
fine_stop (Some exec) = tt

fine_page : (paging : Option (ℕ × ℕ)) → IsFine (or_bad (option_map executions_at paging))
fine_page None = inl refl
fine_page (Some paging) = tt

fine_tasks : (exec : Option ℕ) (paging : Option (ℕ × ℕ)) → IsFine (or_bad (tasks_at exec paging))
fine_tasks None paging = inl refl
fine_tasks (Some exec) None = inl refl
fine_tasks (Some exec) (Some paging) = tt

fine_asks : (method : Verb) (place : Place) (query : Text) (body : ByteList) → IsFine (asks_of method place query body)
fine_asks verb.Get policies query body = tt
fine_asks verb.Post executions query body = fine_start (policy_in body)
fine_asks verb.Get executions query body = fine_page (paging_of query)
fine_asks verb.Get (one id) query body = fine_one (id_in id)
fine_asks verb.Put (one id) query body = fine_stop (id_in id)
fine_asks verb.Get (tasks id) query body = fine_tasks (id_in id) (paging_of query)
fine_asks method place query body = inr (inr refl)

pub refused_by : (request : Request) (status : ℕ) → IsAsked request (asks.Refused status) → (status ≡ 400) ⊎ (status ≡ 404) ⊎ (status ≡ 405)
refused_by request status (inl l) = subst IsFine (sym l.is) (fine_asks request.verb l.place (query_of request.target) request.body)
refused_by request status (inr l) =
    let fine : IsFine (asks.Refused 404) = inr (inl refl) in
    subst IsFine (sym l.is) fine

-- ---- for the functions

pub too_long_body : (body : ByteList) → DOC_LIMIT < length body → None ≡ policy_in body
too_long_body body long = elim (leb_tells (length body) DOC_LIMIT) [
  | inl short ↦ absurd (omega (arith, short.1, long))
  | inr other ↦ ap (λ t. if t then option_and_then (must (whole_in 1 LAST_NUMBER) (codes "policy_id")) (document_of body) else None) (sym other.0)
]

pub asked_there : (request : Request) (result : Result Asked Memory) (place : Place) (path query body : Text) → LeadsTo path place
    → path ≡ path_of request.target → query ≡ query_of request.target → body ≡ request.body
    → IfOk result (λ asked. asked ≡ asks_of request.verb place query body) → IfOk result (IsAsked request)
asked_there request (Ok asked) place path query body leads at behind content is = inl (record {
  place = place;
  leads = subst (λ (t : Text). LeadsTo t place) at leads;
  is = is ∙ ap (λ q. asks_of request.verb place q body) behind ∙ ap (λ b. asks_of request.verb place (query_of request.target) b) content;
})
asked_there request (Err why) place path query body leads at behind content is = tt
