-- Where paths lead, by what stands behind their base.
use Rattle.std.proofs.Common.{◌≡◌, ◌≢◌, ℕ, false, eqb, [], ◌∷◌, ◌++◌, drop, codes, MatchOption, Option, Some, None, refl, sym, ap, ◌∙◌, subst, inl, inr, arith}
use Rattle.std.specs.List.{All}
use Rattle.std.proofs.lemmas.Bool.Decides.{eqb_tells}
use Rattle.std.proofs.lemmas.List.{append_cancel_left, append_cancel_right}
use Rattle.std.proofs.lemmas.List.Elements.{All-cons, All-nil, All-head, All-tail, All-weaker}
use Rattle.hr_base.specs.Bytes.{Text}
use Rattle.hr_text.specs.Cutting.{cut_at}
use Rattle.hr_text.proofs.CutLaws.{cut_at_front}
use Rattle.hr_rest.specs.Path.{LeadsBehind, LeadsTo, Place, executions, one, place_in, policies, tasks}
use Rattle.hr_rest.specs.declared.path.Way.{Way}

abbrev IsPlain : Text → Type 0
IsPlain text = All (λ byte. byte ≢ 47) text

-- what stands before a cut
pub cut_plain : (text : Text) → IsPlain (cut_at 47 text).0
cut_plain [] = All-nil (λ byte. byte ≢ 47)
cut_plain (x ∷ xs) = elim (eqb_tells x 47) [
  | inl here ↦ rw here.0 (All-nil (λ byte. byte ≢ 47))
  | inr other ↦ rw other.0 (All-cons (λ byte. byte ≢ 47) x (cut_at 47 xs).0 other.1 (cut_plain xs))
]

not_slash : (byte : ℕ) → byte ≢ 47 → eqb byte 47 ≡ false
not_slash byte other = elim (eqb_tells byte 47) [ inl e ↦ absurd (other e.1) | inr e ↦ e.0 ]

cut_behind : (id back : Text) → IsPlain id → cut_at 47 (id ++ 47 ∷ back) ≡ (id, Some back)
cut_behind id back plain = cut_at_front 47 id back (All-weaker (λ byte. byte ≢ 47) (λ byte. eqb byte 47 ≡ false) not_slash id plain)

slash_within : (id back : Text) → IsPlain (id ++ 47 ∷ back) → ⊥
slash_within [] back plain = All-head (λ byte. byte ≢ 47) 47 back plain refl
slash_within (x ∷ id) back plain = slash_within id back (All-tail (λ byte. byte ≢ 47) x (id ++ 47 ∷ back) plain)

same_some : (one_text other : Text) → Some one_text ≡ Some other → one_text ≡ other
same_some one_text other e = cc

same_back : (id back other_id other : Text) → IsPlain id → IsPlain other_id → id ++ 47 ∷ back ≡ other_id ++ 47 ∷ other → back ≡ other
same_back id back other_id other plain other_plain e =
    same_some back other (ap (λ (p : Text × Option Text). p.1)
    (sym (cut_behind id back plain) ∙ ap (cut_at 47) e ∙ cut_behind other_id other other_plain))

-- ---- what stands behind `executions/`

pub leads_to_one : (within id : Text) → within ≡ id → id ≡ (cut_at 47 within).0 → LeadsBehind (codes "executions/" ++ within) (one id)
leads_to_one within id e is = record {
  is = ap (λ (t : Text). codes "executions/" ++ t) e;
  plain = subst IsPlain (sym is) (cut_plain within);
}

pub leads_to_tasks : (within id behind : Text) → within ≡ id ++ 47 ∷ behind → behind ≡ codes "tasks" → id ≡ (cut_at 47 within).0
    → LeadsBehind (codes "executions/" ++ within) (tasks id)
leads_to_tasks within id behind e tail is = record {
  is = ap (λ (t : Text). codes "executions/" ++ t) (e ∙ ap (λ (t : Text). id ++ 47 ∷ t) tail);
  plain = subst IsPlain (sym is) (cut_plain within);
}

not_policies : (within : Text) → codes "executions/" ++ within ≡ codes "policies" → ⊥
not_policies within e = let h : ◌≡◌ {A = ℕ} 101 112 = cc in absurd (omega (arith, h))

not_executions : (within : Text) → codes "executions/" ++ within ≡ codes "executions" → ⊥
not_executions within e = let h : 47 ∷ within ≡ [] = ap (λ (t : Text). drop 10 t) e in cc

pub leads_nowhere : (within id behind : Text) → within ≡ id ++ 47 ∷ behind → (behind ≡ codes "tasks" → ⊥) → id ≡ (cut_at 47 within).0
    → (place : Place) → LeadsBehind (codes "executions/" ++ within) place → ⊥
leads_nowhere within id behind e other is policies leads = not_policies within leads.is
leads_nowhere within id behind e other is executions leads = not_executions within leads.is
leads_nowhere within id behind e other is (one text) leads =
    slash_within id behind (subst IsPlain (sym (append_cancel_left (codes "executions/") within text leads.is) ∙ e) leads.plain)
leads_nowhere within id behind e other is (tasks text) leads =
    other (same_back id behind text (codes "tasks") (subst IsPlain (sym is) (cut_plain within)) leads.plain
    (sym e ∙ append_cancel_left (codes "executions/") within (text ++ codes "/tasks") leads.is))

-- ---- what stands behind the base

pub rest_of : (path rest : Text) (place : Place) → path ≡ codes "/api/v2.0/replication/" ++ rest → LeadsTo path place → LeadsBehind rest place
rest_of path rest place e leads =
    subst (λ (t : Text). LeadsBehind t place)
    (append_cancel_left (codes "/api/v2.0/replication/") leads.rest rest (sym leads.is ∙ e)) leads.leads

pub leads_behind : (path rest : Text) (found : Option Way) → path ≡ codes "/api/v2.0/replication/" ++ rest
    → MatchOption found ((place : Place) → LeadsBehind rest place → ⊥) (λ way. LeadsBehind rest (place_in way))
    → MatchOption found ((place : Place) → LeadsTo path place → ⊥) (λ way. LeadsTo path (place_in way))
leads_behind path rest None e none = λ place leads. none place (rest_of path rest place e leads)
leads_behind path rest (Some way) e leads = record { rest = rest; is = e; leads = leads }

pub leads_within : (rest within : Text) (found : Option Way) → rest ≡ codes "executions/" ++ within
    → MatchOption found ((place : Place) → LeadsBehind (codes "executions/" ++ within) place → ⊥) (λ way. LeadsBehind (codes "executions/" ++ within) (place_in way))
    → MatchOption found ((place : Place) → LeadsBehind rest place → ⊥) (λ way. LeadsBehind rest (place_in way))
leads_within rest within found e leads =
    subst (λ (t : Text). MatchOption found ((place : Place) → LeadsBehind t place → ⊥) (λ way. LeadsBehind t (place_in way))) (sym e) leads

-- ---- a path leads to one place

policies_not : (t : Text) → codes "policies" ≡ codes "executions" ++ t → ⊥
policies_not t e = let h : ◌≡◌ {A = ℕ} 112 101 = cc in absurd (omega (arith, h))

executions_not : (t : Text) → codes "executions" ≡ codes "executions/" ++ t → ⊥
executions_not t e = let h : [] ≡ 47 ∷ t = ap (λ (u : Text). drop 10 u) e in cc

one_not : (id other : Text) → IsPlain id → codes "executions/" ++ id ≡ codes "executions/" ++ (other ++ codes "/tasks") → ⊥
one_not id other plain e =
    slash_within other (codes "tasks") (subst IsPlain (append_cancel_left (codes "executions/") id (other ++ codes "/tasks") e) plain)

same_behind : (rest : Text) (p q : Place) → LeadsBehind rest p → LeadsBehind rest q → p ≡ q
same_behind rest policies policies l k = refl
same_behind rest policies executions l k = absurd (policies_not [] (sym l.is ∙ k.is))
same_behind rest policies (one id) l k = absurd (policies_not (47 ∷ id) (sym l.is ∙ k.is))
same_behind rest policies (tasks id) l k = absurd (policies_not (47 ∷ (id ++ codes "/tasks")) (sym l.is ∙ k.is))
same_behind rest executions policies l k = absurd (policies_not [] (sym k.is ∙ l.is))
same_behind rest executions executions l k = refl
same_behind rest executions (one id) l k = absurd (executions_not id (sym l.is ∙ k.is))
same_behind rest executions (tasks id) l k = absurd (executions_not (id ++ codes "/tasks") (sym l.is ∙ k.is))
same_behind rest (one id) policies l k = absurd (policies_not (47 ∷ id) (sym k.is ∙ l.is))
same_behind rest (one id) executions l k = absurd (executions_not id (sym k.is ∙ l.is))
same_behind rest (one id) (one other) l k = ap one (append_cancel_left (codes "executions/") id other (sym l.is ∙ k.is))
same_behind rest (one id) (tasks other) l k = absurd (one_not id other l.plain (sym l.is ∙ k.is))
same_behind rest (tasks id) policies l k = absurd (policies_not (47 ∷ (id ++ codes "/tasks")) (sym k.is ∙ l.is))
same_behind rest (tasks id) executions l k = absurd (executions_not (id ++ codes "/tasks") (sym k.is ∙ l.is))
same_behind rest (tasks id) (one other) l k = absurd (one_not other id k.plain (sym k.is ∙ l.is))
same_behind rest (tasks id) (tasks other) l k =
    ap tasks (append_cancel_right id other (codes "/tasks") (append_cancel_left (codes "executions/") (id ++ codes "/tasks") (other ++ codes "/tasks") (sym l.is ∙ k.is)))

pub one_place : (path : Text) (p q : Place) → LeadsTo path p → LeadsTo path q → p ≡ q
one_place path p q l k = same_behind l.rest p q l.leads (rest_of path l.rest q l.is k)
