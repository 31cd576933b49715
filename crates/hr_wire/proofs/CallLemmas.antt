-- What a first line asks for, and which call its request is.
use Rattle.std.proofs.Common.{ℕ, ap, sym, subst, Result, Ok, Err, inl, inr}
use Rattle.hr_call.specs.declared.call.Call.{Call}
use Rattle.hr_http1.specs.declared.message.Request.{Request}
use Rattle.hr_route.specs.declared.route.NoRoute.{NoRoute}
use Rattle.hr_route.specs.declared.route.NoRoute.TheVariants as refused
use Rattle.hr_route.specs.declared.route.Route.{Route}
use Rattle.hr_route.specs.Routing.{IsRouteOf}
use Rattle.hr_wire.specs.Call.{Gives, IsCallOf, call_asked, call_with}

-- a first line that is refused is the refusal of its request
pub refused_call : (request : Request) (why : NoRoute) → IsRouteOf request.verb request.target (Err why) → IsCallOf request (Err why)
refused_call request (refused.Status status) (inl is) = inl (record { way = is.way; leads = is.leads; gives = ap (λ (r : Result Route ℕ). call_asked r request) is.answers })
refused_call request (refused.Status status) (inr is) = inr (record { none = is.none; gives = ap (λ (r : Result Route ℕ). call_asked r request) is.answers })
refused_call request refused.Memory (inl is) = inl (record { way = is.way; leads = is.leads; gives = tt })
refused_call request refused.Memory (inr is) = inr (record { none = is.none; gives = tt })

-- what a first line asks for is the call that its lines and its body make of it
pub asked_call : (request : Request) (asks : Route) (answer : Result Call NoRoute) → IsRouteOf request.verb request.target (Ok asks) → Gives (call_with asks request) answer → IsCallOf request answer
asked_call request asks answer (inl is) gives =
    inl (record { way = is.way; leads = is.leads; gives = subst (λ (r : Result Call ℕ). Gives r answer) (sym (ap (λ (r : Result Route ℕ). call_asked r request) is.answers)) gives })
asked_call request asks answer (inr is) gives = absurd (let e = is.answers in cc)
