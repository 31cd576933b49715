-- A call is read back from its request.
use Rattle.std.proofs.Common.{◌≡◌, ◌+◌, ◌-◌, ℕ, Bool, true, false, List, [], ◌∷◌, ◌++◌, length, codes, Option, Some, None, Result, Ok, Err, refl, sym, ap, ◌∙◌, subst, append-nil, inl, inr}
use Rattle.hr_base.specs.Bytes.{ByteList, Media, Text}
use Rattle.hr_call.specs.declared.call.Call.{Call}
use Rattle.hr_call.specs.declared.call.Call.TheVariants as call
use Rattle.hr_event.specs.declared.reference.Reference.{Reference}
use Rattle.hr_frame.specs.declared.head.Head.{Head}
use Rattle.hr_frame.specs.Named.{values_named}
use Rattle.hr_http1.specs.declared.message.Request.{Request}
use Rattle.hr_http1.specs.Sendable.{request_as_read}
use Rattle.hr_http1.specs.Written.{length_lines}
use Rattle.hr_name.specs.Name.{RepoName}
use Rattle.hr_route.specs.declared.route.NoRoute.{NoRoute}
use Rattle.hr_route.specs.declared.route.NoRoute.TheVariants as refused
use Rattle.hr_route.specs.declared.route.Route.{Route}
use Rattle.hr_route.specs.Path.{IsWay, Way}
use Rattle.hr_route.specs.Query.{path_of}
use Rattle.hr_route.specs.Routing.{Answers, IsRouteOf, asked, found}
use Rattle.hr_route.specs.Target.{IsFit, route_asked, target_text, verb_of}
use Rattle.hr_wire.specs.Call.{Gives, IsCallOf, call_asked, call_with, chunk_with, put_with}
use Rattle.hr_wire.specs.Line.{line}
use Rattle.hr_wire.specs.Media.{media_asked}
use Rattle.hr_wire.specs.Range.{from_asked, range_text}
use Rattle.hr_wire.specs.Request.{IsSendable, body_of, lines_of, request_value}
use Rattle.hr_wire.proofs.LineLemmas.{values_joined}
use Rattle.hr_wire.proofs.MediaLemmas.{media_back}
use Rattle.hr_wire.proofs.RangeLemmas.{from_back}

-- what is asked is read back from its first line
abbrev pub ReadsRoutes : Type 0
ReadsRoutes = (asks : Route) (answer : Result Route NoRoute) → IsFit asks → IsRouteOf (verb_of asks) (target_text asks) answer → Answers (Ok asks) answer

-- the way of a target leads to what was asked
leads_there : ReadsRoutes → (asks : Route) → IsFit asks → (way : Way) → IsWay (path_of (target_text asks)) way → asked (verb_of asks) way (target_text asks) ≡ Ok asks
leads_there law asks fit way leads = go (asked (verb_of asks) way (target_text asks)) refl
  where
    go : (answer : Result Route ℕ) → asked (verb_of asks) way (target_text asks) ≡ answer → asked (verb_of asks) way (target_text asks) ≡ Ok asks
    go (Ok other) is = is ∙ sym (law asks (Ok other) fit (inl (record { way = way; leads = leads; answers = is })))
    go (Err status) is = absurd (let e = law asks (Err (refused.Status status)) fit (inl (record { way = way; leads = leads; answers = is })) in cc)

never_lost : ReadsRoutes → (asks : Route) → IsFit asks → ((way : Way) → IsWay (path_of (target_text asks)) way → ⊥) → ⊥
never_lost law asks fit none = let e = law asks (Err (refused.Status 404)) fit (inr (record { none = none; answers = refl })) in cc

-- ---- the values of the lines that count

line_type : (v : Text) → values_named (codes "content-type") (line (codes "Content-Type") v ∷ []) ≡ v ∷ []
unfolding values_named
line_type v = refl

length_no_type : (written : Bool) (len : ℕ) → values_named (codes "content-type") (length_lines written len) ≡ []
unfolding values_named
length_no_type false len = refl
length_no_type true len = refl

length_no_range : (written : Bool) (len : ℕ) → values_named (codes "content-range") (length_lines written len) ≡ []
unfolding values_named
length_no_range false len = refl
length_no_range true len = refl

put_type : (host media : Text) (repo : RepoName) (reference : Reference) (bytes : ByteList) → values_named (codes "content-type") (lines_of host (call.PutManifest repo reference media bytes)) ≡ media ∷ []
unfolding values_named
put_type host media repo reference bytes = refl

no_place : (host at : Text) (bytes : ByteList) → values_named (codes "content-range") (lines_of host (call.Chunk at None bytes)) ≡ []
unfolding values_named
no_place host at bytes = refl

one_place : (host at : Text) (from : ℕ) (bytes : ByteList) → values_named (codes "content-range") (lines_of host (call.Chunk at (Some from) bytes)) ≡ range_text from (from + length bytes - 1) ∷ []
unfolding values_named
one_place host at from bytes = refl

-- ---- each call

-- a request with the lines and the body of a call, and what stands behind its lines
abbrev request_with : Text → Call → List Head → Request
request_with host called more = record {
  verb = verb_of (route_asked called);
  target = target_text (route_asked called);
  heads = lines_of host called ++ more;
  body = body_of called;
}

type_with : (host : Text) (called : Call) (written : Bool) (len : ℕ) (values : List Text) → values_named (codes "content-type") (lines_of host called) ≡ values
    → values_named (codes "content-type") (lines_of host called ++ length_lines written len) ≡ values ++ []
type_with host called written len values is =
    values_joined (codes "content-type") (lines_of host called) (length_lines written len)
    ∙ (λ i. is i ++ length_no_type written len i)

range_with : (host : Text) (called : Call) (written : Bool) (len : ℕ) (values : List Text) → values_named (codes "content-range") (lines_of host called) ≡ values
    → values_named (codes "content-range") (lines_of host called ++ length_lines written len) ≡ values ++ []
range_with host called written len values is =
    values_joined (codes "content-range") (lines_of host called) (length_lines written len)
    ∙ (λ i. is i ++ length_no_range written len i)

made_again : (host : Text) (called : Call) (written : Bool) (len : ℕ) → IsSendable called
    → call_with (route_asked called) (request_with host called (length_lines written len)) ≡ Ok called
made_again host call.Ping written len is = refl
made_again host (call.Catalog last) written len is = refl
made_again host (call.Tags repo last) written len is = refl
made_again host (call.HeadManifest repo reference) written len is = refl
made_again host (call.GetManifest repo reference) written len is = refl
made_again host (call.HeadBlob repo digest) written len is = refl
made_again host (call.GetBlob repo digest) written len is = refl
made_again host (call.BeginUpload repo) written len is = refl
made_again host (call.EndUpload at digest bytes) written len is = refl
made_again host (call.PutManifest repo reference media bytes) written len is =
    let lines = type_with host (call.PutManifest repo reference media bytes) written len (media ∷ []) (put_type host media repo reference bytes) in
    ap (λ (values : List Text). found (put_with repo reference bytes) (media_asked values)) lines
    ∙ ap (λ (m : Option Media). found (put_with repo reference bytes) m) (media_back media is.plain)
made_again host (call.Chunk at None bytes) written len is =
    let lines = range_with host (call.Chunk at None bytes) written len [] (no_place host at bytes) in
    ap (λ (values : List Text). found (chunk_with at bytes) (from_asked (length bytes) values)) lines
made_again host (call.Chunk at (Some from) bytes) written len is =
    let lines = range_with host (call.Chunk at (Some from) bytes) written len (range_text from (from + length bytes - 1) ∷ []) (one_place host at from bytes) in
    ap (λ (values : List Text). found (chunk_with at bytes) (from_asked (length bytes) values)) lines
    ∙ ap (λ (f : Option (Option ℕ)). found (chunk_with at bytes) f) (from_back from bytes is.ranged)
made_again host (call.Progress at) written len is = refl

-- ---- the laws

back : ReadsRoutes → (host : Text) (called : Call) (written : Bool) (len : ℕ) (answer : Result Call NoRoute) → IsSendable called
    → IsCallOf (request_with host called (length_lines written len)) answer → Gives (Ok called) answer
back law host called written len answer sendable (inl is) =
    let request = request_with host called (length_lines written len) in
    subst (λ (r : Result Call ℕ). Gives r answer)
    (ap (λ (r : Result Route ℕ). call_asked r request) (leads_there law (route_asked called) sendable.asked is.way is.leads)
    ∙ made_again host called written len sendable) is.gives
back law host called written len answer sendable (inr is) = absurd (never_lost law (route_asked called) sendable.asked is.none)

pub read_back : ReadsRoutes → (host : Text) (called : Call) (answer : Result Call NoRoute) → IsSendable called
    → IsCallOf (request_as_read (request_value host called)) answer → Gives (Ok called) answer
read_back law host called answer sendable is = back law host called _ _ answer sendable is

pub made_back : ReadsRoutes → (host : Text) (called : Call) (answer : Result Call NoRoute) → IsSendable called
    → IsCallOf (request_value host called) answer → Gives (Ok called) answer
made_back law host called answer sendable is =
    let none : lines_of host called ++ [] ≡ lines_of host called = append-nil (lines_of host called) in
    back law host called false 0 answer sendable
    (subst (λ (heads : List Head). IsCallOf (record { verb = verb_of (route_asked called); target = target_text (route_asked called); heads = heads; body = body_of called }) answer) (sym none) is)
