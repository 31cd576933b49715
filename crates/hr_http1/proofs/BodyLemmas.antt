-- Lemmas on bodies in their framings, from what holds of the stages of a body.
use Rattle.std.proofs.Common.{◌≡◌, ◌≢◌, ◌↔◌, ℕ, zero, suc, ◌+◌, ◌<◌, inr, [], ◌∷◌, ◌++◌, length, take, refl, sym, ap, subst, ◌∙◌, arith, add-one, append-nil, append_assoc, length-append, Option, Some, None, IfSome}
use Rattle.std.proofs.Math.Seq.{take-append_seam}
use Rattle.hr_base.specs.Bytes.{ByteList}
use Rattle.hr_body.specs.declared.body.Body.{Body}
use Rattle.hr_body.specs.declared.fault.WireFault.{WireFault}
use Rattle.hr_body.specs.declared.fault.WireFault.TheVariants.{Failed, Malformed, Ended, TooLong, Memory}
use Rattle.hr_body.specs.declared.stage.Stage.{Stage}
use Rattle.hr_body.specs.declared.stage.Stage.TheVariants as At
use Rattle.hr_body.specs.Chunked.{IsChunked}
use Rattle.hr_body.specs.Leading.{Leads, HoldsBody, Strays, IsShort, IsUnended, BeginsNoBody as StageBeginsNone}
use Rattle.hr_body.specs.Reading.{BrokeOff, IsFresh, in_word}
use Rattle.hr_body.specs.Stage.{chunked_start}
use Rattle.hr_cause.specs.Stream.{Gave}
use Rattle.hr_frame.specs.declared.framing.Framing.{Framing}
use Rattle.hr_frame.specs.declared.framing.Framing.TheVariants.{NoBody, Sized, Chunked, ToEnd}
use Rattle.hr_http1.specs.Body.{ReadsBody, BeginsNoBody, start_of, GivesMore, BodyFault, BodyFacts}

-- a piece is at the front of the one body that the bytes hold
abbrev pub PieceFact : Type 0
PieceFact = (p q : Stage) (bytes front piece left body rest : ByteList) → bytes ≡ front ++ left → Leads p front piece q → HoldsBody p bytes body rest
    → (more : ByteList) × (body ≡ piece ++ more) × HoldsBody q left more rest

-- what the laws of stages say
pub record StageFacts : Type 0 where
  pub piece : PieceFact
  pub unique : (p : Stage) (bytes one other rest left : ByteList) → HoldsBody p bytes one rest → HoldsBody p bytes other left → (one ≡ other) × (rest ≡ left)
  pub strays : (p : Stage) (room : ℕ) (front : ByteList) → Strays p room front → StageBeginsNone p front
  pub ended : (p q : Stage) (bytes piece body rest : ByteList) → Leads p bytes piece q → IsUnended q → ¬ (HoldsBody p bytes body rest)
  pub chunked : (bytes body rest : ByteList) → HoldsBody chunked_start bytes body rest ↔ IsChunked bytes body rest
  pub sized : (more : ℕ) (bytes body rest : ByteList) → HoldsBody (At.Sized more) bytes body rest ↔ ((length body ≡ more + 1) × (bytes ≡ body ++ rest))
  pub long : (bytes front rest left : ByteList) (p q : Stage) (piece : ByteList) (at room limit : ℕ) (why : WireFault) → bytes ≡ front ++ rest → Leads p front piece q → room < length piece
      → BrokeOff (Some bytes) p at room limit why (Some left) → why ≢ Failed → why ≡ TooLong (in_word (limit + 1))
  pub to_end : (bytes body rest : ByteList) → HoldsBody At.ToEnd bytes body rest ↔ ((body ≡ bytes) × (rest ≡ []))

no_bytes : (body : ByteList) → length body ≡ 0 → body ≡ []
no_bytes [] e = refl
no_bytes (b ∷ body) e = absurd (omega (arith, e))

done_holds : (bytes body rest : ByteList) → body ≡ [] → rest ≡ bytes → HoldsBody At.Done bytes body rest
done_holds bytes body rest none all = record { front = []; end = At.Done; cut = sym all; leads = record { ends = refl; gives = sym none }; may_end = tt }

module _ (m : StageFacts) where
  done_only : (bytes body rest : ByteList) → HoldsBody At.Done bytes body rest → (body ≡ []) × (rest ≡ bytes)
  done_only bytes body rest h = m.unique At.Done bytes body [] rest bytes h (done_holds bytes [] bytes refl refl)

  to_reads : (form : Framing) (bytes body rest : ByteList) → HoldsBody (start_of form) bytes body rest → ReadsBody form bytes body rest
  to_reads NoBody bytes body rest h = done_only bytes body rest h
  to_reads (Sized zero) bytes body rest h =
      let is = done_only bytes body rest h in
      (ap length is.0, sym is.1 ∙ ap (λ (b : ByteList). b ++ rest) (sym is.0))
  to_reads (Sized (suc more)) bytes body rest h =
      let is = (m.sized more bytes body rest).0 h in
      (is.0 ∙ add-one more, is.1)
  to_reads Chunked bytes body rest h = (m.chunked bytes body rest).0 h
  to_reads ToEnd bytes body rest h = (m.to_end bytes body rest).0 h

  from_reads : (form : Framing) (bytes body rest : ByteList) → ReadsBody form bytes body rest → HoldsBody (start_of form) bytes body rest
  from_reads NoBody bytes body rest r = done_holds bytes body rest r.0 r.1
  from_reads (Sized zero) bytes body rest r =
      let none = no_bytes body r.0 in
      done_holds bytes body rest none (sym (r.1 ∙ ap (λ (b : ByteList). b ++ rest) none))
  from_reads (Sized (suc more)) bytes body rest r = (m.sized more bytes body rest).1 (r.0 ∙ sym (add-one more), r.1)
  from_reads Chunked bytes body rest r = (m.chunked bytes body rest).1 r
  from_reads ToEnd bytes body rest r = (m.to_end bytes body rest).1 r

  past_limit : (form : Framing) (limit : ℕ) (bytes body rest : ByteList) → GivesMore form limit bytes → ReadsBody form bytes body rest → limit < length body
  past_limit form limit bytes body rest g r =
      let p = m.piece (start_of form) g.past.q bytes g.front g.past.piece g.rest body rest g.cut g.past.leads (from_reads form bytes body rest r) in
      let len : length body ≡ length g.past.piece + length p.0 = ap length p.1 ∙ length-append g.past.piece p.0 in
      omega (arith, len, g.past.one_more)

  -- what holds of bodies in their framings
  pub body_facts : BodyFacts
  body_facts = record {
    held = λ form bytes body rest. (to_reads form bytes body rest, from_reads form bytes body rest);
    unique = λ form bytes one other rest left a b.
        m.unique (start_of form) bytes one other rest left (from_reads form bytes one rest a) (from_reads form bytes other left b);
    strays = λ form room front s more body rest r.
        m.strays (start_of form) room front s more body rest (from_reads form (front ++ more) body rest r);
    short = λ form room bytes body rest s r.
        m.ended (start_of form) s.q bytes s.piece body rest s.leads s.unended (from_reads form bytes body rest r);
    past = past_limit;
    long = λ form at limit bytes left why g broke other.
        let more : limit < length g.past.piece = omega (arith, g.past.one_more) in
        m.long bytes g.front g.rest left (start_of form) g.past.q g.past.piece at limit limit why g.cut g.past.leads more broke other;
  }

fresh_broke : (a b : Option ByteList) (body : Body) (stage : Stage) (at limit : ℕ) (why : WireFault) → IsFresh body stage at limit
    → BrokeOff a body.stage body.at body.room body.limit why b → BrokeOff a stage at limit limit why b
fresh_broke a b body stage at limit why f broke = rw (f.stage_is, f.at_is, f.room, f.limit_is) at broke

gave_told : (a new : ByteList) (front : ByteList) → Gave (Some a) front (Some new) → a ≡ front ++ new
gave_told a new front g = g

no_long : {n : ℕ} (place : ℕ) → Malformed place ≡ TooLong n → ⊥
no_long place e = cc

-- bytes whose front gives more than a limit give more than it
gives_more : (form : Framing) (limit : ℕ) (front new bytes : ByteList) → bytes ≡ front ++ new → GivesMore form limit front → GivesMore form limit bytes
gives_more form limit front new bytes is g =
    record { front = g.front; rest = g.rest ++ new; cut = is ∙ ap (λ l. l ++ new) g.cut ∙ append_assoc g.front g.rest new; past = g.past }

told_explained : (facts : BodyFacts) (form : Framing) (at limit : ℕ) (bytes new : ByteList) (why : WireFault) → why ≢ Memory
    → BrokeOff (Some bytes) (start_of form) at limit limit why (Some new) → BodyFault form at limit bytes why
told_explained facts form at limit bytes new Failed other b = tt
told_explained facts form at limit bytes new Memory other b = tt
told_explained facts form at limit bytes new (Malformed place) other b =
    let front : take (length b.front) bytes ≡ b.front = ap (λ l. take (length b.front) l) b.told ∙ take-append_seam b.front new in (
      length b.front,
      b.explains.0,
      subst (BeginsNoBody form) (sym front) (facts.strays form limit b.front b.explains.1),
      λ g. no_long place (facts.long form at limit bytes new (Malformed place) (gives_more form limit (take (length b.front) bytes) new bytes (b.told ∙ ap (λ l. l ++ new) (sym front)) g) b (λ e. cc)),
    )
told_explained facts form at limit bytes new (Ended place) other b =
    let all : bytes ≡ b.front = b.told ∙ ap (λ l. b.front ++ l) b.explains.1 ∙ append-nil b.front in
    (b.explains.0 ∙ ap (λ l. in_word (at + length l)) (sym all), subst (λ l. IsShort (start_of form) limit l) (sym all) b.explains.2)
told_explained facts form at limit bytes new (TooLong len) other b =
    inr (b.explains.0, record { front = b.front; rest = new; cut = b.told; past = b.explains.1 })

-- why a body was not read by its stages is why none in its framing is read
pub body_fault : (facts : BodyFacts) (form : Framing) (a b : Option ByteList) (body : Body) (at limit : ℕ) (why : WireFault) → IsFresh body (start_of form) at limit
    → (why ≢ Memory → BrokeOff a body.stage body.at body.room body.limit why b) → IfSome a (λ bytes. BodyFault form at limit bytes why)
body_fault facts form None b body at limit why fresh broke = tt
body_fault facts form (Some a) b body at limit Failed fresh broke = tt
body_fault facts form (Some a) b body at limit Memory fresh broke = tt
body_fault facts form (Some a) None body at limit (Malformed place) fresh broke = absurd (broke (λ e. cc)).told
body_fault facts form (Some a) None body at limit (Ended place) fresh broke = absurd (broke (λ e. cc)).told
body_fault facts form (Some a) None body at limit (TooLong len) fresh broke = absurd (broke (λ e. cc)).told
body_fault facts form (Some a) (Some b) body at limit (Malformed place) fresh broke =
    told_explained facts form at limit a b (Malformed place) (λ e. cc) (fresh_broke (Some a) (Some b) body (start_of form) at limit (Malformed place) fresh (broke (λ e. cc)))
body_fault facts form (Some a) (Some b) body at limit (Ended place) fresh broke =
    told_explained facts form at limit a b (Ended place) (λ e. cc) (fresh_broke (Some a) (Some b) body (start_of form) at limit (Ended place) fresh (broke (λ e. cc)))
body_fault facts form (Some a) (Some b) body at limit (TooLong len) fresh broke =
    told_explained facts form at limit a b (TooLong len) (λ e. cc) (fresh_broke (Some a) (Some b) body (start_of form) at limit (TooLong len) fresh (broke (λ e. cc)))
