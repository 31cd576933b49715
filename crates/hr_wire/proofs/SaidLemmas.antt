-- What a reply says, by its coding and by the values of its lines.
use Rattle.std.proofs.Common.{◌≡◌, Bool, true, false, cond, List, [], ◌∷◌, codes, Option, None, refl, sym, ap, ◌∙◌}
use Rattle.hr_base.specs.Bytes.{Text}
use Rattle.hr_call.specs.declared.answer.Answer.{Answer}
use Rattle.hr_call.specs.declared.call.Call.{Call}
use Rattle.hr_frame.specs.Named.{values_named}
use Rattle.hr_http1.specs.declared.message.Reply.{Reply}
use Rattle.hr_route.specs.Found.{IsFound}
use Rattle.hr_route.specs.declared.found.Found.TheVariants.{Absent, Many}
use Rattle.hr_wire.specs.Answer.{answer_said, answer_value, is_uncoded}

-- the values of `Content-Encoding`
abbrev pub codings : Reply → List Text
codings reply = values_named (codes "content-encoding") reply.heads

-- a reply with a coding is no answer
pub coded_none : (called : Call) (reply : Reply) → is_uncoded (codings reply) ≡ false → answer_value called reply ≡ None
coded_none called reply coded = ap (λ (t : Bool). cond t (answer_said called reply) None) coded

-- a reply without one is what it says
pub uncoded_said : (called : Call) (reply : Reply) (said : Option Answer) → is_uncoded (codings reply) ≡ true → said ≡ answer_said called reply → answer_value called reply ≡ said
uncoded_said called reply said uncoded is = ap (λ (t : Bool). cond t (answer_said called reply) None) uncoded ∙ sym is

-- no value was found
pub no_values : (values : List Text) → IsFound values Absent → [] ≡ values
no_values [] is = refl
no_values (value ∷ []) is = absurd is
no_values (value ∷ other ∷ values) is = absurd is

-- several values
pub record HasSeveral (values : List Text) : Type 0 where
  pub first : Text
  pub other : Text
  pub rest : List Text
  pub is : first ∷ other ∷ rest ≡ values

pub several_values : (values : List Text) → IsFound values Many → HasSeveral values
several_values [] is = absurd is
several_values (value ∷ []) is = absurd is
several_values (value ∷ other ∷ values) is = record { first = value; other = other; rest = values; is = refl }
