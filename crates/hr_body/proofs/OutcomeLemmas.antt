-- Lemmas on what bytes come to: one body or one fault.
use Rattle.std.proofs.Common.{◌≡◌, ◌≢◌, ℕ, ◌+◌, ◌<◌, ◌≤◌, ◌⊎◌, inl, inr, zero, suc, [], ◌∷◌, ◌++◌, length, refl, sym, ap, subst, ◌∙◌, arith, append_assoc, append-nil, length-append, Option, Some, None}
use Rattle.hr_base.specs.Bytes.{ByteList}
use Rattle.hr_body.specs.declared.stage.Stage.{Stage}
use Rattle.hr_body.specs.declared.stage.Stage.TheVariants.{Between, Chunk, Sized, ToEnd, Done}
use Rattle.hr_body.specs.declared.fault.WireFault.{WireFault}
use Rattle.hr_body.specs.declared.fault.WireFault.TheVariants.{Failed, Malformed, Ended, TooLong, Memory}
use Rattle.hr_body.specs.Leading.{end_of, data_in, Leads, Strays, IsPast}
use Rattle.hr_body.specs.Stage.{step_of, data_of}
use Rattle.hr_body.specs.Reading.{in_word, BrokeOff}
use Rattle.hr_body.proofs.LeadingLemmas.{end_on, end_none, leads_rest, either, none_some, cons_nil}

strays_end : (p : Stage) (room : ℕ) (front : ByteList) → Strays p room front → end_of front (Some p) ≡ None
strays_end p room front s =
    ap (λ f. end_of f (Some p)) s.cut ∙ end_on s.before (s.b ∷ []) (Some p) ∙ ap (end_of (s.b ∷ [])) s.leads.ends ∙ s.none

-- nothing leads on behind bytes that stray
strays_over : (p q : Stage) (room : ℕ) (front more piece : ByteList) → Strays p room front → Leads p (front ++ more) piece q → ⊥
strays_over p q room front more piece s leads =
    none_some q (sym (end_on front more (Some p) ∙ ap (end_of more) (strays_end p room front s) ∙ end_none more) ∙ leads.ends)

-- bytes that give more than this don't give less with others behind them
past_over : (p q : Stage) (room : ℕ) (front more piece : ByteList) → IsPast p room front → Leads p (front ++ more) piece q → length piece ≤ room → ⊥
past_over p q room front more piece s leads le =
    let rest = leads_rest p s.q q front more s.piece piece s.leads leads in
    let long : length piece ≡ length s.piece + length rest.0 = ap length rest.2 ∙ length-append s.piece rest.0 in
    let one_more = s.one_more in
    absurd (omega (arith, long, one_more, le))

-- of two fronts that stray neither is the longer one
strays_first : (bytes one other left over : ByteList) (p : Stage) (room : ℕ) → bytes ≡ one ++ left → bytes ≡ other ++ over → Strays p room one → Strays p room other
    → length other ≤ length one
strays_first bytes one other left over p room here there s t =
    let split : one ++ left ≡ t.before ++ (t.b ∷ over) = sym here ∙ there ∙ ap (λ l. l ++ over) t.cut ∙ append_assoc t.before (t.b ∷ []) over in
    let len : length other ≡ length t.before + 1 = ap length t.cut ∙ length-append t.before (t.b ∷ []) in
    elim (either one t.before left (t.b ∷ over) split) [
      | inl x ↦ absurd (strays_over p t.q room one x.0 t.piece s (subst (λ f. Leads p f t.piece t.q) x.1 t.leads))
      | inr x ↦
          let long : length one ≡ length t.before + suc (length x.1) = ap length x.2 ∙ length-append t.before (x.0 ∷ x.1) in
          omega (arith, len, long)
    ]

strays_once : (bytes one other left over : ByteList) (p : Stage) (room : ℕ) → bytes ≡ one ++ left → bytes ≡ other ++ over → Strays p room one → Strays p room other
    → length one ≡ length other
strays_once bytes one other left over p room here there s t =
    let le : length other ≤ length one = strays_first bytes one other left over p room here there s t in
    let ge : length one ≤ length other = strays_first bytes other one over left p room there here t s in
    omega (arith, le, ge)

-- a front that stops short of straying bytes, or goes as far as them
past_before : (p : Stage) (room b : ℕ) (before left over piece back : ByteList) (q : Stage) → Leads p before piece q → length piece ≤ room → IsPast p room (before ++ back)
    → Strays p room (before ++ b ∷ []) → b ∷ left ≡ back ++ over → ⊥
past_before p room b before left over piece [] q leads le past strays e =
    past_over p q room (before ++ []) [] piece past (subst (λ f. Leads p f piece q) (sym (append-nil (before ++ []) ∙ append-nil before)) leads) le
past_before p room b before left over piece (y ∷ back) q leads le past strays e =
    let same : y ≡ b = cc in
    let longer : before ++ (y ∷ back) ≡ (before ++ b ∷ []) ++ back = ap (λ z. before ++ (z ∷ back)) same ∙ sym (append_assoc before (b ∷ []) back) in
    strays_over p past.q room (before ++ b ∷ []) back past.piece strays (subst (λ f. Leads p f past.piece past.q) longer past.leads)

-- bytes don't both stray within the limit and give more than it
strays_past : (bytes one other left over : ByteList) (p : Stage) (room : ℕ) → bytes ≡ one ++ left → bytes ≡ other ++ over → Strays p room one → IsPast p room other → ⊥
strays_past bytes one other left over p room here there s t =
    let split : s.before ++ (s.b ∷ left) ≡ other ++ over = sym (append_assoc s.before (s.b ∷ []) left) ∙ ap (λ l. l ++ left) (sym s.cut) ∙ sym here ∙ there in
    elim (either s.before other (s.b ∷ left) over split) [
      | inl x ↦ past_before p room s.b s.before left over s.piece x.0 s.q s.leads s.within (subst (IsPast p room) x.1 t) (subst (Strays p room) s.cut s) x.2
      | inr x ↦ past_over p s.q room other (x.0 ∷ x.1) s.piece t (subst (λ f. Leads p f s.piece s.q) x.2 s.leads) s.within
    ]

-- all bytes to the end
all_of : (bytes front left : ByteList) → bytes ≡ front ++ left → left ≡ [] → bytes ≡ front
all_of bytes front left cut none = cut ∙ ap (λ l. front ++ l) none ∙ append-nil front

-- what bytes come to is one fault, but for a fault of the device
pub one_fault : (bytes left over : ByteList) (p : Stage) (at room limit : ℕ) (a b : WireFault) → BrokeOff (Some bytes) p at room limit a (Some left)
    → BrokeOff (Some bytes) p at room limit b (Some over) → a ≢ Failed → b ≢ Failed → a ≡ b
one_fault bytes left over p at room limit Failed b x y m n = absurd (m refl)
one_fault bytes left over p at room limit Memory b x y m n = absurd x.explains
one_fault bytes left over p at room limit (Malformed i) Failed x y m n = absurd (n refl)
one_fault bytes left over p at room limit (Malformed i) Memory x y m n = absurd y.explains
one_fault bytes left over p at room limit (Malformed i) (Malformed j) x y m n =
    let same = strays_once bytes x.front y.front left over p room x.told y.told x.explains.1 y.explains.1 in
    ap (λ k. Malformed k) (x.explains.0 ∙ ap (λ k. in_word (at + k)) same ∙ sym y.explains.0)
one_fault bytes left over p at room limit (Malformed i) (Ended j) x y m n =
    let s = y.explains.2 in
    let all = all_of bytes y.front over y.told y.explains.1 in
    absurd (strays_over p s.q room x.front left s.piece x.explains.1 (subst (λ f. Leads p f s.piece s.q) (sym all ∙ x.told) s.leads))
one_fault bytes left over p at room limit (Malformed i) (TooLong j) x y m n =
    absurd (strays_past bytes x.front y.front left over p room x.told y.told x.explains.1 y.explains.1)
one_fault bytes left over p at room limit (Ended i) Failed x y m n = absurd (n refl)
one_fault bytes left over p at room limit (Ended i) Memory x y m n = absurd y.explains
one_fault bytes left over p at room limit (Ended i) (Malformed j) x y m n =
    let s = x.explains.2 in
    let all = all_of bytes x.front left x.told x.explains.1 in
    absurd (strays_over p s.q room y.front over s.piece y.explains.1 (subst (λ f. Leads p f s.piece s.q) (sym all ∙ y.told) s.leads))
one_fault bytes left over p at room limit (Ended i) (Ended j) x y m n =
    let same : x.front ≡ y.front = sym (all_of bytes x.front left x.told x.explains.1) ∙ all_of bytes y.front over y.told y.explains.1 in
    ap (λ k. Ended k) (x.explains.0 ∙ ap (λ f. in_word (at + length f)) same ∙ sym y.explains.0)
one_fault bytes left over p at room limit (Ended i) (TooLong j) x y m n =
    let s = x.explains.2 in
    let all = all_of bytes x.front left x.told x.explains.1 in
    absurd (past_over p s.q room y.front over s.piece y.explains.1 (subst (λ f. Leads p f s.piece s.q) (sym all ∙ y.told) s.leads) s.within)
one_fault bytes left over p at room limit (TooLong i) Failed x y m n = absurd (n refl)
one_fault bytes left over p at room limit (TooLong i) Memory x y m n = absurd y.explains
one_fault bytes left over p at room limit (TooLong i) (Malformed j) x y m n =
    absurd (strays_past bytes y.front x.front over left p room y.told x.told y.explains.1 x.explains.1)
one_fault bytes left over p at room limit (TooLong i) (Ended j) x y m n =
    let s = y.explains.2 in
    let all = all_of bytes y.front over y.told y.explains.1 in
    absurd (past_over p s.q room x.front left s.piece x.explains.1 (subst (λ f. Leads p f s.piece s.q) (sym all ∙ x.told) s.leads) s.within)
one_fault bytes left over p at room limit (TooLong i) (TooLong j) x y m n = ap (λ k. TooLong k) (x.explains.0 ∙ sym y.explains.0)

one_or_none : (p : Stage) (b : ℕ) → (data_of p b ≡ []) ⊎ (data_of p b ≡ b ∷ [])
one_or_none (Between coding) b = inl refl
one_or_none (Chunk more) b = inr refl
one_or_none (Sized more) b = inr refl
one_or_none ToEnd b = inr refl
one_or_none Done b = inl refl

there_or_none : (o : Option Stage) → (o ≡ None) ⊎ ((q : Stage) × (o ≡ Some q))
there_or_none None = inl refl
there_or_none (Some q) = inr (q, refl)

-- a front of the bytes gives one byte more than this
record PastFront (p : Stage) (room : ℕ) (bytes : ByteList) : Type 0 where
  pub front : ByteList
  pub rest : ByteList
  pub cut : bytes ≡ front ++ rest
  pub past : IsPast p room front

step_past : (p mid : Stage) (room more b : ℕ) (given bytes : ByteList) → step_of p b ≡ Some mid → data_of p b ≡ given → room ≡ more + length given → PastFront mid more bytes
    → PastFront p room (b ∷ bytes)
step_past p mid room more b given bytes is gives e f = record {
  front = b ∷ f.front;
  rest = f.rest;
  cut = ap (λ l. b ∷ l) f.cut;
  past = record {
    q = f.past.q;
    piece = given ++ f.past.piece;
    leads = record {
      ends = ap (end_of f.front) is ∙ f.past.leads.ends;
      gives = ap (λ d. d ++ data_in f.front (step_of p b)) gives ∙ ap (λ o. given ++ data_in f.front o) is ∙ ap (λ l. given ++ l) f.past.leads.gives;
    };
    one_more = let long = f.past.one_more in let sum = length-append given f.past.piece in omega (arith, e, long, sum);
  };
}

first_past : (p mid : Stage) (b : ℕ) (bytes : ByteList) → step_of p b ≡ Some mid → data_of p b ≡ b ∷ [] → PastFront p 0 (b ∷ bytes)
first_past p mid b bytes is gives = record {
  front = b ∷ [];
  rest = bytes;
  cut = refl;
  past = record { q = mid; piece = b ∷ []; leads = record { ends = is; gives = ap (λ d. d ++ data_in [] (step_of p b)) gives }; one_more = refl };
}

nothing_given : (piece : ByteList) (room : ℕ) → [] ≡ piece → room < length piece → ⊥
nothing_given [] room e lt = omega (arith, lt)
nothing_given (x ∷ piece) room e lt = cons_nil x piece (sym e)

-- the first byte of bytes that lead somewhere, and what follows it
record FirstStep (p q : Stage) (b : ℕ) (bytes piece : ByteList) : Type 0 where
  pub mid : Stage
  pub is : step_of p b ≡ Some mid
  pub leads : Leads mid bytes (data_in bytes (Some mid)) q
  pub all : piece ≡ data_of p b ++ data_in bytes (Some mid)

first_step : (p q : Stage) (b : ℕ) (bytes piece : ByteList) → Leads p (b ∷ bytes) piece q → FirstStep p q b bytes piece
first_step p q b bytes piece leads =
    elim (there_or_none (step_of p b)) [
      | inl none ↦ absurd (none_some q (sym (end_none bytes) ∙ ap (end_of bytes) (sym none) ∙ leads.ends))
      | inr mid ↦ record {
        mid = mid.0;
        is = mid.1;
        leads = record { ends = ap (end_of bytes) (sym mid.1) ∙ leads.ends; gives = refl };
        all = sym leads.gives ∙ ap (λ o. data_of p b ++ data_in bytes o) mid.1;
      }
    ]

length_of : (piece one more : ByteList) (k : ℕ) → piece ≡ one ++ more → length one ≡ k → length piece ≡ k + length more
length_of piece one more k e f = ap length e ∙ length-append one more ∙ ap (λ n. n + length more) f

none_or_more : (n : ℕ) → (n ≡ 0) ⊎ ((k : ℕ) × (n ≡ k + 1))
none_or_more zero = inl refl
none_or_more (suc k) = inr (k, omega arith)

-- where bytes give more than this, a front of them gives one byte more
past_front : (bytes : ByteList) (p q : Stage) (piece : ByteList) (room : ℕ) → Leads p bytes piece q → room < length piece → PastFront p room bytes
past_front [] p q piece room leads lt = absurd (nothing_given piece room leads.gives lt)
past_front (b ∷ bytes) p q piece room leads lt =
    let s = first_step p q b bytes piece leads in
    elim (one_or_none p b) [
      | inl nothing ↦
          let same = length_of piece (data_of p b) (data_in bytes (Some s.mid)) 0 s.all (ap length nothing) in
          step_past p s.mid room room b [] bytes s.is nothing (omega arith) (past_front bytes s.mid q (data_in bytes (Some s.mid)) room s.leads (omega (arith, same, lt)))
      | inr one ↦
          let less = length_of piece (data_of p b) (data_in bytes (Some s.mid)) 1 s.all (ap length one) in
          elim (none_or_more room) [
            | inl none ↦ subst (λ k. PastFront p k (b ∷ bytes)) (sym none) (first_past p s.mid b bytes s.is one)
            | inr more ↦
                let is = more.1 in
                step_past p s.mid room more.0 b (b ∷ []) bytes s.is one is (past_front bytes s.mid q (data_in bytes (Some s.mid)) more.0 s.leads (omega (arith, less, lt, is)))
          ]
    ]

-- bytes that give more than the limit come to that alone
pub too_long : (bytes front rest left : ByteList) (p q : Stage) (piece : ByteList) (at room limit : ℕ) (why : WireFault) → bytes ≡ front ++ rest → Leads p front piece q
    → room < length piece → BrokeOff (Some bytes) p at room limit why (Some left) → why ≢ Failed → why ≡ TooLong (in_word (limit + 1))
too_long bytes front rest left p q piece at room limit why cut leads lt broke other =
    let f = past_front front p q piece room leads lt in
    let here : bytes ≡ f.front ++ (f.rest ++ rest) = cut ∙ ap (λ l. l ++ rest) f.cut ∙ append_assoc f.front f.rest rest in
    one_fault bytes left (f.rest ++ rest) p at room limit why (TooLong (in_word (limit + 1))) broke
    (record { front = f.front; told = here; explains = (refl, f.past) }) other (λ e. cc)
