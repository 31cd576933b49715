-- Lemmas on where bytes lead, one run of them after the other, and on the body that they hold.
use Rattle.std.proofs.Common.{◌≡◌, ℕ, ◌+◌, ◌-◌, ◌<◌, ◌≤◌, ◌⊎◌, inl, inr, [], ◌∷◌, ◌++◌, length, refl, sym, ap, subst, ◌∙◌, arith, append_assoc, append-nil, Option, Some, None, false, suc}
use Rattle.std.specs.Prelude.{if◌then◌else◌, nat_lt}
use Rattle.std.proofs.lemmas.Grind.{common_steps}
use Rattle.std.proofs.lemmas.Bool.Decides.{nat_tests}
use Rattle.hr_base.specs.Bytes.{ByteList}
use Rattle.hr_body.specs.declared.stage.Coding.TheVariants.{DataEnd}
use Rattle.hr_body.specs.declared.stage.Stage.{Stage}
use Rattle.hr_body.specs.declared.stage.Stage.TheVariants.{Between, Chunk, Sized, ToEnd, Done}
use Rattle.hr_body.specs.Leading.{step_from, end_of, data_from, data_in, Leads, IsUnended, MayEnd, HoldsBody, BeginsNoBody, Strays}
use Rattle.hr_body.specs.Stage.{step_of, data_of, stage_past, chunk_past, sized_past, WantsAtLeast}

pub end_none : (bs : ByteList) → end_of bs None ≡ None
end_none [] = refl
end_none (b ∷ bs) = end_none bs

pub data_none : (bs : ByteList) → data_in bs None ≡ []
data_none [] = refl
data_none (b ∷ bs) = data_none bs

pub end_on : (xs bs : ByteList) (o : Option Stage) → end_of (xs ++ bs) o ≡ end_of bs (end_of xs o)
end_on [] bs o = refl
end_on (a ∷ xs) bs o = end_on xs bs (step_from o a)

pub data_on : (xs bs : ByteList) (o : Option Stage) → data_in (xs ++ bs) o ≡ data_in xs o ++ data_in bs (end_of xs o)
data_on [] bs o = refl
data_on (a ∷ xs) bs o =
    ap (λ l. data_from o a ++ l) (data_on xs bs (step_from o a)) ∙ sym (append_assoc (data_from o a) (data_in xs (step_from o a)) (data_in bs (end_of xs (step_from o a))))

pub leads_none : (p : Stage) → Leads p [] [] p
leads_none p = record { ends = refl; gives = refl }

-- bytes that lead on from where others lead
pub leads_more : (p q r : Stage) (f g x y : ByteList) → Leads p f x q → Leads q g y r → Leads p (f ++ g) (x ++ y) r
leads_more p q r f g x y a b = record {
  ends = end_on f g (Some p) ∙ ap (end_of g) a.ends ∙ b.ends;
  gives = data_on f g (Some p) ∙ ap (λ l. l ++ data_in g (end_of f (Some p))) a.gives ∙ ap (λ o. x ++ data_in g o) a.ends ∙ ap (λ l. x ++ l) b.gives;
}

-- the second part of bytes whose first part leads somewhere
pub leads_rest : (p q r : Stage) (f g x z : ByteList) → Leads p f x q → Leads p (f ++ g) z r → (y : ByteList) × Leads q g y r × (z ≡ x ++ y)
leads_rest p q r f g x z a c = (
  data_in g (Some q),
  record { ends = ap (end_of g) (sym a.ends) ∙ sym (end_on f g (Some p)) ∙ c.ends; gives = refl },
  sym c.gives ∙ data_on f g (Some p) ∙ ap (λ l. l ++ data_in g (end_of f (Some p))) a.gives ∙ ap (λ o. x ++ data_in g o) a.ends,
)

pub some_is : {A : Type 0} (x y : A) → Some x ≡ Some y → x ≡ y
some_is x y e = cc

pub none_some : {A : Type 0} (x : A) → None ≡ Some x → ⊥
none_some x e = cc

pub cons_nil : (x : ℕ) (xs : ByteList) → x ∷ xs ≡ [] → ⊥
cons_nil x xs e = cc

-- nothing follows the end of a body
pub done_stops : (g y : ByteList) (r : Stage) → Leads Done g y r → (g ≡ []) × (y ≡ []) × (Done ≡ r)
unfolding step_of
done_stops [] y r a = (refl, sym a.gives, some_is Done r a.ends)
done_stops (b ∷ g) y r a = absurd (none_some r (sym (end_none g) ∙ a.ends))

to_end_stays : (g y : ByteList) (r : Stage) → Leads ToEnd g y r → (y ≡ g) × (ToEnd ≡ r)
unfolding step_of
to_end_stays [] y r a = (sym a.gives, some_is ToEnd r a.ends)
to_end_stays (b ∷ g) y r a =
    let on = to_end_stays g (data_in g (Some ToEnd)) r (record { ends = a.ends; gives = refl }) in
    (sym a.gives ∙ ap (λ l. b ∷ l) on.0, on.1)

-- bytes taken apart at two places
pub either : (a b r s : ByteList) → a ++ r ≡ b ++ s
    → ((x : ByteList) × (b ≡ a ++ x) × (r ≡ x ++ s)) ⊎ ((x : ℕ) × (xs : ByteList) × (a ≡ b ++ x ∷ xs) × (s ≡ x ∷ xs ++ r))
either [] b r s e = inl (b, refl, e)
either (x ∷ a) [] r s e = inr (x, a, refl, sym e)
either (x ∷ a) (y ∷ b) r s e =
    let same : x ≡ y = cc in
    let rest : a ++ r ≡ b ++ s = cc in
    elim (either a b r s rest) [
      | inl h ↦ inl (h.0, ap (λ l. y ∷ l) h.1 ∙ ap (λ z. z ∷ a ++ h.0) (sym same), h.2)
      | inr h ↦ inr (h.0, h.1, ap (λ l. x ∷ l) h.2 ∙ ap (λ z. z ∷ (b ++ h.0 ∷ h.1)) same, h.3)
    ]

-- no bytes lead on beyond an end of the body
ends_first : (q r : Stage) (x : ℕ) (xs y rest s : ByteList) → MayEnd q s → s ≡ x ∷ xs ++ rest → Leads q (x ∷ xs) y r → ⊥
ends_first (Between f) r x xs y rest s ends is leads = ends
ends_first (Chunk more) r x xs y rest s ends is leads = ends
ends_first (Sized more) r x xs y rest s ends is leads = ends
ends_first ToEnd r x xs y rest s ends is leads = cons_nil x (xs ++ rest) (sym is ∙ ends)
ends_first Done r x xs y rest s ends is leads = cons_nil x xs (done_stops (x ∷ xs) y r leads).0

-- a piece that was given is at the front of the body, and the body goes on from there
pub body_goes_on : (p q : Stage) (bytes front piece left body rest : ByteList) → bytes ≡ front ++ left → Leads p front piece q → HoldsBody p bytes body rest
    → (more : ByteList) × (body ≡ piece ++ more) × HoldsBody q left more rest
body_goes_on p q bytes front piece left body rest is leads h =
    elim (either front h.front left rest (sym is ∙ h.cut)) [
      | inl x ↦
          let on = leads_rest p q h.end front x.0 piece body leads (subst (λ l. Leads p l body h.end) x.1 h.leads) in
          (on.0, on.2, record { front = x.0; end = h.end; cut = x.2; leads = on.1; may_end = h.may_end })
      | inr x ↦
          let on = leads_rest p h.end q h.front (x.0 ∷ x.1) body piece h.leads (subst (λ l. Leads p l piece q) x.2 leads) in
          absurd (ends_first h.end q x.0 x.1 on.0 left rest h.may_end x.3 on.1)
    ]

-- the other way: what follows makes the whole
pub whole_of : (p q : Stage) (bytes front piece left body rest : ByteList) → bytes ≡ front ++ left → Leads p front piece q → HoldsBody q left body rest
    → HoldsBody p bytes (piece ++ body) rest
whole_of p q bytes front piece left body rest is leads h = record {
  front = front ++ h.front;
  end = h.end;
  cut = is ∙ ap (λ l. front ++ l) h.cut ∙ sym (append_assoc front h.front rest);
  leads = leads_more p q h.end front h.front piece body leads h.leads;
  may_end = h.may_end;
}

waits_on : (q : Stage) (s : ByteList) → IsUnended q → MayEnd q s → ⊥
waits_on (Between f) s w e = e
waits_on (Chunk more) s w e = e
waits_on (Sized more) s w e = e
waits_on ToEnd s w e = w
waits_on Done s w e = w

no_front : (q r : Stage) (s body : ByteList) → IsUnended q → MayEnd r s → Leads q [] body r → ⊥
no_front q r s body w e leads = waits_on q s w (subst (λ z. MayEnd z s) (sym (some_is q r leads.ends)) e)

no_body_at : (q : Stage) (b : ℕ) (more body rest front : ByteList) (end : Stage) → IsUnended q → step_of q b ≡ None → b ∷ more ≡ front ++ rest → Leads q front body end → MayEnd end rest → ⊥
no_body_at q b more body rest [] end w none is leads ends = no_front q end rest body w ends leads
no_body_at q b more body rest (y ∷ front) end w none is leads ends =
    let same : y ≡ b = cc in
    none_some end (sym (end_none front) ∙ ap (end_of front) (sym none ∙ ap (step_of q) (sym same)) ∙ leads.ends)

no_body_left_at : (q : Stage) (body rest front : ByteList) (end : Stage) → IsUnended q → [] ≡ front ++ rest → Leads q front body end → MayEnd end rest → ⊥
no_body_left_at q body rest [] end w is leads ends = no_front q end rest body w ends leads
no_body_left_at q body rest (y ∷ front) end w is leads ends = cons_nil y (front ++ rest) (sym is)

no_body : (q : Stage) (b : ℕ) (more body rest : ByteList) → IsUnended q → step_of q b ≡ None → HoldsBody q (b ∷ more) body rest → ⊥
no_body q b more body rest w none h = no_body_at q b more body rest h.front h.end w none h.cut h.leads h.may_end

-- where bytes have to follow and none do, there is no body
pub no_body_left : (q : Stage) (body rest : ByteList) → IsUnended q → HoldsBody q [] body rest → ⊥
no_body_left q body rest w h = no_body_left_at q body rest h.front h.end w h.cut h.leads h.may_end

-- no body begins with bytes that lead nowhere
pub strays_never : (p : Stage) (room : ℕ) (front : ByteList) → Strays p room front → BeginsNoBody p front
strays_never p room front s more body rest h =
    let is : front ++ more ≡ s.before ++ (s.b ∷ more) = ap (λ l. l ++ more) s.cut ∙ append_assoc s.before (s.b ∷ []) more in
    let on = body_goes_on p s.q (front ++ more) s.before s.piece (s.b ∷ more) body rest is s.leads h in
    no_body s.q s.b more on.0 rest s.unended s.none on.2

-- bytes that end where more have to come are no body
pub ended_none : (p q : Stage) (bytes piece body rest : ByteList) → Leads p bytes piece q → IsUnended q → HoldsBody p bytes body rest → ⊥
ended_none p q bytes piece body rest leads w h =
    let on = body_goes_on p q bytes bytes piece [] body rest (sym (append-nil bytes)) leads h in
    no_body_left q on.0 rest w on.2

nil_append : (a b : ByteList) → [] ≡ a ++ b → (a ≡ []) × (b ≡ [])
nil_append [] b e = (refl, sym e)
nil_append (x ∷ a) b e = absurd (cons_nil x (a ++ b) (sym e))

-- at an end of the body nothing more is in it
pub at_end : (q : Stage) (left body rest : ByteList) → MayEnd q left → HoldsBody q left body rest → (body ≡ []) × (rest ≡ left)
at_end (Between f) left body rest e h = absurd e
at_end (Chunk more) left body rest e h = absurd e
at_end (Sized more) left body rest e h = absurd e
at_end ToEnd left body rest e h =
    let split = nil_append h.front rest (sym e ∙ h.cut) in
    ((to_end_stays h.front body h.end h.leads).0 ∙ split.0, split.1 ∙ sym e)
at_end Done left body rest e h =
    let stop = done_stops h.front body h.end h.leads in
    (stop.1, sym (h.cut ∙ ap (λ l. l ++ rest) stop.0))

-- bytes begin with at most one body
pub body_unique : (p : Stage) (bytes a b r s : ByteList) → HoldsBody p bytes a r → HoldsBody p bytes b s → (a ≡ b) × (r ≡ s)
body_unique p bytes a b r s x y =
    let on = body_goes_on p x.end bytes x.front a r b s x.cut x.leads y in
    let stop = at_end x.end r on.0 s x.may_end on.2 in
    (sym (on.1 ∙ ap (λ l. a ++ l) stop.0 ∙ append-nil a), sym stop.1)

pub to_end_leads : (bytes : ByteList) → Leads ToEnd bytes bytes ToEnd
unfolding step_of
to_end_leads [] = leads_none ToEnd
to_end_leads (b ∷ bytes) = let on = to_end_leads bytes in record { ends = on.ends; gives = ap (λ l. b ∷ l) on.gives }

lt_same : (more n : ℕ) → 1 ≤ more → nat_lt (more - 1) n ≡ nat_lt more (suc n)
lt_same more n le = grind (arith, nat_tests)

past_few : (more n : ℕ) → n ≤ more → chunk_past more n ≡ Chunk (more - n)
past_few more n le = let t : nat_lt more n ≡ false = grind (arith, common_steps) in rw t refl

sized_few : (more n : ℕ) → n ≤ more → sized_past more n ≡ Sized (more - n)
sized_few more n le = let t : nat_lt more n ≡ false = grind (arith, common_steps) in rw t refl

past_same : (more n : ℕ) → 1 ≤ more → chunk_past (more - 1) n ≡ chunk_past more (suc n)
past_same more n le =
    let t : nat_lt (more - 1) n ≡ nat_lt more (suc n) = lt_same more n le in
    let m : (more - 1) - n ≡ more - suc n = omega arith in
    ap (λ t. if t then Between DataEnd else Chunk ((more - 1) - n)) t ∙ ap (λ k. if nat_lt more (suc n) then Between DataEnd else Chunk k) m

sized_same : (more n : ℕ) → 1 ≤ more → sized_past (more - 1) n ≡ sized_past more (suc n)
sized_same more n le =
    let t : nat_lt (more - 1) n ≡ nat_lt more (suc n) = lt_same more n le in
    let m : (more - 1) - n ≡ more - suc n = omega arith in
    ap (λ t. if t then Done else Sized ((more - 1) - n)) t ∙ ap (λ k. if nat_lt more (suc n) then Done else Sized k) m

-- a byte of data, and more
data_more : (p q r : Stage) (b : ℕ) (bytes : ByteList) → step_of p b ≡ Some q → data_of p b ≡ b ∷ [] → Leads q bytes bytes r → Leads p (b ∷ bytes) (b ∷ bytes) r
data_more p q r b bytes is one on = record {
  ends = ap (end_of bytes) is ∙ on.ends;
  gives = ap (λ l. l ++ data_in bytes (step_of p b)) one ∙ ap (λ o. b ∷ data_in bytes o) is ∙ ap (λ l. b ∷ l) on.gives;
}

pub chunk_leads : (bytes : ByteList) (more : ℕ) → 0 < length bytes → length bytes ≤ more + 1 → Leads (Chunk more) bytes bytes (chunk_past more (length bytes))
unfolding step_of
chunk_leads [] more some fits = absurd (omega (arith, some))
chunk_leads (b ∷ []) more some fits = record { ends = refl; gives = refl }
chunk_leads (b ∷ c ∷ bytes) more some fits =
    let few : 1 ≤ more = omega (arith, fits) in
    let fits_on : length (c ∷ bytes) ≤ (more - 1) + 1 = omega (arith, fits) in
    let some_on : 0 < length (c ∷ bytes) = omega arith in
    let on = chunk_leads (c ∷ bytes) (more - 1) some_on fits_on in
    let one : step_of (Chunk more) b ≡ Some (Chunk (more - 1)) = ap (λ p. Some p) (past_few more 1 few) in
    let last : chunk_past (more - 1) (length (c ∷ bytes)) ≡ chunk_past more (length (b ∷ c ∷ bytes)) = past_same more (length (c ∷ bytes)) few in
    subst (λ q. Leads (Chunk more) (b ∷ c ∷ bytes) (b ∷ c ∷ bytes) q) last (data_more (Chunk more) (Chunk (more - 1)) (chunk_past (more - 1) (length (c ∷ bytes))) b (c ∷ bytes) one refl on)

pub sized_leads : (bytes : ByteList) (more : ℕ) → 0 < length bytes → length bytes ≤ more + 1 → Leads (Sized more) bytes bytes (sized_past more (length bytes))
unfolding step_of
sized_leads [] more some fits = absurd (omega (arith, some))
sized_leads (b ∷ []) more some fits = record { ends = refl; gives = refl }
sized_leads (b ∷ c ∷ bytes) more some fits =
    let few : 1 ≤ more = omega (arith, fits) in
    let fits_on : length (c ∷ bytes) ≤ (more - 1) + 1 = omega (arith, fits) in
    let some_on : 0 < length (c ∷ bytes) = omega arith in
    let on = sized_leads (c ∷ bytes) (more - 1) some_on fits_on in
    let one : step_of (Sized more) b ≡ Some (Sized (more - 1)) = ap (λ p. Some p) (sized_few more 1 few) in
    let last : sized_past (more - 1) (length (c ∷ bytes)) ≡ sized_past more (length (b ∷ c ∷ bytes)) = sized_same more (length (c ∷ bytes)) few in
    subst (λ q. Leads (Sized more) (b ∷ c ∷ bytes) (b ∷ c ∷ bytes) q) last (data_more (Sized more) (Sized (more - 1)) (sized_past (more - 1) (length (c ∷ bytes))) b (c ∷ bytes) one refl on)

-- bytes of data are the body's own
pub data_leads : (p : Stage) (bytes : ByteList) → 0 < length bytes → WantsAtLeast p (length bytes) → Leads p bytes bytes (stage_past p (length bytes))
data_leads (Between f) bytes some fits = absurd fits
data_leads Done bytes some fits = absurd fits
data_leads ToEnd bytes some fits = to_end_leads bytes
data_leads (Chunk more) bytes some fits = chunk_leads bytes more some fits
data_leads (Sized more) bytes some fits = sized_leads bytes more some fits
