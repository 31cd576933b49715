-- The places that a text leads to, and that they tell what makes it a name.
use Rattle.std.proofs.Common.{◌≡◌, ◌≢◌, ℕ, ◌+◌, ◌<◌, true, false, cond, eqb, inl, inr, List, [], ◌∷◌, ◌++◌, Option, Some, None, refl, sym, ap, ◌∙◌, subst, append_assoc, take, get_or, length}
use Rattle.std.specs.Prelude.{IsTrue, MatchOption, codes, is_none}
use Rattle.std.specs.List.{AllByRecursion}
use Rattle.std.specs.Option.{option_and_then}
use Rattle.std.proofs.lemmas.Option.{option_and_then_some}
use Rattle.std.proofs.lemmas.Bool.{cases_Bool}
use Rattle.std.proofs.lemmas.Bool.Decides.{eqb_tells}
use Rattle.std.proofs.lemmas.List.{append-nil, take_more}
use Rattle.std.proofs.Math.Seq.{take-length}
use Rattle.hr_name.specs.declared.place.Place.{Place}
use Rattle.hr_name.specs.declared.place.Place.TheVariants.{Start, Run, Dot, Underscore, Underscores, Dashes}
use Rattle.hr_name.specs.Alphabet.{stands_in_run}
use Rattle.hr_name.specs.Front.{Begins, BeginsNone, IsFaultAt}
use Rattle.hr_name.specs.Name.{IsRun, IsDashes, IsSeparator, IsComponent, IsName}
use Rattle.hr_name.specs.Name.IsSeparator.{dot, underscore, underscores, dashes}
use Rattle.hr_name.specs.Name.IsComponent.{run, joined}
use Rattle.hr_name.specs.Name.IsName.{component, path}
use Rattle.hr_name.specs.Place.{Alike, behind, front_of, is_end, is_name, Moves, reach, step}
use Rattle.hr_name.proofs.FrontLemmas.{fault_here, fault_at_end}
use Rattle.hr_name.proofs.NameLemmas.{IsRun-one, IsName-more, IsName-joined, IsName-path}

pub step-run : (place : Place) (byte : ℕ) → stands_in_run byte ≡ true → step place byte ≡ Some Run
unfolding step
step-run place byte h = ap (λ b. cond b (Some Run) (behind place byte)) h

pub step-behind : (place : Place) (byte : ℕ) → stands_in_run byte ≡ false → step place byte ≡ behind place byte
unfolding step
step-behind place byte h = ap (λ b. cond b (Some Run) (behind place byte)) h

reach-cons : (place next : Place) (byte : ℕ) (text : List ℕ) → step place byte ≡ Some next
    → reach place (byte ∷ text) ≡ reach next text
unfolding reach
reach-cons place next byte text e = ap (option_and_then (λ next. reach next text)) e

reach-nil : (place : Place) → reach place [] ≡ Some place
unfolding reach
reach-nil place = refl

-- every name leads to the end of a run

run-reached : (text rest : List ℕ) → AllByRecursion (λ byte. IsTrue (stands_in_run byte)) text
    → reach Run (text ++ rest) ≡ reach Run rest
run-reached [] rest h = refl
run-reached (byte ∷ text) rest h =
    reach-cons Run Run byte (text ++ rest) (step-run Run byte h.0) ∙ run-reached text rest h.1

IsRun-reached : (text : List ℕ) (place : Place) (rest : List ℕ) → IsRun text → reach place (text ++ rest) ≡ reach Run rest
IsRun-reached [] place rest r = absurd (r.some refl)
IsRun-reached (byte ∷ text) place rest r =
    reach-cons place Run byte (text ++ rest) (step-run place byte r.all.0) ∙ run-reached text rest r.all.1

step-dash : (byte : ℕ) → byte ≡ 45 → step Dashes byte ≡ Some Dashes
unfolding step
step-dash byte e = ap (step Dashes) e

step-first_dash : (byte : ℕ) → byte ≡ 45 → step Run byte ≡ Some Dashes
unfolding step
step-first_dash byte e = ap (step Run) e

dashes-reached : (text rest : List ℕ) → AllByRecursion (λ byte. byte ≡ 45) text
    → reach Dashes (text ++ rest) ≡ reach Dashes rest
dashes-reached [] rest h = refl
dashes-reached (byte ∷ text) rest h =
    reach-cons Dashes Dashes byte (text ++ rest) (step-dash byte h.0) ∙ dashes-reached text rest h.1

IsDashes-reached : (text rest : List ℕ) → IsDashes text → reach Run (text ++ rest) ≡ reach Dashes rest
IsDashes-reached [] rest d = absurd (d.some refl)
IsDashes-reached (byte ∷ text) rest d =
    reach-cons Run Dashes byte (text ++ rest) (step-first_dash byte d.all.0) ∙ dashes-reached text rest d.all.1

IsSeparator-reached : (between : List ℕ) → IsSeparator between
    → (place : Place) × ((rest : List ℕ) → reach Run (between ++ rest) ≡ reach place rest)
unfolding reach step
IsSeparator-reached between (dot e) = (Dot, λ rest. ap (λ xs. reach Run (xs ++ rest)) e)
IsSeparator-reached between (underscore e) = (Underscore, λ rest. ap (λ xs. reach Run (xs ++ rest)) e)
IsSeparator-reached between (underscores e) = (Underscores, λ rest. ap (λ xs. reach Run (xs ++ rest)) e)
IsSeparator-reached between (dashes d) = (Dashes, λ rest. IsDashes-reached between rest d)

IsComponent-reached : {text : List ℕ} (place : Place) (rest : List ℕ) → IsComponent text
    → reach place (text ++ rest) ≡ reach Run rest
IsComponent-reached place rest (run {text = text} r) = IsRun-reached text place rest r
IsComponent-reached place rest (joined {first = first} {between = between} {rest = last} e r s c) =
    let behind = IsSeparator-reached between s in
    ap (λ xs. reach place (xs ++ rest)) e
    ∙ ap (reach place) (append_assoc first (between ++ last) rest)
    ∙ IsRun-reached first place ((between ++ last) ++ rest) r
    ∙ ap (reach Run) (append_assoc between last rest)
    ∙ behind.1 (last ++ rest)
    ∙ IsComponent-reached behind.0 rest c

reach-slash : (rest : List ℕ) → reach Run (47 ∷ rest) ≡ reach Start rest
unfolding reach step
reach-slash rest = refl

IsName-reached : {text : List ℕ} → IsName text → reach Start text ≡ Some Run
IsName-reached (component {text = text} c) =
    ap (reach Start) (sym (append-nil text)) ∙ IsComponent-reached Start [] c ∙ reach-nil Run
IsName-reached (path {first = first} {rest = rest} e c n) =
    ap (reach Start) e ∙ IsComponent-reached Start (47 ∷ rest) c ∙ reach-slash rest ∙ IsName-reached n

-- what leads to the end of a run is a name

-- what a text behind a place makes
Makes : Place → List ℕ → Type 0
Makes Start text = IsName text
Makes Run text = (byte : ℕ) → IsTrue (stands_in_run byte) → IsName (byte ∷ text)
Makes Dot text = IsName text
Makes Underscore text = (byte : ℕ) → IsTrue (stands_in_run byte) → IsName (byte ∷ 95 ∷ text)
Makes Underscores text = IsName text
Makes Dashes text = (between : List ℕ) → IsDashes between → (byte : ℕ) → IsTrue (stands_in_run byte)
    → IsName (byte ∷ (between ++ text))

Makes-run : (place : Place) (byte : ℕ) (text : List ℕ) → IsTrue (stands_in_run byte) → Makes Run text → Makes place (byte ∷ text)
unfolding Makes
Makes-run Start byte text h m = m byte h
Makes-run Run byte text h m = λ a k. IsName-more a k (m byte h)
Makes-run Dot byte text h m = m byte h
Makes-run Underscore byte text h m = λ a k. IsName-joined (codes "_") a k (underscore refl) (m byte h)
Makes-run Underscores byte text h m = m byte h
Makes-run Dashes byte text h m = λ between d a k. IsName-joined between a k (dashes d) (m byte h)

dash-more : (between : List ℕ) (byte : ℕ) → byte ≡ 45 → AllByRecursion (λ byte. byte ≡ 45) between
    → AllByRecursion (λ byte. byte ≡ 45) (between ++ byte ∷ [])
dash-more [] byte e h = (e, tt)
dash-more (b ∷ bs) byte e h = (h.0, dash-more bs byte e h.1)

IsDashes-more : (between : List ℕ) (byte : ℕ) → byte ≡ 45 → IsDashes between → IsDashes (between ++ byte ∷ [])
IsDashes-more [] byte e d = absurd (d.some refl)
IsDashes-more (b ∷ bs) byte e d = record { some = λ e. cc; all = dash-more (b ∷ bs) byte e d.all }

IsDashes-one : IsDashes (codes "-")
IsDashes-one = record { some = λ e. cc; all = (refl, tt) }

-- each byte behind a run that doesn't stand in runs
Makes-dot : (byte : ℕ) (text : List ℕ) → byte ≡ 46 → Makes Dot text → Makes Run (byte ∷ text)
unfolding Makes
Makes-dot byte text e m = λ a k. subst (λ b. IsName (a ∷ b ∷ text)) (sym e) (IsName-joined (codes ".") a k (dot refl) m)

Makes-underscore : (byte : ℕ) (text : List ℕ) → byte ≡ 95 → Makes Underscore text → Makes Run (byte ∷ text)
unfolding Makes
Makes-underscore byte text e m = λ a k. subst (λ b. IsName (a ∷ b ∷ text)) (sym e) (m a k)

Makes-underscores : (byte : ℕ) (text : List ℕ) → byte ≡ 95 → Makes Underscores text → Makes Underscore (byte ∷ text)
unfolding Makes
Makes-underscores byte text e m =
    λ a k. subst (λ b. IsName (a ∷ 95 ∷ b ∷ text)) (sym e) (IsName-joined (codes "__") a k (underscores refl) m)

Makes-first_dash : (byte : ℕ) (text : List ℕ) → byte ≡ 45 → Makes Dashes text → Makes Run (byte ∷ text)
unfolding Makes
Makes-first_dash byte text e m = λ a k. subst (λ b. IsName (a ∷ b ∷ text)) (sym e) (m (codes "-") IsDashes-one a k)

Makes-dash : (byte : ℕ) (text : List ℕ) → byte ≡ 45 → Makes Dashes text → Makes Dashes (byte ∷ text)
unfolding Makes
Makes-dash byte text e m =
    λ between d a k. subst (λ xs. IsName (a ∷ xs)) (append_assoc between (byte ∷ []) text)
    (m (between ++ byte ∷ []) (IsDashes-more between byte e d) a k)

Makes-slash : (byte : ℕ) (text : List ℕ) → byte ≡ 47 → Makes Start text → Makes Run (byte ∷ text)
unfolding Makes
Makes-slash byte text e m = λ a k. subst (λ b. IsName (a ∷ b ∷ text)) (sym e) (IsName-path a k m)

none-some : {A : Type 0} (place : Place) → None ≡ Some place → A
none-some place e = absurd (cc)

some-place : (place next : Place) → Some place ≡ Some next → place ≡ next
some-place place next e = cc

-- from what is behind one byte more
along : (place next : Place) (text : List ℕ) → Some place ≡ Some next → Makes next text → Makes place text
along place next text e m = subst (λ q. Makes q text) (sym (some-place place next e)) m

Makes-behind_run : (byte : ℕ) (next : Place) (text : List ℕ) → behind Run byte ≡ Some next → Makes next text → Makes Run (byte ∷ text)
Makes-behind_run byte next text e m = elim (eqb_tells byte 46) [
  | inl h ↦ Makes-dot byte text h.1 (along Dot next text (rw h.0 at e) m)
  | inr h ↦ let e1 = rw h.0 at e in elim (eqb_tells byte 95) [
    | inl i ↦ Makes-underscore byte text i.1 (along Underscore next text (rw i.0 at e1) m)
    | inr i ↦ let e2 = rw i.0 at e1 in elim (eqb_tells byte 45) [
      | inl j ↦ Makes-first_dash byte text j.1 (along Dashes next text (rw j.0 at e2) m)
      | inr j ↦ let e3 = rw j.0 at e2 in elim (eqb_tells byte 47) [
        | inl k ↦ Makes-slash byte text k.1 (along Start next text (rw k.0 at e3) m)
        | inr k ↦ none-some next (rw k.0 at e3)
      ]
    ]
  ]
]

Makes-behind : (place : Place) (byte : ℕ) (next : Place) (text : List ℕ) → behind place byte ≡ Some next
    → Makes next text → Makes place (byte ∷ text)
Makes-behind Start byte next text e m = none-some next e
Makes-behind Run byte next text e m = Makes-behind_run byte next text e m
Makes-behind Dot byte next text e m = none-some next e
Makes-behind Underscore byte next text e m = elim (eqb_tells byte 95) [
  | inl h ↦ Makes-underscores byte text h.1 (along Underscores next text (rw h.0 at e) m)
  | inr h ↦ none-some next (rw h.0 at e)
]
Makes-behind Underscores byte next text e m = none-some next e
Makes-behind Dashes byte next text e m = elim (eqb_tells byte 45) [
  | inl h ↦ Makes-dash byte text h.1 (along Dashes next text (rw h.0 at e) m)
  | inr h ↦ none-some next (rw h.0 at e)
]

Makes-step : (place : Place) (byte : ℕ) (next : Place) (text : List ℕ) → step place byte ≡ Some next
    → Makes next text → Makes place (byte ∷ text)
Makes-step place byte next text e m = elim (cases_Bool (stands_in_run byte)) [
  | inl h ↦ Makes-run place byte text h (along Run next text (sym (step-run place byte h) ∙ e) m)
  | inr h ↦ Makes-behind place byte next text (sym (step-behind place byte h) ∙ e) m
]

Makes-nil : (place : Place) → Some place ≡ Some Run → Makes place []
unfolding Makes
Makes-nil Run e = λ a k. component (run (IsRun-one a k))
Makes-nil Start e = absurd (cc)
Makes-nil Dot e = absurd (cc)
Makes-nil Underscore e = absurd (cc)
Makes-nil Underscores e = absurd (cc)
Makes-nil Dashes e = absurd (cc)

Makes-reached : (text : List ℕ) (place : Place) → reach place text ≡ Some Run → Makes place text
unfolding reach
Makes-reached [] place e = Makes-nil place e
Makes-reached (byte ∷ text) place e =
    option_and_then_some (λ next. reach next text) (step place byte) Run e
    (λ next s r. Makes-step place byte next text s (Makes-reached text next r))

IsName-from_reach : (text : List ℕ) → reach Start text ≡ Some Run → IsName text
unfolding Makes
IsName-from_reach text e = Makes-reached text Start e

-- fronts that lead to one place are alike

option_and_then-twice : (o : Option Place) (f g h : Place → Option Place) → ((next : Place) → f next ≡ option_and_then g (h next))
    → option_and_then f o ≡ option_and_then g (option_and_then h o)
option_and_then-twice None f g h e = refl
option_and_then-twice (Some next) f g h e = e next

reach-append : (front more : List ℕ) (place : Place)
    → reach place (front ++ more) ≡ option_and_then (λ next. reach next more) (reach place front)
unfolding reach
reach-append [] more place = refl
reach-append (byte ∷ front) more place =
    option_and_then-twice (step place byte) (λ next. reach next (front ++ more)) (λ next. reach next more)
    (λ next. reach next front) (λ next. reach-append front more next)

carried : (front other more : List ℕ) → reach Start front ≡ reach Start other → IsName (front ++ more) → IsName (other ++ more)
carried front other more e n =
    let go : Option Place → Option Place = option_and_then (λ next. reach next more) in
    IsName-from_reach (other ++ more)
    (reach-append other more Start ∙ ap go (sym e) ∙ sym (reach-append front more Start) ∙ IsName-reached n)

Alike-reached : (front other : List ℕ) → reach Start front ≡ reach Start other → Alike front other
Alike-reached front other e = λ more. (carried front other more e, carried other front more (sym e))

none-reached : (front : List ℕ) → reach Start front ≡ None → BeginsNone IsName front
none-reached front e = λ more n.
    let go : Option Place → Option Place = option_and_then (λ next. reach next more) in
    none-some Run (sym (ap go e) ∙ sym (reach-append front more Start) ∙ IsName-reached n)

front-reached : (place : Place) → reach Start (front_of place) ≡ Some place
unfolding reach step
front-reached Start = refl
front-reached Run = refl
front-reached Dot = refl
front-reached Underscore = refl
front-reached Underscores = refl
front-reached Dashes = refl

some-again : (o : Option Place) → option_and_then (λ next. reach next []) o ≡ o
unfolding reach
some-again None = refl
some-again (Some next) = refl

reach-one : (place : Place) (byte : ℕ) → reach place (byte ∷ []) ≡ step place byte
unfolding reach
reach-one place byte = some-again (step place byte)

front-step : (place : Place) (byte : ℕ) → reach Start (front_of place ++ byte ∷ []) ≡ step place byte
front-step place byte =
    reach-append (front_of place) (byte ∷ []) Start
    ∙ ap (option_and_then (λ next. reach next (byte ∷ []))) (front-reached place)
    ∙ reach-one place byte

eqb_off : (m n : ℕ) → m ≢ n → eqb m n ≡ false
eqb_off m n h = elim (eqb_tells m n) [ inl e ↦ absurd (h e.1) | inr e ↦ e.0 ]

-- what a step leaves open
pub moves : (place : Place) (byte : ℕ) (answer : Option Place) → step place byte ≡ answer → Moves place byte answer
moves place byte (Some next) e =
    Alike-reached (front_of place ++ byte ∷ []) (front_of next) (front-step place byte ∙ e ∙ sym (front-reached next))
moves place byte None e = none-reached (front_of place ++ byte ∷ []) (front-step place byte ∙ e)

pub moves_run : (place : Place) (byte : ℕ) → stands_in_run byte ≡ true → Moves place byte (Some Run)
moves_run place byte h = moves place byte (Some Run) (step-run place byte h)

pub moves_behind : (place : Place) (byte : ℕ) (answer : Option Place) → stands_in_run byte ≡ false → behind place byte ≡ answer
    → Moves place byte answer
moves_behind place byte answer h e = moves place byte answer (step-behind place byte h ∙ e)

behind_run-none : (byte : ℕ) → byte ≢ 46 → byte ≢ 95 → byte ≢ 45 → byte ≢ 47 → behind Run byte ≡ None
behind_run-none byte e f g h = rw (eqb_off byte 46 e, eqb_off byte 95 f, eqb_off byte 45 g, eqb_off byte 47 h)

pub moves_none : (byte : ℕ) → stands_in_run byte ≡ false → byte ≢ 46 → byte ≢ 95 → byte ≢ 45 → byte ≢ 47
    → Moves Run byte None
moves_none byte h e f g k = moves_behind Run byte None h (behind_run-none byte e f g k)

-- the walk over a text

pub Alike-begin : Alike [] (front_of Start)
Alike-begin = λ more. (λ n. n, λ n. n)

Alike-with : (front : List ℕ) (place : Place) (byte : ℕ) (more : List ℕ) → Alike front (front_of place)
    → (IsName ((front ++ byte ∷ []) ++ more) → IsName ((front_of place ++ byte ∷ []) ++ more))
    × (IsName ((front_of place ++ byte ∷ []) ++ more) → IsName ((front ++ byte ∷ []) ++ more))
Alike-with front place byte more alike =
    let here = append_assoc front (byte ∷ []) more in
    let there = append_assoc (front_of place) (byte ∷ []) more in (
      λ n. subst IsName (sym there) ((alike (byte ∷ more)).0 (subst IsName here n)),
      λ n. subst IsName (sym here) ((alike (byte ∷ more)).1 (subst IsName there n)),
    )

pub Alike-step : (text : List ℕ) (at d : ℕ) (place next : Place) → at < length text → Alike (take at text) (front_of place)
    → Moves place (get_or text at d) (Some next) → Alike (take (at + 1) text) (front_of next)
Alike-step text at d place next h alike m =
    let byte : ℕ = get_or text at d in
    subst (λ front. Alike front (front_of next)) (sym (take_more text at d h))
    (λ more. let w = Alike-with (take at text) place byte more alike in
    (λ n. (m more).0 (w.0 n), λ n. w.1 ((m more).1 n)))

-- each place is one from which a name can be ended
ends : (place : Place) → Begins IsName (front_of place)
unfolding reach step
ends Start = (codes "a", IsName-from_reach (codes "a") refl)
ends Run = ([], IsName-from_reach (codes "a") refl)
ends Dot = (codes "a", IsName-from_reach (codes "a.a") refl)
ends Underscore = (codes "a", IsName-from_reach (codes "a_a") refl)
ends Underscores = (codes "a", IsName-from_reach (codes "a__a") refl)
ends Dashes = (codes "a", IsName-from_reach (codes "a-a") refl)

Begins-alike : (front : List ℕ) (place : Place) → Alike front (front_of place) → Begins IsName front
Begins-alike front place alike = let e = ends place in (e.0, (alike e.0).1 e.1)

pub name_fault_here : (text : List ℕ) (at d : ℕ) (place : Place) → at < length text → Alike (take at text) (front_of place)
    → Moves place (get_or text at d) None → IsFaultAt IsName text at
name_fault_here text at d place h alike m =
    fault_here IsName text at h (Begins-alike (take at text) place alike)
    (subst (BeginsNone IsName) (sym (take_more text at d h))
    (λ more n. m more ((Alike-with (take at text) place (get_or text at d) more alike).0 n)))

Alike-whole : (text : List ℕ) (place : Place) → Alike (take (length text) text) (front_of place) → Alike text (front_of place)
Alike-whole text place alike = subst (λ front. Alike front (front_of place)) (take-length text) alike

pub name_at_end : (text : List ℕ) → Alike (take (length text) text) (front_of Run) → IsName text
unfolding ends
name_at_end text alike =
    subst IsName (append-nil text) ((Alike-whole text Run alike []).1 (ends Run).1)

pub name_fault_at_end : (text : List ℕ) (place : Place) → place ≢ Run → Alike (take (length text) text) (front_of place)
    → IsFaultAt IsName text (length text)
name_fault_at_end text place other alike =
    let whole = Alike-whole text place alike in
    fault_at_end IsName text (Begins-alike text place whole)
    (λ n. other (some-place place Run
    (sym (front-reached place)
    ∙ ap (reach Start) (sym (append-nil (front_of place)))
    ∙ IsName-reached ((whole []).0 (subst IsName (sym (append-nil text)) n)))))

-- the test that computes

is_end-run : (reached : Option Place) → is_end reached ≡ true → reached ≡ Some Run
is_end-run None e = absurd cc
is_end-run (Some Start) e = absurd cc
is_end-run (Some Run) e = refl
is_end-run (Some Dot) e = absurd cc
is_end-run (Some Underscore) e = absurd cc
is_end-run (Some Underscores) e = absurd cc
is_end-run (Some Dashes) e = absurd cc

pub is_name-from_IsName : (text : List ℕ) → IsName text → is_name text ≡ true
is_name-from_IsName text n = ap is_end (IsName-reached n)

pub is_name-from_refusal : (text : List ℕ) → (IsName text → ⊥) → is_name text ≡ false
is_name-from_refusal text refused = elim (cases_Bool (is_name text)) [
  | inl e ↦ absurd (refused (IsName-from_reach text (is_end-run _ e)))
  | inr e ↦ e
]

-- there is no fault exactly where the test holds
pub fault_tells : (text : List ℕ) (fault : Option ℕ) → MatchOption fault (IsName text) (λ at. IsFaultAt IsName text at)
    → is_none fault ≡ is_name text
fault_tells text None n = sym (is_name-from_IsName text n)
fault_tells text (Some at) f = sym (is_name-from_refusal text f.refused)
