-- Lemmas on the steps of a seat: each keeps the rule.
use Rattle.std.proofs.Common.{◌≡◌, ℕ, ◌-◌, ◌*◌, ◌==◌, ◌<◌, ◌≤◌, nat_le, nat_eq, ◌&&◌, Bool, true, false, if◌then◌else◌, IsTrue, List, [], ◌∷◌, ◌++◌, set, get_or, refl, sym, ap, ◌∙◌, subst, inl, inr, arith, eq-eqb, ne_eqb, length-set}
use Rattle.std.specs.List.{Contains, count_by, flat_map}
use Rattle.std.proofs.lemmas.List.{append-nil, set-get_or}
use Rattle.std.proofs.lemmas.Grind.{flat_map-append}
use Rattle.std.proofs.lemmas.List.Elements.{Contains-append_cases, Contains-push_cases}
use mathlib.Core.Option.{some, none}
use mathlib.Core.Logic.{dite}
use native.Mathlib.Decide.{ℕ_discrete}
use lib.ListN.{get_elem?}
use prog.Atomic.{either}
use Rattle.atomic_table.specs.Table.{State, Me, Allows, Splits, Joins, Valid, carried_after, step, Act, keeps}
use Rattle.atomic_table.proofs.Lists.{at_set, at_snoc}
use Rattle.hr_base.specs.declared.status.Mark.{Mark}
use Rattle.hr_base.specs.Status.{word_of}
use Rattle.hr_board.specs.Moves.{IsMove, Below}
use Rattle.hr_board.specs.Past.{with_note}
use Rattle.hr_board.specs.View.{place_of, Noted, Finds}
use Rattle.hr_board.specs.declared.trail.Note.TheVariants.{Saw, Moved}
use Rattle.hr_board.proofs.LawfulLaws.{look-lawful, move-lawful}
use Rattle.hr_ruled.specs.Rule.{IsRuled, IsSeat, LookTells, MoveTells, together}
use Rattle.hr_ruled.specs.Seats.{view_of_seat, role_allows, plain_finals, seat_saw, seat_moved, seat_left, seat_given, seats_joined, spent_seat, part_of_role, final_moves_with}
use Rattle.hr_ruled.specs.declared.rule.FinalMove.{FinalMove}
use Rattle.hr_ruled.specs.declared.rule.Role.{Role}
use Rattle.hr_ruled.specs.declared.rule.Role.TheVariants.{Lane, Queue, Control, Reader}
use Rattle.hr_ruled.specs.declared.rule.SeatView.{SeatView}
use Rattle.hr_ruled.proofs.RuleLemmas.{Like, like-lawful}
use Rattle.hr_ruled.proofs.SeatsLemmas.{Same, same-is, set-contains, at-contains, set-count, count-append, set-grows, set-stays, if-more, plain-final_moves_with, plain_finals-append, set-parts, push-parts}

-- what holds of each seat, where one was put in place of another
set-each : (seats : List SeatView) (id : ℕ) (w : SeatView)
    → ((j : ℕ) (u : SeatView) → get_elem? seats j ≡ some u → IsSeat u) → IsSeat w
    → (j : ℕ) (u : SeatView) → get_elem? (set seats id w) j ≡ some u → IsSeat u
set-each seats id w each new j u e = elim (at_set seats id j w u e) [
  | inl t ↦ subst IsSeat t.1 new
  | inr t ↦ each j u t.1
]

-- a seat that looks keeps its parts, and moves nothing
look-like : (seats : List SeatView) (id : ℕ) (v : SeatView) (place word : ℕ) → get_elem? seats id ≡ some v
    → Like (with_note (together seats) (Saw place word)) (together (set seats id (seat_saw v place word)))
look-like seats id v place word at =
    let w = seat_saw v place word in
    record {
      notes = λ p n h. (set-grows (λ u. u.notes) seats id v w ((place, word) ∷ []) at refl).contains (p, n) h;
      finals = set-stays (λ u. plain_finals u.finals) seats id v w at refl;
      opens = set-stays (λ u. u.opens) seats id v w at refl;
    }

look-ruled : (count : ℕ) (words : List ℕ) (seats : List SeatView) (id : ℕ) (v : SeatView) (place : ℕ)
    → IsRuled count words seats → get_elem? seats id ≡ some v
    → IsRuled count words (set seats id (seat_saw v place (get_or words place 0)))
look-ruled count words seats id v place h at =
    let mine = h.each id v at in
    let w = seat_saw v place (get_or words place 0) in
    record {
      whole = h.whole;
      lawful = like-lawful words _ _ (look-lawful words (together seats) place h.lawful) (look-like seats id v place (get_or words place 0) at);
      parts = omega (arith, set-parts seats id v w at, h.parts);
      each = set-each seats id w h.each record { allowed = mine.allowed; role = mine.role; finals = mine.finals; opens = mine.opens };
    }

-- a seat that moves a word
move-like : (seats : List SeatView) (id : ℕ) (v : SeatView) (place from to : ℕ) → get_elem? seats id ≡ some v
    → Like (with_note (together seats) (Moved place from to)) (together (set seats id (seat_moved v place from to)))
move-like seats id v place from to at =
    let w = seat_moved v place from to in
    let final = nat_le 4 to in
    let opening = nat_le to 2 && nat_eq from 0 in
    record {
      notes = λ p n h. (set-grows (λ u. u.notes) seats id v w ((place, to) ∷ []) at refl).contains (p, n) h;
      finals = same-is _ _ _ (if-more final (together seats).finals (place, to))
          (set-grows (λ u. plain_finals u.finals) seats id v w (if final then (place, to) ∷ [] else []) at
          (plain-final_moves_with v.role v.finals place to ∙ if-more final (plain_finals v.finals) (place, to)));
      opens = same-is _ _ _ (if-more opening (together seats).opens place)
          (set-grows (λ u. u.opens) seats id v w (if opening then place ∷ [] else []) at (if-more opening v.opens place));
    }

-- a seat without parts may move nothing
has-part : (v : SeatView) (to : ℕ) → IsSeat v → IsTrue (role_allows v.role to) → v.parts ≡ 0 → ⊥
has-part v to seat may z =
    let F : Role → Type 0 = λ r. IsTrue (role_allows r to) in
    let no : false ≡ true = subst F (seat.role z) may in
    cc

-- the seat's own final moves stay allowed
moves-allowed : (v : SeatView) (place to : ℕ) → IsSeat v → IsTrue (role_allows v.role to) → (final : FinalMove)
    → Contains (final_moves_with v.role v.finals place to) final → IsTrue (role_allows final.by final.word)
moves-allowed v place to seat may final = elim (nat_le 4 to)
    as (λ b. Contains (if b then v.finals ++ record { place = place; word = to; by = v.role } ∷ [] else v.finals) final
    → IsTrue (role_allows final.by final.word)) [
      | true ↦ λ h. elim (Contains-push_cases v.finals (record { place = place; word = to; by = v.role }) final h) [
        | inl old ↦ seat.allowed final old
        | inr new ↦ let F : FinalMove → Type 0 = λ f. IsTrue (role_allows f.by f.word) in subst F new may
      ]
      | false ↦ λ h. seat.allowed final h
    ]

move-ruled : (count : ℕ) (words : List ℕ) (seats : List SeatView) (id job rev : ℕ) (from to : Mark) (v : SeatView)
    → IsRuled count words seats → get_elem? seats id ≡ some v → place_of job rev < count → rev ≤ 3 → IsMove from to
    → get_or words (place_of job rev) 0 ≡ word_of from → IsTrue (role_allows v.role (word_of to))
    → (word_of from ≡ 0 → 1 ≤ rev → Noted v.notes (place_of job (rev - 1)) 5)
    → IsRuled count (set words (place_of job rev) (word_of to))
    (set seats id (seat_moved v (place_of job rev) (word_of from) (word_of to)))
move-ruled count words seats id job rev from to v h at within few moves is may opens =
    let place = place_of job rev in
    let w = seat_moved v place (word_of from) (word_of to) in
    let mine = h.each id v at in
    let part = has-part v (word_of to) mine may in
    record {
      whole = length-set words place (word_of to) ∙ h.whole;
      lawful = like-lawful (set words place (word_of to)) _ _
          (move-lawful words (together seats) job rev from to h.lawful (omega (arith, within, h.whole)) few moves is
          (λ z low. at-contains (λ u. u.notes) seats id v (place_of job (rev - 1), 5) at (opens z low)))
          (move-like seats id v place (word_of from) (word_of to) at);
      parts = omega (arith, set-parts seats id v w at, h.parts);
      each = set-each seats id w h.each record {
        allowed = moves-allowed v place (word_of to) mine may;
        role = λ z. absurd (part z);
        finals = λ z. absurd (part z);
        opens = λ z. absurd (part z);
      };
    }

-- each note of a seat is below the word
above : (count : ℕ) (words : List ℕ) (seats : List SeatView) (id : ℕ) (v : SeatView) (place word : ℕ)
    → IsRuled count words seats → get_elem? seats id ≡ some v → Noted v.notes place word → Below word (get_or words place 0)
above count words seats id v place word h at n =
    h.lawful.notes_below place word (at-contains (λ u. u.notes) seats id v (place, word) at n)

pub looks : (count slots id place : ℕ) (me : Me ℕ SeatView)
    → Allows (λ s. IsRuled count s.words s.views) slots id me place (λ n. n) (LookTells (step slots place 0 0 none) me)
looks count slots id place me s h _ at _ =
    let n : ℕ = get_or s.words place 0 in
    let F : List ℕ → Type 0 = λ l. IsRuled count l (set s.views id (seat_saw me.0 place n)) in (
      seat_saw me.0 place n,
      keeps,
      tt,
      subst F (sym (set-get_or s.words place 0)) (look-ruled count s.words s.views id me.0 place h at),
      record {
        slots = refl;
        valid = h.lawful.valid_word place;
        above = λ word k. above count s.words s.views id me.0 place word h at k;
        saw = refl;
      },
    )

-- what an exchange owes where the test of the word that it finds says b
abbrev Exchanges : ℕ → ℕ → ℕ → ℕ → ℕ → Me ℕ SeatView → State ℕ SeatView → Bool → Type 0
Exchanges count id place from to me s b =
    (w : SeatView) × (a : Act ℕ) × Valid s.homes me.1 a
    × IsRuled count (set s.words place (either b to (get_or s.words place 0))) (set s.views id w)
    × (carried_after me.1 a ≡ me.1) × (w ≡ (if b then seat_moved me.0 place from to else seat_saw me.0 place (get_or s.words place 0)))

-- what it owes, and what it tells
exchanged : (count slots id place from to : ℕ) (me : Me ℕ SeatView) (s : State ℕ SeatView) → IsRuled count s.words s.views
    → get_elem? s.views id ≡ some me.0 → Exchanges count id place from to me s (get_or s.words place 0 == from)
    → (w : SeatView) × (a : Act ℕ) × Valid s.homes me.1 a
    × IsRuled count (set s.words place (either (get_or s.words place 0 == from) to (get_or s.words place 0))) (set s.views id w)
    × MoveTells (step slots place from to none) me (get_or s.words place 0) (w, carried_after me.1 a)
exchanged count slots id place from to me s h at (w, a, valid, ruled, slots_stay, noted) = (
  w,
  a,
  valid,
  ruled,
  record {
    slots = slots_stay;
    valid = h.lawful.valid_word place;
    above = λ word k. above count s.words s.views id me.0 place word h at k;
    noted = noted;
  },
)

pub moves : (count slots id job rev : ℕ) (from to : Mark) (me : Me ℕ SeatView) → place_of job rev < count → rev ≤ 3
    → IsMove from to → IsTrue (role_allows me.0.role (word_of to))
    → (word_of from ≡ 0 → 1 ≤ rev → Noted me.0.notes (place_of job (rev - 1)) 5)
    → Allows (λ s. IsRuled count s.words s.views) slots id me (place_of job rev)
    (λ n. either (n == word_of from) (word_of to) n)
    (MoveTells (step slots (place_of job rev) (word_of from) (word_of to) none) me)
moves count slots id job rev from to me within few go may opens s h _ at _ =
    let place = place_of job rev in
    let n : ℕ = get_or s.words place 0 in
    let E : Bool → Type 0 = λ b. Exchanges count id place (word_of from) (word_of to) me s b in
    exchanged count slots id place (word_of from) (word_of to) me s h at
    (dite (ℕ_discrete n (word_of from))
    (λ e. subst E (sym (eq-eqb n (word_of from) e)) (
      seat_moved me.0 place (word_of from) (word_of to),
      keeps,
      tt,
      move-ruled count s.words s.views id job rev from to me.0 h at within few go e may opens,
      refl,
      refl,
    ))
    (λ ne. let F : List ℕ → Type 0 = λ l. IsRuled count l (set s.views id (seat_saw me.0 place n)) in
    subst E (sym (ne_eqb n (word_of from) ne)) (
      seat_saw me.0 place n,
      keeps,
      tt,
      subst F (sym (set-get_or s.words place 0)) (look-ruled count s.words s.views id me.0 place h at),
      refl,
      refl,
    )))

-- a list of all seats where a new one came that has nothing of it
pushed-none : {A : Type 0} (f : SeatView → List A) (seats : List SeatView) (w : SeatView) → f w ≡ []
    → flat_map f (seats ++ w ∷ []) ≡ flat_map f seats
pushed-none {A} f seats w e =
    let C : List A → List A = λ l. flat_map f seats ++ (l ++ []) in
    flat_map-append f seats (w ∷ []) ∙ ap C e ∙ append-nil (flat_map f seats)

-- a split keeps each list that the new seat has nothing of
split-same : {A : Type 0} (f : SeatView → List A) (seats : List SeatView) (id : ℕ) (v left right : SeatView)
    → get_elem? seats id ≡ some v → f left ≡ f v → f right ≡ []
    → Same (flat_map f seats) (flat_map f (set seats id left ++ right ∷ []))
split-same {A} f seats id v left right at e z =
    let F : List A → Type 0 = λ l. Same (flat_map f seats) l in
    subst F (sym (pushed-none f (set seats id left) right z)) (set-stays f seats id v left at e)

costs_nothing : (role : Role) → part_of_role role ≡ 0 → role ≡ Reader
costs_nothing Lane e = absurd (omega (arith, e))
costs_nothing Queue e = absurd (omega (arith, e))
costs_nothing Control e = absurd (omega (arith, e))
costs_nothing Reader e = refl

pub splits : (count id : ℕ) (v : SeatView) (role : Role) → 2 * part_of_role role ≤ v.parts
    → Splits (λ (s : State ℕ SeatView). IsRuled count s.words s.views) id v (seat_left v role) (seat_given v role)
splits count id v role enough s h at =
    let left = seat_left v role in
    let right = seat_given v role in
    let mine = h.each id v at in
    let now = set s.views id left ++ right ∷ [] in
    let left_is : IsSeat left = record {
      allowed = mine.allowed;
      role = λ z. mine.role (omega (arith, z, enough));
      finals = λ z. mine.finals (omega (arith, z, enough));
      opens = λ z. mine.opens (omega (arith, z, enough));
    } in
    let right_is : IsSeat right = record {
      allowed = λ final k. absurd (omega (arith, k.1));
      role = costs_nothing role;
      finals = λ _. refl;
      opens = λ _. refl;
    } in
    let like : Like (together s.views) (together now) = record {
      notes = λ p word k.
          let F : List (ℕ × ℕ) → Type 0 = λ l. Contains l (p, word) in
          elim (Contains-append_cases (flat_map (λ u. u.notes) (set s.views id left)) (right.notes ++ []) (p, word)
          (subst F (flat_map-append (λ u. u.notes) (set s.views id left) (right ∷ [])) k)) [
            | inl a ↦ (set-stays (λ u. u.notes) s.views id v left at refl).contains (p, word) a
            | inr b ↦ at-contains (λ u. u.notes) s.views id v (p, word) at (subst F (append-nil right.notes) b)
          ];
      finals = split-same (λ u. plain_finals u.finals) s.views id v left right at refl refl;
      opens = split-same (λ u. u.opens) s.views id v left right at refl refl;
    } in
    record {
      whole = h.whole;
      lawful = like-lawful s.words (together s.views) (together now) h.lawful like;
      parts = omega (arith, push-parts (set s.views id left) right, set-parts s.views id v left at, h.parts, enough);
      each = λ j u e. elim (at_snoc (set s.views id left) right u j e) [
        | inl t ↦ set-each s.views id left h.each left_is j u t
        | inr t ↦ subst IsSeat t right_is
      ];
    }

-- a join keeps each list that both seats have one after the other, and the spent one has nothing of
join-same : {A : Type 0} (f : SeatView → List A) (seats : List SeatView) (id other : ℕ) (v w both spent : SeatView)
    → get_elem? seats id ≡ some v → get_elem? seats other ≡ some w → get_elem? (set seats id both) other ≡ some w
    → f both ≡ f v ++ f w → f spent ≡ [] → Same (flat_map f seats) (flat_map f (set (set seats id both) other spent))
join-same {A} f seats id other v w both spent at there after e z = record {
  contains = λ x h. elim (set-contains f (set seats id both) other spent x h) [
    | inl a ↦ elim (set-contains f seats id both x a) [
      | inl b ↦ b
      | inr c ↦
          let F : List A → Type 0 = λ l. Contains l x in
          elim (Contains-append_cases (f v) (f w) x (subst F e c)) [
            | inl d ↦ at-contains f seats id v x at d
            | inr d ↦ at-contains f seats other w x there d
          ]
    ]
    | inr b ↦
        let F : List A → Type 0 = λ l. Contains l x in
        let nothing : Contains [] x = subst F z b in
        absurd (omega (arith, nothing.1))
  ];
  counts = λ p.
      let N : List A → ℕ = λ l. count_by p l in
      omega (
        arith,
        set-count f p (set seats id both) other w spent after,
        set-count f p seats id v both at,
        ap N e,
        ap N z,
        count-append p (f v) (f w),
      );
}

-- two lists that are empty make one that is
no_items : {A : Type 0} (xs ys : List A) → xs ≡ [] → ys ≡ [] → xs ++ ys ≡ []
no_items {A} xs ys e f = let C : List A → List A = λ l. l ++ ys in ap C e ∙ f

pub joins : (count id : ℕ) (v : SeatView) (other : ℕ) (w : SeatView)
    → Joins (λ (s : State ℕ SeatView). IsRuled count s.words s.views) id v other w (seats_joined v w) spent_seat
joins count id v other w s h at apart after =
    let both = seats_joined v w in
    let there : get_elem? s.views other ≡ some w = elim (at_set s.views id other both w after) [
      | inl t ↦ absurd (apart t.0)
      | inr t ↦ t.1
    ] in
    let mine = h.each id v at in
    let theirs = h.each other w there in
    let both_is : IsSeat both = record {
      allowed = λ final k. elim (Contains-append_cases v.finals w.finals final k) [
        | inl a ↦ mine.allowed final a
        | inr b ↦ theirs.allowed final b
      ];
      role = λ z. mine.role (omega (arith, z));
      finals = λ z. no_items v.finals w.finals (mine.finals (omega (arith, z))) (theirs.finals (omega (arith, z)));
      opens = λ z. no_items v.opens w.opens (mine.opens (omega (arith, z))) (theirs.opens (omega (arith, z)));
    } in
    let spent_is : IsSeat spent_seat = record {
      allowed = λ final k. absurd (omega (arith, k.1));
      role = λ _. refl;
      finals = λ _. refl;
      opens = λ _. refl;
    } in
    let now = set (set s.views id both) other spent_seat in
    let like : Like (together s.views) (together now) = record {
      notes = λ p word k.
          (join-same (λ u. u.notes) s.views id other v w both spent_seat at there after refl refl).contains (p, word) k;
      finals = join-same (λ u. plain_finals u.finals) s.views id other v w both spent_seat at there after
          (plain_finals-append v.finals w.finals) refl;
      opens = join-same (λ u. u.opens) s.views id other v w both spent_seat at there after refl refl;
    } in
    record {
      whole = h.whole;
      lawful = like-lawful s.words (together s.views) (together now) h.lawful like;
      parts = omega (arith, set-parts (set s.views id both) other w spent_seat after, set-parts s.views id v both at, h.parts);
      each = set-each (set s.views id both) other spent_seat (set-each s.views id both h.each both_is) spent_is;
    }

-- what a step tells a seat of the word that it found is what a board finds there
pub found : (jobs at place n word : ℕ) (v seat : SeatView) → at ≡ place → v ≡ seat → n ≡ word
    → ((m : ℕ) → Noted v.notes at m → Below m n) → Finds (view_of_seat jobs seat) place word
found jobs at place n word v seat e f k above =
    let P : ℕ → Type 0 = λ p. Finds (view_of_seat jobs seat) p word in
    let S : SeatView → Type 0 = λ u. Finds (view_of_seat jobs u) at word in
    let W : ℕ → Type 0 = λ m. Finds (view_of_seat jobs v) at m in
    subst P e (subst S f (subst W k record { told = tt; above = above }))
