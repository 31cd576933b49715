-- Lemmas on the words of specs/Stopping.antt.
use Rattle.std.proofs.Common.{◌≡◌, ◌≢◌, ℕ, ◌+◌, ◌<◌, ◌≤◌, List, [], ◌∷◌, ◌++◌, sym, ap, ◌∙◌, subst, inl, inr, append_assoc, below_more, Some, None, arith, ◌-◌}
use Rattle.std.proofs.lemmas.List.{append-nil}
use Rattle.std.proofs.lemmas.List.Elements.{Contains-push, Contains-push_cases, Contains-append_cases, Contains-append_left, Contains-append_right}
use Rattle.hr_base.specs.declared.status.Status.{Status}
use Rattle.hr_base.specs.declared.status.Mark.TheVariants.{At}
use Rattle.hr_base.specs.Status.{word_of, IsFinal}
use Rattle.hr_board.specs.Moves.{Below}
use Rattle.hr_base.specs.declared.status.Status.TheVariants.{Error}
use Rattle.hr_board.specs.declared.stopping.StopAnswer.TheVariants.{Stopped, Final}
use Rattle.hr_board.specs.View.{View, place_of, Noted, Finds, noting, moving, OpensAfterError}
use Rattle.hr_board.specs.Stopping.{FoundAt, WithinPlaces, StopsAt, FindsFinalAt, StopsPlace, PassesErrors, Stops}

-- what a stop knows at one place: the word that it found last, and what it noted there
pub record Looks (before : View) (place word : ℕ) (now : View) : Type 0 where
  pub more : List (ℕ × ℕ)
  pub found : FoundAt before more place word
  pub within : WithinPlaces place place more
  pub is : now ≡ noting before more

-- what was noted once more
pub noting-push : (before : View) (more : List (ℕ × ℕ)) (note : ℕ × ℕ)
    → noting (noting before more) (note ∷ []) ≡ noting before (more ++ note ∷ [])
noting-push before more note =
    let V : List (ℕ × ℕ) → View = λ notes. record before { notes = notes } in
    ap V (append_assoc before.notes more (note ∷ []))

within-one : (place word : ℕ) → WithinPlaces place place ((place, word) ∷ [])
within-one place word note h = elim (Contains-push_cases [] (place, word) note h) [
  | inl e ↦ absurd (omega (arith, e.1))
  | inr e ↦ let P : ℕ × ℕ → ℕ = λ n. n.0 in (omega (arith, ap P e), omega (arith, ap P e))
]

within-push : (first last place word : ℕ) (more : List (ℕ × ℕ)) → WithinPlaces first last more → first ≤ place → place ≤ last
    → WithinPlaces first last (more ++ (place, word) ∷ [])
within-push first last place word more h low high note k = elim (Contains-push_cases more (place, word) note k) [
  | inl e ↦ h note e
  | inr e ↦ let P : ℕ × ℕ → ℕ = λ n. n.0 in (omega (arith, ap P e), omega (arith, ap P e))
]

-- the board tells the same words after it noted some, and has the earlier notes still
finds_before : (before : View) (more : List (ℕ × ℕ)) (place word : ℕ) → Finds (noting before more) place word → Finds before place word
finds_before before more place word h = record {
  told = h.told;
  above = λ m n. h.above m (Contains-append_left before.notes more (place, m) n);
}

-- after the first look
pub looks-first : (before now : View) (place word : ℕ) → Finds before place word → now ≡ noting before ((place, word) ∷ [])
    → Looks before place word now
looks-first before now place word h e = record {
  more = (place, word) ∷ [];
  found = record { finds = h; noted = Contains-push [] (place, word) };
  within = within-one place word;
  is = e;
}

-- after a lost move
pub looks-again : (before now after : View) (place word other : ℕ) → Looks before place word now → Finds now place other
    → after ≡ noting now ((place, other) ∷ []) → Looks before place other after
looks-again before now after place word other h f e =
    let F : View → Type 0 = λ v. Finds v place other in
    let A : View → View = λ v. noting v ((place, other) ∷ []) in
    record {
      more = h.more ++ (place, other) ∷ [];
      found = record {
        finds = finds_before before h.more place other (subst F h.is f);
        noted = Contains-push h.more (place, other);
      };
      within = within-push place place place other h.more h.within (omega arith) (omega arith);
      is = e ∙ ap A h.is ∙ noting-push before h.more (place, other);
    }

-- the word that is found later is higher
pub looks-higher : (before now : View) (place word other : ℕ) → Looks before place word now → Finds now place other
    → other ≢ word → word < other
looks-higher before now place word other h f n =
    let F : View → Type 0 = λ v. Finds v place other in
    let below : Below word other = (subst F h.is f).above word
    (Contains-append_right before.notes h.more (place, word) h.found.noted) in
    omega (arith, below.0, n)

-- it ends at a final word
pub looks-final : (before now : View) (place : ℕ) (status : Status) → Looks before place (word_of (At status)) now
    → IsFinal status → (more : List (ℕ × ℕ)) × FindsFinalAt before place place more status now
looks-final before now place status h f = (h.more, record { final = f; found = h.found; within = h.within; same = h.is })

-- it ends by a move
pub looks-moved : (before now after : View) (place word : ℕ) → Looks before place word now → word < 4
    → after ≡ moving now place word 4 → (more : List (ℕ × ℕ)) × StopsAt before place place more after
looks-moved before now after place word h low e =
    let M : View → View = λ v. moving v place word 4 in
    (h.more, record { word = word; unfinished = low; found = h.found; within = h.within; moved = e ∙ ap M h.is })

-- what a stop knows between two revisions
pub record Passed (before : View) (job attempts rev : ℕ) (now : View) : Type 0 where
  pub more : List (ℕ × ℕ)
  pub passes : PassesErrors before job attempts rev more
  pub within : WithinPlaces (place_of job 0) (place_of job rev) more
  pub is : now ≡ noting before more

pub passed-none : (before : View) (job attempts : ℕ) → 0 < attempts → Passed before job attempts 0 before
passed-none before job attempts h =
    let V : List (ℕ × ℕ) → View = λ notes. record before { notes = notes } in
    record {
      more = [];
      passes = record { within = h; errors = λ r k. absurd (omega (arith, k)) };
      within = λ note k. absurd (omega (arith, k.1));
      is = ap V (sym (append-nil before.notes));
    }

-- what a call found, seen from before an earlier part of it
found_before : (before : View) (more other : List (ℕ × ℕ)) (place word : ℕ) → FoundAt (noting before more) other place word
    → FoundAt before (more ++ other) place word
found_before before more other place word h = record {
  finds = finds_before before more place word h.finds;
  noted = Contains-append_right more other (place, word) h.noted;
}

found_longer : (before : View) (more other : List (ℕ × ℕ)) (place word : ℕ) → FoundAt before more place word
    → FoundAt before (more ++ other) place word
found_longer before more other place word h = record {
  finds = h.finds;
  noted = Contains-append_left more other (place, word) h.noted;
}

within-append : (first place last : ℕ) (more other : List (ℕ × ℕ)) → WithinPlaces first place more → WithinPlaces last last other
    → first ≤ last → place ≤ last → WithinPlaces first last (more ++ other)
within-append first place last more other h k low high note n = elim (Contains-append_cases more other note n) [
  | inl e ↦ let f = h note e in (f.0, omega (arith, f.1))
  | inr e ↦ let f = k note e in (omega (arith, f.0), f.1)
]

passes-longer : (before : View) (job attempts rev : ℕ) (more other : List (ℕ × ℕ)) → PassesErrors before job attempts rev more
    → PassesErrors before job attempts rev (more ++ other)
passes-longer before job attempts rev more other h = record {
  within = h.within;
  errors = λ r k. found_longer before more other (place_of job r) 5 (h.errors r k);
}

noting-append : (before : View) (more other : List (ℕ × ℕ)) → noting (noting before more) other ≡ noting before (more ++ other)
noting-append before more other =
    let V : List (ℕ × ℕ) → View = λ notes. record before { notes = notes } in
    ap V (append_assoc before.notes more other)

-- past one more error
pub passed-more : (before now after : View) (job attempts rev : ℕ) (status : Status) → Passed before job attempts rev now
    → StopsPlace now (place_of job rev) (Some status) after → status ≡ Error → rev + 1 < attempts
    → Passed before job attempts (rev + 1) after
passed-more before now after job attempts rev status h t e low =
    let S : Status → Type 0 = λ v. StopsPlace now (place_of job rev) (Some v) after in
    let s : StopsPlace now (place_of job rev) (Some Error) after = subst S e t in
    let F : View → Type 0 = λ v. FoundAt v s.0 (place_of job rev) 5 in
    let A : View → View = λ v. noting v s.0 in
    let here = found_before before h.more s.0 (place_of job rev) 5 (subst F h.is s.1.found) in
    record {
      more = h.more ++ s.0;
      passes = record {
        within = low;
        errors = below_more (λ r. FoundAt before (h.more ++ s.0) (place_of job r) 5) rev
            (λ r k. found_longer before h.more s.0 (place_of job r) 5 (h.passes.errors r k)) here;
      };
      within = λ note k. let f = within-append (place_of job 0) (place_of job rev) (place_of job rev) h.more s.0 h.within s.1.within
          (omega arith) (omega arith) note k in (f.0, omega (arith, f.1));
      is = s.1.same ∙ ap A h.is ∙ noting-append before h.more s.0;
    }

-- an earlier error lets the next revision open
pub passed-opens : (before now : View) (job attempts rev : ℕ) → Passed before job attempts rev now → OpensAfterError now job rev 0
passed-opens before now job attempts rev h e low =
    let F : View → Type 0 = λ v. Noted v.notes (place_of job (rev - 1)) 5 in
    subst F (sym h.is) (Contains-append_right before.notes h.more (place_of job (rev - 1), 5)
    (h.passes.errors (rev - 1) (omega (arith, low))).noted)

-- the end of a stop
pub passed-final : (before now after : View) (job attempts rev : ℕ) (status : Status) → Passed before job attempts rev now
    → StopsPlace now (place_of job rev) (Some status) after → (status ≡ Error → attempts ≤ rev + 1)
    → Stops before job attempts (Final rev status) after
passed-final before now after job attempts rev status h s last =
    let F : View → Type 0 = λ v. FoundAt v s.0 (place_of job rev) (word_of (At status)) in
    let A : View → View = λ v. noting v s.0 in (
      h.more ++ s.0,
      passes-longer before job attempts rev h.more s.0 h.passes,
      record {
        final = s.1.final;
        found = found_before before h.more s.0 (place_of job rev) (word_of (At status)) (subst F h.is s.1.found);
        within = within-append (place_of job 0) (place_of job rev) (place_of job rev) h.more s.0 h.within s.1.within (omega arith) (omega arith);
        same = s.1.same ∙ ap A h.is ∙ noting-append before h.more s.0;
      },
      last,
    )

pub passed-moved : (before now after : View) (job attempts rev : ℕ) → Passed before job attempts rev now
    → StopsPlace now (place_of job rev) None after → Stops before job attempts (Stopped rev) after
passed-moved before now after job attempts rev h s =
    let F : View → Type 0 = λ v. FoundAt v s.0 (place_of job rev) s.1.word in
    let A : View → View = λ v. moving (noting v s.0) (place_of job rev) s.1.word 4 in
    let M : View → View = λ v. moving v (place_of job rev) s.1.word 4 in (
      h.more ++ s.0,
      passes-longer before job attempts rev h.more s.0 h.passes,
      record {
        word = s.1.word;
        unfinished = s.1.unfinished;
        found = found_before before h.more s.0 (place_of job rev) s.1.word (subst F h.is s.1.found);
        within = within-append (place_of job 0) (place_of job rev) (place_of job rev) h.more s.0 h.within s.1.within (omega arith) (omega arith);
        moved = s.1.moved ∙ ap A h.is ∙ ap M (noting-append before h.more s.0);
      },
    )
