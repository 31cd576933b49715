-- Lemmas on the words of specs/Gains.antt.
use Rattle.std.proofs.Common.{◌≡◌, ℕ, ◌+◌, ◌<◌, ◌≤◌, inl, inr, List, [], ◌∷◌, ◌++◌, refl, sym, ap, ◌∙◌, subst, append_assoc, arith}
use Rattle.std.proofs.lemmas.Bool.{eqb-true}
use Rattle.std.proofs.lemmas.List.{append-nil}
use Rattle.std.proofs.lemmas.List.Elements.{Contains-append_left, Contains-push}
use Rattle.std.specs.List.{AllByRecursion, Contains}
use Rattle.std.specs.Prelude.{nat_eq}
use Rattle.hr_base.specs.declared.number.JobNo.{JobNo}
use Rattle.hr_base.specs.declared.status.Mark.TheVariants.{At}
use Rattle.hr_base.specs.declared.status.Status.{Status}
use Rattle.hr_base.specs.declared.status.Status.TheVariants as status
use Rattle.hr_base.specs.Status.{word_of, IsFinal}
use Rattle.hr_board.specs.Over.{EndsJob, WasOver}
use Rattle.hr_board.specs.View as board
use Rattle.hr_board.specs.View.{Place, Word, Notes, Noted, Keeps, noting, moving, finals_with, opens_with, place_of}
use Rattle.hr_event.specs.declared.task.Turn.{Turn}
use Rattle.hr_queue.specs.declared.answer.DoneJob.{DoneJob}
use Rattle.hr_queue.specs.declared.answer.Queued.{Queued}
use Rattle.hr_queue.specs.declared.answer.Settled.{Settled}
use Rattle.hr_queue.specs.declared.answer.Taken.{Taken}
use Rattle.hr_queue.specs.declared.answer.Taken.TheVariants as taken
use Rattle.hr_queue.specs.declared.delayed.Delayed.{Delayed}
use Rattle.hr_queue.specs.declared.fate.Fate.{Fate}
use Rattle.hr_queue.specs.declared.fate.Fate.TheVariants as fate
use Rattle.hr_queue.specs.Adding.{Adds, AddsOne, IsFit, first_place}
use Rattle.hr_queue.specs.ByJob.{rank}
use Rattle.hr_queue.specs.Fate.{IsFate, OpensNext, place_after}
use Rattle.hr_queue.specs.Gains.{IsDone, MayOpen, Gains, Agrees, times_listed}
use Rattle.hr_queue.specs.Settling.{Goes, Settles}
use Rattle.hr_queue.specs.Taking.{Takes}
use Rattle.hr_queue.specs.View.{View, AreDistinct, empty_queue, times_in, times_delayed}
use Rattle.hr_queue.specs.Whole.{IsTurn, IsAdded, IsWhole}
use Rattle.hr_queue.proofs.AddingLemmas.{keeps_itself, keeps_after}
use Rattle.hr_queue.proofs.ByJobLemmas.{held_at}
use Rattle.hr_queue.proofs.ListLemmas.{all-append, all-at, all-pushed, all-weaker, found, once, one_of}
use Rattle.hr_queue.proofs.WholeLemmas.{out_turn, out_added}

-- a board that moved nothing itself
record Looked (b c : board.View) : Type 0 where
  kept : Keeps b c
  finals : c.finals ≡ b.finals
  opens : c.opens ≡ b.opens

looked : (b c : board.View) (more : Notes) → c ≡ noting b more → Looked b c
looked b c more after = record {
  kept = record {
    jobs = ap (λ (v : board.View). v.jobs) after;
    allows = ap (λ (v : board.View). v.allows) after;
    more = more;
    notes = ap (λ (v : board.View). v.notes) after;
  };
  finals = ap (λ (v : board.View). v.finals) after;
  opens = ap (λ (v : board.View). v.opens) after;
}

looked_after : (b d c : board.View) → Looked b d → Looked d c → Looked b c
looked_after b d c first second = record {
  kept = keeps_after b d c first.kept second.kept;
  finals = second.finals ∙ first.finals;
  opens = second.opens ∙ first.opens;
}

-- a board that opened one word
record Opened (b : board.View) (place : Place) (c : board.View) : Type 0 where
  kept : Keeps b c
  finals : c.finals ≡ b.finals
  opens : c.opens ≡ b.opens ++ place ∷ []

opened : (b c : board.View) (place : Place) (to : Word) → finals_with b.finals place to ≡ b.finals
    → opens_with b.opens place 0 to ≡ b.opens ++ place ∷ [] → c ≡ moving b place 0 to
    → Opened b place c
opened b c place to no_final opens after = record {
  kept = record {
    jobs = ap (λ (v : board.View). v.jobs) after;
    allows = ap (λ (v : board.View). v.allows) after;
    more = (place, to) ∷ [];
    notes = ap (λ (v : board.View). v.notes) after;
  };
  finals = ap (λ (v : board.View). v.finals) after ∙ no_final;
  opens = ap (λ (v : board.View). v.opens) after ∙ opens;
}

-- a call that adds and ends nothing, and only looks
quiet : (q r : View) (b c : board.View) → r.added ≡ q.added → r.done ≡ q.done → Looked b c
    → Gains q b [] r c
quiet q r b c added done looks = record {
  added = added ∙ sym (append-nil q.added);
  kept = looks.kept;
  finals = looks.finals;
  places = [];
  opens = looks.opens ∙ sym (append-nil b.opens);
  may = tt;
  ended = [];
  done = done ∙ sym (append-nil q.done);
  over = tt;
}

nothing : (b : board.View) → Looked b b
nothing b = record { kept = keeps_itself b; finals = refl; opens = refl }

pub none : (q : View) (b : board.View) → Gains q b [] q b
none q b = quiet q q b b refl refl (nothing b)

-- what was known of jobs and notes is known of more
done-later : (added more : List Queued) (b c : board.View) (adds : List Queued) → adds ≡ added ++ more
    → Keeps b c → (over : DoneJob) → IsDone added b.notes over → IsDone adds c.notes over
done-later added more b c adds is kept over done = record {
  attempts = done.attempts;
  known = (
      let P : List Queued → Type 0 = λ js. Contains js (record { job = over.job; attempts = done.attempts }) in
      subst P (sym is) (Contains-append_left added more (record { job = over.job; attempts = done.attempts }) done.known));
  few = done.few;
  within = done.within;
  noted = (
      let place = place_of over.job.0 over.rev in
      let word = word_of (At over.status) in
      let P : Notes → Type 0 = λ ns. Noted ns place word in
      subst P (sym kept.notes) (Contains-append_left b.notes kept.more (place, word) done.noted));
  ends = done.ends;
}

may-later : (added more adds : List Queued) → adds ≡ added ++ more → (place : Place)
    → MayOpen added place → MayOpen adds place
may-later added more adds is place may = record {
  job = may.job;
  known = (
      let P : List Queued → Type 0 = λ js. Contains js may.job in
      subst P (sym is) (Contains-append_left added more may.job may.known));
  few = may.few;
  rev = may.rev;
  within = may.within;
  is = may.is;
}

pub both : (q m r : View) (b d c : board.View) (jobs more : List Queued) → Gains q b jobs m d
    → Gains m d more r c → Gains q b (jobs ++ more) r c
both q m r b d c jobs more first second =
    let F : List Queued → List Queued = λ js. js ++ more in
    let G : List Place → List Place = λ ps. ps ++ second.places in
    let H : List DoneJob → List DoneJob = λ ds. ds ++ second.ended in
    record {
      added = second.added ∙ ap F first.added ∙ append_assoc q.added jobs more;
      kept = keeps_after b d c first.kept second.kept;
      finals = second.finals ∙ first.finals;
      places = first.places ++ second.places;
      opens = second.opens ∙ ap G first.opens ∙ append_assoc b.opens first.places second.places;
      may = all-append (MayOpen r.added) first.places second.places
          (all-weaker (MayOpen m.added) (MayOpen r.added) (may-later m.added more r.added second.added)
          first.places first.may)
          second.may;
      ended = first.ended ++ second.ended;
      done = second.done ∙ ap H first.done ∙ append_assoc q.done first.ended second.ended;
      over = all-append (IsDone r.added c.notes) first.ended second.ended
          (all-weaker (IsDone m.added d.notes) (IsDone r.added c.notes)
          (done-later m.added more d c r.added second.added second.kept) first.ended first.over)
          second.over;
    }

-- a take adds nothing
pub take_gains : (now : ℕ) (q r : View) (b : board.View) (answer : Taken) → Takes now q answer r
    → Gains q b [] r b
take_gains now q r b (taken.Turn turn) (inl takes) =
    quiet q r b b (ap (λ (v : View). v.added) takes.after) (ap (λ (v : View). v.done) takes.after) (nothing b)
take_gains now q r b (taken.Turn turn) (inr takes) =
    quiet q r b b (ap (λ (v : View). v.added) takes.after) (ap (λ (v : View). v.done) takes.after) (nothing b)
take_gains now q r b (taken.Later due) takes =
    quiet q r b b (ap (λ (v : View). v.added) takes.0) (ap (λ (v : View). v.done) takes.0) (nothing b)
take_gains now q r b (taken.Busy out) takes =
    quiet q r b b (ap (λ (v : View). v.added) takes.0) (ap (λ (v : View). v.done) takes.0) (nothing b)
take_gains now q r b taken.Idle takes =
    quiet q r b b (ap (λ (v : View). v.added) takes.0) (ap (λ (v : View). v.done) takes.0) (nothing b)

-- an added job may open its revision 0
may-first : (q r : View) (job : Queued) → r.added ≡ q.added ++ job ∷ [] → (jobs : ℕ) → IsFit jobs job
    → MayOpen r.added (first_place job)
may-first q r job added jobs fit = record {
  job = job;
  known = (
      let P : List Queued → Type 0 = λ js. Contains js job in
      subst P (sym added) (Contains-push q.added job));
  few = fit.3;
  rev = 0;
  within = omega (arith, fit.2);
  is = refl;
}

add_one_gains : (q r : View) (b c : board.View) (job : Queued) (jobs : ℕ) → IsFit jobs job
    → AddsOne q b job r c → Gains q b (job ∷ []) r c
add_one_gains q r b c job jobs fit adds =
    let added = ap (λ (v : View). v.added) adds.after in
    let done = ap (λ (v : View). v.done) adds.after in
    elim adds.opens [
      | inl opens ↦ (
          let one = opened b c (first_place job) 1 refl refl opens.after in
          record {
            added = added;
            kept = one.kept;
            finals = one.finals;
            places = first_place job ∷ [];
            opens = one.opens;
            may = (may-first q r job added jobs fit, tt);
            ended = [];
            done = done ∙ sym (append-nil q.done);
            over = tt;
          })
      | inr finds ↦ (
          let looks = looked b c ((first_place job, word_of finds.mark) ∷ []) finds.after in
          record {
            added = added;
            kept = looks.kept;
            finals = looks.finals;
            places = [];
            opens = looks.opens ∙ sym (append-nil b.opens);
            may = tt;
            ended = [];
            done = done ∙ sym (append-nil q.done);
            over = tt;
          })
    ]

add_gains_in_order : (q : View) (b : board.View) (r : View) (c : board.View) (jobs : List Queued)
    (count : ℕ) → AllByRecursion (IsFit count) jobs → Adds q b jobs r c → Gains q b jobs r c
add_gains_in_order q b r c jobs count fit Adds.none_yet = none q b
add_gains_in_order q b r c jobs count fit (Adds.one_more front job m s d e before one) =
    let parts = all-pushed (IsFit count) front job fit in
    both q m s b d e front (job ∷ []) (add_gains_in_order q b m d front count parts.0 before)
    (add_one_gains m s d e job count parts.1 one)

pub add_gains : (q r : View) (b c : board.View) (jobs : List Queued)
    → AllByRecursion (IsFit b.jobs) jobs → Adds q b jobs r c → Gains q b jobs r c
add_gains q r b c jobs fit adds = add_gains_in_order q b r c jobs b.jobs fit adds

-- a final status ends a job where it is no error with an attempt left
ends : (attempts rev : ℕ) (how : Status) → rev < attempts → IsFinal how
    → (how ≡ status.Error → attempts ≤ rev + 1) → EndsJob attempts (rev, how)
ends attempts rev status.Pending within final last = absurd (omega (arith, final))
ends attempts rev status.Scheduled within final last = absurd (omega (arith, final))
ends attempts rev status.Running within final last = absurd (omega (arith, final))
ends attempts rev status.Stopped within final last = inr (inl refl)
ends attempts rev status.Error within final last =
    let least = last refl in inr (inr (refl, omega (arith, within, least)))
ends attempts rev status.Success within final last = inl refl

last_noted : (b c : board.View) (place : Place) (word : Word) → c.notes ≡ b.notes ++ (place, word) ∷ []
    → Noted c.notes place word
last_noted b c place word notes =
    let P : Notes → Type 0 = λ ns. Noted ns place word in
    subst P (sym notes) (Contains-push b.notes (place, word))

-- a turn that ended its job
over_gains : (q r : View) (b c : board.View) (t : Turn) (over : DoneJob) → IsTurn t
    → IsAdded q.added t → r.added ≡ q.added → r.done ≡ q.done ++ over ∷ [] → Looked b c
    → over.job ≡ t.job → over.rev < t.attempts
    → Noted c.notes (place_of t.job.0 over.rev) (word_of (At over.status))
    → EndsJob t.attempts (over.rev, over.status) → Gains q b [] r c
over_gains q r b c t over good known added done looks same within noted ends = record {
  added = added ∙ sym (append-nil q.added);
  kept = looks.kept;
  finals = looks.finals;
  places = [];
  opens = looks.opens ∙ sym (append-nil b.opens);
  may = tt;
  ended = over ∷ [];
  done = done;
  over = (
    record {
      attempts = t.attempts;
      known = (
          let P : List Queued → Type 0 = λ js. Contains js (record { job = t.job; attempts = t.attempts }) in
          let Q : JobNo → Type 0 = λ j. Contains r.added (record { job = j; attempts = t.attempts }) in
          subst Q (sym same) (subst P (sym added) known));
      few = good.attempts;
      within = within;
      noted = (
          let R : JobNo → Type 0 = λ j. Noted c.notes (place_of j.0 over.rev) (word_of (At over.status)) in
          subst R (sym same) noted);
      ends = ends;
    },
    tt,
  );
}

next_gains : (q r : View) (b c : board.View) (t : Turn) → IsTurn t → IsAdded q.added t
    → r.added ≡ q.added → r.done ≡ q.done → OpensNext b t c → Gains q b [] r c
next_gains q r b c t good known added done next =
    let before = looked b next.mid ((place_of t.job.0 t.rev, 5) ∷ []) next.looks.after in
    elim next.opens [
      | inl opens ↦ (
          let one = opened next.mid c (place_after t) 2 refl refl opens.after in
          let F : List Place → List Place = λ ps. ps ++ place_after t ∷ [] in
          let P : List Queued → Type 0 = λ js. Contains js (record { job = t.job; attempts = t.attempts }) in
          record {
            added = added ∙ sym (append-nil q.added);
            kept = keeps_after b next.mid c before.kept one.kept;
            finals = one.finals ∙ before.finals;
            places = place_after t ∷ [];
            opens = one.opens ∙ ap F before.opens;
            may = (
              record {
                job = record { job = t.job; attempts = t.attempts };
                known = subst P (sym added) known;
                few = good.attempts;
                rev = t.rev + 1;
                within = next.left;
                is = refl;
              },
              tt,
            );
            ended = [];
            done = done ∙ sym (append-nil q.done);
            over = tt;
          })
      | inr finds ↦ quiet q r b c added done (looked_after b next.mid c before
          (looked next.mid c ((place_after t, word_of finds.0) ∷ []) finds.2.after))
    ]

goes_gains : (now : ℕ) (q r : View) (b c : board.View) (t : Turn) (what : Fate) (answer : Settled)
    → IsTurn t → IsAdded q.added t → IsFate b t what c → Goes now q t what answer r
    → Gains q b [] r c
goes_gains now q r b c t fate.Unfinished answer good known fate goes = quiet q r b c
    (ap (λ (v : View). v.added) goes.1) (ap (λ (v : View). v.done) goes.1)
    (looked b c ((place_of t.job.0 t.rev, word_of fate.mark) ∷ []) fate.looks.after)
goes_gains now q r b c t (fate.Over rev status) answer good known (inl fate) goes =
    let looks = looked b c ((place_of t.job.0 t.rev, word_of (At status)) ∷ []) fate.looks.after in
    let noted = last_noted b c (place_of t.job.0 t.rev) (word_of (At status))
    (ap (λ (v : board.View). v.notes) fate.looks.after) in
    let P : ℕ → Type 0 = λ k. Noted c.notes (place_of t.job.0 k) (word_of (At status)) in
    let within : rev < t.attempts = omega (arith, fate.at, good.rev) in
    over_gains q r b c t (record { job = t.job; rev = rev; status = status }) good known
    (ap (λ (v : View). v.added) goes.1) (ap (λ (v : View). v.done) goes.1) looks refl within
    (subst P (sym fate.at) noted) (ends t.attempts rev status within fate.final fate.last)
goes_gains now q r b c t (fate.Over rev status) answer good known (inr fate) goes =
    let first = looked b fate.mid ((place_of t.job.0 t.rev, 5) ∷ []) fate.looks.after in
    let second = looked fate.mid c ((place_after t, 4) ∷ []) fate.found.after in
    let noted = last_noted fate.mid c (place_after t) 4
    (ap (λ (v : board.View). v.notes) fate.found.after) in
    let P : ℕ → Type 0 = λ k. Noted c.notes (place_of t.job.0 k) 4 in
    let Q : Status → Type 0 = λ s. Noted c.notes (place_of t.job.0 rev) (word_of (At s)) in
    over_gains q r b c t (record { job = t.job; rev = rev; status = status }) good known
    (ap (λ (v : View). v.added) goes.1) (ap (λ (v : View). v.done) goes.1)
    (looked_after b fate.mid c first second) refl fate.left
    (subst Q (sym fate.stopped) (subst P (sym fate.at) noted)) (inr (inl fate.stopped))
goes_gains now q r b c t fate.Next answer good known fate goes = next_gains q r b c t good known
    (ap (λ (v : View). v.added) goes.3) (ap (λ (v : View). v.done) goes.3) fate

pub settle_gains : (now : ℕ) (q r : View) (b c : board.View) (turn : Turn) (answer : Settled)
    → IsWhole q → Settles now q b turn answer r c → Gains q b [] r c
settle_gains now q r b c turn answer whole (inl none_out) =
    let P : board.View → Type 0 = λ v. Looked b v in
    quiet q r b c (ap (λ (v : View). v.added) none_out.stays) (ap (λ (v : View). v.done) none_out.stays)
    (subst P (sym none_out.same) (nothing b))
settle_gains now q r b c turn answer whole (inr settles) =
    let t = settles.held in
    let stands = held_at q.out turn t (rank turn.job.0 q.out) refl settles.out in
    goes_gains now q r b c t settles.what answer (out_turn _ _ _ _ _ _ _ whole stands)
    (out_added _ _ _ _ _ _ _ whole stands) settles.fate settles.goes

-- a queue and its board agree
pub agrees_new : (b : board.View) → b.opens ≡ [] → Agrees empty_queue b
agrees_new b none_open =
    let P : List Place → Type 0 = λ ps. AllByRecursion (MayOpen []) ps in
    record { over = tt; may = subst P (sym none_open) tt }

pub agrees_after : (q r : View) (b c : board.View) (jobs : List Queued) → Agrees q b
    → Gains q b jobs r c → Agrees r c
agrees_after q r b c jobs agrees gains =
    let P : List DoneJob → Type 0 = λ ds. AllByRecursion (IsDone r.added c.notes) ds in
    let Q : List Place → Type 0 = λ ps. AllByRecursion (MayOpen r.added) ps in
    record {
      over = subst P (sym gains.done) (all-append (IsDone r.added c.notes) q.done gains.ended
          (all-weaker (IsDone q.added b.notes) (IsDone r.added c.notes)
          (done-later q.added jobs b c r.added gains.added gains.kept) q.done agrees.over)
          gains.over);
      may = subst Q (sym gains.opens) (all-append (MayOpen r.added) b.opens gains.places
          (all-weaker (MayOpen q.added) (MayOpen r.added)
          (may-later q.added jobs r.added gains.added) b.opens agrees.may)
          gains.may);
    }

pub agrees_still : (q : View) (b c : board.View) → Agrees q b → Keeps b c → c.opens ≡ b.opens
    → Agrees q c
agrees_still q b c agrees kept opens =
    let P : List Place → Type 0 = λ ps. AllByRecursion (MayOpen q.added) ps in
    record {
      over = all-weaker (IsDone q.added b.notes) (IsDone q.added c.notes)
          (done-later q.added [] b c q.added (sym (append-nil q.added)) kept) q.done agrees.over;
      may = subst P (sym opens) agrees.may;
    }

-- a done job was over
was_over : (added : List Queued) (notes : Notes) (over : DoneJob) (done : IsDone added notes over)
    → WasOver notes over.job.0 done.attempts
was_over added notes over done = record {
  row = (over.rev, over.status);
  within = done.within;
  noted = done.noted;
  ends = done.ends;
}

pub done_over : (added : List Queued) (notes : Notes) (over : DoneJob) → IsDone added notes over
    → (attempts : ℕ) × Contains added (record { job = over.job; attempts = attempts })
    × WasOver notes over.job.0 attempts
done_over added notes over done = (done.attempts, done.known, was_over added notes over done)

-- an added job stands in one list, once
pub listed_once : (q : View) (job : Queued) → IsWhole q → Contains q.added job
    → times_listed q job.job.0 ≡ 1
listed_once q job whole known = whole.once job.job.0 ∙ once q.added job whole.distinct known

-- where the job of a done one is an added job, that was over
over_of : (added : List Queued) (notes : Notes) (over : DoneJob) (job : Queued) → AreDistinct added
    → IsDone added notes over → Contains added job → over.job.0 ≡ job.job.0
    → WasOver notes job.job.0 job.attempts
over_of added notes over job distinct done known same =
    let ended : Queued = record { job = over.job; attempts = done.attempts } in
    let P : Queued → Type 0 = λ a. WasOver notes a.job.0 a.attempts in
    subst P (one_of added ended job distinct done.known known same)
    (was_over added notes over done)

-- where nothing is left, each added job was over
pub idle_over : (now : ℕ) (q r : View) (b : board.View) (job : Queued) → IsWhole q → Agrees q b
    → Takes now q taken.Idle r → Contains q.added job → WasOver b.notes job.job.0 job.attempts
idle_over now q r b job whole agrees takes known =
    let turns : List Turn → ℕ = λ ts. times_in ts job.job.0 in
    let delays : List Delayed → ℕ = λ ds. times_delayed ds job.job.0 in
    let none_waits = ap turns takes.2 in
    let none_delayed = ap delays takes.3.0 in
    let none_out = ap turns takes.3.1 in
    let all = listed_once q job whole known in
    let one = found (λ (d : DoneJob). nat_eq d.job.0 job.job.0) q.done
    (omega (arith, none_waits, none_delayed, none_out, all)) in
    let done = all-at (IsDone q.added b.notes) q.done one.1.0 one.0 agrees.over one.1.1 one.1.2 in
    over_of q.added b.notes one.0 job whole.distinct done known (eqb-true one.0.job.0 job.job.0 one.2)
