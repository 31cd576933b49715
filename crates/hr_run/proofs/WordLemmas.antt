-- What holds of words, entries and hooks.
use Rattle.std.proofs.Common.{◌≡◌, inl, inr, refl, sym, ap, subst, ◌∙◌, zero, suc, ℕ, ◌+◌, ◌≤◌, Bool, cond, ◌&&◌, List, [], ◌∷◌, eq-eqb, arith}
use Rattle.std.proofs.lemmas.Bool.Decides.{eqb_tells, nat_tests}
use Rattle.std.proofs.lemmas.List.Sums.{sum_by-cons}
use Rattle.std.specs.Prelude.{Option, Some, None, IfSome, IsSome, nat_eq, nat_le}
use Rattle.std.specs.List.{Contains, cons_option, filter_map, sum_by}
use Rattle.hr_base.specs.declared.status.Hook.{Hook}
use Rattle.hr_base.specs.declared.status.Status.{Status}
use Rattle.hr_event.specs.declared.cause.Cause.{Cause}
use Rattle.hr_event.specs.declared.entry.Entry.{Entry}
use Rattle.hr_event.specs.declared.entry.What.{What}
use Rattle.hr_event.specs.declared.entry.What.TheVariants as what
use Rattle.hr_board.specs.Moves.{Below}
use Rattle.hr_board.specs.View.{Noted, Place, Word, place_of}
use Rattle.hr_line.specs.Finals.{EndHolds, SaysEnd}
use Rattle.hr_line.specs.Hooks.{hook_from}
use Rattle.hr_line.specs.Orderly.{admitted_at}
use Rattle.hr_line.specs.State.{State}
use Rattle.hr_line.specs.declared.held.Admitted.{Admitted}
use Rattle.hr_run.specs.Claims.{AllConfirmed, OneEach, OneFinal, ends_at, word_at}
use Rattle.hr_run.specs.Holds.{Holds, IsCovered, IsEmitted, IsServing}
use Rattle.hr_run.specs.State.{CoreState, hook_place, status_word}
use Rattle.hr_run.specs.Weight.{at, entry_weight, final_weight, lane_weight, one_if, some_weight, stop_weight}
use Rattle.hr_run.proofs.ListLemmas.{all_member, each_zero, sum_same, sum_zero, there_first, there_later}
use Rattle.hr_run.proofs.MarkLemmas.{covers_later, final_covered}

-- ---- entries and their hooks

cons_has : {Y : Type 0} (o : Option Y) (ys : List Y) (y : Y) → o ≡ Some y → Contains (cons_option o ys) y
cons_has None ys y e = absurd (cc)
cons_has (Some z) ys y e = let same : z ≡ y = cc in subst (λ x. Contains (z ∷ ys) x) same (there_first z ys)

cons_keeps : {Y : Type 0} (o : Option Y) (ys : List Y) (y : Y) → Contains ys y → Contains (cons_option o ys) y
cons_keeps None ys y c = c
cons_keeps (Some z) ys y c = there_later z y ys c

filter_has : {X Y : Type 0} (f : X → Option Y) (xs : List X) (x : X) (y : Y) → Contains xs x → f x ≡ Some y
    → Contains (filter_map f xs) y
filter_has f [] x y c e = absurd (omega (arith, c.1))
filter_has f (z ∷ xs) x y (zero, l, is) e = cons_has (f z) (filter_map f xs) y (ap f is ∙ e)
filter_has f (z ∷ xs) x y (suc k, l, is) e = cons_keeps (f z) (filter_map f xs) y (filter_has f xs x y (k, omega (arith, l), is) e)

cons_weight : (g : Hook → ℕ) (o : Option Hook) (hooks : List Hook) → sum_by g (cons_option o hooks) ≡ some_weight g o + sum_by g hooks
cons_weight g None hooks = omega arith
cons_weight g (Some hook) hooks = sum_by-cons g hook hooks

-- entries weigh what their hooks do
log_weight : (g : Hook → ℕ) (log : List Entry) → sum_by g (filter_map (λ e. hook_from e.job e.rev e.what) log) ≡ sum_by (entry_weight g) log
log_weight g [] = refl
log_weight g (e ∷ log) =
    let a = cons_weight g (hook_from e.job e.rev e.what) (filter_map (λ (x : Entry). hook_from x.job x.rev x.what) log) in
    let b = sum_by-cons (entry_weight g) e log in
    let c = log_weight g log in
    omega (arith, a, b, c)

-- a revision ends with success or an error
end_final : (a : Admitted) (log : List Entry) (st : Status) (cause : Option Cause) → EndHolds a log st cause → 4 ≤ status_word st
end_final a log st None h = subst (λ (x : Status). 4 ≤ status_word x) (sym h.0) (omega arith)
end_final a log st (Some why) h = subst (λ (x : Status). 4 ≤ status_word x) (sym h) (omega arith)

entry_final : (s : CoreState) → Holds s → (lane : State) (e : Entry) (st : Status) (cause : Option Cause) → Contains s.lanes lane
    → Contains lane.log e → e.what ≡ what.Ended st cause → 4 ≤ status_word st
entry_final s o lane e st cause c d w =
    let was = all_member (IsServing s.made _) s.lanes lane o.lanes c in
    let ends = all_member (λ (x : Entry). IfSome (admitted_at lane.admitted x.job.0 x.rev) (λ a. SaysEnd a lane.log x.what)) lane.log e was.ends.logged d in
    let some = all_member (λ (x : Entry). IsSome (admitted_at lane.admitted x.job.0 x.rev)) lane.log e was.orderly.logged d in
    by (admitted_at lane.admitted e.job.0 e.rev) ends some
  where
    by : (found : Option Admitted) → IfSome found (λ a. SaysEnd a lane.log e.what) → IsSome found → 4 ≤ status_word st
    by None ends some = absurd (cc)
    by (Some a) ends some =
        let W : What → Type 0 = λ x. SaysEnd a lane.log x in end_final a lane.log st cause (subst W w ends)

-- ---- weights

abbrev zero_if : Bool → ℕ
zero_if b = cond b 0 1

-- 1 at a note that isn't the word
abbrev wrong : CoreState → Place × Word → ℕ
wrong s n = zero_if (nat_eq (word_at s.board n.0) n.1)

right : (m n : ℕ) → zero_if (nat_eq m n) ≡ 0 → m ≡ n
right m n e = grind (arith, nat_tests)

right_is : (m n : ℕ) → m ≡ n → zero_if (nat_eq m n) ≡ 0
right_is m n e = grind (arith, nat_tests)

weigh_final : (x w : ℕ) → 4 ≤ w → cond (nat_le 4 w) x 0 ≡ x
weigh_final x w f = grind (arith, nat_tests)

none_wrong : (s : CoreState) → Holds s → sum_by (wrong s) s.board.past.finals ≡ 0
none_wrong s o = sum_zero (wrong s) s.board.past.finals
    (λ n c. right_is (word_at s.board n.0) n.1 (o.lawful.final_moves n.0 n.1 c).1)

entries_right : (s : CoreState) → Holds s → (lane : State) (e : Entry) (st : Status) (cause : Option Cause) → Contains s.lanes lane
    → Contains lane.log e → e.what ≡ what.Ended st cause → word_at s.board (place_of e.job.0 e.rev) ≡ status_word st
entries_right s o lane e st cause c d w =
    let G : Hook → ℕ = final_weight (wrong s) in
    let a = none_wrong s o in
    let b = o.finals (wrong s) in
    let sh = o.shares G in
    let l = each_zero (lane_weight G) s.lanes lane (omega (arith, a, b, sh)) c in
    let was = all_member (IsServing s.made _) s.lanes lane o.lanes c in
    let hook : Hook = record { job = e.job; rev = e.rev; status = st } in
    let F : What → Option Hook = λ x. hook_from e.job e.rev x in
    let there = filter_has (λ (x : Entry). hook_from x.job x.rev x.what) lane.log e hook d (ap F w) in
    let in_hooks = subst (λ (hs : List Hook). Contains hs hook) (sym was.hooks) there in
    let k = each_zero G lane.hooks hook l in_hooks in
    let f = entry_final s o lane e st cause c d w in
    right (word_at s.board (place_of e.job.0 e.rev)) (status_word st)
    (sym (weigh_final (wrong s (place_of e.job.0 e.rev, status_word st)) (status_word st) f) ∙ k)

below_of : (s : CoreState) → Holds s → (place word : ℕ) → Noted s.board.past.notes place word → Below word (word_at s.board place)
below_of s o place word n = o.lawful.notes_below place word n

emitted_right : (s : CoreState) → Holds s → (h : Hook) → Contains s.hooks h → 4 ≤ status_word h.status
    → word_at s.board (hook_place h) ≡ status_word h.status
emitted_right s o h c f =
    let e = all_member (IsEmitted s.made s.board.past.notes) s.hooks h o.emitted c in
    (below_of s o (hook_place h) (status_word h.status) e.noted).2 f

pub all_confirmed : (s : CoreState) → Holds s → AllConfirmed s
all_confirmed s o job heard h e c =
    let a = all_member (IsCovered s.board.past.notes job) heard h (o.received job heard e) c in
    record {
      of_job = a.of_job;
      small = a.small;
      covered = covers_later h.status a.word (word_at s.board (hook_place h)) a.covers (below_of s o (hook_place h) a.word a.noted);
    }

pub one_final : (s : CoreState) → Holds s → OneFinal s
one_final s o = record {
  entries = entries_right s o;
  emitted = emitted_right s o;
  received = λ job heard h e c f. final_covered h.status (word_at s.board (hook_place h)) f (all_confirmed s o job heard h e c).covered;
  opened = o.lawful.opened_after_error;
}

-- ---- a final word has one final move

at_word : (m p w v : ℕ) → (m ≡ p → v ≡ w) → one_if (nat_eq m p && nat_eq v w) ≡ one_if (nat_eq m p)
at_word m p w v h = elim (eqb_tells m p) [
  | inl e ↦ (let k = eq-eqb v w (h e.1) in rw (e.0, k) refl)
  | inr e ↦ rw e.0 refl
]

pub one_move : (s : CoreState) → Holds s → (place : ℕ) → 4 ≤ word_at s.board place
    → sum_by (at place (word_at s.board place)) s.board.past.finals ≡ 1
one_move s o place f =
    let w = word_at s.board place in
    let G : ℕ → ℕ = word_at s.board in
    let same = sum_same (at place w) (λ n. one_if (nat_eq n.0 place)) s.board.past.finals
    (λ n c. at_word n.0 place w n.1 (λ e. sym (o.lawful.final_moves n.0 n.1 c).1 ∙ ap G e)) in
    let one = (o.lawful.finals_once place).1 f in
    same ∙ one

abbrev nat_if : Bool → ℕ → ℕ
nat_if b n = cond b n 0

stop_none : (v p place w : ℕ) → 5 ≤ w → nat_if (nat_eq v 4) (nat_if (nat_le 4 v) (one_if (nat_eq p place && nat_eq v w))) ≡ 0
stop_none v p place w f = grind (arith, nat_tests)

no_stop : (h : Hook) (place w : ℕ) → 5 ≤ w → stop_weight (final_weight (at place w)) h ≡ 0
no_stop h place w f = stop_none (status_word h.status) (hook_place h) place w f

pub one_each : (s : CoreState) → Holds s → OneEach s
one_each s o = record {
  told = λ place f. (let a = one_move s o place f in
      let b = o.finals (at place (word_at s.board place)) in sym b ∙ a);
  ended = λ place f. (
      let w = word_at s.board place in
      let G : Hook → ℕ = final_weight (at place w) in
      let a = one_move s o place (omega (arith, f)) in
      let b = o.finals (at place w) in
      let sh = o.shares G in
      let c = sum_zero (stop_weight G) s.hooks (λ h k. no_stop h place w f) in
      let d = sum_same (lane_weight G) (ends_at place w) s.lanes (λ lane k.
      (let was = all_member (IsServing s.made _) s.lanes lane o.lanes k in ap (sum_by G) was.hooks ∙ log_weight G lane.log)) in
      omega (arith, a, b, sh, c, d));
}
