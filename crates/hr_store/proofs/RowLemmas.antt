-- Lemmas on received hooks and counters.
use Rattle.std.proofs.Common.{◌≡◌, ℕ, ◌+◌, ◌<◌, ◌≤◌, Bool, true, false, ◌||◌, ◌&&◌, List, [], ◌∷◌, ◌++◌, length, get_or, set, slice_get, Some, sym, ap, ◌∙◌, subst, refl, arith, rules, suc, zero, inl, inr, eq-eqb}
use Rattle.std.proofs.lemmas.Bool.Decides.{eqb_tells, leb_tells}
use Rattle.std.specs.Prelude.{nat_eq, nat_lt, ◌≢◌, ◌⊎◌, ◌↔◌, IsTrue, not, if◌then◌else◌}
use Rattle.std.specs.List.{AllByRecursion, count_by, list_any, list_all}
use Rattle.std.proofs.lemmas.List.Sums.{sum_by-cons, sum_by_push, sum_by-set}
use Rattle.hr_base.specs.declared.status.Status.{Status}
use Rattle.hr_base.specs.declared.status.Status.TheVariants as status
use Rattle.hr_base.specs.declared.status.Mark.TheVariants.{At}
use Rattle.hr_base.specs.declared.status.Hook.{Hook}
use Rattle.hr_base.specs.Status.{word_of}
use Rattle.hr_base.specs.Merge.{joined, first_greatest}
use Rattle.hr_store.specs.Execution.{CountRows, any_at, is_error, is_stopped, is_success, is_unfinished, one_if, rows_at, status_by}
use Rattle.hr_store.specs.Row.{OnceEach, RoseIf, RowState, ends_job, hook_number, is_among, is_over, row_status, same_hook, with_hook}
use Rattle.hr_event.specs.declared.view.ExecStatus.{ExecStatus}
use Rattle.hr_event.specs.declared.view.ExecStatus.TheVariants as stands

at-most-one : (b : Bool) → one_if b ≤ 1
at-most-one true = omega arith
at-most-one false = omega arith

pub count-length : {X : Type 0} (p : X → Bool) (xs : List X) → count_by p xs ≤ length xs
count-length p [] = omega arith
count-length p (x ∷ xs) =
    let c = sum_by-cons (λ y. one_if (p y)) x xs in
    let r = count-length p xs in
    let b = at-most-one (p x) in
    omega (arith, c, r, b)

-- how many hooks have a code below n
spread : ℕ → List Hook → ℕ
spread zero hs = 0
spread (suc n) hs = spread n hs + count_by (λ h. nat_eq (hook_number h) n) hs

spread-none : (n : ℕ) → spread n [] ≡ 0
unfolding spread
spread-none zero = refl
spread-none (suc n) = let r = spread-none n in omega (arith, r)

spread-cons : (n : ℕ) (h : Hook) (hs : List Hook) → (hook_number h < n → spread n (h ∷ hs) ≡ spread n hs + 1) × (n ≤ hook_number h → spread n (h ∷ hs) ≡ spread n hs)
unfolding spread
spread-cons zero h hs = (λ l. absurd (omega (arith, l)), λ l. refl)
spread-cons (suc n) h hs =
    let r = spread-cons n h hs in
    let c = sum_by-cons (λ x. one_if (nat_eq (hook_number x) n)) h hs in (
      λ l. elim (eqb_tells (hook_number h) n) [
        | inl e ↦ (let k = ap one_if e.0 in let s = r.1 (omega (arith, e.1)) in omega (arith, c, k, s))
        | inr e ↦ (let k = ap one_if e.0 in let s = r.0 (omega (arith, e.1, l)) in omega (arith, c, k, s))
      ],
      λ l. elim (eqb_tells (hook_number h) n) [
        | inl e ↦ absurd (omega (arith, e.1, l))
        | inr e ↦ (let k = ap one_if e.0 in let s = r.1 (omega (arith, l)) in omega (arith, c, k, s))
      ],
    )

spread-few : (n : ℕ) (hs : List Hook) → ((code : ℕ) → count_by (λ h. nat_eq (hook_number h) code) hs ≤ 1) → spread n hs ≤ n
unfolding spread
spread-few zero hs o = omega arith
spread-few (suc n) hs o = let r = spread-few n hs o in let k = o n in omega (arith, r, k)

small-word : (st : Status) → word_of (At st) ≤ 6
small-word status.Pending = omega arith
small-word status.Scheduled = omega arith
small-word status.Running = omega arith
small-word status.Stopped = omega arith
small-word status.Error = omega arith
small-word status.Success = omega arith

small-code : (h : Hook) → h.rev ≤ 3 → hook_number h < 24
small-code h r = let w = small-word h.status in omega (arith, r, w)

spread-all : (job : ℕ) (hs : List Hook) → AllByRecursion (λ h. (h.job.0 ≡ job) × (h.rev ≤ 3)) hs → spread 24 hs ≡ length hs
spread-all job [] a = spread-none 24
spread-all job (h ∷ hs) a =
    let r = spread-all job hs a.1 in
    let s = (spread-cons 24 h hs).0 (small-code h a.0.1) in
    omega (arith, r, s)

pub none-once : (job : ℕ) → OnceEach job []
none-once job = record { of_job = tt; once = λ code. omega arith }

at-most-24 : (job : ℕ) (hs : List Hook) → OnceEach job hs → length hs ≤ 24
at-most-24 job hs o = let a = spread-all job hs o.of_job in let b = spread-few 24 hs o.once in omega (arith, a, b)

neither : (a b : Bool) → (a || b) ≡ false → (a ≡ false) × (b ≡ false)
neither true b e = absurd (cc)
neither false b e = (refl, e)

both-true : (a b : Bool) → a ≡ true → b ≡ true → (a && b) ≡ true
both-true true b e f = f
both-true false b e f = e

word-range : (st : Status) → (1 ≤ word_of (At st)) × (word_of (At st) ≤ 6)
word-range status.Pending = (omega arith, omega arith)
word-range status.Scheduled = (omega arith, omega arith)
word-range status.Running = (omega arith, omega arith)
word-range status.Stopped = (omega arith, omega arith)
word-range status.Error = (omega arith, omega arith)
word-range status.Success = (omega arith, omega arith)

-- two hooks of one number have one revision and one word
pub same-number : (x h : Hook) → hook_number x ≡ hook_number h → (x.rev ≡ h.rev) × (word_of (At x.status) ≡ word_of (At h.status))
same-number x h e =
    let a = word-range x.status in
    let b = word-range h.status in
    (omega (arith, a.0, a.1, b.0, b.1, e), omega (arith, a.0, a.1, b.0, b.1, e))

-- two hooks with the same numbers are the same
pub same-from : (x h : Hook) → x.job.0 ≡ h.job.0 → x.rev ≡ h.rev → word_of (At x.status) ≡ word_of (At h.status) → same_hook x h ≡ true
same-from x h j r w = both-true _ _ (eq-eqb x.job.0 h.job.0 j) (both-true _ _ (eq-eqb x.rev h.rev r) (eq-eqb (word_of (At x.status)) (word_of (At h.status)) w))

-- none of a job's hooks has the number of one that is not among them
number-new : (job : ℕ) (hs : List Hook) (h : Hook) → AllByRecursion (λ x. (x.job.0 ≡ job) × (x.rev ≤ 3)) hs → h.job.0 ≡ job → is_among hs h ≡ false
    → count_by (λ x. nat_eq (hook_number x) (hook_number h)) hs ≡ 0
number-new job [] h a j e = refl
number-new job (x ∷ hs) h a j e =
    let c = sum_by-cons (λ y. one_if (nat_eq (hook_number y) (hook_number h))) x hs in
    let k = neither (same_hook x h) (is_among hs h) e in
    let r = number-new job hs h a.1 j k.1 in
    elim (eqb_tells (hook_number x) (hook_number h)) [
      | inl q ↦ absurd (let n = same-number x h q.1 in let t = same-from x h (a.0.0 ∙ sym j) n.0 n.1 in let f : true ≡ false = sym t ∙ k.0 in cc)
      | inr q ↦ (let z = ap one_if q.0 in omega (arith, c, r, z))
    ]

pub all-push : {X : Type 0} (P : X → Type 0) (xs : List X) (x : X) → AllByRecursion P xs → P x → AllByRecursion P (xs ++ x ∷ [])
all-push P [] x a h = (h, tt)
all-push P (y ∷ ys) x a h = (a.0, all-push P ys x a.1 h)

-- one more hook of the job, which is not among them
pub once-push : (job : ℕ) (hs : List Hook) (h : Hook) → OnceEach job hs → is_among hs h ≡ false → h.job.0 ≡ job → h.rev ≤ 3 → OnceEach job (hs ++ h ∷ [])
once-push job hs h o e j r = record {
  of_job = all-push (λ x. (x.job.0 ≡ job) × (x.rev ≤ 3)) hs h o.of_job (j, r);
  once = λ code.
      let p = sum_by_push (λ x. one_if (nat_eq (hook_number x) code)) hs h in
      let k = o.once code in
      elim (eqb_tells (hook_number h) code) [
        | inl s ↦ (let none = number-new job hs h o.of_job j e in
            let C : ℕ → ℕ = λ c. count_by (λ x. nat_eq (hook_number x) c) hs in
            let m = ap C s.1 in let b = at-most-one (nat_eq (hook_number h) code) in omega (arith, p, none, m, b))
        | inr s ↦ (let z = ap one_if s.0 in omega (arith, p, k, z))
      ];
}

length-push : {X : Type 0} (xs : List X) (x : X) → length (xs ++ x ∷ []) ≡ length xs + 1
length-push [] x = omega arith
length-push (y ∷ ys) x = let r = length-push ys x in omega (arith, r)

-- there is room for it
pub room-for : (job : ℕ) (hs : List Hook) (h : Hook) → OnceEach job hs → is_among hs h ≡ false → h.job.0 ≡ job → h.rev ≤ 3 → length hs < 24
room-for job hs h o e j r = let a = at-most-24 job (hs ++ h ∷ []) (once-push job hs h o e j r) in
    let l = length-push hs h in omega (arith, a, l)

pub get-at : {X : Type 0} (xs : List X) (i : ℕ) (x : X) → i < length xs → x ≡ get_or xs i x → slice_get xs i ≡ Some x
get-at [] i x l e = absurd (omega (arith, l))
get-at (y ∷ xs) zero x l e = ap Some (sym e)
get-at (y ∷ xs) (suc i) x l e = get-at xs i x (omega (arith, l)) e

-- the counters after one row changed
pub count-set : {X : Type 0} (p : X → Bool) (xs ys : List X) (i : ℕ) (x y : X) (m n : ℕ) → i < length xs → x ≡ get_or xs i x → ys ≡ set xs i y
    → m ≡ count_by p xs → n + one_if (p x) ≡ m + one_if (p y) → n ≡ count_by p ys
count-set {X = X} p xs ys i x y m n l e is c d =
    let F : X → ℕ = λ v. one_if (p v) in
    let s = sum_by-set F xs i y x l in
    let g = ap F e in
    let C : List X → ℕ = count_by p in
    let k = ap C is in
    omega (arith, s, g, k, c, d)

-- one counter after one row heard a hook
pub heard-count : (p : Status → Bool) (rows : List RowState) (i : ℕ) (x y : RowState) (a b : ℕ × Status) (u v : Bool) (m n : ℕ) → i < length rows → x ≡ get_or rows i x
    → a ≡ joined x.received → b ≡ joined y.received → u ≡ p a.1 → v ≡ p b.1 → m ≡ rows_at p rows → n + one_if u ≡ m + one_if v → n ≡ rows_at p (set rows i y)
heard-count p rows i x y a b u v m n l e ax by ua vb c d =
    let S : ℕ × Status → Bool = λ w. p w.1 in
    let cu : u ≡ p (row_status x) = ua ∙ ap S ax in
    let cv : v ≡ p (row_status y) = vb ∙ ap S by in
    let eu = ap one_if cu in
    let ev = ap one_if cv in
    count-set (λ r. p (row_status r)) rows (set rows i y) i x y m n l e refl c (omega (arith, d, eu, ev))

pub rises : (hs : List Hook) (h : Hook) (same : Bool) (known : ℕ × Status) → is_among hs h ≡ false → known ≡ joined (hs ++ h ∷ [])
    → (IsTrue same ↔ (known ≡ joined hs)) → RoseIf (not same) hs (with_hook hs h)
rises hs h true known e k tells =
    let w : with_hook hs h ≡ hs ++ h ∷ [] = rw e refl in
    ap joined w ∙ sym k ∙ tells.0 (search rules)
rises hs h false known e k tells =
    let W : List Hook → Type 0 = λ ks. joined ks ≢ joined hs in
    let w : with_hook hs h ≡ hs ++ h ∷ [] = rw e refl in
    subst W (sym w) (λ q. absurd (let t = tells.1 (k ∙ q) in search rules))

abbrev pub nothing : ℕ × Status
nothing = (0, status.Pending)

pub joined-none : nothing ≡ joined []
unfolding first_greatest
joined-none = refl

-- rows of which nothing is known are at no end
pub none-known : (r : RowState) → r.received ≡ [] → (is_success (row_status r) ≡ false) × (is_error (row_status r) ≡ false) × (is_stopped (row_status r) ≡ false) × (is_over r ≡ false)
none-known r e =
    let J : List Hook → ℕ × Status = λ hs. joined hs in
    let q : joined r.received ≡ nothing = ap J e ∙ sym joined-none in
    let S : ℕ × Status → Bool = λ w. is_success w.1 in
    let F : ℕ × Status → Bool = λ w. is_error w.1 in
    let T : ℕ × Status → Bool = λ w. is_stopped w.1 in
    let O : ℕ × Status → Bool = λ w. ends_job r.spec.attempts w.0 w.1 in
    (ap S q, ap F q, ap T q, ap O q)

none-counted : (p : RowState → Bool) (rows : List RowState) → ((r : RowState) → r.received ≡ [] → p r ≡ false) → AllByRecursion (λ r. r.received ≡ []) rows → count_by p rows ≡ 0
none-counted p [] f a = refl
none-counted p (r ∷ rs) f a =
    let c = sum_by-cons (λ y. one_if (p y)) r rs in
    let k = ap one_if (f r a.0) in
    let n = none-counted p rs f a.1 in
    omega (arith, c, k, n)

pub counted-new : (rows : List RowState) → AllByRecursion (λ r. r.received ≡ []) rows → CountRows rows 0 0 0 0
counted-new rows a = record {
  succeed_is = sym (none-counted (λ r. is_success (row_status r)) rows (λ r e. (none-known r e).0) a);
  failed_is = sym (none-counted (λ r. is_error (row_status r)) rows (λ r e. (none-known r e).1) a);
  stopped_is = sym (none-counted (λ r. is_stopped (row_status r)) rows (λ r e. (none-known r e).2) a);
  over_is = sym (none-counted is_over rows (λ r e. (none-known r e).3) a);
}

eq-suc : (a b c d : ℕ) → c ≡ suc a → d ≡ suc b → nat_eq c d ≡ nat_eq a b
eq-suc a b c d e f = elim (eqb_tells c d) [
  | inl q ↦ elim (eqb_tells a b) [ inl r ↦ q.0 ∙ sym r.0 | inr r ↦ absurd (omega (arith, q.1, r.1, e, f)) ]
  | inr q ↦ elim (eqb_tells a b) [ inl r ↦ absurd (omega (arith, q.1, r.1, e, f)) | inr r ↦ q.0 ∙ sym r.0 ]
]

all-true : {X : Type 0} (p : X → Bool) (x : X) (xs : List X) → p x ≡ true → nat_eq (count_by p xs) (length xs) ≡ list_all p xs → nat_eq (count_by p (x ∷ xs)) (length (x ∷ xs)) ≡ list_all p (x ∷ xs)
all-true p x xs e r =
    let c = sum_by-cons (λ y. one_if (p y)) x xs in
    let k = ap one_if e in
    let n : count_by p (x ∷ xs) ≡ suc (count_by p xs) = omega (arith, c, k) in
    let L : Bool → Bool = λ b. b && list_all p xs in
    eq-suc (count_by p xs) (length xs) (count_by p (x ∷ xs)) (length (x ∷ xs)) n (omega arith) ∙ (r ∙ sym (ap L e))

all-false : {X : Type 0} (p : X → Bool) (x : X) (xs : List X) → p x ≡ false → nat_eq (count_by p (x ∷ xs)) (length (x ∷ xs)) ≡ list_all p (x ∷ xs)
all-false p x xs e =
    let c = sum_by-cons (λ y. one_if (p y)) x xs in
    let k = ap one_if e in
    let l = count-length p xs in
    let L : Bool → Bool = λ b. b && list_all p xs in
    elim (eqb_tells (count_by p (x ∷ xs)) (length (x ∷ xs))) [
      | inl q ↦ absurd (omega (arith, c, k, l, q.1))
      | inr q ↦ q.0 ∙ sym (ap L e)
    ]

bool-is : (b : Bool) → (b ≡ true) ⊎ (b ≡ false)
bool-is true = inl refl
bool-is false = inr refl

-- all rows pass exactly where as many pass as there are
pub all-counted : {X : Type 0} (p : X → Bool) (xs : List X) → nat_eq (count_by p xs) (length xs) ≡ list_all p xs
all-counted p [] = refl
all-counted p (x ∷ xs) =
    elim (bool-is (p x)) [ inl e ↦ all-true p x xs e (all-counted p xs) | inr e ↦ all-false p x xs e ]

pub any-counted : {X : Type 0} (p : X → Bool) (xs : List X) → nat_lt 0 (count_by p xs) ≡ list_any p xs
any-counted p [] = refl
any-counted p (x ∷ xs) =
    let c = sum_by-cons (λ y. one_if (p y)) x xs in
    elim (bool-is (p x)) [
      | inl e ↦ (let k = ap one_if e in let B : Bool → Bool = λ b. b || list_any p xs in
          elim (leb_tells 1 (count_by p (x ∷ xs))) [ inl q ↦ q.0 ∙ sym (ap B e) | inr q ↦ absurd (omega (arith, q.1, c, k)) ])
      | inr e ↦ (let k = ap one_if e in let B : Bool → Bool = λ b. b || list_any p xs in
          let n : count_by p (x ∷ xs) ≡ count_by p xs = omega (arith, c, k) in
          let L : ℕ → Bool = λ m. nat_lt 0 m in
          ap L n ∙ (any-counted p xs ∙ sym (ap B e)))
    ]

one-end : (st : Status) → one_if (is_success st) + one_if (is_error st) + one_if (is_stopped st) + one_if (is_unfinished st) ≡ 1
one-end status.Pending = refl
one-end status.Scheduled = refl
one-end status.Running = refl
one-end status.Stopped = refl
one-end status.Error = refl
one-end status.Success = refl

-- each row is at one end or at none
pub ends-add : (rows : List RowState) → rows_at is_success rows + rows_at is_error rows + rows_at is_stopped rows + rows_at is_unfinished rows ≡ length rows
ends-add [] = refl
ends-add (r ∷ rs) =
    let a = sum_by-cons (λ y. one_if (is_success (row_status y))) r rs in
    let b = sum_by-cons (λ y. one_if (is_error (row_status y))) r rs in
    let c = sum_by-cons (λ y. one_if (is_stopped (row_status y))) r rs in
    let d = sum_by-cons (λ y. one_if (is_unfinished (row_status y))) r rs in
    let e = one-end (row_status r) in
    let f = ends-add rs in
    omega (arith, a, b, c, d, e, f)

some-there : {X : Type 0} (p : X → Bool) (xs : List X) → 0 < count_by p xs → list_any p xs ≡ true
some-there p xs l = elim (leb_tells 1 (count_by p xs)) [ inl q ↦ sym (any-counted p xs) ∙ q.0 | inr q ↦ absurd (omega (arith, q.1, l)) ]

none-there : {X : Type 0} (p : X → Bool) (xs : List X) → count_by p xs ≤ 0 → list_any p xs ≡ false
none-there p xs l = elim (leb_tells 1 (count_by p xs)) [ inl q ↦ absurd (omega (arith, q.1, l)) | inr q ↦ sym (any-counted p xs) ∙ q.0 ]

abbrev choose : Bool → Bool → Bool → ExecStatus
choose open_one error stopped = if open_one then stands.InProgress else (if error then stands.Failed else (if stopped then stands.Stopped else stands.Succeed))

status-is : (b : Bool) (rows : List RowState) (o e s : Bool) → b ≡ false → any_at is_unfinished rows ≡ o → any_at is_error rows ≡ e → any_at is_stopped rows ≡ s → choose o e s ≡ status_by b rows
status-is b rows o e s f p q r =
    let B : Bool → ExecStatus = λ v. status_by v rows in
    let O : Bool → ExecStatus = λ v. choose v (any_at is_error rows) (any_at is_stopped rows) in
    let E : Bool → ExecStatus = λ v. choose o v (any_at is_stopped rows) in
    let S : Bool → ExecStatus = λ v. choose o e v in
    sym (ap B f ∙ (ap O p ∙ (ap E q ∙ ap S r)))

pub status-open : (b : Bool) (rows : List RowState) → b ≡ false → 0 < rows_at is_unfinished rows → stands.InProgress ≡ status_by b rows
status-open b rows f o = status-is b rows true (any_at is_error rows) (any_at is_stopped rows) f (some-there (λ r. is_unfinished (row_status r)) rows o) refl refl

pub status-failed : (b : Bool) (rows : List RowState) → b ≡ false → rows_at is_unfinished rows ≤ 0 → 0 < rows_at is_error rows → stands.Failed ≡ status_by b rows
status-failed b rows f o e = status-is b rows false true (any_at is_stopped rows) f (none-there (λ r. is_unfinished (row_status r)) rows o) (some-there (λ r. is_error (row_status r)) rows e) refl

pub status-stopped : (b : Bool) (rows : List RowState) → b ≡ false → rows_at is_unfinished rows ≤ 0 → rows_at is_error rows ≤ 0 → 0 < rows_at is_stopped rows → stands.Stopped ≡ status_by b rows
status-stopped b rows f o e s = status-is b rows false false true f (none-there (λ r. is_unfinished (row_status r)) rows o) (none-there (λ r. is_error (row_status r)) rows e) (some-there (λ r. is_stopped (row_status r)) rows s)

pub status-succeed : (b : Bool) (rows : List RowState) → b ≡ false → rows_at is_unfinished rows ≤ 0 → rows_at is_error rows ≤ 0 → rows_at is_stopped rows ≤ 0 → stands.Succeed ≡ status_by b rows
status-succeed b rows f o e s = status-is b rows false false false f (none-there (λ r. is_unfinished (row_status r)) rows o) (none-there (λ r. is_error (row_status r)) rows e) (none-there (λ r. is_stopped (row_status r)) rows s)
