-- Lemmas on stages at which more bytes have to come: they can come to an end.
use Rattle.std.proofs.Common.{◌≡◌, ℕ, ◌+◌, ◌-◌, ◌*◌, ◌<◌, ◌≤◌, ◌⊎◌, inl, inr, Bool, true, false, [], ◌∷◌, ◌++◌, length, replicate, append-nil, refl, sym, ap, subst, arith, Option, Some, None, lit≤}
use Rattle.std.specs.Prelude.{if◌then◌else◌, nat_lt, ◌==◌}
use Rattle.std.proofs.lemmas.Bool.Decides.{nat_tests}
use Rattle.std.proofs.lemmas.Grind.{common_steps}
use Rattle.httparse.specs.Grammar.{is_token_byte, is_value_byte, is_ows, crlf}
use Rattle.hr_base.specs.Bytes.{ByteList}
use Rattle.hr_body.specs.declared.stage.Part.{Part}
use Rattle.hr_body.specs.declared.stage.Part.TheVariants.{Size, Blank, Extension, SizeFeed, FieldStart, FieldName, FieldValue, FieldFeed, LastFeed}
use Rattle.hr_body.specs.declared.stage.Coding.TheVariants.{Line, DataEnd, DataFeed}
use Rattle.hr_body.specs.declared.stage.Stage.{Stage}
use Rattle.hr_body.specs.declared.stage.Stage.TheVariants.{Between, Chunk, Sized, ToEnd, Done}
use Rattle.hr_body.specs.Leading.{end_of, Leads, IsUnended, HoldsBody, HasLineRoom}
use Rattle.hr_body.specs.Stage.{step_of, part_step, chunk_start, in_line, size_step}
use Rattle.std.specs.Char.{is_ascii_hexdigit, digit_value}
use Rattle.hr_body.proofs.LeadingLemmas.{leads_more, chunk_leads, sized_leads}
use Rattle.hr_body.proofs.LineLemmas.{at, line_leads, line_on, FeedsAt, feeds_go, digits_end, pad_end, digit_leads}
use Rattle.hr_body.proofs.GrammarLemmas.{last_goes, ends_go, chunk_place, colon_ends, last_lf}
use Rattle.hr_body.proofs.TrailerLemmas.{tests_as}
use Rattle.hr_body.proofs.PlainLemmas.{sized_over}

pub record CanEnd (p : Stage) : Type 0 where
  pub more : ByteList
  pub body : ByteList
  pub leads : Leads p more body Done

on : (p q : Stage) (front piece : ByteList) → Leads p front piece q → CanEnd q → CanEnd p
on p q front piece leads c = record { more = front ++ c.more; body = piece ++ c.body; leads = leads_more p q Done front c.more piece c.body leads c.leads }

start_ends : CanEnd (at 65536 (Size 0 0))
unfolding step_of is_token_byte
start_ends = record { more = 48 ∷ 13 ∷ 10 ∷ 13 ∷ 10 ∷ []; body = []; leads = record { ends = refl; gives = refl } }

chunk_ends : (more : ℕ) → CanEnd (Chunk more)
chunk_ends more =
    let zs = replicate (more + 1) 0 in
    let len : length zs ≡ more + 1 = grind (arith, common_steps) in
    let some : 0 < length zs = omega (arith, len) in
    let fits : length zs ≤ more + 1 = omega (arith, len) in
    let t : nat_lt more (length zs) ≡ true = let past : more < length zs = omega (arith, len) in grind (arith, nat_tests) in
    on (Chunk more) (Between DataEnd) zs zs (subst (λ q. Leads (Chunk more) zs zs q) (ap (λ t. if t then Between DataEnd else Chunk (more - length zs)) t) (chunk_leads zs more some fits))
    (on (Between DataEnd) (at 65536 (Size 0 0)) (13 ∷ 10 ∷ []) [] ends_go start_ends)

size_ends : (v : ℕ) → CanEnd (chunk_start v)
size_ends v =
    elim (tests_as (v == 0)) [
      | inl none ↦
          let e : chunk_start v ≡ at 65536 FieldStart = ap (λ t. if t then at 65536 FieldStart else Chunk (v - 1)) none in
          subst CanEnd (sym e) (record { more = 13 ∷ 10 ∷ []; body = []; leads = last_goes crlf 65536 (lit≤ tt) })
      | inr some ↦
          let positive : 0 < v = grind (arith, nat_tests) in
          subst CanEnd (sym (chunk_place v positive)) (chunk_ends (v - 1))
    ]

feed_ends : (m : Part) (value room : ℕ) → FeedsAt m value → 2 ≤ room → CanEnd (at room m)
feed_ends m value room f le =
    let e : room ≡ (room - 2) + 2 = omega (arith, le) in
    on (at room m) (chunk_start value) (13 ∷ 10 ∷ []) [] (feeds_go m value room (room - 2) f e) (size_ends value)

line_ends : (room : ℕ) → 0 < room → CanEnd (at room FieldStart)
line_ends room some = record { more = 10 ∷ []; body = []; leads = line_leads room FieldStart 10 Done some (last_lf (room - 1)) }

to_line : (m : Part) (room : ℕ) → 2 ≤ room → part_step (room - 1) m 10 ≡ in_line (room - 1) FieldStart → CanEnd (at room m)
to_line m room le is =
    let e : room ≡ (room - 1) + 1 = omega (arith, le) in
    let some : 0 < room - 1 = omega (arith, le) in
    on (at room m) (at (room - 1) FieldStart) (10 ∷ []) [] (line_on room (room - 1) m FieldStart 10 e is) (line_ends (room - 1) some)

-- a size has digits, or is 0 so far
abbrev pub Begun : Part → Type 0
Begun (Size count value) = (0 < count) ⊎ ((count ≡ 0) × (value ≡ 0))
Begun (Blank value) = Unit {0}
Begun (Extension value) = Unit {0}
Begun (SizeFeed value) = Unit {0}
Begun FieldStart = Unit {0}
Begun FieldName = Unit {0}
Begun FieldValue = Unit {0}
Begun FieldFeed = Unit {0}
Begun LastFeed = Unit {0}

digits_feed : (count value : ℕ) → 0 < count → FeedsAt (Size count value) value
digits_feed count value some = let s = digits_end count value some in record { feeds = λ r. s.goes_on r 13 refl }

pub mark_ends : (m : Part) (room : ℕ) → 3 ≤ room → Begun m → CanEnd (at room m)
mark_ends (Size count value) room le (inl some) = feed_ends (Size count value) value room (digits_feed count value some) (omega (arith, le))
mark_ends (Size count value) room le (inr none) =
    let e : room ≡ (room - 1) + 1 = omega (arith, le) in
    let few : count < 16 = let z = none.0 in omega (arith, z) in
    let small : value < 1152921504606846976 = let z = none.1 in omega (arith, z) in
    let some : 0 < count + 1 = omega arith in
    on (at room (Size count value)) (at (room - 1) (Size (count + 1) (value * 16 + 0))) (48 ∷ []) []
    (digit_leads room (room - 1) count value 48 e refl few small)
    (feed_ends (Size (count + 1) (value * 16 + 0)) (value * 16 + 0) (room - 1) (digits_feed (count + 1) (value * 16 + 0) some) (omega (arith, le)))
mark_ends (Blank value) room le b = let s = pad_end value in feed_ends (Blank value) value room (record { feeds = λ r. s.goes_on r 13 refl }) (omega (arith, le))
mark_ends (Extension value) room le b = feed_ends (Extension value) value room (record { feeds = λ r. refl }) (omega (arith, le))
mark_ends (SizeFeed value) room le b =
    let some : 0 < room = omega (arith, le) in
    on (at room (SizeFeed value)) (chunk_start value) (10 ∷ []) [] (line_leads room (SizeFeed value) 10 (chunk_start value) some refl) (size_ends value)
mark_ends FieldStart room le b = line_ends room (omega (arith, le))
mark_ends FieldName room le b =
    let e : room ≡ (room - 1) + 1 = omega (arith, le) in
    on (at room FieldName) (at (room - 1) FieldValue) (58 ∷ []) [] (line_on room (room - 1) FieldName FieldValue 58 e (colon_ends (room - 1)))
    (to_line FieldValue (room - 1) (omega (arith, le)) refl)
mark_ends FieldValue room le b = to_line FieldValue room (omega (arith, le)) refl
mark_ends FieldFeed room le b = to_line FieldFeed room (omega (arith, le)) refl
mark_ends LastFeed room le b =
    let some : 0 < room = omega (arith, le) in
    record { more = 10 ∷ []; body = []; leads = line_leads room LastFeed 10 Done some refl }

-- room for what a line needs to end, and a size that was begun
abbrev pub CanClose : Stage → Type 0
CanClose (Between (Line room m)) = (3 ≤ room) × Begun m
CanClose (Between DataEnd) = Unit {0}
CanClose (Between DataFeed) = Unit {0}
CanClose (Chunk more) = Unit {0}
CanClose (Sized more) = Unit {0}
CanClose ToEnd = Unit {0}
CanClose Done = Unit {0}

feed_place : Leads (Between DataFeed) (10 ∷ []) [] (at 65536 (Size 0 0))
unfolding step_of
feed_place = record { ends = refl; gives = refl }

pub can_end : (q : Stage) → IsUnended q → CanClose q → CanEnd q
can_end (Between (Line room m)) w may = mark_ends m room may.0 may.1
can_end (Between DataEnd) w may = on (Between DataEnd) (at 65536 (Size 0 0)) (13 ∷ 10 ∷ []) [] ends_go start_ends
can_end (Between DataFeed) w may = on (Between DataFeed) (at 65536 (Size 0 0)) (10 ∷ []) [] feed_place start_ends
can_end (Chunk more) w may = chunk_ends more
can_end (Sized more) w may =
    let zs = replicate (more + 1) 0 in
    let len : length zs ≡ more + 1 = grind (arith, common_steps) in
    let some : 0 < length zs = omega (arith, len) in
    let fits : length zs ≤ more + 1 = omega (arith, len) in
    let past : more < length zs = omega (arith, len) in
    record { more = zs; body = zs; leads = subst (λ q. Leads (Sized more) zs zs q) (sized_over more (length zs) past) (sized_leads zs more some fits) }
can_end ToEnd w may = absurd w
can_end Done w may = absurd w

-- a stage to which the bytes of a chunked body lead
abbrev IsReached : Stage → Type 0
IsReached (Between (Line room m)) = Begun m
IsReached (Between DataEnd) = Unit {0}
IsReached (Between DataFeed) = Unit {0}
IsReached (Chunk more) = Unit {0}
IsReached (Sized more) = ⊥
IsReached ToEnd = ⊥
IsReached Done = Unit {0}

one_more : (n : ℕ) → 0 < n + 1
one_more n = omega arith

abbrev AreReached : Option Stage → Type 0
AreReached None = Unit {0}
AreReached (Some p) = IsReached p

keeps_if : (c : Bool) (x y : Option Stage) → AreReached x → AreReached y → AreReached (if c then x else y)
keeps_if true x y a b = a
keeps_if false x y a b = b

kept_if : (c : Bool) (x y : Stage) → IsReached x → IsReached y → IsReached (if c then x else y)
kept_if true x y a b = a
kept_if false x y a b = b

size_keeps : (k v b : ℕ) → AreReached (size_step k v b)
size_keeps k v b =
    keeps_if (is_ows b) (in_line k (Blank v)) (if b == 59 then in_line k (Extension v) else (if b == 13 then in_line k (SizeFeed v) else None)) tt
    (keeps_if (b == 59) (in_line k (Extension v)) (if b == 13 then in_line k (SizeFeed v) else None) tt
    (keeps_if (b == 13) (in_line k (SizeFeed v)) None tt tt))

mark_keeps : (k : ℕ) (m : Part) (b : ℕ) → AreReached (part_step k m b)
mark_keeps k (Size count value) b =
    keeps_if (is_ascii_hexdigit b)
    (if nat_lt count 16 then (if nat_lt value 1152921504606846976 then in_line k (Size (count + 1) (value * 16 + digit_value b)) else None) else None)
    (if count == 0 then None else size_step k value b)
    (keeps_if (nat_lt count 16) (if nat_lt value 1152921504606846976 then in_line k (Size (count + 1) (value * 16 + digit_value b)) else None) None
    (keeps_if (nat_lt value 1152921504606846976) (in_line k (Size (count + 1) (value * 16 + digit_value b))) None (inl (one_more count)) tt) tt)
    (keeps_if (count == 0) None (size_step k value b) tt (size_keeps k value b))
mark_keeps k (Blank value) b = size_keeps k value b
mark_keeps k (Extension value) b =
    keeps_if (b == 13) (in_line k (SizeFeed value)) (if b == 10 then None else in_line k (Extension value)) tt (keeps_if (b == 10) None (in_line k (Extension value)) tt tt)
mark_keeps k (SizeFeed value) b =
    keeps_if (b == 10) (Some (chunk_start value)) None (kept_if (value == 0) (at 65536 FieldStart) (Chunk (value - 1)) tt tt) tt
mark_keeps k FieldStart b =
    keeps_if (is_token_byte b) (in_line k FieldName) (if b == 13 then in_line k LastFeed else (if b == 10 then Some Done else None)) tt
    (keeps_if (b == 13) (in_line k LastFeed) (if b == 10 then Some Done else None) tt (keeps_if (b == 10) (Some Done) None tt tt))
mark_keeps k FieldName b =
    keeps_if (is_token_byte b) (in_line k FieldName) (if b == 58 then in_line k FieldValue else None) tt (keeps_if (b == 58) (in_line k FieldValue) None tt tt)
mark_keeps k FieldValue b =
    keeps_if (is_value_byte b) (in_line k FieldValue) (if b == 13 then in_line k FieldFeed else (if b == 10 then in_line k FieldStart else None)) tt
    (keeps_if (b == 13) (in_line k FieldFeed) (if b == 10 then in_line k FieldStart else None) tt (keeps_if (b == 10) (in_line k FieldStart) None tt tt))
mark_keeps k FieldFeed b = keeps_if (b == 10) (in_line k FieldStart) None tt tt
mark_keeps k LastFeed b = keeps_if (b == 10) (Some Done) None tt tt

next_keeps : (p : Stage) (b : ℕ) → IsReached p → AreReached (step_of p b)
unfolding step_of
next_keeps (Between (Line room m)) b kept = keeps_if (room == 0) None (part_step (room - 1) m b) tt (mark_keeps (room - 1) m b)
next_keeps (Between DataEnd) b kept = keeps_if (b == 13) (Some (Between DataFeed)) None tt tt
next_keeps (Between DataFeed) b kept = keeps_if (b == 10) (in_line 65536 (Size 0 0)) None (inr (refl, refl)) tt
next_keeps (Chunk more) b kept = kept_if (nat_lt more 1) (Between DataEnd) (Chunk (more - 1)) tt tt
next_keeps (Sized more) b kept = absurd kept
next_keeps ToEnd b kept = absurd kept
next_keeps Done b kept = tt

run_keeps : (front : ByteList) (o : Option Stage) → AreReached o → AreReached (end_of front o)
run_keeps [] o kept = kept
run_keeps (b ∷ front) None kept = run_keeps front None tt
run_keeps (b ∷ front) (Some p) kept = run_keeps front (step_of p b) (next_keeps p b kept)

-- room for what a line needs to end
may_end : (q : Stage) → IsUnended q → IsReached q → HasLineRoom q → CanClose q
may_end (Between (Line room m)) w kept some = (some, kept)
may_end (Between DataEnd) w kept some = tt
may_end (Between DataFeed) w kept some = tt
may_end (Chunk more) w kept some = tt
may_end (Sized more) w kept some = tt
may_end ToEnd w kept some = tt
may_end Done w kept some = tt

-- bytes of a chunked body that lead to a stage with room can go on to a whole body
pub begins : (front piece : ByteList) (q : Stage) → Leads (at 65536 (Size 0 0)) front piece q → IsUnended q → HasLineRoom q
    → (more : ByteList) × (body : ByteList) × HoldsBody (at 65536 (Size 0 0)) (front ++ more) body []
begins front piece q leads w some =
    let kept : AreReached (Some q) = subst AreReached leads.ends (run_keeps front (Some (at 65536 (Size 0 0))) (inr (refl, refl))) in
    let c = can_end q w (may_end q w kept some) in (
      c.more,
      piece ++ c.body,
      record {
        front = front ++ c.more;
        end = Done;
        cut = sym (append-nil (front ++ c.more));
        leads = leads_more (at 65536 (Size 0 0)) q Done front c.more piece c.body leads c.leads;
        may_end = tt;
      },
    )
