-- A step of a revision that was taken out is a step of the lane.
use Rattle.std.proofs.Common.{◌≡◌, refl, sym, ap, subst, ◌∙◌, ℕ, ◌≤◌, Bool, true, false, List, [], ◌∷◌, ◌++◌, length, take, drop, inl, inr}
use Rattle.std.proofs.Math.Seq.{take-append_seam}
use Rattle.std.proofs.lemmas.Bool.{eqb-true}
use Rattle.std.specs.Cmp.{nat_eq_equiv}
use Rattle.std.specs.Prelude.{◌⊎◌, Option, Some, None, IfSome, Result, Ok, Err, if◌then◌else◌, nat_eq}
use Rattle.hr_base.specs.Status.{word_of}
use Rattle.hr_base.specs.declared.number.JobNo.{JobNo}
use Rattle.hr_base.specs.declared.number.RegNo.{RegNo}
use Rattle.hr_base.specs.declared.status.Hook.{Hook}
use Rattle.hr_base.specs.declared.status.Mark.{Mark}
use Rattle.hr_base.specs.declared.status.Mark.TheVariants.{At}
use Rattle.hr_base.specs.declared.status.Status.{Status}
use Rattle.hr_base.specs.declared.status.Status.TheVariants.{Running}
use Rattle.hr_board.specs.View.{Finds, View, noting, place_of}
use Rattle.hr_event.specs.declared.cause.Cause.{Cause}
use Rattle.hr_event.specs.declared.cause.Cause.TheVariants as cause
use Rattle.hr_event.specs.declared.entry.Entry.{Entry}
use Rattle.hr_event.specs.declared.entry.What.TheVariants as what
use Rattle.hr_adapter.specs.Reg.{Reg}
use Rattle.hr_line.specs.Line.{LineEnd, entry_of}
use Rattle.hr_line.specs.State.{HeldAfter, Link, State, held_at, link_at, with_link}
use Rattle.hr_line.specs.Step.{Closes, ComesToEnd, DoesLine, Ends, Rests, goes_on, next_tag}
use Rattle.hr_line.specs.declared.answer.Stepped.{Stepped}
use Rattle.hr_line.specs.declared.answer.Stepped.TheVariants as stepped
use Rattle.hr_line.specs.declared.held.Admitted.{Admitted}
use Rattle.hr_line.specs.declared.held.Held.{Held}
use Rattle.hr_line.specs.declared.held.Work.{Work}
use Rattle.hr_lane.specs.Conn.{AreDistinct, links_of}
use Rattle.hr_lane.specs.Going.{Idles, IsHeldAgain, IsOver}
use Rattle.hr_lane.specs.Line.{DoesBetween}
use Rattle.hr_lane.specs.State.{AreInOrder, state_of, written}
use Rattle.hr_lane.specs.Stepping.{Finishes, IsOut, closed_as}
use Rattle.hr_lane.specs.Word.{FindsMark, FindsOther, LooksAndCloses, OfWord, Steps}
use Rattle.hr_lane.specs.declared.conn.Conn.{Conn}
use Rattle.hr_lane.proofs.ConnLemmas.{distinct_with, sound_with, with_absent}

-- ---- the revision that is held of a job is of that job

held_here : (b : Bool) (x : Held) (more : List Held) (job : ℕ) (h : Held) → nat_eq x.by.job.0 job ≡ b
    → (held_at more job ≡ Some h → h.by.job.0 ≡ job) → (if b then Some x else held_at more job) ≡ Some h
    → h.by.job.0 ≡ job
held_here true x more job h same later is =
    let e : x ≡ h = cc in
    ap (λ (y : Held). y.by.job.0) (sym e) ∙ eqb-true x.by.job.0 job same
held_here false x more job h other later is = later is

pub held_job : (held : List Held) (job : ℕ) (h : Held) → held_at held job ≡ Some h → h.by.job.0 ≡ job
held_job [] job h is = cc
held_job (x ∷ more) job h is = held_here (nat_eq x.by.job.0 job) x more job h refl (held_job more job h) is

pub same_job : (job : JobNo) (h : Held) → h.by.job.0 ≡ job.0 → h.by.job ≡ job
same_job job h is = ap (λ (n : ℕ). record { 0 = n }) is

-- ---- those that are held, after two changes at one job

twice : (b : Bool) (x : Option Held) (y z : Option Held) → (if b then x else (if b then y else z)) ≡ (if b then x else z)
twice true x y z = refl
twice false x y z = refl

pub after_both : (job : ℕ) (now before : Option Held) (whole rest later : List Held) → HeldAfter job before whole rest
    → HeldAfter job now rest later → HeldAfter job now whole later
after_both job now before whole rest later out put = λ other.
    put other ∙ ap (λ (o : Option Held). if nat_eq other job then now else o) (out other)
    ∙ twice (nat_eq other job) now before (held_at whole other)

-- ---- a connection that did nothing

same_seen : (b : Bool) (l : Link) (f : Reg) (o : Option Reg) → (if b then Some l.seen else o) ≡ Some f
    → ((b ≡ true) × (f ≡ l.seen)) ⊎ ((b ≡ false) × (o ≡ Some f))
same_seen true l f o is = inl (refl, cc)
same_seen false l f o is = inr (refl, is)

absent_as : (l : RegNo) (reg : RegNo) (links : List Link) → l.0 ≡ reg.0 → link_at links l ≡ None → link_at links reg ≡ None
absent_as l reg links e absent = subst (λ (r : RegNo). link_at links r ≡ None) (ap (λ (n : ℕ). record { 0 = n }) e) absent

pub with_same : (links : List Link) (reg : RegNo) (f : Reg) → AreDistinct links → link_at links reg ≡ Some f
    → with_link links reg f ≡ links
with_same [] reg f distinct is = cc
with_same (l ∷ more) reg f distinct is = elim (same_seen (nat_eq l.reg.0 reg.0) l f (link_at more reg) is) [
  | inl here ↦
      ap (λ (b : Bool). (if b then record l { seen = f } else l) ∷ with_link more reg f) here.0
      ∙ ap (λ (x : Reg). record l { seen = x } ∷ with_link more reg f) here.1
      ∙ ap (λ (rest : List Link). l ∷ rest)
      (with_absent more reg f (absent_as l.reg reg more (eqb-true l.reg.0 reg.0 here.0) distinct.0))
  | inr there ↦
      ap (λ (b : Bool). (if b then record l { seen = f } else l) ∷ with_link more reg f) there.0
      ∙ ap (λ (rest : List Link). l ∷ rest) (with_same more reg f distinct.1 there.1)
]

-- ---- a line that was tried

-- a line was done, or there was no room and nothing was done
pub line_or_none : (h : Held) (tag : _) (sources from dests to : List Link) (log after : List Entry) (hooks : List Hook)
    (admitted : List Admitted) (held later : List Held) (end : LineEnd) → AreDistinct sources → AreDistinct dests
    → next_tag h ≡ Some tag → DoesBetween h.by tag h.work sources from dests to log after end
    → DoesLine h (state_of sources dests log hooks admitted held) (state_of from to after hooks admitted later) end
    ⊎ ((end ≡ Err cause.Memory)
    × Rests (state_of sources dests log hooks admitted held) (state_of from to after hooks admitted later))
line_or_none h tag sources from dests to log after hooks admitted held later end one two next b = elim (b.tries) [
  | inl line ↦ inl (record {
    tag = tag;
    next = next;
    f = b.f;
    g = b.g;
    p = b.p;
    q = b.q;
    moves = record { source = b.source; dest = b.dest; sources = b.moved_source; dests = b.moved_dest };
    line = line;
    hooks = refl;
    admitted = refl;
  })
  | inr none ↦ inr (
    none.is,
    record {
      sources = b.moved_source ∙ ap (with_link sources h.by.spec.src) none.source
          ∙ with_same sources h.by.spec.src b.f one b.source;
      dests = b.moved_dest ∙ ap (with_link dests h.by.spec.dst) none.dest
          ∙ with_same dests h.by.spec.dst b.p two b.dest;
      log = none.writes;
      hooks = refl;
      admitted = refl;
    },
  )
]

-- ---- the connections stay in order

between_order : (a : Admitted) (tag : _) (work : Option Work) (sources from dests to : List Link) (log after : List Entry)
    (end : LineEnd) → DoesBetween a tag work sources from dests to log after end → AreInOrder sources → AreInOrder dests
    → AreInOrder from × AreInOrder to
between_order a tag work sources from dests to log after end b one two = (
  subst AreInOrder (sym b.moved_source) (record {
    distinct = distinct_with sources a.spec.src b.g one.distinct;
    sound = sound_with sources a.spec.src b.g one.sound b.sound_source;
  }),
  subst AreInOrder (sym b.moved_dest) (record {
    distinct = distinct_with dests a.spec.dst b.q two.distinct;
    sound = sound_with dests a.spec.dst b.q two.sound b.sound_dest;
  }),
)

idle_order : (sources from dests to : List Link) (log after : List Entry) → Idles sources from dests to log after
    → AreInOrder sources → AreInOrder dests → AreInOrder from × AreInOrder to
idle_order sources from dests to log after idles one two =
    (subst AreInOrder (sym idles.no_source) one, subst AreInOrder (sym idles.no_dest) two)

pub over_order : (h : Held) (sources from dests to : List Link) (log after : List Entry) (why : Option Cause)
    → AreInOrder sources → AreInOrder dests → IsOver h sources from dests to log after why
    → AreInOrder from × AreInOrder to
over_order h sources from dests to log after None one two over =
    idle_order sources from dests to log after over.1 one two
over_order h sources from dests to log after (Some why) one two over = elim over [
  | inl line ↦ between_order h.by line.tag h.work sources from dests to log after _ line.between one two
  | inr none ↦ idle_order sources from dests to log after none.1 one two
]

pub again_order : (h : Held) (sources from dests to : List Link) (log after : List Entry) (held later : List Held)
    → AreInOrder sources → AreInOrder dests → IsHeldAgain h sources from dests to log after held later
    → AreInOrder from × AreInOrder to
again_order h sources from dests to log after held later one two again =
    between_order h.by again.line.tag h.work sources from dests to log after _ again.line.between one two

-- ---- the step, by its end

of_word : (s : State) (h : Held) (P : ℕ → Type 0) → held_at s.held h.by.job.0 ≡ Some h → P (place_of h.by.job.0 h.by.rev)
    → OfWord s h.by.job P
of_word s h P here word = record { held = h; here = here; word = word }

-- the word was found at Running
pub found_running : (v w : View) (place : ℕ) (mark : Mark) → mark ≡ At Running → Finds v place (word_of mark)
    → w ≡ noting v ((place, word_of mark) ∷ []) → FindsMark v w place (At Running)
found_running v w place mark is finds noted =
    subst (λ (m : Mark). FindsMark v w place m) is (record { finds = finds; noted = noted })

pub lost_steps : (h : Held) (sources dests : List Link) (log after : List Entry) (hooks : List Hook)
    (admitted : List Admitted) (whole rest : List Held) (v w : View) (mark : Mark) → IsOut h whole rest
    → after ≡ entry_of h.by what.Dropped ∷ log → FindsOther v w (place_of h.by.job.0 h.by.rev) (At Running) mark
    → Steps (state_of sources dests log hooks admitted whole) (state_of sources dests after hooks admitted rest)
    h.by.job v w (stepped.Lost mark)
lost_steps h sources dests log after hooks admitted whole rest v w mark out writes finds = inl (
  record {
    held = h;
    here = out.0;
    log = writes;
    hooks = refl;
    sources = refl;
    dests = refl;
    admitted = refl;
    gone = out.1;
  },
  of_word (state_of sources dests log hooks admitted whole) h (λ place. FindsOther v w place (At Running) mark) out.0 finds,
)

not_none : (work : Option Work) → Ok work ≡ Err cause.Memory → ⊥
not_none work e = cc

pub did_steps : (h : Held) (sources from dests to : List Link) (log after : List Entry) (hooks : List Hook)
    (admitted : List Admitted) (whole rest later : List Held) (v w : View) → AreInOrder sources → AreInOrder dests
    → IsOut h whole rest → IsHeldAgain h sources from dests to log after rest later
    → FindsMark v w (place_of h.by.job.0 h.by.rev) (At Running)
    → Steps (state_of sources dests log hooks admitted whole) (state_of from to after hooks admitted later)
    h.by.job v w stepped.Did
did_steps h sources from dests to log after hooks admitted whole rest later v w one two out again finds = (
  record {
    held = h;
    here = out.0;
    work = again.work;
    line = elim (line_or_none h again.line.tag sources from dests to log after hooks admitted whole later (Ok again.work)
        one.distinct two.distinct again.line.next again.line.between) [
          | inl line ↦ line
          | inr none ↦ absurd (not_none again.work none.0)
        ];
    now = after_both h.by.job.0 (Some (goes_on h again.work)) None whole rest later out.1 again.now;
  },
  of_word (state_of sources dests log hooks admitted whole) h (λ place. FindsMark v w place (At Running)) out.0 finds,
)

idle_rests : (sources from dests to : List Link) (log after : List Entry) (hooks : List Hook) (admitted : List Admitted)
    (held later : List Held) → Idles sources from dests to log after
    → Rests (state_of sources dests log hooks admitted held) (state_of from to after hooks admitted later)
idle_rests sources from dests to log after hooks admitted held later idles = record {
  sources = idles.no_source;
  dests = idles.no_dest;
  log = idles.no_entry;
  hooks = refl;
  admitted = refl;
}

memory_is : (why : Cause) (end : LineEnd) → end ≡ Err why → end ≡ Err cause.Memory → why ≡ cause.Memory
memory_is why end a b = cc

comes_to : (h : Held) (sources from dests to : List Link) (log after : List Entry) (hooks : List Hook)
    (admitted : List Admitted) (whole : List Held) (why : Option Cause) → AreInOrder sources → AreInOrder dests
    → IsOver h sources from dests to log after why
    → ComesToEnd h (state_of sources dests log hooks admitted whole) (state_of from to after hooks admitted whole) why
comes_to h sources from dests to log after hooks admitted whole None one two over =
    (over.0, idle_rests sources from dests to log after hooks admitted whole whole over.1)
comes_to h sources from dests to log after hooks admitted whole (Some why) one two over = elim over [
  | inl tried ↦ elim (line_or_none h tried.tag sources from dests to log after hooks admitted whole whole (Err why)
      one.distinct two.distinct tried.next tried.between) [
        | inl line ↦ inl line
        | inr none ↦ inr (memory_is why (Err why) refl none.0, none.1)
      ]
  | inr idle ↦ inr (idle.0, idle_rests sources from dests to log after hooks admitted whole whole idle.1)
]

closes_as : (by : Admitted) (why : Option Cause) (from to : List Link) (log after : List Entry) (hooks given : List Hook)
    (admitted : List Admitted) (held later : List Held) (closed : Result Status Mark)
    → Closes by why (written log hooks) (written after given) closed
    → Closes by why (state_of from to log hooks admitted held) (state_of from to after given admitted later) closed
closes_as by why from to log after hooks given admitted held later (Ok status) closes = closes
closes_as by why from to log after hooks given admitted held later (Err mark) closes = closes

-- a revision that was taken out comes to its end, and is closed
record IsClosed (h : Held) (s t : State) (v w : View) (closed : Result Status Mark) : Type 0 where
  ends : Ends s t h.by.job closed
  word : OfWord s h.by.job (λ place. LooksAndCloses v w place closed)

over_steps : (h : Held) (s t : State) (v w : View) (closed : Result Status Mark) → IsClosed h s t v w closed
    → Steps s t h.by.job v w (closed_as closed)
over_steps h s t v w (Ok status) over = (over.ends, over.word)
over_steps h s t v w (Err mark) over = inr (over.ends, over.word)

pub ended_steps : (h : Held) (why : Option Cause) (sources from dests to : List Link) (log mid after : List Entry)
    (hooks given : List Hook) (admitted : List Admitted) (whole rest : List Held) (v u w : View) (answer : Stepped)
    → AreInOrder sources → AreInOrder dests → IsOut h whole rest → IsOver h sources from dests to log mid why
    → FindsMark v u (place_of h.by.job.0 h.by.rev) (At Running)
    → Finishes h.by why mid after hooks given u w answer
    → Steps (state_of sources dests log hooks admitted whole) (state_of from to after given admitted rest)
    h.by.job v w answer
ended_steps h why sources from dests to log mid after hooks given admitted whole rest v u w answer one two out over looks ends =
    subst (λ (a : Stepped). Steps (state_of sources dests log hooks admitted whole)
    (state_of from to after given admitted rest) h.by.job v w a) (sym ends.answers)
    (over_steps h (state_of sources dests log hooks admitted whole) (state_of from to after given admitted rest) v w
    ends.closed (record {
      ends = record {
        held = h;
        here = out.0;
        why = why;
        mid = state_of from to mid hooks admitted whole;
        comes = comes_to h sources from dests to log mid hooks admitted whole why one two over;
        closes = closes_as h.by why from to mid after hooks given admitted whole rest ends.closed ends.closes;
        sources = refl;
        dests = refl;
        admitted = refl;
        gone = out.1;
      };
      word = of_word (state_of sources dests log hooks admitted whole) h (λ place. LooksAndCloses v w place ends.closed)
          out.0 (record { looked = u; looks = looks; closes = ends.word });
    }))

-- so it is where the revision is given by what was left of it
pub over_out_steps : (h : Held) (by : Admitted) (why : Option Cause) (sources from dests to : List Link)
    (log mid after : List Entry) (hooks given : List Hook) (admitted : List Admitted) (whole rest later : List Held)
    (v u w : View) (answer : Stepped) → AreInOrder sources → AreInOrder dests → IsOut h whole rest → by ≡ h.by
    → later ≡ rest → IsOver h sources from dests to log mid why
    → FindsMark v u (place_of h.by.job.0 h.by.rev) (At Running) → Finishes by why mid after hooks given u w answer
    → Steps (state_of sources dests log hooks admitted whole) (state_of from to after given admitted later)
    h.by.job v w answer
over_out_steps h by why sources from dests to log mid after hooks given admitted whole rest later v u w answer one two out is
    same over looks ends =
    subst (λ (held : List Held). Steps (state_of sources dests log hooks admitted whole)
    (state_of from to after given admitted held) h.by.job v w answer) (sym same)
    (ended_steps h why sources from dests to log mid after hooks given admitted whole rest v u w answer one two out over looks
    (subst (λ (a : Admitted). Finishes a why mid after hooks given u w answer) is ends))

-- ---- what was taken out

pub taken_free : (job : ℕ) (h : Held) (before after : List Held) → Some h ≡ held_at before job
    → HeldAfter job None before after → held_at after h.by.job.0 ≡ None
taken_free job h before after is gone =
    subst (λ (n : ℕ). held_at after n ≡ None) (sym (held_job before job h (sym is)))
    (gone job ∙ ap (λ (b : Bool). if b then None else held_at before job) (nat_eq_equiv.refl job))

pub taken_job : (s : State) (job jobs : ℕ) (h : Held) (inside : List Held) → inside ≡ s.held
    → Some h ≡ held_at inside job → IfSome (held_at s.held job) (λ held. job ≤ jobs) → h.by.job.0 ≤ jobs
taken_job s job jobs h inside same is within =
    subst (λ (n : ℕ). n ≤ jobs) (sym (held_job inside job h (sym is)))
    (subst (λ (o : Option Held). IfSome o (λ held. job ≤ jobs))
    (sym (is ∙ ap (λ (held : List Held). held_at held job) same)) within)

pub taken_out : (job : ℕ) (h : Held) (before after : List Held) → Some h ≡ held_at before job
    → HeldAfter job None before after → IsOut h before after
taken_out job h before after is gone =
    let e : job ≡ h.by.job.0 = sym (held_job before job h (sym is)) in
    (subst (λ (n : ℕ). held_at before n ≡ Some h) e (sym is), subst (λ (n : ℕ). HeldAfter n None before after) e gone)

pub steps_as : (s s2 t t2 : State) (job job2 : JobNo) (v w : View) (answer : Stepped) → s ≡ s2 → t ≡ t2 → job ≡ job2
    → Steps s t job v w answer → Steps s2 t2 job2 v w answer
steps_as s s2 t t2 job job2 v w answer one two three steps =
    subst (λ (x : State). Steps x t2 job2 v w answer) one
    (subst (λ (x : State). Steps s x job2 v w answer) two
    (subst (λ (x : JobNo). Steps s t x v w answer) three steps))

-- ---- what was lent of a vector, and is whole again

pub lent_back : {A : Type 0} (n : ℕ) (new old : List A) → length new ≡ n → take n (new ++ drop (length new) old) ≡ new
lent_back n new old is =
    ap (λ (k : ℕ). take k (new ++ drop (length new) old)) (sym is) ∙ take-append_seam new (drop (length new) old)

pub state_back : {A : Type 0} (seen : A → Reg) (n m : ℕ) (s s0 d d0 : List (Conn A)) (log : List Entry) (hooks : List Hook)
    (admitted : List Admitted) (held : List Held) → length s ≡ n → length d ≡ m
    → state_of (links_of seen s) (links_of seen d) log hooks admitted held
    ≡ state_of (links_of seen (take n (s ++ drop (length s) s0))) (links_of seen (take m (d ++ drop (length d) d0)))
    log hooks admitted held
state_back {A} seen n m s s0 d d0 log hooks admitted held one two =
    ap (λ (x : List (Conn A)). state_of (links_of seen x) (links_of seen d) log hooks admitted held)
    (sym (lent_back n s s0 one))
    ∙ ap (λ (x : List (Conn A)). state_of (links_of seen (take n (s ++ drop (length s) s0))) (links_of seen x) log hooks
    admitted held) (sym (lent_back m d d0 two))
