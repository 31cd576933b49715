-- Admissions and steps keep the promise of each destination, and the work of each revision that is
-- held.
use Rattle.std.proofs.Common.{◌≡◌, inl, inr, refl, sym, ap, subst, ◌∙◌, ℕ, List, [], ◌∷◌, ◌++◌}
use Rattle.std.specs.Option.{is_some}
use Rattle.std.specs.Prelude.{◌≢◌, Option, Some, None, IfSome, IsSome, IsTrue, Contains, Result, Ok, Err, map, nat_eq, option_and_then}
use Rattle.hr_base.specs.declared.number.JobNo.{JobNo}
use Rattle.hr_base.specs.declared.number.RegNo.{RegNo}
use Rattle.hr_base.specs.declared.status.Mark.{Mark}
use Rattle.hr_base.specs.declared.status.Status.{Status}
use Rattle.hr_base.specs.Bytes.{ByteList}
use Rattle.hr_digest.specs.declared.digest.Digest.{Digest}
use Rattle.hr_name.specs.Tag.{TagName}
use Rattle.hr_event.specs.declared.cause.Cause.{Cause}
use Rattle.hr_event.specs.declared.entry.Entry.{Entry}
use Rattle.hr_event.specs.declared.entry.What.{What}
use Rattle.hr_event.specs.declared.entry.What.TheVariants as what
use Rattle.hr_adapter.specs.Content.{Content, Honest}
use Rattle.hr_adapter.specs.Reg.{IsSound, Reg}
use Rattle.hr_journal.specs.Grows.{Grows}
use Rattle.hr_journal.specs.OneEach.{Means, Measures, OneEach}
use Rattle.hr_journal.specs.Promise.{Promise}
use Rattle.hr_journal.specs.Says.{Placement, placed}
use Rattle.hr_journal.specs.Shown.{AreAlike}
use Rattle.hr_journal.specs.Still.{IsStill}
use Rattle.hr_journal.proofs.ListLaws.{each_then}
use Rattle.hr_journal.proofs.PromiseLaws.{each_before, promise_alike, promise_elsewhere, promise_still}
use Rattle.hr_line.specs.Admission.{Admits, Begins, held_first}
use Rattle.hr_line.specs.Destination.{AreKept, EndStands, HeldStands, IsKept, WorkStands}
use Rattle.hr_line.specs.Line.{LineEnd, entry_of}
use Rattle.hr_line.specs.Orderly.{IsHeldAs, IsNew, IsOrderly, place_at, placement}
use Rattle.hr_line.specs.State.{AreSound, HeldAfter, Link, State, held_at, link_at, with_link}
use Rattle.hr_line.specs.Step.{Closes, ComesToEnd, DoesLine, Ends, Rests, Step, goes_on, next_tag}
use Rattle.hr_line.specs.declared.answer.Admit.{Admit}
use Rattle.hr_line.specs.declared.answer.Admit.TheVariants as admit
use Rattle.hr_line.specs.declared.answer.Stepped.{Stepped}
use Rattle.hr_line.specs.declared.answer.Stepped.TheVariants as stepped
use Rattle.hr_line.specs.declared.held.Admitted.{Admitted}
use Rattle.hr_line.specs.declared.held.Held.{Held}
use Rattle.hr_line.specs.declared.held.Work.{Work}
use Rattle.hr_line.proofs.CalmLemmas.{IsCalm}
use Rattle.hr_line.proofs.DestinationLemmas.{LineStands, grows_itself}
use Rattle.hr_line.proofs.LastLemmas.{Wrote, wrote_one}
use Rattle.hr_line.proofs.LinkLemmas.{equal_false, equal_true, held_other, held_same, if_false, if_true, link_other, link_same, link_sound, number_cases, registry_same}
use Rattle.hr_line.proofs.OrderlyLemmas.{closes_wrote, end_admitted, end_wrote, is_held, line_does, places_alike}
use Rattle.hr_line.proofs.PutLemmas.{line_stands}
use Rattle.hr_line.proofs.StandsLemmas.{work_apart}

-- ---- where a revision writes

-- at its own destination it writes its repository
pub placed_here : (s : State) (job : ℕ) (h : Held) (reg : RegNo) → IsOrderly s → held_at s.held job ≡ Some h
    → h.by.spec.dst.0 ≡ reg.0 → placement reg s.admitted h.by.job.0 h.by.rev ≡ Some h.by.spec.to
placed_here s job h reg orderly here same =
    ap (option_and_then (place_at reg)) (is_held s job h orderly here).admitted
    ∙ if_true (nat_eq h.by.spec.dst.0 reg.0) (Some h.by.spec.to) None (equal_true h.by.spec.dst.0 reg.0 same)

-- at another one it writes nothing
pub placed_elsewhere : (s : State) (job : ℕ) (h : Held) (reg : RegNo) → IsOrderly s → held_at s.held job ≡ Some h
    → h.by.spec.dst.0 ≢ reg.0 → placement reg s.admitted h.by.job.0 h.by.rev ≡ None
placed_elsewhere s job h reg orderly here apart =
    ap (option_and_then (place_at reg)) (is_held s job h orderly here).admitted
    ∙ if_false (nat_eq h.by.spec.dst.0 reg.0) (Some h.by.spec.to) None (equal_false h.by.spec.dst.0 reg.0 apart)

elsewhere_more : (to : Placement) (o : Content) (a : Admitted) (more : List What) (log : List Entry) (c : Content)
    → to a.job.0 a.rev ≡ None → Promise to o log c → Promise to o (map (entry_of a) more ++ log) c
elsewhere_more to o a [] log c none promise = promise
elsewhere_more to o a (said ∷ more) log c none promise =
    promise_elsewhere to o (entry_of a said) (map (entry_of a) more ++ log) c (elsewhere_more to o a more log c none promise) none

-- entries of a revision that writes elsewhere keep the promise
promise_apart : (to : Placement) (o : Content) (a : Admitted) (older newer : List Entry) (c : Content) → Wrote a older newer
    → to a.job.0 a.rev ≡ None → Promise to o older c → Promise to o newer c
promise_apart to o a older newer c wrote none promise =
    subst (λ (es : List Entry). Promise to o es c) (sym wrote.joined) (elsewhere_more to o a wrote.more older c none promise)

-- ---- a destination after a part of a step

-- a destination of these connections, which had this content, keeps its promise, and lost nothing
record DestKept (to : Placement) (o : Content) (reg : RegNo) (dests : List Link) (log : List Entry) (b : Content) : Type 0 where
  now : Reg
  there : link_at dests reg ≡ Some now
  quiet : IsTrue now.quiet
  content : Content
  told : now.told ≡ Some content
  promise : Promise to o log content
  grows : OneEach to o log → Grows b content

dest_itself : (to : Placement) (o : Content) (reg : RegNo) (dests : List Link) (log : List Entry) (now : Reg) (c : Content)
    → link_at dests reg ≡ Some now → IsTrue now.quiet → now.told ≡ Some c → Promise to o log c → DestKept to o reg dests log c
dest_itself to o reg dests log now c there quiet told promise = record {
  now = now;
  there = there;
  quiet = quiet;
  content = c;
  told = told;
  promise = promise;
  grows = λ each. grows_itself c;
}

-- an entry by which nothing is put
dest_still : (to : Placement) (o : Content) (reg : RegNo) (dests : List Link) (a : Admitted) (said : What) (log : List Entry) (b : Content)
    → IsStill said → DestKept to o reg dests log b → DestKept to o reg dests (entry_of a said ∷ log) b
dest_still to o reg dests a said log b still kept = record {
  now = kept.now;
  there = kept.there;
  quiet = kept.quiet;
  content = kept.content;
  told = kept.told;
  promise = promise_still to o (entry_of a said ∷ []) log kept.content kept.promise (still, tt);
  grows = λ each. kept.grows (each_before to o (entry_of a said) log each);
}

-- the same connections and the same journal
dest_same : (to : Placement) (o : Content) (reg : RegNo) (dests other : List Link) (log newer : List Entry) (b : Content)
    → other ≡ dests → newer ≡ log → DestKept to o reg dests log b → DestKept to o reg other newer b
dest_same to o reg dests other log newer b links writes kept =
    subst (λ (ls : List Link). DestKept to o reg ls newer b) (sym links)
    (subst (λ (es : List Entry). DestKept to o reg dests es b) (sym writes) kept)

-- ---- a line

-- the work of the revision whose turn it is
work_held : (to : Placement) (o : Content) (a : Admitted) (log : List Entry) (c : Content) (work : Option Work) (next : Option TagName)
    (tag : TagName) → next ≡ Some tag → IfSome work (λ w. IfSome next (λ t. WorkStands to o a t log c w))
    → IfSome work (WorkStands to o a tag log c)
work_held to o a log c None next tag is stands = tt
work_held to o a log c (Some w) next tag is stands =
    subst (λ (n : Option TagName). IfSome n (λ t. WorkStands to o a t log c w)) is stands

same_seen : (found : Option Reg) (p q : Reg) → found ≡ Some p → found ≡ Some q → p ≡ q
same_seen found p q one other = let both : Some p ≡ Some q = sym one ∙ other in cc

module _ (s t : State) (reg : RegNo) (o : Content) (job : ℕ) (h : Held) (orderly : IsOrderly s)
    (here : held_at s.held job ≡ Some h) (sound : AreSound s.dests) (kept : IsKept s reg o) where
  abbrev places : Placement
  places = placement reg s.admitted

  -- what a line with this end leaves of the destination, and of the work on it
  record LineLeaves (tag : TagName) (end : LineEnd) : Type 0 where
    dest : DestKept places o reg t.dests t.log kept.content
    stands : h.by.spec.dst ≡ reg → EndStands places o h.by tag t.log dest.content end

  held_work : h.by.spec.dst ≡ reg → IfSome h.work
      (λ w. IfSome (next_tag h) (λ tag. WorkStands places o h.by tag s.log kept.content w))
  held_work same =
      (subst (λ (x : Option Held). IfSome x (HeldStands reg places o s.log kept.content)) here (kept.kept.held job)).work same

  -- at the destination of the revision
  line_here : (end : LineEnd) → (line : DoesLine h s t end) → h.by.spec.dst.0 ≡ reg.0 → LineLeaves line.tag end
  line_here end line same =
      let dst : h.by.spec.dst ≡ reg = registry_same h.by.spec.dst reg same in
      let p_there : link_at s.dests reg ≡ Some line.p = subst (λ (r : RegNo). link_at s.dests r ≡ Some line.p) dst line.moves.dest in
      let p_is : kept.now ≡ line.p = same_seen (link_at s.dests reg) kept.now line.p kept.there p_there in
      let calm : IsCalm line.p kept.content = record {
        sound = subst (λ (x : Option Reg). IfSome x IsSound) p_there (link_sound s.dests reg sound);
        quiet = subst (λ (x : Reg). IsTrue x.quiet) p_is kept.quiet;
        told = ap (λ (x : Reg). x.told) (sym p_is) ∙ kept.told;
      } in
      let after : LineStands places o h.by line.tag t.log kept.content line.q end =
      line_stands places o h.by line.tag (placed_here s job h reg orderly here same) h.work line.f line.g line.p line.q s.log t.log
      kept.content end calm kept.kept.promise
      (work_held places o h.by s.log kept.content h.work (next_tag h) line.tag line.next (held_work dst)) line.line in
      record {
        dest = record {
          now = line.q;
          there = ap (λ (ls : List Link). link_at ls reg) line.moves.dests
              ∙ ap (λ (r : RegNo). link_at (with_link s.dests r line.q) reg) dst
              ∙ link_same s.dests reg line.q line.p p_there;
          quiet = after.quiet;
          content = after.content;
          told = after.told;
          promise = after.promise;
          grows = after.grows;
        };
        stands = λ _. after.stands;
      }

  -- at another destination
  line_elsewhere : (end : LineEnd) → (line : DoesLine h s t end) → h.by.spec.dst.0 ≢ reg.0 → LineLeaves line.tag end
  line_elsewhere end line apart = record {
    dest = dest_itself places o reg t.dests t.log kept.now kept.content
        (ap (λ (ls : List Link). link_at ls reg) line.moves.dests
        ∙ link_other s.dests h.by.spec.dst reg line.q (λ e. apart (sym e)) ∙ kept.there)
        kept.quiet kept.told
        (promise_apart places o h.by s.log t.log kept.content (line_does h s t end line)
        (placed_elsewhere s job h reg orderly here apart) kept.kept.promise);
    stands = λ same. absurd (apart (ap (λ (r : RegNo). r.0) same));
  }

  line_leaves : (end : LineEnd) → (line : DoesLine h s t end) → LineLeaves line.tag end
  line_leaves end line = elim (number_cases h.by.spec.dst.0 reg.0) [
    | inl same ↦ line_here end line same
    | inr apart ↦ line_elsewhere end line apart
  ]

  rests_leaves : Rests s t → DestKept places o reg t.dests t.log kept.content
  rests_leaves rests =
      dest_same places o reg s.dests t.dests s.log t.log kept.content rests.dests rests.log
      (dest_itself places o reg s.dests s.log kept.now kept.content kept.there kept.quiet kept.told kept.kept.promise)

  -- what leads to the end of the revision
  end_leaves : (why : Option Cause) → ComesToEnd h s t why → DestKept places o reg t.dests t.log kept.content
  end_leaves None comes = rests_leaves comes.1
  end_leaves (Some why) (inl line) = (line_leaves (Err why) line).dest
  end_leaves (Some why) (inr rests) = rests_leaves rests.1

  -- the other revisions that are held, and this one as it is now
  kept_by : (now : Option Held) → Wrote h.by s.log t.log → t.admitted ≡ s.admitted → HeldAfter job now s.held t.held
      → (dest : DestKept places o reg t.dests t.log kept.content) → IfSome now (HeldStands reg places o t.log dest.content)
      → IsKept t reg o
  kept_by now wrote admitted after dest stands = record {
    now = dest.now;
    there = dest.there;
    quiet = dest.quiet;
    content = dest.content;
    told = dest.told;
    kept = record {
      promise = subst (λ (all : List Admitted). Promise (placement reg all) o t.log dest.content) (sym admitted) dest.promise;
      held = λ other.
          subst (λ (all : List Admitted). IfSome (held_at t.held other) (HeldStands reg (placement reg all) o t.log dest.content))
          (sym admitted) (elim (number_cases other job) [ inl is ↦ own other is | inr apart ↦ others other apart ]);
    };
  }
    where
      own : (other : ℕ) → other ≡ job → IfSome (held_at t.held other) (HeldStands reg places o t.log dest.content)
      own other is =
          subst (λ (x : Option Held). IfSome x (HeldStands reg places o t.log dest.content))
          (sym (ap (held_at t.held) is ∙ held_same job now s.held t.held after)) stands

      some_work : (k : Held) → h.by.job.0 ≢ k.by.job.0 → (work : Option Work) (next : Option TagName)
          → IfSome work (λ w. IfSome next (λ tag. WorkStands places o k.by tag s.log kept.content w))
          → IfSome work (λ w. IfSome next (λ tag. WorkStands places o k.by tag t.log dest.content w))
      some_work k apart None next had = tt
      some_work k apart (Some w) None had = tt
      some_work k apart (Some w) (Some tag) had =
          work_apart places o k.by tag h.by s.log t.log w kept.content dest.content wrote apart dest.grows had

      one : (other : ℕ) → other ≢ job → (found : Option Held) → IfSome found (IsHeldAs s.admitted other)
          → IfSome found (HeldStands reg places o s.log kept.content) → IfSome found (HeldStands reg places o t.log dest.content)
      one other apart None as_held had = tt
      one other apart (Some k) as_held had = record {
        work = λ same. some_work k
            (λ e. apart (sym as_held.job ∙ sym e ∙ (is_held s job h orderly here).job)) k.work (next_tag k) (had.work same);
      }

      others : (other : ℕ) → other ≢ job → IfSome (held_at t.held other) (HeldStands reg places o t.log dest.content)
      others other apart =
          subst (λ (x : Option Held). IfSome x (HeldStands reg places o t.log dest.content))
          (sym (held_other job now s.held t.held other after apart))
          (one other apart (held_at s.held other) (orderly.held other) (kept.kept.held other))

  -- ---- each part of a step

  going_work : (tag : TagName) (work : Option Work) (c : Content) → next_tag h ≡ Some tag
      → (h.by.spec.dst ≡ reg → EndStands places o h.by tag t.log c (Ok work))
      → HeldStands reg places o t.log c (goes_on h work)
  going_work tag None c next stands = record { work = λ same. tt }
  going_work tag (Some w) c next stands = record {
    work = λ same. subst (λ (n : Option TagName). IfSome n (λ x. WorkStands places o h.by x t.log c w)) (sym next) (stands same);
  }

  goes_kept : (work : Option Work) → DoesLine h s t (Ok work) → HeldAfter job (Some (goes_on h work)) s.held t.held → IsKept t reg o
  goes_kept work line after =
      let leaves = line_leaves (Ok work) line in
      kept_by (Some (goes_on h work)) (line_does h s t (Ok work) line) line.admitted after leaves.dest
      (going_work line.tag work leaves.dest.content line.next leaves.stands)

  drops_kept : (mark : What) → IsStill mark → t.log ≡ entry_of h.by mark ∷ s.log → t.dests ≡ s.dests → t.admitted ≡ s.admitted
      → HeldAfter job None s.held t.held → IsKept t reg o
  drops_kept mark still writes dests admitted after =
      kept_by None (wrote_one h.by mark s.log t.log writes) admitted after
      (dest_same places o reg s.dests t.dests (entry_of h.by mark ∷ s.log) t.log kept.content dests writes
      (dest_still places o reg s.dests h.by mark s.log kept.content still
      (dest_itself places o reg s.dests s.log kept.now kept.content kept.there kept.quiet kept.told kept.kept.promise))) tt

closed_kept : (to : Placement) (o : Content) (reg : RegNo) (a : Admitted) (why : Option Cause) (mid t : State) (closed : Result Status Mark)
    (b : Content) → Closes a why mid t closed → t.dests ≡ mid.dests → DestKept to o reg mid.dests mid.log b
    → DestKept to o reg t.dests t.log b
closed_kept to o reg a why mid t (Ok status) b closes dests kept =
    dest_same to o reg mid.dests t.dests (entry_of a (what.Ended status why) ∷ mid.log) t.log b dests closes.1
    (dest_still to o reg mid.dests a (what.Ended status why) mid.log b tt kept)
closed_kept to o reg a why mid t (Err mark) b closes dests kept =
    dest_same to o reg mid.dests t.dests (entry_of a what.Dropped ∷ mid.log) t.log b dests closes.0
    (dest_still to o reg mid.dests a what.Dropped mid.log b tt kept)

ends_kept : (s t : State) (reg : RegNo) (o : Content) (job : JobNo) (closed : Result Status Mark) → IsOrderly s → AreSound s.dests
    → IsKept s reg o → Ends s t job closed → IsKept t reg o
ends_kept s t reg o job closed orderly sound kept ends =
    kept_by s t reg o job.0 ends.held orderly ends.here sound kept None
    (closes_wrote ends.held.by ends.why s.log ends.mid t closed (end_wrote ends.held s ends.mid ends.why ends.comes) ends.closes)
    (ends.admitted ∙ end_admitted ends.held s ends.mid ends.why ends.comes) ends.gone
    (closed_kept (placement reg s.admitted) o reg ends.held.by ends.why ends.mid t closed kept.content ends.closes ends.dests
    (end_leaves s ends.mid reg o job.0 ends.held orderly ends.here sound kept ends.why ends.comes)) tt

-- each step keeps a destination's promise
pub step_kept : (s t : State) (job : JobNo) (answer : Stepped) (reg : RegNo) (o : Content) → IsOrderly s → AreSound s.dests
    → Step s t job answer → IsKept s reg o → IsKept t reg o
step_kept s t job stepped.NotHere reg o orderly sound step kept = subst (λ (x : State). IsKept x reg o) (sym step.1) kept
step_kept s t job stepped.Did reg o orderly sound step kept =
    goes_kept s t reg o job.0 step.held orderly step.here sound kept step.work step.line step.now
step_kept s t job (stepped.Lost mark) reg o orderly sound (inl drops) kept =
    drops_kept s t reg o job.0 drops.held orderly drops.here sound kept what.Dropped tt drops.log drops.dests drops.admitted drops.gone
step_kept s t job (stepped.Lost mark) reg o orderly sound (inr ends) kept =
    ends_kept s t reg o job (Err mark) orderly sound kept ends
step_kept s t job (stepped.Ended status) reg o orderly sound step kept =
    ends_kept s t reg o job (Ok status) orderly sound kept step

-- each step keeps the promises of all destinations
pub step_keeps : (opened : List Link) (s t : State) (job : JobNo) (answer : Stepped) → IsOrderly s → AreSound s.dests
    → Step s t job answer → AreKept opened s → AreKept opened t
step_keeps opened s t job answer orderly sound step kept =
    each_then {P = λ l. IsTrue l.seen.quiet → IfSome l.seen.told (λ o. Honest o → IsKept s l.reg o)}
    {Q = λ l. IsTrue l.seen.quiet → IfSome l.seen.told (λ o. Honest o → IsKept t l.reg o)}
    (λ l had quiet. one l l.seen.told (had quiet)) opened kept
  where
    one : (l : Link) (told : Option Content) → IfSome told (λ o. Honest o → IsKept s l.reg o)
        → IfSome told (λ o. Honest o → IsKept t l.reg o)
    one l None had = tt
    one l (Some o) had = λ honest. step_kept s t job answer l.reg o orderly sound step (had honest)

-- ---- an admission

-- two placements that are alike at a journal place each entry of it, or neither does
some_place : (to other : Placement) (log : List Entry) → AreAlike to other log → (e : Entry) → Contains log e
    → IsSome (placed to e) → IsSome (placed other e)
some_place to other log alike e within place = ap is_some (sym (alike e within)) ∙ place

means_alike : (to other : Placement) (o : Content) (log : List Entry) → AreAlike to other log
    → (d : Digest) (bytes : ByteList) → Means to o log d bytes → Means other o log d bytes
means_alike to other o log alike d bytes (Means.opened repo media there) = Means.opened repo media there
means_alike to other o log alike d bytes (Means.tagged e tag media within place is own) =
    Means.tagged e tag media within (some_place to other log alike e within place) is own
means_alike to other o log alike d bytes (Means.child e media within place is) =
    Means.child e media within (some_place to other log alike e within place) is

measures_alike : (to other : Placement) (o : Content) (log : List Entry) → AreAlike to other log
    → (d : Digest) (len : ℕ) → Measures to o log d len → Measures other o log d len
measures_alike to other o log alike d len (Measures.opened repo is) = Measures.opened repo is
measures_alike to other o log alike d len (Measures.found e within place is) =
    Measures.found e within (some_place to other log alike e within place) is
measures_alike to other o log alike d len (Measures.got e within place is) =
    Measures.got e within (some_place to other log alike e within place) is

each_alike : (to other : Placement) (o : Content) (log : List Entry) → AreAlike to other log → OneEach other o log → OneEach to o log
each_alike to other o log alike each = record {
  manifests = λ d a b p q. each.manifests d a b (means_alike to other o log alike d a p) (means_alike to other o log alike d b q);
  blobs = λ d m n p q. each.blobs d m n (measures_alike to other o log alike d m p) (measures_alike to other o log alike d n q);
}

work_alike : (to other : Placement) (o : Content) (a : Admitted) (tag : TagName) (log : List Entry) (c : Content) (w : Work)
    → AreAlike to other log → WorkStands to o a tag log c w → WorkStands other o a tag log c w
work_alike to other o a tag log c w alike stands = record {
  sound = stands.sound;
  going = stands.going;
  walk = record {
    read = stands.walk.read;
    readable = stands.walk.readable;
    standing = λ each. stands.walk.standing (each_alike to other o log alike each);
  };
}

module _ (s t : State) (reg : RegNo) (o : Content) (a : Admitted) (orderly : IsOrderly s) (new : IsNew s.admitted a)
    (begins : Begins s t a) (kept : IsKept s reg o) where
  abbrev before : Placement
  before = placement reg s.admitted

  abbrev after : Placement
  after = placement reg (a ∷ s.admitted)

  alike : AreAlike (placement reg s.admitted) (placement reg (a ∷ s.admitted)) s.log
  alike = places_alike reg s.admitted a s.log new orderly.logged

  abbrev newer : List Entry
  newer = entry_of a what.Began ∷ s.log

  begun_work : (k : Held) → a.job.0 ≢ k.by.job.0 → (work : Option Work) (next : Option TagName)
      → IfSome work (λ w. IfSome next (λ tag. WorkStands before o k.by tag s.log kept.content w))
      → IfSome work (λ w. IfSome next (λ tag. WorkStands after o k.by tag newer kept.content w))
  begun_work k apart None next had = tt
  begun_work k apart (Some w) None had = tt
  begun_work k apart (Some w) (Some tag) had =
      work_apart after o k.by tag a s.log newer w kept.content kept.content (wrote_one a what.Began s.log newer refl) apart
      (λ each. grows_itself kept.content) (work_alike before after o k.by tag s.log kept.content w alike had)

  begun_one : (other : ℕ) → other ≢ a.job.0 → (found : Option Held) → IfSome found (IsHeldAs s.admitted other)
      → IfSome found (HeldStands reg before o s.log kept.content) → IfSome found (HeldStands reg after o newer kept.content)
  begun_one other apart None as_held had = tt
  begun_one other apart (Some k) as_held had = record {
    work = λ same. begun_work k (λ e. apart (sym as_held.job ∙ sym e)) k.work (next_tag k) (had.work same);
  }

  begun_held : (other : ℕ) → IfSome (held_at t.held other) (HeldStands reg after o newer kept.content)
  begun_held other = elim (number_cases other a.job.0) [
    | inl is ↦
        subst (λ (x : Option Held). IfSome x (HeldStands reg after o newer kept.content))
        (sym (ap (held_at t.held) is ∙ held_same a.job.0 (Some (held_first a)) s.held t.held begins.held))
        (record { work = λ same. tt })
    | inr apart ↦
        subst (λ (x : Option Held). IfSome x (HeldStands reg after o newer kept.content))
        (sym (held_other a.job.0 (Some (held_first a)) s.held t.held other begins.held apart))
        (begun_one other apart (held_at s.held other) (orderly.held other) (kept.kept.held other))
  ]

  begins_kept : IsKept t reg o
  begins_kept = record {
    now = kept.now;
    there = ap (λ (ls : List Link). link_at ls reg) begins.dests ∙ kept.there;
    quiet = kept.quiet;
    content = kept.content;
    told = kept.told;
    kept = record {
      promise = subst (λ (all : List Admitted). Promise (placement reg all) o t.log kept.content) (sym begins.admitted)
          (subst (λ (es : List Entry). Promise after o es kept.content) (sym begins.log)
          (promise_still after o (entry_of a what.Began ∷ []) s.log kept.content
          (promise_alike before after o s.log kept.content alike kept.kept.promise) (tt, tt)));
      held = λ other.
          subst (λ (all : List Admitted). IfSome (held_at t.held other) (HeldStands reg (placement reg all) o t.log kept.content))
          (sym begins.admitted)
          (subst (λ (es : List Entry). IfSome (held_at t.held other) (HeldStands reg after o es kept.content)) (sym begins.log)
          (begun_held other));
    };
  }

admits_kept : (s t : State) (a : Admitted) (answer : Admit) (reg : RegNo) (o : Content) → IsOrderly s → IsNew s.admitted a
    → Admits s t a answer → IsKept s reg o → IsKept t reg o
admits_kept s t a admit.Began reg o orderly new admits kept = begins_kept s t reg o a orderly new admits kept
admits_kept s t a (admit.Lost mark) reg o orderly new admits kept = subst (λ (x : State). IsKept x reg o) (sym admits) kept
admits_kept s t a admit.Memory reg o orderly new admits kept = subst (λ (x : State). IsKept x reg o) (sym admits) kept

-- each admission of a revision that wasn't admitted before keeps the promises of all destinations
pub admits_keeps : (opened : List Link) (s t : State) (a : Admitted) (answer : Admit) → IsOrderly s → IsNew s.admitted a
    → Admits s t a answer → AreKept opened s → AreKept opened t
admits_keeps opened s t a answer orderly new admits kept =
    each_then {P = λ l. IsTrue l.seen.quiet → IfSome l.seen.told (λ o. Honest o → IsKept s l.reg o)}
    {Q = λ l. IsTrue l.seen.quiet → IfSome l.seen.told (λ o. Honest o → IsKept t l.reg o)}
    (λ l had quiet. one l l.seen.told (had quiet)) opened kept
  where
    one : (l : Link) (told : Option Content) → IfSome told (λ o. Honest o → IsKept s l.reg o)
        → IfSome told (λ o. Honest o → IsKept t l.reg o)
    one l None had = tt
    one l (Some o) had = λ honest. admits_kept s t a answer l.reg o orderly new admits (had honest)
