-- The cause of each error goes on being shown, and the work of each revision that is held has its
-- evidence.
use Rattle.std.proofs.Common.{◌≡◌, inl, inr, refl, sym, ap, subst, ◌∙◌, ℕ, List, [], ◌∷◌, ◌++◌, arith}
use Rattle.std.specs.Prelude.{Option, Some, None, IfSome, IsSome, Result, Ok, Err, map}
use Rattle.std.specs.List.{AllByRecursion}
use Rattle.hr_base.specs.declared.number.JobNo.{JobNo}
use Rattle.hr_base.specs.declared.number.RegNo.{RegNo}
use Rattle.hr_base.specs.declared.status.Mark.{Mark}
use Rattle.hr_base.specs.declared.status.Status.{Status}
use Rattle.hr_event.specs.declared.cause.Cause.{Cause}
use Rattle.hr_event.specs.declared.entry.Entry.{Entry}
use Rattle.hr_event.specs.declared.entry.What.{What}
use Rattle.hr_event.specs.declared.entry.What.TheVariants as what
use Rattle.hr_adapter.specs.Reg.{Reg}
use Rattle.hr_journal.proofs.ListLaws.{each_then}
use Rattle.hr_line.specs.Admission.{Admits, Begins, held_first}
use Rattle.hr_line.specs.Causes.{AreCausesShown, IsCauseShown, SaysCause}
use Rattle.hr_line.specs.Evidence.{IsShown}
use Rattle.hr_line.specs.Kept.{EndSeen, WorkSeen}
use Rattle.hr_line.specs.Line.{LineEnd, entry_of}
use Rattle.hr_line.specs.Orderly.{IsNew, IsOrderly, admitted_at}
use Rattle.hr_line.specs.State.{AreSound, HeldAfter, Link, State, held_at, link_at, with_link}
use Rattle.hr_line.specs.Step.{Closes, ComesToEnd, DoesLine, Ends, Step, goes_on}
use Rattle.hr_line.specs.declared.answer.Admit.{Admit}
use Rattle.hr_line.specs.declared.answer.Admit.TheVariants as admit
use Rattle.hr_line.specs.declared.answer.Stepped.{Stepped}
use Rattle.hr_line.specs.declared.answer.Stepped.TheVariants as stepped
use Rattle.hr_line.specs.declared.held.Admitted.{Admitted}
use Rattle.hr_line.specs.declared.held.Held.{Held}
use Rattle.hr_line.specs.declared.held.Work.{Work}
use Rattle.hr_line.proofs.EvidenceLemmas.{work_later}
use Rattle.hr_line.proofs.FinalLemmas.{comes_says, line_says}
use Rattle.hr_line.proofs.LaterLemmas.{dest_itself, line_dest, line_source}
use Rattle.hr_line.proofs.LinkLemmas.{held_other, held_same, link_other, link_same, number_cases, registry_same}
use Rattle.hr_line.proofs.ListLemmas.{get_contains}
use Rattle.hr_line.proofs.OrderlyLemmas.{end_admitted, is_held, older_admitted}
use Rattle.hr_line.proofs.OriginLemmas.{sound_at}
use Rattle.hr_line.proofs.ShownLemmas.{IsLaterDest, IsLaterSource, shown_later, shown_on}
use Rattle.hr_line.proofs.SourceLemmas.{read_same}
use Rattle.hr_line.proofs.StepLemmas.{line_seen}
use Rattle.hr_line.proofs.WroteLemmas.{EndsNone, Unended, unended_one, unended_then}

-- ---- connections later on

source_itself : (f : Reg) → IsLaterSource f f
source_itself f = record { read = read_same f f refl; faults = omega arith }

-- what a connection was before one of them did something
link_back : (R : Reg → Reg → Type 0) → ((x : Reg) → R x x) → (links : List Link) (r : RegNo) (f g : Reg) → link_at links r ≡ Some f
    → R f g → (q : RegNo) (seen : Reg) → link_at (with_link links r g) q ≡ Some seen
    → (x : Reg) × (link_at links q ≡ Some x) × R x seen
link_back R itself links r f g there later q seen now = elim (number_cases q.0 r.0) [
  | inl same ↦
      let one : q ≡ r = registry_same q r same in
      let both : Some g ≡ Some seen =
      sym (link_same links r g f there) ∙ ap (link_at (with_link links r g)) (sym one) ∙ now in
      let is : g ≡ seen = cc in
      (f, ap (link_at links) one ∙ there, subst (λ (x : Reg). R f x) is later)
  | inr apart ↦ (seen, sym (link_other links r q g apart) ∙ now, itself seen)
]

-- the connections of each revision, as they are later on
abbrev AreLater : State → State → Type 0
AreLater s t = (a : Admitted) (source dest : Reg) → link_at t.sources a.spec.src ≡ Some source → link_at t.dests a.spec.dst ≡ Some dest
    → (f : Reg) × (p : Reg) × (link_at s.sources a.spec.src ≡ Some f) × (link_at s.dests a.spec.dst ≡ Some p)
    × IsLaterSource f source × IsLaterDest p dest

same_links : (s t : State) → t.sources ≡ s.sources → t.dests ≡ s.dests → AreLater s t
same_links s t sources dests a source dest from to = (
  source,
  dest,
  ap (λ (ls : List Link). link_at ls a.spec.src) (sym sources) ∙ from,
  ap (λ (ls : List Link). link_at ls a.spec.dst) (sym dests) ∙ to,
  source_itself source,
  dest_itself dest dest refl,
)

line_later : (h : Held) (s t : State) (end : LineEnd) → AreSound s.sources → AreSound s.dests → DoesLine h s t end → AreLater s t
line_later h s t end sources dests line a source dest from to =
    let f = link_back IsLaterSource source_itself s.sources h.by.spec.src line.f line.g line.moves.source
    (line_source h.by line.tag line.f line.g line.p line.q s.log t.log end h.work
    (sound_at s.sources h.by.spec.src line.f sources line.moves.source) line.line)
    a.spec.src source (ap (λ (ls : List Link). link_at ls a.spec.src) (sym line.moves.sources) ∙ from) in
    let p = link_back IsLaterDest (λ x. dest_itself x x refl) s.dests h.by.spec.dst line.p line.q line.moves.dest
    (line_dest h.by line.tag line.f line.g line.p line.q s.log t.log end
    (sound_at s.dests h.by.spec.dst line.p dests line.moves.dest) h.work line.line)
    a.spec.dst dest (ap (λ (ls : List Link). link_at ls a.spec.dst) (sym line.moves.dests) ∙ to) in
    (f.0, p.0, f.1, p.1, f.2, p.2)

-- ---- what shows a cause

shown_more : (a b : Admitted) (more : List What) (log : List Entry) (source dest : Reg) (why : Cause) → IsShown a log source dest why
    → IsShown a (map (entry_of b) more ++ log) source dest why
shown_more a b [] log source dest why shown = shown
shown_more a b (said ∷ more) log source dest why shown =
    shown_later a (entry_of b said) (map (entry_of b) more ++ log) source dest why (shown_more a b more log source dest why shown)

cause_later : (s t : State) (b : Admitted) → AreLater s t → Unended b s.log t.log → (a : Admitted) (why : Cause) → IsCauseShown s a why
    → IsCauseShown t a why
cause_later s t b later wrote a why had source dest from to =
    let back = later a source dest from to in
    subst (λ (es : List Entry). IsShown a es source dest why) (sym wrote.joined)
    (shown_more a b wrote.more s.log source dest why
    (shown_on a s.log back.0 source back.1 dest back.4 back.5 why (had back.0 back.1 back.2 back.3)))

says_later : (s t : State) (b : Admitted) → AreLater s t → Unended b s.log t.log → (a : Admitted) (said : What) → SaysCause s a said
    → SaysCause t a said
says_later s t b later wrote a (what.Ended status (Some why)) had = cause_later s t b later wrote a why had
says_later s t b later wrote a said had = tt

says_none : (t : State) (a : Admitted) (said : What) → EndsNone said → SaysCause t a said
says_none t a (what.Ended status cause) none = absurd none
says_none t a said none = tt

abbrev CauseAt : List Admitted → State → Entry → Type 0
CauseAt all t e = IfSome (admitted_at all e.job.0 e.rev) (λ a. SaysCause t a e.what)

if_later : (s t : State) (b : Admitted) → AreLater s t → Unended b s.log t.log → (found : Option Admitted) (said : What)
    → IfSome found (λ a. SaysCause s a said) → IfSome found (λ a. SaysCause t a said)
if_later s t b later wrote None said had = tt
if_later s t b later wrote (Some a) said had = says_later s t b later wrote a said had

if_none : (t : State) (found : Option Admitted) (said : What) → EndsNone said → IfSome found (λ a. SaysCause t a said)
if_none t None said none = tt
if_none t (Some a) said none = says_none t a said none

more_causes : (all : List Admitted) (t : State) (b : Admitted) (more : List What) (log : List Entry) → AllByRecursion EndsNone more
    → AllByRecursion (CauseAt all t) log → AllByRecursion (CauseAt all t) (map (entry_of b) more ++ log)
more_causes all t b [] log none says = says
more_causes all t b (said ∷ more) log none says = (
  if_none t (admitted_at all b.job.0 b.rev) said none.0,
  more_causes all t b more log none.1 says,
)

-- the causes that were shown are, with entries more that say no end
causes_on : (all : List Admitted) (s t : State) (b : Admitted) → AreLater s t → Unended b s.log t.log
    → AllByRecursion (CauseAt all s) s.log → AllByRecursion (CauseAt all t) t.log
causes_on all s t b later wrote says =
    subst (λ (es : List Entry). AllByRecursion (CauseAt all t) es) (sym wrote.joined)
    (more_causes all t b wrote.more s.log wrote.each
    (each_then {P = CauseAt all s} {Q = CauseAt all t}
    (λ e had. if_later s t b later wrote (admitted_at all e.job.0 e.rev) e.what had) s.log says))

-- ---- work

work_more : (a b : Admitted) (more : List What) (log : List Entry) (w : Work) → WorkSeen a log w
    → WorkSeen a (map (entry_of b) more ++ log) w
work_more a b [] log w seen = seen
work_more a b (said ∷ more) log w seen =
    work_later a (entry_of b said) (map (entry_of b) more ++ log) w (work_more a b more log w seen)

some_more : (a b : Admitted) (older newer : List Entry) → Unended b older newer → (work : Option Work) → IfSome work (WorkSeen a older)
    → IfSome work (WorkSeen a newer)
some_more a b older newer wrote None seen = tt
some_more a b older newer wrote (Some w) seen =
    subst (λ (es : List Entry). WorkSeen a es w) (sym wrote.joined) (work_more a b wrote.more older w seen)

seen_more : (b : Admitted) (older newer : List Entry) → Unended b older newer → (found : Option Held)
    → IfSome found (λ k. IfSome k.work (WorkSeen k.by older)) → IfSome found (λ k. IfSome k.work (WorkSeen k.by newer))
seen_more b older newer wrote None seen = tt
seen_more b older newer wrote (Some k) seen = some_more k.by b older newer wrote k.work seen

held_seen : (s t : State) (job : ℕ) (b : Admitted) (now : Option Held) → HeldAfter job now s.held t.held
    → ((found : Option Held) → IfSome found (λ k. IfSome k.work (WorkSeen k.by s.log))
    → IfSome found (λ k. IfSome k.work (WorkSeen k.by t.log)))
    → ((other : ℕ) → IfSome (held_at s.held other) (λ k. IfSome k.work (WorkSeen k.by s.log)))
    → IfSome now (λ k. IfSome k.work (WorkSeen k.by t.log))
    → (other : ℕ) → IfSome (held_at t.held other) (λ k. IfSome k.work (WorkSeen k.by t.log))
held_seen s t job b now after stay had own other = elim (number_cases other job) [
  | inl is ↦
      subst (λ (x : Option Held). IfSome x (λ k. IfSome k.work (WorkSeen k.by t.log)))
      (sym (ap (held_at t.held) is ∙ held_same job now s.held t.held after)) own
  | inr apart ↦
      subst (λ (x : Option Held). IfSome x (λ k. IfSome k.work (WorkSeen k.by t.log)))
      (sym (held_other job now s.held t.held other after apart)) (stay (held_at s.held other) (had other))
]

-- ---- a line

module _ (h : Held) (s t : State) (job : ℕ) (here : held_at s.held job ≡ Some h) (shown : AreCausesShown s)
    (after : AreSound t.sources) where
  own_work : IfSome h.work (WorkSeen h.by s.log)
  own_work = subst (λ (x : Option Held). IfSome x (λ k. IfSome k.work (WorkSeen k.by s.log))) here (shown.held job)

  end_seen : (end : LineEnd) → (line : DoesLine h s t end) → EndSeen h.by t.log line.g line.q end
  end_seen end line =
      line_seen h.by line.tag h.work line.f line.g line.p line.q s.log t.log end
      (get_contains h.by.spec.tags h.next line.tag line.next)
      (sound_at t.sources h.by.spec.src line.g after
      (ap (λ (ls : List Link). link_at ls h.by.spec.src) line.moves.sources
      ∙ link_same s.sources h.by.spec.src line.g line.f line.moves.source))
      own_work line.line

  -- the cause by which a line ended the revision
  line_cause : (why : Cause) → DoesLine h s t (Err why) → IsCauseShown t h.by why
  line_cause why line source dest from to =
      let g_now : link_at t.sources h.by.spec.src ≡ Some line.g =
      ap (λ (ls : List Link). link_at ls h.by.spec.src) line.moves.sources
      ∙ link_same s.sources h.by.spec.src line.g line.f line.moves.source in
      let q_now : link_at t.dests h.by.spec.dst ≡ Some line.q =
      ap (λ (ls : List Link). link_at ls h.by.spec.dst) line.moves.dests
      ∙ link_same s.dests h.by.spec.dst line.q line.p line.moves.dest in
      let sources : Some line.g ≡ Some source = sym g_now ∙ from in
      let dests : Some line.q ≡ Some dest = sym q_now ∙ to in
      let one : line.g ≡ source = cc in
      let two : line.q ≡ dest = cc in
      subst (λ (x : Reg). IsShown h.by t.log x dest why) one
      (subst (λ (x : Reg). IsShown h.by t.log line.g x why) two (end_seen (Err why) line))

  end_cause : (why : Cause) → ComesToEnd h s t (Some why) → IsCauseShown t h.by why
  end_cause why (inl line) = line_cause why line
  end_cause why (inr rests) =
      subst (λ (x : Cause). IsCauseShown t h.by x) (sym rests.0) (λ source dest from to. tt)

  going_seen : (work : Option Work) → DoesLine h s t (Ok work) → IfSome (goes_on h work).work (WorkSeen (goes_on h work).by t.log)
  going_seen None line = tt
  going_seen (Some w) line = end_seen (Ok (Some w)) line

comes_later : (h : Held) (s t : State) (why : Option Cause) → AreSound s.sources → AreSound s.dests → ComesToEnd h s t why → AreLater s t
comes_later h s t None sources dests comes = same_links s t comes.1.sources comes.1.dests
comes_later h s t (Some why) sources dests (inl line) = line_later h s t (Err why) sources dests line
comes_later h s t (Some why) sources dests (inr rests) = same_links s t rests.1.sources rests.1.dests

-- ---- each part of a step

causes_unended : (s t : State) (job : ℕ) (b : Admitted) (now : Option Held) → AreCausesShown s → AreLater s t → Unended b s.log t.log
    → t.admitted ≡ s.admitted → HeldAfter job now s.held t.held → IfSome now (λ k. IfSome k.work (WorkSeen k.by t.log))
    → AreCausesShown t
causes_unended s t job b now shown later wrote admitted after own = record {
  logged = subst (λ (all : List Admitted). AllByRecursion (CauseAt all t) t.log) (sym admitted)
      (causes_on s.admitted s t b later wrote shown.logged);
  held = held_seen s t job b now after (seen_more b s.log t.log wrote) shown.held own;
}

-- the entry of an end is written, after what led to it
module _ (s mid t : State) (job : ℕ) (h : Held) (status : Status) (why : Option Cause) (orderly : IsOrderly s)
    (here : held_at s.held job ≡ Some h) (shown : AreCausesShown s) (after : HeldAfter job None s.held t.held)
    (later : AreLater s mid) (wrote : Unended h.by s.log mid.log) (sources : t.sources ≡ mid.sources) (dests : t.dests ≡ mid.dests)
    (admitted : t.admitted ≡ s.admitted) (writes : t.log ≡ entry_of h.by (what.Ended status why) ∷ mid.log)
    (now : (w : Cause) → why ≡ Some w → IsCauseShown mid h.by w) where
  last_on : (a : Admitted) (w : Cause) → IsCauseShown mid a w → IsCauseShown t a w
  last_on a w had source dest from to =
      subst (λ (es : List Entry). IsShown a es source dest w) (sym writes)
      (shown_later a (entry_of h.by (what.Ended status why)) mid.log source dest w
      (had source dest (ap (λ (ls : List Link). link_at ls a.spec.src) (sym sources) ∙ from)
      (ap (λ (ls : List Link). link_at ls a.spec.dst) (sym dests) ∙ to)))

  last_says : (a : Admitted) (said : What) → SaysCause mid a said → SaysCause t a said
  last_says a (what.Ended st (Some w)) had = last_on a w had
  last_says a said had = tt

  last_if : (found : Option Admitted) (said : What) → IfSome found (λ a. SaysCause mid a said) → IfSome found (λ a. SaysCause t a said)
  last_if None said had = tt
  last_if (Some a) said had = last_says a said had

  own_says : (x : Option Cause) → why ≡ x → SaysCause t h.by (what.Ended status x)
  own_says None is = tt
  own_says (Some w) is = last_on h.by w (now w is)

  last_work : (found : Option Held) → IfSome found (λ k. IfSome k.work (WorkSeen k.by s.log))
      → IfSome found (λ k. IfSome k.work (WorkSeen k.by t.log))
  last_work None had = tt
  last_work (Some k) had = one k.work (some_more k.by h.by s.log mid.log wrote k.work had)
    where
      one : (work : Option Work) → IfSome work (WorkSeen k.by mid.log) → IfSome work (WorkSeen k.by t.log)
      one None seen = tt
      one (Some w) seen =
          subst (λ (es : List Entry). WorkSeen k.by es w) (sym writes)
          (work_later k.by (entry_of h.by (what.Ended status why)) mid.log w seen)

  causes_ended : AreCausesShown t
  causes_ended = record {
    logged = subst (λ (all : List Admitted). AllByRecursion (CauseAt all t) t.log) (sym admitted)
        (subst (λ (es : List Entry). AllByRecursion (CauseAt s.admitted t) es) (sym writes) (
          subst (λ (x : Option Admitted). IfSome x (λ a. SaysCause t a (what.Ended status why))) (sym (is_held s job h orderly here).admitted)
              (own_says why refl),
          each_then {P = CauseAt s.admitted mid} {Q = CauseAt s.admitted t}
              (λ e had. last_if (admitted_at s.admitted e.job.0 e.rev) e.what had) mid.log
              (causes_on s.admitted s mid h.by later wrote shown.logged),
        ));
    held = held_seen s t job h.by None after last_work shown.held tt;
  }

ends_causes : (s t : State) (job : JobNo) (closed : Result Status Mark) → IsOrderly s → AreSound s.sources → AreSound s.dests
    → AreSound t.sources → AreCausesShown s → Ends s t job closed → AreCausesShown t
ends_causes s t job closed orderly sources dests after shown ends = at closed ends.closes
  where
    wrote : Unended ends.held.by s.log ends.mid.log
    wrote = comes_says ends.held s ends.mid ends.why ends.comes

    later : AreLater s ends.mid
    later = comes_later ends.held s ends.mid ends.why sources dests ends.comes

    admitted : t.admitted ≡ s.admitted
    admitted = ends.admitted ∙ end_admitted ends.held s ends.mid ends.why ends.comes

    now : (w : Cause) → ends.why ≡ Some w → IsCauseShown ends.mid ends.held.by w
    now w is =
        end_cause ends.held s ends.mid job.0 ends.here shown (subst (λ (ls : List Link). AreSound ls) ends.sources after) w
        (subst (λ (x : Option Cause). ComesToEnd ends.held s ends.mid x) is ends.comes)

    dropped : AreLater s t
    dropped a source dest from to =
        later a source dest (ap (λ (ls : List Link). link_at ls a.spec.src) (sym ends.sources) ∙ from)
        (ap (λ (ls : List Link). link_at ls a.spec.dst) (sym ends.dests) ∙ to)

    at : (closed : Result Status Mark) → Closes ends.held.by ends.why ends.mid t closed → AreCausesShown t
    at (Ok status) closes =
        causes_ended s ends.mid t job.0 ends.held status ends.why orderly ends.here shown ends.gone later wrote ends.sources ends.dests
        admitted closes.1 now
    at (Err mark) closes =
        causes_unended s t job.0 ends.held.by None shown dropped
        (unended_then ends.held.by what.Dropped s.log ends.mid.log t.log tt wrote closes.0) admitted ends.gone tt

-- each step goes on showing the cause of each error
pub step_causes : (s t : State) (job : JobNo) (answer : Stepped) → IsOrderly s → AreSound s.sources → AreSound s.dests
    → AreSound t.sources → AreCausesShown s → Step s t job answer → AreCausesShown t
step_causes s t job stepped.NotHere orderly sources dests after shown step = subst AreCausesShown (sym step.1) shown
step_causes s t job stepped.Did orderly sources dests after shown step =
    causes_unended s t job.0 step.held.by (Some (goes_on step.held step.work)) shown
    (line_later step.held s t (Ok step.work) sources dests step.line) (line_says step.held s t (Ok step.work) step.line)
    step.line.admitted step.now (going_seen step.held s t job.0 step.here shown after step.work step.line)
step_causes s t job (stepped.Lost mark) orderly sources dests after shown (inl drops) =
    causes_unended s t job.0 drops.held.by None shown (same_links s t drops.sources drops.dests)
    (unended_one drops.held.by what.Dropped s.log t.log tt drops.log) drops.admitted drops.gone tt
step_causes s t job (stepped.Lost mark) orderly sources dests after shown (inr ends) =
    ends_causes s t job (Err mark) orderly sources dests after shown ends
step_causes s t job (stepped.Ended status) orderly sources dests after shown step =
    ends_causes s t job (Ok status) orderly sources dests after shown step

-- ---- an admission

begins_causes : (s t : State) (a : Admitted) → IsOrderly s → IsNew s.admitted a → AreCausesShown s → Begins s t a → AreCausesShown t
begins_causes s t a orderly new shown begins = record {
  logged = subst (λ (all : List Admitted). AllByRecursion (CauseAt all t) t.log) (sym begins.admitted)
      (causes_on (a ∷ s.admitted) s t a (same_links s t begins.sources begins.dests) wrote (known s.log orderly.logged shown.logged));
  held = held_seen s t a.job.0 a (Some (held_first a)) begins.held (seen_more a s.log t.log wrote) shown.held tt;
}
  where
    wrote : Unended a s.log t.log
    wrote = unended_one a what.Began s.log t.log tt begins.log

    known : (log : List Entry) → AllByRecursion (λ e. IsSome (admitted_at s.admitted e.job.0 e.rev)) log
        → AllByRecursion (CauseAt s.admitted s) log → AllByRecursion (CauseAt (a ∷ s.admitted) s) log
    known [] logged says = tt
    known (e ∷ es) logged says = (
      subst (λ (x : Option Admitted). IfSome x (λ b. SaysCause s b e.what))
          (sym (older_admitted s.admitted a e.job.0 e.rev new logged.0)) says.0,
      known es logged.1 says.1,
    )

-- and each admission does
pub admits_causes : (s t : State) (a : Admitted) (answer : Admit) → IsOrderly s → IsNew s.admitted a → AreCausesShown s
    → Admits s t a answer → AreCausesShown t
admits_causes s t a admit.Began orderly new shown admits = begins_causes s t a orderly new shown admits
admits_causes s t a (admit.Lost mark) orderly new shown admits = subst AreCausesShown (sym admits) shown
admits_causes s t a admit.Memory orderly new shown admits = subst AreCausesShown (sym admits) shown
