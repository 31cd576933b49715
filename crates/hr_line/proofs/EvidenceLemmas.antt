-- Each line of a step has evidence for its end, where the work had it before.
use Rattle.std.proofs.Common.{◌≡◌, ◌≢◌, false, ◌⊎◌, inl, inr, refl, sym, subst, ℕ, List, ◌∷◌}
use Rattle.std.specs.Prelude.{Some, Result, Ok, Err}
use Rattle.hr_digest.specs.Digest.{digest_of}
use Rattle.hr_digest.specs.declared.digest.Digest.{Digest}
use Rattle.hr_event.specs.declared.entry.Entry.{Entry}
use Rattle.hr_event.specs.declared.entry.What.{What}
use Rattle.hr_event.specs.declared.entry.What.TheVariants as what
use Rattle.hr_event.specs.declared.reference.Fetched.{Fetched}
use Rattle.hr_manifest.specs.Manifest.{Parts}
use Rattle.hr_graph.specs.Reached.{IsFromReading, IsRefusal}
use Rattle.hr_graph.specs.Walk.{Answers, View}
use Rattle.hr_graph.specs.declared.need.Given.{Given}
use Rattle.hr_graph.specs.declared.need.WalkRefused.{WalkRefused}
use Rattle.hr_graph.specs.declared.need.WalkRefused.TheVariants as walk
use Rattle.hr_graph.proofs.ReachedLaws.{begins_or_shows, goes_or_shows, read_more}
use Rattle.hr_graph.proofs.WalkLaws.{begun_sound, step_falls}
use Rattle.hr_adapter.specs.Reg.{Reg}
use Rattle.hr_journal.proofs.ListLaws.{contains_first, contains_later}
use Rattle.hr_line.specs.Cause.{walk_cause}
use Rattle.hr_line.specs.Evidence.{IsRootOf, IsShown, MeasuredFor, ReadFor, ReadSome, Says}
use Rattle.hr_line.specs.Kept.{EndSeen, WorkSeen}
use Rattle.hr_line.specs.Line.{IsBeginning, IsTaking, LineEnd, WalkBegins, WorkGoes, entry_of, walked}
use Rattle.hr_line.specs.declared.held.Admitted.{Admitted}
use Rattle.hr_line.specs.declared.held.Work.{Work}

-- ---- what an entry says is said later

-- the newest entry says what it says
pub says_now : (a : Admitted) (log : List Entry) (said : What) → Says a (entry_of a said ∷ log) said
says_now a log said = record {
  entry = entry_of a said;
  logged = contains_first (entry_of a said) log;
  job = refl;
  rev = refl;
  says = refl;
}

pub says_later : (a : Admitted) (e : Entry) (log : List Entry) (said : What) → Says a log said → Says a (e ∷ log) said
says_later a e log said s = record {
  entry = s.entry;
  logged = contains_later e log s.entry s.logged;
  job = s.job;
  rev = s.rev;
  says = s.says;
}

pub some_later : (a : Admitted) (e : Entry) (log : List Entry) (m : Fetched) → ReadSome a log m → ReadSome a (e ∷ log) m
some_later a e log m (ReadSome.tagged tag s) = ReadSome.tagged tag (says_later a e log (what.ReadTag tag m.media m.bytes) s)
some_later a e log m (ReadSome.child d s) = ReadSome.child d (says_later a e log (what.ReadChild d m.media m.bytes) s)

pub read_later : (a : Admitted) (e : Entry) (log : List Entry) (d : Digest) (m : Parts) → ReadFor a log d m → ReadFor a (e ∷ log) d m
read_later a e log d m r = record {
  read = some_later a e log (record { media = m.media; bytes = m.bytes }) r.read;
  own = r.own;
  reads = r.reads;
}

pub measured_later : (a : Admitted) (e : Entry) (log : List Entry) (d : Digest) (n : ℕ) → MeasuredFor a log d n → MeasuredFor a (e ∷ log) d n
measured_later a e log d n (MeasuredFor.looked s) = MeasuredFor.looked (says_later a e log (what.HasBlob d (Some n)) s)
measured_later a e log d n (MeasuredFor.copied s) = MeasuredFor.copied (says_later a e log (what.GotBlob d n) s)

pub root_later : (a : Admitted) (e : Entry) (log : List Entry) (root : Digest) → IsRootOf a log root → IsRootOf a (e ∷ log) root
root_later a e log root r = record {
  tag = r.tag;
  m = r.m;
  says = says_later a e log (what.ReadTag r.tag r.m.media r.m.bytes) r.says;
  own = r.own;
}

-- the work has behind it what it had, with any entry more
pub work_later : (a : Admitted) (e : Entry) (log : List Entry) (w : Work) → WorkSeen a log w → WorkSeen a (e ∷ log) w
work_later a e log w seen = record {
  sound = seen.sound;
  root = root_later a e log w.walk.root seen.root;
  read = read_more (ReadFor a log) (ReadFor a (e ∷ log)) (MeasuredFor a log) (MeasuredFor a (e ∷ log))
      (read_later a e log) (measured_later a e log) w.walk seen.read;
}

-- ---- walks

-- what shows that a walk is refused shows the cause that its refusal is
pub refusal_shown : (a : Admitted) (log : List Entry) (source dest : Reg) (root : Digest) (why : WalkRefused) → IsRootOf a log root
    → IsRefusal (ReadFor a log) (MeasuredFor a log) root why → IsShown a log source dest (walk_cause why)
refusal_shown a log source dest root (walk.TooDeep d) is shown = record { root = root; is_root = is; deep = shown }
refusal_shown a log source dest root (walk.TooMany count) is shown =
    inr (record { root = root; is_root = is; many = shown.1; is = shown.0 })
refusal_shown a log source dest root (walk.SizeDiffers d said got) is shown =
    record { root = root; is_root = is; unsized = shown }
refusal_shown a log source dest root walk.Memory is shown = tt

memory_or : (why : WalkRefused) → (why ≡ WalkRefused.Memory) ⊎ (why ≢ WalkRefused.Memory)
memory_or (walk.TooDeep d) = inr (λ e. cc)
memory_or (walk.TooMany count) = inr (λ e. cc)
memory_or (walk.SizeDiffers d said got) = inr (λ e. cc)
memory_or walk.Memory = inl refl

taken_seen : (a : Admitted) (log : List Entry) (source dest : Reg) (w : Work) (answer : Given) (result : Result View WalkRefused)
    → WorkSeen a log w → Answers w.walk.need answer → IsFromReading (ReadFor a log) (MeasuredFor a log) w.walk.need answer
    → IsTaking w.walk answer result → EndSeen a log source dest (walked w.looked result)
taken_seen a log source dest w answer (Ok next) seen answers gives takes =
    let both = goes_or_shows (ReadFor a log) (MeasuredFor a log) w.walk answer seen.sound seen.read answers gives in
    let more = both.ok next takes in
    record {
      sound = (step_falls w.walk next answer seen.sound answers takes).0;
      root = subst (λ (root : Digest). IsRootOf a log root) (sym more.1) seen.root;
      read = more.0;
    }
taken_seen a log source dest w answer (Err why) seen answers gives takes =
    let both = goes_or_shows (ReadFor a log) (MeasuredFor a log) w.walk answer seen.sound seen.read answers gives in
    elim (memory_or why) [
      | inl is ↦ subst (λ (other : WalkRefused). IsShown a log source dest (walk_cause other)) (sym is) tt
      | inr other ↦ refusal_shown a log source dest w.walk.root why seen.root (both.err why (takes other))
    ]

-- work that goes on by an answer has its evidence
pub goes_seen : (a : Admitted) (log : List Entry) (source dest : Reg) (w : Work) (answer : Given) (end : LineEnd)
    → WorkSeen a log w → Answers w.walk.need answer → IsFromReading (ReadFor a log) (MeasuredFor a log) w.walk.need answer
    → WorkGoes w answer end → EndSeen a log source dest end
goes_seen a log source dest w answer end seen answers gives goes =
    subst (λ (x : LineEnd). EndSeen a log source dest x) (sym goes.is)
    (taken_seen a log source dest w answer goes.walk seen answers gives goes.takes)

begun_seen : (a : Admitted) (log : List Entry) (source dest : Reg) (root : Digest) (m : Parts) (result : Result View WalkRefused)
    → IsRootOf a log root → digest_of m.bytes ≡ root → ReadFor a log root m → IsBeginning root m result
    → EndSeen a log source dest (walked false result)
begun_seen a log source dest root m (Ok next) is own read begins =
    let both = begins_or_shows (ReadFor a log) (MeasuredFor a log) root m own read in
    let more = both.ok next begins in
    record {
      sound = begun_sound root m next own begins;
      root = subst (λ (r : Digest). IsRootOf a log r) (sym more.1) is;
      read = more.0;
    }
begun_seen a log source dest root m (Err why) is own read begins =
    let both = begins_or_shows (ReadFor a log) (MeasuredFor a log) root m own read in
    elim (memory_or why) [
      | inl e ↦ subst (λ (other : WalkRefused). IsShown a log source dest (walk_cause other)) (sym e) tt
      | inr other ↦ refusal_shown a log source dest root why is (both.err why (begins other))
    ]

-- a walk that begins has its evidence
pub begins_seen : (a : Admitted) (log : List Entry) (source dest : Reg) (root : Digest) (m : Parts) (end : LineEnd)
    → IsRootOf a log root → digest_of m.bytes ≡ root → ReadFor a log root m → WalkBegins root m end
    → EndSeen a log source dest end
begins_seen a log source dest root m end is own read begins =
    subst (λ (x : LineEnd). EndSeen a log source dest x) (sym begins.is)
    (begun_seen a log source dest root m begins.walk is own read begins.begins)
