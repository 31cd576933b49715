-- What can be copied is copied, or want of memory ends it.
use Rattle.std.proofs.Common.{◌≡◌, refl, sym, ap, subst, ◌∙◌, ℕ, true, List, length}
use Rattle.std.proofs.lemmas.Bool.{eq-eqb}
use Rattle.std.specs.Prelude.{Option, Some, None, IfSome, IsSome, Contains, Bool, if◌then◌else◌, nat_eq, option_and_then, option_map}
use Rattle.hr_base.specs.Bytes.{ByteList}
use Rattle.hr_base.specs.declared.number.JobNo.{JobNo}
use Rattle.hr_base.specs.declared.status.Status.{Status}
use Rattle.hr_digest.specs.declared.digest.Digest.{Digest}
use Rattle.hr_name.specs.Name.{RepoName}
use Rattle.hr_event.specs.declared.cause.Cause.{Cause}
use Rattle.hr_event.specs.declared.entry.Entry.{Entry}
use Rattle.hr_event.specs.declared.entry.What.{What}
use Rattle.hr_event.specs.declared.entry.What.TheVariants as what
use Rattle.hr_manifest.specs.declared.child.ChildKind.TheVariants as kind
use Rattle.hr_adapter.specs.Content.{Content, blob_at}
use Rattle.hr_adapter.specs.Reg.{Reg}
use Rattle.hr_journal.specs.OneEach.{Measures}
use Rattle.hr_journal.specs.Origin.{HasText, Holds, IsText, Source, WasThere}
use Rattle.hr_journal.specs.Promise.{Promise}
use Rattle.hr_journal.specs.Says.{placed}
use Rattle.hr_journal.proofs.PromiseLaws.{lengths_are_of_texts, was_there}
use Rattle.hr_line.specs.Causes.{IsCauseShown}
use Rattle.hr_line.specs.Evidence.{MeasuredFor, Says}
use Rattle.hr_line.specs.Finals.{EndHolds}
use Rattle.hr_line.specs.Orderly.{admitted_at, place_at, placement}
use Rattle.hr_line.specs.Sources.{AreSourced, origin, source_of, source_seen}
use Rattle.hr_line.specs.State.{State, link_at}
use Rattle.hr_line.specs.declared.held.Admitted.{Admitted}
use Rattle.hr_whole.specs.Copied.{BothUnfailing, CanBeCopied, EndsWell, NoTwoTexts, NoneFailed}
use Rattle.hr_whole.specs.Said.{AreSaid, IsFromSource, IsSaid}
use Rattle.hr_whole.proofs.GrowLemmas.{IsWithin, ends_grow, reached_grow, said_of}
use Rattle.hr_whole.proofs.NeverLemmas.{only_memory, own_blob}
use Rattle.hr_whole.proofs.RunLemmas.{Ran, calm_kept, found_as}

module _ (s t : State) (a : Admitted) (c o b : Content) (said : AreSaid s t.admitted t.log) (sourced : AreSourced t)
    (own : admitted_at t.admitted a.job.0 a.rev ≡ Some a) (can : CanBeCopied s a c o) (texts : NoTwoTexts t a o)
    (promise : Promise (placement a.spec.dst t.admitted) o t.log b)
    (g : Reg) (here : link_at t.sources a.spec.src ≡ Some g) (told : g.told ≡ Some c) where
  source : Source
  source = record { content = c; ever = g.ever; repo = a.spec.from }

  own_at : (e : Entry) → e.job ≡ a.job → e.rev ≡ a.rev → admitted_at t.admitted e.job.0 e.rev ≡ Some a
  own_at e job rev =
      ap (λ (j : JobNo). admitted_at t.admitted j.0 e.rev) job ∙ ap (admitted_at t.admitted a.job.0) rev ∙ own

  origin_at : (e : Entry) → e.job ≡ a.job → e.rev ≡ a.rev → origin t.sources t.admitted e.job.0 e.rev
      ≡ Some (record { content = c; ever = g.ever; repo = a.spec.from })
  origin_at e job rev =
      ap (option_and_then (source_of t.sources)) (own_at e job rev)
      ∙ ap (option_and_then (source_seen a.spec.from)) here
      ∙ ap (option_map (λ (x : Content). record { content = x; ever = g.ever; repo = a.spec.from })) told

  -- what an entry says that it read is there
  was : (w : What) → Says a t.log w → WasThere (record { content = c; ever = g.ever; repo = a.spec.from }) w
  was w x =
      subst (λ (y : What). WasThere (record { content = c; ever = g.ever; repo = a.spec.from }) y) x.says
      (was_there (origin t.sources t.admitted) t.log (record { content = c; ever = g.ever; repo = a.spec.from }) x.entry sourced x.logged
      (origin_at x.entry x.job x.rev))

  is_said : (w : What) → Says a t.log w → (older : List Entry) × IsWithin older t.log × IsSaid a c older w
  is_said w x =
      let found = said_of s t.admitted t.log x.entry said x.logged in
      (found.0, found.1, subst (λ (y : What). IsSaid a c found.0 y) x.says (found.2 a c o (own_at x.entry x.job x.rev) can.calm))

  place_is : (b : Bool) → b ≡ true → (if b then Some a.spec.to else None) ≡ Some a.spec.to
  place_is b is = subst (λ (x : Bool). (if x then Some a.spec.to else None) ≡ Some a.spec.to) (sym is) refl

  is_placed : (e : Entry) → e.job ≡ a.job → e.rev ≡ a.rev → IsSome (placed (placement a.spec.dst t.admitted) e)
  is_placed e job rev =
      let at : placed (placement a.spec.dst t.admitted) e ≡ Some a.spec.to =
      ap (option_and_then (place_at a.spec.dst)) (own_at e job rev)
      ∙ place_is (nat_eq a.spec.dst.0 a.spec.dst.0) (eq-eqb a.spec.dst.0 a.spec.dst.0 refl) in
      subst (λ (x : Option RepoName). IsSome x) (sym at) refl

  lengths : (d : Digest) (len : ℕ) (bytes : ByteList) → MeasuredFor a t.log d len → blob_at c a.spec.from d ≡ Some bytes
      → length bytes ≡ len
  lengths d len bytes (MeasuredFor.copied x) there =
      let had = was (what.GotBlob d len) x in
      let both : Some bytes ≡ Some had.bytes = sym there ∙ had.there in
      let same : bytes ≡ had.bytes = cc in
      ap (λ (y : ByteList). length y) same ∙ had.long
  lengths d len bytes (MeasuredFor.looked x) there =
      let text : HasText o (origin t.sources t.admitted) d len =
      lengths_are_of_texts (placement a.spec.dst t.admitted) (origin t.sources t.admitted) o t.log b can.calm.honest promise.puts sourced
      texts.tell d len (Measures.found x.entry x.logged (is_placed x.entry x.job x.rev) x.says) in
      let ours : IsText o (origin t.sources t.admitted) bytes =
      IsText.source x.entry.job.0 x.entry.rev (record { content = c; ever = g.ever; repo = a.spec.from }) (origin_at x.entry x.job x.rev)
      (Holds.blob a.spec.from d there) in
      let same : text.bytes ≡ bytes =
      texts.once text.bytes bytes text.text ours (text.own ∙ sym (own_blob c a.spec.from d bytes can.honest there)) in
      ap (λ (y : ByteList). length y) (sym same) ∙ text.long

  -- all that the revision read is what its source has
  from_source : IsFromSource a t.log c
  from_source = record {
    honest = can.honest;
    tagged = λ tag m x. (is_said (what.ReadTag tag m.media m.bytes) x).2;
    child = λ d m x.
        let found = is_said (what.ReadChild d m.media m.bytes) x in
        (reached_grow a found.0 t.log found.1 kind.Manifest d found.2, was (what.ReadChild d m.media m.bytes) x);
    lengths = lengths;
  }

  -- so the cause of its end is want of memory
  pub only_want : (q : Reg) (e : Entry) (status : Status) (why : Cause) → link_at t.dests a.spec.dst ≡ Some q → NoneFailed t a
      → Contains t.log e → admitted_at t.admitted e.job.0 e.rev ≡ Some a → e.what ≡ what.Ended status (Some why)
      → IsCauseShown t a why → why ≡ Cause.Memory
  only_want q e status why there none within at says shown =
      let found = said_of s t.admitted t.log e said within in
      let ends : IsSaid a c found.0 (what.Ended status (Some why)) =
      subst (λ (y : What). IsSaid a c found.0 y) says (found.2 a c o at can.calm) in
      only_memory a t.log c from_source can.tags g q why told
      (subst (λ (x : Option Reg). IfSome x (λ f. f.faults ≡ 0)) here none.source)
      (subst (λ (x : Option Reg). IfSome x (λ f. f.faults ≡ 0)) there none.dest)
      (ends_grow a found.0 t.log found.1 c why ends) (shown g q here there)

-- after a run from an opening where the task can be copied
pub copied : (s t : State) (e : Entry) (a : Admitted) (c o : Content) (status : Status) (why : Cause) → Ran s t → AreSourced t
    → CanBeCopied s a c o → NoneFailed t a → NoTwoTexts t a o → Contains t.log e → admitted_at t.admitted e.job.0 e.rev ≡ Some a
    → e.what ≡ what.Ended status (Some why) → IsCauseShown t a why → why ≡ Cause.Memory
copied s t e a c o status why ran sourced can none texts within at says shown =
    let kept = calm_kept s t a c o ran.kept can.calm in
    let now = ran.went.sources a.spec.src can.calm.source can.calm.from in
    let is = found_as t.admitted e.job.0 e.rev a at in
    let own : admitted_at t.admitted a.job.0 a.rev ≡ Some a =
    ap (λ (j : ℕ). admitted_at t.admitted j a.rev) is.0 ∙ ap (admitted_at t.admitted e.job.0) is.1 ∙ at in
    only_want s t a c o kept.content ran.went.said sourced own can texts kept.kept.promise now.0 now.1
    ((now.2.quiet can.calm.quiet).1 ∙ can.calm.told) kept.now e status why kept.there none within at says shown

none_failed : (P : Reg → Type 0) (found : Option Reg) (x : Reg) → found ≡ Some x → P x → IfSome found P
none_failed P found x is p = subst (λ (y : Option Reg). IfSome y P) (sym is) p

-- connections that can't fail have not failed
pub unfailing : (s t : State) (a : Admitted) → Ran s t → BothUnfailing s a → NoneFailed t a
unfailing s t a ran both =
    let f = ran.went.sources a.spec.src both.source both.from in
    let q = ran.went.dests a.spec.dst both.dest both.to in
    record {
      source = none_failed (λ x. x.faults ≡ 0) (link_at t.sources a.spec.src) f.0 f.1
          ((f.2.sure both.can_read.sure).1 ∙ both.can_read.none);
      dest = none_failed (λ x. x.faults ≡ 0) (link_at t.dests a.spec.dst) q.0 q.1
          ((q.2 both.can_write.sure).1 ∙ both.can_write.none);
    }

-- an end that holds is a good one, where its cause is want of memory
pub ends_well : (a : Admitted) (log : List Entry) (status : Status) (found : Option Cause) → EndHolds a log status found
    → ((why : Cause) → found ≡ Some why → why ≡ Cause.Memory) → EndsWell a log status found
ends_well a log status None holds only = holds
ends_well a log status (Some why) holds only = (holds, only why refl)
