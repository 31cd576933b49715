-- What several calls leave, one after the other.
use Rattle.std.proofs.Common.{◌≡◌, ◌≢◌, ◌<◌, ◌≤◌, ◌+◌, ℕ, true, false, ◌++◌, length, take, drop, sym, ap, ◌∙◌, subst, append_assoc, length-append, arith}
use Rattle.std.proofs.lemmas.List.{length-take-le}
use Rattle.std.proofs.Math.Seq.{take-add}
use Rattle.std.specs.Prelude.{Option, Some, None, IfSome, option_map, Result, Err}
use Rattle.hr_base.specs.Bytes.{ByteList}
use Rattle.hr_cause.specs.Stream.{Gave, Rose}
use Rattle.hr_adapter.specs.Calls.{CountStays, FailsAsPlanned, WritesPut}
use Rattle.hr_adapter.specs.Plan.{Plan}
use Rattle.hr_adapter.specs.Reg.{Reading, Reg, Writing}
use Rattle.hr_adapter.specs.declared.fault.RegFault.{RegFault}
use Rattle.hr_adapter.specs.declared.fault.RegFault.TheVariants as fault
use Rattle.hr_adapter.specs.declared.registry.TheConstants.{BLOB_LIMIT}
use Rattle.hr_blob.specs.Copies.{Blames, WriteFails}
use Rattle.hr_blob.specs.Pieces.{Fills, GaveOpen, GavePieces, GaveTooMany, Halts, IsBlank, ReadsAt, Rests, TookPieces, WriteBreaks, with_bytes}
use Rattle.hr_blob.specs.declared.outcome.Failing.{Failing}

-- ---- calls that are no operations

-- where there is a plan, the count of faults stays at an error for which no fault was planned
steady_at : (plan : Option Plan) (a b : ℕ) (f : RegFault)
    → IfSome plan (λ _. CountStays {T = Unit} a b (Err f))
    → IfSome plan (λ _. FailsAsPlanned {T = Unit} false (Err f)) → IfSome plan (λ _. b ≡ a)
steady_at None a b f stays planned = tt
steady_at (Some p) a b fault.Failed stays planned = absurd (let e : false ≡ true = planned in cc)
steady_at (Some p) a b (fault.TooLong len) stays planned = stays
steady_at (Some p) a b fault.Memory stays planned = stays

unplanned_at : (plan : Option Plan) (f : RegFault)
    → IfSome plan (λ _. FailsAsPlanned {T = Unit} false (Err f))
    → IfSome plan (λ _. f ≢ RegFault.Failed)
unplanned_at None f planned = tt
unplanned_at (Some p) fault.Failed planned = absurd (let e : false ≡ true = planned in cc)
unplanned_at (Some p) (fault.TooLong len) planned = λ is. cc
unplanned_at (Some p) fault.Memory planned = λ is. cc

steady_then : (p q : Option Plan) (a b c : ℕ) → q ≡ p → IfSome p (λ _. b ≡ a)
    → IfSome q (λ _. c ≡ b) → IfSome p (λ _. c ≡ a)
steady_then None q a b c is first next = tt
steady_then (Some p) None a b c is first next = absurd (let e : None ≡ Some p = is in cc)
steady_then (Some p) (Some q) a b c is first next = next ∙ first

rests_then : (a b c : Reg) → Rests a b → Rests b c → Rests a c
rests_then a b c first next = record {
  later = let p = first.later in let q = next.later in omega arith;
  steady = steady_then a.plan b.plan a.faults b.faults c.faults first.stays.plan
      first.steady next.steady;
  sure = λ sure.
      let once = first.sure sure in
      let twice = next.sure once.0 in (twice.0, twice.1 ∙ once.1);
  quiet = λ quiet. next.quiet (first.quiet quiet);
  stays = record {
    told = next.stays.told ∙ first.stays.told;
    coming = next.stays.coming ∙ first.stays.coming;
    ever = next.stays.ever ∙ first.stays.ever;
    plan = next.stays.plan ∙ first.stays.plan;
  };
}

-- ---- an error, with its counts

blames_later : (f : Failing) (a b c : Reg) → Rests a b → Blames f b c → Blames f a c
blames_later f a b c rests blames = record {
  later = let p = rests.later in let q = blames.later in omega arith;
  now = blames.now;
  rose = blames.rose;
  never = λ sure. blames.never (rests.sure sure).0;
}

unplanned_later : (f : Failing) (p q : Option Plan) → q ≡ p
    → IfSome q (λ _. f.fault ≢ RegFault.Failed) → IfSome p (λ _. f.fault ≢ RegFault.Failed)
unplanned_later f p q is unplanned =
    subst (λ (t : Option Plan). IfSome t (λ _. f.fault ≢ RegFault.Failed)) is unplanned

-- ---- what a source gave

gave_more : (a b c : Reading) (x y : ByteList) → Gave a x b → Gave b y c → Gave a (x ++ y) c
gave_more (Some a) (Some b) (Some c) x y p q =
    p ∙ ap (λ (t : ByteList). x ++ t) q ∙ sym (append_assoc x y c)
gave_more (Some a) (Some b) None x y p q = absurd q
gave_more (Some a) None c x y p q = absurd p
gave_more None (Some b) c x y p q = absurd p
gave_more None None (Some c) x y p q = absurd q
gave_more None None None x y p q = tt

gave_open_more : (a b c : Option Reading) (x y : ByteList) → GaveOpen a x b → GaveOpen b y c
    → GaveOpen a (x ++ y) c
gave_open_more (Some a) (Some b) (Some c) x y p q = gave_more a b c x y p q
gave_open_more (Some a) (Some b) None x y p q = absurd q
gave_open_more (Some a) None c x y p q = absurd p
gave_open_more None b c x y p q = absurd p

gave_then : (a b c : Reg) (x y : ByteList) → GavePieces x a b → GavePieces y b c
    → GavePieces (x ++ y) a c
gave_then a b c x y first next = record {
  rests = rests_then a b c first.rests next.rests;
  writing = next.writing ∙ first.writing;
  gave = gave_open_more a.reading b.reading c.reading x y first.gave next.gave;
}

-- a buffer is filled further
pub fills_more : (a b c : Reg) (old new : ByteList) (at count : ℕ) → GavePieces (take at old) a b
    → take at new ≡ take at old → ReadsAt at new count b c → GavePieces (take (at + count) new) a c
fills_more a b c old new at count gave front reads =
    let within : at + count ≤ length new = reads.within in
    let is = take-add at count new ∙ ap (λ (l : ByteList). l ++ take count (drop at new)) front in
    subst (λ (t : ByteList). GavePieces t a c) (sym is)
    (gave_then a b c (take at old) (take count (drop at new)) gave reads.gave)

-- ---- what a destination took

abbrev answers : RegFault → Result Unit RegFault
answers f = Err f

-- a piece that was not taken
pub write_breaks : (f : Failing) (piece : ByteList) (a b : Reg) → WritesPut piece a b (Err f.fault)
    → f.before ≡ a.faults → f.after ≡ b.faults → WriteBreaks f piece a b
write_breaks f piece a b call before after = record {
  rests = record {
    later = call.left.later;
    steady = steady_at a.plan a.faults b.faults f.fault call.left.steady call.planned;
    sure = call.left.sure;
    quiet = call.left.quiet;
    stays = call.stays;
  };
  reading = call.reading;
  blames = record {
    later = omega arith;
    now = after;
    rose = λ is. subst (λ (n : ℕ). Rose n f.after) (sym before)
        (subst (λ (n : ℕ). Rose a.faults n) (sym after) (call.left.failed (ap answers is)));
    never = λ sure is. call.left.never sure (ap answers is);
  };
  unplanned = unplanned_at a.plan f.fault call.planned;
  too_long = λ len is. call.too_long len (ap answers is);
}

-- ---- all pieces

-- what the loop over the pieces keeps
pub record Sends (bytes : ByteList) (len : ℕ) (s0 s d0 d : Reg) : Type 0 where
  pub gave : GavePieces bytes s0 s
  pub took : TookPieces bytes d0 d
  pub long : length bytes ≡ len
  pub short : len ≤ BLOB_LIMIT

length_more : (bytes buf : ByteList) (len count : ℕ) → length bytes ≡ len → count ≤ length buf
    → length (bytes ++ take count buf) ≡ len + count
length_more bytes buf len count long within =
    length-append bytes (take count buf)
    ∙ (let front = length-take-le count buf within in omega arith)

-- a piece came with which there are too many bytes
pub send_too_many : (s0 s s1 d0 d : Reg) (bytes buf : ByteList) (len count : ℕ)
    → Sends bytes len s0 s d0 d → Fills buf count s s1 → BLOB_LIMIT < len + count
    → Halts s0 s1 d0 d × GaveTooMany (len + count) s0 s1
send_too_many s0 s s1 d0 d bytes buf len count sends fills over =
    let all = gave_then s0 s s1 bytes (take count buf) sends.gave fills.gave in (
      record {
        source = all.rests;
        writing = all.writing;
        dest = sends.took.rests;
        reading = sends.took.reading;
      },
      record {
        bytes = bytes ++ take count buf;
        gave = all;
        long = length_more bytes buf len count sends.long fills.within;
        over = over;
      },
    )

-- how long a writing would be with a piece more
length_with : (w : Option Writing) (bytes piece : ByteList) (len : ℕ) → IsBlank w
    → IfSome (option_map (with_bytes bytes) w) (λ v. len ≡ length (v.bytes ++ piece))
    → len ≡ length (bytes ++ piece)
length_with None bytes piece len blank is = absurd blank
length_with (Some w) bytes piece len blank is =
    is ∙ ap (λ (front : ByteList). length ((front ++ bytes) ++ piece)) blank.1

write_fails : (f : Failing) (d0 d d1 : Reg) (bytes piece : ByteList) → IsBlank d0.writing
    → TookPieces bytes d0 d → length (bytes ++ piece) ≤ BLOB_LIMIT → WriteBreaks f piece d d1
    → WriteFails f d0 d1
write_fails f d0 d d1 bytes piece blank took short breaks = record {
  blames = blames_later f d0 d d1 took.rests breaks.blames;
  unplanned = unplanned_later f d0.plan d.plan took.rests.stays.plan breaks.unplanned;
  no_length = λ len is.
      let long = breaks.too_long len is in
      let same = length_with d0.writing bytes piece len blank
      (subst (λ (w : Option Writing). IfSome w (λ v. len ≡ length (v.bytes ++ piece)))
      took.writing long.1) in
      let over = long.0 in
      omega arith;
}

-- a piece came that the destination did not take
pub send_unwritten : (f : Failing) (s0 s s1 d0 d d1 : Reg) (bytes piece buf : ByteList)
    (len count : ℕ) → Sends bytes len s0 s d0 d → Fills buf count s s1 → IsBlank d0.writing → piece ≡ take count buf
    → len + count ≤ BLOB_LIMIT → WriteBreaks f piece d d1 → Halts s0 s1 d0 d1 × WriteFails f d0 d1
send_unwritten f s0 s s1 d0 d d1 bytes piece buf len count sends fills blank is short breaks =
    let all = gave_then s0 s s1 bytes (take count buf) sends.gave fills.gave in
    let long = length_more bytes buf len count sends.long fills.within in
    let same : length (bytes ++ piece) ≡ len + count =
    ap (λ (l : ByteList). length (bytes ++ l)) is ∙ long in (
      record {
        source = all.rests;
        writing = all.writing;
        dest = rests_then d0 d d1 sends.took.rests breaks.rests;
        reading = breaks.reading ∙ sends.took.reading;
      },
      write_fails f d0 d d1 bytes piece blank sends.took (omega arith) breaks,
    )
