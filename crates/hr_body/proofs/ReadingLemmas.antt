-- Lemmas on bytes that came off a device, and where they lead.
use Rattle.std.proofs.Common.{◌≡◌, ◌≢◌, ℕ, ◌+◌, ◌-◌, ◌^◌, ◌<◌, ◌≤◌, inl, inr, [], ◌∷◌, ◌++◌, length, take, refl, sym, ap, subst, ◌∙◌, arith, append_assoc, append-nil, length-append, Option, Some, None, Result, Ok, Err, IfOk, IfErr, MatchResult, lit<}
use Rattle.std.proofs.lemmas.List.{take-append-le}
use Rattle.std.proofs.lemmas.Grind.{common_steps}
use Rattle.hr_cause.specs.Stream.{Gave, IsEnded}
use Rattle.hr_cause.proofs.StreamLaws.{gave_none, gave_more}
use Rattle.hr_base.specs.Bytes.{ByteList}
use Rattle.hr_body.specs.declared.stage.Stage.{Stage}
use Rattle.hr_body.specs.declared.stage.Stage.TheVariants.{Between, Chunk, Sized, ToEnd, Done}
use Rattle.hr_body.specs.declared.stage.Coding.{Coding}
use Rattle.hr_body.specs.declared.body.Body.{Body}
use Rattle.hr_body.specs.declared.fault.WireFault.{WireFault}
use Rattle.hr_body.specs.declared.fault.WireFault.TheVariants.{Failed, Malformed, Ended, TooLong, Memory}
use Rattle.hr_body.specs.Leading.{Leads, IsUnended, MayEnd, HoldsBody}
use Rattle.hr_body.specs.Stage.{step_of, WantsData, WantsAtLeast, stage_past}
use Rattle.hr_body.specs.Reading.{in_word, Passed, GavePiece, GaveOf, LostOf, IsFirstOrKept, HeldNone, Closes, BrokeOff, Explains}
use Rattle.hr_body.proofs.LeadingLemmas.{leads_more, leads_none, data_leads, done_stops, body_goes_on, strays_never, ended_none}

-- one byte of the coding
coding_leads : (f : Coding) (b : ℕ) (q : Stage) → step_of (Between f) b ≡ Some q → Leads (Between f) (b ∷ []) [] q
coding_leads f b q is = record { ends = is; gives = refl }

told_more : (at k n m : ℕ) → n ≡ in_word (at + k) → m ≡ in_word (n + 1) → m ≡ in_word (at + (k + 1))
told_more at k n m e f = omega (arith, e, f)

count_more : (at n m : ℕ) (front : ByteList) (b : ℕ) → n ≡ in_word (at + length front) → m ≡ in_word (n + 1) → m ≡ in_word (at + length (front ++ b ∷ []))
count_more at n m front b e f = told_more at (length front) n m e f ∙ ap (λ k. in_word (at + k)) (sym (length-append front (b ∷ [])))

pub found_more : (a b c : Option ByteList) (p q r : Stage) (f : Coding) (at n m byte : ℕ) → Passed a p at q n b → q ≡ Between f → Gave b (byte ∷ []) c
    → step_of (Between f) byte ≡ Some r → m ≡ in_word (n + 1) → Passed a p at r m c
found_more a b c p q r f at n m byte x is told on count = record {
  front = x.front ++ byte ∷ [];
  told = gave_more a b c x.front (byte ∷ []) x.told told;
  leads = leads_more p (Between f) r x.front (byte ∷ []) [] [] (subst (λ q. Leads p x.front [] q) is x.leads) (coding_leads f byte r on);
  count = count_more at n m x.front byte x.count count;
}

pub lost_stuck : (a b c : Option ByteList) (p q : Stage) (f : Coding) (at room limit n m byte : ℕ) → Passed a p at q n b → q ≡ Between f → Gave b (byte ∷ []) c
    → step_of (Between f) byte ≡ None → m ≡ in_word (n + 1) → BrokeOff a p at room limit (Malformed m) c
lost_stuck a b c p q f at room limit n m byte x is told none count = record {
  front = x.front ++ byte ∷ [];
  told = gave_more a b c x.front (byte ∷ []) x.told told;
  explains = (
    count_more at n m x.front byte x.count count,
    record {
      before = x.front;
      piece = [];
      q = Between f;
      b = byte;
      cut = refl;
      leads = subst (λ q. Leads p x.front [] q) is x.leads;
      within = omega arith;
      unended = tt;
      none = none;
    },
  );
}

told_small : (at : ℕ) → at ≤ 2 ^ 64 - 1 → at ≡ in_word (at + 0)
told_small at le = omega (arith, le)

same_takes : (old new : Option ByteList) → new ≡ old → Gave old [] new
same_takes old new e = subst (λ n. Gave old [] n) (sym e) (gave_none old)

ended_gave : (old new : Option ByteList) (p q : Stage) (at m : ℕ) → IsEnded old → new ≡ old → p ≡ ToEnd → q ≡ Done → m ≡ at → at ≤ 2 ^ 64 - 1
    → GavePiece old p at [] q m new
ended_gave old new p q at m end same is over count small = record {
  front = [];
  mid = p;
  told = same_takes old new same;
  leads = leads_none p;
  closes = inr (is, over, subst IsEnded (sym same) end);
  count = count ∙ told_small at small;
}

pub over_gave : (r : Result (ℕ × Stage × ℕ) WireFault) (old new : Option ByteList) (p : Stage) (at : ℕ) → IsEnded old × (new ≡ old)
    → MatchResult r (λ r. (p ≡ ToEnd) × (r.0 ≡ 0) × (r.1 ≡ Done) × (r.2 ≡ at)) (λ e. (e ≡ Ended at) × IsUnended p) → at ≤ 2 ^ 64 - 1
    → IfOk r (λ r. (r.0 ≡ 0) × (r.1 ≡ Done) × GavePiece old p at [] r.1 r.2 new)
over_gave (Err e) old new p at end is small = tt
over_gave (Ok r) old new p at end is small = (is.1, is.2, ended_gave old new p r.1 at r.2 end.0 end.1 is.0 is.2 is.3 small)

fits_one : (p : Stage) → WantsData p → WantsAtLeast p 1
fits_one (Between f) d = absurd d
fits_one (Chunk more) d = omega arith
fits_one (Sized more) d = omega arith
fits_one ToEnd d = tt
fits_one Done d = absurd d

pub passed : (old new : Option ByteList) (p : Stage) (at limit len b : ℕ) → WantsData p → Gave old (b ∷ []) new → len ≡ in_word (limit + 1) → BrokeOff old p at 0 limit (TooLong len) new
passed old new p at limit len b d told is = record {
  front = b ∷ [];
  told = told;
  explains = (is, record { q = stage_past p 1; piece = b ∷ []; leads = data_leads p (b ∷ []) (lit< tt) (fits_one p d); one_more = refl });
}

pub data_gave : (old new : Option ByteList) (p q : Stage) (at m n : ℕ) (xs rest : ByteList) → Gave old (take n xs) new → n ≤ length xs → 0 < n → WantsAtLeast p n
    → q ≡ stage_past p n → m ≡ in_word (at + n) → GavePiece old p at (take n (xs ++ rest)) q m new
data_gave old new p q at m n xs rest told le some fits is count =
    let len : length (take n xs) ≡ n = grind (arith, common_steps) in
    let leads : Leads p (take n xs) (take n xs) (stage_past p (length (take n xs))) =
    data_leads p (take n xs) (subst (λ k. 0 < k) (sym len) some) (subst (WantsAtLeast p) (sym len) fits) in
    let piece : take n (xs ++ rest) ≡ take n xs = take-append-le n xs rest le in
    record {
      front = take n xs;
      mid = stage_past p (length (take n xs));
      told = told;
      leads = subst (λ l. Leads p (take n xs) l (stage_past p (length (take n xs)))) (sym piece) leads;
      closes = inl (ap (stage_past p) len ∙ sym is);
      count = count ∙ ap (λ k. in_word (at + k)) (sym len);
    }

told_on : (at k l n m : ℕ) → n ≡ in_word (at + k) → m ≡ in_word (n + l) → m ≡ in_word (at + (k + l))
told_on at k l n m e f = omega (arith, e, f)

count_on : (at n m : ℕ) (front back : ByteList) → n ≡ in_word (at + length front) → m ≡ in_word (n + length back) → m ≡ in_word (at + length (front ++ back))
count_on at n m front back e f = told_on at (length front) (length back) n m e f ∙ ap (λ k. in_word (at + k)) (sym (length-append front back))

pub gave_behind : (a b c : Option ByteList) (p q r : Stage) (at n m : ℕ) (piece : ByteList) → Passed a p at q n b → GavePiece b q n piece r m c → GavePiece a p at piece r m c
gave_behind a b c p q r at n m piece x y = record {
  front = x.front ++ y.front;
  mid = y.mid;
  told = gave_more a b c x.front y.front x.told y.told;
  leads = leads_more p q y.mid x.front y.front [] piece x.leads y.leads;
  closes = y.closes;
  count = count_on at n m x.front y.front x.count y.count;
}

some_done : (x : Stage) → Done ≡ x → IsUnended x → ⊥
some_done x e w = subst IsUnended (sym e) w

piece_fits : (room k : ℕ) (x y : ByteList) → room ≡ k + length x → length y ≤ k → length (x ++ y) ≤ room
piece_fits room k x y e f = omega (arith, e, f, length-append x y)

piece_length : (room k : ℕ) (x y : ByteList) → room ≡ k + length x → length y ≡ k + 1 → length (x ++ y) ≡ room + 1
piece_length room k x y e f = omega (arith, e, f, length-append x y)

pub why_behind : (p q : Stage) (at n room k limit : ℕ) (front x back : ByteList) (new : Option ByteList) (e : WireFault) → Leads p front x q → n ≡ in_word (at + length front)
    → room ≡ k + length x → Explains q n k limit back new e → Explains p at room limit (front ++ back) new e
why_behind p q at n room k limit front x back new Failed leads count less explains = tt
why_behind p q at n room k limit front x back new Memory leads count less explains = explains
why_behind p q at n room k limit front x back new (Malformed m) leads count less explains =
    let s = explains.1 in (
      count_on at n m front back count explains.0,
      record {
        before = front ++ s.before;
        piece = x ++ s.piece;
        q = s.q;
        b = s.b;
        cut = ap (λ l. front ++ l) s.cut ∙ sym (append_assoc front s.before (s.b ∷ []));
        leads = leads_more p q s.q front s.before x s.piece leads s.leads;
        within = piece_fits room k x s.piece less s.within;
        unended = s.unended;
        none = s.none;
      },
    )
why_behind p q at n room k limit front x back new (Ended m) leads count less explains =
    let s = explains.2 in
    (count_on at n m front back count explains.0, explains.1, record { q = s.q; piece = x ++ s.piece; leads = leads_more p q s.q front back x s.piece leads s.leads; within = piece_fits room k x s.piece less s.within; unended = s.unended })
why_behind p q at n room k limit front x back new (TooLong len) leads count less explains =
    let s = explains.1 in
    (explains.0, record { q = s.q; piece = x ++ s.piece; leads = leads_more p q s.q front back x s.piece leads s.leads; one_more = piece_length room k x s.piece less s.one_more })

-- at the end of a body only the device fails
pub why_done : (p : Stage) (at n room k limit : ℕ) (all back : ByteList) (new : Option ByteList) (e : WireFault) → Explains Done n k limit back new e → Explains p at room limit all new e
why_done p at n room k limit all back new Failed explains = tt
why_done p at n room k limit all back new Memory explains = explains
why_done p at n room k limit all back new (Malformed m) explains =
    let s = explains.1 in absurd (some_done s.q (done_stops s.before s.piece s.q s.leads).2 s.unended)
why_done p at n room k limit all back new (Ended m) explains =
    let s = explains.2 in absurd (some_done s.q (done_stops back s.piece s.q s.leads).2 s.unended)
why_done p at n room k limit all back new (TooLong len) explains =
    let s = explains.1 in
    let none : length s.piece ≡ 0 = ap length (done_stops back s.piece s.q s.leads).1 in
    absurd (omega (arith, none, s.one_more))

pub lost_behind : (a b c : Option ByteList) (p q : Stage) (at n room limit : ℕ) (e : WireFault) → Passed a p at q n b → BrokeOff b q n room limit e c → BrokeOff a p at room limit e c
lost_behind a b c p q at n room limit e x y = record {
  front = x.front ++ y.front;
  told = gave_more a b c x.front y.front x.told y.told;
  explains = why_behind p q at n room room limit x.front [] y.front c e x.leads x.count (omega arith) y.explains;
}

pub all_behind : (a b c : Option ByteList) (p q : Stage) (at n : ℕ) (buf : ByteList) (r : Result (ℕ × Stage × ℕ) WireFault) → Passed a p at q n b
    → IfOk r (λ r. GavePiece b q n (take r.0 buf) r.1 r.2 c) → IfOk r (λ r. GavePiece a p at (take r.0 buf) r.1 r.2 c)
all_behind a b c p q at n buf (Ok r) x y = gave_behind a b c p q r.1 at n r.2 (take r.0 buf) x y
all_behind a b c p q at n buf (Err e) x y = tt

pub fault_behind : (a b c : Option ByteList) (p q : Stage) (at n room limit : ℕ) (r : Result (ℕ × Stage × ℕ) WireFault) → Passed a p at q n b
    → IfErr r (λ e. BrokeOff b q n room limit e c) → IfErr r (λ e. BrokeOff a p at room limit e c)
fault_behind a b c p q at n room limit (Ok r) x y = tt
fault_behind a b c p q at n room limit (Err e) x y = lost_behind a b c p q at n room limit e x y

pub piece_none : (a : Option ByteList) (p : Stage) (at : ℕ) → at ≤ 2 ^ 64 - 1 → GavePiece a p at [] p at a
piece_none a p at small = record { front = []; mid = p; told = gave_none a; leads = leads_none p; closes = inl refl; count = told_small at small }

end_stays : (b c : Option ByteList) → IsEnded b → Gave b [] c → IsEnded c
end_stays None None e t = tt
end_stays None (Some c) e t = absurd t
end_stays (Some b) None e t = absurd t
end_stays (Some b) (Some c) e t = sym t ∙ e

not_to_end : Done ≡ ToEnd → ⊥
not_to_end e = cc

done_closes : (mid q : Stage) (new : Option ByteList) → Done ≡ mid → Closes mid new q → Done ≡ q
done_closes mid q new e (inl same) = e ∙ same
done_closes mid q new e (inr other) = absurd (not_to_end (e ∙ other.0))

-- nothing is taken at the end of a body
pub gave_done : (b c : Option ByteList) (r : Stage) (n m : ℕ) (y : ByteList) → (g : GavePiece b Done n y r m c) → (g.front ≡ []) × (y ≡ []) × (Done ≡ r)
gave_done b c r n m y g =
    let stop = done_stops g.front y g.mid g.leads in
    (stop.0, stop.1, done_closes g.mid r c stop.2 g.closes)

stop_still : (b c : Option ByteList) (q r : Stage) (n m : ℕ) (y : ByteList) → q ≡ Done → (h : GavePiece b q n y r m c) → (h.front ≡ []) × (y ≡ [])
stop_still b c q r n m y e h =
    let stop = done_stops h.front y h.mid (subst (λ q. Leads q h.front y h.mid) e h.leads) in (stop.0, stop.1)

closes_ends : (mid : Stage) (rest : ByteList) → Closes mid (Some rest) Done → MayEnd mid rest
closes_ends mid rest (inl same) = subst (λ q. MayEnd q rest) (sym same) tt
closes_ends mid rest (inr over) = subst (λ q. MayEnd q rest) (sym over.0) over.2

-- the pieces of two reads are one piece
pub piece_more : (a b c : Option ByteList) (p q r : Stage) (at n m : ℕ) (x y : ByteList) → GavePiece a p at x q n b → GavePiece b q n y r m c → GavePiece a p at (x ++ y) r m c
piece_more a b c p q r at n m x y g h =
    elim g.closes [
      | inl same ↦ record {
        front = g.front ++ h.front;
        mid = h.mid;
        told = gave_more a b c g.front h.front g.told h.told;
        leads = leads_more p q h.mid g.front h.front x y (subst (λ q. Leads p g.front x q) same g.leads) h.leads;
        closes = h.closes;
        count = count_on at n m g.front h.front g.count h.count;
      }
      | inr over ↦
          let stop = gave_done b c r n m y (subst (λ q. GavePiece b q n y r m c) over.1 h) in
          let still = stop_still b c q r n m y over.1 h in
          record {
            front = g.front ++ h.front;
            mid = g.mid;
            told = gave_more a b c g.front h.front g.told h.told;
            leads = subst (λ f. Leads p f (x ++ y) g.mid) (ap (λ l. g.front ++ l) (sym still.0)) (leads_more p g.mid g.mid g.front [] x y g.leads (subst (λ l. Leads g.mid [] l g.mid) (sym still.1) (leads_none g.mid)));
            closes = inr (over.0, sym stop.2, end_stays b c over.2 (subst (λ l. Gave b l c) still.0 h.told));
            count = count_on at n m g.front h.front g.count h.count;
          }
    ]

-- a fault behind a piece
pub lost_more : (a b c : Option ByteList) (p q : Stage) (at n room k limit : ℕ) (x : ByteList) (e : WireFault) → GavePiece a p at x q n b → room ≡ k + length x
    → BrokeOff b q n k limit e c → BrokeOff a p at room limit e c
lost_more a b c p q at n room k limit x e g less y = record {
  front = g.front ++ y.front;
  told = gave_more a b c g.front y.front g.told y.told;
  explains = elim g.closes [
    | inl same ↦ why_behind p q at n room k limit g.front x y.front c e (subst (λ q. Leads p g.front x q) same g.leads) g.count less y.explains
    | inr over ↦ why_done p at n room k limit (g.front ++ y.front) y.front c e (subst (λ q. Explains q n k limit y.front c e) over.1 y.explains)
  ];
}

-- where the device tells, a body that was read to its end is the one that the bytes hold
pub gave_holds : (bytes rest : ByteList) (p : Stage) (at m : ℕ) (body : ByteList) → GavePiece (Some bytes) p at body Done m (Some rest) → HoldsBody p bytes body rest
gave_holds bytes rest p at m body g = record { front = g.front; end = g.mid; cut = g.told; leads = g.leads; may_end = closes_ends g.mid rest g.closes }

-- where the bytes hold a body within the limit, only the device fails
pub held_or_failed : (bytes left body rest : ByteList) (p : Stage) (at room limit : ℕ) (e : WireFault) → HoldsBody p bytes body rest → length body ≤ room
    → BrokeOff (Some bytes) p at room limit e (Some left) → e ≡ Failed
held_or_failed bytes left body rest p at room limit Failed h le lost = refl
held_or_failed bytes left body rest p at room limit Memory h le lost = absurd lost.explains
held_or_failed bytes left body rest p at room limit (Malformed m) h le lost =
    absurd (strays_never p room lost.front lost.explains.1 left body rest (subst (λ l. HoldsBody p l body rest) lost.told h))
held_or_failed bytes left body rest p at room limit (Ended m) h le lost =
    let all : bytes ≡ lost.front = lost.told ∙ ap (λ l. lost.front ++ l) lost.explains.1 ∙ append-nil lost.front in
    let s = lost.explains.2 in
    absurd (ended_none p s.q lost.front s.piece body rest s.leads s.unended (subst (λ l. HoldsBody p l body rest) all h))
held_or_failed bytes left body rest p at room limit (TooLong len) h le lost =
    let s = lost.explains.1 in
    let on = body_goes_on p s.q bytes lost.front s.piece left body rest lost.told s.leads h in
    let long : length body ≡ length s.piece + length on.0 = ap length on.1 ∙ length-append s.piece on.0 in
    absurd (omega (arith, long, s.one_more, le))

pub lost_held : (old new : Option ByteList) (p : Stage) (at room limit : ℕ) (e : WireFault) → BrokeOff old p at room limit e new → e ≢ Failed → HeldNone old p room
lost_held None new p at room limit e lost other = tt
lost_held (Some old) None p at room limit e lost other = absurd lost.told
lost_held (Some old) (Some new) p at room limit e lost other = λ body rest h le. other (held_or_failed old new body rest p at room limit e h le lost)

pub body_more : (a b c : Option ByteList) (p q r : Body) (x y z : ByteList) → GaveOf a p x q b → GaveOf b q y r c → z ≡ x ++ y → GaveOf a p z r c
body_more a b c p q r x y z g h is = record {
  gave = subst (λ l. GavePiece a p.stage p.at l r.stage r.at c) (sym is) (piece_more a b c p.stage q.stage r.stage p.at q.at r.at x y g.gave h.gave);
  room = let l : length z ≡ length x + length y = ap length is ∙ length-append x y in omega (arith, l, g.room, h.room);
  limit = h.limit ∙ g.limit;
  sound = g.sound;
  kept = h.kept;
}

pub body_lost : (a b c : Option ByteList) (p q r : Body) (x : ByteList) (e : WireFault) → GaveOf a p x q b → LostOf b q e r c
    → BrokeOff a p.stage p.at p.room p.limit e c
body_lost a b c p q r x e g lost =
    let first : BrokeOff b q.stage q.at q.room q.limit e c = subst (λ k. IsFirstOrKept k b q e c) g.kept lost.first in
    lost_more a b c p.stage q.stage p.at q.at p.room q.room p.limit x e g.gave (sym g.room) (subst (λ l. BrokeOff b q.stage q.at q.room l e c) g.limit first)
