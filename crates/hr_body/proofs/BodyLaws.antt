-- Laws of reading a body piece by piece: what each read gave adds up.
use Rattle.std.proofs.Common.{◌≡◌, ◌≤◌, ◌-◌, ◌^◌, [], ◌++◌, Option, Some, None, refl, subst, arith}
use Rattle.hr_base.specs.Bytes.{ByteList}
use Rattle.hr_body.specs.declared.body.Body.{Body}
use Rattle.hr_body.specs.declared.fault.WireFault.{WireFault}
use Rattle.hr_body.specs.declared.stage.Stage.TheVariants.{Done}
use Rattle.hr_body.specs.Leading.{HoldsBody}
use Rattle.hr_body.specs.Reading.{GavePiece, GaveOf, LostOf, BrokeOff}
use Rattle.hr_body.proofs.ReadingLemmas.{piece_none, body_more, body_lost, gave_holds}

-- before the first read nothing was given
pub nothing_given : (a : Option ByteList) (body : Body) → body.at ≤ 2 ^ 64 - 1 → body.kept ≡ None → GaveOf a body [] body a
nothing_given a body small sound = record { gave = piece_none a body.stage body.at small; room = omega arith; limit = refl; sound = sound; kept = sound }

-- the pieces of two reads, one after the other, are one piece
pub pieces_add_up : (a b c : Option ByteList) (p q r : Body) (x y z : ByteList) → GaveOf a p x q b → GaveOf b q y r c → z ≡ x ++ y → GaveOf a p z r c
pieces_add_up a b c p q r x y z one other is = body_more a b c p q r x y z one other is

-- a fault behind pieces is one of the whole
pub fault_behind_pieces : (a b c : Option ByteList) (p q r : Body) (x : ByteList) (why : WireFault) → GaveOf a p x q b → LostOf b q why r c
    → BrokeOff a p.stage p.at p.room p.limit why c
fault_behind_pieces a b c p q r x why gave lost = body_lost a b c p q r x why gave lost

-- where the device tells, the pieces up to the end are the body that its bytes hold
pub pieces_are_the_body : (bytes rest : ByteList) (p q : Body) (x : ByteList) → q.stage ≡ Done → GaveOf (Some bytes) p x q (Some rest) → HoldsBody p.stage bytes x rest
pieces_are_the_body bytes rest p q x done g =
    gave_holds bytes rest p.stage p.at q.at x (subst (λ s. GavePiece (Some bytes) p.stage p.at x s q.at (Some rest)) done g.gave)
