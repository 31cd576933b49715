-- Laws of devices: what was read and what was sent adds up, piece after piece.
use Rattle.std.proofs.Common.{[], ◌++◌, Option, Some, None, refl, sym, ap, ◌∙◌, append_assoc}
use Rattle.std.proofs.lemmas.List.{append-nil}
use Rattle.hr_base.specs.Bytes.{ByteList}
use Rattle.hr_cause.specs.Stream.{Gave, Took}

pub took_none : (a : Option ByteList) → Took a [] a
took_none (Some a) = sym (append-nil a)
took_none None = tt

pub took_more : (a b c : Option ByteList) (x y : ByteList) → Took a x b → Took b y c → Took a (x ++ y) c
took_more (Some a) (Some b) (Some c) x y p q = q ∙ ap (λ (t : ByteList). t ++ y) p ∙ append_assoc a x y
took_more (Some a) (Some b) None x y p q = absurd q
took_more (Some a) None c x y p q = absurd p
took_more None (Some b) c x y p q = absurd p
took_more None None (Some c) x y p q = absurd q
took_more None None None x y p q = tt

pub gave_none : (a : Option ByteList) → Gave a [] a
gave_none (Some a) = refl
gave_none None = tt

pub gave_more : (a b c : Option ByteList) (x y : ByteList) → Gave a x b → Gave b y c → Gave a (x ++ y) c
gave_more (Some a) (Some b) (Some c) x y p q = p ∙ ap (λ (t : ByteList). x ++ t) q ∙ sym (append_assoc x y c)
gave_more (Some a) (Some b) None x y p q = absurd q
gave_more (Some a) None c x y p q = absurd p
gave_more None (Some b) c x y p q = absurd p
gave_more None None (Some c) x y p q = absurd q
gave_more None None None x y p q = tt
