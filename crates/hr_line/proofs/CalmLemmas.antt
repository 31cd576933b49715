-- What a look at a tag decides, and what calls leave of a connection that is quiet and tells.
use Rattle.std.proofs.Common.{◌≡◌, ◌⊎◌, inl, inr, refl, ap, subst, ◌∙◌, Bool, true, false}
use Rattle.std.specs.Prelude.{◌≢◌, Option, Some, None, IsTrue, Result, Err, option_map}
use Rattle.std.specs.Cmp.Lexicographic.{bytes_decides}
use Rattle.hr_base.specs.Bytes.{ByteList, Media}
use Rattle.hr_digest.specs.Order.{digest_eq}
use Rattle.hr_digest.specs.declared.digest.Digest.{Digest}
use Rattle.hr_digest.specs.declared.digest.Digest.TheVariants.{Sha256}
use Rattle.hr_name.specs.Name.{RepoName}
use Rattle.hr_event.specs.declared.entry.How.{How}
use Rattle.hr_event.specs.declared.entry.How.TheVariants.{Same, Kept}
use Rattle.hr_event.specs.declared.entry.What.{What}
use Rattle.hr_event.specs.declared.reference.Reference.{Reference}
use Rattle.hr_graph.specs.Sound.{Asks}
use Rattle.hr_adapter.specs.Calls.{Asks as Asked, Found, MayHold, MayStand, StandsAfter}
use Rattle.hr_adapter.specs.Content.{Content, with_blob}
use Rattle.hr_adapter.specs.Plan.{lands_next}
use Rattle.hr_adapter.specs.Put.{manifest_alone, put_under}
use Rattle.hr_adapter.specs.Reg.{IsSound, Reg, changed}
use Rattle.hr_adapter.specs.declared.fault.RegFault.{RegFault}
use Rattle.hr_adapter.specs.declared.fault.RegFault.TheVariants as why
use Rattle.hr_adapter.proofs.CallLaws.{Asks-quiet, MayBePut, Moved-found}
use Rattle.hr_blob.specs.Copies.{HoldsCopy, with_copy}
use Rattle.hr_journal.specs.Puts.{IsLeft}
use Rattle.hr_line.specs.Line.{decide, decided_by}

-- ---- digests

pub digest_same : (d e : Digest) → digest_eq d e ≡ true → d ≡ e
digest_same (Sha256 x) (Sha256 y) is = ap Sha256 ((bytes_decides x y).0 is)

pub digest_apart : (d e : Digest) → digest_eq d e ≡ false → d ≢ e
digest_apart (Sha256 x) (Sha256 y) is same = let t = (bytes_decides x y).1 (by_hash x y same) in cc
  where
    by_hash : (x y : ByteList) → Sha256 x ≡ Sha256 y → x ≡ y
    by_hash x y e = cc

-- ---- what a look decides

some_apart : (d root : Digest) → d ≢ root → Some d ≢ Some root
some_apart d root apart is = apart (let e : d ≡ root = cc in e)

left_by : (same replaces : Bool) (d root : Digest) (how : How) → digest_eq d root ≡ same
    → decided_by same replaces ≡ Some how → IsLeft how root (Some d)
left_by true replaces d root how is decides =
    subst (λ (h : How). IsLeft h root (Some d)) (let e : Same ≡ how = cc in e) (ap Some (digest_same d root is))
left_by false true d root how is decides = cc
left_by false false d root how is decides =
    subst (λ (h : How). IsLeft h root (Some d)) (let e : Kept ≡ how = cc in e) (some_apart d root (digest_apart d root is))

-- a look that decides leaves the tag as it is
pub look_leaves : (found : Option Digest) (root : Digest) (replaces : Bool) (how : How) → decide found root replaces ≡ Some how
    → IsLeft how root found
look_leaves None root replaces how decides = cc
look_leaves (Some d) root replaces how decides = left_by (digest_eq d root) replaces d root how refl decides

other_by : (same replaces : Bool) (d root : Digest) → digest_eq d root ≡ same → decided_by same replaces ≡ None
    → Some d ≢ Some root
other_by true replaces d root is decides = cc
other_by false replaces d root is decides = some_apart d root (digest_apart d root is)

-- a look that doesn't decide found another digest, or none
pub look_other : (found : Option Digest) (root : Digest) (replaces : Bool) → decide found root replaces ≡ None
    → found ≢ Some root
look_other None root replaces decides is = cc
look_other (Some d) root replaces decides is = other_by (digest_eq d root) replaces d root refl decides is

-- ---- calls of a quiet connection

may_stand : (planned : Option Bool) (repo : RepoName) (reference : Reference) (media : Media) (bytes : ByteList) (o p : Option Content)
    → MayStand planned repo reference media bytes o p → MayStand None repo reference media bytes o p
may_stand (Some true) repo reference media bytes o p h = inr (inr h)
may_stand (Some false) repo reference media bytes o p h = inl h
may_stand None repo reference media bytes o p h = h

put_known : (repo : RepoName) (reference : Reference) (media : Media) (bytes : ByteList) (o p : Option Content) (b : Content)
    → o ≡ Some b → MayStand None repo reference media bytes o p
    → (d : Content) × (p ≡ Some d) × MayBePut repo reference media bytes b d
put_known repo reference media bytes o p b e (inl same) = (b, same ∙ e, inl refl)
put_known repo reference media bytes o p b e (inr (inl alone)) = (
  manifest_alone repo reference media bytes b,
  alone ∙ ap (changed (manifest_alone repo reference media bytes)) e,
  inr (inl refl),
)
put_known repo reference media bytes o p b e (inr (inr all)) = (
  put_under repo reference media bytes b,
  all ∙ ap (changed (put_under repo reference media bytes)) e,
  inr (inr refl),
)

may_hold : (planned : Option Bool) (put : Content → Content) (o p : Option Content) → MayHold planned put o p → MayHold None put o p
may_hold (Some true) put o p h = inr h
may_hold (Some false) put o p h = inl h
may_hold None put o p h = h

hold_known : (put : Content → Content) (o p : Option Content) (b : Content) → o ≡ Some b → MayHold None put o p
    → (d : Content) × (p ≡ Some d) × ((d ≡ b) ⊎ (d ≡ put b))
hold_known put o p b e (inl same) = (b, same ∙ e, inl refl)
hold_known put o p b e (inr done) = (put b, done ∙ ap (changed put) e, inr refl)

-- a quiet connection as it stood before a line
pub record IsCalm (p : Reg) (b : Content) : Type 0 where
  pub sound : IsSound p
  pub quiet : IsTrue p.quiet
  pub told : p.told ≡ Some b

pub coming_is : (p : Reg) (b : Content) → IsCalm p b → p.coming ≡ Some b
coming_is p b calm = calm.sound.quiet calm.quiet ∙ calm.told

pub asked_told : {T : Type 0} (p q : Reg) (result : Result T RegFault) (b : Content) → IsCalm p b → Asked p q result → q.told ≡ Some b
asked_told p q result b calm asks = Asks-quiet p q result calm.sound asks calm.quiet ∙ calm.told

pub begun_told : {T : Type 0} (p q : Reg) (result : Result T RegFault) (b : Content) → IsCalm p b → Found p q result → q.told ≡ Some b
begun_told p q result b calm found = (Moved-found p q result calm.sound found).quiet calm.quiet ∙ calm.told

-- a put that failed
pub put_failed : (repo : RepoName) (reference : Reference) (media : Media) (bytes : ByteList) (p q : Reg) (fault : RegFault) (b : Content)
    → IsCalm p b → StandsAfter repo reference media bytes p q (Err fault)
    → (d : Content) × (q.told ≡ Some d) × MayBePut repo reference media bytes b d
put_failed repo reference media bytes p q why.Failed b calm stands =
    put_known repo reference media bytes p.coming q.told b (coming_is p b calm)
    (may_stand (option_map lands_next p.plan) repo reference media bytes p.coming q.told stands)
put_failed repo reference media bytes p q (why.TooLong len) b calm stands =
    put_known repo reference media bytes p.coming q.told b (coming_is p b calm) (inl stands)
put_failed repo reference media bytes p q why.Memory b calm (inl moved) = (b, moved.quiet calm.quiet ∙ calm.told, inl refl)
put_failed repo reference media bytes p q why.Memory b calm (inr stands) =
    put_known repo reference media bytes p.coming q.told b (coming_is p b calm) stands

-- a copy whose end failed
pub copy_failed : (to : RepoName) (d : Digest) (bytes : ByteList) (p q : Reg) (fault : RegFault) (b : Content) → IsCalm p b
    → HoldsCopy to d bytes p q (Err fault)
    → (c : Content) × (q.told ≡ Some c) × ((c ≡ b) ⊎ (c ≡ with_blob b to d bytes))
copy_failed to d bytes p q why.Failed b calm holds =
    hold_known (with_copy to d bytes) p.coming q.told b (coming_is p b calm)
    (may_hold (option_map lands_next p.plan) (with_copy to d bytes) p.coming q.told holds)
copy_failed to d bytes p q (why.TooLong len) b calm holds =
    hold_known (with_copy to d bytes) p.coming q.told b (coming_is p b calm) holds
copy_failed to d bytes p q why.Memory b calm holds =
    hold_known (with_copy to d bytes) p.coming q.told b (coming_is p b calm) holds
