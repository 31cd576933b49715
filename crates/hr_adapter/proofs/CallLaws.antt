-- Laws of calls: what a caller gets from the relations, whatever the answer.
use Rattle.std.proofs.Common.{◌⊎◌, inl, inr, true, false, ◌≡◌, refl, sym, ap, subst, ◌∙◌, ℕ, List, Option, Some, None, IsTrue, Bool}
use Rattle.std.specs.Prelude.{IfSome, Result, Ok, Err, is_some, length, option_map}
use Rattle.hr_base.specs.Bytes.{ByteList, Media}
use Rattle.hr_digest.specs.declared.digest.Digest.{Digest}
use Rattle.hr_name.specs.Name.{RepoName}
use Rattle.hr_event.specs.declared.reference.Fetched.{Fetched}
use Rattle.hr_event.specs.declared.reference.Reference.{Reference}
use Rattle.hr_event.specs.declared.reference.Reference.TheVariants as by
use Rattle.hr_adapter.specs.Calls.{Asks, EndsPut, FindsBlob, Fetches, Found, Heads, HoldsAfter, ListsRepos, ListsTags, MayHold, MayStand, Moved, OpensBlob, PutsManifest, StandsAfter, with_written}
use Rattle.hr_adapter.specs.Content.{Content, blob_at, fetch_at, head_at}
use Rattle.hr_adapter.specs.Listing.{repos_of, tags_of}
use Rattle.hr_adapter.specs.Plan.{lands_next}
use Rattle.hr_adapter.specs.Put.{manifest_alone, put_under}
use Rattle.hr_adapter.specs.Reg.{BothOrNeither, IsSound, Reg, Retagged, Writing, changed, end_lands}
use Rattle.hr_adapter.specs.declared.fault.RegFault.{RegFault}
use Rattle.hr_adapter.specs.declared.fault.RegFault.TheVariants as why
use Rattle.hr_adapter.specs.declared.listed.Tagged.{Tagged}
use Rattle.hr_adapter.proofs.HonestLaws.{Retagged-itself, Retagged-then}

-- ---- moved tags

both_itself : (o : Option Content) → BothOrNeither Retagged o o
both_itself (Some c) = Retagged-itself c
both_itself None = tt

both_then : (o p q : Option Content) → BothOrNeither Retagged o p → BothOrNeither Retagged p q → BothOrNeither Retagged o q
both_then (Some c) (Some d) (Some e) h k = Retagged-then c d e h k
both_then None None None h k = tt
both_then (Some c) None q h k = absurd h
both_then None (Some d) q h k = absurd h
both_then (Some c) (Some d) None h k = absurd k
both_then None None (Some e) h k = absurd k

-- what is known before is known after, and differs by tags alone
both_known : (o p : Option Content) (c : Content) → BothOrNeither Retagged o p → o ≡ Some c
    → (d : Content) × (p ≡ Some d) × Retagged c d
both_known (Some a) (Some d) c h e = (d, refl, subst (λ (t : Content). Retagged t d) (cc) h)
both_known (Some a) None c h e = absurd h
both_known None p c h e = absurd (let f : Some c ≡ None = sym e in cc)

-- no tag moved where the content is the same
pub Moved-same : (before after : Reg) → after.told ≡ before.told → Moved before after
Moved-same before after is = record {
  told = subst (BothOrNeither Retagged before.told) (sym is) (both_itself before.told);
  quiet = λ _. is;
}

-- moves after moves are moves; a call that leaves a quiet connection quiet may stand between
pub Moved-then : (a b c : Reg) → Moved a b → (IsTrue a.quiet → IsTrue b.quiet) → Moved b c → Moved a c
Moved-then a b c h still k = record {
  told = both_then a.told b.told c.told h.told k.told;
  quiet = λ q. k.quiet (still q) ∙ h.quiet q;
}

moved_to : (before after : Reg) → IsSound before → after.told ≡ before.coming → Moved before after
moved_to before after sound is = record {
  told = subst (BothOrNeither Retagged before.told) (sym is) sound.changes;
  quiet = λ q. is ∙ sound.quiet q;
}

-- what an operation finds of a sound connection differs by moved tags from what was there
pub Moved-found : {T : Type 0} (before after : Reg) (result : Result T RegFault) → IsSound before
    → Found before after result → Moved before after
Moved-found before after (Ok x) sound is = moved_to before after sound is
Moved-found before after (Err why.Failed) sound is = moved_to before after sound is
Moved-found before after (Err (why.TooLong len)) sound is = moved_to before after sound is
Moved-found before after (Err why.Memory) sound is = is

pub Moved-asks : {T : Type 0} (before after : Reg) (result : Result T RegFault) → IsSound before
    → Asks before after result → Moved before after
Moved-asks before after result sound asks = Moved-found before after result sound asks.found

-- a quiet connection is as it was after it was asked
pub Asks-quiet : {T : Type 0} (before after : Reg) (result : Result T RegFault) → IsSound before
    → Asks before after result → IsTrue before.quiet → after.told ≡ before.told
Asks-quiet before after result sound asks quiet = (Moved-asks before after result sound asks).quiet quiet

-- ---- answers by the content

-- an answer by what is told after is one by a content that differs by moved tags from the one before
pub answers_by : (P : Content → Type 0) (before after : Reg) (c : Content) → Moved before after
    → before.told ≡ Some c → IfSome after.told P → (d : Content) × (after.told ≡ Some d) × Retagged c d × P d
answers_by P before after c moved known answer =
    let there = both_known before.told after.told c moved.told known in
    (there.0, there.1, there.2, subst (λ (t : Option Content). IfSome t P) there.1 answer)

pub ListsRepos-told : (before after : Reg) (names : List RepoName) (c : Content) → IsSound before
    → ListsRepos before after (Ok names) → before.told ≡ Some c
    → (d : Content) × (after.told ≡ Some d) × Retagged c d × (names ≡ repos_of d)
ListsRepos-told before after names c sound call known =
    answers_by (λ d. names ≡ repos_of d) before after c (Moved-asks before after (Ok names) sound call.asks) known call.told

pub ListsTags-told : (repo : RepoName) (before after : Reg) (tags : List Tagged) (c : Content) → IsSound before
    → ListsTags repo before after (Ok tags) → before.told ≡ Some c
    → (d : Content) × (after.told ≡ Some d) × Retagged c d × (tags ≡ tags_of d repo)
ListsTags-told repo before after tags c sound call known =
    answers_by (λ d. tags ≡ tags_of d repo) before after c (Moved-asks before after (Ok tags) sound call.asks) known call.told

pub Heads-told : (repo : RepoName) (reference : Reference) (before after : Reg) (found : Option Digest) (c : Content)
    → IsSound before → Heads repo reference before after (Ok found) → before.told ≡ Some c
    → (d : Content) × (after.told ≡ Some d) × Retagged c d × (found ≡ head_at d repo reference)
Heads-told repo reference before after found c sound call known =
    answers_by (λ d. found ≡ head_at d repo reference) before after c
    (Moved-asks before after (Ok found) sound call.asks) known call.told

pub Fetches-told : (repo : RepoName) (reference : Reference) (before after : Reg) (found : Option Fetched) (c : Content)
    → IsSound before → Fetches repo reference before after (Ok found) → before.told ≡ Some c
    → (d : Content) × (after.told ≡ Some d) × Retagged c d × (found ≡ fetch_at d repo reference)
Fetches-told repo reference before after found c sound call known =
    answers_by (λ d. found ≡ fetch_at d repo reference) before after c
    (Moved-asks before after (Ok found) sound call.asks) known call.told

-- ---- what moved tags leave

-- blobs don't move: what is found of one is what was there before
pub FindsBlob-told : (repo : RepoName) (d : Digest) (before after : Reg) (found : Option ℕ) (c : Content)
    → IsSound before → FindsBlob repo d before after (Ok found) → before.told ≡ Some c
    → found ≡ option_map length (blob_at c repo d)
FindsBlob-told repo d before after found c sound call known =
    let there = answers_by (λ e. found ≡ option_map length (blob_at e repo d)) before after c
    (Moved-asks before after (Ok found) sound call.asks) known call.told in
    there.3 ∙ ap (option_map length) (there.2.blobs repo d)

pub OpensBlob-told : (repo : RepoName) (d : Digest) (before after : Reg) (found : Bool) (c : Content)
    → IsSound before → OpensBlob repo d before after (Ok found) → before.told ≡ Some c
    → found ≡ is_some (blob_at c repo d)
OpensBlob-told repo d before after found c sound call known =
    let there = answers_by (λ e. found ≡ is_some (blob_at e repo d)) before after c
    (Moved-asks before after (Ok found) sound call.asks) known call.told in
    there.3 ∙ ap is_some (there.2.blobs repo d)

-- manifests don't move: under a digest it is the same one
pub Retagged-fetch : (c d : Content) (repo : RepoName) (e : Digest) → Retagged c d
    → fetch_at d repo (by.Digest e) ≡ fetch_at c repo (by.Digest e)
Retagged-fetch c d repo e h = h.manifests repo e

pub Retagged-head : (c d : Content) (repo : RepoName) (e : Digest) → Retagged c d
    → head_at d repo (by.Digest e) ≡ head_at c repo (by.Digest e)
Retagged-head c d repo e h = ap (option_map (λ _. e)) (h.manifests repo e)

-- ---- puts

-- a put of a manifest that may have failed: nothing of it, the manifest alone, or all
abbrev pub MayBePut : RepoName → Reference → Media → ByteList → Content → Content → Type 0
MayBePut repo reference media bytes b d = (d ≡ b)
    ⊎ ((d ≡ manifest_alone repo reference media bytes b) ⊎ (d ≡ put_under repo reference media bytes b))

may_stand : (planned : Option Bool) (repo : RepoName) (reference : Reference) (media : Media) (bytes : ByteList) (o p : Option Content)
    → MayStand planned repo reference media bytes o p → MayStand None repo reference media bytes o p
may_stand (Some true) repo reference media bytes o p h = inr (inr h)
may_stand (Some false) repo reference media bytes o p h = inl h
may_stand None repo reference media bytes o p h = h

put_known : (repo : RepoName) (reference : Reference) (media : Media) (bytes : ByteList) (o p : Option Content) (b : Content)
    → o ≡ Some b → MayStand None repo reference media bytes o p
    → (d : Content) × (p ≡ Some d) × MayBePut repo reference media bytes b d
put_known repo reference media bytes o p b e (inl same) = (b, same ∙ e, inl refl)
put_known repo reference media bytes o p b e (inr (inl alone)) = (
  manifest_alone repo reference media bytes b,
  alone ∙ ap (changed (manifest_alone repo reference media bytes)) e,
  inr (inl refl),
)
put_known repo reference media bytes o p b e (inr (inr all)) = (
  put_under repo reference media bytes b,
  all ∙ ap (changed (put_under repo reference media bytes)) e,
  inr (inr refl),
)

stands : (repo : RepoName) (reference : Reference) (media : Media) (bytes : ByteList) (before after : Reg)
    (result : Result Unit RegFault) → StandsAfter repo reference media bytes before after result
    → MayStand None repo reference media bytes before.coming after.told ⊎ Moved before after
stands repo reference media bytes before after (Ok done) h = inl (inr (inr h))
stands repo reference media bytes before after (Err why.Failed) h = inl
    (may_stand (option_map lands_next before.plan) repo reference media bytes before.coming after.told h)
stands repo reference media bytes before after (Err (why.TooLong len)) h = inl (inl h)
stands repo reference media bytes before after (Err why.Memory) (inl moved) = inr moved
stands repo reference media bytes before after (Err why.Memory) (inr h) = inl h

-- whatever a put answers, what is told after it is what was there with moved tags, and with what of
-- the put came about
pub PutsManifest-told : (repo : RepoName) (reference : Reference) (media : Media) (bytes : ByteList) (before after : Reg)
    (result : Result Unit RegFault) (c : Content) → IsSound before
    → PutsManifest repo reference media bytes before after result → before.told ≡ Some c
    → (b : Content) × Retagged c b
    × ((d : Content) × (after.told ≡ Some d) × MayBePut repo reference media bytes b d)
PutsManifest-told repo reference media bytes before after result c sound call known =
    elim (stands repo reference media bytes before after result call.content) [
      | inl h ↦ let found = both_known before.told before.coming c sound.changes known in
          (found.0, found.2, put_known repo reference media bytes before.coming after.told found.0 found.1 h)
      | inr moved ↦ let found = both_known before.told after.told c moved.told known in
          (found.0, found.2, (found.0, found.1, inl refl))
    ]

may_hold : (planned : Option Bool) (put : Content → Content) (o p : Option Content) → MayHold planned put o p → MayHold None put o p
may_hold (Some true) put o p h = inr h
may_hold (Some false) put o p h = inl h
may_hold None put o p h = h

holds : (d : Digest) (before after : Reg) (result : Result Unit RegFault) (w : Writing) → HoldsAfter d before after result w
    → MayHold None (with_written d w) before.told after.told
holds d before after (Ok done) w h = inr h
holds d before after (Err why.Failed) w h =
    may_hold (option_map (λ p. end_lands p before.writing) before.plan) (with_written d w) before.told after.told h
holds d before after (Err (why.TooLong len)) w h = h
holds d before after (Err why.Memory) w h = h

hold_known : (put : Content → Content) (o p : Option Content) (c : Content) → o ≡ Some c → MayHold None put o p
    → (d : Content) × (p ≡ Some d) × ((d ≡ c) ⊎ (d ≡ put c))
hold_known put o p c e (inl same) = (c, same ∙ e, inl refl)
hold_known put o p c e (inr done) = (put c, done ∙ ap (changed put) e, inr refl)

-- whatever the end of a writing answers, what is told after it is what was told before, or that with
-- the blob
pub EndsPut-told : (digest : Digest) (before after : Reg) (result : Result Unit RegFault) (w : Writing) (c : Content)
    → EndsPut digest before after result → before.writing ≡ Some w → before.told ≡ Some c
    → (d : Content) × (after.told ≡ Some d) × ((d ≡ c) ⊎ (d ≡ with_written digest w c))
EndsPut-told digest before after result w c call is known =
    hold_known (with_written digest w) before.told after.told c known
    (holds digest before after result w (subst (λ (t : Option Writing). IfSome t (HoldsAfter digest before after result)) is call.content))
