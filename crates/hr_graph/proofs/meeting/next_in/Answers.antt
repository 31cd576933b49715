use Rattle.std.proofs.Common.{◌≡◌, ◌<◌, ◌+◌, ◌∷◌, ℕ, List, suc, drop, reverse, refl, sym, ◌∙◌, ap, length, get_or, add-one}
use Rattle.std.proofs.Math.Seq.{drop-cons}
use Rattle.hr_manifest.specs.declared.child.Child.{Child}
use Rattle.hr_graph.specs.Meeting.{Meeting, child_met, next_from, next_at, next_in}
use Rattle.hr_graph.specs.declared.opened.Opened.{Opened}
use Rattle.hr_graph.specs.declared.meeting.Next.{Next}
use Rattle.hr_graph.specs.declared.need.WalkRefused.{WalkRefused}
use Rattle.hr_digest.specs.declared.digest.Digest.{Digest}
use Rattle.std.specs.Prelude.{Result, Ok, Err, None}
use Rattle.hr_graph.specs.declared.opened.Finished.{Finished}
use Rattle.std.proofs.lemmas.Result.{err_from_is_err_and}
use Rattle.hr_graph.proofs.ListLemmas.{reverse_newest}
use Rattle.hr_graph.proofs.meeting.next_in.Goals as goal

-- the next need from one place on, by the child there
step : (meet : Child → Meeting) (digest : Digest) (children : List Child) (at : ℕ) (child : Child)
    → at < length children → child ≡ get_or children at child
    → next_from meet digest at (drop at children)
    ≡ next_at (meet child) at (next_from meet digest (at + 1) (drop (at + 1) children))
step meet digest children at child below is =
    let e : drop at children ≡ child ∷ drop (at + 1) children =
    rw (add-one at) (drop-cons children at child below ∙ ap (λ c. c ∷ drop (suc at) children) (sym is)) in
    ap (next_from meet digest at) e

-- the next need, from the place where the newest open manifest is
from_newest : (opened : List Opened) (blobs : List (Digest × ℕ)) (manifests : List (Digest × Finished)) (o : Opened)
    (below : List Opened) (children : List Child)
    → opened ≡ o ∷ below → children ≡ o.manifest.children
    → next_in opened blobs manifests
    ≡ next_from (child_met opened blobs manifests (o.level + 1)) o.digest o.next (drop o.next children)
from_newest opened blobs manifests o below children e f = rw (e, f) refl

-- where the child is refused, or passed over
refused : (result all : Result Next WalkRefused) (met : Meeting) (why : WalkRefused) (at : ℕ) (later : Result Next WalkRefused)
    → all ≡ next_at met at later → met ≡ Err why → result ≡ Err why → result ≡ all
refused result all met why at later e f g = g ∙ sym (e ∙ ap (λ m. next_at m at later) f)

passed : (all : Result Next WalkRefused) (met : Meeting) (at : ℕ) (later : Result Next WalkRefused)
    → all ≡ next_at met at later → met ≡ Ok None → all ≡ later
passed all met at later e f = e ∙ ap (λ m. next_at m at later) f

pub returns-in_err-met : goal.returns-in_err-met
returns-in_err-met c =
    let s = step (child_met (reverse c.args.opened.now) c.args.blobs.now.entries c.args.manifests.now.entries (c.in-Some.newest.now.level + 1)) c.in-Some.newest.now.digest c.children-children.result.now c.loop-at.at c.index-children-at.result c.loop-at-test.true c.index-children-at.is in
    refused _ _ _ c.in_err-met.field-0.0 _ _ (c.loop-at.invariant ∙ s) (sym c.child_met.ensures ∙ c.in_err-met.was)
    (let p = err_from_is_err_and c.from_residual.result c.from_residual.ensures.1 in rw (p.1, p.2) refl)

pub loop-at-init : goal.loop-at-init
loop-at-init c =
    from_newest (reverse c.args.opened.now) c.args.blobs.now.entries c.args.manifests.now.entries c.in-Some.newest.now _ _
    (reverse_newest c.args.opened.now c.in-Some.newest.now (sym c.in-Some.ensures.value)) c.children-children.ensures

pub loop-at-preserved : goal.loop-at-preserved
loop-at-preserved c =
    let s = step (child_met (reverse c.args.opened.now) c.args.blobs.now.entries c.args.manifests.now.entries (c.in-Some.newest.now.level + 1)) c.in-Some.newest.now.digest c.children-children.result.now c.loop-at.at c.index-children-at.result c.loop-at-test.true c.index-children-at.is in
    let e : c.child_met.result ≡ Ok None = c.in_ok-met.was ∙ ap Ok c.in_default-met.is in
    passed _ _ _ _ (c.loop-at.invariant ∙ s) (sym c.child_met.ensures ∙ e)
