use Rattle.std.proofs.Common.{◌≡◌, ◌++◌, [], ◌∷◌, Err, ap, sym, ◌∙◌, append_assoc}
use Rattle.std.proofs.lemmas.Result.{err_from_is_err_and}
use Rattle.hr_json.specs.Node.{value_of, values_of}
use Rattle.hr_manifest.specs.Descriptor.{child_of}
use Rattle.hr_manifest.proofs.EachLemmas.{IsNext, each-next, each-fault}
use Rattle.hr_manifest.proofs.reading.read_each.Goals as goal

pub loop-at-preserved : goal.loop-at-preserved
loop-at-preserved c =
    let child = c.in_ok-read_child.field-0 in
    let more = c.loop-at.invariant.0 in
    let next : IsNext (child_of c.args.role) (values_of c.args.descriptors.now) c.loop-at.at (value_of c.in-Some.descriptor) more = record { there = sym c.in-Some.ensures; before = c.loop-at.invariant.2 } in (
      more ++ child ∷ [],
      c.in_ok-push.ensures.ok ∙ ap (λ l. l ++ child ∷ []) c.loop-at.invariant.1 ∙ append_assoc c.args.before more (child ∷ []),
      each-next (child_of c.args.role) (values_of c.args.descriptors.now) c.loop-at.at (value_of c.in-Some.descriptor) more child next c.in_ok-read_child.ensures.ok,
    )

pub returns-in_err-read_child-clause-err : goal.returns-in_err-read_child-clause-err
returns-in_err-read_child-clause-err c =
    let p = err_from_is_err_and c.from_residual.result c.from_residual.ensures.1 in
    let why = c.in_err-read_child.field-0.0 in
    let more = c.loop-at.invariant.0 in
    let next : IsNext (child_of c.args.role) (values_of c.args.descriptors.now) c.loop-at.at (value_of c.in-Some.descriptor) more = record { there = sym c.in-Some.ensures; before = c.loop-at.invariant.2 } in
    let same : p.0 ≡ why = p.2 in
    rw p.1 (λ other.
    each-fault (child_of c.args.role) (values_of c.args.descriptors.now) c.loop-at.at (value_of c.in-Some.descriptor) more p.0 next (c.in_err-read_child.ensures.err (λ is. other (same ∙ is)) ∙ ap Err (sym same)))
