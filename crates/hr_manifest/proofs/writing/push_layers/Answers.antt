use Rattle.std.proofs.Common.{◌++◌, ◌+◌, ◌<◌, ◌^◌, List, ℕ, length, map, sym, subst, ◌∙◌, ap, arith}
use Rattle.std.specs.List.{join_with_byte}
use Rattle.std.proofs.lemmas.List.{take_all}
use Rattle.std.proofs.lemmas.Simd.{map-map}
use Rattle.hr_manifest.specs.Canonical.{descriptor, layer_of}
use Rattle.hr_manifest.proofs.PieceLemmas.{further_each, further_item}
use Rattle.hr_manifest.proofs.writing.push_layers.Goals as goal

pub loop-layer-preserved : goal.loop-layer-preserved
loop-layer-preserved c =
    let all = c.args.layers.now in
    let others = c.in-Some.others.now in
    let first = c.in-Some.first.now in
    let item = c.layer-item.result in
    let i = c.loop-layer.layer-index in
    let cut = c.in-Some.ensures.cases.0 in
    let seen = c.view-in-loop-layer.ensures in
    let put = c.in_ok-push_content-2.ensures.text ∙ ap (λ (l : List ℕ). c.extend_from_slice.new.self.items ++ descriptor (layer_of l)) seen in (
      further_item (λ (l : List ℕ). descriptor (layer_of l)) c.args.text.now.items c.loop-layer.text.items c.extend_from_slice.new.self.items c.push_content-in-loop-layer.new.text.items all others first item i cut c.loop-layer-test.true c.layer-item.is c.loop-layer.invariant.0 c.in_ok-extend_from_slice.ensures.items put,
      further_each (λ (l : List ℕ). length l < 2 ^ 63) all others first item i cut c.loop-layer-test.true c.layer-item.is c.loop-layer.invariant.1 (subst (λ (l : List ℕ). length l < 2 ^ 63) seen c.in_ok-push_content-2.ensures.short),
    )

pub returns-clause-text : goal.returns-clause-text
returns-clause-text c =
    let old = c.args.text.now.items in
    c.loop-layer.invariant.0
    ∙ ap (λ (ls : List (List ℕ)). old ++ join_with_byte 44 (map (λ (l : List ℕ). descriptor (layer_of l)) ls)) (take_all (c.loop-layer.layer-index + 1) c.args.layers.now (omega (arith, c.in-Some.ensures.cases.1, c.loop-layer-test.false)))
    ∙ ap (λ (ts : List (List ℕ)). old ++ join_with_byte 44 ts) (sym (map-map descriptor layer_of c.args.layers.now))
