use Rattle.std.proofs.Common.{◌<◌, ◌≤◌, ◌^◌, ℕ, List, codes, length, map, sym, subst, ◌∙◌}
use Rattle.std.proofs.lemmas.List.Elements.{recursion_from_All}
use Rattle.hr_manifest.specs.Canonical.{config_of, descriptor, descriptors, image_children, image_media, layer_of}
use Rattle.hr_manifest.specs.Reading.{Reads}
use Rattle.hr_manifest.proofs.PieceLemmas.{five_from_new}
use Rattle.hr_manifest.proofs.RoundTripLemmas.{image_children_back}
use Rattle.hr_manifest.proofs.writing.write_image.Goals as goal

pub returns-clause-text : goal.returns-clause-text
returns-clause-text c =
    c.from.ensures
    ∙ five_from_new c.new-text.result.items c.extend_from_slice.new.self.items c.push_content.new.text.items c.extend_from_slice-2.new.self.items c.push_layers.new.text.items c.extend_from_slice-3.new.self.items (codes "{\"schemaVersion\":2,\"mediaType\":\"application/vnd.oci.image.manifest.v1+json\",\"config\":") (descriptor (config_of c.args.config.now)) (codes ",\"layers\":[") (descriptors (map layer_of c.args.layers.now)) (codes "]}") c.new-text.ensures.items c.in_ok-extend_from_slice.ensures.items c.in_ok-push_content.ensures.text c.in_ok-extend_from_slice-2.ensures.items c.in_ok-push_layers.ensures.text c.in_ok-extend_from_slice-3.ensures.items

pub returns-clause-reads_back : goal.returns-clause-reads_back
returns-clause-reads_back c few short =
    let config = c.args.config.now in
    let layers = c.args.layers.now in
    let text = returns-clause-text c in
    let lengths = recursion_from_All (λ (l : List ℕ). length l < 2 ^ 63) layers c.in_ok-push_layers.ensures.short in
    subst (λ (t : List ℕ). Reads image_media t (image_children config layers)) (sym text)
    (image_children_back config layers c.in_ok-push_content.ensures.short lengths few (subst (λ (t : List ℕ). length t ≤ 4194304) text short))
