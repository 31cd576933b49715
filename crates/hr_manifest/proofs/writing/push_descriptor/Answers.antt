use Rattle.std.proofs.Common.{◌≡◌, ◌++◌, List, ℕ, codes, ◌∙◌, ap₂}
use Rattle.std.specs.Fmt.{decimal}
use Rattle.hr_digest.specs.Digest.{text_of_digest}
use Rattle.hr_manifest.proofs.PieceLemmas.{seven_pieces}
use Rattle.hr_manifest.proofs.writing.push_descriptor.Goals as goal

pub returns : goal.returns
returns c =
    let old = c.args.text.now.items in
    let media = c.args.media.now in
    let digest : c.view.result.now ≡ text_of_digest c.args.digest = c.view.ensures ∙ c.in_ok-named.ensures in
    let size : c.as_bytes.result.now ≡ decimal c.args.size = c.as_bytes.ensures.value ∙ c.format.ensures.text in
    seven_pieces old c.extend_from_slice.new.self.items c.extend_from_slice-2.new.self.items c.extend_from_slice-3.new.self.items c.extend_from_slice-4.new.self.items c.extend_from_slice-5.new.self.items c.extend_from_slice-6.new.self.items c.extend_from_slice-7.new.self.items (codes "{\"mediaType\":\"") media (codes "\",\"digest\":\"") c.view.result.now (codes "\",\"size\":") c.as_bytes.result.now (codes "}") c.in_ok-extend_from_slice.ensures.items c.in_ok-extend_from_slice-2.ensures.items c.in_ok-extend_from_slice-3.ensures.items c.in_ok-extend_from_slice-4.ensures.items c.in_ok-extend_from_slice-5.ensures.items c.in_ok-extend_from_slice-6.ensures.items c.in_ok-extend_from_slice-7.ensures.items
    ∙ ap₂ (λ (d s : List ℕ). old ++ (codes "{\"mediaType\":\"" ++ media ++ codes "\",\"digest\":\"" ++ d ++ codes "\",\"size\":" ++ s ++ codes "}")) digest size
