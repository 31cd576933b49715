use Rattle.std.proofs.Common.{◌≡◌, ◌++◌, ◌∷◌, [], List, ℕ, codes, sym, ap, ◌∙◌, append_assoc}
use Rattle.std.proofs.lemmas.Result.{on_ok_weaker}
use Rattle.hr_call.specs.declared.call.Call.{Call}
use Rattle.hr_frame.specs.declared.head.Head.{Head}
use Rattle.hr_wire.specs.Line.{line}
use Rattle.hr_wire.specs.Request.{own_lines, range_lines}
use Rattle.hr_wire.proofs.requests.put_own.Goals as goal

pub returns-in-PutManifest : goal.returns-in-PutManifest
returns-in-PutManifest c =
    let old = c.args.heads.now in
    on_ok_weaker c.put_line.result
    (λ (e : c.put_line.new.heads ≡ c.args.heads.now ++ line (codes "Content-Type") c.view.result.now ∷ []). e
    ∙ ap (λ (t : List ℕ). old ++ line (codes "Content-Type") t ∷ []) c.view.ensures
    ∙ ap (λ (k : Call). old ++ own_lines k) (sym c.in-PutManifest.is))
    c.put_line.ensures

pub returns-in_ok-put_range-in-Chunk : goal.returns-in_ok-put_range-in-Chunk
returns-in_ok-put_range-in-Chunk c =
    let old = c.args.heads.now in
    let typed = line (codes "Content-Type") (codes "application/octet-stream") ∷ [] in
    c.in_ok-put_range-in-Chunk.ensures
    ∙ ap (λ (b : List ℕ). c.put_line-in-Chunk.new.heads ++ range_lines c.in-Chunk.from b) c.view-in-Chunk.ensures
    ∙ ap (λ (h : List Head). h ++ range_lines c.in-Chunk.from c.in-Chunk.bytes) c.in_ok-put_line-in-Chunk.ensures
    ∙ append_assoc old typed (range_lines c.in-Chunk.from c.in-Chunk.bytes)
    ∙ ap (λ (k : Call). old ++ own_lines k) (sym c.in-Chunk.is)
