use Rattle.std.proofs.Common.{◌∙◌, ap}
use Rattle.std.specs.Option.{option_and_then}
use Rattle.std.specs.Map.{lookup}
use Rattle.std.specs.BTreeMap.{is_at}
use Rattle.hr_digest.specs.Order.{digest_cmp}
use Rattle.hr_adapter.specs.Content.{Repo, blob_at}
use Rattle.hr_memreg.proofs.held.Held.blob.Goals as goal

pub returns-in-Some : goal.returns-in-Some
unfolding blob_at
returns-in-Some c =
    c.blob.ensures
    ∙ ap (option_and_then (λ (held : Repo). lookup (is_at (digest_cmp c.args.digest.now)) held.blobs)) c.in-Some.ensures

pub returns-in-None : goal.returns-in-None
unfolding blob_at
returns-in-None c =
    ap (option_and_then (λ (held : Repo). lookup (is_at (digest_cmp c.args.digest.now)) held.blobs)) c.in-None.ensures
