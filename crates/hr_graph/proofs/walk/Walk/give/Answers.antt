use Rattle.std.proofs.lemmas.Result.{on_ok_weaker}
use Rattle.hr_graph.proofs.GiveLemmas.{opened_falls, closed_falls}
use Rattle.hr_graph.proofs.walk.Walk.give.Goals as goal

pub returns-in-Manifest-Manifest-clause-falls : goal.returns-in-Manifest-Manifest-clause-falls
returns-in-Manifest-Manifest-clause-falls c =
    on_ok_weaker c.open.result
    (opened_falls c.args.self.now _ _ c.args.given c.in-Manifest-Manifest.digest c.in-Manifest-Manifest.manifest
    c.self.view_is c.self.invariant c.in-Manifest-Manifest.is-0 c.in-Manifest-Manifest.is-1 c.requires)
    c.open.ensures.ok

pub returns-in-PutManifest-Put-clause-falls : goal.returns-in-PutManifest-Put-clause-falls
returns-in-PutManifest-Put-clause-falls c =
    on_ok_weaker c.close.result
    (closed_falls c.args.self.now _ _ c.args.given c.in-PutManifest-Put.field-0-0
    c.self.view_is c.self.invariant c.in-PutManifest-Put.is-0 c.in-PutManifest-Put.is-1 c.requires)
    c.close.ensures.ok
