use Rattle.std.proofs.Common.{option_map, sym, ap, ◌∙◌}
use Rattle.serde_json.specs.Find.{get_member}
use Rattle.serde_json.specs.View.{members_view, view}
use Rattle.serde_json.proofs.Views.{view_of_ref, view-lookup}
use Rattle.hr_json.proofs.NodeLemmas.{get_member-no_text}
use Rattle.hr_json.proofs.node.find.Goals as goal

pub returns-in-Ok : goal.returns-in-Ok
returns-in-Ok c =
    let es = c.args.members.now.entries in
    view_of_ref c.get.result ∙ ap (option_map view) c.get.ensures.value ∙ view-lookup c.in-Ok.name.now es ∙ ap (λ n. get_member n (members_view es)) c.in-Ok.ensures.cases.0

pub returns-in-Err : goal.returns-in-Err
returns-in-Err c = sym (get_member-no_text _ c.args.members.now.entries c.in-Err.ensures.cases.0)
