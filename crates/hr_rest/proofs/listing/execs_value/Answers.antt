use Rattle.std.proofs.Common.{◌≡◌, take, map, reverse, sym, ap, ◌∙◌, arith, List}
use Rattle.std.proofs.lemmas.Grind.{common_steps}
use Rattle.serde_json.proofs.Views.{view-Array}
use Rattle.serde_json.specs.Data.{Data}
use Rattle.serde_json.specs.View.{view}
use Rattle.serde_json.specs.declared.value.Value.{Value}
use Rattle.hr_rest.specs.Value.{exec_value, list_value}
use Rattle.hr_rest.proofs.ListingLemmas.{map_reverse}
use Rattle.hr_rest.proofs.listing.execs_value.Goals as goal

pub returns : goal.returns
returns c =
    let all : take c.loop-exec.exec-index c.args.execs.now ≡ c.args.execs.now = grind (arith, common_steps) in
    view-Array c.reverse.new.self
    ∙ ap list_value (
    ap (λ (vs : List Value). map view vs) c.reverse.ensures.items
    ∙ map_reverse view c.loop-exec.list.items
    ∙ ap (λ (ds : List Data). reverse ds) (c.loop-exec.invariant ∙ ap (map exec_value) all)
    ∙ sym (map_reverse exec_value c.args.execs.now)
    )
