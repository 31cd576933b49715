use Rattle.std.proofs.Common.{◌≡◌, ◌∙◌, ◌+◌, Bor, take, List, ◌∷◌, [], sym, ap, Option, Some}
use Rattle.std.specs.List.{slice_split}
use Rattle.std.specs.Option.{option_copied}
use Rattle.std.proofs.lemmas.List.{take_rest}
use Rattle.hr_pattern.specs.Component.{components_left}
use Rattle.hr_pattern.proofs.SplitLemmas.{split_some, split_none, first_and_rest}
use Rattle.hr_pattern.proofs.component.Components.split_first.Goals as goal

pub returns : goal.returns
returns g c =
    let is_slash = g.T.Separated.is_slash in
    let was : c.self.inside.left ≡ Some c.in_ok-left.left = c.in_ok-left.was in
    let all : c.args.self.now ≡ slice_split is_slash c.in_ok-left.left.now = sym c.self.view_is ∙ ap (λ (o : Option (Bor (List _))). components_left is_slash (option_copied o)) was in
    let cut = split_some is_slash c.in_ok-left.left.now c.in-Some.end (sym c.first_slash.ensures ∙ c.in-Some.is) in
    let rest = ap (λ (left : List _). take c.in-Some.end c.in_ok-left.left.now ∷ slice_split is_slash left) (sym (take_rest c.in_ok-left.left.now (c.in-Some.end + 1))) in
    first_and_rest _ _ _ (all ∙ cut ∙ rest)

pub returns-in_default : goal.returns-in_default
returns-in_default g c =
    let is_slash = g.T.Separated.is_slash in
    let was : c.self.inside.left ≡ Some c.in_ok-left.left = c.in_ok-left.was in
    let all : c.args.self.now ≡ slice_split is_slash c.in_ok-left.left.now = sym c.self.view_is ∙ ap (λ (o : Option (Bor (List _))). components_left is_slash (option_copied o)) was in
    let cut = split_none is_slash c.in_ok-left.left.now (sym c.first_slash.ensures ∙ c.in_default.is) in
    first_and_rest _ _ [] (all ∙ cut)
