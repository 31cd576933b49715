use Rattle.std.proofs.Common.{◌≡◌, ◌-◌, List, length, reverse, refl, sym, ◌∙◌, ap}
use Rattle.std.proofs.lemmas.Bool.{ltb-true}
use Rattle.std.proofs.lemmas.Option.{slice_get_read, slice_get_past}
use Rattle.std.specs.Prelude.{Option, Some, None, option_map, slice_get}
use Rattle.hr_manifest.specs.declared.child.Child.{Child}
use Rattle.hr_graph.specs.Walk.{View, asked_size}
use Rattle.hr_graph.specs.declared.opened.Opened.{Opened}
use Rattle.hr_graph.proofs.ListLemmas.{reverse_newest}
use Rattle.hr_graph.proofs.walk.Walk.size.Goals as goal

-- the size that the newest open manifest says of its next child
at_newest : (opened seen later : List Opened) (o : Opened) (children : List Child) (found : Option Child)
    → Some o ≡ slice_get seen (length seen - 1) → seen ≡ opened → reverse opened ≡ later
    → children ≡ o.manifest.children → slice_get children o.next ≡ found
    → option_map (λ child. child.size) found ≡ asked_size later
at_newest opened seen later o children found last sees is list get =
    ap (option_map (λ child. child.size)) (sym get)
    ∙ ap (λ l. option_map (λ child. child.size) (slice_get l o.next)) list
    ∙ sym (ap asked_size (reverse_newest seen o (sym last)))
    ∙ ap (λ l. asked_size (reverse l)) sees ∙ ap asked_size is

pub returns-in-Some-get : goal.returns-in-Some-get
returns-in-Some-get c =
    at_newest _ _ _ c.in-Some.newest.now _ (Some c.in-Some-get.child.now) c.in-Some.ensures.value c.deref.ensures.value
    (ap (λ (x : View). x.opened) c.self.view_is) c.children.ensures
    (slice_get_read c.children.result.now (length c.children.result.now) c.in-Some.newest.now.next c.in-Some-get.child.now refl
    (ltb-true c.in-Some.newest.now.next (length c.children.result.now) (sym c.in-Some-get.ensures.lookup.0))
    c.in-Some-get.ensures.lookup.1)

pub returns-in-None : goal.returns-in-None
returns-in-None c =
    at_newest _ _ _ c.in-Some.newest.now _ None c.in-Some.ensures.value c.deref.ensures.value
    (ap (λ (x : View). x.opened) c.self.view_is) c.children.ensures
    (slice_get_past c.children.result.now c.in-Some.newest.now.next c.in-None.ensures.lookup.3)
