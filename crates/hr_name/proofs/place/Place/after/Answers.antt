use Rattle.std.proofs.Common.{◌≡◌, ap, subst, sym, ◌∙◌, inl, inr, false, Option, None}
use Rattle.hr_name.specs.declared.place.Place.TheVariants.{Underscore, Dashes}
use Rattle.hr_name.specs.declared.place.Place.{Place}
use Rattle.hr_name.specs.Alphabet.{stands_in_run}
use Rattle.hr_name.specs.Place.{behind, Moves}
use Rattle.hr_name.proofs.ReachLemmas.{moves_run, moves_behind}
use Rattle.hr_name.proofs.place.Place.after.Goals as goal

pub returns-then-stands_in_run : goal.returns-then-stands_in_run
returns-then-stands_in_run c = moves_run c.args.self c.args.byte (sym c.stands_in_run.ensures ∙ c.if-stands_in_run.true)

pub returns-in-Underscore : goal.returns-in-Underscore
returns-in-Underscore c =
    subst (λ place. Moves place c.args.byte c.one_more.result) (sym c.in-Underscore.is)
    (moves_behind Underscore c.args.byte c.one_more.result (sym c.stands_in_run.ensures ∙ c.if-stands_in_run.false) (sym c.one_more.ensures))

pub returns-in-Dashes : goal.returns-in-Dashes
returns-in-Dashes c =
    subst (λ place. Moves place c.args.byte c.one_more-in-Dashes.result) (sym c.in-Dashes.is)
    (moves_behind Dashes c.args.byte c.one_more-in-Dashes.result (sym c.stands_in_run.ensures ∙ c.if-stands_in_run.false) (sym c.one_more-in-Dashes.ensures))

pub returns-in-Start : goal.returns-in-Start
returns-in-Start c =
    let other : stands_in_run c.args.byte ≡ false = sym c.stands_in_run.ensures ∙ c.if-stands_in_run.false in
    let B : Place → Option Place = λ place. behind place c.args.byte in
    elim c.in-Start.is [
      | inl e ↦ moves_behind c.args.self c.args.byte None other (ap B e)
      | inr f ↦ elim f [
        | inl e ↦ moves_behind c.args.self c.args.byte None other (ap B e)
        | inr e ↦ moves_behind c.args.self c.args.byte None other (ap B e)
      ]
    ]
