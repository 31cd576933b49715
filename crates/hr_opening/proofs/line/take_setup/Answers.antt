use Rattle.std.proofs.Common.{◌≡◌, ◌<◌, ◌-◌, Some, length, refl, sym, ap, subst, ◌∙◌, arith}
use Rattle.std.proofs.lemmas.Result.{on_ok_weaker}
use Rattle.hr_opening.specs.Fit.{IsNumbered}
use Rattle.hr_opening.specs.Opening.{after_line, registry_named, setup_after, where_named}
use Rattle.hr_opening.specs.Setup.{with_setup}
use Rattle.hr_opening.specs.Stored.{IsPlain}
use Rattle.hr_opening.specs.declared.setup.RegSetup.{RegSetup}
use Rattle.hr_opening.proofs.LineLemmas.{named_fits}
use Rattle.hr_opening.proofs.SetupLemmas.{plain_at, setup_is, setup_lacks}
use Rattle.hr_opening.proofs.line.take_setup.Goals as goal

pub change_setup-requires : goal.change_setup-requires
change_setup-requires c =
    let named : registry_named c.args.line ≡ Some c.in-Some.reg = sym c.registry_named.ensures ∙ c.in-Some.is in
    let fit : IsNumbered c.in-Some.reg = named_fits c.args.line c.in-Some.reg c.requires.fit named in
    let within : c.in-Some.reg.0 - 1 < length c.args.setups.now = omega (arith, fit.some, fit.few, c.requires.eight) in
    record {
      plain = subst (λ (s : RegSetup). IsPlain s.content) c.index-setups-reg.is
          (plain_at c.args.setups.now (c.in-Some.reg.0 - 1) c.index-setups-reg.result within c.index-setups-reg.is c.requires.plain);
    }

pub returns-in-Some : goal.returns-in-Some
returns-in-Some c =
    let named : registry_named c.args.line ≡ Some c.in-Some.reg = sym c.registry_named.ensures ∙ c.in-Some.is in
    let fit : IsNumbered c.in-Some.reg = named_fits c.args.line c.in-Some.reg c.requires.fit named in
    let within : c.in-Some.reg.0 - 1 < length c.args.setups.now = omega (arith, fit.some, fit.few, c.requires.eight) in
    let setups = c.args.setups.now in
    let reg = c.in-Some.reg.0 in
    let change = setup_after c.args.line in
    let there : after_line setups c.args.line ≡ with_setup setups reg change = ap (where_named setups change) named in
    record {
      ok = on_ok_weaker c.change_setup.result
          (λ made. there
          ∙ setup_is setups reg (reg - 1) c.index-setups-reg.result c.change_setup.new.setup change refl within c.index-setups-reg.is
          (ap change c.index-setups-reg.is ∙ made))
          c.change_setup.ensures.ok;
      reference = λ e.
          there ∙ setup_lacks setups reg (reg - 1) c.index-setups-reg.result change refl within c.index-setups-reg.is
          (ap change c.index-setups-reg.is ∙ c.change_setup.ensures.reference e);
    }
