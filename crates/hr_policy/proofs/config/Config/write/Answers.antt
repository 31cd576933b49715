use Rattle.std.proofs.Common.{◌≡◌, ◌≤◌, Some, string_bytes, ap, sym, subst, ◌∙◌}
use Rattle.std.specs.Str.{IsUtf8}
use Rattle.std.proofs.lemmas.Str.{IsUtf8-string_bytes}
use Rattle.serde_json.specs.Data.{depth}
use Rattle.serde_json.specs.Read.{read}
use Rattle.serde_json.specs.Written.{compact_text, has_float}
use Rattle.hr_policy.proofs.ShapeLemmas.{config-depth, config-float}
use Rattle.hr_policy.proofs.RoundTripLemmas.{in-value, text-reads-back}
use Rattle.hr_policy.proofs.TextLemmas.{config-text}
use Rattle.hr_policy.proofs.config.Config.write.Goals as goal

pub returns-clause-text : goal.returns-clause-text
returns-clause-text c =
    let same : c.from.result ≡ string_bytes c.in_ok-text.text = c.from.ensures ∙ ap (λ v. v.items) c.into_bytes.ensures.value in
    same ∙ c.in_ok-text.ensures.text (ap has_float c.in_ok-value.ensures ∙ config-float c.args.self.now) ∙ ap compact_text c.in_ok-value.ensures

pub returns-clause-reads_back : goal.returns-clause-reads_back
returns-clause-reads_back c = λ short.
    let v = in-value c.args.self.now c.requires in
    let same : c.from.result ≡ string_bytes c.in_ok-text.text = c.from.ensures ∙ ap (λ v. v.items) c.into_bytes.ensures.value in
    text-reads-back c.from.result v.value c.args.self.now (subst IsUtf8 (sym same) (IsUtf8-string_bytes c.in_ok-text.text))
    (ap read same ∙ c.in_ok-text.ensures.reads_back (subst (λ v. depth v ≤ 127) (sym c.in_ok-value.ensures) (config-depth c.args.self.now)) ∙ ap Some c.in_ok-value.ensures) v.said short

pub config_value-requires : goal.config_value-requires
config_value-requires c =
    let v = in-value c.args.self.now c.requires in
    config-text v.value c.args.self.now v.said
