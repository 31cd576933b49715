use Rattle.std.proofs.Common.{Some, ap, ◌∙◌, subst}
use Rattle.std.proofs.lemmas.Bool.{false≢true}
use Rattle.std.proofs.Common.{sym}
use Rattle.hr_adapter.specs.Media.{FitsHeader}
use Rattle.hr_wire.proofs.MediaLemmas.{said_other, said_plain}
use Rattle.hr_wire.proofs.media.plain_said.Goals as goal

pub returns-in_ok-of : goal.returns-in_ok-of
returns-in_ok-of c =
    ap Some (c.in_ok-of.ensures ∙ c.type_said-media.ensures)
    ∙ said_plain c.args.value.now (subst FitsHeader c.type_said-media.ensures (c.is_plain.ensures.0 c.if-is_plain.true))

pub returns-else-is_plain : goal.returns-else-is_plain
returns-else-is_plain c =
    said_other c.args.value.now (λ fits. false≢true (sym c.if-is_plain.false ∙ c.is_plain.ensures.1 (subst FitsHeader (sym c.type_said-media.ensures) fits)))
