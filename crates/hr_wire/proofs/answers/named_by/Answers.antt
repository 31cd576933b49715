use Rattle.std.proofs.Common.{codes, Option, sym, ap, ◌∙◌}
use Rattle.std.specs.Prelude.{option_map}
use Rattle.hr_call.specs.declared.answer.Answer.TheVariants as answer
use Rattle.hr_digest.specs.declared.digest.Digest.{Digest}
use Rattle.hr_frame.specs.Named.{values_named}
use Rattle.hr_wire.specs.Answer.{named_by}
use Rattle.hr_wire.proofs.LineLemmas.{one_value}
use Rattle.hr_wire.proofs.SaidLemmas.{no_values, several_values}
use Rattle.hr_wire.proofs.answers.named_by.Goals as goal

pub returns-in-Absent : goal.returns-in-Absent
returns-in-Absent c = ap named_by (no_values (values_named (codes "docker-content-digest") c.args.heads.now) c.in-Absent.ensures)

pub returns-in_err-digest-in-One : goal.returns-in_err-digest-in-One
returns-in_err-digest-in-One c =
    c.from_residual.ensures
    ∙ ap (λ (d : Option Digest). option_map answer.Named d) (sym c.in_err-digest-in-One.was ∙ c.read_digest.ensures)
    ∙ ap named_by (sym (one_value (values_named (codes "docker-content-digest") c.args.heads.now) c.in-One.value c.in-One.ensures))

pub returns-in_ok-digest-in-One : goal.returns-in_ok-digest-in-One
returns-in_ok-digest-in-One c =
    ap (λ (d : Option Digest). option_map answer.Named d) (sym c.in_ok-digest-in-One.was ∙ c.read_digest.ensures)
    ∙ ap named_by (sym (one_value (values_named (codes "docker-content-digest") c.args.heads.now) c.in-One.value c.in-One.ensures))

pub returns-in-Many : goal.returns-in-Many
returns-in-Many c =
    let several = several_values (values_named (codes "docker-content-digest") c.args.heads.now) c.in-Many.ensures in
    ap named_by several.is
