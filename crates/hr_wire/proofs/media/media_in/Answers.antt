use Rattle.std.proofs.Common.{◌≡◌, List, ℕ, codes, sym, subst}
use Rattle.std.specs.Prelude.{IfOk}
use Rattle.hr_frame.specs.Named.{values_named}
use Rattle.hr_wire.specs.Media.{media_asked}
use Rattle.hr_wire.proofs.LineLemmas.{one_value}
use Rattle.hr_wire.proofs.MediaLemmas.{several_types}
use Rattle.hr_wire.proofs.media.media_in.Goals as goal

pub returns-in-One : goal.returns-in-One
returns-in-One c =
    subst (λ (values : List (List ℕ)). IfOk c.plain_said.result (λ media. media ≡ media_asked values))
    (sym (one_value (values_named (codes "content-type") c.args.heads.now) c.in-One.value c.in-One.ensures)) c.plain_said.ensures

pub returns-in-Many : goal.returns-in-Many
returns-in-Many c = several_types (values_named (codes "content-type") c.args.heads.now) c.in-Many.ensures
