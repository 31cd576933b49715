-- Everything goes on standing under its own digest, and each tag goes on naming a manifest that is
-- there.
use Rattle.std.proofs.Common.{sym, ap, subst, List, [], ◌∷◌}
use Rattle.std.specs.Option.{is_some}
use Rattle.hr_event.specs.declared.entry.Entry.{Entry}
use Rattle.hr_adapter.specs.Content.{Content, Honest, with_manifest}
use Rattle.hr_adapter.proofs.ContentLaws.{manifest_at-with_manifest-same}
use Rattle.hr_adapter.proofs.HonestLaws.{Honest-with_blob, Honest-with_manifest, Honest-with_tag}
use Rattle.hr_journal.specs.Puts.{Puts, Does}
use Rattle.hr_journal.proofs.ChangeLemmas.{Change, does_change}
use Rattle.hr_journal.specs.Says.{Placement}

change_honest : (to : Placement) (o : Content) (es : List Entry) (b c : Content) → Honest b
    → Change to o es b c → Honest c
change_honest to o es b c honest (Change.same same) = subst Honest (sym same) honest
change_honest to o es b c honest (Change.blob repo d bytes own long after) =
    subst Honest (sym after) (Honest-with_blob b repo d bytes own honest)
change_honest to o es b c honest (Change.manifest repo d m kids own meant reads after) =
    subst Honest (sym after) (Honest-with_manifest b repo d m own honest)
change_honest to o es b c honest (Change.shown repo tag d m kids own meant reads after) =
    subst Honest (sym after)
    (Honest-with_tag (with_manifest b repo d m) repo tag d (ap is_some (manifest_at-with_manifest-same b repo d m))
    (Honest-with_manifest b repo d m own honest))

pub does_honest : (to : Placement) (o : Content) (e : Entry) (es : List Entry) (b c : Content) → Honest b
    → Does to e es b c → Honest c
does_honest to o e es b c honest does =
    change_honest to o es b c honest (does_change to o e es b c does)

pub puts_honest : (to : Placement) (o : Content) (log : List Entry) (c : Content) → Honest o
    → Puts to o log c → Honest c
puts_honest to o [] c honest puts = subst Honest (sym puts) honest
puts_honest to o (e ∷ es) c honest puts =
    does_honest to o e es puts.0 c (puts_honest to o es puts.0 honest puts.1) puts.2
