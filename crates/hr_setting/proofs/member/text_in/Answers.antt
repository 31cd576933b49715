use Rattle.std.proofs.Common.{refl}
use Rattle.std.proofs.lemmas.Str.{is_utf8-from_IsUtf8}
use Rattle.hr_setting.proofs.member.text_in.Goals as goal

pub returns-in-Some-clause-value : goal.returns-in-Some-clause-value
returns-in-Some-clause-value c =
    let same = c.in-Some.ensures.value in
    let text = c.in-Some.ensures.utf8 in
    rw (← same) (rw (is_utf8-from_IsUtf8 _ text) refl)
