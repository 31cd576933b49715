use Rattle.hr_text.proofs.HexLemmas.{decoded_spelled}
use Rattle.hr_text.proofs.hexadecimal.read_hex.Goals as goal

pub returns-in-Ok-clause-spelled : goal.returns-in-Ok-clause-spelled
returns-in-Ok-clause-spelled c =
    let is = c.is_hexadecimal.ensures.0 c.if-not-is_hexadecimal.false in
    rw c.from.ensures (decoded_spelled c.args.text.now c.in-Ok.bytes.items c.in-Ok.ensures.ok is.digits)
