use Rattle.std.proofs.Common.{◌∙◌, length}
use Rattle.hr_text.proofs.HexLemmas.{decoded_to}
use Rattle.hr_text.proofs.hexadecimal.read_hex_to.Goals as goal

pub returns-clause-done : goal.returns-clause-done
returns-clause-done c =
    let lower = c.are_lower_hex.ensures.0 c.if-not-are_lower_hex.false in
    let is = decoded_to tt c.args.text.now c.decode_to_slice.new.out (length c.args.room.now) c.decode_to_slice.result c.if-text-room.false lower c.decode_to_slice.ensures.value in
    (λ _. (c.if-text-room.false, lower), λ _. c.is_ok.ensures.value ∙ is.0)

pub returns-clause-spelled : goal.returns-clause-spelled
returns-clause-spelled c =
    let lower = c.are_lower_hex.ensures.0 c.if-not-are_lower_hex.false in
    let is = decoded_to tt c.args.text.now c.decode_to_slice.new.out (length c.args.room.now) c.decode_to_slice.result c.if-text-room.false lower c.decode_to_slice.ensures.value in
    rw (c.is_ok.ensures.value ∙ is.0) is.1

pub returns-clause-same : goal.returns-clause-same
returns-clause-same c =
    let lower = c.are_lower_hex.ensures.0 c.if-not-are_lower_hex.false in
    let is = decoded_to tt c.args.text.now c.decode_to_slice.new.out (length c.args.room.now) c.decode_to_slice.result c.if-text-room.false lower c.decode_to_slice.ensures.value in
    rw (c.is_ok.ensures.value ∙ is.0) tt
