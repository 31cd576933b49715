use Rattle.std.proofs.Common.{Err, ap, ◌∙◌, arith}
use Rattle.hr_wire.proofs.ListingLemmas.{json_long, json_none, json_some}
use Rattle.hr_wire.proofs.listings.json_in.Goals as goal

pub returns-in-Ok : goal.returns-in-Ok
returns-in-Ok c = json_some c.args.body.now _ c.in-Ok.ensures.ok.0 c.in-Ok.ensures.ok.1

pub returns-in-Err-TooLong : goal.returns-in-Err-TooLong
returns-in-Err-TooLong c =
    let long = (c.read.ensures.too_long c.in-Err-TooLong.field-0-0).0 (c.in-Err-TooLong.is ∙ ap Err c.in-Err-TooLong.field-0-is) in
    json_long c.args.body.now (omega (arith, long.0, long.1))

pub returns-in-Err-NotJson : goal.returns-in-Err-NotJson
returns-in-Err-NotJson c =
    let none = c.read.ensures.not_json (c.in-Err-NotJson.is ∙ ap Err c.in-Err-NotJson.field-0-is) in
    json_none c.args.body.now none.0 none.1
