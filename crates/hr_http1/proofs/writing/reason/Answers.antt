use Rattle.std.proofs.Common.{◌∙◌, ap, Some, None}
use Rattle.http.specs.StatusCode.{reason_phrase}
use Rattle.hr_http1.proofs.WrittenLemmas.{reason_known, reason_none}
use Rattle.hr_http1.proofs.writing.reason.Goals as goal

pub returns-in_default : goal.returns-in_default
returns-in_default c = reason_none c.args.status c.in_default.ensures

pub returns-in-Some : goal.returns-in-Some
returns-in-Some c = reason_known c.args.status (Some c.in-Some.reason.now) c.in-Ok.ensures.0.0 c.in-Ok.ensures.0.1 (c.in-Some.ensures.value ∙ ap reason_phrase c.in-Ok.ensures.1)

pub returns-in-None : goal.returns-in-None
returns-in-None c = reason_known c.args.status None c.in-Ok.ensures.0.0 c.in-Ok.ensures.0.1 (c.in-None.ensures.value ∙ ap reason_phrase c.in-Ok.ensures.1)
