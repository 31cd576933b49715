use Rattle.std.proofs.Common.{arith}
use Rattle.hr_json.proofs.DocLemmas.{document_of-text, document_of-no_text}
use Rattle.hr_json.proofs.doc.Doc.read.Goals as goal

pub returns-in_default-clause-not_json : goal.returns-in_default-clause-not_json
returns-in_default-clause-not_json c = λ _. (omega (arith, c.if-bytes-gt-DOC_LIMIT.false), document_of-no_text _ c.in_default.ensures.cases.0)

pub returns-in-Ok-from_str-clause-ok : goal.returns-in-Ok-from_str-clause-ok
returns-in-Ok-from_str-clause-ok c =
    (omega (arith, c.if-bytes-gt-DOC_LIMIT.false), document_of-text _ _ _ c.in-Ok.ensures.cases.1 c.in-Ok.ensures.cases.0 c.in-Ok-from_str.ensures.ok)
