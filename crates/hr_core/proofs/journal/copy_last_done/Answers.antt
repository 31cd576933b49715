use Rattle.hr_core.proofs.JournalLemmas.{last_tells, read_tells}
use Rattle.hr_core.proofs.journal.copy_last_done.Goals as goal

pub returns-in-PutBlob : goal.returns-in-PutBlob
returns-in-PutBlob c =
    read_tells c.args.log.now c.index-log-last.result c.index-log-last-in-PutBlob.result c.in-PutBlob.digest c.in-PutBlob.sure
    c.copy.result c.requires c.in-PutBlob.is c.copy.ensures

pub returns-in_default : goal.returns-in_default
returns-in_default c =
    last_tells c.args.log.now c.index-log-last.result c.copy-in_default.result c.requires c.in_default.not-PutBlob
    c.copy-in_default.ensures
