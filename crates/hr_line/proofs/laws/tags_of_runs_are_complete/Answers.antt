use Rattle.std.proofs.Common.{subst, List}
use Rattle.hr_event.specs.declared.entry.Entry.{Entry}
use Rattle.hr_journal.specs.Origin.{WereThere}
use Rattle.hr_journal.specs.Puts.{Puts}
use Rattle.hr_line.specs.Orderly.{placement}
use Rattle.hr_line.specs.Sources.{origin}
use Rattle.hr_line.proofs.RunLemmas.{destination_promise, runs_keep}
use Rattle.hr_line.proofs.laws.tags_of_runs_are_complete.Goals as goal

pub returns-clause-told : goal.returns-clause-told
returns-clause-told c calls s t reg o content opening sound runs dest tell one repo tag d =
    let ran = runs_keep calls s t opening sound runs in
    let promise = destination_promise s.dests t reg o content ran.kept dest in
    let to = placement reg t.admitted in
    c.tags_are_complete.ensures to o t.log content repo tag d promise
    (c.digests_stand_for_one_text.ensures to (origin t.sources t.admitted) o t.log content dest.honest promise.puts ran.sourced tell one)

pub returns-clause-untold : goal.returns-clause-untold
returns-clause-untold c calls s t reg o content opening sound runs dest each repo tag d =
    let ran = runs_keep calls s t opening sound runs in
    c.tags_are_complete.ensures (placement reg t.admitted) o t.log content repo tag d
    (destination_promise s.dests t reg o content ran.kept dest) each

pub returns-clause-read : goal.returns-clause-read
returns-clause-read c calls s t reg o content newer older e repo tag d old how opening sound runs dest parts =
    let ran = runs_keep calls s t opening sound runs in
    let promise = destination_promise s.dests t reg o content ran.kept dest in
    c.tags_were_read.ensures.read (placement reg t.admitted) o newer older e content repo tag d old how
    (subst (λ (es : List Entry). Puts (placement reg t.admitted) o es content) parts promise.puts)

pub returns-clause-shown : goal.returns-clause-shown
returns-clause-shown c calls s t newer older e src tag d opening sound runs parts =
    let ran = runs_keep calls s t opening sound runs in
    c.tags_were_read.ensures.shown (origin t.sources t.admitted) newer older e src tag d
    (subst (λ (es : List Entry). WereThere (origin t.sources t.admitted) es) parts ran.sourced)
