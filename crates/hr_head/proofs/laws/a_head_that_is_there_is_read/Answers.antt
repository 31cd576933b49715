use Rattle.std.proofs.Common.{subst, sym, drop}
use Rattle.std.proofs.lemmas.List.{take-append-drop}
use Rattle.httparse.specs.Grammar.{MayBecomeResponse, ReadsResponse, ReadsRequest as ReadsGrammatical}
use Rattle.hr_head.specs.Reply.{HoldNoReply, BeginNoReply}
use Rattle.hr_head.specs.Request.{HoldNoRequest, BeginNoRequest, BeginsRequest}
use Rattle.hr_head.proofs.HeadLemmas.{held_or_lost, le_not}
use Rattle.hr_head.proofs.laws.a_head_that_is_there_is_read.Goals as goal

pub returns-clause-reply : goal.returns-clause-reply
returns-clause-reply c = λ bytes rest h why reads fault.
    held_or_lost HoldNoReply BeginNoReply MayBecomeResponse bytes why (λ none. none h rest reads)
    (λ at none. le_not (none (drop at bytes) h rest (subst (λ l. ReadsResponse l h rest) (sym (take-append-drop at bytes)) reads.reads)) reads.few) fault

pub returns-clause-request : goal.returns-clause-request
returns-clause-request c = λ bytes rest h why reads fault.
    held_or_lost HoldNoRequest BeginNoRequest BeginsRequest bytes why (λ none. none h rest reads)
    (λ at none. le_not (none (drop at bytes) h rest (subst (λ l. ReadsGrammatical l h rest) (sym (take-append-drop at bytes)) reads.reads)) reads.few) fault
