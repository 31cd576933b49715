use Rattle.std.proofs.Common.{[], subst, drop, take, ◌++◌}
use Rattle.httparse.specs.Grammar.{MayBecomeResponse, ReadsResponse, ReadsRequest as ReadsGrammatical}
use Rattle.hr_head.specs.declared.field.TheConstants.{HEAD_LIMIT}
use Rattle.hr_head.specs.Reply.{HoldNoReply, BeginNoReply}
use Rattle.hr_head.specs.Request.{HoldNoRequest, BeginNoRequest, BeginsRequest}
use Rattle.hr_head.proofs.HeadLemmas.{long_or_lost, le_not, cut_before}
use Rattle.hr_head.proofs.laws.a_head_past_the_limit_is_too_long.Goals as goal

pub returns-clause-reply : goal.returns-clause-reply
returns-clause-reply c = λ bytes more h why long reads few fault failed memory.
    long_or_lost HoldNoReply BeginNoReply MayBecomeResponse bytes why long
    (λ at within none. le_not (none (drop at (take HEAD_LIMIT bytes) ++ more) h [] (subst (λ l. ReadsResponse l h []) (cut_before at bytes more within) reads)) few) fault failed memory

pub returns-clause-request : goal.returns-clause-request
returns-clause-request c = λ bytes more h why long reads few fault failed memory.
    long_or_lost HoldNoRequest BeginNoRequest BeginsRequest bytes why long
    (λ at within none. le_not (none (drop at (take HEAD_LIMIT bytes) ++ more) h [] (subst (λ l. ReadsGrammatical l h []) (cut_before at bytes more within) reads)) few) fault failed memory
