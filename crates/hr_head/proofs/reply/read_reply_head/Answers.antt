use Rattle.std.proofs.Common.{◌≡◌, ◌<◌, length, refl, subst, sym, ◌∙◌, Ok, Some, arith}
use Rattle.std.proofs.lemmas.Grind.{common_steps}
use Rattle.std.proofs.lemmas.Result.{err_from_is_err_and}
use Rattle.httparse.specs.Grammar.{IsResponseHead, print_response, HasNoResponse, MayBecomeResponse}
use Rattle.hr_cause.proofs.StreamLaws.{gave_none, gave_more}
use Rattle.hr_cause.specs.Stream.{Gave}
use Rattle.hr_head.specs.declared.ending.Ending.TheVariants.{Lead}
use Rattle.hr_head.specs.declared.field.TheConstants.{HEAD_LIMIT}
use Rattle.hr_head.specs.Ending.{ending_of}
use Rattle.hr_head.specs.Fault.{RefusedSoFar}
use Rattle.hr_head.specs.Reply.{HoldNoReply, BeginNoReply, LooksReply}
use Rattle.hr_head.proofs.HeadLemmas.{none_at_start, none_after, one_more_fits, ending_kept, told_on, lost_byte, refused_of_all, past_limit}
use Rattle.hr_head.proofs.ReplyLemmas.{reply_ends, read_reply, no_reply_within}
use Rattle.hr_head.proofs.reply.read_reply_head.Goals as goal

pub bytes-init : goal.bytes-init
bytes-init g c = record {
  told = subst (λ l. Gave (g.L.Stream.left c.args.link.now) l (g.L.Stream.left c.args.link.now)) (sym c.new-buf.ensures.items) (gave_none (g.L.Stream.left c.args.link.now));
  none = subst HasNoResponse (sym c.new-buf.ensures.items) (none_at_start IsResponseHead print_response reply_ends);
  ending = subst (λ l. Lead ≡ ending_of Lead l) (sym c.new-buf.ensures.items) refl;
  small = grind (arith, common_steps);
  sent = refl;
  calm = refl;
}

pub returns-in_err-next-clause-err : goal.returns-in_err-next-clause-err
returns-in_err-next-clause-err g c =
    let p = err_from_is_err_and c.from_residual.result c.from_residual.ensures.1 in
    rw (p.1, p.2) (lost_byte HoldNoReply BeginNoReply MayBecomeResponse _ c.in_err-next.field-0.0 c.in_err-next.ensures.err)

pub returns-in_err-head-clause-err : goal.returns-in_err-head-clause-err
returns-in_err-head-clause-err g c =
    let p = err_from_is_err_and c.from_residual-in_err-head.result c.from_residual-in_err-head.ensures.1 in
    let taken = rw c.in-Some.is at c.in_ok-next.ensures.ok in
    let told = told_on _ _ _ _ _ taken.byte taken.kept c.bytes.invariant.told taken.told in
    let less : length c.bytes.buf.items < HEAD_LIMIT = grind (arith, common_steps) in
    let short = one_more_fits _ _ taken.byte taken.kept less in
    let refused : RefusedSoFar BeginNoReply c.take_byte.new.buf.items c.in_err-head.field-0.0 = rw c.deref-in-bytes.ensures.value at c.in_err-head.ensures.err in
    rw (p.1, p.2) (refused_of_all HoldNoReply BeginNoReply MayBecomeResponse _ _ c.take_byte.new.buf.items c.in_err-head.field-0.0 told short refused)

pub returns-in-Some-2-clause-ok : goal.returns-in-Some-2-clause-ok
returns-in-Some-2-clause-ok g c =
    let taken = rw c.in-Some.is at c.in_ok-next.ensures.ok in
    let told = told_on _ _ _ _ _ taken.byte taken.kept c.bytes.invariant.told taken.told in
    let less : length c.bytes.buf.items < HEAD_LIMIT = grind (arith, common_steps) in
    let found = rw c.in-Some-2.is at c.in_ok-head.ensures.found in
    let looks : LooksReply c.take_byte.new.buf.items (Ok (Some c.in-Some-2.head)) = subst (λ l. LooksReply l (Ok (Some c.in-Some-2.head))) c.deref-in-bytes.ensures.value found.0 in
    read_reply _ _ c.bytes.buf.items c.take_byte.new.buf.items taken.byte c.in-Some-2.head taken.kept told c.bytes.invariant.none (one_more_fits _ _ taken.byte taken.kept less) looks

pub bytes-preserved : goal.bytes-preserved
bytes-preserved g c =
    let taken = rw c.in-Some.is at c.in_ok-next.ensures.ok in
    let less : length c.bytes.buf.items < HEAD_LIMIT = grind (arith, common_steps) in
    let ending = ending_kept _ _ taken.byte c.bytes.ending c.in-Some.next taken.kept c.bytes.invariant.ending taken.next_is in
    record {
      told = told_on _ _ _ _ _ taken.byte taken.kept c.bytes.invariant.told taken.told;
      none = none_after IsResponseHead print_response reply_ends c.bytes.buf.items c.take_byte.new.buf.items taken.byte c.in-Some.next c.bytes.invariant.none taken.kept ending
          (λ empty. subst HasNoResponse c.deref-in-bytes.ensures.value (c.in_ok-head.ensures.none c.in_default-2.is empty));
      ending = ending;
      small = one_more_fits _ _ taken.byte taken.kept less;
      sent = c.in_ok-next.ensures.sent ∙ c.bytes.invariant.sent;
      calm = c.in_ok-next.ensures.cause.calm ∙ c.bytes.invariant.calm;
    }

pub returns-clause-err : goal.returns-clause-err
returns-clause-err g c =
    let one = rw c.in-Some-more.is at c.in_ok-more.ensures.ok in
    let may : MayBecomeResponse c.bytes.buf.items = subst MayBecomeResponse c.deref-2.ensures.value c.in_ok-check_open-2.ensures.ok in
    let full : length c.bytes.buf.items ≡ HEAD_LIMIT = grind (arith, common_steps) in
    past_limit HoldNoReply BeginNoReply MayBecomeResponse _ _ c.bytes.buf.items c.in-Some-more.field-0 _ (gave_more _ _ _ _ _ c.bytes.invariant.told one) full refl (no_reply_within c.bytes.buf.items c.bytes.invariant.none full) may
