use Rattle.std.proofs.Common.{sym, ◌∙◌}
use Rattle.hr_route.proofs.QueryLemmas.{kept_other, put_next}
use Rattle.hr_route.proofs.query.put_other.Goals as goal

pub returns-then-is_some : goal.returns-then-is_some
returns-then-is_some c = λ rest.
    kept_other c.args.key.now c.args.piece.now rest c.args.out.now.items c.args.mark c.value_in.result
    c.value_in.ensures (sym c.is_some.ensures ∙ c.if-is_some.true)

pub returns : goal.returns
returns c = λ rest.
    put_next c.args.key.now c.args.piece.now rest c.args.out.now.items c.push.new.self.items c.extend_from_slice.new.self.items c.args.mark c.value_in.result
    c.value_in.ensures (sym c.is_some.ensures ∙ c.if-is_some.false) c.in_ok-push.ensures.items c.in_ok-extend_from_slice.ensures.items
