use Rattle.std.proofs.Common.{arith, rules, sym, ◌≡◌, subst, false}
use Rattle.hr_store.specs.Row.{RowState, is_among}
use Rattle.hr_store.proofs.RowLemmas.{once-push, rises, room-for}
use Rattle.hr_store.proofs.row.Row.receive.Goals as goal

pub push_reserved-requires : goal.push_reserved-requires
push_reserved-requires c =
    let none : is_among c.self.inside.received.items c.args.hook ≡ false = rw (← c.as_slice.ensures.value) (sym c.if-is_among.ensures) in
    let P : RowState → Type 0 = λ v. c.args.hook.job.0 ≡ v.job in
    let r = room-for c.self.inside.job.0 c.self.inside.received.items c.args.hook c.self.invariant.1 none (subst P (sym c.self.view_is) c.requires.job) c.requires.rev in
    omega (arith, r, c.self.invariant.2)

pub invariant_of-self : goal.invariant_of-self
invariant_of-self c =
    let none : is_among c.self.inside.received.items c.args.hook ≡ false = rw (← c.as_slice.ensures.value) (sym c.if-is_among.ensures) in
    let P : RowState → Type 0 = λ v. c.args.hook.job.0 ≡ v.job in (
      rw (c.push_reserved.ensures.items, c.joined_in_turn.ensures) (rw (← c.self.invariant.0) c.join-known.ensures),
      rw c.push_reserved.ensures.items (once-push c.self.inside.job.0 c.self.inside.received.items c.args.hook c.self.invariant.1 none (subst P (sym c.self.view_is) c.requires.job) c.requires.rev),
      search rules,
    )

pub returns-clause-rose : goal.returns-clause-rose
returns-clause-rose c =
    let none : is_among c.self.inside.received.items c.args.hook ≡ false = rw (← c.as_slice.ensures.value) (sym c.if-is_among.ensures) in
    rw (← c.self.view_is) (rises c.self.inside.received.items c.args.hook c.same-raised.result c.join-known.result none
    (rw c.joined_in_turn.ensures (rw (← c.self.invariant.0) c.join-known.ensures))
    (rw (← c.self.invariant.0) c.same-raised.ensures))
