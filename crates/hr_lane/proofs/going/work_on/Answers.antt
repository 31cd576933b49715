use Rattle.std.proofs.Common.{◌≡◌, List, length, refl, inl, subst, sym}
use Rattle.std.proofs.lemmas.Bool.{ltb-true}
use Rattle.std.proofs.lemmas.Option.{slice_get_read}
use Rattle.std.specs.Prelude.{Some, slice_get}
use Rattle.hr_name.specs.Tag.{TagName}
use Rattle.hr_lane.proofs.GoingLemmas.{goes_after, goes_free, tries_next}
use Rattle.hr_lane.proofs.going.work_on.Goals as goal

pub put-requires-clause-free : goal.put-requires-clause-free
put-requires-clause-free g c =
    goes_free c.args.held c.after_line.result c.in-Ok.work c.args.holding.now.held c.take_room.new.holding.held
    c.take_room.ensures.held (c.after_line.ensures c.args.held.work) c.requires.free

pub returns-in-Ok-clause-works : goal.returns-in-Ok-clause-works
returns-in-Ok-clause-works g c = record {
  work = c.in-Ok.work;
  line = tries_next c.args.held c.in-Some.tag.now _ _ _ _ c.args.log.now.newest c.take_room.new.log.newest
      c.line_between.new.log.newest _ (subst (λ (xs : List TagName). slice_get xs c.args.held.next ≡ Some c.in-Some.tag.now) c.view.ensures
      (slice_get_read c.view.result.now (length c.view.result.now) c.args.held.next c.in-Some.tag.now refl
      (ltb-true c.args.held.next (length c.view.result.now) (sym c.in-Some.ensures.lookup.0))
      c.in-Some.ensures.lookup.1)) c.take_room.ensures.log c.in-Ok.ensures.line;
  live = c.in-Ok.ensures.live;
  now = goes_after c.args.held c.after_line.result c.in-Ok.work c.args.holding.now.held c.take_room.new.holding.held
      c.put.new.self.held c.take_room.ensures.held (c.after_line.ensures c.args.held.work) c.put.ensures.there;
}

pub returns-in-Err-clause-works : goal.returns-in-Err-clause-works
returns-in-Err-clause-works g c = (
  refl,
  c.take_room.ensures.held,
  inl (tries_next c.args.held c.in-Some.tag.now _ _ _ _ c.args.log.now.newest c.take_room.new.log.newest
      c.line_between.new.log.newest _ (subst (λ (xs : List TagName). slice_get xs c.args.held.next ≡ Some c.in-Some.tag.now) c.view.ensures
      (slice_get_read c.view.result.now (length c.view.result.now) c.args.held.next c.in-Some.tag.now refl
      (ltb-true c.args.held.next (length c.view.result.now) (sym c.in-Some.ensures.lookup.0))
      c.in-Some.ensures.lookup.1)) c.take_room.ensures.log c.in-Err.ensures.line),
)
