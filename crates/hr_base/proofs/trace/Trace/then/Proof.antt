-- `then` makes a value of no bytes, whose items are those of the first and the item. Assumes `Logic`.
use mathlib.Core.Path.{refl}
use mathlib.Core.List.{[], ◌∷◌, ◌++◌}
use seplogic.Ra.Ura.{Ura}
use mir.Syntax.{Fn, a_type, named}
use mir.Val.{Val, vptr, vstruct, vcons, vnil}
use mir.MapTy.{inst_fn}
use base.Logic.{SProp, ent, via, fst∗}
use base.Fml.{Fml}
use prog.Memory.{Memory}
use prog.Routine.{Routine}
use prog.Wp.{Calls, Loops, WpFn, Tables}
use types.Logic.{Logic}
use contract.Lifetimes.{Lfts, Shares, AllOutlive}
use contract.Monad.{Fun}
use contract.Running.{tables, tables_of}
use sound.WpLaws.{WpFn-mono}
use types.Kit.{‵, raw, ◌$◌, ◌∵◌, !, qed, move, use0, suffices, done}
use types.Run.{no_more, and_then, returns, enter}
use types.Part.{agg}
use types.ByLocal.{alloc_all, pass_all, free_all, look_at, get, sets}
use denote.Exit.{yes}
use denote.RattleType.{RattleType, owns}
use denote.Param.{param, layouts}
use denote.Param.Laws.{Laws}
use denote.Ref.{shr_vals, shr_Tells}
use denote.Shadow.{makes_shadow}
use denote.Signature.{plain, types_at, type_at}
use denote.Triple.Clauses.{Clauses, closing}
use denote.Triple.Entry.{on_entry, alive, Args}
use denote.Triple.Spec.{Meets, triple_of}
use denote.Triple.Table.{entered}
use denote.Triple.Walked.{says, stay_none_ref, Stays, walk_of, Walks, ends_at, walked, Goes-none_ref, walk_Meets}
use Rattle.hr_base.specs.contracts.trace.Trace as trace
use Rattle.hr_base.specs.contracts.trace.Trace.then.{ended, clauses}
use Rattle.hr_base.specs.contracts.trace.Trace.then.Key.{name as #self}
use Rattle.hr_base.proofs.trace.Trace.then.Statement as stated
use Rattle.hr_base.proofs.trace.Trace.then.Code as code

module _ (Y : RattleType) where
  abbrev R : RattleType
  R = param 0 Y

  abbrev function : Fn
  function = inst_fn (layouts (a_type ∷ []) (Y, tt)) code.function

  abbrev stayed : Stays (ended Y).signature.params (ended Y).kept
  stayed = (stay_none_ref (0 ∷ []) tt (plain (λ _. trace.the_row R)) yes, (stay_none_ref (1 ∷ []) tt (plain (λ _. R)) yes, tt))

module _ (Y : RattleType) (L : Laws Y) {M : Type 1} {𝓤 : Ura M} (𝓛 : Logic 𝓤) (at_mem : Memory → SProp 𝓤) (run : Routine → Fun 𝓤) where
  open 𝓛 use {H}

  abbrev held : Clauses 𝓤 (ended Y)
  held = clauses Y 𝓛 at_mem run

  module _ (C : Calls 𝓤 H) (Λ : Loops 𝓤 H) (κs : Lfts 3) (qs : Shares 3) (bounds : AllOutlive 3 (ended Y).signature.outlives κs) (a : Args (ended Y).signature κs) (g : (held κs a).ghost) where
    abbrev before : Val
    before = vptr a.0.ref_ptr.0 a.0.ref_ptr.1

    abbrev added : Val
    added = vptr a.1.0.ref_ptr.0 a.1.0.ref_ptr.1

    abbrev bound : (walk_of 𝓛 (ended Y) (stayed Y) held).Ghost
    bound = ((κs, qs, bounds, a, (before ∷ [], (added ∷ [], tt))), g)

    abbrev passed : Fml
    passed = owns (types_at (ended Y).signature.params κs) a (before ∷ [], (added ∷ [], tt))

    walk : ent 𝓤 (on_entry 𝓛 (ended Y).signature κs qs a (before ∷ [], (added ∷ [], tt)))
        (WpFn 𝓤 H C Λ (function Y) (before ∷ added ∷ []) ((walk_of 𝓛 (ended Y) (stayed Y) held).post bound))
    walk =
        let v : Val = vstruct (vcons (vstruct vnil) vnil) in
        let r : denote.Triple.Entry.Res (ended Y).signature κs = record { marker = record {}; items = a.0.now.items ++ a.1.0.now ∷ [] } in
        let O : Fml = (type_at (ended Y).signature.result κs).own_val r (v ∷ []) in
        qed 𝓛 (raw (alive 𝓛 (ended Y).signature κs qs) ∷ ‵ passed ∷ []) ∵ enter ! C Λ (function Y) (before ∷ added ∷ []) _ $
        alloc_all ! (λ l. pass_all ! refl ((tt, tt), ((tt, tt), tt)) $
        sets ! (agg ! (no_more !)) refl (tt, tt) $ sets ! (agg ! (and_then ! (get ! refl) (no_more !))) refl (tt, (tt, tt)) $
        returns ! (look_at ! 0 refl) $ free_all ! refl $
        use0 𝓛 (‵ O) (makes_shadow 𝓛 O ((λ vss. (tt, ((λ uss. (tt, tt)), tt))), tt) (((vstruct vnil ∷ [], tt), (refl, ((tt, (refl, tt)), tt))), tt)) $
        suffices ! _ (ends_at 𝓛 (ended Y) (stayed Y) held bound v r (tt, (tt, tt)) (tt, (tt, tt))) $ says ! refl $
        move ! (1 ∷ 2 ∷ 0 ∷ []) $ done !)

  walks : (C : Calls 𝓤 H) (Λ : Loops 𝓤 H) → Walks 𝓛 (ended Y) (stayed Y) (WpFn 𝓤 H C Λ (function Y)) held
  walks C Λ =
      walked 𝓛 (ended Y) (stayed Y) held (WpFn 𝓤 H C Λ (function Y)) (λ κs. (shr_vals, (shr_vals, tt)))
      (λ κs. (shr_Tells (named 0) κs.0 (trace.the_row (R Y)), (shr_Tells (named 1) κs.1.0 (R Y), tt)))
      (λ κs qs bounds a g are. via 𝓤 _ (fst∗ 𝓤 _ ((held κs a).requires g)) (walk C Λ κs qs bounds a g))

  meets : (𝓣 : Tables 𝓤 H) → Meets 𝓛 (ended Y).signature (WpFn 𝓤 H 𝓣.C 𝓣.Λ (function Y)) (closing 𝓛 (ended Y) held)
  meets 𝓣 =
      walk_Meets 𝓛 (ended Y) (stayed Y)
      (Goes-none_ref 𝓛 3 (0 ∷ []) tt (plain (λ _. trace.the_row (R Y))) yes, (Goes-none_ref 𝓛 3 (1 ∷ []) tt (plain (λ _. R Y)) yes, tt)) held
      (WpFn 𝓤 H 𝓣.C 𝓣.Λ (function Y)) (WpFn-mono 𝓤 H 𝓛.laws 𝓣 (function Y)) (walks 𝓣.C 𝓣.Λ)

pub then_spec : {M : Type 1} → stated.statement M
unfolding tables_of
then_spec 𝓤 𝓛 𝓜 𝓡 wired Y laws =
    let 𝓣 : Tables 𝓤 𝓛.H = tables_of 𝓤 𝓛.H 𝓜 (tables 𝓤 𝓛.H 𝓜 𝓡 𝓡.env) in
    entered 𝓤 𝓛.H (triple_of 𝓛 (ended Y).signature (closing 𝓛 (ended Y) (clauses Y 𝓛 𝓜.mem 𝓡.returns))) 𝓣.C 𝓣.Λ (#self (layouts (a_type ∷ []) (Y, tt))) (function Y) (code.unfolded 𝓤 𝓛.H 𝓜 𝓡 wired (Y, tt))
    (meets Y laws 𝓛 𝓜.mem 𝓡.returns 𝓣)
