-- `told` makes a value of no bytes, whose ghost field is the declarations that the caller's proof picks.
use mathlib.Core.Path.{refl}
use mathlib.Core.List.{[], ◌∷◌}
use seplogic.Ra.Ura.{Ura}
use mir.Syntax.{Fn, a_type, named}
use mir.Val.{Val, vptr, vstruct, vnil}
use mir.MapTy.{inst_fn}
use base.Logic.{SProp, ent, via, fst∗}
use base.Fml.{Fml}
use prog.Memory.{Memory}
use prog.Routine.{Routine}
use prog.Wp.{Calls, Loops, WpFn, Tables}
use types.Logic.{Logic}
use contract.Lifetimes.{Lfts, Shares, AllOutlive}
use contract.Monad.{Fun}
use contract.Running.{tables, tables_of}
use sound.WpLaws.{WpFn-mono}
use types.Kit.{‵, raw, ◌$◌, ◌∵◌, !, qed, move, suffices, done}
use types.Run.{no_more, returns, enter}
use types.Part.{agg}
use types.ByLocal.{alloc_all, pass_all, free_all, look_at, sets}
use denote.Exit.{yes}
use denote.RattleType.{RattleType, owns}
use denote.Param.{param, layouts}
use denote.Param.Laws.{Laws}
use denote.Ref.{shr_vals, shr_Tells}
use denote.Shadow.{pure_i}
use denote.Signature.{plain, types_at}
use denote.Triple.Clauses.{Clauses, closing}
use denote.Triple.Entry.{on_entry, alive, Args}
use denote.Triple.Spec.{Meets, triple_of}
use denote.Triple.Table.{entered}
use denote.Triple.Walked.{says, stay_none_ref, Stays, walk_of, Walks, ends_at, walked, Goes-none_ref, walk_Meets}
use Rattle.vsd_ast.specs.declared.declarations.Decls.{Decls}
use Rattle.vsd_types.specs.contracts.origin.Origin.told.{ended, clauses}
use Rattle.vsd_types.specs.contracts.origin.Origin.told.Key.{name as key}
use Rattle.vsd_types.proofs.origin.Origin.told.Statement as stated
use Rattle.vsd_types.proofs.origin.Origin.told.Code as code
use Rattle.vsd_types.specs.contracts.origin.Origin as made

module _ (Y : RattleType) where
  abbrev R : RattleType
  R = param 0 Y

  abbrev function : Fn
  function = inst_fn (layouts (a_type ∷ []) (Y, tt)) code.function

  abbrev stayed : Stays (ended Y).signature.params (ended Y).kept
  stayed = (stay_none_ref (0 ∷ []) tt (plain (λ _. R)) yes, tt)

module _ (Y : RattleType) (L : Laws Y) {M : Type 1} {𝓤 : Ura M} (𝓛 : Logic 𝓤) (at_mem : Memory → SProp 𝓤) (run : Routine → Fun 𝓤) where
  open 𝓛 use {H}

  abbrev held : Clauses 𝓤 (ended Y)
  held = clauses Y 𝓛 at_mem run

  module _ (C : Calls 𝓤 H) (Λ : Loops 𝓤 H) (κs : Lfts 2) (qs : Shares 2) (bounds : AllOutlive (ended Y).signature.lifetimes (ended Y).signature.outlives κs) (a : Args (ended Y).signature κs) (g : Decls) where
    abbrev from : Val
    from = vptr a.0.ref_ptr.0 a.0.ref_ptr.1

    abbrev bound : (walk_of 𝓛 (ended Y) (stayed Y) held).Ghost
    bound = ((κs, qs, bounds, a, (from ∷ [], tt)), g)

    abbrev passed : Fml
    passed = owns (types_at (ended Y).signature.params κs) a (from ∷ [], tt)

    walk : ent 𝓤 (on_entry 𝓛 (ended Y).signature κs qs a (from ∷ [], tt))
        (WpFn 𝓤 H C Λ (function Y) (from ∷ []) ((walk_of 𝓛 (ended Y) (stayed Y) held).post bound))
    walk =
        qed 𝓛 (raw (alive 𝓛 (ended Y).signature κs qs) ∷ ‵ passed ∷ []) ∵ enter ! C Λ (function Y) (from ∷ []) _ $
        alloc_all ! (λ l. pass_all ! refl ((tt, tt), tt) $ sets ! (agg ! (no_more !)) refl (tt, tt) $
        returns ! (look_at ! 0 refl) $ free_all ! refl $
        suffices ! _ (ends_at 𝓛 (ended Y) (stayed Y) held bound (vstruct vnil) (record { decls = g }) (tt, tt) (tt, tt)) $
        says ! refl $
        pure_i ! (made.the_row.own_val (record { decls = g }) (vstruct vnil ∷ [])) ((λ vss. (tt, tt)), tt) ((tt, (refl, tt)), tt) $
        move ! (1 ∷ 2 ∷ 0 ∷ []) $ done !)

  walks : (C : Calls 𝓤 H) (Λ : Loops 𝓤 H) → Walks 𝓛 (ended Y) (stayed Y) (WpFn 𝓤 H C Λ (function Y)) held
  walks C Λ =
      walked 𝓛 (ended Y) (stayed Y) held (WpFn 𝓤 H C Λ (function Y)) (λ κs. (shr_vals, tt))
      (λ κs. (shr_Tells (named 0) κs.0 (R Y), tt))
      (λ κs qs bounds a g are. via 𝓤 _ (fst∗ 𝓤 _ ((held κs a).requires g)) (walk C Λ κs qs bounds a g))

  meets : (𝓣 : Tables 𝓤 H) → Meets 𝓛 (ended Y).signature (WpFn 𝓤 H 𝓣.C 𝓣.Λ (function Y)) (closing 𝓛 (ended Y) held)
  meets 𝓣 =
      walk_Meets 𝓛 (ended Y) (stayed Y) (Goes-none_ref 𝓛 2 (0 ∷ []) tt (plain (λ _. R Y)) yes, tt) held
      (WpFn 𝓤 H 𝓣.C 𝓣.Λ (function Y)) (WpFn-mono 𝓤 H 𝓛.laws 𝓣 (function Y)) (walks 𝓣.C 𝓣.Λ)

pub told_spec : {M : Type 1} → stated.statement M
unfolding tables_of
told_spec 𝓤 𝓛 𝓜 𝓡 wired Y laws =
    let A = 𝓛.A in
    let 𝓣 : Tables 𝓤 𝓛.H = tables_of 𝓤 𝓛.H 𝓜 (tables 𝓤 𝓛.H 𝓜 𝓡 𝓡.env) in
    entered 𝓤 𝓛.H (triple_of 𝓛 (ended Y).signature (closing 𝓛 (ended Y) (clauses Y 𝓛 𝓜.mem 𝓡.returns))) 𝓣.C 𝓣.Λ (key (layouts (a_type ∷ []) (Y, tt))) (function Y) (code.unfolded 𝓤 𝓛.H 𝓜 𝓡 wired (Y, tt))
    (meets Y laws 𝓛 𝓜.mem 𝓡.returns 𝓣)
