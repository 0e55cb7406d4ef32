-- Lanes are read in one way, whatever follows them.
use Rattle.std.proofs.Common.{ℕ, zero, suc, Bool, false, List, Option, Some, None, Result, Ok, Err, refl}
use Rattle.vsd_terms.specs.declared.term.Term.{Term}
use Rattle.vsd_ast.specs.declared.declarations.Decls.{Decls}
use Rattle.vsd_ast.specs.declared.scripts.Var.{Var}
use Rattle.vsd_grammar.specs.declared.token_class.TokenClass.{TokenClass}
use Rattle.vsd_grammar.specs.declared.cause.Cause.{Cause}
use Rattle.vsd_grammar.specs.Grammar.{G, Decides}
use Rattle.vsd_grammar.proofs.Deciding.{anything, decides_expect, decides_spelled_name, decides_spelled_number, decides_then_pass, decides_checked}
use Rattle.vsd_type_syntax.proofs.Deciding.{decides_written}
use Rattle.vsd_lanes.specs.declared.tree.Running.{Running}
use Rattle.vsd_lanes.specs.declared.tree.Refusal.{Refusal}
use Rattle.vsd_lanes.specs.declared.tree.Written.{Written}
use Rattle.vsd_lanes.specs.declared.reading.Reading.{Reading}
use Rattle.vsd_lanes.specs.declared.reading.Fresh.{Fresh}
use Rattle.vsd_lanes.specs.declared.reading.Own.{Own}
use Rattle.vsd_lanes.specs.declared.reading.Object.{Object}
use Rattle.vsd_lanes.specs.declared.reading.Role.{Role}
use Rattle.vsd_lanes.specs.declared.reading.Role.TheVariants as role
use Rattle.vsd_lanes.specs.declared.repeats.Body.{Body}
use Rattle.vsd_lanes.specs.declared.repeats.Verb.{Verb}
use Rattle.vsd_lanes.specs.declared.repeats.Verb.TheVariants as verb
use Rattle.vsd_lanes.specs.Setting.{Setting}
use Rattle.vsd_lanes.specs.Types.{rules_of}
use Rattle.vsd_lanes.specs.Names as names
use Rattle.vsd_lanes.specs.Productions as spec

pub decides_shows : (c : Option Cause) (F : TokenClass → Bool) → Decides (Unit {0}) (names.shows c) F
decides_shows None F = tt
decides_shows (Some cause) F = tt

decides_begun : (e : Setting) (s : Reading) (F : TokenClass → Bool) → Decides ℕ (names.begun e s) F
unfolding names.begun
decides_begun e s F = (anything, tt, λ h. ((anything, decides_shows _ anything, λ u. (decides_then_pass ℕ h.index F, λ i y j d g. refl)), λ i y j d g. refl))

decides_fresh_name : (e : Setting) (s : Reading) (F : TokenClass → Bool) → Decides Fresh (names.fresh_name e s) F
unfolding names.fresh_name
decides_fresh_name e s F = (
  anything,
  tt,
  λ h. (
    (
      anything,
      decides_spelled_name anything,
      λ name. ((anything, decides_shows _ anything, λ u. (decides_then_pass Fresh _ F, λ i y j d g. refl)), λ i y j d g. refl),
    ),
    λ i y j d g. refl,
  ),
)

decides_own_name : (e : Setting) (s : Reading) (F : TokenClass → Bool) → Decides Own (names.own_name e s) F
unfolding names.own_name
decides_own_name e s F = (
  anything,
  tt,
  λ h. (
    (
      anything,
      decides_spelled_name anything,
      λ name. ((anything, decides_checked ℕ _ anything, λ v. (decides_then_pass Own _ F, λ i y j d g. refl)), λ i y j d g. refl),
    ),
    λ i y j d g. refl,
  ),
)

decides_object_name : (e : Setting) (s : Reading) (r : Role) (F : TokenClass → Bool) → Decides Object (names.object_name e s r) F
unfolding names.object_name
decides_object_name e s r F = (
  anything,
  tt,
  λ h. (
    (
      anything,
      decides_spelled_name anything,
      λ name. ((anything, decides_checked Var _ anything, λ v. (decides_then_pass Object _ F, λ i y j d g. refl)), λ i y j d g. refl),
    ),
    λ i y j d g. refl,
  ),
)

pub decides_site_name : (e : Setting) (F : TokenClass → Bool) → Decides ℕ (names.site_name e) F
unfolding names.site_name
decides_site_name e F = (
  anything,
  decides_spelled_name anything,
  λ name. ((anything, decides_checked ℕ _ anything, λ v. (decides_then_pass ℕ v F, λ i y j d g. refl)), λ i y j d g. refl),
)

-- ---- operations

pub decides_assigned : (d : Decls) (F : TokenClass → Bool) → Decides Term (spec.assigned d) F
unfolding spec.assigned
decides_assigned d F = (
  anything,
  decides_expect spec.equals anything,
  λ u. (
    (
      anything,
      decides_written (rules_of d) false anything,
      λ t. ((anything, decides_expect spec.semicolon anything, λ v. (tt, λ i y j g h. refl)), λ i y j g h. refl),
    ),
    λ i y j g h. refl,
  ),
)

decides_load : (e : Setting) (s : Reading) (F : TokenClass → Bool) → Decides spec.Step (spec.load e s) F
unfolding spec.load
decides_load e s F = (
  anything,
  decides_begun e s anything,
  λ word. (
    (
      anything,
      decides_fresh_name e s anything,
      λ f. ((anything, decides_assigned e.decls anything, λ t. (tt, λ i y j d g. refl)), λ i y j d g. refl),
    ),
    λ i y j d g. refl,
  ),
)

decides_ended : (s : Reading) (w : Written) (F : TokenClass → Bool) → Decides spec.Step (spec.ended s w) F
decides_ended s w F = (anything, decides_expect spec.semicolon anything, λ u. (tt, λ i y j d g. refl))

decides_unload : (e : Setting) (s : Reading) (F : TokenClass → Bool) → Decides spec.Step (spec.unload e s) F
unfolding spec.unload
decides_unload e s F = (
  anything,
  decides_begun e s anything,
  λ word. ((anything, decides_own_name e s anything, λ o. (decides_ended s _ F, λ i y j d g. refl)), λ i y j d g. refl),
)

decides_call : (e : Setting) (s : Reading) (F : TokenClass → Bool) → Decides spec.Step (spec.call e s) F
unfolding spec.call
decides_call e s F = (
  anything,
  decides_begun e s anything,
  λ word. (
    (
      anything,
      decides_site_name e anything,
      λ site. ((anything, decides_object_name e s role.Call anything, λ o. (decides_ended s _ F, λ i y j d g. refl)), λ i y j d g. refl),
    ),
    λ i y j d g. refl,
  ),
)

decides_cast : (e : Setting) (s : Reading) (F : TokenClass → Bool) → Decides spec.Step (spec.cast e s) F
unfolding spec.cast
decides_cast e s F = (
  anything,
  decides_begun e s anything,
  λ word. (
    (
      anything,
      decides_object_name e s role.Cast anything,
      λ o. ((anything, decides_object_name e s role.Cast anything, λ p. (decides_ended s _ F, λ i y j d g. refl)), λ i y j d g. refl),
    ),
    λ i y j d g. refl,
  ),
)

-- ---- repeats

decides_times : (F : TokenClass → Bool) → Decides ℕ spec.times F
unfolding spec.times
decides_times F = (anything, decides_spelled_number 1 200000 6 anything, λ n. (decides_then_pass ℕ n F, λ i y j d g. refl))

decides_settled : (s : Reading) (r : Result Running Refusal) (F : TokenClass → Bool) → Decides Reading (spec.settled s r) F
decides_settled s (Ok r) F = tt
decides_settled s (Err r) F = tt

decides_closed : (e : Setting) (n : ℕ) (b : Body) (F : TokenClass → Bool) → Decides spec.Step (spec.closed e n b) F
unfolding spec.closed
decides_closed e n b F = (
  anything,
  decides_settled b.lane _ anything,
  λ s. ((anything, decides_expect spec.closing anything, λ u. (tt, λ i y j d g. refl)), λ i y j d g. refl),
)

module _ (op : Reading → G spec.Step) (decided : (s : Reading) (F : TokenClass → Bool) → Decides spec.Step (op s) F) where
  decides_one_more : (b : Body) (F : TokenClass → Bool) → Decides Body (spec.one_more op b) F
  unfolding spec.one_more
  decides_one_more b F = (anything, decided b.lane anything, λ p. (tt, λ i y j d g. refl))

  decides_more : (b : Body) (F : TokenClass → Bool) → Decides Body (spec.more op b) F
  unfolding spec.more
  decides_more b F = (anything, λ t. (decides_one_more t anything, λ i y j d g. refl), λ q t g. refl)

  decides_some : (s : Reading) (F : TokenClass → Bool) → Decides Body (spec.some op s) F
  unfolding spec.some
  decides_some s F = (anything, decides_one_more _ anything, λ b. (decides_more b F, λ i y j d g. refl))

  decides_repeated : (e : Setting) (s : Reading) (F : TokenClass → Bool) → Decides spec.Step (spec.repeated e op s) F
  unfolding spec.repeated
  decides_repeated e s F = (
    anything,
    tt,
    λ u. (
      (
        anything,
        decides_times anything,
        λ n. (
          (
            anything,
            decides_expect spec.opening anything,
            λ v. ((anything, decides_some s anything, λ b. (decides_closed e n b F, λ i y j d g. refl)), λ i y j d g. refl),
          ),
          λ i y j d g. refl,
        ),
      ),
      λ i y j d g. refl,
    ),
  )

decides_op_by : (e : Setting) (again : Reading → G spec.Step) → ((s : Reading) (F : TokenClass → Bool) → Decides spec.Step (again s) F)
    → (s : Reading) (v : Option Verb) (F : TokenClass → Bool) → Decides spec.Step (spec.op_by e again s v) F
decides_op_by e again decided s None F = tt
decides_op_by e again decided s (Some verb.Load) F = decides_load e s F
decides_op_by e again decided s (Some verb.Unload) F = decides_unload e s F
decides_op_by e again decided s (Some verb.Call) F = decides_call e s F
decides_op_by e again decided s (Some verb.Cast) F = decides_cast e s F
decides_op_by e again decided s (Some verb.Repeat) F = decided s F

decides_op_with : (e : Setting) (again : Reading → G spec.Step) → ((s : Reading) (F : TokenClass → Bool) → Decides spec.Step (again s) F)
    → (s : Reading) (F : TokenClass → Bool) → Decides spec.Step (spec.op_with e again s) F
unfolding spec.op_with
decides_op_with e again decided s F = (anything, tt, λ h. (decides_op_by e again decided s (spec.verb_of h.class) F, λ i y j d g. refl))

decides_deeper : (e : Setting) (room : ℕ) (s : Reading) (F : TokenClass → Bool) → Decides spec.Step (spec.deeper e room s) F
unfolding spec.deeper
decides_deeper e zero s F = tt
decides_deeper e (suc room) s F =
    decides_repeated (spec.op_with e (spec.deeper e room)) (decides_op_with e (spec.deeper e room) (decides_deeper e room)) e s F

pub decides_lane : (e : Setting) (roots : List Term) (F : TokenClass → Bool) → Decides Body (spec.lane e roots) F
unfolding spec.lane
decides_lane e roots F = (
  anything,
  tt,
  λ u. (
    (
      anything,
      decides_expect spec.opening anything,
      λ v. (
        (
          anything,
          decides_more (spec.op e spec.most_deep) (decides_op_with e (spec.deeper e spec.most_deep) (decides_deeper e spec.most_deep)) (spec.empty roots) anything,
          λ b. ((anything, decides_expect spec.closing anything, λ w. (tt, λ i y j d g. refl)), λ i y j d g. refl),
        ),
        λ i y j d g. refl,
      ),
    ),
    λ i y j d g. refl,
  ),
)
