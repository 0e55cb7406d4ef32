-- Answers by lists that stay within their ranges can be written.
use Rattle.std.proofs.Common.{◌≡◌, ℕ, ◌+◌, ◌*◌, ◌<◌, ◌≤◌, slice_index, slice_index_or, List, [], ◌∷◌, ◌++◌, length, drop, refl, sym, subst, arith}
use Rattle.std.proofs.lemmas.List.{get_or-map, length-map}
use Rattle.vsd_ast.specs.declared.scripts.Host.{Host}
use Rattle.vsd_ast.specs.declared.scripts.Lane.{Lane}
use Rattle.vsd_ast.specs.declared.scripts.Op.{Op}
use Rattle.vsd_ast.specs.declared.scripts.Op.TheVariants.{Load, Unload, Call, Cast}
use Rattle.vsd_ast.specs.declared.scripts.Script.{Script}
use Rattle.vsd_answers.specs.Answers.{CanAnswer, World, answer_by, answers_after, answers_of, named_type}
use Rattle.vsd_lines.specs.Lines.{AreAnswers, CanWrite, IsAnswerAt, asks}

module _ (w : World) (methods : ℕ) (targets : (i : ℕ) → slice_index w.sel i ≤ methods) (bits : (i : ℕ) → slice_index w.cmp i < 2) where
  module _ (hosts : List Host) (types tokens : List ℕ) where
    answer_fits : (before : List Op) (op : Op) (rest : List ℕ) → IsAnswerAt methods op (answer_by w tokens (named_type hosts types before) op ++ rest) 0
    answer_fits before (Load variable root) rest = tt
    answer_fits before (Unload variable) rest = tt
    answer_fits before (Call site object) rest = (omega arith, targets (named_type hosts types before object * w.tokens + slice_index tokens site))
    answer_fits before (Cast source target) rest = (omega arith, let bit = bits (named_type hosts types before source * w.types + named_type hosts types before target) in omega (arith, bit))

    answer_drops : (before : List Op) (op : Op) (rest : List ℕ) → drop (asks op) (answer_by w tokens (named_type hosts types before) op ++ rest) ≡ rest
    answer_drops before (Load variable root) rest = refl
    answer_drops before (Unload variable) rest = refl
    answer_drops before (Call site object) rest = refl
    answer_drops before (Cast source target) rest = refl

    lane_fits : (before ops : List Op) → AreAnswers methods ops (answers_after hosts types w tokens before ops)
    lane_fits before [] = refl
    lane_fits before (op ∷ ops) =
        let rest = answers_after hosts types w tokens (before ++ op ∷ []) ops in (
          answer_fits (before ++ op ∷ []) op rest,
          subst (AreAnswers methods ops) (sym (answer_drops (before ++ op ∷ []) op rest)) (lane_fits (before ++ op ∷ []) ops),
        )

  pub can_write : (script : Script) (types tokens : List ℕ) (slots : ℕ) → CanAnswer w script types tokens → w.tokens ≡ slots
      → CanWrite script tokens methods slots (answers_of w script types tokens)
  can_write script types tokens slots can same = record {
    well_formed = can.well_formed;
    tokens_count = can.tokens_count;
    tokens_in = subst (λ n. (site : ℕ) → site < length tokens → slice_index tokens site < n) same can.tokens_in;
    lanes_count = length-map script.lanes (λ (lane : Lane). answers_after script.hosts types w tokens [] lane.ops);
    are = λ place lane within. subst (AreAnswers methods (slice_index_or script.lanes place lane).ops)
        (sym (get_or-map (λ (l : Lane). answers_after script.hosts types w tokens [] l.ops) script.lanes place lane [] within))
        (lane_fits script.hosts types tokens [] (slice_index_or script.lanes place lane).ops);
  }
