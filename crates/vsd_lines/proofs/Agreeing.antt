-- Texts that agree on what is answered give the same lines.
use Rattle.std.proofs.Common.{◌≡◌, ℕ, zero, suc, ◌+◌, List, [], ◌∷◌, ◌++◌, drop, slice_index, slice_index_or, codes, decimal, refl, ap, ◌∙◌}
use Rattle.vsd_ast.specs.declared.scripts.Lane.{Lane}
use Rattle.vsd_ast.specs.declared.scripts.Op.{Op}
use Rattle.vsd_ast.specs.declared.scripts.Op.TheVariants.{Load, Unload, Call, Cast}
use Rattle.vsd_lines.specs.Lines.{AgreeOn, AgreeOnLane, AgreeOnOne, AgreeOnTarget, asks, call_line, lane_text, lanes_text, op_text, target_text, text_at}

module _ (sites hosts : List (List ℕ)) (tokens : List ℕ) (method other_method slot other_slot : ℕ → List ℕ) where
  same_target : (token answer : ℕ) → AgreeOnTarget tokens method other_method slot other_slot token answer
      → target_text method (slot token) answer ≡ target_text other_method (other_slot token) answer
  same_target token zero same = ap (λ text. codes "missing " ++ text) same
  same_target token (suc number) same = same

  same_line : (digits : List ℕ) (variables : List (List ℕ)) (op : Op) (answer : ℕ) → AgreeOnOne tokens method other_method slot other_slot op answer
      → op_text sites hosts tokens method slot digits variables op answer ≡ op_text sites hosts tokens other_method other_slot digits variables op answer
  same_line digits variables (Load variable root) answer same = refl
  same_line digits variables (Unload variable) answer same = refl
  same_line digits variables (Call site object) answer same =
      ap (call_line digits (text_at sites site)) (same_target (slice_index tokens site) answer same)
  same_line digits variables (Cast source target) answer same = refl

  same_lane : (digits : List ℕ) (variables : List (List ℕ)) (ops : List Op) (answers : List ℕ) → AgreeOnLane tokens method other_method slot other_slot ops answers
      → lane_text sites hosts tokens method slot digits variables ops answers ≡ lane_text sites hosts tokens other_method other_slot digits variables ops answers
  same_lane digits variables [] answers same = refl
  same_lane digits variables (op ∷ ops) answers same =
      ap (λ line. line ++ lane_text sites hosts tokens method slot digits variables ops (drop (asks op) answers)) (same_line digits variables op (slice_index answers 0) same.0)
      ∙ ap (λ rest. op_text sites hosts tokens other_method other_slot digits variables op (slice_index answers 0) ++ rest) (same_lane digits variables ops (drop (asks op) answers) same.1)

  pub same_lanes : (number : ℕ) (lanes : List Lane) (answers : List (List ℕ)) → AgreeOn tokens method other_method slot other_slot lanes answers
      → lanes_text sites hosts tokens method slot number lanes answers ≡ lanes_text sites hosts tokens other_method other_slot number lanes answers
  same_lanes number [] answers same = refl
  same_lanes number (lane ∷ lanes) answers same =
      ap (λ lines. lines ++ lanes_text sites hosts tokens method slot (number + 1) lanes (drop 1 answers)) (same_lane (decimal number) lane.names lane.ops (slice_index_or answers 0 []) same.0)
      ∙ ap (λ rest. lane_text sites hosts tokens other_method other_slot (decimal number) lane.names lane.ops (slice_index_or answers 0 []) ++ rest) (same_lanes (number + 1) lanes (drop 1 answers) same.1)
