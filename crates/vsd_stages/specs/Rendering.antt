-- Answers that tables can have given a script, and their text.
use Rattle.std.specs.Prelude.{◌≡◌, ◌⊎◌, ℕ, ◌<◌, ◌≤◌, List, [], ◌∷◌}
use Rattle.vsd_ast.specs.declared.scripts.Lane.{Lane}
use Rattle.vsd_ast.specs.declared.scripts.Op.{Op}
use Rattle.vsd_ast.specs.declared.scripts.Op.TheVariants.{Load, Unload, Call, Cast}
use Rattle.vsd_ast.specs.declared.scripts.Script.{Script}
use Rattle.vsd_lines.specs.Lines.{text_of}
use Rattle.vsd_rule.specs.Lists.{entry}
use Rattle.vsd_itable.specs.Tables.{numbered_text, sel_of, slot_text, tokens_count, types_count}
use Rattle.vsd_itable.specs.Value.{Value}
use Rattle.vsd_stages.specs.Rooted.{AreTabled}

module _ (v : Value) where
  -- what some type gets through some token
  pub record IsSelected (answer : ℕ) : Type 0 where
    pub t : ℕ
    pub k : ℕ
    pub listed : t < types_count v
    pub token : k < tokens_count v
    pub is : answer ≡ entry (sel_of v) (tokens_count v) t k

  -- one answer for each call and cast of a lane, in order: of a call 0, or one more than the number of a method that is
  -- selected; of a cast 1 or 0
  abbrev pub AnswerLane : List Op → List ℕ → Type 0
  AnswerLane [] answers = answers ≡ []
  AnswerLane (Load variable root ∷ ops) answers = AnswerLane ops answers
  AnswerLane (Unload variable ∷ ops) answers = AnswerLane ops answers
  AnswerLane (Call site object ∷ ops) [] = ⊥
  AnswerLane (Call site object ∷ ops) (answer ∷ answers) = ((answer ≡ 0) ⊎ IsSelected answer) × AnswerLane ops answers
  AnswerLane (Cast source target ∷ ops) [] = ⊥
  AnswerLane (Cast source target ∷ ops) (answer ∷ answers) = (answer ≤ 1) × AnswerLane ops answers

  -- the answers of lanes, in order
  abbrev pub AnswerLanes : List Lane → List (List ℕ) → Type 0
  AnswerLanes [] answers = answers ≡ []
  AnswerLanes (lane ∷ lanes) [] = ⊥
  AnswerLanes (lane ∷ lanes) (said ∷ answers) = AnswerLane lane.ops said × AnswerLanes lanes answers

  -- the tables are over the types of the script's roots, and have the tokens of its sites in order of first appearance
  pub record AreTablesOf (s : Script) : Type 0 where
    pub types : List ℕ
    pub sites : List ℕ
    pub tabled : AreTabled v s types sites

  -- the lines of these answers, which name methods and slots by their texts in the tables
  pub record IsRendered (s : Script) (answers : List (List ℕ)) (text : List ℕ) : Type 0 where
    pub types : List ℕ
    pub sites : List ℕ
    pub tabled : AreTabled v s types sites
    pub is : text ≡ text_of s sites (numbered_text v) (slot_text v) answers
