-- The text of the answers: for each lane in order, and in it for each call and cast, one line.
use Rattle.std.specs.Prelude.{◌≡◌, ℕ, zero, suc, ◌+◌, ◌<◌, ◌≤◌, List, [], ◌∷◌, ◌++◌, map, drop, length, codes, decimal, slice_index, slice_index_or, EachIndex}
use Rattle.vsd_ast.specs.Scripts.{IsWellFormedScript}
use Rattle.vsd_ast.specs.declared.scripts.Host.{Host}
use Rattle.vsd_ast.specs.declared.scripts.Lane.{Lane}
use Rattle.vsd_ast.specs.declared.scripts.Op.{Op}
use Rattle.vsd_ast.specs.declared.scripts.Op.TheVariants.{Load, Unload, Call, Cast}
use Rattle.vsd_ast.specs.declared.scripts.Script.{Script}
use Rattle.vsd_ast.specs.declared.scripts.Site.{Site}
use Rattle.vsd_ast.specs.declared.scripts.Var.{Var}
use Rattle.vsd_ast.specs.declared.scripts.Var.TheVariants as var

-- a text at its place in a list
abbrev pub text_at : List (List ℕ) → ℕ → List ℕ
text_at texts place = slice_index_or texts place []

-- what a call says that it got: 0 is the missing slot, and one more than a method's number that method
abbrev pub target_text : (ℕ → List ℕ) → List ℕ → ℕ → List ℕ
target_text method slot zero = codes "missing " ++ slot
target_text method slot (suc number) = method number

abbrev pub verdict : ℕ → List ℕ
verdict zero = codes "no"
verdict (suc answer) = codes "yes"

-- a line begins with the digits of its lane's number
abbrev pub call_line : List ℕ → List ℕ → List ℕ → List ℕ
call_line digits site target = digits ++ codes " " ++ site ++ codes " " ++ target ++ codes "\n"

abbrev pub cast_line : List ℕ → List ℕ → List ℕ → List ℕ → List ℕ
cast_line digits source target answer = digits ++ codes " " ++ source ++ codes " as " ++ target ++ codes " " ++ answer ++ codes "\n"

-- how many answers an operation has
abbrev pub asks : Op → ℕ
asks (Load variable root) = 0
asks (Unload variable) = 0
asks (Call site object) = 1
asks (Cast source target) = 1

-- The names that lines are made of: those of the sites, of the hosts and of a lane's variables, each at its number.
abbrev pub site_names : Script → List (List ℕ)
site_names script = map (λ (site : Site). site.name) script.sites

abbrev pub host_names : Script → List (List ℕ)
host_names script = map (λ (host : Host). host.name) script.hosts

abbrev pub name_of : List (List ℕ) → List (List ℕ) → Var → List ℕ
name_of hosts variables (var.Host host) = text_at hosts host
name_of hosts variables (var.Own variable) = text_at variables variable

-- by the names of sites and hosts, the token of each site, and the texts of methods and of slots
module _ (sites hosts : List (List ℕ)) (tokens : List ℕ) (method slot : ℕ → List ℕ) where
  -- the line of an operation with its answer: a load and an unload have none
  abbrev pub op_text : List ℕ → List (List ℕ) → Op → ℕ → List ℕ
  op_text digits variables (Load variable root) answer = []
  op_text digits variables (Unload variable) answer = []
  op_text digits variables (Call site object) answer =
      call_line digits (text_at sites site) (target_text method (slot (slice_index tokens site)) answer)
  op_text digits variables (Cast source target) answer =
      cast_line digits (name_of hosts variables source) (name_of hosts variables target) (verdict answer)

  -- the lines of the operations of a lane, whose answers stand in order
  abbrev pub lane_text : List ℕ → List (List ℕ) → List Op → List ℕ → List ℕ
  lane_text digits variables [] answers = []
  lane_text digits variables (op ∷ ops) answers =
      op_text digits variables op (slice_index answers 0) ++ lane_text digits variables ops (drop (asks op) answers)

  -- the lines of lanes, which are numbered from this number on
  abbrev pub lanes_text : ℕ → List Lane → List (List ℕ) → List ℕ
  lanes_text number [] answers = []
  lanes_text number (lane ∷ lanes) answers =
      lane_text (decimal number) lane.names lane.ops (slice_index_or answers 0 []) ++ lanes_text (number + 1) lanes (drop 1 answers)

-- the text of the answers of a script
abbrev pub text_of : Script → List ℕ → (ℕ → List ℕ) → (ℕ → List ℕ) → List (List ℕ) → List ℕ
text_of script tokens method slot answers = lanes_text (site_names script) (host_names script) tokens method slot 0 script.lanes answers

-- two choices of texts agree on what these answers of operations name: methods that are called, and slots that are missing
module _ (tokens : List ℕ) (method other_method slot other_slot : ℕ → List ℕ) where
  abbrev pub AgreeOnTarget : ℕ → ℕ → Type 0
  AgreeOnTarget token zero = slot token ≡ other_slot token
  AgreeOnTarget token (suc number) = method number ≡ other_method number

  abbrev pub AgreeOnOne : Op → ℕ → Type 0
  AgreeOnOne (Load variable root) answer = Unit {0}
  AgreeOnOne (Unload variable) answer = Unit {0}
  AgreeOnOne (Call site object) answer = AgreeOnTarget (slice_index tokens site) answer
  AgreeOnOne (Cast source target) answer = Unit {0}

  abbrev pub AgreeOnLane : List Op → List ℕ → Type 0
  AgreeOnLane [] answers = Unit {0}
  AgreeOnLane (op ∷ ops) answers = AgreeOnOne op (slice_index answers 0) × AgreeOnLane ops (drop (asks op) answers)

  abbrev pub AgreeOn : List Lane → List (List ℕ) → Type 0
  AgreeOn [] answers = Unit {0}
  AgreeOn (lane ∷ lanes) answers = AgreeOnLane lane.ops (slice_index_or answers 0 []) × AgreeOn lanes (drop 1 answers)

-- An operation's answer stands at this place, where it has one: of a call 0 or one more than the number of one of so many
-- methods, of a cast 1 or 0.
abbrev pub IsAnswerAt : ℕ → Op → List ℕ → ℕ → Type 0
IsAnswerAt methods (Load variable root) answers at = Unit {0}
IsAnswerAt methods (Unload variable) answers at = Unit {0}
IsAnswerAt methods (Call site object) answers at = (at < length answers) × (slice_index answers at ≤ methods)
IsAnswerAt methods (Cast source target) answers at = (at < length answers) × (slice_index answers at ≤ 1)

-- one answer for each call and cast, in order
abbrev pub AreAnswers : ℕ → List Op → List ℕ → Type 0
AreAnswers methods [] answers = answers ≡ []
AreAnswers methods (op ∷ ops) answers = IsAnswerAt methods op answers 0 × AreAnswers methods ops (drop (asks op) answers)

-- What lines can be written of: a script with a token for each site, so many texts of methods and slots, and the answers of
-- each lane.
pub record CanWrite (script : Script) (tokens : List ℕ) (methods slots : ℕ) (answers : List (List ℕ)) : Type 0 where
  pub well_formed : IsWellFormedScript script
  pub tokens_count : length tokens ≡ length script.sites
  pub tokens_in : EachIndex tokens (λ site. slice_index tokens site < slots)
  pub lanes_count : length answers ≡ length script.lanes
  pub are : (place : ℕ) (lane : Lane) → place < length script.lanes → AreAnswers methods (slice_index_or script.lanes place lane).ops (slice_index_or answers place [])
