-- Answers that tables can have given can be written, and their text is that by the tables.
use Rattle.std.proofs.Common.{◌≡◌, ◌⊎◌, ℕ, zero, suc, ◌<◌, ◌≤◌, List, [], ◌∷◌, All, Contains, length, get_or, slice_index, slice_index_or, Some, ⊎_elim, refl, sym, ap, subst, ◌∙◌, arith}
use Rattle.std.specs.List.{slice_get}
use Rattle.std.proofs.lemmas.List.{length-map}
use Rattle.std.proofs.lemmas.List.Elements.{All-head, All-tail}
use Rattle.vsd_terms.specs.declared.term.Term.{Term}
use Rattle.vsd_ast.specs.Scripts.{IsLane, IsWellFormedScript, MayFollow, live_after}
use Rattle.vsd_ast.specs.declared.scripts.Lane.{Lane}
use Rattle.vsd_ast.specs.declared.scripts.Op.{Op}
use Rattle.vsd_ast.specs.declared.scripts.Op.TheVariants.{Load, Unload, Call, Cast}
use Rattle.vsd_ast.specs.declared.scripts.Script.{Script}
use Rattle.vsd_answers.specs.Numbering.{Pair, site_pairs, site_tokens_of, tokens_of}
use Rattle.vsd_lines.specs.Lines.{AgreeOn, AgreeOnLane, AgreeOnTarget, AreAnswers, CanWrite, text_at, text_of}
use Rattle.vsd_lines.proofs.Agreeing.{same_lanes}
use Rattle.vsd_lines.specs.Lines.{host_names, site_names}
use Rattle.vsd_types.specs.Numbers.{AreNumbers, IsDistinct}
use Rattle.vsd_itable.specs.Tables.{numbered_text, slot_text, tokens_count}
use Rattle.vsd_types.proofs.NumberLemmas.{numbers-listed}
use Rattle.vsd_itable.specs.Value.{Value}
use Rattle.vsd_stages.specs.Named.{IsNaming}
use Rattle.vsd_stages.specs.Noted.{IsTold}
use Rattle.vsd_stages.specs.Rendering.{AnswerLane, AnswerLanes, AreTablesOf, IsRendered, IsSelected}
use Rattle.vsd_stages.specs.Rooted.{AreTabled}
use Rattle.vsd_stages.proofs.Counting.{few_tokens}
use Rattle.vsd_stages.proofs.Readiness.{can_answer, told_few}

-- ---- types have one number each

module _ (types : List Term) (distinct : IsDistinct types) where
  pub one_numbering : (ns ms : List ℕ) (ts : List Term) → AreNumbers types ns ts → AreNumbers types ms ts → ns ≡ ms
  one_numbering [] [] ts first second = refl
  one_numbering [] (m ∷ ms) [] first second = absurd cc
  one_numbering [] (m ∷ ms) (t ∷ ts) first second = absurd cc
  one_numbering (n ∷ ns) [] [] first second = absurd cc
  one_numbering (n ∷ ns) [] (t ∷ ts) first second = absurd cc
  one_numbering (n ∷ ns) (m ∷ ms) [] first second = absurd cc
  one_numbering (n ∷ ns) (m ∷ ms) (t ∷ ts) first second =
      let here : slice_get types n ≡ Some t = cc in
      let there : slice_get types m ≡ Some t = cc in
      let first_rest : AreNumbers types ns ts = cc in
      let second_rest : AreNumbers types ms ts = cc in
      let rest : ns ≡ ms = one_numbering ns ms ts first_rest second_rest in
      let same : n ≡ m = distinct n m t here there in
      cc

pub roots_listed : (v : Value) (s : Script) → AreTablesOf v s → All (Contains v.closed.types) s.roots
roots_listed v s tables = numbers-listed v.closed.types tables.types s.roots tables.tabled.numbers

module _ (v : Value) (s : Script) (distinct : IsDistinct v.closed.types) (tables : AreTablesOf v s) where
  pub tabled_by : (types : List ℕ) → AreNumbers v.closed.types types s.roots → AreTabled v s types (site_tokens_of (site_pairs s.sites types))
  tabled_by types numbers =
      let same = one_numbering v.closed.types distinct tables.types types s.roots tables.tabled.numbers numbers in record {
        numbers = numbers;
        tokens = subst (λ ns. v.tokens ≡ tokens_of (site_pairs s.sites ns)) same tables.tabled.tokens;
        site_tokens = refl;
      }

  pub tokens_counted : (types : List ℕ) → AreNumbers v.closed.types types s.roots → (list : List Pair) → list ≡ tokens_of (site_pairs s.sites types) → length list ≡ tokens_count v
  tokens_counted types numbers list is = ap length (is ∙ sym (tabled_by types numbers).tokens)

  pub few_counted : (types : List ℕ) → AreNumbers v.closed.types types s.roots → length s.sites ≤ 256 → tokens_count v ≤ 256
  few_counted types numbers few =
      let pairs = site_pairs s.sites types in
      let long : length pairs ≡ length s.sites = length-map s.sites (λ site. (get_or types site.root 0, site.slot)) in
      let is : tokens_count v ≡ length (tokens_of pairs) = ap length (tabled_by types numbers).tokens in
      omega (arith, few_tokens pairs, long, is, few)

-- ---- what lines name is there, and is what the tables say

module _ (v : Value) (s : Script) (sites : List ℕ) (methods slots : List (List ℕ)) (naming : IsNaming v s sites methods slots) where
  told_answer : (answer : ℕ) → (answer ≡ 0) ⊎ IsSelected v answer → IsTold v methods answer
  told_answer answer is =
      ⊎_elim (λ none. subst (IsTold v methods) (sym none) tt)
      (λ some. subst (IsTold v methods) (sym some.is) (naming.told some.t some.listed some.k some.token)) is

  fit_lane : (ops : List Op) (answers : List ℕ) → AnswerLane v ops answers → AreAnswers (length methods) ops answers
  fit_lane [] answers are = are
  fit_lane (Load variable root ∷ ops) answers are = (tt, fit_lane ops answers are)
  fit_lane (Unload variable ∷ ops) answers are = (tt, fit_lane ops answers are)
  fit_lane (Call site object ∷ ops) [] are = absurd are
  fit_lane (Call site object ∷ ops) (answer ∷ answers) are = ((omega arith, told_few v methods answer (told_answer answer are.0)), fit_lane ops answers are.1)
  fit_lane (Cast source target ∷ ops) [] are = absurd are
  fit_lane (Cast source target ∷ ops) (answer ∷ answers) are = ((omega arith, are.0), fit_lane ops answers are.1)

  fit_lanes : (lanes : List Lane) (answers : List (List ℕ)) → AnswerLanes v lanes answers
      → (length answers ≡ length lanes) × ((place : ℕ) (lane : Lane) → place < length lanes → AreAnswers (length methods) (slice_index_or lanes place lane).ops (slice_index_or answers place []))
  fit_lanes [] answers are = (ap length are, λ place lane within. absurd (omega (arith, within)))
  fit_lanes (lane ∷ lanes) [] are = absurd are
  fit_lanes (lane ∷ lanes) (said ∷ answers) are =
      let rest = fit_lanes lanes answers are.1 in
      let first = fit_lane lane.ops said are.0 in
      let each : (place : ℕ) (other : Lane) → place < length (lane ∷ lanes) → AreAnswers (length methods) (slice_index_or (lane ∷ lanes) place other).ops (slice_index_or (said ∷ answers) place []) =
      λ place other within. at_place lane lanes said answers first rest.1 place other within in
      (omega (arith, rest.0), each)
    where
      at_place : (lane : Lane) (lanes : List Lane) (said : List ℕ) (answers : List (List ℕ)) → AreAnswers (length methods) lane.ops said
          → ((place : ℕ) (other : Lane) → place < length lanes → AreAnswers (length methods) (slice_index_or lanes place other).ops (slice_index_or answers place []))
          → (place : ℕ) (other : Lane) → place < length (lane ∷ lanes) → AreAnswers (length methods) (slice_index_or (lane ∷ lanes) place other).ops (slice_index_or (said ∷ answers) place [])
      at_place lane lanes said answers first rest zero other within = first
      at_place lane lanes said answers first rest (suc place) other within = rest place other (omega (arith, within))

  module _ (formed : IsWellFormedScript s) where
    pub can_write : (answers : List (List ℕ)) → AnswerLanes v s.lanes answers → CanWrite s sites (length methods) (length slots) answers
    can_write answers are =
        let can = can_answer v s naming.types sites formed naming.tabled in
        let fit = fit_lanes s.lanes answers are in record {
          well_formed = formed;
          tokens_count = can.tokens_count;
          tokens_in = subst (λ n. (site : ℕ) → site < length sites → slice_index sites site < n) (sym naming.count) can.tokens_in;
          lanes_count = fit.0;
          are = fit.1;
        }

    agree_target : (site answer : ℕ) → site < length s.sites → (answer ≡ 0) ⊎ IsSelected v answer
        → AgreeOnTarget sites (text_at methods) (numbered_text v) (text_at slots) (slot_text v) (slice_index sites site) answer
    agree_target site zero within is =
        let can = can_answer v s naming.types sites formed naming.tabled in
        let long = can.tokens_count in
        naming.made (slice_index sites site) (can.tokens_in site (omega (arith, within, long)))
    agree_target site (suc number) within is = (told_answer (suc number) is).right

    agree_lane : (names : ℕ) (live : List ℕ) (ops : List Op) (answers : List ℕ) → MayFollow (length s.roots) (length s.sites) (length s.hosts) names live ops → AnswerLane v ops answers
        → AgreeOnLane sites (text_at methods) (numbered_text v) (text_at slots) (slot_text v) ops answers
    agree_lane names live [] answers may are = tt
    agree_lane names live (Load variable root ∷ ops) answers may are = (tt, agree_lane names (live_after live (Load variable root)) ops answers may.1 are)
    agree_lane names live (Unload variable ∷ ops) answers may are = (tt, agree_lane names (live_after live (Unload variable)) ops answers may.1 are)
    agree_lane names live (Call site object ∷ ops) [] may are = absurd are
    agree_lane names live (Call site object ∷ ops) (answer ∷ answers) may are = (agree_target site answer may.0.0 are.0, agree_lane names live ops answers may.1 are.1)
    agree_lane names live (Cast source target ∷ ops) [] may are = absurd are
    agree_lane names live (Cast source target ∷ ops) (answer ∷ answers) may are = (tt, agree_lane names live ops answers may.1 are.1)

    agree_lanes : (lanes : List Lane) (answers : List (List ℕ)) → All (IsLane (length s.roots) (length s.sites) (length s.hosts)) lanes → AnswerLanes v lanes answers
        → AgreeOn sites (text_at methods) (numbered_text v) (text_at slots) (slot_text v) lanes answers
    agree_lanes [] answers formed_lanes are = tt
    agree_lanes (lane ∷ lanes) [] formed_lanes are = absurd are
    agree_lanes (lane ∷ lanes) (said ∷ answers) formed_lanes are =
        let first : IsLane (length s.roots) (length s.sites) (length s.hosts) lane = All-head (IsLane (length s.roots) (length s.sites) (length s.hosts)) lane lanes formed_lanes in
        (agree_lane (length lane.names) [] lane.ops said first.ops are.0, agree_lanes lanes answers (All-tail (IsLane (length s.roots) (length s.sites) (length s.hosts)) lane lanes formed_lanes) are.1)

    pub rendered : (answers : List (List ℕ)) → AnswerLanes v s.lanes answers → IsRendered v s answers (text_of s sites (text_at methods) (text_at slots) answers)
    rendered answers are = record {
      types = naming.types;
      sites = sites;
      tabled = naming.tabled;
      is = same_lanes (site_names s) (host_names s) sites (text_at methods) (numbered_text v) (text_at slots) (slot_text v) 0 s.lanes answers (agree_lanes s.lanes answers formed.lanes are);
    }
