-- A lane, one operation on.
use Rattle.std.proofs.Common.{◌≡◌, ℕ, ◌+◌, ◌<◌, ◌≤◌, List, [], ◌∷◌, ◌++◌, length, get_or, drop, slice_index, EachIndex, decimal, sym, ap, subst, ◌∙◌, arith, add-zero, append-nil, get_or-drop, length-drop}
use Rattle.std.proofs.lemmas.List.{drop-drop, drop_all, drop_more}
use Rattle.vsd_ast.specs.Scripts.{IsThere, MayBeMade, MayFollow, live_after}
use Rattle.vsd_ast.specs.declared.scripts.Host.{Host}
use Rattle.vsd_ast.specs.declared.scripts.Op.{Op}
use Rattle.vsd_ast.specs.declared.scripts.Op.TheVariants.{Load, Unload, Call, Cast}
use Rattle.vsd_ast.specs.declared.scripts.Var.{Var}
use Rattle.vsd_ast.specs.declared.scripts.Var.TheVariants as var
use Rattle.vsd_ast.specs.declared.scripts.Lane.{Lane}
use Rattle.vsd_lines.specs.Lines.{AreAnswers, IsAnswerAt, asks, lane_text, lanes_text, op_text}
use Rattle.vsd_lines.specs.Names.{IsNamed, IsWritable}

-- the operations that are left may be made, where some variables live
pub record MayCome (roots sites hosts names : ℕ) (ops : List Op) : Type 0 where
  pub live : List ℕ
  pub follow : MayFollow roots sites hosts names live ops

-- an answer that stands first in what is left
answer_here : (methods : ℕ) (op : Op) (answers : List ℕ) (at : ℕ) → IsAnswerAt methods op (drop at answers) 0 → IsAnswerAt methods op answers at
answer_here methods (Load variable root) answers at is = tt
answer_here methods (Unload variable) answers at is = tt
answer_here methods (Call site object) answers at is =
    let first : get_or (drop at answers) 0 0 ≡ get_or answers at 0 = get_or-drop at answers 0 0 ∙ ap (λ n. get_or answers n 0) (add-zero at) in
    (let within = is.0 in omega (arith, length-drop at answers), subst (λ n. n ≤ methods) first is.1)
answer_here methods (Cast source target) answers at is =
    let first : get_or (drop at answers) 0 0 ≡ get_or answers at 0 = get_or-drop at answers 0 0 ∙ ap (λ n. get_or answers n 0) (add-zero at) in
    (let within = is.0 in omega (arith, length-drop at answers), subst (λ n. n ≤ 1) first is.1)

-- an operation has no more answers than are left
pub asks_within : (methods : ℕ) (op : Op) (answers : List ℕ) (at : ℕ) → at ≤ length answers → IsAnswerAt methods op answers at → at + asks op ≤ length answers
asks_within methods (Load variable root) answers at within is = omega arith
asks_within methods (Unload variable) answers at within is = omega arith
asks_within methods (Call site object) answers at within is = let here = is.0 in omega arith
asks_within methods (Cast source target) answers at within is = let here = is.0 in omega arith

named : (roots sites names : ℕ) (hosts : List Host) (variables : List (List ℕ)) (live : List ℕ) (v : Var) → length variables ≡ names
    → IsThere roots sites (length hosts) names live v → IsNamed hosts variables v
named roots sites names hosts variables live (var.Host host) size there = there
named roots sites names hosts variables live (var.Own variable) size there = subst (λ n. variable < n) (sym size) there.0

writable : (roots sites names slots : ℕ) (hosts : List Host) (tokens : List ℕ) (variables : List (List ℕ)) (live : List ℕ) (op : Op)
    → length variables ≡ names → length tokens ≡ sites → EachIndex tokens (λ site. slice_index tokens site < slots)
    → MayBeMade roots sites (length hosts) names live op → IsWritable sites hosts tokens slots variables op
writable roots sites names slots hosts tokens variables live (Load variable root) size count within made = tt
writable roots sites names slots hosts tokens variables live (Unload variable) size count within made = tt
writable roots sites names slots hosts tokens variables live (Call site object) size count within made =
    let there : site < length tokens = subst (λ n. site < n) (sym count) made.0 in
    (made.0, there, within site there)
writable roots sites names slots hosts tokens variables live (Cast source target) size count within made =
    (named roots sites names hosts variables live source size made.0, named roots sites names hosts variables live target size made.1)

module _ (ops : List Op) (i : ℕ) (d : Op) (here : i < length ops) where
  module _ (roots sites names slots : ℕ) (hosts : List Host) (tokens : List ℕ) (variables : List (List ℕ)) where
    follow_here : (m : MayCome roots sites (length hosts) names (drop i ops)) → MayFollow roots sites (length hosts) names m.live (get_or ops i d ∷ drop (i + 1) ops)
    follow_here m = subst (λ left. MayFollow roots sites (length hosts) names m.live left) (drop_more ops i d here) m.follow

    pub writable_at : length variables ≡ names → length tokens ≡ sites → EachIndex tokens (λ site. slice_index tokens site < slots)
        → MayCome roots sites (length hosts) names (drop i ops) → IsWritable sites hosts tokens slots variables (get_or ops i d)
    writable_at size count within m = writable roots sites names slots hosts tokens variables m.live (get_or ops i d) size count within (follow_here m).0

    pub comes_next : MayCome roots sites (length hosts) names (drop i ops) → MayCome roots sites (length hosts) names (drop (i + 1) ops)
    comes_next m = record { live = live_after m.live (get_or ops i d); follow = (follow_here m).1 }

  module _ (methods : ℕ) (answers : List ℕ) (at : ℕ) (are : AreAnswers methods (drop i ops) (drop at answers)) where
    answers_here : AreAnswers methods (get_or ops i d ∷ drop (i + 1) ops) (drop at answers)
    answers_here = subst (λ left. AreAnswers methods left (drop at answers)) (drop_more ops i d here) are

    pub answer_at : IsAnswerAt methods (get_or ops i d) answers at
    answer_at = answer_here methods (get_or ops i d) answers at answers_here.0

    pub answers_next : AreAnswers methods (drop (i + 1) ops) (drop (at + asks (get_or ops i d)) answers)
    answers_next = subst (λ left. AreAnswers methods (drop (i + 1) ops) left) (drop-drop (asks (get_or ops i d)) at answers) answers_here.1

  -- the lines of what is left are the line at hand and those of what is left then
  pub text_here : (sites hosts : List (List ℕ)) (tokens : List ℕ) (method slot : ℕ → List ℕ) (digits : List ℕ) (variables : List (List ℕ)) (answers : List ℕ) (at : ℕ)
      → lane_text sites hosts tokens method slot digits variables (drop i ops) (drop at answers)
      ≡ op_text sites hosts tokens method slot digits variables (get_or ops i d) (get_or answers at 0)
      ++ lane_text sites hosts tokens method slot digits variables (drop (i + 1) ops) (drop (at + asks (get_or ops i d)) answers)
  text_here sites hosts tokens method slot digits variables answers at =
      let op = get_or ops i d in
      let text = lane_text sites hosts tokens method slot digits variables in
      let first : get_or (drop at answers) 0 0 ≡ get_or answers at 0 = get_or-drop at answers 0 0 ∙ ap (λ n. get_or answers n 0) (add-zero at) in
      ap (λ left. text left (drop at answers)) (drop_more ops i d here)
      ∙ (ap (λ answer. op_text sites hosts tokens method slot digits variables op answer ++ text (drop (i + 1) ops) (drop (asks op) (drop at answers))) first
      ∙ ap (λ left. op_text sites hosts tokens method slot digits variables op (get_or answers at 0) ++ text (drop (i + 1) ops) left) (drop-drop (asks op) at answers))

-- the lines of the lanes that are left are those of the lane at hand and of the lanes that are left then
pub lanes_here : (sites hosts : List (List ℕ)) (tokens : List ℕ) (method slot : ℕ → List ℕ) (lanes : List Lane) (answers : List (List ℕ)) (n : ℕ) (d : Lane) → n < length lanes
    → lanes_text sites hosts tokens method slot n (drop n lanes) (drop n answers)
    ≡ lane_text sites hosts tokens method slot (decimal n) (get_or lanes n d).names (get_or lanes n d).ops (get_or answers n [])
    ++ lanes_text sites hosts tokens method slot (n + 1) (drop (n + 1) lanes) (drop (n + 1) answers)
lanes_here sites hosts tokens method slot lanes answers n d here =
    let lane = get_or lanes n d in
    let text = lane_text sites hosts tokens method slot (decimal n) lane.names lane.ops in
    let first : get_or (drop n answers) 0 [] ≡ get_or answers n [] = get_or-drop n answers 0 [] ∙ ap (λ k. get_or answers k []) (add-zero n) in
    ap (λ left. lanes_text sites hosts tokens method slot n left (drop n answers)) (drop_more lanes n d here)
    ∙ (ap (λ said. text said ++ lanes_text sites hosts tokens method slot (n + 1) (drop (n + 1) lanes) (drop 1 (drop n answers))) first
    ∙ ap (λ left. text (get_or answers n []) ++ lanes_text sites hosts tokens method slot (n + 1) (drop (n + 1) lanes) left) (drop-drop 1 n answers))

-- the lines of all lanes, where those of some are done and one lane is at hand
pub lane_next : (sites hosts : List (List ℕ)) (tokens : List ℕ) (method slot : ℕ → List ℕ) (lanes : List Lane) (answers : List (List ℕ)) (n : ℕ) (lane : Lane) (said done whole : List ℕ)
    → n < length lanes → lane ≡ get_or lanes n lane → said ≡ get_or answers n []
    → done ++ lanes_text sites hosts tokens method slot n (drop n lanes) (drop n answers) ≡ whole
    → done ++ (lane_text sites hosts tokens method slot (decimal n) lane.names lane.ops said ++ lanes_text sites hosts tokens method slot (n + 1) (drop (n + 1) lanes) (drop (n + 1) answers)) ≡ whole
lane_next sites hosts tokens method slot lanes answers n lane said done whole here is says all =
    let text = lane_text sites hosts tokens method slot (decimal n) in
    let rest = lanes_text sites hosts tokens method slot (n + 1) (drop (n + 1) lanes) (drop (n + 1) answers) in
    ap (λ l. done ++ (text lane.names lane.ops l ++ rest)) says
    ∙ (ap (λ (l : Lane). done ++ (text l.names l.ops (get_or answers n []) ++ rest)) is
    ∙ (ap (λ l. done ++ l) (sym (lanes_here sites hosts tokens method slot lanes answers n lane here)) ∙ all))

-- no lane is left
pub lanes_done : (sites hosts : List (List ℕ)) (tokens : List ℕ) (method slot : ℕ → List ℕ) (lanes : List Lane) (answers : List (List ℕ)) (n : ℕ) (done whole : List ℕ)
    → length lanes ≤ n → done ++ lanes_text sites hosts tokens method slot n (drop n lanes) (drop n answers) ≡ whole → done ≡ whole
lanes_done sites hosts tokens method slot lanes answers n done whole past all =
    let none : lanes_text sites hosts tokens method slot n (drop n lanes) (drop n answers) ≡ [] =
    ap (λ left. lanes_text sites hosts tokens method slot n left (drop n answers)) (drop_all n lanes past) in
    sym (append-nil done) ∙ (ap (λ l. done ++ l) (sym none) ∙ all)
