-- The search for the n-th method of a name finds it, and a site's slot is that of the method that is written.
use Rattle.std.proofs.Common.{◌≡◌, ℕ, suc, ◌+◌, ◌-◌, ◌&&◌, Bool, true, false, cond, eqb, ltb, leb, List, [], ◌∷◌, ◌++◌, length, Option, Some, None, Result, Ok, Err, refl, ap, sym, subst, ◌∙◌, inl, inr, arith}
use Rattle.std.proofs.lemmas.Bool.{eqb-true, eq-eqb, ne_eqb}
use Rattle.std.proofs.lemmas.Slice.Eq.{bytes_eq-Decides}
use Rattle.std.specs.Str.{bytes_eq}
use Rattle.vsd_terms.specs.declared.term.Term.{Term}
use Rattle.vsd_ast.specs.declared.declarations.Decl.{Decl}
use Rattle.vsd_ast.specs.declared.declarations.Method.{Method}
use Rattle.vsd_ast.specs.Lookup.{Head, named, parameter, built_in, head_of, declared}
use Rattle.vsd_grammar.specs.declared.cause.Cause.{Cause}
use Rattle.vsd_grammar.specs.declared.cause.Cause.TheVariants.{Unexpected, TooMany}
use Rattle.vsd_grammar.specs.declared.cause.Counted.TheVariants as limit
use Rattle.vsd_grammar.specs.declared.token_class.TokenClass.{TokenClass}
use Rattle.vsd_grammar.specs.declared.token_class.TokenClass.TheVariants as class
use Rattle.vsd_grammar.specs.Input.{Input, Lookahead, class_at, bytes_at, next, same_class, lookahead_of}
use Rattle.vsd_grammar.specs.Grammar.{Derives}
use Rattle.vsd_grammar.specs.Productions.{checked, then_pass, name_by, is_name, spelled_name, spelled_number, number_of, in_range, digits_from, eaten, eat}
use Rattle.vsd_lanes.specs.Setting.{numbered}
use Rattle.vsd_script.specs.Methods.{nth_from, slot_by, slot_head, slot_of}
use Rattle.vsd_script.specs.Productions as spec
use Rattle.vsd_script.specs.Counting.{how_many, IsNth, FindsNth, IsCounted, IsWrittenSlot, SlotsAreWritten}

-- ---- the search

-- the n-th of a name is at this place, where the places of the list begin with this one
abbrev IsFrom : ℕ → ℕ → List Method → List ℕ → ℕ → Type 0
IsFrom first n ms name place = (k : ℕ) × (place ≡ first + k) × IsNth n name ms k

nth_found : (first n : ℕ) (ms : List Method) (name : List ℕ) (place : ℕ) → nth_from first n ms name ≡ Some place → IsFrom first n ms name place
unfolding nth_from
nth_found first n [] name place e = absurd cc
nth_found first n (m ∷ ms) name place e = go (λ k. nth_found (first + 1) k ms name place) (bytes_eq m.name name) refl (eqb n 1) refl e
  where
    later : (k : ℕ) → IsFrom (first + 1) k ms name place → ((before : List Method) → k ≡ suc (how_many name before) → n ≡ suc (how_many name (m ∷ before))) → IsFrom first n (m ∷ ms) name place
    later k r counts =
        let nth = r.2 in
        let is = r.1 in (
          suc r.0,
          omega (arith, is),
          record { before = m ∷ nth.before; here = nth.here; after = nth.after; whole = ap (λ l. m ∷ l) nth.whole; at = ap suc nth.at; named = nth.named; count = counts nth.before nth.count },
        )

    go : ((k : ℕ) → nth_from (first + 1) k ms name ≡ Some place → IsFrom (first + 1) k ms name place) → (b : Bool) → bytes_eq m.name name ≡ b → (c : Bool) → eqb n 1 ≡ c
        → cond b (cond c (Some first) (nth_from (first + 1) (n - 1) ms name)) (nth_from (first + 1) n ms name) ≡ Some place → IsFrom first n (m ∷ ms) name place
    go rest true f true g h =
        let same : first ≡ place = cc in
        (0, omega (arith, same), record { before = []; here = m; after = ms; whole = refl; at = refl; named = (bytes_eq-Decides m.name name).0 f; count = eqb-true n 1 g })
    go rest true f false g h = later (n - 1) (rest (n - 1) h) (λ before k.
        let more : how_many name (m ∷ before) ≡ suc (how_many name before) = ap (λ b. cond b (suc (how_many name before)) (how_many name before)) f in
        omega (arith, k, more))
    go rest false f c g h = later n (rest n h) (λ before k.
        let more : how_many name (m ∷ before) ≡ how_many name before = ap (λ b. cond b (suc (how_many name before)) (how_many name before)) f in
        omega (arith, k, more))

nth_back : (before : List Method) (first n : ℕ) (here : Method) (after : List Method) (name : List ℕ) → here.name ≡ name → n ≡ suc (how_many name before)
    → nth_from first n (before ++ here ∷ after) name ≡ Some (first + length before)
unfolding nth_from
nth_back [] first n here after name same count =
    let yes = (bytes_eq-Decides here.name name).1 same in
    let one : eqb n 1 ≡ true = eq-eqb n 1 count in
    let stays : first ≡ first + 0 = omega arith in
    ap (λ b. cond b (cond (eqb n 1) (Some first) (nth_from (first + 1) (n - 1) after name)) (nth_from (first + 1) n after name)) yes
    ∙ ap (λ b. cond b (Some first) (nth_from (first + 1) (n - 1) after name)) one ∙ ap Some stays
nth_back (m ∷ ms) first n here after name same count = go (λ k h. nth_back ms (first + 1) k here after name same h) (bytes_eq m.name name) count
  where
    moved : first + 1 + length ms ≡ first + suc (length ms)
    moved = omega arith

    go : ((k : ℕ) → k ≡ suc (how_many name ms) → nth_from (first + 1) k (ms ++ here ∷ after) name ≡ Some (first + 1 + length ms)) → (b : Bool)
        → n ≡ suc (cond b (suc (how_many name ms)) (how_many name ms))
        → cond b (cond (eqb n 1) (Some first) (nth_from (first + 1) (n - 1) (ms ++ here ∷ after) name)) (nth_from (first + 1) n (ms ++ here ∷ after) name) ≡ Some (first + suc (length ms))
    go found true g =
        let other : eqb n 1 ≡ false = ne_eqb n 1 (λ one. absurd (omega (arith, one, g))) in
        ap (λ b. cond b (Some first) (nth_from (first + 1) (n - 1) (ms ++ here ∷ after) name)) other ∙ found (n - 1) (omega (arith, g)) ∙ ap Some moved
    go found false g = found n g ∙ ap Some moved

pub finds_nth : FindsNth
finds_nth n methods name place = (there, back)
  where
    there : nth_from 0 n methods name ≡ Some place → IsNth n name methods place
    there e =
        let r = nth_found 0 n methods name place e in
        let is = r.1 in
        let same : r.0 ≡ place = omega (arith, is) in
        subst (IsNth n name methods) same r.2

    back : IsNth n name methods place → nth_from 0 n methods name ≡ Some place
    back k =
        let at = k.at in
        let same : 0 + length k.before ≡ place = omega (arith, at) in
        ap (λ l. nth_from 0 n l name) k.whole ∙ nth_back k.before 0 n k.here k.after name k.named k.count ∙ ap Some same

-- ---- the interface that a term names

numbered_some : (o : Option ℕ) (n : ℕ) → numbered o ≡ Some n → o ≡ Some n
numbered_some None n e = absurd cc
numbered_some (Some m) n e = go (ltb m 65536) e
  where
    go : (b : Bool) → ◌≡◌ {A = Option ℕ} (cond b (Some m) None) (Some n) → ◌≡◌ {A = Option ℕ} (Some m) (Some n)
    go true h = h
    go false h = absurd cc

-- the interface of which a slot is found, and where it is
pub record Found (ds : List Decl) (t : Term) (name : List ℕ) (n slot : ℕ) : Type 0 where
  pub number : ℕ
  pub head : head_of t ≡ named number
  pub interface : Decl
  pub found : declared ds number ≡ Some interface
  pub is_interface : interface.is_interface ≡ true
  pub nth : nth_from 0 n interface.methods name ≡ Some slot

pub slot_found : (ds : List Decl) (t : Term) (name : List ℕ) (n slot : ℕ) → slot_of ds t name n ≡ Some slot → Found ds t name n slot
slot_found ds t name n slot e = go (head_of t) refl e
  where
    at : (number : ℕ) → head_of t ≡ named number → (x : Decl) → declared ds number ≡ Some x → (b : Bool) → x.is_interface ≡ b → cond b (numbered (nth_from 0 n x.methods name)) None ≡ Some slot → Found ds t name n slot
    at number h x f false k m = absurd cc
    at number h x f true k m =
        record { number = number; head = h; interface = x; found = f; is_interface = k; nth = numbered_some (nth_from 0 n x.methods name) slot m }

    by : (number : ℕ) → head_of t ≡ named number → (x : Option Decl) → declared ds number ≡ x → slot_by x name n ≡ Some slot → Found ds t name n slot
    by number h None f g = absurd cc
    by number h (Some x) f g = at number h x f x.is_interface refl g

    go : (h : Head) → head_of t ≡ h → slot_head ds h name n ≡ Some slot → Found ds t name n slot
    go (named number) f g = by number f (declared ds number) refl g
    go (parameter place) f g = absurd cc
    go (built_in b) f g = absurd cc

-- ---- what is written

checked_at : (A : Type 0) (r : Result A Cause) (i : Input) (x : A) (j : Input) → Derives A (checked A r) i x j → (r ≡ Ok x) × (i ≡ j)
checked_at A (Ok a) i x j d = (ap Ok d.0, d.1)
checked_at A (Err cause) i x j d = absurd d

name_bytes : (b : Bool) (bytes x : List ℕ) → name_by b bytes ≡ Ok x → bytes ≡ x
name_bytes false bytes x e = absurd cc
name_bytes true bytes x e = go (eqb (length bytes) 0) (ltb 255 (length bytes)) e
  where
    go : (c l : Bool) → ◌≡◌ {A = Result (List ℕ) Cause} (cond c (Err Unexpected) (cond l (Err (TooMany limit.NameBytes)) (Ok bytes))) (Ok x) → bytes ≡ x
    go true l f = absurd cc
    go false true f = absurd cc
    go false false f = cc

spelled_at : (i : Input) (name : List ℕ) (k : Input) → Derives (List ℕ) spelled_name i name k → (bytes_at i ≡ name) × (i ≡ k)
unfolding spelled_name
spelled_at i name k d =
    let h = d.0 in
    let c = checked_at (List ℕ) (name_by (is_name h.class) h.bytes) d.1 name k d.3 in
    (ap (λ (l : Lookahead). l.bytes) d.2.0 ∙ name_bytes (is_name h.class) h.bytes name c.0, d.2.1 ∙ c.1)

in_range_is : (low high : ℕ) (m : Option ℕ) (n : ℕ) → in_range low high m ≡ Ok n → m ≡ Some n
in_range_is low high None n e = absurd cc
in_range_is low high (Some m) n e = go (leb low m && leb m high) e
  where
    go : (b : Bool) → ◌≡◌ {A = Result ℕ Cause} (cond b (Ok m) (Err Unexpected)) (Ok n) → ◌≡◌ {A = Option ℕ} (Some m) (Some n)
    go true f = let same : m ≡ n = cc in ap Some same
    go false f = absurd cc

number_is : (b : Bool) (low high most : ℕ) (bytes : List ℕ) (n : ℕ) → number_of b low high most bytes ≡ Ok n → digits_from 0 bytes ≡ Some n
number_is false low high most bytes n e = absurd cc
number_is true low high most bytes n e = go (ltb most (length bytes)) e
  where
    go : (b : Bool) → ◌≡◌ {A = Result ℕ Cause} (cond b (Err Unexpected) (in_range low high (digits_from 0 bytes))) (Ok n) → digits_from 0 bytes ≡ Some n
    go true f = absurd cc
    go false f = in_range_is low high (digits_from 0 bytes) n f

number_at : (i : Input) (n : ℕ) (k : Input) → Derives ℕ (spelled_number 1 256 6) i n k → (digits_from 0 (bytes_at i) ≡ Some n) × (i ≡ k)
unfolding spelled_number
number_at i n k d =
    let h = d.0 in
    let b = same_class class.Number h.class in
    let c = checked_at ℕ (number_of b 1 256 6 h.bytes) d.1 n k d.3 in
    (ap (λ (l : Lookahead). digits_from 0 l.bytes) d.2.0 ∙ number_is b 1 256 6 h.bytes n c.0, d.2.1 ∙ c.1)

then_pass_at : (A : Type 0) (a : A) (i : Input) (x : A) (j : Input) → Derives A (then_pass A a) i x j → (a ≡ x) × (next i ≡ j)
then_pass_at A a i x j d = (d.3.0, d.2.1 ∙ d.3.1)

eaten_at : (b : Bool) (i : Input) (c : Bool) (j : Input) → Derives Bool (eaten b) i c j → (b ≡ c) × (cond b (next i) i ≡ j)
eaten_at true i c j d = (d.3.0, d.2.1 ∙ d.3.1)
eaten_at false i c j d = (d.0, d.1)

eat_at : (q : TokenClass) (i : Input) (c : Bool) (j : Input) → Derives Bool (eat q) i c j → (same_class q (class_at i) ≡ c) × (cond c (next i) i ≡ j)
unfolding eat
eat_at q i c j d =
    let e = eaten_at (same_class q d.0.class) d.1 c j d.3 in
    let at = ap (λ (l : Lookahead). same_class q l.class) d.2.0 in
    (at ∙ e.0, ap (λ b. cond b (next i) i) (sym e.0) ∙ ap (λ k. cond (same_class q d.0.class) (next k) k) d.2.1 ∙ e.1)

a_method_is : (o : Option ℕ) (slot : ℕ) → spec.a_method o ≡ Ok slot → o ≡ Some slot
a_method_is None slot e = absurd cc
a_method_is (Some n) slot e = let same : n ≡ slot = cc in ap Some same

method_name_at : (ds : List Decl) (t : Term) (i : Input) (name : List ℕ) (k : Input) → Derives (List ℕ) (spec.method_name ds t) i name k → (bytes_at i ≡ name) × (next i ≡ k)
unfolding spec.method_name
method_name_at ds t i name k d =
    let s = spelled_at i d.0 d.1 d.2 in
    let c = checked_at ℕ (spec.a_method (slot_of ds t d.0 1)) d.1 d.3.0 d.3.1 d.3.2 in
    let p = then_pass_at (List ℕ) d.0 d.3.1 name k d.3.3 in
    (s.0 ∙ p.0, ap next (s.1 ∙ c.1) ∙ p.1)

-- the n-th of the name that is written, which ends there
written_slot : (ds : List Decl) (t : Term) (i : Input) (name : List ℕ) (n slot : ℕ) (j : Input) → bytes_at i ≡ name → slot_of ds t name n ≡ Some slot → IsCounted n (next i) j → IsWrittenSlot ds t i slot j
written_slot ds t i name n slot j same e c =
    let f = slot_found ds t name n slot e in
    record {
      number = f.number;
      head = f.head;
      interface = f.interface;
      found = f.found;
      is_interface = f.is_interface;
      n = n;
      counted = c;
      nth = subst (λ (b : List ℕ). IsNth n b f.interface.methods slot) (sym same) ((finds_nth n f.interface.methods name slot).0 f.nth);
    }

pub slots_written : SlotsAreWritten
unfolding spec.slot spec.counted_slot
slots_written ds t i slot j d = go d.3.0 (eat_at (class.Symbol 35) d.1 d.3.0 d.3.1 d.3.2) d.3.3
  where
    name : (bytes_at i ≡ d.0) × (next i ≡ d.1)
    name = method_name_at ds t i d.0 d.1 d.2

    go : (b : Bool) → (same_class (class.Symbol 35) (class_at d.1) ≡ b) × (cond b (next d.1) d.1 ≡ d.3.1) → Derives ℕ (spec.slot_if ds t d.0 b) d.3.1 slot j → IsWrittenSlot ds t i slot j
    go false e g =
        let c = checked_at ℕ (spec.a_method (slot_of ds t d.0 1)) d.3.1 slot j g in
        written_slot ds t i d.0 1 slot j name.0 (a_method_is (slot_of ds t d.0 1) slot c.0)
        (inl (ap (λ k. same_class (class.Symbol 35) (class_at k)) name.1 ∙ e.0, refl, name.1 ∙ e.1 ∙ c.1))
    go true e g =
        let n = g.0 in
        let k = number_at d.3.1 n g.1 g.2 in
        let c = checked_at ℕ (spec.a_method (slot_of ds t d.0 n)) g.1 g.3.0 g.3.1 g.3.2 in
        let p = then_pass_at ℕ g.3.0 g.3.1 slot j g.3.3 in
        let start = ap next name.1 ∙ e.1 in
        written_slot ds t i d.0 n slot j name.0 (a_method_is (slot_of ds t d.0 n) slot (c.0 ∙ ap Ok p.0))
        (inr (ap (λ k. same_class (class.Symbol 35) (class_at k)) name.1 ∙ e.0, ap (λ l. digits_from 0 (bytes_at l)) start ∙ k.0, ap next (start ∙ k.1 ∙ c.1) ∙ p.1))
