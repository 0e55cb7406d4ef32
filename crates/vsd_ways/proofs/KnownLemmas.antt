-- What meeting what is known comes to, place by place.
use Rattle.std.proofs.Common.{◌≡◌, ℕ, zero, suc, ◌+◌, ◌<◌, ◌≤◌, List, [], ◌∷◌, ◌++◌, length, map, take, get_or, set, refl, sym, ap, ◌∙◌, subst, Option, Some, None, inl, inr, ◌↔◌, Bool, IsTrue, IfOk, OnOk, Result, Ok, Err, arith}
use Rattle.std.specs.List.{slice_get}
use Rattle.std.proofs.lemmas.Bool.{cases_lt, cases_order}
use Rattle.std.proofs.lemmas.List.{length-map, length-set, same_from_push, take_all, take_more}
use Rattle.std.proofs.lemmas.Option.{slice_get_within, slice_get_cases, slice_get-get_or, get_or_from_slice_get}
use Rattle.vsd_terms.specs.declared.term.Term.{Term}
use Rattle.vsd_terms.specs.declared.term.Term.TheVariants.{Param}
use Rattle.vsd_terms.specs.Substitution.{parameters_of, subst_of}
use Rattle.vsd_terms.proofs.PlaceLemmas.{take_more-map}
use Rattle.vsd_terms.proofs.SubstitutionLemmas.{parameters_of-Param, subst_of-Param}
use Rattle.vsd_ways.specs.Known.{Wants, Meets, MeetsBefore}
use Rattle.vsd_ways.proofs.FoundLemmas.{slice_get-set_same, slice_get-set_other}

-- there is an argument at each known place
pub argument_at : (known : List (Option Term)) (args : List Term) (place : ℕ) → Meets known args → place < length known → (u : Term) × (slice_get args place ≡ Some u)
argument_at known args place meets within = let long = meets.long in
    elim (slice_get_cases args place).1 [
      | inl w ↦ (w.0, w.2)
      | inr past ↦ absurd (omega (arith, past.0))
    ]

-- a place of which something is known already
pub settled_known : (known : List (Option Term)) (args : List Term) (place : ℕ) (t whole : Term) (able : Bool) → slice_get known place ≡ Some (Some t) → (IsTrue able ↔ (t ≡ whole)) → (IsTrue able × Meets known args) ↔ (Meets known args × (slice_get args place ≡ Some whole))
settled_known known args place t whole able here decides = (
  λ both.
      let at = argument_at known args place both.1 (slice_get_within known place (Some t) here) in
      let is : at.0 ≡ t = both.1.there place (Some t) at.0 here at.1 in
      (both.1, at.1 ∙ ap Some (is ∙ decides.0 both.0)),
  λ both.
      let is : whole ≡ t = both.0.there place (Some t) whole here both.1 in
      (decides.1 (sym is), both.0),
)

-- a place of which nothing is known yet
pub settled_new : (known : List (Option Term)) (args : List Term) (place : ℕ) (whole : Term) → slice_get known place ≡ Some None → Meets (set known place (Some whole)) args ↔ (Meets known args × (slice_get args place ≡ Some whole))
settled_new known args place whole here =
    let inside = slice_get_within known place None here in
    let same : slice_get (set known place (Some whole)) place ≡ Some (Some whole) = slice_get-set_same known place (Some whole) inside in (
      λ meets.
          let long : length args ≡ length known = meets.long ∙ length-set known place (Some whole) in
          let at = argument_at (set known place (Some whole)) args place meets (omega (arith, length-set known place (Some whole))) in
          let is : at.0 ≡ whole = meets.there place (Some whole) at.0 same at.1 in (
            record {
              long = long;
              there = λ i wanted t known_at t_at. elim (cases_order i place) [
                | inl e ↦ (
                    let none : wanted ≡ None = let both = sym known_at ∙ ap (slice_get known) e ∙ here in cc in
                    subst (λ (w : Option Term). Wants w t) (sym none) tt
                    )
                | inr other ↦ meets.there i wanted t (slice_get-set_other known place i (Some whole) (λ e. elim other [ inl lt ↦ omega (arith, e) | inr gt ↦ omega (arith, e) ]) ∙ known_at) t_at
              ];
            },
            at.1 ∙ ap Some is,
          ),
      λ both. record {
        long = both.0.long ∙ sym (length-set known place (Some whole));
        there = λ i wanted t known_at t_at. elim (cases_order i place) [
          | inl e ↦ (
              let is : wanted ≡ Some whole = let read = sym known_at ∙ ap (slice_get (set known place (Some whole))) e ∙ same in cc in
              let t_is : t ≡ whole = let read = sym t_at ∙ ap (slice_get args) e ∙ both.1 in cc in
              subst (λ (w : Option Term). Wants w t) (sym is) t_is
              )
          | inr other ↦ both.0.there i wanted t (sym (slice_get-set_other known place i (Some whole) (λ e. elim other [ inl lt ↦ omega (arith, e) | inr gt ↦ omega (arith, e) ])) ∙ known_at) t_at
        ];
      },
    )

-- a parameter at arguments is the argument at its place
pub param_is : (known : List (Option Term)) (args : List Term) (place : ℕ) (pattern whole : Term) → pattern ≡ Param place → parameters_of pattern ≤ length known → Meets known args → (slice_get args place ≡ Some whole) ↔ (subst_of args pattern ≡ whole)
param_is known args place pattern whole is room meets =
    let long = meets.long in
    let inside : place < length args = omega (arith, ap parameters_of is, parameters_of-Param place) in
    let read = slice_get-get_or args place (Param place) inside in
    let put : subst_of args pattern ≡ get_or args place (Param place) = ap (subst_of args) is ∙ subst_of-Param args place in (
      λ here. put ∙ get_or_from_slice_get args place whole (Param place) here,
      λ e. read ∙ ap Some (sym put ∙ e),
    )

pub param_exact : (known new : List (Option Term)) (args : List Term) (place : ℕ) (pattern whole : Term) (able : Bool) → pattern ≡ Param place → parameters_of pattern ≤ length known → ((IsTrue able × Meets new args) ↔ (Meets known args × (slice_get args place ≡ Some whole))) → (IsTrue able × Meets new args) ↔ (Meets known args × (subst_of args pattern ≡ whole))
param_exact known new args place pattern whole able is room exact = (
  λ both. let h = exact.0 both in (h.0, (param_is known args place pattern whole is room h.0).0 h.1),
  λ both. exact.1 (both.0, (param_is known args place pattern whole is room both.0).1 both.1),
)

-- nothing is known of any argument
pub meets_unknown : (known : List (Option Term)) (args : List Term) → ((i : ℕ) (w : Option Term) → slice_get known i ≡ Some w → w ≡ None) → length args ≡ length known → Meets known args
meets_unknown known args none long = record {
  long = long;
  there = λ i wanted t known_at t_at. subst (λ (w : Option Term). Wants w t) (sym (none i wanted known_at)) tt;
}

-- all arguments are known
pub meets_all : (args others : List Term) → Meets (map Some args) others ↔ (others ≡ args)
meets_all [] [] = (λ m. refl, λ e. record { long = refl; there = λ i w t k a. absurd cc })
meets_all [] (o ∷ others) = (λ m. absurd (omega (arith, m.long)), λ e. absurd cc)
meets_all (a ∷ args) [] = (λ m. absurd (omega (arith, m.long)), λ e. absurd cc)
meets_all (a ∷ args) (o ∷ others) =
    let rest = meets_all args others in (
      λ m.
          let first : o ≡ a = m.there 0 (Some a) o refl refl in
          let later : others ≡ args = rest.0 (record { long = omega (arith, m.long); there = λ i w t k at. m.there (suc i) w t k at }) in
          cc,
      λ e.
          let first : o ≡ a = cc in
          let later = rest.1 (let h = e in cc) in
          record {
            long = omega (arith, later.long);
            there = λ i w t k at. at_place first later i w t k at;
          },
    )
  where
    at_place : o ≡ a → Meets (map Some args) others → (i : ℕ) (w : Option Term) (t : Term) → slice_get (map Some (a ∷ args)) i ≡ Some w → slice_get (o ∷ others) i ≡ Some t → Wants w t
    at_place first later zero w t k at = let w_is : w ≡ Some a = cc in let t_is : t ≡ o = cc in subst (λ (v : Option Term). Wants v t) (sym w_is) (t_is ∙ first)
    at_place first later (suc i) w t k at = later.there i w t k at

-- ---- the places before one, one place further

pub before_start : (known : List (Option Term)) (args : List Term) → MeetsBefore 0 known args
before_start known args = record { there = λ i w t below. absurd (omega arith) }

pub before_step : (n : ℕ) (known : List (Option Term)) (args : List Term) (w : Option Term) (t : Term) → slice_get known n ≡ Some w → slice_get args n ≡ Some t → (MeetsBefore n known args × Wants w t) ↔ MeetsBefore (n + 1) known args
before_step n known args w t known_at t_at = (
  λ both. record {
    there = λ i v u below k a. elim (cases_lt i n) [
      | inl lt ↦ both.0.there i v u lt k a
      | inr ge ↦ (
          let e : i ≡ n = omega arith in
          let v_is : v ≡ w = let read = sym k ∙ ap (slice_get known) e ∙ known_at in cc in
          let u_is : u ≡ t = let read = sym a ∙ ap (slice_get args) e ∙ t_at in cc in
          subst (λ (x : Option Term). Wants x u) (sym v_is) (subst (λ (y : Term). Wants w y) (sym u_is) both.1)
          )
    ];
  },
  λ all. (record { there = λ i v u below k a. all.there i v u (omega arith) k a }, all.there n w t (omega arith) known_at t_at),
)

pub before_end : (n : ℕ) (known : List (Option Term)) (args : List Term) → length known ≤ n → length args ≡ length known → MeetsBefore n known args ↔ Meets known args
before_end n known args past long = (
  λ all. record { long = long; there = λ i w t k a. all.there i w t (omega (arith, slice_get_within known i w k)) k a },
  λ m. record { there = λ i w t below k a. m.there i w t k a },
)

-- ---- the elements of two lists before a place, one place further

pub taken_step : {A : Type 0} (f : A → Term) (xs : List A) (ys : List Term) (i : ℕ) (x : A) (y : Term) → i < length xs → i < length ys → x ≡ get_or xs i x → y ≡ get_or ys i y → (take (i + 1) (map f xs) ≡ take (i + 1) ys) ↔ ((take i (map f xs) ≡ take i ys) × (f x ≡ y))
taken_step f xs ys i x y x_in y_in x_is y_is =
    let left = take_more-map f xs i x x_in x_is in
    let right : take (i + 1) ys ≡ take i ys ++ y ∷ [] = take_more ys i y y_in ∙ ap (λ (z : Term). take i ys ++ z ∷ []) (sym y_is) in (
      λ e. same_from_push (take i (map f xs)) (take i ys) (f x) y (sym left ∙ e ∙ right),
      λ both. left ∙ ap (λ (l : List Term). l ++ f x ∷ []) both.0 ∙ ap (λ (z : Term). take i ys ++ z ∷ []) both.1 ∙ sym right,
    )

-- all elements are those before a place behind the last
pub taken_whole : {A : Type 0} (f : A → Term) (xs : List A) (ys : List Term) (i : ℕ) (vs : List A) (ws : List Term) → length xs ≤ i → length xs ≡ length ys → xs ≡ vs → ys ≡ ws → (take i (map f xs) ≡ take i ys) ↔ (map f vs ≡ ws)
taken_whole f xs ys i vs ws past long xs_are ys_are =
    let left : take i (map f xs) ≡ map f xs = take_all i (map f xs) (omega (arith, length-map xs f)) in
    let right : take i ys ≡ ys = take_all i ys (omega arith) in
    (λ e. sym (ap (map f) xs_are) ∙ sym left ∙ e ∙ right ∙ ys_are, λ e. left ∙ ap (map f) xs_are ∙ e ∙ sym ys_are ∙ sym right)

pub IfOk_map : {A E : Type 0} (P Q : A → Type 0) (r : Result A E) → ((x : A) → P x → Q x) → IfOk r P → IfOk r Q
IfOk_map P Q (Ok x) to h = to x h
IfOk_map P Q (Err e) to h = tt

pub OnOk_map : {A E : Type 0} (P Q : Type 0) (r : Result A E) → (P → Q) → OnOk r P → OnOk r Q
OnOk_map P Q (Ok x) to h = to h
OnOk_map P Q (Err e) to h = tt
