-- Marks of buckets, and what isn't marked.
use Rattle.std.proofs.Common.{◌≡◌, ℕ, ◌+◌, ◌<◌, ◌≤◌, Bool, List, length, drop, get_or, Option, Some, None, refl, sym, ap, ◌∙◌, subst, arith}
use Rattle.std.specs.List.{slice_get}
use Rattle.std.specs.Option.{option_or}
use Rattle.std.proofs.lemmas.List.{drop_all, drop_more}
use Rattle.vsd_terms.specs.declared.term.Term.{Term}
use Rattle.vsd_ast.specs.declared.declarations.Decl.{Decl}
use Rattle.vsd_ast.specs.declared.declarations.Method.{Method}
use Rattle.vsd_types.specs.TypeList.{TypeList}
use Rattle.vsd_types.specs.Types.{args_of, declaration_of, type_at}
use Rattle.vsd_methods.specs.Givens.{AreGiven}
use Rattle.vsd_methods.specs.Methods.{first_given, methods_in, naming, offering}
use Rattle.vsd_methods.specs.declared.overriding.Given.{Given}
use Rattle.vsd_methods.proofs.NameLaws.{unnamed}
use Rattle.vsd_slots.specs.Columns.{HasNone}
use Rattle.vsd_slots.specs.Entries.{HasNothing}
use Rattle.vsd_slots.specs.Marks.{AreGivenMarked, AreMarked, AreNamesMarked, GiveNothing, IsFree, StaysMarked}
use Rattle.vsd_slots.specs.Named.{AreBuckets, bucket}

-- an override that gives nothing is passed by
pub given-passed : (f : Option Given → Option ℕ) (given : List (Option Given)) (k : ℕ) (g : Option Given) → k < length given → g ≡ get_or given k None → f g ≡ None
    → first_given f (drop k given) ≡ first_given f (drop (k + 1) given)
given-passed f given k g within is none =
    let rest = first_given f (drop (k + 1) given) in
    let here : f (get_or given k None) ≡ None = ap f (sym is) ∙ none in
    ap (first_given f) (drop_more given k None within) ∙ ap (λ (o : Option ℕ). option_or o rest) here

pub given-end : (f : Option Given → Option ℕ) (given : List (Option Given)) (k : ℕ) → length given ≤ k → first_given f (drop k given) ≡ None
given-end f given k past = ap (first_given f) (drop_all k given past)

-- no method of a class has the name of a method of an interface whose bucket isn't marked
pub naming-none : (ds : List Decl) (i t : Term) (m : ℕ) (buckets : List ℕ) (marks : List Bool) → AreBuckets (methods_in (declaration_of ds i)) buckets
    → AreNamesMarked (methods_in (declaration_of ds t)) marks → IsFree marks (get_or buckets m 0) → naming ds i m t ≡ None
naming-none ds i t m buckets marks are marked free = by (slice_get (methods_in (declaration_of ds i)) m) refl
  where
    by : (o : Option Method) → slice_get (methods_in (declaration_of ds i)) m ≡ o → offering ds i t o ≡ None
    by None is = refl
    by (Some x) is = unnamed (methods_in (declaration_of ds t)) (args_of i) (args_of t) x
        (λ k p stands same. marked k p stands (subst (IsFree marks) (are.each m x is ∙ ap bucket (sym same)) free))

module _ (c : TypeList) (t i : ℕ) (buckets : List ℕ) (given : List (Option Given)) (listed : i < length c.types)
    (are : AreBuckets (methods_in (declaration_of c.decls.list (type_at c.types i))) buckets)
    (gives : AreGiven c.decls.list c.types (type_at c.types t) given) where
  nothing_for : (m : ℕ) (marks : List Bool) → AreNamesMarked (methods_in (declaration_of c.decls.list (type_at c.types t))) marks
      → GiveNothing given i m → IsFree marks (get_or buckets m 0) → HasNothing c t i m
  nothing_for m marks named none free = record {
    overriding = gives i m listed ∙ none;
    naming = naming-none c.decls.list (type_at c.types i) (type_at c.types t) m buckets marks are named free;
  }

  pub marked-all : (before marks : List Bool) → AreNamesMarked (methods_in (declaration_of c.decls.list (type_at c.types t))) before → StaysMarked before marks
      → AreGivenMarked given i buckets marks → AreMarked c t i buckets marks
  marked-all before marks named stays none m within free = nothing_for m before named (none m within free) (stays (get_or buckets m 0) free)

  pub none-marked : (marks : List Bool) → AreNamesMarked (methods_in (declaration_of c.decls.list (type_at c.types t))) marks
      → ((m : ℕ) → GiveNothing given i m) → ((m : ℕ) → m < length buckets → IsFree marks (get_or buckets m 0)) → HasNone c t i
  none-marked marks named none free m within = nothing_for m marks named (none m) (free m (omega (arith, within, are.long)))
