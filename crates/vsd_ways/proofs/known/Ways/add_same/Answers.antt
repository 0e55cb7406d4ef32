use Rattle.std.proofs.Common.{◌≡◌, List, [], ◌∷◌, ◌++◌, Option, None, sym, ap, ◌∙◌, subst, ◌⊎◌, ◌↔◌}
use Rattle.std.specs.Global.{Vec}
use Rattle.std.specs.Map.{lookup}
use Rattle.indexmap.proofs.CallerLemmas.{insert_entry-new}
use Rattle.vsd_terms.specs.declared.term.Term.{Term}
use Rattle.vsd_ways.specs.Known.{same_known, ways_in, IsMarked, Meets, MeetsFor, Way}
use Rattle.vsd_ways.proofs.WaysLemmas.{pushed_adds}
use Rattle.vsd_ways.proofs.known.Ways.add_same.Goals as goal

pub returns-in_ok-insert : goal.returns-in_ok-insert
returns-in_ok-insert c o args =
    let known = c.args.known.now in
    let made = c.in_ok-copied.field-0 in
    let same : made.items ≡ known = c.in_ok-copied.ensures in
    let marks = c.args.marks.now in
    let old = c.self.inside.ways in
    let kept = c.join_known.ensures.same c.if-not-join_known.true in
    let none = c.join_known.ensures.absent c.if-not-join_known.true in
    let absent : lookup (λ (key : Vec (Option Term)). same_known made.items key.items) c.join_known.new.ways.entries ≡ None = subst (λ (l : List (Option Term)). lookup (λ (key : Vec (Option Term)). same_known l key.items) c.join_known.new.ways.entries ≡ None) (sym same) (subst (λ m. lookup (λ (key : Vec (Option Term)). same_known known key.items) m.entries ≡ None) (sym kept) none) in
    let entries : c.insert.new.self.entries ≡ old.entries ++ (made, marks) ∷ [] = c.in_ok-insert.ensures.entries ∙ insert_entry-new (λ (a b : Vec (Option Term)). same_known a.items b.items) c.join_known.new.ways made marks absent ∙ ap (λ m. m.entries ++ (made, marks) ∷ []) kept in
    let P : List Way → Type 0 = λ ways. MeetsFor (ways_in c.insert.new.self.entries) o args ↔ (MeetsFor ways o args ⊎ (IsMarked marks o × Meets known args)) in
    subst P c.self.view_is (pushed_adds known marks old.entries c.insert.new.self.entries made (sym same) entries o args)
