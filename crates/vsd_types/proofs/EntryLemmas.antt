-- What the entries of a list say of it.
use Rattle.std.proofs.Common.{All, ◌≡◌, ◌<◌, ℕ, List, [], ◌∷◌, length, get_or, Some, refl, arith, suc, zero}
use Rattle.std.specs.List.{slice_get}
use Rattle.std.proofs.lemmas.Option.{slice_get-get_or}
use Rattle.vsd_terms.specs.declared.term.Term.{Term}
use Rattle.vsd_ast.specs.declared.declarations.Decl.{Decl}
use Rattle.vsd_types.specs.declared.entry.Entry.{Entry}
use Rattle.vsd_types.specs.ClosedList.{IsClosedUnder}
use Rattle.vsd_types.specs.Entries.{AreKept}
use Rattle.vsd_types.specs.Types.{IsClosedType, children}
use Rattle.vsd_types.proofs.NumberLemmas.{numbers-listed}

entry_at : (entries : List Entry) (i : ℕ) → i < length entries → (e : Entry) × (slice_get entries i ≡ Some e)
entry_at [] i within = absurd (omega arith)
entry_at (e ∷ entries) zero within = (e, refl)
entry_at (e ∷ entries) (suc i) within = entry_at entries i (omega arith)

pub entries-closed : (ds : List Decl) (types : List Term) (entries : List Entry) → AreKept ds types entries → IsClosedUnder ds types
entries-closed ds types entries kept i d within =
    let here = entry_at entries i (omega (arith, kept.count, within)) in
    let t = get_or types i d in
    numbers-listed types here.0.children (children ds t) (kept.right i t here.0 (slice_get-get_or types i d within) here.1).children

pub entries-lawful : (ds : List Decl) (types : List Term) (entries : List Entry) → AreKept ds types entries → All (IsClosedType ds) types
entries-lawful ds types entries kept i d within =
    let here = entry_at entries i (omega (arith, kept.count, within)) in
    (kept.right i (get_or types i d) here.0 (slice_get-get_or types i d within) here.1).type
