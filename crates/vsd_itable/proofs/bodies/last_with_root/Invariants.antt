-- None of the methods after this one has the root.
use Rattle.std.proofs.Common.{ℕ, ◌<◌, ◌≤◌, ◌+◌}
use Rattle.vsd_check.specs.Checked.{decls_of}
use Rattle.vsd_roots.specs.Slots.{IsRoot}
use Rattle.vsd_itable.proofs.bodies.last_with_root.Given as goal

abbrev pub invariant-loop-later : goal.invariant-loop-later
invariant-loop-later l = (m : ℕ) → m < l.count → l.count ≤ m + l.later → IsRoot (decls_of l.checked).list (record { decl = l.decl; method = m }) (record { decl = l.root.0; method = l.root.1 }) → ⊥
