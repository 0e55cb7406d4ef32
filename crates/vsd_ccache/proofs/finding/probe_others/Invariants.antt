use Rattle.std.proofs.Common.{◌≡◌, ◌+◌, ◌<◌, ◌≤◌, ℕ, [], ◌∷◌, length, take}
use Rattle.vsd_rule.specs.Evidence.{CastsAgree}
use Rattle.vsd_table.specs.Seating.{view_of, Belongs}
use Rattle.vsd_trails.specs.CastTrails.{probing}
use Rattle.vsd_rows.specs.Makes.{Leads}
use Rattle.vsd_ccache.specs.Looks.{LooksAtCasts}
use Rattle.vsd_ccache.proofs.finding.probe_others.Given as goal

-- the rows before were no hits, with these versions, and the rest of the look is to come
abbrev pub invariant-loop-i : goal.invariant-loop-i
invariant-loop-i l =
    let v = view_of l.initial.hand.seated in
    let w = view_of l.hand.seated in
    record {
      seat : Belongs l.table l.hand.seated;
      begun : 1 ≤ l.i;
      eight : length l.versions ≡ 8;
      leads : (rest : ℕ) → l.i + rest ≡ 8 → Leads l.initial.hand.seated (probing l.source l.target l.first.region l.first.home 7 1 (l.first.version ∷ [])) l.hand.seated (probing l.source l.target l.first.region l.first.home rest l.i (take l.i l.versions));
      changes : LooksAtCasts v w;
      agree : 1 < l.i → CastsAgree w;
    }
