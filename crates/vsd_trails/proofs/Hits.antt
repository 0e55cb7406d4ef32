-- What a hit is.
use Rattle.std.proofs.Common.{◌≡◌, ◌≢◌, ℕ, zero, suc, ◌%◌, Bool, true, not, ◌&&◌, nat_eq, refl, sym, ap, subst, eq-eqb, eqb-true, ne_eqb}
use Rattle.vsd_words.specs.declared.handle.Handle.{Handle}
use Rattle.vsd_words.specs.declared.cast_word.CastWord.{CastWord}
use Rattle.vsd_trails.specs.CastTrails.{is_hit}
use Rattle.vsd_trails.specs.CastPaths.{HoldsCast}
use Rattle.vsd_trails.specs.Words.{same_handle}
use Rattle.vsd_trails.proofs.Loads.{and_both, same_handle-true, same_handle-refl}

not_zero : (n : ℕ) → not (nat_eq n 0) ≡ true → n ≢ 0
not_zero zero other = absurd (cc)
not_zero (suc n) other = λ is. absurd (cc)

above : (n : ℕ) → n ≢ 0 → not (nat_eq n 0) ≡ true
above n other = ap not (ne_eqb n 0 other)

pub hit_parts : (source target : Handle) (version : ℕ) (s : Handle) (w : CastWord) (again : ℕ) → is_hit source target version s w again ≡ true → HoldsCast source target version s w again
hit_parts source target version s w again hit =
    let d = and_both _ _ hit in
    let c = and_both _ _ d.0 in
    let b = and_both _ _ c.0 in
    let a = and_both _ _ b.0 in
    record {
      same = eqb-true version again a.0;
      even = eqb-true (version % 2) 0 a.1;
      written = not_zero version b.1;
      source_is = same_handle-true s source c.1;
      target_is = same_handle-true w.target target d.1;
    }

same_is : (g h : Handle) → g ≡ h → same_handle g h ≡ true
same_is g h is = subst (λ (x : Handle). same_handle x h ≡ true) (sym is) (same_handle-refl h)

all_five : (a b c d e : Bool) → a ≡ true → b ≡ true → c ≡ true → d ≡ true → e ≡ true → (((a && b) && c) && d) && e ≡ true
all_five a b c d e first second third fourth fifth = rw (first, second, third, fourth, fifth) refl

pub parts_hit : (source target : Handle) (version : ℕ) (s : Handle) (w : CastWord) (again : ℕ) → HoldsCast source target version s w again → is_hit source target version s w again ≡ true
parts_hit source target version s w again p =
    all_five (nat_eq version again) (nat_eq (version % 2) 0) (not (nat_eq version 0)) (same_handle s source) (same_handle w.target target) (eq-eqb version again p.same) (eq-eqb (version % 2) 0 p.even)
    (above version p.written) (same_is s source p.source_is) (same_is w.target target p.target_is)
