-- The words and the seats at opening.
use Rattle.std.proofs.Common.{◌≡◌, ◌⊎◌, ℕ, zero, suc, ◌+◌, ◌-◌, ◌*◌, List, [], ◌∷◌, ◌++◌, length, map, replicate, Result, Ok, Err, IfOk, ap, sym, refl, ◌∙◌, inl, inr, ⊎_elim, arith}
use mathlib.Core.Option.{some, some-injective, some-ne-none}
use lib.ListN.{get_elem?}
use Rattle.vsd_rule.specs.declared.key.Key.{Key}
use Rattle.vsd_rule.specs.declared.sizes.Sizes.{Sizes}
use Rattle.vsd_rule.specs.declared.world.World.{World}
use Rattle.vsd_rule.specs.Layout.{handles_from, word_count, cast_rows}
use Rattle.vsd_rule.specs.Lists.{key_with}
use Rattle.vsd_rule.specs.Opening.{opening_words, host_packing}
use Rattle.vsd_table.specs.Offsets.{AreOffsets}
use Rattle.vsd_table.specs.declared.offsets.Offsets.{Offsets}

-- what is written is what the rule calls the words at opening
pub words_written : (k : Key) (p : Offsets) (hosts : List ℕ) → AreOffsets p k.sizes → hosts ≡ k.world.host_types → length k.world.host_types ≡ k.sizes.hosts
    → replicate p.handles 0 ++ (map host_packing hosts ++ replicate (p.end - (p.handles + length hosts)) 0) ≡ opening_words k
unfolding opening_words
words_written k p hosts offsets same long =
    let handles : p.handles ≡ handles_from k.sizes = offsets.4 in
    let end : p.end ≡ word_count k.sizes = offsets.7 in
    let count : length hosts ≡ k.sizes.hosts = ap length same ∙ long in
    let rest : p.end - (p.handles + length hosts) ≡ 64 * k.sizes.callers + 1 + 3 * cast_rows k.sizes = omega arith in
    λ c. replicate (handles c) 0 ++ (map host_packing (same c) ++ replicate (rest c) 0)

-- an element of a list with one more at its end
pub at_end : {A : Type 0} (l : List A) (a b : A) (j : ℕ) → get_elem? (l ++ a ∷ []) j ≡ some b → (get_elem? l j ≡ some b) ⊎ ((j ≡ length l) × (a ≡ b))
at_end [] a b zero e = inr (refl, some-injective a b e)
at_end [] a b (suc j) e = absurd (some-ne-none b (sym e))
at_end (x ∷ xs) a b zero e = inl e
at_end (x ∷ xs) a b (suc j) e = ⊎_elim (λ (t : get_elem? xs j ≡ some b). inl t) (λ (t : (j ≡ length xs) × (a ≡ b)). let at = t.0 in inr (omega arith, t.1)) (at_end xs a b j e)

pub ok_then : {A E : Type 0} (r : Result A E) (P Q : A → Type 0) → ((x : A) → P x → Q x) → IfOk r P → IfOk r Q
ok_then (Ok x) P Q h p = h x p
ok_then (Err e) P Q h p = p

-- the key with a world of these lists
pub key_is : (sizes : Sizes) (world : World) (types : ℕ) (site_tokens host_types sel cmp : List ℕ) → world.types ≡ types → world.site_tokens ≡ site_tokens → world.host_types ≡ host_types → world.sel ≡ sel → world.cmp ≡ cmp
    → let k : Key = record { sizes = sizes; world = world } in k ≡ key_with sizes types site_tokens host_types sel cmp
key_is sizes world types site_tokens host_types sel cmp a b d e f = λ c. record { sizes = sizes; world = record { types = a c; site_tokens = b c; host_types = d c; sel = e c; cmp = f c } }
