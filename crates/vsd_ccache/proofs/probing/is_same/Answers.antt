use Rattle.std.proofs.Common.{◌≡◌, Bool, true, false, nat_eq, refl, ◌∙◌, ap, eq-eqb, ne_eqb}
use Rattle.vsd_words.specs.declared.handle.Handle.{Handle}
use Rattle.vsd_words.specs.Handle.{HandleInRange, packed_handle}
use Rattle.vsd_words.proofs.Packings.{packed_handle-one_to_one}
use Rattle.vsd_trails.specs.Words.{same_handle}
use Rattle.vsd_trails.proofs.Loads.{same_handle-true, same_handle-false}
use Rattle.vsd_ccache.proofs.probing.is_same.Goals as goal

by_words : (g h : Handle) (b : Bool) → HandleInRange g → HandleInRange h → same_handle g h ≡ b → nat_eq (packed_handle g) (packed_handle h) ≡ b
by_words g h true of_g of_h same = eq-eqb (packed_handle g) (packed_handle h) (ap packed_handle (same_handle-true g h same))
by_words g h false of_g of_h other = ne_eqb (packed_handle g) (packed_handle h) (λ same. same_handle-false g h other (packed_handle-one_to_one g h of_g of_h same))

pub returns : goal.returns
returns c =
    (λ i. nat_eq (c.pack.ensures.packing i) (c.pack-2.ensures.packing i)) ∙ by_words c.args.g c.args.h (same_handle c.args.g c.args.h) c.requires.g c.requires.h refl
