-- What unpacking gives, once packing is known to be one to one.
use Rattle.std.proofs.Common.{◌≡◌, ℕ, ap, refl, Some, None}
use Rattle.vsd_words.specs.Packing.{Unpacks}

pub unpacks_some : {T : Type 0} (Packs : T → ℕ → Type 0) (word : ℕ) (value : T) →
    ((a b : T) → Packs a word → Packs b word → a ≡ b) → Packs value word → Unpacks Packs word (Some value)
unpacks_some Packs word value one_to_one packs = record {
  packing = packs;
  back = λ other p. ap Some (one_to_one value other packs p);
  none = (λ never. absurd (cc), λ nowhere. absurd (nowhere value packs));
}

pub unpacks_none : {T : Type 0} (Packs : T → ℕ → Type 0) (word : ℕ) →
    ((value : T) → ¬ Packs value word) → Unpacks Packs word None
unpacks_none Packs word nowhere = record {
  packing = tt;
  back = λ value p. absurd (nowhere value p);
  none = (λ _. nowhere, λ _. refl);
}
