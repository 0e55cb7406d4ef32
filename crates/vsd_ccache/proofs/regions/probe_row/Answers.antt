use Rattle.std.proofs.Common.{ℕ, ◌+◌, ◌%◌, ap, ◌∙◌}
use Rattle.vsd_words.proofs.Powers.{mask_of_region}
use Rattle.vsd_ccache.proofs.regions.probe_row.Goals as goal

pub returns-clause-row : goal.returns-clause-row
returns-clause-row c =
    mask_of_region (c.args.home + c.args.i) c.region_size.result c.region_size.ensures.lawful ∙ ap (λ (size : ℕ). (c.args.home + c.args.i) % size) c.region_size.ensures.size
