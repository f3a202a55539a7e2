use Rattle.xet_group.specs.theorems.Counting.{zeros_fit}
use Rattle.xet_base_tests.proofs.group_tests.histograms.Goals as goal

pub add_data-requires : goal.add_data-requires
add_data-requires c = zeros_fit _ _ _ c.default-predictor.ensures c.requires
