use Rattle.xet_group.specs.theorems.Counting.{zeros_fit}
use Rattle.xet_base_tests.proofs.group_tests.counts_alike.Goals as goal

pub add_data_reference-requires : goal.add_data_reference-requires
add_data_reference-requires g c = zeros_fit _ _ _ c.default-reference.ensures c.requires

pub add_data_v1-requires : goal.add_data_v1-requires
add_data_v1-requires g c = zeros_fit _ _ _ c.default-first.ensures c.requires

pub add_data_swar-requires : goal.add_data_swar-requires
add_data_swar-requires g c = zeros_fit _ _ _ c.default-by_lanes.ensures c.requires
