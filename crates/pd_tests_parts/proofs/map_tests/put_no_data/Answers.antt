use Rattle.std.proofs.Common.{arith}
use Rattle.pd_count.specs.Counted.{count_of}
use Rattle.pd_tests_parts.proofs.MapNeeds.{no_data_need}
use Rattle.pd_tests_parts.proofs.map_tests.put_no_data.Goals as goal

pub put_data_map-requires-clause-room : goal.put_data_map-requires-clause-room
put_data_map-requires-clause-room c =
    let need = no_data_need (count_of c.in_ok-no_data.no_data) c.in_ok-no_data.no_data.size c.in_ok-no_data.ensures.size in
    let kept = c.close.ensures.kept.blocks in
    omega (arith, need, kept)
