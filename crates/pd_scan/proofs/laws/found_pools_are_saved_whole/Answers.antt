use Rattle.pd_kinds.specs.declared.limits.TheConstants.{MAX_META_BLOCKS}
use Rattle.std.proofs.Common.{min, length}
use Rattle.pd_kinds.specs.Layout.{graph_of}
use Rattle.pd_laid.specs.FoundRoots.{lost_graph}
use Rattle.pd_measures.proofs.SoundLemmas.{lost_lawful, root_inside}
use Rattle.pd_scan.proofs.SavedLemmas.{found_is_saved, none_lacks, top_is_sound}
use Rattle.pd_scan.proofs.laws.found_pools_are_saved_whole.Goals as goal

pub returns-clause-saved : goal.returns-clause-saved
unfolding lost_graph graph_of
returns-clause-saved c image data_blocks transaction block_size roots bytes fit =
    let graph = lost_graph image data_blocks in
    let below = root_inside graph image 2 roots.top (top_is_sound graph image roots.top roots.details fit) in
    found_is_saved (min (length image) MAX_META_BLOCKS) data_blocks transaction block_size image roots
    (lost_lawful c.thin_format_is_lawful.ensures.table image data_blocks roots.top below) bytes fit

pub returns-clause-details : goal.returns-clause-details
unfolding lost_graph graph_of
returns-clause-details c image data_blocks transaction block_size roots bytes fit =
    let graph = lost_graph image data_blocks in
    let below = root_inside graph image 2 roots.top (top_is_sound graph image roots.top roots.details fit) in
    none_lacks (min (length image) MAX_META_BLOCKS) data_blocks transaction block_size image roots
    (lost_lawful c.thin_format_is_lawful.ensures.table image data_blocks roots.top below) bytes fit
