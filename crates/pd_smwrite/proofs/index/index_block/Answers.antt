use Rattle.std.proofs.Common.{◌+◌, List, length, map, ◌∙◌, ap, arith}
use Rattle.pd_bitmap.proofs.Placed.{code_of}
use Rattle.pd_kinds.specs.Bitmap.{bitmaps_for, index_salt, placed_block, unsealed_index}
use Rattle.pd_laid.specs.Laid.{index_entry_of}
use Rattle.pd_count.specs.Counted.{count_of}
use Rattle.pd_smwrite.specs.Map.{index_block}
use Rattle.pd_smwrite.proofs.MapLemmas.{number_of_codes}
use Rattle.pd_smwrite.proofs.index.index_block.Goals as goal

pub new_index-block-requires : goal.new_index-block-requires
new_index-block-requires c =
    let counts = c.args.counts.now in
    let few = c.requires.few in
    let is = ap length c.deref.ensures.value in
    let number = number_of_codes code_of (index_entry_of (count_of counts) counts.size (c.args.place + 1)) (bitmaps_for counts.size) c.in_ok-entries.entries.items c.in_ok-entries.ensures in
    omega arith

pub returns : goal.returns
unfolding index_block
returns c =
    c.seal_index.ensures.sealed
    ∙ ap (placed_block index_salt c.args.place)
    (c.new_index-block.ensures.block ∙ ap unsealed_index (ap (λ (entries : List _). map code_of entries) c.deref.ensures.value ∙ c.in_ok-entries.ensures))
