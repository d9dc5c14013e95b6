use Rattle.std.proofs.Common.{◌≡◌, ◌+◌, ◌<◌, ◌^◌, length, ◌∙◌, ap, arith}
use Rattle.pd_kinds.specs.Bitmap.{bitmaps_for}
use Rattle.pd_grammar.specs.Need.{need_tree, nodes_of_tree}
use Rattle.pd_laid.specs.Laid.{overflow_items}
use Rattle.pd_count.specs.Counted.{count_of}
use Rattle.pd_smwrite.specs.Map.{meta_map_need}
use Rattle.pd_smwrite.proofs.meta.meta_map_number.Goals as goal

pub overflow_add-result : goal.overflow_add-result
unfolding meta_map_need
overflow_add-result c =
    let counts = c.args.counts.now in
    let room : 1 + (bitmaps_for counts.size + need_tree 4 (length (overflow_items (count_of counts) counts.size))) < 2 ^ 64 = c.requires in
    let number = c.bitmap_number.ensures in
    omega arith

pub overflow_add-result-2 : goal.overflow_add-result-2
unfolding meta_map_need
overflow_add-result-2 c =
    let counts = c.args.counts.now in
    let room : 1 + (bitmaps_for counts.size + need_tree 4 (length (overflow_items (count_of counts) counts.size))) < 2 ^ 64 = c.requires in
    let number = c.bitmap_number.ensures in
    let tree : c.need_tree.result ≡ need_tree 4 (length (overflow_items (count_of counts) counts.size)) = c.need_tree.ensures ∙ ap (nodes_of_tree 336) c.overflow_number.ensures in
    omega arith

pub returns : goal.returns
unfolding meta_map_need
returns c =
    let counts = c.args.counts.now in
    let number = c.bitmap_number.ensures in
    let tree : c.need_tree.result ≡ need_tree 4 (length (overflow_items (count_of counts) counts.size)) = c.need_tree.ensures ∙ ap (nodes_of_tree 336) c.overflow_number.ensures in
    omega arith
