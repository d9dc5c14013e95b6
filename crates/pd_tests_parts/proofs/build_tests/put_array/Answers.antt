use Rattle.std.proofs.Common.{◌≡◌, ◌+◌, ◌/◌, ap, arith}
use Rattle.pd_grammar.specs.Need.{need_array, need_tree}
use Rattle.pd_tests_parts.proofs.build_tests.put_array.Goals as goal

pub push_numbers-requires-clause-room : goal.push_numbers-requires-clause-room
unfolding need_array
push_numbers-requires-clause-room g c =
    let blocks : c.div_ceil-blocks.result ≡ (c.args.count + 508) / 509 = omega (arith, c.div_ceil-blocks.ensures) in
    let above : c.need_tree-above.result ≡ need_tree 8 c.div_ceil-blocks.result = c.need_tree-above.ensures in
    let same = ap (need_tree 8) blocks in
    let next = c.on_closed-draft.ensures.next in
    omega (arith, c.blocks-room.ensures, c.if-above-room.false, c.if-blocks-room.false)
