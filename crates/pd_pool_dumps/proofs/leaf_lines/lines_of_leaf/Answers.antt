use Rattle.std.proofs.Common.{◌≡◌, ◌∙◌, ◌+◌, ℕ, List, [], ◌∷◌, ◌++◌, map, sym, ap, ap₂, subst, arith}
use Rattle.std.specs.List.{range_with_len}
use Rattle.std.proofs.lemmas.List.{map-append}
use Rattle.std.proofs.lemmas.List.FromFn.{map-range_with_len_more}
use Rattle.pd_kinds.specs.Meaning.{Mapping}
use Rattle.pd_kinds.specs.Node.{entry_count, key_at, value_at}
use Rattle.pd_value.specs.declared.thin.BlockTime.{BlockTime}
use Rattle.pd_meaning_thin.specs.Runs.{block_time_of}
use Rattle.pd_meaning_thin.specs.Runs.{begun_mappings, mapping_of}
use Rattle.pd_pool_dumps.specs.LeafText.{AreTaken}
use Rattle.pd_pool_dumps.proofs.LeafTextLemmas.{leaf_all}
use Rattle.pd_pool_dumps.proofs.leaf_lines.lines_of_leaf.Goals as goal

pub loop-i-preserved : goal.loop-i-preserved
loop-i-preserved c =
    let block = c.args.block.now.0 in
    let item : ℕ → ℕ × BlockTime = λ i. (key_at block i, block_time_of (value_at 8 block i)) in
    let before : List Mapping = map mapping_of (map item (range_with_len 0 c.loop-i.i)) in
    let one : Mapping = mapping_of (c.key-virt.result, c.value-mapping.result) in
    let lines = c.take.new.self in
    let is : mapping_of (item c.loop-i.i) ≡ one = ap₂ (λ (virt : ℕ) (mapping : BlockTime). mapping_of (virt, mapping)) (sym c.key-virt.ensures) (sym c.value-mapping.ensures.value) in
    let more : map mapping_of (map item (range_with_len 0 (c.loop-i.i + 1))) ≡ before ++ begun_mappings c.of.result.begun =
    ap (map mapping_of) (map-range_with_len_more item 0 c.loop-i.i c.loop-i.i (omega arith))
    ∙ (map-append mapping_of (map item (range_with_len 0 c.loop-i.i)) (item c.loop-i.i ∷ [])
    ∙ ap (λ (ms : List Mapping). before ++ ms) (ap (λ (m : Mapping). m ∷ []) is ∙ sym c.of.ensures)) in
    subst (λ (ms : List Mapping). AreTaken ms lines.first lines.joined lines.text lines.counts) (sym more) (c.take.ensures c.if-not-take.false before c.loop-i.invariant)

pub returns : goal.returns
returns c =
    let block = c.args.block.now.0 in
    let lines = c.loop-i.lines in
    let end : c.loop-i.i ≡ entry_count 8 block = omega arith in
    subst (λ (ms : List Mapping). AreTaken ms lines.first lines.joined lines.text lines.counts) (sym (leaf_all block c.loop-i.i c.requires end)) c.loop-i.invariant
