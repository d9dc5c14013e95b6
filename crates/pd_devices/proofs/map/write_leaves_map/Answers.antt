use Rattle.std.proofs.Common.{◌∙◌}
use Rattle.pd_kinds.proofs.ResultLemmas.{if_ok_with}
use Rattle.pd_count.specs.Counted.{count_of}
use Rattle.pd_smwrite.specs.Map.{meta_map_need}
use Rattle.pd_devices.proofs.MapLemmas.{counted_listed, none_own, root_stored}
use Rattle.pd_devices.proofs.map.write_leaves_map.Goals as goal

pub write_meta_map-requires-clause-none : goal.write_meta_map-requires-clause-none
write_meta_map-requires-clause-none g c =
    none_own c.in_ok-counts.counts (count_of c.args.uses.now) c.args.leaves c.next.result c.args.draft.now.next c.args.room c.next.ensures c.in_ok-counts.ensures.size c.in_ok-counts.ensures.named
    c.requires.leaves (meta_map_need (count_of c.in_ok-counts.counts) c.in_ok-counts.counts.size)

pub returns-clause-root : goal.returns-clause-root
returns-clause-root g c =
    let counts = c.in_ok-counts.counts in
    let uses = count_of c.args.uses.now in
    let place = c.args.draft.now.next in
    let none = none_own counts uses c.args.leaves c.next.result place c.args.room c.next.ensures c.in_ok-counts.ensures.size c.in_ok-counts.ensures.named
    c.requires.leaves (meta_map_need (count_of counts) counts.size) in
    if_ok_with c.write_meta_map.result c.write_meta_map.ensures.counted c.write_meta_map.ensures.root
    (λ root own is role named told. is
    ∙ root_stored role c.args.room place named counts c.write_meta_map.new.counts c.in_ok-counts.ensures.size own none
    (counted_listed counts uses c.args.leaves c.next.result place c.args.room c.next.ensures c.in_ok-counts.ensures.size c.in_ok-counts.ensures.named named told))
