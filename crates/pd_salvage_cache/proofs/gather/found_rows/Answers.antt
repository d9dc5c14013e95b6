use Rattle.std.proofs.Common.{◌*◌, ◌<◌, IfSome, subst, ◌∙◌, arith}
use Rattle.std.proofs.lemmas.Option.{IfSome_then}
use Rattle.pd_image.proofs.CrashLemmas.{only_reads_both}
use Rattle.pd_kinds.specs.CacheFormat.{CacheFields}
use Rattle.pd_tree.proofs.NextLemmas.{if_both}
use Rattle.pd_salvage_cache.specs.Arrays.{KnowsCache}
use Rattle.pd_salvage_cache.proofs.GatherLemmas.{all_before, all_more, ascend_before, before_more}
use Rattle.pd_salvage_cache.proofs.HeldLemmas.{ready_later}
use Rattle.pd_salvage_cache.proofs.LostLemmas.{lost_before, lost_more}
use Rattle.pd_salvage_cache.proofs.gather.found_rows.Goals as goal

pub loop-key-preserved : goal.loop-key-preserved
loop-key-preserved g c =
    let inv = c.loop-key.invariant in
    let h = c.in_ok-add_key.ensures in
    let s = c.args.s.now in
    let key = c.loop-key.key in
    let old = c.loop-key.arrays in
    let new = c.add_key.new.arrays in
    let rows = c.loop-key.rows.items in
    let more = c.add_key.new.rows.items in
    let held = (g.D.Device.state c.args.dev.now).held in
    let some : 509 * key < s.blocks = omega (arith, c.loop-key-test.true, c.keys_of-key-end.ensures.few) in
    let new_of = h.of s inv.of in
    let knows = subst (λ o. IfSome o (λ image. (fields : CacheFields) → KnowsCache image fields old → KnowsCache image fields new)) inv.kept.held h.knows in
    record {
      before = before_more s new key rows more some new_of h.rows inv.before h.fit;
      few = omega (arith, inv.few, c.lost-unknown.ensures.few, some);
      told = if_both held (λ image held_is told more_known.
          let known = more_known s told.1.1 in
          (all_more s new key rows more some new_of h.rows image told.0 known h.holds, (lost_more s new key c.loop-key.unknown c.lost-unknown.result image some known new_of h.holds c.lost-unknown.ensures.lost told.1.0, known))) inv.told knows;
      of = new_of;
      ready = ready_later key new h.holds;
      kept = only_reads_both inv.kept h.kept;
      faults = h.faults ∙ inv.faults;
    }

pub returns-clause-found : goal.returns-clause-found
returns-clause-found g c =
    IfSome_then (g.D.Device.state c.args.dev.now).held c.loop-key.invariant.told (λ image told.
    all_before c.args.s.now c.loop-key.key c.loop-key.rows.items image (omega (arith, c.loop-key-test.false, c.keys_of-key-end.ensures.enough)) told.0)

pub returns-clause-unknown : goal.returns-clause-unknown
returns-clause-unknown g c =
    IfSome_then (g.D.Device.state c.args.dev.now).held c.loop-key.invariant.told (λ image told.
    lost_before c.args.s.now c.loop-key.key c.loop-key.unknown image (omega (arith, c.loop-key-test.false, c.keys_of-key-end.ensures.enough)) told.1.0)

pub returns-clause-ascend : goal.returns-clause-ascend
returns-clause-ascend g c = ascend_before c.args.s.now c.loop-key.key c.loop-key.rows.items c.loop-key.invariant.before
