use Rattle.std.proofs.Common.{List, IfSome, subst, ◌∙◌, arith}
use Rattle.pd_image.proofs.CrashLemmas.{only_reads_both}
use Rattle.pd_kinds.specs.Node.{Entry}
use Rattle.pd_laid.specs.Salvage.{salvaged_entries}
use Rattle.pd_tree.proofs.NextLemmas.{if_both}
use Rattle.pd_salvage_cache.specs.Arrays.{Knows}
use Rattle.pd_salvage_cache.proofs.FullerLemmas.{words_more}
use Rattle.pd_salvage_cache.proofs.candidates.saved_words.Goals as goal

pub loop-block-preserved : goal.loop-block-preserved
loop-block-preserved g c =
    let inv = c.loop-block.invariant in
    let h = c.in_ok-hold.ensures in
    let s = c.args.s.now in
    let block = c.loop-block.block in
    let old = c.loop-block.array in
    let new = c.hold.new.self in
    let word = h.same.0 ∙ inv.word in
    let nr = h.same.1 ∙ inv.nr in
    let knows = subst (λ o. IfSome o (λ image. (entries : List Entry) → Knows image entries old → Knows image entries new)) inv.kept.held h.knows in
    let more = c.with-words.ensures.few in
    record {
      told = if_both (g.D.Device.state c.args.dev.now).held
          (λ image held told more_known.
          let known = more_known (salvaged_entries 8 s.meta_map.blocks image c.args.root) told.1 in
          (words_more s image c.args.root block new c.loop-block.words c.with-words.result known word nr h.next told.0 (rw c.word.ensures.word at c.with-words.ensures.words), known))
          inv.told knows;
      few = omega arith;
      ready = omega (arith, h.next);
      word = word;
      nr = nr;
      kept = only_reads_both inv.kept h.kept;
      faults = h.faults ∙ inv.faults;
    }
