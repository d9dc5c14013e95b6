use Rattle.std.proofs.Common.{◌≡◌, List, IfSome, length, get_or, subst, ◌∙◌}
use Rattle.pd_image.proofs.CrashLemmas.{only_reads_both}
use Rattle.pd_laid.specs.CacheRoots.{rooted_at}
use Rattle.pd_laid.specs.SavedCache.{saved_cache_from}
use Rattle.pd_tree.proofs.NextLemmas.{if_both}
use Rattle.pd_salvage_cache.specs.declared.order.Choice.{Choice}
use Rattle.pd_salvage_cache.specs.Fuller.{told_root}
use Rattle.pd_salvage_cache.proofs.OrderLemmas.{told_by, told_more}
use Rattle.pd_salvage_cache.proofs.fuller.with_entries.Goals as goal

abbrev no_choice : Choice
no_choice = record { root = 0; words = 0 }

pub loop-i-preserved : goal.loop-i-preserved
loop-i-preserved g c =
    let inv = c.loop-i.invariant in
    let h = c.in_ok-entries.ensures in
    let s = c.args.s.now in
    let i = c.loop-i.i in
    let choices : List Choice = c.args.choices.now in
    let one = get_or choices i no_choice in
    let entries = c.in_ok-entries.entries in
    let held = (g.D.Device.state c.args.dev.now).held in
    let here = subst (λ o. IfSome o (λ image. entries ≡ length (saved_cache_from (rooted_at s one.root) image).entries)) inv.kept.held h.entries in
    record {
      told = if_both held
          (λ image held_is told is.
          told_more (told_root s image) choices i no_choice c.loop-i.roots.items c.push.new.self.items (record { root = one.root; words = one.words; entries = entries }) c.loop-i-test.true told
          (told_by s image one entries is) c.in_ok-push.ensures.items)
          inv.told here;
      kept = only_reads_both inv.kept h.kept;
      faults = h.faults ∙ inv.faults;
    }
