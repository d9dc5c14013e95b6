use Rattle.std.proofs.Common.{◌≡◌, IfSome, subst, ◌∙◌}
use Rattle.pd_image.proofs.CrashLemmas.{only_reads_both}
use Rattle.pd_laid.specs.CacheRoots.{known_words}
use Rattle.pd_tree.proofs.NextLemmas.{if_both}
use Rattle.pd_salvage_cache.specs.Fuller.{fuller_words}
use Rattle.pd_salvage_cache.proofs.FullerLemmas.{block_more, length_more, own_words}
use Rattle.pd_salvage_cache.proofs.candidates.fuller_blocks.Goals as goal

pub loop-root-preserved : goal.loop-root-preserved
loop-root-preserved g c =
    let inv = c.loop-root.invariant in
    let h = c.in_ok-words.ensures in
    let s = c.args.s.now in
    let root = c.loop-root.root in
    let own = c.in_ok-own.own in
    let words = c.in_ok-words.words in
    let old = c.loop-root.found.items in
    let new = c.push.new.self.items in
    let held = (g.D.Device.state c.args.dev.now).held in
    let here : IfSome held (λ image. words ≡ fuller_words s image root) =
    if_both held (λ image held_is seen leads. leads (own_words s image own seen)) c.in_ok-own.ensures.words
    (subst (λ o. IfSome o (λ image. own.number ≡ known_words s image → words ≡ fuller_words s image root)) inv.kept.held h.words) in
    record {
      told = if_both held (λ image held_is told is. block_more (fuller_words s image) root words old new c.in_ok-push.ensures.items told is) inv.told here;
      number = length_more root words old new c.in_ok-push.ensures.items inv.number;
      kept = only_reads_both inv.kept h.kept;
      faults = h.faults ∙ inv.faults;
    }
