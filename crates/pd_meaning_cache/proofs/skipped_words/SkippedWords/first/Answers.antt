use Rattle.std.proofs.Common.{ℕ, ◌-◌, Some, None, IfSome, ◌∙◌, subst, arith}
use Rattle.std.proofs.lemmas.Option.{IfSome_then}
use Rattle.pd_image.proofs.CrashLemmas.{only_reads_both}
use Rattle.pd_value.specs.declared.thin.Root.{Root}
use Rattle.pd_tree.specs.Cursor.{cursor_items}
use Rattle.pd_tree.specs.Cursor.{root_of}
use Rattle.pd_tree.specs.Stack.{IsNext}
use Rattle.pd_tree.proofs.NextLemmas.{if_both}
use Rattle.pd_tree.proofs.NextLemmas.{if_four}
use Rattle.pd_meaning_cache.specs.SkippedWords.{Enters, KnowsLengths}
use Rattle.pd_meaning_cache.proofs.SkipLemmas.{skips_all, skips_block, skips_into}
use Rattle.pd_meaning_cache.proofs.skipped_words.SkippedWords.first.Goals as goal

pub returns-then-self-left-clause-first : goal.returns-then-self-left-clause-first
returns-then-self-left-clause-first g c =
    IfSome_then (g.D.Device.state c.args.dev.now).held c.loop-self.invariant.told (λ image told knows.
    skips_into image c.args.self.now c.loop-self.self c.left-left.result (told knows) c.left-left.ensures.number c.first.result c.skip.new.self (omega (arith, c.if-self-left.true)) c.skip.ensures c.first.ensures.first)

pub loop-self-preserved : goal.loop-self-preserved
loop-self-preserved g c =
    let held = (g.D.Device.state c.args.dev.now).held in
    let so_far = c.loop-self.invariant in
    let old = c.loop-self.self in
    let left = c.left-left.result in
    let mid = only_reads_both so_far.kept c.in_ok-entry.ensures.kept in
    record {
      told = if_four held
          (λ image told next enters again knows.
          skips_block image c.args.self.now old left (told knows) c.left-left.ensures.number c.in-Some.field-0-0 c.in-Some.root c.next.new.self c.enter.new.self (omega (arith, c.if-self-left.false)) next enters c.enter.ensures.entries c.enter.ensures.size)
          so_far.told
          (subst (λ o. IfSome o (λ image. IsNext {X = ℕ × Root} (Some (c.in-Some.field-0-0, c.in-Some.root)) (cursor_items 8 root_of image old.entries) (cursor_items 8 root_of image c.next.new.self))) so_far.kept.held
          (rw c.in-Some.is at c.in_ok-entry.ensures.next))
          (subst (λ o. IfSome o (λ image. KnowsLengths image old → Enters image c.in-Some.root.0 (record old { entries = c.next.new.self; behind = old.behind - left }) c.enter.new.self)) mid.held c.in_ok-enter-in-Some.ensures.enters)
          so_far.told;
      size = c.enter.ensures.size ∙ so_far.size;
      kept = only_reads_both mid c.in_ok-enter-in-Some.ensures.kept;
      faults = c.in_ok-enter-in-Some.ensures.faults ∙ (c.in_ok-entry.ensures.faults ∙ so_far.faults);
    }

pub returns-in-None-clause-first : goal.returns-in-None-clause-first
returns-in-None-clause-first g c =
    if_both (g.D.Device.state c.args.dev.now).held
    (λ image held told next knows. skips_all image c.args.self.now c.loop-self.self c.left-left.result (told knows) c.left-left.ensures.number c.next.new.self c.clear.new.self (omega (arith, c.if-self-left.false)) next c.clear.ensures)
    c.loop-self.invariant.told
    (subst (λ o. IfSome o (λ image. IsNext {X = ℕ × Root} None (cursor_items 8 root_of image c.loop-self.self.entries) (cursor_items 8 root_of image c.next.new.self))) c.loop-self.invariant.kept.held
    (rw c.in-None.is at c.in_ok-entry.ensures.next))
