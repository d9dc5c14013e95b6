use Rattle.std.proofs.Common.{◌≡◌, ◌∙◌, ◌++◌, ◌-◌, ℕ, List, [], length, Some, None, IfSome, refl, sym, ap, subst, arith}
use Rattle.pd_kinds.specs.Graph.{block_at}
use Rattle.pd_kinds.proofs.ResultLemmas.{if_any, if_maps, if_three}
use Rattle.pd_image.proofs.CrashLemmas.{only_reads_both}
use Rattle.pd_value.specs.declared.thin.Root.{Root}
use Rattle.pd_tree.specs.Stack.{IsNext}
use Rattle.pd_tree.specs.Cursor.{cursor_items, root_of, words_from, words_of_items}
use Rattle.pd_tree.proofs.NextLemmas.{words_none}
use Rattle.pd_meaning_era.specs.EraWords.{era_words}
use Rattle.pd_meaning_era.proofs.WordLemmas.{no_items, words_next}
use Rattle.pd_meaning_era.proofs.RaiseLemmas.{length-words}
use Rattle.pd_meaning_era.proofs.era_words.EraWords.ready.Goals as goal

pub loop-here-init : goal.loop-here-init
loop-here-init g c = record {
  same = if_any (g.D.Device.state c.args.dev.now).held (λ image. refl);
  kept = record { held = refl; access = refl; path = refl; blocks = refl; history = refl };
  faults = refl;
}

pub loop-here-smaller : goal.loop-here-smaller
loop-here-smaller g c = let number = rw c.in-Some.is at c.in_ok-entry.ensures.number in rw c.in_ok-read-in-Some.ensures.entries number

pub loop-here-preserved : goal.loop-here-preserved
loop-here-preserved g c =
    let held = (g.D.Device.state c.args.dev.now).held in
    let old = c.loop-here.self in
    let mid = only_reads_both c.loop-here.invariant.kept c.in_ok-entry.ensures.kept in
    let none : words_from 4 old.block.0 old.next ≡ [] = words_none 4 old.block.0 old.next (omega arith) in
    record {
      same =
          if_three held
          (λ image. era_words image c.args.self.now ≡ era_words image old)
          (λ image. IsNext {X = ℕ × Root} (Some (c.in-Some.field-0-0, c.in-Some.root)) (cursor_items 8 root_of image old.entries) (cursor_items 8 root_of image c.next.new.self))
          (λ image. words_from 4 c.read.new.self.block.0 c.read.new.self.next ≡ words_from 4 (block_at image c.in-Some.root.0) 0)
          _
          (λ image same next taken.
          let rest = cursor_items 8 root_of image c.next.new.self in
          same ∙ (ap (λ (ws : List ℕ). ws ++ words_of_items 4 image (cursor_items 8 root_of image old.entries)) none
          ∙ (ap (words_of_items 4 image) next ∙ (words_next image c.in-Some.field-0-0 c.in-Some.root rest
          ∙ (ap (λ (ws : List ℕ). ws ++ words_of_items 4 image rest) (sym taken) ∙ rw c.in_ok-read-in-Some.ensures.entries refl)))))
          c.loop-here.invariant.same
          (subst (λ o. IfSome o (λ image. IsNext {X = ℕ × Root} (Some (c.in-Some.field-0-0, c.in-Some.root)) (cursor_items 8 root_of image old.entries) (cursor_items 8 root_of image c.next.new.self))) c.loop-here.invariant.kept.held
          (rw c.in-Some.is at c.in_ok-entry.ensures.next))
          (subst (λ o. IfSome o (λ image. words_from 4 c.read.new.self.block.0 c.read.new.self.next ≡ words_from 4 (block_at image c.in-Some.root.0) 0)) mid.held c.in_ok-read-in-Some.ensures.words);
      kept = only_reads_both mid c.in_ok-read-in-Some.ensures.kept;
      faults = c.in_ok-read-in-Some.ensures.faults ∙ (c.in_ok-entry.ensures.faults ∙ c.loop-here.invariant.faults);
    }

pub returns-then-here-gt0-clause-here : goal.returns-then-here-gt0-clause-here
returns-then-here-gt0-clause-here g c =
    let now = c.loop-here.self in
    c.saturating_sub-here.ensures ∙ (ap (λ (n : ℕ). n - now.next) c.array_len.ensures ∙ sym (length-words 4 now.block.0 now.next))

pub returns-in-None-clause-here : goal.returns-in-None-clause-here
returns-in-None-clause-here g c =
    let now = c.loop-here.self in
    let here : c.saturating_sub-here.result ≡ length (words_from 4 now.block.0 now.next) =
    c.saturating_sub-here.ensures ∙ (ap (λ (n : ℕ). n - now.next) c.array_len.ensures ∙ sym (length-words 4 now.block.0 now.next)) in
    omega (arith, here, c.if-here-gt0.false)

pub returns-in-None-clause-end : goal.returns-in-None-clause-end
returns-in-None-clause-end g c =
    let old = c.loop-here.self in
    let none : words_from 4 old.block.0 old.next ≡ [] = words_none 4 old.block.0 old.next (omega arith) in
    if_maps (g.D.Device.state c.args.dev.now).held _ _ (λ image left zeroed. rw (none, left.1) (no_items image))
    (subst (λ o. IfSome o (λ image. IsNext {X = ℕ × Root} None (cursor_items 8 root_of image old.entries) (cursor_items 8 root_of image c.next.new.self))) c.loop-here.invariant.kept.held
    (rw c.in-None.is at c.in_ok-entry.ensures.next))
