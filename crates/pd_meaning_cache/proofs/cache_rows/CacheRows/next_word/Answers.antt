use Rattle.std.proofs.Common.{Some, None, IfSome, ◌∙◌, subst, arith}
use Rattle.std.proofs.lemmas.Option.{IfSome_then}
use Rattle.pd_image.proofs.CrashLemmas.{only_reads_both}
use Rattle.pd_tree.specs.Cursor.{cursor_number}
use Rattle.pd_tree.proofs.NextLemmas.{if_both}
use Rattle.pd_tree.proofs.NextLemmas.{if_four}
use Rattle.pd_meaning_cache.specs.SkippedWords.{GoesOn, KnowsIdle}
use Rattle.pd_meaning_cache.specs.Sides.{KnowsSides, SkipsSides}
use Rattle.pd_meaning_cache.proofs.SidesLemmas.{IsTaken, block_number, none_given, none_taken, rows_pass, word_given, word_number}
use Rattle.pd_meaning_cache.proofs.cache_rows.CacheRows.next_word.Goals as goal

pub returns-then-is_some-clause-gives : goal.returns-then-is_some-clause-gives
returns-then-is_some-clause-gives g c =
    let taken : IsTaken c.take-word.result c.loop-word.self.words c.take-word.new.self = record { takes = c.take-word.ensures.takes; idle = c.take-word.ensures.idle; entries = c.take-word.ensures.entries } in
    IfSome_then (g.D.Device.state c.args.dev.now).held c.loop-word.invariant.told (λ image told knows.
    word_given image c.take-word.result c.args.self.now c.loop-word.self c.take-word.new.self c.if-is_some.ensures (told knows) taken)

pub returns-then-is_some-clause-number : goal.returns-then-is_some-clause-number
returns-then-is_some-clause-number g c =
    let taken : IsTaken c.take-word.result c.loop-word.self.words c.take-word.new.self = record { takes = c.take-word.ensures.takes; idle = c.take-word.ensures.idle; entries = c.take-word.ensures.entries } in
    word_number c.take-word.result c.args.self.now c.loop-word.self c.take-word.new.self c.loop-word.invariant.number taken

pub loop-word-smaller : goal.loop-word-smaller
loop-word-smaller g c =
    let less = rw c.in-Some.is at c.in_ok-passed.ensures.number in
    block_number (cursor_number 8 c.loop-word.self.words.entries) (cursor_number 8 c.go_on.new.self.entries) c.loop-word.self.words.here c.go_on.new.self.here
    (rw c.take-word.ensures.entries at less)

pub loop-word-preserved : goal.loop-word-preserved
loop-word-preserved g c =
    let held = (g.D.Device.state c.args.dev.now).held in
    let so_far = c.loop-word.invariant in
    let taken : IsTaken c.take-word.result c.loop-word.self.words c.take-word.new.self = record { takes = c.take-word.ensures.takes; idle = c.take-word.ensures.idle; entries = c.take-word.ensures.entries } in
    let none = none_taken c.take-word.result c.loop-word.self.words c.take-word.new.self c.if-is_some.ensures taken in
    let mid = only_reads_both so_far.kept c.in_ok-passed.ensures.kept in
    let less = rw c.in-Some.is at c.in_ok-passed.ensures.number in
    let falls = block_number (cursor_number 8 c.loop-word.self.words.entries) (cursor_number 8 c.go_on.new.self.entries) c.loop-word.self.words.here c.go_on.new.self.here
    (rw c.take-word.ensures.entries at less) in
    let before = so_far.number in
    record {
      told = if_four held
          (λ image told passes skips again knows.
          rows_pass image c.in-Some.n c.args.self.now c.loop-word.self c.take-word.new.self c.go_on.new.self c.skip.new.self (told knows) none passes skips c.in_ok-skip-in-Some.ensures.block c.in_ok-skip-in-Some.ensures.fits)
          so_far.told
          (subst (λ o. IfSome o (λ image. KnowsIdle image c.take-word.new.self → GoesOn image (Some c.in-Some.n) c.take-word.new.self c.go_on.new.self)) so_far.kept.held
          (rw c.in-Some.is at c.in_ok-passed.ensures.goes_on))
          (subst (λ o. IfSome o (λ image. KnowsSides image c.loop-word.self.sides → SkipsSides image c.in-Some.n c.loop-word.self.sides c.skip.new.self)) mid.held c.in_ok-skip-in-Some.ensures.skips)
          so_far.told;
      number = omega arith;
      kept = only_reads_both mid c.in_ok-skip-in-Some.ensures.kept;
      faults = c.in_ok-skip-in-Some.ensures.faults ∙ (c.in_ok-passed.ensures.faults ∙ so_far.faults);
    }

pub returns-in-None-clause-gives : goal.returns-in-None-clause-gives
returns-in-None-clause-gives g c =
    let taken : IsTaken c.take-word.result c.loop-word.self.words c.take-word.new.self = record { takes = c.take-word.ensures.takes; idle = c.take-word.ensures.idle; entries = c.take-word.ensures.entries } in
    let none = none_taken c.take-word.result c.loop-word.self.words c.take-word.new.self c.if-is_some.ensures taken in
    if_both (g.D.Device.state c.args.dev.now).held
    (λ image held told ends knows. none_given image c.args.self.now c.loop-word.self c.take-word.new.self c.go_on.new.self (told knows) none ends)
    c.loop-word.invariant.told
    (subst (λ o. IfSome o (λ image. KnowsIdle image c.take-word.new.self → GoesOn image None c.take-word.new.self c.go_on.new.self)) c.loop-word.invariant.kept.held
    (rw c.in-None.is at c.in_ok-passed.ensures.goes_on))
