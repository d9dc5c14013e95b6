use Rattle.std.proofs.Common.{◌≡◌, ◌∙◌, ◌++◌, ℕ, List, [], length, IfSome, refl, ap, subst, arith}
use Rattle.pd_kinds.proofs.ResultLemmas.{if_any, if_both, if_maps}
use Rattle.pd_image.proofs.CrashLemmas.{only_reads_both}
use Rattle.pd_meaning_era.specs.EraWords.{era_words}
use Rattle.pd_meaning_era.proofs.era_words.take_words.Goals as goal

pub loop-words-init : goal.loop-words-init
loop-words-init g c = record {
  cut = if_any (g.D.Device.state c.args.dev.now).held (λ image. rw c.requires.none refl);
  most = omega (arith, ap (length {A = ℕ}) c.requires.none);
  kept = record { held = refl; access = refl; path = refl; blocks = refl; history = refl };
  faults = refl;
}

pub loop-words-preserved : goal.loop-words-preserved
loop-words-preserved g c =
    let held = (g.D.Device.state c.args.dev.now).held in
    let part = c.loop-words.part.items in
    record {
      cut =
          if_both held (λ image cut same. cut ∙ (ap (λ (ws : List ℕ). part ++ ws) same ∙ c.in_ok-take.ensures.moved image)) c.loop-words.invariant.cut
          (subst (λ o. IfSome o (λ image. era_words image c.loop-words.words ≡ era_words image c.ready.new.self)) c.loop-words.invariant.kept.held c.in_ok-here.ensures.same);
      most = omega (arith, c.in_ok-take.ensures.number, c.min-number.ensures, c.loop-words-test.true);
      kept = only_reads_both c.loop-words.invariant.kept c.in_ok-here.ensures.kept;
      faults = c.in_ok-here.ensures.faults ∙ c.loop-words.invariant.faults;
    }

pub returns-then-here-eq0-clause-cut : goal.returns-then-here-eq0-clause-cut
returns-then-here-eq0-clause-cut g c =
    let part = c.loop-words.part.items in
    if_both (g.D.Device.state c.args.dev.now).held (λ image cut same. cut ∙ ap (λ (ws : List ℕ). part ++ ws) same) c.loop-words.invariant.cut
    (subst (λ o. IfSome o (λ image. era_words image c.loop-words.words ≡ era_words image c.ready.new.self)) c.loop-words.invariant.kept.held c.in_ok-here.ensures.same)

pub returns-then-here-eq0-clause-all : goal.returns-then-here-eq0-clause-all
returns-then-here-eq0-clause-all g c =
    if_maps (g.D.Device.state c.args.dev.now).held _ _ (λ image end less. end c.if-here-eq0.true)
    (subst (λ o. IfSome o (λ image. c.in_ok-here.here ≡ 0 → era_words image c.ready.new.self ≡ [])) c.loop-words.invariant.kept.held c.in_ok-here.ensures.end)

pub returns-clause-all : goal.returns-clause-all
returns-clause-all g c = if_any (g.D.Device.state c.args.dev.now).held (λ image less. absurd (omega (arith, less, c.loop-words-test.false)))
