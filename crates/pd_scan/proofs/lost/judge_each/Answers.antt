use Rattle.std.proofs.Common.{◌≡◌, ◌<◌, Some, IfSome, refl, ◌∙◌, subst, arith, length}
use Rattle.std.specs.List.{slice_get}
use Rattle.std.proofs.lemmas.List.{length-set}
use Rattle.std.proofs.lemmas.Option.{IfSome_then}
use Rattle.pd_kinds.proofs.ResultLemmas.{if_any, if_both}
use Rattle.pd_image.proofs.CrashLemmas.{only_reads_both}
use Rattle.pd_scan.proofs.JudgeLemmas.{judged_first, judged_more, judged_all}
use Rattle.pd_scan.proofs.lost.judge_each.Goals as goal

pub bounds-fit-0 : goal.bounds-fit-0
bounds-fit-0 g c =
    let some = (g.met.F.Format.lawful c.args.format.now).some_block in
    let places = c.requires.places in
    omega arith

pub loop-b-init : goal.loop-b-init
loop-b-init g c =
    let graph = g.F.Format.graph c.args.format.now in
    let some = (g.met.F.Format.lawful c.args.format.now).some_block in
    let places = c.requires.places in
    record {
      judged = if_any (g.D.Device.state c.args.dev.now).held (λ image. judged_first graph image c.args.first c.args.end c.args.fit.now (omega arith));
      places = length-set c.args.fit.now 0 0 ∙ places;
      reads = omega arith;
      kept = record { held = refl; access = refl; path = refl; blocks = refl; history = refl };
      faults = refl;
    }

pub loop-b-preserved : goal.loop-b-preserved
loop-b-preserved g c =
    let graph = g.F.Format.graph c.args.format.now in
    let block = c.read.new.into.0 in
    let low = c.loop-b.auto.b in
    let test = c.loop-b-test.true in
    let number = c.nr-b-end.ensures in
    let places = c.loop-b.invariant.places in
    let small : c.loop-b.b < graph.nr = omega arith in
    let place : c.loop-b.b < length c.loop-b.fit = omega arith in
    let reads = c.in_ok-read.ensures.reads in
    let before = c.loop-b.invariant.reads in
    record {
      judged = if_both (g.D.Device.state c.args.dev.now).held
          (λ image found judged. judged_more graph image c.args.first c.args.end c.loop-b.b c.roles_of.result block c.loop-b.fit low small place found judged c.roles_of.ensures)
          (subst (λ o. IfSome o (λ image. slice_get image c.loop-b.b ≡ Some block)) c.loop-b.invariant.kept.held c.in_ok-read.ensures.content)
          c.loop-b.invariant.judged;
      places = length-set c.loop-b.fit c.loop-b.b c.roles_of.result ∙ places;
      reads = omega arith;
      kept = only_reads_both c.loop-b.invariant.kept c.in_ok-read.ensures.kept;
      faults = c.in_ok-read.ensures.faults ∙ c.loop-b.invariant.faults;
    }

pub returns-clause-judged : goal.returns-clause-judged
returns-clause-judged g c =
    let graph = g.F.Format.graph c.args.format.now in
    let last = c.loop-b-test.false in
    let number = c.nr-b-end.ensures in
    IfSome_then (g.D.Device.state c.args.dev.now).held c.loop-b.invariant.judged
    (λ image judged. judged_all graph image c.args.first c.args.end c.loop-b.b c.loop-b.fit (omega arith) judged)
