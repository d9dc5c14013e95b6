use Rattle.std.proofs.Common.{◌≡◌, ◌-◌, [], ◌∷◌, Some, IfSome, refl, ◌∙◌, subst, arith}
use Rattle.std.specs.List.{slice_get}
use Rattle.pd_kinds.proofs.ResultLemmas.{if_any, if_both}
use Rattle.pd_image.proofs.CrashLemmas.{only_reads_both}
use Rattle.pd_graph.specs.Notes.{note_in}
use Rattle.pd_settle.specs.Looking.{IsKept}
use Rattle.pd_settle.specs.Looking.{blocks_of_edges}
use Rattle.pd_settle.proofs.DescentLemmas.{descends_start, top_block, descends_end, one_step}
use Rattle.pd_settle.proofs.LookLemmas.{steps_opened, steps_one, steps_most}
use Rattle.pd_settle.proofs.descending.descend.Goals as goal

pub loop-top-init : goal.loop-top-init
loop-top-init g c =
    let graph = g.F.Format.graph c.args.format.now in
    let roles = g.met.F.Format.roles c.args.format.now in
    let few = (g.met.F.Format.lawful c.args.format.now).few_roles in
    let role = c.requires.role in
    let more = steps_opened graph.nr c.args.start 0 (note_in c.args.notes.now) (note_in c.open.new.notes) c.requires.start (record { notes = c.open.ensures.notes }) c.requires.unknown in
    record {
      descends = (
        c.args.start ∷ [],
        descends_start graph (g.D.Device.state c.args.dev.now).held c.args.role c.args.start c.args.strict c.args.notes.now c.open.new.notes (omega arith) c.requires.start
            c.requires.unknown c.requires.closed c.open.ensures,
      );
      reads = omega arith;
      holds = if_any (g.D.Device.state c.args.dev.now).held (λ image. record { holds = λ some. absurd (omega arith) });
      kept = record { held = refl; access = refl; path = refl; blocks = refl; history = refl };
      faults = refl;
    }

pub fetch-requires-clause-within : goal.fetch-requires-clause-within
fetch-requires-clause-within g c =
    let graph = g.F.Format.graph c.args.format.now in
    let descends = c.loop-top.invariant.descends in
    let top = top_block graph (g.D.Device.state c.args.dev.now).held c.args.role c.args.start c.args.strict c.args.notes.now c.loop-top.notes c.loop-top.top descends.0 c.loop-top-test.true descends.1 in
    let small = top.1 in
    let blocks = c.loop-top.invariant.kept.blocks in
    let within = c.requires.within in
    omega arith

pub fetch-requires-clause-few : goal.fetch-requires-clause-few
fetch-requires-clause-few g c =
    let graph = g.F.Format.graph c.args.format.now in
    let descends = c.loop-top.invariant.descends in
    let top = top_block graph (g.D.Device.state c.args.dev.now).held c.args.role c.args.start c.args.strict c.args.notes.now c.loop-top.notes c.loop-top.top descends.0 c.loop-top-test.true descends.1 in
    let small = top.1 in
    let most = (g.met.F.Format.lawful c.args.format.now).few_blocks in
    omega arith

pub keep-requires-clause-few : goal.keep-requires-clause-few
keep-requires-clause-few g c =
    let graph = g.F.Format.graph c.args.format.now in
    let descends = c.loop-top.invariant.descends in
    let top = top_block graph (g.D.Device.state c.args.dev.now).held c.args.role c.args.start c.args.strict c.args.notes.now c.loop-top.notes c.loop-top.top descends.0 c.loop-top-test.true descends.1 in
    let small = top.1 in
    let most = (g.met.F.Format.lawful c.args.format.now).few_blocks in
    omega arith

pub step-top-requires-clause-within : goal.step-top-requires-clause-within
step-top-requires-clause-within g c =
    let graph = g.F.Format.graph c.args.format.now in
    let descends = c.loop-top.invariant.descends in
    (top_block graph (g.D.Device.state c.args.dev.now).held c.args.role c.args.start c.args.strict c.args.notes.now c.loop-top.notes c.loop-top.top descends.0 c.loop-top-test.true descends.1).1

pub loop-top-smaller : goal.loop-top-smaller
loop-top-smaller g c =
    let graph = g.F.Format.graph c.args.format.now in
    let contents = g.F.Format.contents c.args.format.now in
    let block = c.fetch.new.into.0 in
    let b = c.loop-top.top - 1 in
    let descends = c.loop-top.invariant.descends in
    let top = top_block graph (g.D.Device.state c.args.dev.now).held c.args.role c.args.start c.args.strict c.args.notes.now c.loop-top.notes c.loop-top.top descends.0 c.loop-top-test.true descends.1 in
    let more = steps_one graph.nr c.args.strict (contents.is_inner c.args.role block) (contents.keys c.args.role block) (blocks_of_edges (contents.edges c.args.role block)) b c.step-top.result
    c.loop-top.notes c.step-top.new.notes top.1 top.2 c.step-top.ensures in
    let most = steps_most graph.nr (note_in c.step-top.new.notes) in
    omega arith

pub loop-top-preserved : goal.loop-top-preserved
loop-top-preserved g c =
    let graph = g.F.Format.graph c.args.format.now in
    let contents = g.F.Format.contents c.args.format.now in
    let roles = g.met.F.Format.roles c.args.format.now in
    let few = (g.met.F.Format.lawful c.args.format.now).few_roles in
    let role = c.requires.role in
    let block = c.fetch.new.into.0 in
    let b = c.loop-top.top - 1 in
    let laws = (g.met.F.Format.lawful c.args.format.now).each c.args.role b block (omega arith) in
    let descends = c.loop-top.invariant.descends in
    let top = top_block graph (g.D.Device.state c.args.dev.now).held c.args.role c.args.start c.args.strict c.args.notes.now c.loop-top.notes c.loop-top.top descends.0 c.loop-top-test.true descends.1 in
    let more = steps_one graph.nr c.args.strict (contents.is_inner c.args.role block) (contents.keys c.args.role block) (blocks_of_edges (contents.edges c.args.role block)) b c.step-top.result
    c.loop-top.notes c.step-top.new.notes top.1 top.2 c.step-top.ensures in
    let reads = c.in_ok-fetch.ensures.reads in
    let before = c.loop-top.invariant.reads in
    let content = if_both (g.D.Device.state c.args.dev.now).held (λ image holds kept. holds kept)
    (subst (λ o. IfSome o (λ image. IsKept image c.loop-top.kept → slice_get image b ≡ Some block)) c.loop-top.invariant.kept.held c.in_ok-fetch.ensures.content)
    c.loop-top.invariant.holds in
    record {
      holds = if_both (g.D.Device.state c.args.dev.now).held (λ image found kept. c.keep.ensures image found kept) content c.loop-top.invariant.holds;
      descends =
          one_step graph contents (g.D.Device.state c.args.dev.now).held c.args.role c.args.start c.args.strict c.args.notes.now c.loop-top.notes c.step-top.new.notes b c.loop-top.top c.step-top.result
          descends.0 block (omega arith) (g.met.F.Format.told c.args.format.now) (omega arith) laws
          content
          top.0 descends.1 c.step-top.ensures;
      reads = omega arith;
      kept = only_reads_both c.loop-top.invariant.kept c.in_ok-fetch.ensures.kept;
      faults = c.in_ok-fetch.ensures.faults ∙ c.loop-top.invariant.faults;
    }

pub returns-clause-ended : goal.returns-clause-ended
returns-clause-ended g c =
    let graph = g.F.Format.graph c.args.format.now in
    let descends = c.loop-top.invariant.descends in
    descends_end graph (g.D.Device.state c.args.dev.now).held c.args.role c.args.start c.args.strict c.args.notes.now c.loop-top.notes c.loop-top.top descends.0 c.loop-top-test.false descends.1
