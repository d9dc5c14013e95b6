use Rattle.std.proofs.Common.{List, [], Option, ℕ, sym, ap, arith}
use Rattle.std.specs.Option.{unwrap_or}
use Rattle.pd_kinds.proofs.ResultLemmas.{if_all, if_maps}
use Rattle.pd_cache.specs.Words.{block_origins}
use Rattle.pd_cache.proofs.MeetLemmas.{met_first, met_more, seen_few, seen_fewer, seen_more}
use Rattle.pd_cache.proofs.mapping.meet.Goals as goal

pub returns-then-not-is_map_block-clause-reads_failed : goal.returns-then-not-is_map_block-clause-reads_failed
returns-then-not-is_map_block-clause-reads_failed g c = omega (arith, seen_few c.args.audit.now c.args.origins.now c.requires.places c.requires.in_role)

pub returns-in-Some-clause-reads_failed : goal.returns-in-Some-clause-reads_failed
returns-in-Some-clause-reads_failed g c = omega (arith, seen_few c.args.audit.now c.args.origins.now c.requires.places c.requires.in_role)

pub returns-in_err-read-in-None-clause-reads_failed : goal.returns-in_err-read-in-None-clause-reads_failed
returns-in_err-read-in-None-clause-reads_failed g c =
    let is = c.is_map_block.ensures.0 c.if-not-is_map_block.false in
    omega (arith, c.in_err-read-in-None.ensures.reads, seen_fewer c.args.audit.now c.args.origins.now c.args.b c.requires.places c.requires.in_role is (sym c.in-None.ensures))

pub returns-in_ok-read-in-None-clause-reads_failed : goal.returns-in_ok-read-in-None-clause-reads_failed
returns-in_ok-read-in-None-clause-reads_failed g c =
    let is = c.is_map_block.ensures.0 c.if-not-is_map_block.false in
    omega (arith, c.in_ok-read-in-None.ensures.reads, seen_fewer c.args.audit.now c.args.origins.now c.args.b c.requires.places c.requires.in_role is (sym c.in-None.ensures))

pub returns-in_ok-read-in-None-clause-reads : goal.returns-in_ok-read-in-None-clause-reads
returns-in_ok-read-in-None-clause-reads g c =
    let is = c.is_map_block.ensures.0 c.if-not-is_map_block.false in
    omega (
      arith,
      c.in_ok-read-in-None.ensures.reads,
      seen_more c.args.b (block_origins c.read.new.into.0) c.args.origins.now c.add.new.self (omega (arith, is.within, c.requires.places)) (sym c.in-None.ensures) c.add.ensures,
    )

pub returns-in-Some-clause-met : goal.returns-in-Some-clause-met
returns-in-Some-clause-met g c =
    if_all (g.D.Device.state c.args.dev.now).held _ (λ image map_block blocks before.
    met_more image blocks c.args.b c.args.origins.now c.meet_again.new.self before c.in-Some.valid (sym c.in-Some.ensures) c.meet_again.ensures.again c.meet_again.ensures.met c.meet_again.ensures.seen)

pub returns-in_ok-read-in-None-clause-met : goal.returns-in_ok-read-in-None-clause-met
returns-in_ok-read-in-None-clause-met g c =
    if_maps (g.D.Device.state c.args.dev.now).held _ _ (λ image found map_block blocks before.
    met_first image blocks c.args.b c.args.origins.now c.add.new.self before c.read.new.into.0
    (ap (λ (o : Option (List ℕ)). unwrap_or o []) found) c.add.ensures) c.in_ok-read-in-None.ensures.content
