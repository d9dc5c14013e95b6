use Rattle.std.proofs.Common.{refl}
use Rattle.pd_draft.specs.DraftState.{draft_state}
use Rattle.pd_texts.specs.ThinState.{first_of}
use Rattle.pd_restore.specs.Whole.{head_of_pool}
use Rattle.pd_restore.proofs.BeginLemmas.{pool_small}
use Rattle.pd_restore.proofs.ReadingLemmas.{begun_text}
use Rattle.pd_restore.proofs.thin.write_text.Goals as goal

pub start-requires-clause-blocks : goal.start-requires-clause-blocks
start-requires-clause-blocks g c = pool_small (first_of c.args.text.now.state) c.args.pool.now c.requires.begun.reads.so_far.lines.0

pub write_pool-requires-clause-reading : goal.write_pool-requires-clause-reading
write_pool-requires-clause-reading g c =
    let a = draft_state c.args.draft.now in
    let b = c.requires.begun in
    record {
      start = a;
      reads = begun_text g.G.Gathering.HasGathered g.G.Gathering.shared c.args.pool.now c.args.room c.args.text.now c.in_ok-gathered.gathered a b (c.in_ok-gathered.ensures (head_of_pool c.args.pool.now) a refl b.place c.requires.closed);
    }

pub returns-clause-writes : goal.returns-clause-writes
returns-clause-writes g c =
    let p = c.requires.begun in
    c.write_pool.ensures.writes (draft_state c.args.draft.now)
    (begun_text g.G.Gathering.HasGathered g.G.Gathering.shared c.args.pool.now c.args.room c.args.text.now c.in_ok-gathered.gathered _ p (c.in_ok-gathered.ensures (head_of_pool c.args.pool.now) _ refl p.place c.requires.closed))

pub returns-clause-says : goal.returns-clause-says
returns-clause-says g c t leaves =
    let p = c.requires.begun in
    c.write_pool.ensures.says (draft_state c.args.draft.now)
    (begun_text g.G.Gathering.HasGathered g.G.Gathering.shared c.args.pool.now c.args.room c.args.text.now c.in_ok-gathered.gathered _ p (c.in_ok-gathered.ensures (head_of_pool c.args.pool.now) _ refl p.place c.requires.closed))
    t leaves
