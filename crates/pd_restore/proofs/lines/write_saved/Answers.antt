use Rattle.std.proofs.Common.{rules, refl, None}
use Rattle.pd_draft.specs.DraftState.{draft_state}
use Rattle.pd_grammar.specs.ThinText.{pool_format}
use Rattle.pd_laid.specs.PoolText.{pool_need_so_far}
use Rattle.pd_restoring.proofs.ReadingLemmas.{end_says}
use Rattle.pd_restore.specs.Whole.{IsTextOf, made_begun, version_line}
use Rattle.pd_restore.specs.Whole.{head_of_pool}
use Rattle.pd_restore.proofs.BeginLemmas.{pool_small}
use Rattle.pd_restore.proofs.ComingLemmas.{made_coming, made_pool}
use Rattle.pd_restore.proofs.UnsharedParts.{writes_of}
use Rattle.pd_restore.proofs.lines.write_saved.Goals as goal

pub start-requires-clause-blocks : goal.start-requires-clause-blocks
start-requires-clause-blocks g c =
    let shared = g.G.Gathering.shared in
    pool_small (version_line shared) c.args.pool.now (made_pool shared c.args.pool.now (g.L.Giving.coming c.args.lines.now) c.requires.made.reads)

pub take_all-requires-clause-made : goal.take_all-requires-clause-made
take_all-requires-clause-made g c =
    let a = draft_state c.args.draft.now in
    let p = c.args.pool.now in
    let shared = g.G.Gathering.shared in
    let coming = g.L.Giving.coming c.args.lines.now in
    record {
      before = made_begun shared p;
      start = a;
      so_far = made_coming g.G.Gathering.HasGathered shared p c.args.room coming c.in_ok-gathered.gathered a c.requires.made (c.in_ok-gathered.ensures (head_of_pool p) a refl c.requires.made.place c.requires.closed);
    }

pub returns-in_err-take_all-clause-says : goal.returns-in_err-take_all-clause-says
returns-in_err-take_all-clause-says g c left t is =
    let a = draft_state c.args.draft.now in
    let p = c.args.pool.now in
    let shared = g.G.Gathering.shared in
    let coming = g.L.Giving.coming c.args.lines.now in
    let have = made_coming g.G.Gathering.HasGathered shared p c.args.room coming c.in_ok-gathered.gathered a c.requires.made (c.in_ok-gathered.ensures (head_of_pool p) a refl c.requires.made.place c.requires.closed) in
    let says = c.in_err-take_all.ensures.says (made_begun shared p) a have left t is in
    search rules

pub write_rest-requires-clause-whole : goal.write_rest-requires-clause-whole
write_rest-requires-clause-whole g c =
    let a = draft_state c.args.draft.now in
    let p = c.args.pool.now in
    let shared = g.G.Gathering.shared in
    let coming = g.L.Giving.coming c.args.lines.now in
    let have = made_coming g.G.Gathering.HasGathered shared p c.args.room coming c.in_ok-gathered.gathered a c.requires.made (c.in_ok-gathered.ensures (head_of_pool p) a refl c.requires.made.place c.requires.closed) in
    let e = c.in_ok-take_all.ensures.all (made_begun shared p) a have None in
    record { lines = e.lines; start = a; all = e.all }

pub returns-clause-writes : goal.returns-clause-writes
returns-clause-writes g c left =
    let a = draft_state c.args.draft.now in
    let p = c.args.pool.now in
    let shared = g.G.Gathering.shared in
    let coming = g.L.Giving.coming c.args.lines.now in
    let have = made_coming g.G.Gathering.HasGathered shared p c.args.room coming c.in_ok-gathered.gathered a c.requires.made (c.in_ok-gathered.ensures (head_of_pool p) a refl c.requires.made.place c.requires.closed) in
    let e = c.in_ok-take_all.ensures.all (made_begun shared p) a have left in
    writes_of e.lines c.args.room left a (draft_state c.write_rest.new.draft) (IsTextOf (made_begun shared p) coming left) e.told c.write_rest.result
    (c.write_rest.ensures.writes (version_line shared) e.lines e.later left a e.front e.all)

pub returns-clause-says : goal.returns-clause-says
returns-clause-says g c left t is = end_says pool_format pool_need_so_far c.write_rest.result c.args.room t c.write_rest.ensures.build
