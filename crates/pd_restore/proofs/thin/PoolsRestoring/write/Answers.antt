use Rattle.std.proofs.Common.{arith}
use Rattle.pd_draft.specs.DraftState.{draft_state}
use Rattle.pd_restore.specs.declared.thin.Rest.TheVariants.{Text, Saved, Shape}
use Rattle.pd_restore.specs.Whole.{begun_lines, head_of_pool}
use Rattle.pd_restore.proofs.BeginLemmas.{first_version, second_version}
use Rattle.pd_restore.proofs.UnsharedParts.{rest_writes}
use Rattle.pd_restore.proofs.thin.PoolsRestoring.write.Goals as goal

pub write_text-requires-else-version-eq2-clause-begun : goal.write_text-requires-else-version-eq2-clause-begun
write_text-requires-else-version-eq2-clause-begun g c =
    let p = c.args.begun.pool in
    let text = c.in-Text.text in
    let stands = rw c.in-Text.is at c.requires.stands in
    record {
      version = first_version (head_of_pool p) c.version.result text.state.is_shared (c.version.ensures (begun_lines text p) stands) (λ is. omega (arith, is, c.if-version-eq2.false));
      reads = stands;
      place = c.requires.place;
      need = rw c.in-Text.is at c.requires.need;
      most = c.requires.most;
      there = c.requires.there;
    }

pub write_text-requires-clause-begun : goal.write_text-requires-clause-begun
write_text-requires-clause-begun g c =
    let p = c.args.begun.pool in
    let text = c.in-Text.text in
    let stands = rw c.in-Text.is at c.requires.stands in
    record {
      version = second_version (head_of_pool p) c.version.result text.state.is_shared (c.version.ensures (begun_lines text p) stands) (omega (arith, c.if-version-eq2.true));
      reads = stands;
      place = c.requires.place;
      need = rw c.in-Text.is at c.requires.need;
      most = c.requires.most;
      there = c.requires.there;
    }

pub write_saved-requires-in-Shape-clause-made : goal.write_saved-requires-in-Shape-clause-made
write_saved-requires-in-Shape-clause-made g c = record {
  reads = rw c.in-Shape.is at c.requires.stands;
  place = c.requires.place;
  need = rw c.in-Shape.is at c.requires.need;
  most = c.requires.most;
  there = c.requires.there;
}

pub write_saved-requires-clause-made : goal.write_saved-requires-clause-made
write_saved-requires-clause-made g c = record {
  reads = rw c.in-Saved.is at c.requires.stands;
  place = c.requires.place;
  need = rw c.in-Saved.is at c.requires.need;
  most = c.requires.most;
  there = c.requires.there;
}

pub returns-then-version-eq2-clause-writes : goal.returns-then-version-eq2-clause-writes
returns-then-version-eq2-clause-writes g c =
    rest_writes c.args.begun.pool c.args.begun.rest (Text c.in-Text.text) c.args.room (g.S.Source.state c.args.source.now).left (g.S.Source.state c.write_text.new.source).left
    (draft_state c.args.draft.now) (draft_state c.write_text.new.draft) c.write_text.result c.in-Text.is c.write_text.ensures.writes

pub returns-in-Text-clause-writes : goal.returns-in-Text-clause-writes
returns-in-Text-clause-writes g c =
    rest_writes c.args.begun.pool c.args.begun.rest (Text c.in-Text.text) c.args.room (g.S.Source.state c.args.source.now).left (g.S.Source.state c.write_text-else-version-eq2.new.source).left
    (draft_state c.args.draft.now) (draft_state c.write_text-else-version-eq2.new.draft) c.write_text-else-version-eq2.result c.in-Text.is c.write_text-else-version-eq2.ensures.writes

pub returns-clause-writes : goal.returns-clause-writes
returns-clause-writes g c =
    let left = (g.S.Source.state c.args.source.now).left in
    rest_writes c.args.begun.pool c.args.begun.rest (Shape c.in-Shape.lines) c.args.room left left
    (draft_state c.args.draft.now) (draft_state c.write_saved-in-Shape.new.draft) c.write_saved-in-Shape.result c.in-Shape.is (c.write_saved-in-Shape.ensures.writes left)

pub returns-in-Saved-clause-writes : goal.returns-in-Saved-clause-writes
returns-in-Saved-clause-writes g c =
    let left = (g.S.Source.state c.args.source.now).left in
    rest_writes c.args.begun.pool c.args.begun.rest (Saved c.in-Saved.lines) c.args.room left left
    (draft_state c.args.draft.now) (draft_state c.write_saved.new.draft) c.write_saved.result c.in-Saved.is (c.write_saved.ensures.writes left)

pub returns-clause-says : goal.returns-clause-says
returns-clause-says g c t leaves = c.write_saved-in-Shape.ensures.says (g.S.Source.state c.args.source.now).left t (rw c.in-Shape.is at leaves)
