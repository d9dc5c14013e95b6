-- The bytes are those that the read gave, and what was kept is of other blocks.
use Rattle.std.proofs.Common.{◌≡◌, ◌+◌, ◌*◌, ◌∷◌, ◌⊎◌, ◌≤◌, inl, inr, true, false, ◌∙◌, sym, refl, length, arith}
use Rattle.std.specs.Prelude.{Some}
use Rattle.std.proofs.lemmas.List.{length-take}
use Rattle.pd_files.specs.FileCall.{gave}
use Rattle.pd_files.specs.FileCall.{place, IsGivenAt}
use Rattle.pd_files.specs.Run.{kept_bytes}
use Rattle.pd_files.proofs.GivenLemmas.{given_by_read, given_beside_read, IsGivenAt-same, is_at-same, beside_run, one_look, looks_then}
use Rattle.pd_files.proofs.block_file.BlockFile.read_alone.Goals as goal

pub returns-in_err-fill-clause-made : goal.returns-in_err-fill-clause-made
returns-in_err-fill-clause-made g c =
    looks_then 1 1 2 _ _ _ (omega arith) c.move_to_block.ensures.made (rw c.in_err-fill.ensures (one_look (gave c.fill.new.into false) _ refl))

pub invariant_of-self-2-clause-told : goal.invariant_of-self-2-clause-told
invariant_of-self-2-clause-told g c =
    let before = c.args.self.now in
    let calls = c.move_to_block.new.file.log.calls in
    let stands : place calls ≡ Some (4096 * c.args.b) =
    c.in_ok-move_to_block.ensures.stands (λ known. before.stands c.args.b (is_at-same before.position c.args.b (sym c.stands_at-known.ensures ∙ known))) in
    let few : length (kept_bytes before.run) ≤ 4096 * before.run.count = omega (arith, length-take (4096 * before.run.count) before.run.buffer.items) in
    let told : IsGivenAt calls (4096 * before.run.first) (kept_bytes before.run) =
    IsGivenAt-same before.file.log.calls calls _ (kept_bytes before.run) c.move_to_block.ensures.kept before.told in
    let beside : (4096 * before.run.first + length (kept_bytes before.run) ≤ 4096 * c.args.b) ⊎ (4096 * c.args.b + length c.fill.new.into ≤ 4096 * before.run.first) =
    elim (beside_run c.args.b before.run.first before.run.count c.requires.missing) [ inl low ↦ inl (omega arith) | inr high ↦ inr (omega arith) ] in
    rw c.in_ok-fill.ensures (given_beside_read c.fill.new.into (kept_bytes before.run) calls (4096 * before.run.first) (4096 * c.args.b) stands beside told)

pub returns-clause-given : goal.returns-clause-given
returns-clause-given g c i within =
    let before = c.args.self.now in
    let calls = c.move_to_block.new.file.log.calls in
    let stands : place calls ≡ Some (4096 * c.args.b) =
    c.in_ok-move_to_block.ensures.stands (λ known. before.stands c.args.b (is_at-same before.position c.args.b (sym c.stands_at-known.ensures ∙ known))) in
    let all : IsGivenAt (gave c.fill.new.into true ∷ calls) (4096 * c.args.b) c.fill.new.into = given_by_read c.fill.new.into calls (4096 * c.args.b) stands in
    rw c.in_ok-fill.ensures (all i within)

pub returns-clause-made : goal.returns-clause-made
returns-clause-made g c =
    looks_then 1 1 2 _ _ _ (omega arith) c.move_to_block.ensures.made (rw c.in_ok-fill.ensures (one_look (gave c.fill.new.into true) _ refl))
