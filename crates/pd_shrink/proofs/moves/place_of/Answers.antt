use Rattle.std.proofs.Common.{◌^◌, rules}
use Rattle.std.proofs.lemmas.List.Sorted.{answers_always}
use Rattle.pd_shrink.specs.declared.moves.MovedBlock.{MovedBlock}
use Rattle.pd_shrink.proofs.MovingLemmas.{found_at, found_none, place_at, target_below}
use Rattle.pd_shrink.proofs.moves.place_of.Goals as goal

pub returns-then-one-block-clause-place : goal.returns-then-one-block-clause-place
returns-then-one-block-clause-place c =
    place_at (2 ^ 40) 0 c.args.block c.args.moves.now c.args.next.now c.requires.ordered c.if-next-moves.true c.if-one-block.true

pub returns-then-one-block-clause-small : goal.returns-then-one-block-clause-small
returns-then-one-block-clause-small c = target_below (2 ^ 40) 0 c.args.moves.now c.args.next.now c.requires.ordered c.if-next-moves.true

-- the closure gives a move's source
pub returns-in-Ok-clause-place : goal.returns-in-Ok-clause-place
returns-in-Ok-clause-place c =
    let by_source = c.in-Ok.ensures.position (λ (x : MovedBlock). x.source) (answers_always _ _ _ (λ f a r g called. search rules)) in
    place_at (2 ^ 40) 0 c.args.block c.args.moves.now c.in-Ok.at c.requires.ordered c.in-Ok.ensures.bound
    (found_at (2 ^ 40) 0 c.args.block c.args.moves.now c.requires.ordered c.in-Ok.at by_source)

pub returns-in-Ok-clause-small : goal.returns-in-Ok-clause-small
returns-in-Ok-clause-small c = target_below (2 ^ 40) 0 c.args.moves.now c.in-Ok.at c.requires.ordered c.in-Ok.ensures.bound

pub returns-in-Err-clause-place : goal.returns-in-Err-clause-place
returns-in-Err-clause-place c =
    let by_source = c.in-Err.ensures.position (λ (x : MovedBlock). x.source) (answers_always _ _ _ (λ f a r g called. search rules)) in
    found_none (2 ^ 40) 0 c.args.block c.args.moves.now c.requires.ordered c.in-Err.field-0 by_source
