use Rattle.std.proofs.Common.{[], ◌∷◌, arith}
use Rattle.pd_tests_parts.proofs.map_tests.four_counted.Goals as goal

pub add-requires-clause-few : goal.add-requires-clause-few
add-requires-clause-few c = let none = c.in_ok-counts.ensures.none 0 in omega arith

pub add-requires-2-clause-few : goal.add-requires-2-clause-few
add-requires-2-clause-few c = let some = c.in_ok-add.ensures.listed [] c.in_ok-counts.ensures.none 1 in omega arith

pub add-requires-3-clause-few : goal.add-requires-3-clause-few
add-requires-3-clause-few c = let some = c.in_ok-add-2.ensures.listed (0 ∷ []) (c.in_ok-add.ensures.listed [] c.in_ok-counts.ensures.none) 1 in omega arith

pub add-requires-4-clause-few : goal.add-requires-4-clause-few
add-requires-4-clause-few c =
    let some = c.in_ok-add-3.ensures.listed (0 ∷ 1 ∷ []) (c.in_ok-add-2.ensures.listed (0 ∷ []) (c.in_ok-add.ensures.listed [] c.in_ok-counts.ensures.none)) 1 in
    omega arith

pub returns-clause-counted : goal.returns-clause-counted
returns-clause-counted c =
    c.in_ok-add-4.ensures.listed (0 ∷ 1 ∷ 1 ∷ [])
    (c.in_ok-add-3.ensures.listed (0 ∷ 1 ∷ []) (c.in_ok-add-2.ensures.listed (0 ∷ []) (c.in_ok-add.ensures.listed [] c.in_ok-counts.ensures.none)))
