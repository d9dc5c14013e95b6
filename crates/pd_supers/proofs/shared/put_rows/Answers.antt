use Rattle.std.proofs.Common.{◌≡◌, ℕ, ◌+◌, ◌<◌, List, ◌∷◌, map, drop, length, slice_index_or, refl, arith, add-one, drop-cons}
use Rattle.std.proofs.lemmas.Bool.{and_parts}
use Rattle.std.proofs.lemmas.List.{drop_all}
use Rattle.pd_kinds.specs.Field.{written}
use Rattle.pd_kinds.proofs.WrittenLemmas.{within_block}
use Rattle.pd_supers.specs.declared.shared.Number.{Number}
use Rattle.pd_supers.specs.declared.shared.Number.TheVariants.{Four}
use Rattle.pd_supers.specs.Table.{row_of}
use Rattle.pd_supers.proofs.shared.put_rows.Goals as goal

-- the rows that are left begin with this one
left : (rows : List (ℕ × Number)) (i : ℕ) → i < length rows
    → map row_of (drop i rows) ≡ row_of (slice_index_or rows i (0, Four 0)) ∷ map row_of (drop (i + 1) rows)
left rows i within = rw (add-one, drop-cons rows i (0, Four 0)) refl

pub put_number-requires : goal.put_number-requires
put_number-requires c =
    let rows = left c.args.rows.now c.loop-i.i (omega arith) in
    let parts = and_parts _ _ (rw rows at c.loop-i.invariant.2) in
    within_block _ _ parts.0

pub loop-i-preserved : goal.loop-i-preserved
unfolding written
loop-i-preserved c =
    let rows = left c.args.rows.now c.loop-i.i (omega arith) in
    let inside = and_parts _ _ (rw rows at c.loop-i.invariant.2) in
    let before = rw rows at c.loop-i.invariant.0 in
    let fits = rw rows at c.loop-i.invariant.1 in
    (rw c.put_number.ensures.number before, (λ rest. fits (c.put_number.ensures.fits, rest)), inside.1)

pub returns-clause-rows : goal.returns-clause-rows
unfolding written
returns-clause-rows c = rw (drop_all c.loop-i.i c.args.rows.now c.loop-i-test.false) at c.loop-i.invariant.0

pub returns-clause-fit : goal.returns-clause-fit
returns-clause-fit c = (rw (drop_all c.loop-i.i c.args.rows.now c.loop-i-test.false) at c.loop-i.invariant.1) tt
