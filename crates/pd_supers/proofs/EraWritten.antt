-- Reading the superblock that is written for an era target's fields gives them back.
use Rattle.std.proofs.Common.{◌≡◌, ℕ, List, length, refl}
use Rattle.pd_kinds.specs.declared.kind.Kind.TheVariants.{Era}
use Rattle.pd_kinds.specs.Field.{DoFit, Row, written, zeros}
use Rattle.pd_kinds.specs.EraFormat.{EraFields, era_fields, era_numbers, era_rows, era_super_block, era_table}
use Rattle.pd_kinds.proofs.WrittenLemmas.{length-written_zeros, value_at}
use Rattle.pd_kinds.proofs.SuperLemmas.{fields_read, uuid_read}

-- the fields that these rows and this uuid make up
abbrev made_of : List Row → List ℕ → EraFields
made_of rows uuid = era_table (λ offset size. value_at rows offset) (λ offset size. uuid)

-- so those of the same numbers and uuid are the same
same_fields : (f g : EraFields) → era_numbers f ≡ era_numbers g → f.uuid ≡ g.uuid → f ≡ g
same_fields f g numbers uuid =
    let made : made_of (era_rows f) f.uuid ≡ made_of (era_rows g) g.uuid = cc in
    made

-- reading what was written gives the same fields
pub reads_back : (f : EraFields) → length f.uuid ≡ 16 → DoFit (era_rows f) → era_fields (era_super_block f) ≡ f
unfolding era_super_block
reads_back f len fit =
    same_fields (era_fields (era_super_block f)) f (fields_read Era f.uuid (era_rows f) len refl refl fit)
    (uuid_read Era f.uuid (written zeros (era_rows f)) (length-written_zeros (era_rows f)) len)
