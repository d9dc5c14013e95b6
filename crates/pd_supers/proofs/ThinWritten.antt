-- Reading the superblock that is written for a thin pool's fields gives them back.
use Rattle.std.proofs.Common.{◌≡◌, ℕ, List, length, refl}
use Rattle.pd_kinds.specs.declared.kind.Kind.TheVariants.{Thin}
use Rattle.pd_kinds.specs.Field.{DoFit, Row, written, zeros}
use Rattle.pd_kinds.specs.ThinFormat.{ThinFields, thin_fields, thin_numbers, thin_rows, thin_super_block, thin_table}
use Rattle.pd_kinds.proofs.WrittenLemmas.{length-written_zeros, value_at}
use Rattle.pd_kinds.proofs.SuperLemmas.{fields_read, uuid_read}

-- the fields that these rows and this uuid make up
abbrev made_of : List Row → List ℕ → ThinFields
made_of rows uuid = thin_table (λ offset size. value_at rows offset) (λ offset size. uuid)

-- so those of the same numbers and uuid are the same
same_fields : (f g : ThinFields) → thin_numbers f ≡ thin_numbers g → f.uuid ≡ g.uuid → f ≡ g
same_fields f g numbers uuid =
    let made : made_of (thin_rows f) f.uuid ≡ made_of (thin_rows g) g.uuid = cc in
    made

-- reading what was written gives the same fields
pub reads_back : (f : ThinFields) → length f.uuid ≡ 16 → DoFit (thin_rows f) → thin_fields (thin_super_block f) ≡ f
unfolding thin_super_block
reads_back f len fit =
    same_fields (thin_fields (thin_super_block f)) f (fields_read Thin f.uuid (thin_rows f) len refl refl fit)
    (uuid_read Thin f.uuid (written zeros (thin_rows f)) (length-written_zeros (thin_rows f)) len)
