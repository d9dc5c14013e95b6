-- Reading the superblock that is written for a cache's fields gives them back.
use Rattle.std.proofs.Common.{◌≡◌, ◌≢◌, inl, inr, ℕ, ◌==◌, cond, eq-eqb, List, [], ◌∷◌, length, slice_index, refl, ap, sym, ◌∙◌, arith}
use Rattle.std.proofs.Math.Dec.{eqb}
use Rattle.std.proofs.lemmas.Bool.{cases_Bool, true≢false}
use Rattle.pd_kinds.specs.declared.kind.Kind.TheVariants.{Cache}
use Rattle.pd_kinds.specs.Field.{DoFit, Row, bytes_at, le, put_bytes, written, zeros}
use Rattle.pd_kinds.specs.CacheFormat.{CacheFields, by_version, cache_fields, cache_numbers, cache_rows, cache_super_block, cache_table}
use Rattle.pd_kinds.proofs.WrittenLemmas.{length-put_bytes, length-written_zeros, length-zeros, put_bytes_read, numbers_at, table_read, value_at, values_of}
use Rattle.pd_kinds.proofs.SuperLemmas.{bytes-super_block, numbers-put_bytes, numbers-super_block, uuid_read}

-- three elements make up a list of three
three : (xs : List ℕ) → length xs ≡ 3 → slice_index xs 0 ∷ slice_index xs 1 ∷ slice_index xs 2 ∷ [] ≡ xs
three [] len = absurd (omega arith)
three (x ∷ []) len = absurd (omega arith)
three (x ∷ y ∷ []) len = absurd (omega arith)
three (x ∷ y ∷ z ∷ []) len = refl
three (x ∷ y ∷ z ∷ w ∷ rest) len = absurd (omega arith)

-- the fields that these rows, this uuid and this policy make up
abbrev made_of : List Row → List ℕ → List ℕ → CacheFields
made_of rows uuid policy = cache_table (λ offset size. value_at rows offset) (λ offset size. cond (offset == 16) uuid policy)

-- so those of the same numbers, uuid and policy are the same
same_fields : (f g : CacheFields) → length f.versions ≡ 3 → length g.versions ≡ 3 → cache_numbers f ≡ cache_numbers g → f.uuid ≡ g.uuid → f.policy ≡ g.policy → f ≡ g
same_fields f g parts_f parts_g numbers uuid policy =
    let made : made_of (cache_rows f) f.uuid f.policy ≡ made_of (cache_rows g) g.uuid g.policy = cc in
    sym (ap (λ (xs : List ℕ). record f { versions = xs }) (three f.versions parts_f))
    ∙ (made ∙ ap (λ (xs : List ℕ). record g { versions = xs }) (three g.versions parts_g))

-- a root of the dirty bitset that is 0 where there is none stays as it is
same_by_version : (f : CacheFields) → (f.version ≢ 2 → f.dirty_root ≡ 0) → by_version f ≡ f
same_by_version f none = elim (cases_Bool (eqb f.version 2)) [
  | inl two ↦ rw two refl
  | inr other ↦
      let zero : f.dirty_root ≡ 0 = none (λ two. true≢false (sym (eq-eqb f.version 2 two) ∙ other)) in
      rw other (ap (λ (n : ℕ). record f { dirty_root = n }) (sym zero))
]

-- reading what was written gives the same fields
pub reads_back : (f : CacheFields) → length f.uuid ≡ 16 → length f.policy ≡ 16 → length f.versions ≡ 3 → (f.version ≢ 2 → f.dirty_root ≡ 0)
    → DoFit (cache_rows f) → cache_fields (cache_super_block f) ≡ f
unfolding cache_super_block
reads_back f len len_policy parts none fit =
    let block = cache_super_block f in
    let read = cache_table (le block) (bytes_at block) in
    let rows = written zeros (cache_rows f) in
    let size = length-written_zeros (cache_rows f) in
    let over = put_bytes rows 44 f.policy in
    let whole : length over ≡ 4096 = length-put_bytes rows 44 f.policy (omega arith) ∙ size in
    let numbers : numbers_at (cache_super_block f) (cache_rows f) ≡ values_of (cache_rows f) =
    numbers-super_block Cache f.uuid over (cache_rows f) whole len refl
    ∙ (numbers-put_bytes rows 44 16 f.policy (cache_rows f) len_policy (omega arith) refl
    ∙ table_read zeros (cache_rows f) length-zeros refl fit) in
    let policy : bytes_at (cache_super_block f) 44 16 ≡ f.policy =
    bytes-super_block Cache f.uuid over 44 16 whole len (omega arith)
    ∙ (ap (λ (n : ℕ). bytes_at over 44 n) (sym len_policy) ∙ put_bytes_read rows 44 f.policy (omega arith)) in
    ap by_version (same_fields read f refl parts numbers (uuid_read Cache f.uuid over whole len) policy) ∙ same_by_version f none
