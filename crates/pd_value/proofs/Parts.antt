-- Values of several fields: written field by field, and read field by field.
use Rattle.std.proofs.Common.{◌≡◌, ℕ, ◌+◌, ◌*◌, ◌^◌, ◌<◌, List, refl, sym, ◌∙◌}
use Rattle.pd_kinds.specs.Field.{le, put, details_code, index_code, writeset_code}
use Rattle.pd_kinds.proofs.FieldLemmas.{le_join, put_parts}

pub details_written : (b : List ℕ) (mapped transaction created snapped : ℕ) → mapped < 2 ^ 64 → transaction < 2 ^ 64 → created < 2 ^ 32
    → put (put (put (put b 0 8 mapped) 8 8 transaction) 16 4 created) 20 4 snapped ≡ put b 0 24 (details_code mapped transaction created snapped)
details_written b m t c s small_m small_t small_c =
    let rest = c + 2 ^ 32 * s in
    sym (put_parts b 0 8 16 m (t + 2 ^ 64 * rest) small_m
    ∙ (put_parts (put b 0 8 m) 8 8 8 t rest small_t ∙ put_parts (put (put b 0 8 m) 8 8 t) 16 4 4 c s small_c))

pub index_written : (b : List ℕ) (block free none_before : ℕ) → block < 2 ^ 64 → free < 2 ^ 32
    → put (put (put b 0 8 block) 8 4 free) 12 4 none_before ≡ put b 0 16 (index_code block free none_before)
index_written b block free none_before small_block small_free =
    sym (put_parts b 0 8 8 block (free + 2 ^ 32 * none_before) small_block ∙ put_parts (put b 0 8 block) 8 4 4 free none_before small_free)

pub writeset_written : (b : List ℕ) (bits root : ℕ) → bits < 2 ^ 32 → put (put b 0 4 bits) 4 8 root ≡ put b 0 12 (writeset_code bits root)
writeset_written b bits root small = sym (put_parts b 0 4 8 bits root small)

pub details_read : (b : List ℕ) → le b 0 24 ≡ details_code (le b 0 8) (le b 8 8) (le b 16 4) (le b 20 4)
details_read b = rw (le_join b 0 8 16, le_join b 8 8 8, le_join b 16 4 4) refl

pub index_read : (b : List ℕ) → le b 0 16 ≡ index_code (le b 0 8) (le b 8 4) (le b 12 4)
index_read b = rw (le_join b 0 8 8, le_join b 8 4 4) refl

pub writeset_read : (b : List ℕ) → le b 0 12 ≡ writeset_code (le b 0 4) (le b 4 8)
writeset_read b = le_join b 0 4 8
