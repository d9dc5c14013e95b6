-- The bytes that the checksum of a block is taken over.
use Rattle.std.proofs.Common.{◌≡◌, ℕ, ◌-◌, List, length, take, drop, ap, sym, ◌∙◌, ◌≢◌, Bool, true, false, ◌==◌, ◌&&◌, ◌||◌, if◌then◌else◌, Option, Some, None, refl, arith}
use Rattle.std.specs.Int.Bits.{bit_xor}
use Rattle.std.proofs.lemmas.List.{take_rest}
use Rattle.std.proofs.lemmas.Bool.{eqb-true}
use Rattle.std.proofs.Math.Bool.{and-false, or-false, and_comm}
use Rattle.pd_kinds.specs.Field.{crc32c, checksum, le, has_checksum}
use Rattle.pd_kinds.specs.declared.kind.Kind.{Kind}
use Rattle.pd_kinds.specs.declared.kind.Kind.TheVariants.{Thin, Cache, Era}
use Rattle.pd_kinds.specs.Super.{magic_of, salt_of, is_super_of, is_valid_super}
use Rattle.pd_crc.specs.Magic.{kind_with}

-- from byte 4 on, all of a block's bytes
pub checksum-rest : (block : List ℕ) (salt : ℕ) → length block ≡ 4096 → bit_xor (crc32c (take 4092 (drop 4 block))) salt ≡ checksum block salt
unfolding checksum
checksum-rest block salt h =
    let rest : take (length block - 4) (drop 4 block) ≡ drop 4 block = take_rest block 4 in
    ap (λ (xs : List ℕ). bit_xor (crc32c xs) salt) (ap (λ (n : ℕ). take (n - 4) (drop 4 block)) (sym h) ∙ rest)

-- A valid superblock, by the kind that its magic names.

-- what is left to ask of a block whose magic names this kind: place 0 and the checksum
abbrev pub is_valid_as : Option Kind → Bool → (Kind → Bool) → Bool
is_valid_as (Some kind) place sum = place && sum kind
is_valid_as None place sum = false

not_both_of : (magic one other : ℕ) (is_one is_other : Bool) → (magic == one) ≡ is_one → (magic == other) ≡ is_other → one ≢ other → (is_one && is_other) ≡ false
not_both_of magic one other true true p q apart = absurd (apart (sym (eqb-true magic one p) ∙ eqb-true magic other q))
not_both_of magic one other true false _ _ _ = refl
not_both_of magic one other false is_other _ _ _ = refl

not_both : (magic one other : ℕ) → one ≢ other → ((magic == one) && (magic == other)) ≡ false
not_both magic one other apart = not_both_of magic one other (magic == one) (magic == other) refl refl apart

-- at most one of three tests holds
by_tests : (a b c place : Bool) (sum : Kind → Bool) → (a && b) ≡ false → (a && c) ≡ false → (b && c) ≡ false → ((sum Thin && (a && place)) || ((sum Cache && (b && place)) || (sum Era && (c && place)))) ≡ is_valid_as (if a then Some Thin else (if b then Some Cache else (if c then Some Era else None))) place sum
by_tests true true c place sum h _ _ = cc
by_tests true false true place sum _ h _ = cc
by_tests false true true place sum _ _ h = cc
by_tests true false false place sum _ _ _ = simp (and-false, or-false) (and_comm (sum Thin) place)
by_tests false true false place sum _ _ _ = simp (and-false, or-false) (and_comm (sum Cache) place)
by_tests false false true place sum _ _ _ = simp and-false (and_comm (sum Era) place)
by_tests false false false place sum _ _ _ = simp and-false

pub is_valid_super-kind : (block : List ℕ) → is_valid_super block ≡ is_valid_as (kind_with (le block 32 8)) (le block 8 8 == 0) (λ kind. has_checksum block (salt_of kind))
unfolding is_valid_super is_super_of
is_valid_super-kind block =
    let magic = le block 32 8 in
    by_tests (magic == magic_of Thin) (magic == magic_of Cache) (magic == magic_of Era) (le block 8 8 == 0) (λ kind. has_checksum block (salt_of kind))
    (not_both magic (magic_of Thin) (magic_of Cache) (omega arith))
    (not_both magic (magic_of Thin) (magic_of Era) (omega arith))
    (not_both magic (magic_of Cache) (magic_of Era) (omega arith))
