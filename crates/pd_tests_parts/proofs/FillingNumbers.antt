-- An array of numbers, word by word.
use Rattle.std.proofs.Common.{◌≡◌, ℕ, suc, ◌+◌, ◌-◌, ◌<◌, ◌≤◌, [], ◌∷◌, subst, arith}
use Rattle.std.specs.List.{range_with_len}
use Rattle.pd_draft.specs.Closed.{DraftState}
use Rattle.pd_build.specs.Array.{ArrayLeft}
use Rattle.pd_build.specs.Building.{IsFilling}

module _ (count i : ℕ) {t : ArrayLeft} {from to : DraftState} (f : IsFilling 8 (range_with_len 0 count) (range_with_len i (count - i)) t from to) where
  -- the next word
  pub filling_here : i < count → IsFilling 8 (range_with_len 0 count) (i ∷ range_with_len (i + 1) (count - (i + 1))) t from to
  filling_here more =
      let size : count - i ≡ suc (count - (i + 1)) = omega arith in
      subst (λ (n : ℕ). IsFilling 8 (range_with_len 0 count) (range_with_len i n) t from to) size f

  -- after the last one
  pub filling_done : count ≤ i → IsFilling 8 (range_with_len 0 count) [] t from to
  filling_done past =
      let none : count - i ≡ 0 = omega arith in
      subst (λ (n : ℕ). IsFilling 8 (range_with_len 0 count) (range_with_len i n) t from to) none f
