-- Blocks that are counted as a map's own, one after another.
use Rattle.std.proofs.Common.{◌≡◌, ◌⊎◌, inl, inr, ⊎_elim, ℕ, ◌+◌, ◌<◌, ◌≤◌, List, ◌++◌, refl, sym, ◌∙◌, ap, subst, arith}
use Rattle.std.specs.List.{range_with_len}
use Rattle.std.proofs.lemmas.Bool.{cases_lt}
use Rattle.std.proofs.lemmas.List.{append_assoc, append-nil}
use Rattle.pd_kinds.proofs.NumberLemmas.{range_split}
use Rattle.pd_count.specs.Counted.{Counted, count_of, HasCounted}
use Rattle.pd_smwrite.specs.Map.{CountsOwn}

pub own_none : (place : ℕ) (counts : Counted) → CountsOwn place 0 counts counts
own_none place counts = record {
  size = refl;
  own = λ b from below. absurd (omega arith);
  others = λ b outside. refl;
  listed = λ named counted. subst (HasCounted counts) (sym (append-nil named)) counted;
}

pub own_then : (place m n : ℕ) {old mid new : Counted} → CountsOwn place m old mid → CountsOwn (place + m) n mid new → CountsOwn place (m + n) old new
own_then place m n {old} {mid} {new} first second = record {
  size = second.size ∙ first.size;
  own = λ b from below. elim (cases_lt b (place + m)) [
    | inl less ↦ second.others b (inl less) ∙ first.own b from less
    | inr more ↦ second.own b more (omega arith)
  ];
  others = λ b outside. ⊎_elim
      (λ before. second.others b (inl (omega arith)) ∙ first.others b (inl before))
      (λ behind. second.others b (inr (omega arith)) ∙ first.others b (inr (omega arith)))
      outside;
  listed = λ named counted. subst (HasCounted new)
      (append_assoc named (range_with_len place m) (range_with_len (place + m) n) ∙ ap (λ (row : List ℕ). named ++ row) (sym (range_split place m n)))
      (second.listed (named ++ range_with_len place m) (first.listed named counted));
}

pub own_at : {place number place' number' : ℕ} {old new : Counted} → place ≡ place' → number ≡ number' → CountsOwn place number old new → CountsOwn place' number' old new
own_at {place} {number} {place'} {number'} {old} {new} at is own =
    subst (λ (n : ℕ). CountsOwn place' n old new) is (subst (λ (p : ℕ). CountsOwn p number old new) at own)

-- where none was counted, the counts that two bits don't hold stay
pub own_agrees : (place number : ℕ) {old new : Counted} → CountsOwn place number old new
    → ((b : ℕ) → place ≤ b → b < place + number → count_of old b ≡ 0) → (b : ℕ)
    → (count_of new b ≡ count_of old b) ⊎ ((count_of new b < 3) × (count_of old b < 3))
own_agrees place number {old} {new} own none b = elim (cases_lt b place) [
  | inl before ↦ inl (own.others b (inl before))
  | inr from ↦ elim (cases_lt b (place + number)) [
    | inl below ↦
        let one = own.own b from below in
        let zero = none b from below in
        inr (omega arith, omega arith)
    | inr behind ↦ inl (own.others b (inr behind))
  ]
]
