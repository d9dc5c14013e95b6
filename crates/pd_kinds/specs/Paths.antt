-- Reachable pairs by paths: a first pair, and what an edge of a reachable pair leads to.
use Rattle.std.specs.Prelude.{◌≡◌, ℕ, ◌<◌, ◌==◌, true, List}
use Rattle.std.specs.List.{list_any}

-- the pair is at the end of some path from the first pair, whose edges start at pairs below n
pub data IsOnPathFrom (n : ℕ) (step : ℕ → List ℕ) (first : ℕ) : ℕ → Type 0 where
  start : IsOnPathFrom n step first first
  edge : (q p : ℕ) → q < n → IsOnPathFrom n step first q → list_any (λ t. t == p) (step q) ≡ true → IsOnPathFrom n step first p

-- the pair is at the end of some path from pair 0, the superblock
abbrev pub IsOnPath : ℕ → (ℕ → List ℕ) → ℕ → Type 0
IsOnPath n step p = IsOnPathFrom n step 0 p
