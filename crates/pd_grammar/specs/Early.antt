-- Trusted base.
-- Whether the first two lines of a text decide what becomes of it: one of them is refused, or they need more blocks
-- than there are.
use Rattle.std.specs.Prelude.{ℕ, nat_lt, Bool, true, List, [], ◌∷◌}
use Rattle.pd_grammar.specs.Texts.{reading}
use Rattle.pd_grammar.specs.CacheText.{cache, cache_need_so_far}
use Rattle.pd_grammar.specs.EraText.{era, era_need_so_far}

-- by the lines that are read, and the need of lines
abbrev pub is_decided_early : {L : Type 0} → (List L → ℕ) → ℕ → List L → Bool
is_decided_early need room (first ∷ second ∷ lines) = nat_lt room (need (second ∷ first ∷ []))
is_decided_early need room (first ∷ []) = true
is_decided_early need room [] = true

abbrev pub is_cache_early : ℕ → List ℕ → ℕ → Bool
is_cache_early version text room = is_decided_early (cache_need_so_far version room) room (reading cache text).lines

abbrev pub is_era_early : List ℕ → ℕ → Bool
is_era_early text room = is_decided_early (era_need_so_far room) room (reading era text).lines
