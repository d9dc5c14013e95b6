-- The need of small maps.
use Rattle.std.proofs.Common.{◌≡◌, ℕ, ◌≤◌, List, [], ◌∷◌, refl, ◌∙◌, ap, arith}
use Rattle.std.proofs.Math.Path.{fun_ext}
use Rattle.std.proofs.lemmas.Bool.{ne_eqb}
use Rattle.pd_grammar.specs.Need.{need_above, nodes_of_tree}
use Rattle.pd_laid.specs.Laid.{count_in, overflow_items}
use Rattle.pd_count.specs.Counted.{Counted, HasCounted, count_of}
use Rattle.pd_smwrite.specs.Map.{data_map_need, meta_map_need}

pub no_data_need : (counts : ℕ → ℕ) (n : ℕ) → n ≡ 0 → data_map_need counts n ≡ 2
unfolding data_map_need nodes_of_tree need_above overflow_items
no_data_need counts n none = rw none refl

-- block 0 once, and block 1 three times
abbrev four : List ℕ
four = 0 ∷ 1 ∷ 1 ∷ 1 ∷ []

four_need : meta_map_need (count_in four) 16 ≡ 3
unfolding meta_map_need nodes_of_tree need_above overflow_items
four_need = refl

pub small_need : (counts : Counted) → counts.size ≡ 16 → HasCounted counts (0 ∷ 1 ∷ 1 ∷ 1 ∷ []) → meta_map_need (count_of counts) counts.size ≡ 3
small_need counts size counted =
    ap (meta_map_need (count_of counts)) size ∙ (ap (λ (f : ℕ → ℕ). meta_map_need f 16) (fun_ext counted) ∙ four_need)

others_none : (b : ℕ) → 2 ≤ b → count_in four b ≡ 0
others_none b past = rw (ne_eqb 0 b (omega arith), ne_eqb 1 b (omega arith)) refl

pub none_past : (counts : Counted) → HasCounted counts (0 ∷ 1 ∷ 1 ∷ 1 ∷ []) → (b : ℕ) → 2 ≤ b → count_of counts b ≡ 0
none_past counts counted b past = counted b ∙ others_none b past
