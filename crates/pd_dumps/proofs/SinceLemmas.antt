-- The lines of what was written since an era, over the superblock and the eras that are given.
use Rattle.std.proofs.Common.{◌≡◌, ℕ, List, ap, ap₂, ◌∙◌, ◌≤◌, max, inl, inr, zero, suc, ◌+◌, ◌-◌, ◌<◌, ◌==◌, ◌&&◌, ◌||◌, not, Bool, true, false, nat_eq, nat_lt, eqb, if◌then◌else◌, [], ◌∷◌, ◌++◌, length, get_or, drop, map, refl, sym, arith, drop-cons}
use Rattle.std.specs.List.{prefix_len, range_with_len}
use Rattle.std.proofs.Math.Bool.{and-false}
use Rattle.std.proofs.lemmas.Bool.{cases_Bool, cases_lt, le-ltb, lt-ltb}
use Rattle.std.proofs.lemmas.List.{append-nil, drop_all}
use Rattle.std.proofs.lemmas.List.Folds.{length-prefix_len}
use Rattle.pd_kinds.specs.declared.superblocks.EraSuper.{EraSuper}
use Rattle.pd_kinds.specs.EraFormat.{era_fields}
use Rattle.pd_kinds.specs.Graph.{block_at}
use Rattle.pd_kinds.specs.Meaning.{era_meaning}
use Rattle.pd_grammar.proofs.GrammarLemmas.{not_empty}
use Rattle.pd_grammar.specs.EraText.{eras_from, joined_eras}
use Rattle.pd_answers.specs.QueryLines.{since_lines, is_since, run_line}
use Rattle.pd_meaning_era.specs.Eras.{eras_below, from_era}
use Rattle.pd_dumps.specs.SinceLines.{since_text, line_bytes, side, since_line, since_of}
use Rattle.pd_dumps.specs.EraLines.{printed_from, runs_of}
use Rattle.pd_dumps.proofs.EraLemmas.{grown, only_line, run_ends}

-- the lines of the eras that are given are those of the meaning
given_lines : (since : ℕ) (image : List (List ℕ)) → eras_below image (era_fields (block_at image 0)) ≡ (era_meaning image).eras
    → since_text since (eras_below image (era_fields (block_at image 0))) ≡ since_lines since (era_meaning image)
unfolding since_lines
given_lines since image same = ap (λ (eras : List ℕ). since_text since eras) same

-- those over the superblock that is the image's own
pub lines_are : (since : ℕ) (s : EraSuper) (image : List (List ℕ)) → s ≡ era_fields (block_at image 0) → eras_below image (era_fields (block_at image 0)) ≡ (era_meaning image).eras
    → since_text since (eras_below image s) ≡ since_lines since (era_meaning image)
lines_are since s image own same = ap (λ (fields : EraSuper). since_text since (eras_below image fields)) own ∙ given_lines since image same

-- The lines of the runs of blocks written since an era are printed run by run.

-- the line of the run that ends, if there is one
abbrev end_text : ℕ → ℕ → List ℕ
end_text first zero = []
end_text first (suc n) = line_bytes first (suc n)

-- the lines block by block, where a run of so many blocks is open
abbrev walked : ℕ → ℕ → ℕ → List ℕ → List ℕ
walked since first number [] = end_text first number
walked since first number (era ∷ eras) =
    if is_since since era then walked since first (suc number) eras else end_text first number ++ walked since (suc (first + number)) 0 eras

-- one block
one_written : (since first n era : ℕ) (eras : List ℕ) → is_since since era ≡ true → walked since first n (era ∷ eras) ≡ walked since first (suc n) eras
one_written since first n era eras is = rw is refl

one_other : (since first n era : ℕ) (eras : List ℕ) → is_since since era ≡ false → walked since first n (era ∷ eras) ≡ end_text first n ++ walked since (suc (first + n)) 0 eras
one_other since first n era eras is = rw is refl

module _ (since : ℕ) (eras : List ℕ) where
  -- the block before one was written before the era, or there is none
  abbrev starts : ℕ → Bool
  starts b = (b == 0) || not (is_since since (get_or eras (b - 1) 0))

  starts_next : (b : ℕ) (written : Bool) → is_since since (get_or eras b 0) ≡ written → starts (suc b) ≡ not written
  starts_next b written is = let e : suc b - 1 ≡ b = omega arith in rw (e, is, not_empty b) refl

  -- the line of the run that is open
  abbrev open_line : ℕ → ℕ → List ℕ
  open_line first zero = []
  open_line first (suc n) = run_line since eras first

  -- it is the run's, where no later block belongs to it
  line_is : (first n : ℕ) → prefix_len (is_since since) (drop first eras) ≡ n → end_text first n ≡ open_line first n
  line_is first zero counted = refl
  line_is first (suc n) counted = ap (line_bytes first) (sym (length-prefix_len (is_since since) (drop first eras) ∙ counted))

  -- the lines of the block that is next, behind the line of the open run
  written_next : (b first n : ℕ) (blocks : List ℕ) → first + n ≡ b → is_since since (get_or eras b 0) ≡ true → starts b ≡ nat_eq n 0
      → open_line first (suc n) ++ since_of since eras blocks ≡ open_line first n ++ since_of since eras (b ∷ blocks)
  written_next b first zero blocks place is begins = let e : first ≡ b = omega arith in rw (is, begins, e) refl
  written_next b first (suc n) blocks place is begins = rw (is, begins, not_empty n) refl

  -- a block that was written before the era begins none
  other_next : (b : ℕ) (blocks : List ℕ) → is_since since (get_or eras b 0) ≡ false → since_of since eras (b ∷ blocks) ≡ since_of since eras blocks
  other_next b blocks is = rw is refl

  -- the lines from a block on: that of the open run, and those that begin with a later block
  follows : (m b first n : ℕ) → b + m ≡ length eras → first + n ≡ b → prefix_len (is_since since) (drop first eras) ≡ n + prefix_len (is_since since) (drop b eras) → starts b ≡ nat_eq n 0
      → walked since first n (drop b eras) ≡ open_line first n ++ since_of since eras (range_with_len b m)
  follows zero b first n all place counted begins =
      let none : drop b eras ≡ [] = drop_all b eras (omega arith) in
      let whole : prefix_len (is_since since) (drop first eras) ≡ n + 0 = counted ∙ ap (λ (xs : List ℕ). n + prefix_len (is_since since) xs) none in
      rw none (line_is first n (omega arith) ∙ sym (append-nil (open_line first n)))
  follows (suc m) b first n all place counted begins =
      let within : b < length eras = omega arith in
      let cons = drop-cons eras b 0 within in
      let next : b + 1 ≡ suc b = omega arith in
      elim (cases_Bool (is_since since (get_or eras b 0))) [
        | inl is ↦
            let here : prefix_len (is_since since) (drop b eras) ≡ 1 + prefix_len (is_since since) (drop (suc b) eras) = rw (cons, is) refl in
            let rest = follows m (suc b) first (suc n) (omega arith) (omega arith) (omega arith) (starts_next b true is ∙ sym (not_empty n)) in
            rw (cons, next) (one_written since first n (get_or eras b 0) (drop (suc b) eras) is ∙ rest ∙ written_next b first n (range_with_len (suc b) m) place is begins)
        | inr is ↦
            let here : prefix_len (is_since since) (drop b eras) ≡ 0 = rw (cons, is) refl in
            let rest = follows m (suc b) (suc b) 0 (omega arith) (omega arith) (omega arith) (starts_next b false is) in
            let behind : suc (first + n) ≡ suc b = ap (λ (c : ℕ). suc c) place in
            let blocks = range_with_len (suc b) m in
            rw (cons, next) (one_other since first n (get_or eras b 0) (drop (suc b) eras) is
            ∙ ap (λ (c : ℕ). end_text first n ++ walked since c 0 (drop (suc b) eras)) behind
            ∙ ap (λ (xs : List ℕ). end_text first n ++ xs) rest
            ∙ ap (λ (xs : List ℕ). xs ++ since_of since eras blocks) (line_is first n (omega arith))
            ∙ ap (λ (xs : List ℕ). open_line first n ++ xs) (sym (other_next b blocks is)))
      ]

  all_walked : walked since 0 0 eras ≡ since_of since eras (range_with_len 0 (length eras))
  all_walked = follows (length eras) 0 0 0 (omega arith) refl (omega arith) refl

-- an open run, behind which no block comes
last : (since first n : ℕ) → (printed_from since_line first (joined_eras (eras_from 1 n ++ [])) ≡ end_text first n) × (printed_from since_line first (joined_eras (eras_from 0 n ++ [])) ≡ [])
last since first zero = (refl, refl)
last since first (suc n) = (only_line since_line first (suc n) 1 (omega arith), only_line since_line first (suc n) 0 (omega arith))

-- what is printed from an open run on, of blocks written since the era and of others, is what the walk gives
runs_walked : (since first n : ℕ) (eras : List ℕ) → (printed_from since_line first (joined_eras (eras_from 1 n ++ map (side since) eras)) ≡ walked since first n eras)
    × (printed_from since_line first (joined_eras (eras_from 0 n ++ map (side since) eras)) ≡ walked since (first + n) 0 eras)
runs_walked since first n [] = last since first n
runs_walked since first n (x ∷ eras) =
    let later = map (side since) eras in
    let text = λ (values : List ℕ). printed_from since_line first (joined_eras values) in
    let longer = runs_walked since first (suc n) eras in
    let after = runs_walked since (first + n) 1 eras in
    let ends = λ (a b : ℕ) (apart : (nat_lt 0 n && eqb a b) ≡ false). run_ends since_line first n a b 1 later (omega arith) apart in
    let only = last since first n in
    let more : n + 1 ≡ suc n = omega arith in
    let behind : first + n + 1 ≡ suc (first + n) = omega arith in
    let none : first + suc n ≡ suc (first + n + 0) = omega arith in
    elim (cases_Bool (is_since since x)) [
      | inl is ↦
          rw is (ap text (rw more at (grown 1 n 1 later)) ∙ longer.0, ends 0 1 (and-false (nat_lt 0 n)) ∙ rw (only.1, after.0) refl)
      | inr is ↦
          rw is (ends 1 0 (and-false (nat_lt 0 n)) ∙ rw (only.0, after.1, behind) refl, ap text (rw more at (grown 0 n 1 later)) ∙ rw none at longer.1)
    ]

-- all lines
pub all_lines : (since : ℕ) (eras : List ℕ) → since_text since eras ≡ runs_of since_line (map (side since) eras)
all_lines since eras = sym (all_walked since eras) ∙ sym (runs_walked since 0 0 eras).0

-- Eras that are the same from one on have the same lines.

side_from : (since era : ℕ) → side since (from_era since era) ≡ side since era
side_from since era = elim (cases_lt era since) [
  | inl earlier ↦ let still : max (since - 1) era < since = omega arith in rw (lt-ltb era since earlier, lt-ltb (max (since - 1) era) since still) refl
  | inr from ↦ let still : since ≤ max (since - 1) era = omega arith in rw (le-ltb era since from, le-ltb (max (since - 1) era) since still) refl
]

sides_from : (since : ℕ) (eras : List ℕ) → map (side since) (map (from_era since) eras) ≡ map (side since) eras
sides_from since [] = refl
sides_from since (era ∷ eras) = ap₂ (λ (x : ℕ) (xs : List ℕ). x ∷ xs) (side_from since era) (sides_from since eras)

pub same_lines : (since : ℕ) (left eras : List ℕ) → map (from_era since) left ≡ map (from_era since) eras → since_text since left ≡ since_text since eras
same_lines since left eras same =
    all_lines since left
    ∙ (ap (runs_of since_line) (sym (sides_from since left) ∙ (ap (map (side since)) same ∙ sides_from since eras)) ∙ sym (all_lines since eras))
