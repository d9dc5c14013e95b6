-- The lines of an era target: its runs, and what they come to without faults.
use Rattle.std.proofs.Common.{◌≡◌, ℕ, ◌+◌, ◌≤◌, List, [], ◌∷◌, ◌++◌, length, map, Option, IfSome, refl, sym, ap, ◌∙◌, arith, zero, suc, ◌<◌, nat_lt, true, false, ◌&&◌, eqb, take, get_or, ap₂}
use Rattle.std.proofs.lemmas.List.{map-id, append-nil, map_more}
use Rattle.std.proofs.lemmas.List.Concat.{flat_map-append}
use Rattle.std.proofs.lemmas.Bool.{and_parts, eqb-true, lt-ltb}
use Rattle.pd_kinds.specs.declared.kind.Kind.TheVariants.{Era}
use Rattle.pd_kinds.specs.declared.kind.Stage.TheVariants.{Order, Walk, Whole}
use Rattle.pd_kinds.specs.EraFormat.{EraFields, era_fields}
use Rattle.pd_kinds.specs.Graph.{block_at}
use Rattle.pd_kinds.specs.Meaning.{era_meaning}
use Rattle.pd_kinds.specs.Stages.{HasCleanSuper, era_checked, faults}
use Rattle.pd_kinds.proofs.ResultLemmas.{if_both}
use Rattle.pd_kinds.proofs.CleanLemmas.{clean_super_where_none}
use Rattle.pd_grammar.specs.Texts.{text_of_lines, written}
use Rattle.pd_grammar.specs.EraText.{Line, Stretch, end_line, era, joined_eras, run_lines, text_of_era, eras_from}
use Rattle.pd_texts.specs.ThinLine.{end_text}
use Rattle.pd_texts_kinds.proofs.EraLemmas.{Changes, joined-same}
use Rattle.pd_meaning_era.specs.Eras.{GivesEras, eras_below}
use Rattle.pd_query.proofs.QueryLemmas.{one_told}
use Rattle.pd_dumps.specs.EraLines.{era_dump_text, rest_text, run_text, printed_from, runs_of}

-- what is printed of the runs is their lines
runs_are : (first : ℕ) (stretches : List Stretch) → printed_from run_text first stretches ≡ text_of_lines era (run_lines first stretches)
runs_are first [] = refl
runs_are first (s ∷ stretches) = ap (λ (xs : List ℕ). run_text first s.length s.era ++ xs) (runs_are (first + s.length) stretches)

-- the lines of the runs, and the last one
pub last_line : (eras : List ℕ) → rest_text eras ≡ runs_of run_text (map (λ (e : ℕ). e) eras) ++ end_text
last_line eras =
    flat_map-append (λ (line : Line). written era line ++ (10 ∷ [])) (run_lines 0 (joined_eras eras)) (end_line ∷ [])
    ∙ ap (λ (xs : List ℕ). xs ++ end_text) (sym (ap (runs_of run_text) (map-id eras) ∙ runs_are 0 (joined_eras eras)))

-- an image without faults has a block
some_if_clean : (image : List (List ℕ)) → HasCleanSuper (era_checked image) image → 1 ≤ length image
some_if_clean [] clean = absurd clean
some_if_clean (block ∷ blocks) clean = let more : 0 ≤ length blocks = omega arith in omega arith

pub has_some : (image : List (List ℕ)) → faults Era Whole image ≡ [] → 1 ≤ length image
unfolding faults
has_some image none = some_if_clean image (clean_super_where_none (era_checked image) image (Walk ∷ Order ∷ Whole ∷ []) none)

-- the text of the eras that are given is that of the meaning
pub text_is : (image : List (List ℕ)) → GivesEras image
    → era_dump_text (era_fields (block_at image 0)) (eras_below image (era_fields (block_at image 0))) ≡ text_of_era (era_meaning image)
unfolding text_of_era era_meaning
text_is image gives = ap (λ (eras : List ℕ). era_dump_text (era_fields (block_at image 0)) eras) (sym gives.eras)

-- the text over the superblock that was read, and the eras that are given of it
pub text_given : (held : Option (List (List ℕ))) (s : EraFields) (left : List (List ℕ) → List ℕ)
    → IfSome held (λ image. 1 ≤ length image → s ≡ era_fields (block_at image 0)) → IfSome held (λ image. left image ≡ eras_below image s)
    → IfSome held (λ image. 1 ≤ length image → era_dump_text s (left image) ≡ era_dump_text (era_fields (block_at image 0)) (eras_below image (era_fields (block_at image 0))))
text_given held s left read given = if_both held (λ image read given some.
    ap (λ (es : List ℕ). era_dump_text s es) given ∙ ap (λ (fields : EraFields). era_dump_text fields (eras_below image fields)) (read some)) read given

pub text_means : (held : Option (List (List ℕ))) (text : List (List ℕ) → List ℕ)
    → IfSome held (λ image. 1 ≤ length image → text image ≡ era_dump_text (era_fields (block_at image 0)) (eras_below image (era_fields (block_at image 0))))
    → ((image : List (List ℕ)) → faults Era Whole image ≡ [] → era_dump_text (era_fields (block_at image 0)) (eras_below image (era_fields (block_at image 0))) ≡ text_of_era (era_meaning image))
    → IfSome held (λ image. faults Era Whole image ≡ [] → text image ≡ text_of_era (era_meaning image))
text_means held text given law = one_told held (λ image given none. given (has_some image none) ∙ law image none) given

-- The run that is open, and the values of the blocks behind it.

-- the blocks of one era, with more of them
pub grown : (e n k : ℕ) (later : List ℕ) → eras_from e n ++ (eras_from e k ++ later) ≡ eras_from e (n + k) ++ later
grown e zero k later = let sum : 0 + k ≡ k = omega arith in rw sum refl
grown e (suc n) k later = let sum : suc n + k ≡ suc (n + k) = omega arith in rw sum (ap (λ (es : List ℕ). e ∷ es) (grown e n k later))

-- a run, and then one of another era
other_follows : (a b k : ℕ) (later : List ℕ) → 1 ≤ k → eqb a b ≡ false → Changes a (eras_from b k ++ later)
other_follows a b zero later some other = absurd (omega arith)
other_follows a b (suc k) later some other = other

-- one block more of the same value
pub value_more : (f : ℕ → ℕ) (eras : List ℕ) (v i : ℕ) → i < length eras → f (get_or eras i 0) ≡ v → map f (take i eras) ≡ eras_from v i → map f (take (i + 1) eras) ≡ eras_from v (i + 1)
value_more f eras v i within is same =
    map_more f eras i 0 within ∙ (ap₂ (λ (xs : List ℕ) (x : ℕ). xs ++ (x ∷ [])) same is ∙ (grown v i 1 [] ∙ append-nil (eras_from v (i + 1))))

module _ (line : ℕ → ℕ → ℕ → List ℕ) where
  -- what is printed from a block on
  abbrev text : ℕ → List ℕ → List ℕ
  text first values = printed_from line first (joined_eras values)

  -- a run alone
  pub only_line : (first n e : ℕ) → 1 ≤ n → text first (eras_from e n ++ []) ≡ line first n e
  only_line first n e some = rw (joined-same e n [] some tt) (append-nil (line first n e))

  -- a run, and blocks that belong to it
  pub run_grows : (first n a b k : ℕ) (later : List ℕ) → (nat_lt 0 n && eqb a b) ≡ true → text first (eras_from a n ++ (eras_from b k ++ later)) ≡ text first (eras_from a (n + k) ++ later)
  run_grows first n a b k later grows =
      let same : a ≡ b = eqb-true a b (and_parts (nat_lt 0 n) (eqb a b) grows).1 in
      ap (text first) (ap (λ (e : ℕ). eras_from a n ++ (eras_from e k ++ later)) (sym same) ∙ grown a n k later)

  -- a run, and blocks that don't
  pub run_ends : (first n a b k : ℕ) (later : List ℕ) → 1 ≤ k → (nat_lt 0 n && eqb a b) ≡ false
      → text first (eras_from a n ++ (eras_from b k ++ later)) ≡ text first (eras_from a n ++ []) ++ text (first + n) (eras_from b k ++ later)
  run_ends first zero a b k later some other = let e : first + 0 ≡ first = omega arith in rw e refl
  run_ends first (suc n) a b k later some other =
      let longer : nat_lt 0 (suc n) ≡ true = lt-ltb 0 (suc n) (omega arith) in
      let apart : eqb a b ≡ false = rw longer at other in
      rw (joined-same a (suc n) (eras_from b k ++ later) (omega arith) (other_follows a b k later some apart), joined-same a (suc n) [] (omega arith) tt)
      (ap (λ (xs : List ℕ). xs ++ text (first + suc n) (eras_from b k ++ later)) (sym (append-nil (line first (suc n) a))))
