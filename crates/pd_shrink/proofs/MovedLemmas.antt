-- Moved data blocks that are copied one after another.
use Rattle.std.proofs.Common.{◌≡◌, inl, inr, ℕ, zero, suc, ◌+◌, ◌-◌, ◌*◌, ◌<◌, ◌≤◌, min, true, eqb, false, List, [], ◌∷◌, ◌++◌, length, get_or, map, take, Option, Some, None, IfSome, refl, sym, ap, ◌∙◌, subst, arith}
use Rattle.std.specs.List.{AllByRecursion, list_any, slice_get}
use Rattle.std.specs.Option.{is_some, option_and_then, unwrap_or}
use Rattle.std.proofs.Math.Nat.{mul-le-mul_right}
use Rattle.std.proofs.lemmas.Bool.{and_right, both_ways, cases_lt, eq-eqb, false_from_ne_true, le-ltb}
use Rattle.std.proofs.lemmas.List.{get_or-map, length-map, take_all, take_more}
use Rattle.std.proofs.lemmas.List.Elements.{All-from_recursion}
use Rattle.std.proofs.lemmas.List.Folds.{list_any_at}
use Rattle.std.proofs.lemmas.Option.{same_Some, slice_get-get_or, unwrap_or-slice_get}
use Rattle.pd_kinds.specs.Graph.{block_at}
use Rattle.pd_kinds.proofs.CrashLemmas.{Image}
use Rattle.pd_answers.specs.Writebacks.{CachedBlock, fast_place, overlaid, stands_for}
use Rattle.pd_answers.specs.Shrinks.{copy_of_move, data_after}
use Rattle.pd_writeback.specs.Copied.{IsCopied}
use Rattle.pd_writeback.proofs.OverlaidLemmas.{copied_more, copied_none, between, one_more_overlaid, one_stands, overlaid_at, overlaid_length, overlaid_none, stands_some}
use Rattle.pd_shrink.specs.Moves.{AreApart, AreOnce, IsAcross, move_in, moves_in}
use Rattle.pd_shrink.specs.declared.moves.MovedBlock.{MovedBlock}

abbrev pub copy_in : MovedBlock → CachedBlock
copy_in x = copy_of_move (move_in x)

abbrev pub copies : List MovedBlock → List CachedBlock
copies moves = map copy_of_move (moves_in moves)

-- where no block is
abbrev pub no_move : MovedBlock
no_move = record { source = 0; target = 0 }

-- the copy of one among the moves
copy_at : (moves : List MovedBlock) (i : ℕ) → i < length moves → get_or (copies moves) i (copy_in no_move) ≡ copy_in (get_or moves i no_move)
copy_at moves i within =
    get_or-map copy_of_move (moves_in moves) i (move_in no_move) (copy_in no_move) (rw (length-map moves move_in) within)
    ∙ ap copy_of_move (get_or-map move_in moves i no_move (move_in no_move) within)

inside : (moves : List MovedBlock) (i : ℕ) → i < length moves → i < length (copies moves)
inside moves i within = rw (length-map (moves_in moves) copy_of_move, length-map moves move_in) within

-- what a moved block's target has is a target's
pub covers : (k : ℕ) (moves : List MovedBlock) (i : ℕ) → i < length moves → (b : ℕ) → stands_for k (copy_in (get_or moves i no_move)) b ≡ true → stands_some k (copies moves) b ≡ true
covers k moves i within b stands =
    one_stands k (copies moves) i (copy_in no_move) b (inside moves i within) (subst (λ (c : CachedBlock). stands_for k c b ≡ true) (sym (copy_at moves i within)) stands)

-- one among the moves goes across the end
pub across_at : (k blocks : ℕ) (moves : List MovedBlock) (i : ℕ) → i < length moves → (apart : AreApart k blocks moves) → IsAcross k blocks apart.end (get_or moves i no_move)
across_at k blocks moves i within apart = All-from_recursion (IsAcross k blocks apart.end) moves apart.across i no_move within

-- and its target lies before its source
pub target_before : (k blocks end : ℕ) (x : MovedBlock) → IsAcross k blocks end x → (x.target + 1) * k ≤ x.source * k
target_before k blocks end x across =
    let to = across.to in
    let from = across.from in
    mul-le-mul_right k (let less : x.target + 1 ≤ x.source = omega arith in less)

-- past the end there is no target
past_targets : (k blocks end : ℕ) (moves : List MovedBlock) (i b : ℕ) → AllByRecursion (IsAcross k blocks end) moves → end * k ≤ b → fast_place k (take i (copies moves)) b ≡ None
unfolding fast_place
past_targets k blocks end moves zero b across past = refl
past_targets k blocks end [] (suc i) b across past = refl
past_targets k blocks end (x ∷ moves) (suc i) b across past =
    let to = across.0.to in
    let most = mul-le-mul_right k (let less : x.target + 1 ≤ end = omega arith in less) in
    rw (isnt (omega arith)) (past_targets k blocks end moves i b across.1 past)
  where
    isnt : (x.target + 1) * k ≤ b → stands_for k (copy_in x) b ≡ false
    isnt above = and_right _ _ (le-ltb b ((x.target + 1) * k) above)

-- blocks that stand for the same one have one place
same_target : (k b : ℕ) (c d : CachedBlock) → stands_for k c b ≡ true → stands_for k d b ≡ true → c.origin_block ≡ d.origin_block
same_target k b c d first second =
    let one = between k c b first in
    let other = between k d b second in
    let low = not_above c.origin_block d.origin_block one.0 other.1 in
    let high = not_above d.origin_block c.origin_block other.0 one.1 in
    omega arith
  where
    not_above : (x y : ℕ) → x * k ≤ b → b < (y + 1) * k → x ≤ y
    not_above x y low high = elim (cases_lt y x) [
      | inl less ↦ let more = mul-le-mul_right k (let next : y + 1 ≤ x = omega arith in next) in absurd (omega arith)
      | inr most ↦ most
    ]

-- no target comes twice, so what one has is none's before it
none_before : (k b : ℕ) (moves : List MovedBlock) (i : ℕ) → i < length moves → AreOnce moves → stands_for k (copy_in (get_or moves i no_move)) b ≡ true
    → fast_place k (take i (copies moves)) b ≡ None
unfolding fast_place
none_before k b moves zero within once stands = refl
none_before k b [] (suc i) within once stands = absurd (omega arith)
none_before k b (x ∷ moves) (suc i) within once stands =
    let within' : i < length moves = omega arith in
    rw (other within') (none_before k b moves i within' once.1 stands)
  where
    other : i < length moves → stands_for k (copy_in x) b ≡ false
    other within' = false_from_ne_true (stands_for k (copy_in x) b) (λ also.
        both_ways (list_any (λ (y : MovedBlock). eqb y.target x.target) moves) once.0
        (list_any_at (λ (y : MovedBlock). eqb y.target x.target) moves i no_move within'
        (eq-eqb (get_or moves i no_move).target x.target (same_target k b (copy_in (get_or moves i no_move)) (copy_in x) stands also))))

-- what is no target's is as it was
kept_at : (k : ℕ) (cs : List CachedBlock) (held : Image) (b : ℕ) → b < length held → fast_place k cs b ≡ None → slice_get (overlaid k cs held held) b ≡ slice_get held b
kept_at k cs held b within none =
    slice_get-get_or (overlaid k cs held held) b [] (rw (overlaid_length k cs held held) within)
    ∙ (ap (λ (x : List ℕ). Some x) (overlaid_at k cs held held b within
    ∙ (ap (λ (o : Option ℕ). unwrap_or (option_and_then (slice_get held) o) (block_at held b)) none ∙ unwrap_or-slice_get held b []))
    ∙ sym (slice_get-get_or held b [] within))

-- one data block more
module _ (k i : ℕ) (moves : List MovedBlock) (held mid new : Image) (within : i < length moves) (apart : AreApart k (length held) moves)
    (before : mid ≡ overlaid k (take i (copies moves)) held held)
    (next : IsCopied ((get_or moves i no_move).source * k) ((get_or moves i no_move).target * k) k mid mid new) where
  across : IsAcross k (length held) apart.end (get_or moves i no_move)
  across = across_at k (length held) moves i within apart

  -- the source still has what it had
  source_kept : (j : ℕ) → j < k → slice_get mid ((get_or moves i no_move).source * k + j) ≡ slice_get held ((get_or moves i no_move).source * k + j)
  source_kept j less =
      let s = (get_or moves i no_move).source in
      let low = mul-le-mul_right k across.from in
      let high = across.inside in
      let last : (s + 1) * k ≡ s * k + k = omega arith in
      ap (λ (m : Image). slice_get m (s * k + j)) before
      ∙ kept_at k (take i (copies moves)) held (s * k + j) (omega arith) (past_targets k (length held) apart.end moves i (s * k + j) apart.across (omega arith))

  from_held : IsCopied ((get_or moves i no_move).source * k) ((get_or moves i no_move).target * k) (min k (length held - (get_or moves i no_move).target * k)) held mid new
  from_held =
      let t = (get_or moves i no_move).target in
      let s = (get_or moves i no_move).source in
      let first = target_before k (length held) apart.end (get_or moves i no_move) across in
      let high = across.inside in
      let last : (s + 1) * k ≡ s * k + k = omega arith in
      let last' : (t + 1) * k ≡ t * k + k = omega arith in
      let all : k ≡ min k (length held - t * k) = omega arith in
      subst (λ (n : ℕ). IsCopied (s * k) (t * k) n held mid new) all
      (record { number = next.number; copied = λ j less. next.copied j less ∙ source_kept j less; others = next.others })

  pub one_more : new ≡ overlaid k (take (i + 1) (copies moves)) held held
  one_more =
      let c = copy_in (get_or moves i no_move) in
      one_more_overlaid k (take i (copies moves)) c held held mid new before from_held across.inside (λ b stands. none_before k b moves i within apart.once stands)
      ∙ ap (λ (cs : List CachedBlock). overlaid k cs held held)
      (ap (λ (c : CachedBlock). take i (copies moves) ++ c ∷ []) (sym (copy_at moves i within)) ∙ sym (take_more (copies moves) i (copy_in no_move) (inside moves i within)))

pub moved_more : (k blocks i : ℕ) (moves : List MovedBlock) (old mid new : Option Image) → i < length moves → AreApart k blocks moves → IfSome old (λ held. length held ≡ blocks)
    → is_some mid ≡ is_some old → is_some new ≡ is_some mid → IfSome old (λ held. mid ≡ Some (overlaid k (take i (copies moves)) held held))
    → IfSome mid (λ m. IfSome new (IsCopied ((get_or moves i no_move).source * k) ((get_or moves i no_move).target * k) k m m))
    → IfSome old (λ held. new ≡ Some (overlaid k (take (i + 1) (copies moves)) held held))
moved_more k blocks i moves None mid new within apart number told told' before next = tt
moved_more k blocks i moves (Some held) None new within apart number told told' before next = cc
moved_more k blocks i moves (Some held) (Some mid) None within apart number told told' before next = cc
moved_more k blocks i moves (Some held) (Some mid) (Some new) within apart number told told' before next =
    ap (λ (j : Image). Some j)
    (one_more k i moves held mid new within (subst (λ (n : ℕ). AreApart k n moves) (sym number) apart) (same_Some mid (overlaid k (take i (copies moves)) held held) before) next)

pub moved_none : (k : ℕ) (old : Option Image) → IfSome old (λ held. old ≡ Some (overlaid k [] held held))
moved_none k None = tt
moved_none k (Some held) = ap (λ (j : Image). Some j) (overlaid_none k held held)

-- all were copied
pub moved_all : (k i : ℕ) (moves : List MovedBlock) (old new : Option Image) → length moves ≤ i → IfSome old (λ held. new ≡ Some (overlaid k (take i (copies moves)) held held))
    → IfSome old (λ held. new ≡ Some (data_after k (moves_in moves) held))
unfolding data_after
moved_all k i moves None new all before = tt
moved_all k i moves (Some held) new all before =
    before ∙ ap (λ (cs : List CachedBlock). Some (overlaid k cs held held)) (take_all i (copies moves) (rw (length-map (moves_in moves) copy_of_move, length-map moves move_in) all))

-- one block of a data block more
pub row_more : (from to i : ℕ) (old mid new : Option Image) → to + i ≤ from → is_some mid ≡ is_some old → IfSome old (λ held. IfSome mid (IsCopied from to i held held))
    → IfSome mid (λ m. IfSome new (IsCopied (from + i) (to + i) 1 m m)) → IfSome old (λ held. IfSome new (IsCopied from to (i + 1) held held))
row_more from to i None mid new apart told before next = tt
row_more from to i (Some held) None new apart told before next = cc
row_more from to i (Some held) (Some mid) None apart told before next = tt
row_more from to i (Some held) (Some mid) (Some new) apart told before next =
    copied_more from to i (Some held) (Some held) (Some held) (Some mid) (Some new) refl refl before
    (record { number = next.number; copied = λ j one. next.copied j one ∙ before.others (from + i + j) (inr (omega arith)); others = next.others })

pub row_none : (from to : ℕ) (old : Option Image) → IfSome old (λ held. IfSome old (IsCopied from to 0 held held))
row_none from to None = tt
row_none from to (Some held) = copied_none from to (Some held) (Some held)
