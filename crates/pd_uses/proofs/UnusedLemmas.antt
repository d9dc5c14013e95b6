-- Longest runs of numbers of which something holds, as they are printed stretch after stretch.
-- What is read of an image without faults.
use Rattle.std.proofs.Common.{◌≡◌, ◌⊎◌, ◌∙◌, inl, inr, ℕ, zero, suc, ◌+◌, ◌-◌, ◌<◌, ◌≤◌, Bool, true, false, cond, not, ◌&&◌, ◌||◌, ◌==◌, nat_lt, Option, Some, None, IfSome, Result, Ok, Err, List, [], ◌∷◌, ◌++◌, length, filter, ap, sym, refl, subst, arith, eq-eqb}
use Rattle.std.specs.List.{flat_map, prefix_len, range_with_len}
use Rattle.std.proofs.Math.Bool.{and-false}
use Rattle.std.proofs.lemmas.Bool.{cases_Bool, eqb-true, ltb-false, ltb-true, ne_eqb}
use Rattle.std.proofs.lemmas.List.{append-nil}
use Rattle.std.proofs.lemmas.List.Folds.{length-prefix_len}
use Rattle.pd_kinds.specs.declared.kind.Kind.TheVariants.{Thin}
use Rattle.pd_kinds.specs.declared.kind.Stage.TheVariants.{Counts, Whole}
use Rattle.pd_kinds.specs.declared.rule.Fault.{Fault}
use Rattle.pd_kinds.specs.declared.superblocks.SmRoot.{SmRoot}
use Rattle.pd_kinds.specs.declared.superblocks.ThinSuper.{ThinSuper}
use Rattle.pd_kinds.specs.Graph.{block_at}
use Rattle.pd_kinds.specs.Stages.{faults}
use Rattle.pd_kinds.specs.ThinFormat.{thin_fields, thin_graph}
use Rattle.pd_kinds.proofs.KindLemmas.{data_blocks_are}
use Rattle.pd_kinds.proofs.ResultLemmas.{if_any, if_then}
use Rattle.pd_answers.specs.QueryLines.{unused_lines}
use Rattle.pd_lines.specs.Printing.{Printing, Prints}
use Rattle.pd_query.specs.Query.{IfSound, PrintsSome}
use Rattle.pd_query.proofs.QueryLemmas.{PrintsSoFar, prints_known, so_far_all, so_far_lost, so_far_more}
use Rattle.pd_smap.specs.Overflow.{IsOverflow}
use Rattle.pd_uses.specs.declared.stored.StoredCounts.{StoredCounts}
use Rattle.pd_uses.specs.declared.stored.Stretch.{Stretch}
use Rattle.pd_uses.specs.Stored.{AreReadUpTo, Passes, TellsStretch, is_free}
use Rattle.pd_uses.specs.Unused.{IsOpen, IsReading, IsStarted, begins, ended_line, ended_then, image_lines_left, is_unused_in, lines_from, lines_left, open_then, run_bytes, run_line, without_faults}

or_true : (t : Bool) → (t || true) ≡ true
or_true true = refl
or_true false = refl

module _ (holds : ℕ → Bool) (end : ℕ) where
  -- the lines of the runs that begin from a number on
  abbrev lines_at : ℕ → List ℕ
  lines_at at = lines_from holds end at (end - at)

  -- a run begins with a number, or none does
  starts : (b : ℕ) → holds b ≡ true → IsOpen holds b None → begins holds b ≡ true
  starts b is (inl first) = ap (λ (t : Bool). t && ((b == 0) || not (holds (b - 1)))) is ∙ ap (λ (t : Bool). t || not (holds (b - 1))) (eq-eqb b 0 first)
  starts b is (inr before) = ap (λ (t : Bool). t && ((b == 0) || not (holds (b - 1)))) is ∙ ap (λ (t : Bool). (b == 0) || not t) before ∙ or_true (b == 0)

  outside : (b : ℕ) → holds b ≡ false → begins holds b ≡ false
  outside b is = ap (λ (t : Bool). t && ((b == 0) || not (holds (b - 1)))) is

  inside : (b : ℕ) → 1 ≤ b → holds (b - 1) ≡ true → begins holds b ≡ false
  inside b some before =
      ap (λ (t : Bool). holds b && (t || not (holds (b - 1)))) (ne_eqb b 0 (λ same. omega (arith, some, same)))
      ∙ ap (λ (t : Bool). holds b && not t) before ∙ and-false (holds b)

  one_begins : (at n : ℕ) → begins holds at ≡ true → lines_from holds end at (suc n) ≡ run_line holds end at ++ lines_from holds end (at + 1) n
  one_begins at n is =
      let rest = filter (begins holds) (range_with_len (at + 1) n) in
      ap (λ (t : Bool). flat_map (run_line holds end) (cond t (at ∷ rest) rest)) is

  one_none : (at n : ℕ) → begins holds at ≡ false → lines_from holds end at (suc n) ≡ lines_from holds end (at + 1) n
  one_none at n is =
      let rest = filter (begins holds) (range_with_len (at + 1) n) in
      ap (λ (t : Bool). flat_map (run_line holds end) (cond t (at ∷ rest) rest)) is

  -- numbers with which no run begins
  none_begin : (n at m : ℕ) → ((b : ℕ) → at ≤ b → b < at + n → begins holds b ≡ false) → lines_from holds end at (n + m) ≡ lines_from holds end (at + n) m
  none_begin zero at m none =
      let same : at + 0 ≡ at = omega arith in
      let all : 0 + m ≡ m = omega arith in
      rw (same, all) refl
  none_begin (suc n) at m none =
      let same : at + suc n ≡ at + 1 + n = omega arith in
      let all : suc n + m ≡ suc (n + m) = omega arith in
      rw (same, all) (one_none at (n + m) (none at (omega arith) (omega arith)) ∙ none_begin n (at + 1) m (λ b from below. none b (omega (arith, from)) (omega (arith, below))))

  skips : (at later : ℕ) → at ≤ later → later ≤ end → ((b : ℕ) → at ≤ b → b < later → begins holds b ≡ false) → lines_at at ≡ lines_at later
  skips at later order within none =
      let whole : end - at ≡ later - at + (end - later) = omega (arith, order, within) in
      let next : at + (later - at) ≡ later = omega (arith, order) in
      ap (lines_from holds end at) whole ∙ none_begin (later - at) at (end - later) (λ b from below. none b from (omega (arith, order, below)))
      ∙ ap (λ (b : ℕ). lines_from holds end b (end - later)) next

  -- how long the run is that begins with a number
  run_length : (k first m : ℕ) → ((b : ℕ) → first ≤ b → b < first + k → holds b ≡ true) → (m ≡ 0) ⊎ (holds (first + k) ≡ false)
      → prefix_len holds (range_with_len first (k + m)) ≡ k
  run_length zero first zero all ends = refl
  run_length zero first (suc m) all (inl none) = absurd (omega (arith, none))
  run_length zero first (suc m) all (inr other) =
      let same : first ≡ first + 0 = omega arith in
      let many : 0 + suc m ≡ suc m = omega arith in
      rw many (ap (λ (t : Bool). cond t (1 + prefix_len holds (range_with_len (first + 1) m)) 0) (ap holds same ∙ other))
  run_length (suc k) first m all ends =
      let many : suc k + m ≡ suc (k + m) = omega arith in
      let next : first + suc k ≡ first + 1 + k = omega arith in
      let sum : 1 + k ≡ suc k = omega arith in
      rw many (ap (λ (t : Bool). cond t (1 + prefix_len holds (range_with_len (first + 1) (k + m))) 0) (all first (omega arith) (omega arith))
      ∙ ap (λ (n : ℕ). 1 + n) (run_length k (first + 1) m (λ b from below. all b (omega (arith, from)) (omega (arith, below))) (rw next at ends)) ∙ sum)

  ended : (first at : ℕ) → at ≤ end → IsOpen holds at (Some first) → (at ≡ end) ⊎ (holds at ≡ false) → run_line holds end first ≡ run_bytes first (at - first)
  ended first at within run ends =
      let whole : end - first ≡ at - first + (end - at) = omega (arith, within, run.0) in
      let to : first + (at - first) ≡ at = omega (arith, run.0) in
      let stops : (end - at ≡ 0) ⊎ (holds (first + (at - first)) ≡ false) = rw to (elim ends [
        | inl last ↦ inl (omega (arith, last))
        | inr other ↦ inr other
      ]) in
      ap (run_bytes first) (length-prefix_len holds (range_with_len first (end - first)) ∙ ap (λ (n : ℕ). prefix_len holds (range_with_len first n)) whole
      ∙ run_length (at - first) first (end - at) (λ b from below. run.1 b from (omega (arith, below, run.0))) stops)

  -- the open run goes on
  joined : (first at later : ℕ) → IsOpen holds at (Some first) → ((b : ℕ) → at ≤ b → b < later → holds b ≡ true) → (b : ℕ) → first ≤ b → b < later → holds b ≡ true
  joined first at later run all b from below = elim (cases_Bool (nat_lt b at)) [
    | inl before ↦ run.1 b from (ltb-true b at before)
    | inr behind ↦ all b (ltb-false b at behind) below
  ]

  -- a stretch of numbers that are alike
  pub stretch_passed : (is : Bool) (run : Option ℕ) (at later : ℕ) → at < later → later ≤ end → ((b : ℕ) → at ≤ b → b < later → holds b ≡ is) → IsOpen holds at run
      → (lines_left holds end run at ≡ ended_then is at run ++ lines_left holds end (open_then is at run) later) × IsOpen holds later (open_then is at run)
  stretch_passed true None at later order within all run =
      let many : end - at ≡ suc (end - (at + 1)) = omega (arith, order, within) in (
        ap (lines_from holds end at) many ∙ one_begins at (end - (at + 1)) (starts at (all at (omega arith) order) run)
            ∙ ap (λ (xs : List ℕ). run_line holds end at ++ xs) (skips (at + 1) later (omega (arith, order)) within (λ b from below. inside b (omega (arith, from)) (all (b - 1) (omega (arith, from)) (omega (arith, below, from))))),
        (order, all),
      )
  stretch_passed true (Some first) at later order within all run = (
    ap (λ (xs : List ℕ). run_line holds end first ++ xs) (skips at later (omega (arith, order)) within (λ b from below.
        inside b (omega (arith, from, run.0)) (joined first at later run all (b - 1) (omega (arith, from, run.0)) (omega (arith, from, below, run.0))))),
    (omega (arith, order, run.0), joined first at later run all),
  )
  stretch_passed false None at later order within all run = (
    skips at later (omega (arith, order)) within (λ b from below. outside b (all b from below)),
    inr (all (later - 1) (omega (arith, order)) (omega (arith, order))),
  )
  stretch_passed false (Some first) at later order within all run = (
    ap (λ (xs : List ℕ). xs ++ lines_at at) (ended first at (omega (arith, order, within)) run (inr (all at (omega arith) order)))
        ∙ ap (λ (xs : List ℕ). run_bytes first (at - first) ++ xs) (skips at later (omega (arith, order)) within (λ b from below. outside b (all b from below))),
    inr (all (later - 1) (omega (arith, order)) (omega (arith, order))),
  )

  -- and the end
  pub end_passed : (run : Option ℕ) (at : ℕ) → at ≡ end → IsOpen holds at run → lines_left holds end run at ≡ ended_line at run ++ []
  end_passed None at last run = let none : end - at ≡ 0 = omega (arith, last) in rw none refl
  end_passed (Some first) at last run =
      let none : end - at ≡ 0 = omega (arith, last) in
      rw none (ap (λ (xs : List ℕ). xs ++ []) (ended first at (omega (arith, last)) run (inl last)))

-- the first block of the run that is open doesn't lie behind
pub first_before : (is : Bool) (run : Option ℕ) (at later : ℕ) → at ≤ later → IfSome run (λ first. first ≤ at) → IfSome (open_then is at run) (λ first. first ≤ later)
first_before true None at later order before = order
first_before true (Some first) at later order before = omega (arith, order, before)
first_before false run at later order before = tt

-- all lines are left before the first block
pub all_left : (image : List (List ℕ)) (at : ℕ) → at ≡ 0 → unused_lines image ≡ image_lines_left image None at
unfolding unused_lines
all_left image at none =
    let graph = thin_graph (block_at image 0) in
    let many : graph.data_blocks ≡ graph.data_blocks - 0 = omega arith in
    rw none (ap (lines_from (is_unused_in image) graph.data_blocks 0) many)

-- a stretch was read
pub reading_next : (image : List (List ℕ)) (bitmap other : List ℕ) (run : Option ℕ) (stretch : Stretch) (old new : StoredCounts)
    → ((b : ℕ) → b < (thin_fields (block_at image 0)).data_map.blocks → is_free image (thin_fields (block_at image 0)).data_map b ≡ is_unused_in image b)
    → Passes stretch old new → TellsStretch image (thin_fields (block_at image 0)).data_map stretch other new → IsReading image bitmap run old
    → (image_lines_left image run old.at ≡ ended_then stretch.unused stretch.first run ++ image_lines_left image (open_then stretch.unused stretch.first run) new.at)
    × IsReading image other (open_then stretch.unused stretch.first run) new
reading_next image bitmap other run stretch old new same passes tells reading =
    let graph = thin_graph (block_at image 0) in
    let next = passes.next in
    let all = data_blocks_are (block_at image 0) in
    let step = subst (λ (first : ℕ). (image_lines_left image run old.at ≡ ended_then stretch.unused first run ++ image_lines_left image (open_then stretch.unused first run) new.at)
    × IsOpen (is_unused_in image) new.at (open_then stretch.unused first run)) (sym next.first)
    (stretch_passed (is_unused_in image) graph.data_blocks stretch.unused run old.at new.at (omega (arith, passes.at, next.some)) (omega (arith, passes.at, next.within, reading.end))
    (λ b from below. sym (same b (omega (arith, below, passes.at, next.within, reading.end, all))) ∙ tells.told b (omega (arith, from, next.first)) (omega (arith, below, next.first, passes.at))) reading.opened) in
    (step.0, record { end = passes.end ∙ reading.end; left = tells.left; opened = step.1 })

-- nothing is left
pub reading_ends : (image : List (List ℕ)) (bitmap : List ℕ) (run : Option ℕ) (old : StoredCounts) (end : ℕ) → old.at ≡ end → old.end ≡ end → IsReading image bitmap run old
    → image_lines_left image run old.at ≡ ended_line end run ++ []
reading_ends image bitmap run old end last same reading =
    end_passed (is_unused_in image) (thin_graph (block_at image 0)).data_blocks run old.at (last ∙ sym same ∙ reading.end) reading.opened ∙ ap (λ (at : ℕ). ended_line at run ++ []) last

pub last_printed : {E : Type 0} (held : Option (List (List ℕ))) (result : Result (Unit {0}) E) (text : List ℕ) {whole rest : List (List ℕ) → List ℕ} {old mid new : Printing}
    → PrintsSoFar held whole rest old mid → IfSome held (λ image. rest image ≡ text ++ []) → Prints text result mid new → PrintsSome held whole result old new
last_printed {E} held (Ok done) text so_far cut prints = so_far_all held done {rest = λ image. []} (so_far_more held {E = E} {done = done} so_far cut (prints_known held prints)) (if_any held (λ image. refl))
last_printed held (Err fault) text so_far cut prints = so_far_lost held (λ image. []) so_far cut (prints_known held prints)

-- An image that is held, where it has no faults.

no_fault : (found : List Fault) → (length found == 0) ≡ true → found ≡ []
no_fault [] none = refl
no_fault (fault ∷ found) none = let same = eqb-true (length (fault ∷ found)) 0 none in absurd (omega (arith, same))

-- what is so of it follows from what is so and from what is told
pub sound_then : {P Q R : List (List ℕ) → Type 0} (o later : Option (List (List ℕ))) → later ≡ o → ((image : List (List ℕ)) → faults Thin Counts image ≡ [] → P image → Q image → R image)
    → IfSome (without_faults o) P → IfSome later Q → IfSome (without_faults o) R
unfolding without_faults
sound_then None later same leads p q = tt
sound_then {P} {Q} {R} (Some image) later same leads p q = elim (cases_Bool (length (faults Thin Counts image) == 0)) [
  | inl none ↦ rw none (leads image (no_fault (faults Thin Counts image) none) (rw none at p) (subst (λ o. IfSome o Q) same q))
  | inr some ↦ rw some tt
]

pub sound_given : {Q R : List (List ℕ) → Type 0} (o : Option (List (List ℕ))) → ((image : List (List ℕ)) → faults Thin Counts image ≡ [] → Q image → R image) → IfSome o Q → IfSome (without_faults o) R
sound_given o leads q = sound_then {P = λ image. Unit {0}} o o refl (λ image none p. leads image none) (if_any (without_faults o) (λ image. tt)) q

pub sound_told : (P : List (List ℕ) → Type 0) (o : Option (List (List ℕ))) → IfSome (without_faults o) P → IfSome o (λ image. faults Thin Counts image ≡ [] → P image)
unfolding without_faults
sound_told P None p = tt
sound_told P (Some image) p = λ none. rw none at p

-- the next stretch of it
pub read_on : (o later : Option (List (List ℕ))) → later ≡ o
    → ((image : List (List ℕ)) (b : ℕ) → faults Thin Counts image ≡ [] → b < (thin_fields (block_at image 0)).data_map.blocks → is_free image (thin_fields (block_at image 0)).data_map b ≡ is_unused_in image b)
    → (bitmap other : List ℕ) (run : Option ℕ) (stretch : Stretch) (old new : StoredCounts) → Passes stretch old new
    → IfSome (without_faults o) (λ image. IsReading image bitmap run old)
    → IfSome later (λ image. (map : SmRoot) → AreReadUpTo image map bitmap old → TellsStretch image map stretch other new)
    → IfSome (without_faults o) (λ image. (image_lines_left image run old.at ≡ ended_then stretch.unused stretch.first run ++ image_lines_left image (open_then stretch.unused stretch.first run) new.at)
    × IsReading image other (open_then stretch.unused stretch.first run) new)
read_on o later same law bitmap other run stretch old new passes reading tells =
    sound_then o later same (λ image none reads told. reading_next image bitmap other run stretch old new (λ b. law image b none) passes (told (thin_fields (block_at image 0)).data_map reads.left) reads) reading tells

-- a query begins
pub query_started : (o later : Option (List (List ℕ))) → later ≡ o
    → ((image : List (List ℕ)) → faults Thin Counts image ≡ [] → faults Thin Whole image ≡ [])
    → ((image : List (List ℕ)) → faults Thin Counts image ≡ [] → IsOverflow image (thin_fields (block_at image 0)).data_map.overflow_root)
    → (s : ThinSuper) (counts : StoredCounts) → counts.at ≡ 0 → counts.end ≡ s.data_map.blocks → IfSound Thin o (λ image. s ≡ thin_fields (block_at image 0))
    → IfSome later (λ image. IsOverflow image s.data_map.overflow_root → (bitmap : List ℕ) → AreReadUpTo image s.data_map bitmap counts) → IsStarted o counts
query_started o later same whole searchable s counts at end own left = record {
  at = at;
  reading = sound_given o (λ image none both bitmap.
      let fields : s ≡ thin_fields (block_at image 0) = both.0 (whole image none) in
      let map : s.data_map ≡ (thin_fields (block_at image 0)).data_map = ap (λ (t : ThinSuper). t.data_map) fields in
      record {
        end = end ∙ ap (λ (m : SmRoot). m.blocks) map ∙ sym (data_blocks_are (block_at image 0));
        left = subst (λ (m : SmRoot). AreReadUpTo image m bitmap counts) map (both.1 (subst (λ (m : SmRoot). IsOverflow image m.overflow_root) (sym map) (searchable image none)) bitmap);
        opened = inl at;
      })
      (if_then o later _ _ (λ image. (faults Thin Whole image ≡ [] → s ≡ thin_fields (block_at image 0)) × (IsOverflow image s.data_map.overflow_root → (bitmap : List ℕ) → AreReadUpTo image s.data_map bitmap counts))
      same (λ image one other. (one, other)) own left);
}
