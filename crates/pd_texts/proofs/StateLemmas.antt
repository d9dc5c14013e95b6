-- What the lines so far of a pool's text say of the next one, line by line.
use Rattle.std.proofs.Common.{◌≡◌, List, [], ◌∷◌, length, eqb, ltb, refl, arith, inl, inr, ℕ, suc, ◌+◌, ◌-◌, ◌^◌, ◌<◌, ◌≤◌, min, Bool, true, false, not, ◌&&◌, ◌||◌, cond, ◌++◌, get_or, set, ap, sym, ◌∙◌, zero-add, add-zero, length-append, length-set, get_or-set_same, get_or-set_other, if◌then◌else◌}
use Rattle.std.proofs.lemmas.Bool.Decides.{nat_tests}
use Rattle.std.specs.List.{list_any, count_by, range_with_len}
use Rattle.std.proofs.lemmas.Bool.{cases_eq, eq-eqb, ne_eqb, and_parts}
use Rattle.std.proofs.lemmas.List.{get_or_append_left, get_or_at}
use Rattle.std.proofs.lemmas.List.Sums.{sum_by_push, sum_by-set, sum_by-cons}
use Rattle.pd_grammar.specs.ThinText.{Line, Run, LeafHead, first_line, shared_first_line, pool_line, leaf_line, device_line, use_line, map_line, end_line, least_of, end_of, number_in, leaf_number, has_device, runs_of_leaf, uses_of, has_unused_leaf, leaf_kind, is_shared, is_in_leaf, unmapped}
use Rattle.pd_grammar.specs.Tables.{may_stand}
use Rattle.pd_texts.specs.declared.state.Stage.{Stage}
use Rattle.pd_texts.specs.ThinState.{stage_of, is_second, is_body, nothing_told, with_run, Tells, is_used_by, told_at, AreLeaves, HasRoom, ThinStands, IsLeafShort, HasRoomNext}
use Rattle.pd_texts.specs.declared.thin_text.Run2.{Run2}
use Rattle.pd_texts.specs.declared.leaves.ToldLeaf.{ToldLeaf}
use Rattle.pd_texts.specs.declared.leaves.Leaves.{Leaves}
use Rattle.pd_texts.specs.ThinLine.{run_of}
use Rattle.pd_texts.specs.declared.thin_state.ThinState.{ThinState}
use Rattle.pd_texts.specs.declared.state.Stage.TheVariants as s

-- Which line may come next, by the number of lines before it.

second_of : {L : Type 0} → (before : List L) → is_second (stage_of before) ≡ eqb (length before) 1
second_of [] = refl
second_of (line ∷ []) = refl
second_of (line ∷ next ∷ before) = grind (arith, nat_tests)

body_of : {L : Type 0} → (before : List L) → is_body (stage_of before) ≡ ltb 1 (length before)
body_of [] = refl
body_of (line ∷ []) = refl
body_of (line ∷ next ∷ before) = grind (arith, nat_tests)

pub second_stage : {L : Type 0} → (stage : Stage) (before : List L) → stage ≡ stage_of before → is_second stage ≡ eqb (length before) 1
second_stage stage before is = rw is (second_of before)

pub body_stage : {L : Type 0} → (stage : Stage) (before : List L) → stage ≡ stage_of before → is_body stage ≡ ltb 1 (length before)
body_stage stage before is = rw is (body_of before)

-- What is told of leaves, line by line.

-- a run more at the end of runs
end_more : (runs : List Run) (r : Run) → end_of (runs ++ (r ∷ [])) ≡ r.virtual_block + r.length
end_more [] r = refl
end_more (s ∷ []) r = refl
end_more (s ∷ t ∷ runs) r = end_more (t ∷ runs) r

greatest_more : (entries virt n : ℕ) → 1 ≤ n → virt + n ≤ 2 ^ 64
    → cond (eqb (min (entries + min n 4294967295) (2 ^ 32 - 1)) 0) 0 (min (virt + (n - 1)) (2 ^ 64 - 1) + 1) ≡ virt + n
greatest_more entries virt n some fits =
    rw (ne_eqb (min (entries + min n 4294967295) (2 ^ 32 - 1)) 0 (λ e. omega arith)) (omega arith)

least_more : (leaf : ToldLeaf) (runs : List Run) (run : Run2) → Tells leaf runs
    → cond (eqb leaf.entries 0) run.virt leaf.least ≡ least_of (runs ++ (run_of run ∷ []))
least_more leaf [] run tells = rw tells.entries refl
least_more leaf (r ∷ runs) run tells = rw (ne_eqb leaf.entries 0 (λ e. cc (tells.none e))) tells.least

pub tells_more : (leaf : ToldLeaf) (runs : List Run) (run : Run2) → Tells leaf runs
    → 1 ≤ run.length → run.virt + run.length ≤ 2 ^ 64 → number_in runs + run.length < 2 ^ 32
    → Tells (with_run leaf run) (runs ++ (run_of run ∷ []))
tells_more leaf runs run tells some fits few =
    let all : number_in (runs ++ (run_of run ∷ [])) ≡ number_in runs + run.length = sum_by_push (λ (r : Run). r.length) runs (run_of run) in
    let sum : min (leaf.entries + min run.length 4294967295) (2 ^ 32 - 1) ≡ leaf.entries + run.length = omega (arith, tells.entries) in
    record {
      least = least_more leaf runs run tells;
      end = greatest_more leaf.entries run.virt run.length some fits ∙ sym (end_more runs (run_of run));
      entries = omega (arith, sum, all, tells.entries);
      none = λ e. absurd (omega (arith, sum));
    }

-- a leaf that isn't there has no runs
pub runs_past : (before : List Line) (n : ℕ) → leaf_number before ≤ n → runs_of_leaf before n ≡ []
runs_past [] n past = refl
runs_past (first_line ∷ before) n past = runs_past before n past
runs_past (shared_first_line ∷ before) n past = runs_past before n past
runs_past (pool_line p ∷ before) n past = runs_past before n past
runs_past (leaf_line l ∷ before) n past = runs_past before n (omega arith)
runs_past (device_line d ∷ before) n past = runs_past before n past
runs_past (use_line m ∷ before) n past = runs_past before n past
runs_past (map_line r ∷ before) n past =
    rw (ne_eqb (leaf_number before) (suc n) (λ e. omega arith), and_no (not (has_device before))) (runs_past before n past)
  where
    and_no : (b : Bool) → (b && false) ≡ false
    and_no true = refl
    and_no false = refl
runs_past (end_line ∷ before) n past = runs_past before n past

-- lines that tell nothing of leaves
pub same_leaves : (leaves : Leaves) (before after : List Line) → leaf_number after ≡ leaf_number before
    → ((n : ℕ) → runs_of_leaf after n ≡ runs_of_leaf before n) → uses_of after ≡ uses_of before → AreLeaves leaves before → AreLeaves leaves after
same_leaves leaves before after number runs uses are = record {
  number = are.number ∙ sym number;
  tells = λ n low. rw (runs n) (are.tells n (rw number at low));
  used = λ n low. rw uses (are.used n (rw number at low));
  others = λ n past. rw uses (are.others n (rw number at past));
  unused = are.unused;
}

-- a leaf more
pub leaf_begun : (leaves new : Leaves) (before : List Line) (leaf : LeafHead) → AreLeaves leaves before
    → new.told.items ≡ leaves.told.items ++ (nothing_told ∷ []) → new.unused ≡ leaves.unused + 1 → AreLeaves new (leaf_line leaf ∷ before)
leaf_begun leaves new before leaf are items unused =
    let k = leaf_number before in
    let xs = leaves.told.items in
    let at : told_at new k ≡ nothing_told = rw items (get_or_at xs nothing_told [] nothing_told k are.number) in
    let below : (n : ℕ) → n < k → told_at new n ≡ told_at leaves n = λ n low. rw items (get_or_append_left xs (nothing_told ∷ []) nothing_told n (rw are.number low)) in
    record {
      number = rw items (omega (arith, length-append xs (nothing_told ∷ []), are.number));
      tells = λ n low. elim (cases_eq n k) [
        | inl e ↦ rw (e, at, runs_past before k (omega arith)) (record { least = refl; end = refl; entries = refl; none = λ e. refl })
        | inr other ↦ rw (below n (omega arith)) (are.tells n (omega arith))
      ];
      used = λ n low. elim (cases_eq n k) [
        | inl e ↦ rw (e, at) (sym (are.others k (omega arith)))
        | inr other ↦ rw (below n (omega arith)) (are.used n (omega arith))
      ];
      others = λ n past. are.others n (omega arith);
      unused = rw items (omega (arith, unused, are.unused, sum_by_push (λ (leaf : ToldLeaf). cond (not leaf.is_used) 1 0) xs nothing_told));
    }

-- a run more of the last leaf
pub run_added : (leaves new : Leaves) (before : List Line) (run : Run2) → AreLeaves leaves before → has_device before ≡ false
    → 1 ≤ run.length → run.virt + run.length ≤ 2 ^ 64 → number_in (runs_of_leaf before (leaf_number before - 1)) + run.length < 2 ^ 32
    → 1 ≤ leaf_number before
    → new.told.items ≡ set leaves.told.items (length leaves.told.items - 1) (with_run (get_or leaves.told.items (length leaves.told.items - 1) nothing_told) run)
    → new.unused ≡ leaves.unused → AreLeaves new (map_line (run_of run) ∷ before)
run_added leaves new before run are none some fits few told items unused =
    let k = leaf_number before - 1 in
    let xs = leaves.told.items in
    let last : length xs - 1 ≡ k = omega (arith, are.number) in
    let items : new.told.items ≡ set xs k (with_run (told_at leaves k) run) = rw last at items in
    let at : told_at new k ≡ with_run (told_at leaves k) run = rw items (get_or-set_same xs k (with_run (told_at leaves k) run) nothing_told (omega (arith, are.number))) in
    let other_at : (n : ℕ) → (n ≡ k → ⊥) → told_at new n ≡ told_at leaves n =
    λ n other. rw items (get_or-set_other xs k n (with_run (told_at leaves k) run) nothing_told other) in
    record {
      number = rw items (length-set xs k (with_run (told_at leaves k) run) ∙ are.number);
      tells = λ n low. elim (cases_eq n k) [
        | inl e ↦ rw (none, eq-eqb (leaf_number before) (suc n) (omega arith), e, at)
            (tells_more (told_at leaves k) (runs_of_leaf before k) run (are.tells k (omega arith)) some fits few)
        | inr other ↦ rw (none, ne_eqb (leaf_number before) (suc n) (λ e. other (omega arith)), other_at n other) (are.tells n low)
      ];
      used = λ n low. elim (cases_eq n k) [
        | inl e ↦ rw (e, at) (are.used k (omega arith))
        | inr other ↦ rw (other_at n other) (are.used n low)
      ];
      others = are.others;
      unused = rw items (omega (
        arith,
        unused,
        are.unused,
        sum_by-set (λ (leaf : ToldLeaf). cond (not leaf.is_used) 1 0) xs k (with_run (told_at leaves k) run) nothing_told (omega (arith, are.number)),
      ));
    }

-- a run of a device
pub device_run : (leaves : Leaves) (before : List Line) (run : Run2) → has_device before ≡ true → AreLeaves leaves before → AreLeaves leaves (map_line (run_of run) ∷ before)
device_run leaves before run has are = same_leaves leaves before (map_line (run_of run) ∷ before) refl (λ n. rw has refl) refl are

-- a leaf that is used
abbrev pub marked : ToldLeaf → ToldLeaf
marked leaf = record { least = leaf.least; greatest = leaf.greatest; entries = leaf.entries; is_used = true }

pub leaf_marked : (leaves new : Leaves) (before : List Line) (number : ℕ) → AreLeaves leaves before → number < leaf_number before
    → (told_at leaves number).is_used ≡ false → new.told.items ≡ set leaves.told.items number (marked (told_at leaves number)) → new.unused ≡ leaves.unused - 1
    → AreLeaves new (use_line number ∷ before)
leaf_marked leaves new before number are within is items unused =
    let xs = leaves.told.items in
    let low : number < length xs = omega (arith, are.number) in
    let at : told_at new number ≡ marked (told_at leaves number) = rw items (get_or-set_same xs number (marked (told_at leaves number)) nothing_told low) in
    let other_at : (n : ℕ) → (n ≡ number → ⊥) → told_at new n ≡ told_at leaves n =
    λ n other. rw items (get_or-set_other xs number n (marked (told_at leaves number)) nothing_told other) in
    let count = sum_by-set (λ (leaf : ToldLeaf). cond (not leaf.is_used) 1 0) xs number (marked (told_at leaves number)) nothing_told low in
    record {
      number = rw items (length-set xs number (marked (told_at leaves number)) ∙ are.number);
      tells = λ n low. elim (cases_eq n number) [
        | inl e ↦ let t = are.tells number within in rw (e, at) (record { least = t.least; end = t.end; entries = t.entries; none = t.none })
        | inr other ↦ rw (other_at n other) (are.tells n low)
      ];
      used = λ n low. elim (cases_eq n number) [
        | inl e ↦ rw (e, at, eq-eqb number number refl) refl
        | inr other ↦ rw (other_at n other, ne_eqb number n (λ e. other (sym e))) (are.used n low)
      ];
      others = λ n past. rw (ne_eqb number n (λ e. omega arith)) (are.others n past);
      unused = rw items (omega (arith, unused, are.unused, rw is at count));
    }

-- whether some leaf isn't used, by how many aren't
some_counted : {X : Type 0} (p : X → Bool) → (xs : List X) → list_any p xs ≡ not (eqb (count_by p xs) 0)
some_counted p [] = refl
some_counted p (x ∷ xs) = rw (sum_by-cons (λ x. cond (p x) 1 0) x xs) (by_head (p x) (count_by p xs) (some_counted p xs))
  where
    by_head : (b : Bool) (n : ℕ) → list_any p xs ≡ not (eqb n 0) → (b || list_any p xs) ≡ not (eqb (cond b 1 0 + n) 0)
    by_head true n rest = rw (ne_eqb (1 + n) 0 (λ e. omega arith)) refl
    by_head false n rest = rw zero-add rest

numbered : {X : Type 0} (p : X → Bool) (f : ℕ → Bool) (d : X) → (xs : List X) (a : ℕ) → ((i : ℕ) → i < length xs → p (get_or xs i d) ≡ f (a + i))
    → list_any f (range_with_len a (length xs)) ≡ list_any p xs
numbered p f d [] a same = refl
numbered p f d (x ∷ xs) a same =
    let first : p x ≡ f a = same 0 (omega arith) ∙ ap f (add-zero a) in
    rw (first, numbered p f d xs (a + 1) (λ i low. same (suc i) (omega arith) ∙ ap f (omega arith))) refl

pub unused_is : (leaves : Leaves) (before : List Line) → AreLeaves leaves before → not (eqb leaves.unused 0) ≡ has_unused_leaf before
unused_is leaves before are =
    let xs = leaves.told.items in
    let p = λ (leaf : ToldLeaf). not leaf.is_used in
    let f = λ (n : ℕ). not (is_used_by (uses_of before) n) in
    let same : (i : ℕ) → i < length xs → p (get_or xs i nothing_told) ≡ f (0 + i) = λ i low. ap not (are.used i (rw are.number at low)) ∙ ap f (sym (zero-add i)) in
    rw are.unused (sym (some_counted p xs) ∙ sym (numbered p f nothing_told xs 0 same) ∙ ap (λ (n : ℕ). list_any f (range_with_len 0 n)) are.number)

-- a leaf line may come only where there is the memory that it wants
pub room_for_leaf : (state : ThinState) (before : List Line) → ThinStands state before → HasRoomNext state → may_stand leaf_kind.place before ≡ true → HasRoom state.leaves
room_for_leaf state before stands room may =
    room (rw (stands.is_shared, stands.has_device) (and_parts (ltb 1 (length before)) (is_shared before && not (has_device before)) may).1)

-- after a line that isn't the first one
pub in_body : {L : Type 0} → (line : L) (before : List L) → 1 ≤ length before → s.Body ≡ stage_of (line ∷ before)
in_body line [] some = absurd (omega arith)
in_body line (next ∷ before) some = refl

-- a leaf is of few mappings
pub leaf_short : (before : List Line) (leaf : LeafHead) → leaf.entries ≤ 252 → IsLeafShort (leaf_line leaf ∷ before)
leaf_short before leaf few = λ none.
    let nothing : number_in (runs_of_leaf before (suc (leaf_number before) - 1)) ≡ 0 = ap (λ (runs : List Run). number_in runs) (runs_past before (suc (leaf_number before) - 1) (omega arith)) in
    omega (arith, nothing)

pub map_short : (before : List Line) (r : Run) → IsLeafShort before → r.length ≤ unmapped before → IsLeafShort (map_line r ∷ before)
map_short before r short mapped = λ none.
    let n = leaf_number before - 1 in
    omega (arith, more_in (is_in_leaf before n) (runs_of_leaf before n), short none)
  where
    more_in : (b : Bool) (runs : List Run) → number_in (if b then runs ++ (r ∷ []) else runs) ≤ number_in runs + r.length
    more_in true runs = omega (arith, sum_by_push (λ (r : Run). r.length) runs r)
    more_in false runs = omega arith

-- a state after a run, after the use of a leaf, and after the beginning of a leaf
module _ (state : ThinState) (left : ℕ) (leaves : Leaves) (before : List Line) (stands : ThinStands state before) (some : 1 ≤ length before) where
  abbrev pub state_at : ℕ → ThinState
  state_at end = record {
    stage = s.Body;
    is_shared = state.is_shared;
    blocks = state.blocks;
    least_id = state.least_id;
    has_device = state.has_device;
    piece_end = end;
    unmapped = left;
    leaves = leaves;
  }

  pub map_passed : (run : Run2) → left ≡ state.unmapped - run.length → run.length ≤ state.unmapped
      → ((has_device before ≡ false → number_in (runs_of_leaf before (leaf_number before - 1)) + run.length < 2 ^ 32) → AreLeaves leaves (map_line (run_of run) ∷ before))
      → ThinStands (state_at (run.virt + run.length)) (map_line (run_of run) ∷ before)
  map_passed run left_is within told =
      let mapped : run.length ≤ unmapped before = rw stands.unmapped at within in
      record {
        stage = in_body (map_line (run_of run)) before some;
        is_shared = stands.is_shared;
        blocks = stands.blocks;
        least_id = stands.least_id;
        has_device = stands.has_device;
        piece_end = refl;
        unmapped = left_is ∙ ap (λ (n : ℕ). n - run.length) stands.unmapped;
        leaves = told (λ none. omega (arith, stands.short none));
        short = map_short before (run_of run) stands.short mapped;
      }

  pub leaf_passed : (number : ℕ) → left ≤ 252 → AreLeaves leaves (leaf_line (record { number = number; entries = left }) ∷ before)
      → ThinStands (state_at 0) (leaf_line (record { number = number; entries = left }) ∷ before)
  leaf_passed number few told =
      let leaf : LeafHead = record { number = number; entries = left } in
      record {
        stage = in_body (leaf_line leaf) before some;
        is_shared = stands.is_shared;
        blocks = stands.blocks;
        least_id = stands.least_id;
        has_device = stands.has_device;
        piece_end = refl;
        unmapped = refl;
        leaves = told;
        short = leaf_short before leaf few;
      }
