-- The chunks that stand in groups, one by one, and what a number that is put in one group comes to for all blocks.
use Rattle.std.proofs.Common.{◌≡◌, ◌≢◌, ℕ, ◌+◌, ◌*◌, ◌/◌, ◌%◌, ◌<◌, List, [], length, map, get_or, set, inl, inr, sym, ◌∙◌, ap, arith, get_or-set_same, get_or-set_other}
use Rattle.std.specs.List.{range_with_len}
use Rattle.std.proofs.lemmas.Bool.{cases_eq, cases_lt}
use Rattle.std.proofs.lemmas.List.{get_or_default, get_or_past}
use Rattle.std.proofs.lemmas.List.FromFn.{get_or-map-range_with_len, length-map-range_with_len}
use Rattle.std.proofs.Math.Nat.{div-add-mod}
use Rattle.pd_count.specs.Counted.{Counted, count_of, PutsNumber, Grouped, PutsInGroup, chunk_in, chunk_of, chunks_in, no_group}
use Rattle.pd_count.proofs.CountLemmas.{PutsChunk, chunk_counts, none_counted, puts_by_chunk}
use Rattle.pd_count.proofs.PlaceLemmas.{none_made}

-- the table of these groups
abbrev table : ℕ → List Grouped → Counted
table size groups = record { size = size; chunks = chunks_in groups }

-- one chunk of all
pub chunk_at : (groups : List Grouped) (i : ℕ) → get_or (chunks_in groups) i [] ≡ chunk_in groups i
unfolding chunks_in
chunk_at groups i = elim (cases_lt i (64 * length groups)) [
  | inl below ↦ get_or-map-range_with_len (chunk_in groups) 0 (64 * length groups) i i [] below (omega arith)
  | inr past ↦
      get_or_past (map (chunk_in groups) (range_with_len 0 (64 * length groups))) i [] (omega (arith, length-map-range_with_len (chunk_in groups) 0 (64 * length groups)))
      ∙ sym (ap (λ (group : Grouped). chunk_of group (i % 64)) (get_or_past groups (i / 64) no_group (omega arith)) ∙ none_made (i % 64))
]

-- chunks at one place of one group are one chunk
same_chunk : (i j : ℕ) → j / 64 ≡ i / 64 → j % 64 ≡ i % 64 → j ≡ i
same_chunk i j group place = omega (arith, div-add-mod i 64, div-add-mod j 64)

-- a group took another one's place
module _ (groups : List Grouped) (i : ℕ) (old new : Grouped) (within : i / 64 < length groups) (read : old ≡ get_or groups (i / 64) old)
    (others : (j : ℕ) → j ≢ i % 64 → chunk_of new j ≡ chunk_of old j) where
  had : get_or groups (i / 64) no_group ≡ old
  had = sym (read ∙ get_or_default groups (i / 64) old no_group within)

  has : get_or (set groups (i / 64) new) (i / 64) no_group ≡ new
  has = get_or-set_same groups (i / 64) new no_group within

  other_chunk : (j : ℕ) → j ≢ i → chunk_in (set groups (i / 64) new) j ≡ chunk_in groups j
  other_chunk j apart = elim (cases_eq (j / 64) (i / 64)) [
    | inl same ↦
        let after : get_or (set groups (i / 64) new) (j / 64) no_group ≡ new = rw same has in
        let before : get_or groups (j / 64) no_group ≡ old = rw same had in
        ap (λ (group : Grouped). chunk_of group (j % 64)) after
        ∙ (others (j % 64) (λ place. apart (same_chunk i j same place))
        ∙ ap (λ (group : Grouped). chunk_of group (j % 64)) (sym before))
    | inr other ↦ ap (λ (group : Grouped). chunk_of group (j % 64)) (get_or-set_other groups (i / 64) (j / 64) new no_group other)
  ]

  pub puts_chunk : PutsChunk i (chunk_of old (i % 64)) (chunk_of new (i % 64)) (chunks_in groups) (chunks_in (set groups (i / 64) new))
  puts_chunk = record {
    had = chunk_at groups i ∙ ap (λ (group : Grouped). chunk_of group (i % 64)) had;
    has = chunk_at (set groups (i / 64) new) i ∙ ap (λ (group : Grouped). chunk_of group (i % 64)) has;
    others = λ j apart. chunk_at (set groups (i / 64) new) j ∙ (other_chunk j apart ∙ sym (chunk_at groups j));
  }

-- a number was put at a block, by its group
pub group_puts : (size : ℕ) (groups : List Grouped) (b number : ℕ) (old new : Grouped) → b / 16320 / 64 < length groups
    → old ≡ get_or groups (b / 16320 / 64) old → PutsInGroup (b / 16320 % 64) (b % 16320) number old new
    → PutsNumber b number (table size groups) (table size (set groups (b / 16320 / 64) new))
group_puts size groups b number old new within read puts =
    puts_by_chunk size b number (chunk_of old (b / 16320 % 64)) (chunk_of new (b / 16320 % 64)) (chunks_in groups) (chunks_in (set groups (b / 16320 / 64) new))
    (puts_chunk groups (b / 16320) old new within read puts.others) puts.put

-- the count of a block by its group
pub count_in_group : (size : ℕ) (groups : List Grouped) (b : ℕ) (group : Grouped) → b / 16320 / 64 < length groups
    → group ≡ get_or groups (b / 16320 / 64) group
    → count_of (table size groups) b ≡ get_or (chunk_of group (b / 16320 % 64)) (b % 16320) 0
unfolding count_of
count_in_group size groups b group within read =
    ap (λ (numbers : List ℕ). get_or numbers (b % 16320) 0)
    (chunk_at groups (b / 16320)
    ∙ ap (λ (g : Grouped). chunk_of g (b / 16320 % 64)) (sym (read ∙ get_or_default groups (b / 16320 / 64) group no_group within)))

-- the counts of a chunk by its group, as both were read
pub group_counts : (counts : Counted) (size : ℕ) (groups read : List Grouped) (i : ℕ) (group : Grouped) (chunk : List ℕ)
    → table size groups ≡ counts → read ≡ groups → group ≡ get_or read (i / 64) no_group → chunk ≡ chunk_of group (i % 64)
    → (k : ℕ) → k < 16320 → count_of counts (16320 * i + k) ≡ get_or chunk k 0
group_counts counts size groups read i group chunk are same has is k within =
    ap (λ (t : Counted). count_of t (16320 * i + k)) (sym are)
    ∙ (chunk_counts size (chunks_in groups) i k within
    ∙ (ap (λ (numbers : List ℕ). get_or numbers k 0) (chunk_at groups i)
    ∙ (ap (λ (all : List Grouped). get_or (chunk_in all i) k 0) (sym same)
    ∙ (ap (λ (g : Grouped). get_or (chunk_of g (i % 64)) k 0) (sym has)
    ∙ ap (λ (numbers : List ℕ). get_or numbers k 0) (sym is)))))

-- where no group is made, nothing was counted
pub none_in_groups : (size : ℕ) (groups : List Grouped) → ((i : ℕ) → get_or groups i no_group ≡ no_group) → (b : ℕ)
    → count_of (table size groups) b ≡ 0
none_in_groups size groups absent = none_counted size (chunks_in groups)
    (λ i. chunk_at groups i ∙ (ap (λ (group : Grouped). chunk_of group (i % 64)) (absent (i / 64)) ∙ none_made (i % 64)))
