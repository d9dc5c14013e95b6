-- Index and Length at the root of an array, by its mark and its note.
-- The rules of a whole image with arrays.
use Rattle.std.proofs.Common.{◌≡◌, ℕ, ◌+◌, ◌-◌, ◌*◌, Bool, true, false, ◌&&◌, ◌||◌, not, nat_eq, List, [], ◌∷◌, length, map, sum, Some, None, refl, sym, ap, subst, ◌∙◌, arith, length-append, append-nil}
use Rattle.std.proofs.lemmas.Bool.{or_parts, not-false}
use Rattle.std.proofs.lemmas.List.{length-map}
use Rattle.std.proofs.lemmas.List.FromFn.{length-map-range_with_len}
use Rattle.std.proofs.lemmas.List.Sums.{sum_by-cons}
use Rattle.std.specs.List.{flat_map, range_with_len}
use Rattle.pd_kinds.specs.declared.rule.Rule.{Rule}
use Rattle.pd_kinds.specs.Array.{max_words, word_at, word_count}
use Rattle.pd_kinds.specs.Graph.{Graph, block_at}
use Rattle.pd_kinds.specs.Node.{Entry}
use Rattle.pd_kinds.specs.Stages.{IsReached}
use Rattle.pd_kinds.specs.Trees.{entries_below, keys_of, block_words, words_of}
use Rattle.pd_kinds.specs.Whole.{WholeTest, are_full, array_words, is_array_index_bad, is_not_counting, Array}
use Rattle.pd_kinds.specs.InOrder.{AreInOrder}
use Rattle.pd_kinds.specs.declared.rule.Rule.TheVariants as r
use Rattle.pd_array.specs.Word.{size_of}
use Rattle.pd_graph.specs.declared.audit.Audit.{Audit}
use Rattle.pd_graph.specs.declared.notes.Note.{Note}
use Rattle.pd_graph.specs.Audit.{note_at, KeepsButRules}
use Rattle.pd_tree.specs.Search.{IsTreeRole}
use Rattle.pd_check.specs.Known.{Charges, IsKnown}
use Rattle.pd_check.proofs.KnownLemmas.{known_stays}
use Rattle.pd_check.proofs.SharedLemmas.{charges_then}
use Rattle.pd_check.specs.declared.array_marks.ArrayMark.{ArrayMark}
use Rattle.pd_check.specs.declared.array_rules.ArrayRoles.{ArrayRoles}
use Rattle.pd_check.specs.declared.array_marks.ArrayMarks.{ArrayMarks}
use Rattle.pd_check.specs.Arrays.{are_filled, last_of, mark_of, mark_at, AreMarked, HasArrays, array_of, counts_below, counts_of, most_of}
use Rattle.pd_check.proofs.ArrayMarkLemmas.{filled_words, last_some}

-- the blocks of entries are full as their numbers of words say
filled_is : (image : List (List ℕ)) (size : ℕ) (entries : List Entry) → are_full image size entries ≡ are_filled (max_words size) (counts_of size image entries)
unfolding are_full
filled_is image size [] = refl
filled_is image size (entry ∷ []) = refl
filled_is image size (entry ∷ another ∷ entries) =
    ap (λ (b : Bool). nat_eq (word_count size (block_at image entry.value)) (max_words size) && b) (filled_is image size (another ∷ entries))

-- and have as many words as these come to
words_number : (size : ℕ) (image : List (List ℕ)) (entries : List Entry) → length (words_of size image entries) ≡ sum (counts_of size image entries)
unfolding words_of block_words
words_number size image [] = refl
words_number size image (entry ∷ entries) =
    let block = block_at image entry.value in
    let here = length-map-range_with_len (word_at size block) 0 (word_count size block) in
    let rest = words_number size image entries in
    let both = length-append (map (word_at size block) (range_with_len 0 (word_count size block))) (flat_map (λ (e : Entry). block_words size (block_at image e.value)) entries) in
    omega (arith, sum_by-cons (λ (n : ℕ). n) (word_count size block) (counts_of size image entries))

-- what is known of arrays stays while rules are added
pub arrays_stay : (graph : Graph) (image : List (List ℕ)) (old new : Audit) (roles : ArrayRoles) → KeepsButRules old new → HasArrays graph image old roles → HasArrays graph image new roles
arrays_stay graph image old new roles kept has =
    record { known = known_stays graph image old new kept has.known; ordered = has.ordered; tree = has.tree; apart = has.apart }

module _ (graph : Graph) (image : List (List ℕ)) (audit : Audit) (roles : ArrayRoles) (marks : ArrayMarks) (root : ℕ) (lengths : List ℕ)
    (has : HasArrays graph image audit roles) (marked : AreMarked graph image roles marks) (reached : IsReached graph image root roles.nodes) where
  abbrev entries : List Entry
  entries = entries_below graph image 8 roles.nodes root

  abbrev counts : List ℕ
  counts = counts_of (size_of roles.word) image entries

  mark_is : mark_at marks root ≡ mark_of (most_of roles) counts
  unfolding counts_below
  mark_is = marked.nodes root reached

  number_is : (note_at audit root).below ≡ length entries
  number_is =
      (has.known.notes root roles.nodes 8 has.tree.is_role reached).below ∙ length-map {A = Entry} {B = ℕ} entries (λ (e : Entry). e.key)

  twice : (b : Bool) → not (not b) ≡ b
  twice true = refl
  twice false = refl

  pub index_is : (counting : Bool) (mark : ArrayMark) (note : Note) → note ≡ note_at audit root
      → ((graph : Graph) (image : List (List ℕ)) (role size : ℕ) → IsKnown graph image audit → AreInOrder graph image
      → IsTreeRole graph role size → IsReached graph image root role → counting ≡ not (is_not_counting (keys_of (entries_below graph image size role root)) note.below))
      → mark ≡ mark_at marks root → (not counting || not mark.full) ≡ is_array_index_bad graph image (array_of roles root lengths)
  unfolding is_array_index_bad
  index_is counting mark note told says is =
      let counts_right : counting ≡ not (is_not_counting (keys_of entries) (length entries)) =
      says graph image roles.nodes 8 has.known has.ordered has.tree.is_role reached
      ∙ ap (λ (n : ℕ). not (is_not_counting (keys_of entries) n)) (ap (λ (n : Note). n.below) told ∙ number_is) in
      let full_right : mark.full ≡ are_full image (size_of roles.word) entries =
      ap (λ (m : ArrayMark). m.full) (is ∙ mark_is) ∙ sym (filled_is image (size_of roles.word) entries) in
      ap (λ (b : Bool). not b || not mark.full) counts_right
      ∙ (ap (λ (b : Bool). b || not mark.full) (twice (is_not_counting (keys_of entries) (length entries)))
      ∙ ap (λ (b : Bool). is_not_counting (keys_of entries) (length entries) || not b) full_right)

  all_filled : is_array_index_bad graph image (array_of roles root lengths) ≡ false → are_filled (most_of roles) counts ≡ true
  unfolding is_array_index_bad
  all_filled good =
      sym (filled_is image (size_of roles.word) entries)
      ∙ not-false _ (or_parts (is_not_counting (keys_of entries) (length entries)) (not (are_full image (size_of roles.word) entries)) good).1

  sum_by : (ns : List ℕ) (n k : ℕ) → are_filled (most_of roles) ns ≡ true → last_of ns ≡ Some k → n ≡ length ns → sum ns ≡ (n - 1) * most_of roles + k
  sum_by [] n k full last number = absurd (cc)
  sum_by (m ∷ ns) n k full last number =
      let all = filled_words (most_of roles) m ns k full last in
      let before : n - 1 ≡ length ns = omega arith in
      all ∙ sym (ap (λ (j : ℕ). j * most_of roles + k) before)

  -- the words of an array that has blocks
  pub words_are : (k : ℕ) (mark : ArrayMark) (note : Note) → is_array_index_bad graph image (array_of roles root lengths) ≡ false → note ≡ note_at audit root → mark ≡ mark_at marks root → mark.last ≡ Some k
      → length (array_words graph image (array_of roles root lengths)) ≡ (note.below - 1) * most_of roles + k
  words_are k mark note good told is last =
      words_number (size_of roles.word) image entries
      ∙ sum_by counts note.below k (all_filled good) (sym (ap (λ (m : ArrayMark). m.last) (is ∙ mark_is)) ∙ last)
      (ap (λ (n : Note). n.below) told ∙ (number_is ∙ sym (length-map {A = Entry} {B = ℕ} entries (λ (e : Entry). word_count (size_of roles.word) (block_at image e.value)))))

  -- and of one without blocks
  no_blocks : (ns : List ℕ) → last_of ns ≡ None → ns ≡ []
  no_blocks [] none = refl
  no_blocks (n ∷ ns) none = absurd (let some = (last_some n ns).1 in cc)

  pub no_words : (mark : ArrayMark) → mark ≡ mark_at marks root → mark.last ≡ None → length (array_words graph image (array_of roles root lengths)) ≡ 0
  no_words mark is last =
      words_number (size_of roles.word) image entries ∙ ap sum (no_blocks counts (sym (ap (λ (m : ArrayMark). m.last) (is ∙ mark_is)) ∙ last))

  -- Index, and Length where Index holds
  abbrev index_test : WholeTest
  index_test = record { block = root; rule = r.Index; fails = is_array_index_bad graph image (array_of roles root lengths) }

  abbrev length_test : ℕ → WholeTest
  length_test n = record {
    block = root;
    rule = r.Length;
    fails = not (is_array_index_bad graph image (array_of roles root lengths)) && not (nat_eq (length (array_words graph image (array_of roles root lengths))) n);
  }

  as_told : (rule : Rule) (fails told : Bool) (old new : Audit) → fails ≡ told → Charges (record { block = root; rule = rule; fails = fails } ∷ []) old new
      → Charges (record { block = root; rule = rule; fails = told } ∷ []) old new
  as_told rule fails told old new same = subst (λ (b : Bool). Charges (record { block = root; rule = rule; fails = b } ∷ []) old new) same

  length_fails : (bad right same : Bool) → (bad ≡ false → right ≡ same) → (not bad && not right) ≡ (not bad && not same)
  length_fails true right same says = refl
  length_fails false right same says = ap not (says refl)

  pub index_charged : (bad : Bool) (old new : Audit) → bad ≡ is_array_index_bad graph image (array_of roles root lengths)
      → Charges (record { block = root; rule = r.Index; fails = bad } ∷ []) old new → Charges (index_test ∷ []) old new
  index_charged bad old new same = as_told r.Index bad _ old new same

  pub both_charged : (bad right : Bool) (n : ℕ) (old mid new : Audit) → bad ≡ is_array_index_bad graph image (array_of roles root lengths)
      → (is_array_index_bad graph image (array_of roles root lengths) ≡ false → right ≡ nat_eq (length (array_words graph image (array_of roles root lengths))) n)
      → Charges (record { block = root; rule = r.Index; fails = bad } ∷ []) old mid
      → Charges (record { block = root; rule = r.Length; fails = not bad && not right } ∷ []) mid new
      → Charges (index_test ∷ length_test n ∷ []) old new
  both_charged bad right n old mid new same says index words =
      charges_then (index_test ∷ []) (length_test n ∷ []) old mid new (index_charged bad old mid same index)
      (as_told r.Length (not bad && not right) _ mid new
      (ap (λ (b : Bool). not b && not right) same ∙ length_fails (is_array_index_bad graph image (array_of roles root lengths)) right _ says) words)

-- one array is a list of arrays
pub one_array : (f : Array → List WholeTest) (a : Array) (old new : Audit) → Charges (f a) old new → Charges (flat_map f (a ∷ [])) old new
one_array f a old new = subst (λ (ts : List WholeTest). Charges ts old new) (sym (append-nil (f a)))

-- the rules of the whole image are charged by the fields that were read of a superblock, and their format
pub super_charged : {F : Type 0} (Ready : Graph → F → Type 0) (tests : Graph → F → List WholeTest) (whole : List WholeTest) (fields own : F) (graph its : Graph) (old new : Audit)
    → fields ≡ own → graph ≡ its → whole ≡ tests its own → Ready its own → (Ready graph fields → Charges (tests graph fields) old new) → Charges whole old new
super_charged Ready tests whole fields own graph its old new same is named ready charged = rw (named, ← is, ← same) (charged (rw (is, same) ready))
