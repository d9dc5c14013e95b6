-- The text of a leaf, while it is made and where it is printed.
use Rattle.std.proofs.Common.{◌≡◌, ℕ, ◌-◌, false, List, [], ◌∷◌, ◌++◌, map, Option, None, Some, refl, sym, ap, ◌∙◌, subst, append_assoc, arith, suc, ◌+◌, ◌≤◌}
use Rattle.std.specs.List.{range_with_len}
use Rattle.std.proofs.lemmas.List.{append-nil, map-append}
use Rattle.pd_kinds.specs.Graph.{block_at}
use Rattle.pd_kinds.specs.Meaning.{Mapping}
use Rattle.pd_kinds.specs.Node.{entry_count, is_inner_node, key_at, value_at}
use Rattle.pd_grammar.specs.ThinText.{map_line, thin}
use Rattle.pd_value.specs.declared.thin.BlockTime.{BlockTime}
use Rattle.pd_tree.specs.Below.{items_from, items_below}
use Rattle.pd_tree.specs.Stack.{items_at, last_place, place_at, stack_items, stack_number, stacked}
use Rattle.pd_tree.specs.declared.stack.NodePlace.{NodePlace}
use Rattle.pd_tree.specs.declared.stack.Stack.{Stack}
use Rattle.pd_tree.proofs.StackLemmas.{each_none, items_below_is, kids_leaf, stacked_is, weigh_is}
use Rattle.pd_tree.proofs.NextLemmas.{none_left}
use Rattle.pd_texts.specs.ThinLine.{text_of_line}
use Rattle.pd_meaning_thin.specs.Runs.{block_time_of, IsGiven, begun_mappings, given_runs, mapping_of, spelled, runs_below}
use Rattle.pd_meaning_thin.specs.declared.joined.Joined.{Joined}
use Rattle.pd_meaning_thin.specs.declared.joined.Run.{Run}
use Rattle.pd_meaning_thin.proofs.AppendLemmas.{given_behind, given_onto}
use Rattle.pd_pool_dumps.specs.declared.counts.DumpCounts.{DumpCounts}
use Rattle.pd_pool_dumps.specs.declared.leaf_text.LaterRuns.{LaterRuns}
use Rattle.pd_pool_dumps.specs.declared.leaf_text.LeafText.{LeafText}
use Rattle.pd_pool_dumps.specs.ThinText.{Counted, IsCountOf, given_lines, given_text}
use Rattle.pd_pool_dumps.specs.LeafText.{IsBegun, AreBetween, GoesOnWith, IsKept, IsTextOf, leaf_mappings, runs_from}
use Rattle.pd_pool_dumps.proofs.RunLemmas.{given_more, lines_both, text_both}

-- no mapping
pub taken_none : (joined : Joined) (text : List ℕ) (counts : DumpCounts) → joined.begun ≡ None → text ≡ [] → IsCountOf counts [] → IsBegun [] joined text counts
taken_none joined text counts none no_text no_count = record { one = λ rest. rw none refl; no_text = no_text; no_count = no_count }

-- Mappings more, by what comes before them:
module _ (mappings more : List Mapping) (old new : Joined) where
  -- one of several ended, and its line came
  pub taken_more : (first : Joined) (run : Run) → (given : (rest : List Mapping) → runs_from old (more ++ rest) ≡ run ∷ runs_from new rest) → {text text' : List ℕ} {counts counts' : DumpCounts}
      → text' ≡ text ++ text_of_line thin (map_line (spelled run)) → Counted counts counts' (map_line (spelled run) ∷ []) → AreBetween mappings first old text counts
      → AreBetween (mappings ++ more) first new text' counts'
  taken_more first run given {text = text} {counts' = counts'} text_is counted between = record {
    run = between.run;
    middle = between.middle ++ (run ∷ []);
    first_is = between.first_is;
    runs = λ rest.
        ap given_runs (append_assoc mappings more rest)
        ∙ (between.runs (more ++ rest)
        ∙ (ap (λ (rs : List Run). between.run ∷ (between.middle ++ rs)) (given rest) ∙ ap (λ (rs : List Run). between.run ∷ rs) (sym (append_assoc between.middle (run ∷ []) (runs_from new rest)))));
    text_is =
        text_is
        ∙ (ap (λ (xs : List ℕ). xs ++ text_of_line thin (map_line (spelled run))) between.text_is
        ∙ (ap (λ (xs : List ℕ). given_text between.middle ++ xs) (sym (append-nil (text_of_line thin (map_line (spelled run))))) ∙ sym (text_both between.middle (run ∷ []))));
    counts_are = subst (IsCountOf counts') (sym (lines_both between.middle (run ∷ []))) (counted.all (given_lines between.middle) between.counts_are);
  }

-- what is left of runs behind the first ones
abbrev pub behind : List Run → List Run → List Run
behind [] whole = whole
behind (x ∷ xs) [] = []
behind (x ∷ xs) (y ∷ ys) = behind xs ys

pub behind_is : (xs ys whole : List Run) → whole ≡ xs ++ ys → behind xs whole ≡ ys
behind_is xs ys whole is = ap (behind xs) is ∙ front xs
  where
    front : (zs : List Run) → behind zs (zs ++ ys) ≡ ys
    front [] = refl
    front (z ∷ zs) = front zs

-- the begun run was given, and then the lines of a text follow
pub ends_first : (run : Option Run) (later : LaterRuns) (begun whole left : List Run) → IsGiven run begun [] → GoesOnWith later begun whole left → IsGiven run whole (behind begun whole)
ends_first run later begun whole left given on =
    rw (behind_is begun (on.middle ++ left) whole on.parts, on.parts) (given_more run begun [] (on.middle ++ left) given)

pub goes_behind : (later : LaterRuns) (begun whole left : List Run) → GoesOnWith later begun whole left → GoesOnWith later [] (behind begun whole) left
goes_behind later begun whole left on = record {
  middle = on.middle;
  parts = behind_is begun (on.middle ++ left) whole on.parts;
  text_is = on.text_is;
  counts_are = on.counts_are;
}

-- a leaf is printed behind a begun run: what is left after its first run
module _ (old first mid : Joined) where
  -- the runs of the begun one and of the first of the leaf
  abbrev joined_first : List Run
  joined_first = given_runs (begun_mappings old.begun ++ begun_mappings first.begun)

  abbrev pub left_behind : Option LaterRuns → List Mapping → List Mapping → List Run
  left_behind None mappings rest = runs_from mid rest
  left_behind (Some later) mappings rest = given_runs (begun_mappings mid.begun) ++ behind joined_first (runs_from old (mappings ++ rest))

  parts_of : (mappings rest : List Mapping) {last : Joined} {text : List ℕ} {counts : DumpCounts} → (between : AreBetween mappings first last text counts)
      → runs_from old (mappings ++ rest) ≡ joined_first ++ (between.middle ++ runs_from last rest)
  parts_of mappings rest {last} between =
      given_behind (begun_mappings old.begun) (begun_mappings first.begun) (mappings ++ rest) between.run (between.middle ++ runs_from last rest) between.first_is (between.runs rest)

  pub first_given : (run : Option Run) (later : Option LaterRuns) (mappings rest : List Mapping) → ((more : List Mapping) → IsGiven run (runs_from old (begun_mappings first.begun ++ more)) (runs_from mid more))
      → IsTextOf mappings first later → IsGiven run (runs_from old (mappings ++ rest)) (left_behind later mappings rest)
  first_given run None mappings rest given one =
      subst (λ (runs : List Run). IsGiven run runs (runs_from mid rest)) (sym (given_onto (begun_mappings old.begun) (mappings ++ rest) (begun_mappings first.begun ++ rest) (one rest))) (given rest)
  first_given run (Some later) mappings rest given between =
      let tail : List Run = between.middle ++ runs_from later.last rest in
      let is = parts_of mappings rest between in
      let joined = rw (append-nil (begun_mappings first.begun), append-nil (begun_mappings mid.begun)) at (given []) in
      rw (behind_is joined_first tail (runs_from old (mappings ++ rest)) is, is) (given_more run joined_first (given_runs (begun_mappings mid.begun)) tail joined)

  pub goes_on : (later : LaterRuns) (mappings rest : List Mapping) → IsTextOf mappings first (Some later)
      → GoesOnWith later (given_runs (begun_mappings mid.begun)) (left_behind (Some later) mappings rest) (runs_from later.last rest)
  goes_on later mappings rest between = record {
    middle = between.middle;
    parts =
        ap (λ (rs : List Run). given_runs (begun_mappings mid.begun) ++ rs) (behind_is joined_first (between.middle ++ runs_from later.last rest) (runs_from old (mappings ++ rest)) (parts_of mappings rest between));
    text_is = between.text_is;
    counts_are = between.counts_are;
  }

-- a text that was made of a block is that of the leaf in it
pub kept_here : (image : List (List ℕ)) (b : ℕ) (text : LeafText) {block : List ℕ} → text.block ≡ b → block_at image b ≡ block → is_inner_node block ≡ false
    → IsTextOf (leaf_mappings block) text.first text.later → IsKept image text.block text
kept_here image b text at is leaf text_is =
    let here = ap (block_at image) at ∙ is in
    record { leaf = rw here leaf; text_is = rw here text_is }

-- the mappings of a leaf, entry by entry
abbrev pub leaf_item : List ℕ → ℕ → ℕ × BlockTime
leaf_item block i = (key_at block i, block_time_of (value_at 8 block i))

pub leaf_all : (block : List ℕ) (n : ℕ) → is_inner_node block ≡ false → n ≡ entry_count 8 block → leaf_mappings block ≡ map mapping_of (map (leaf_item block) (range_with_len 0 n))
unfolding items_from
leaf_all block n leaf is =
    let all : entry_count 8 block - 0 ≡ n = omega (arith, is) in
    rw (leaf, all) refl

-- What is left of a device's runs on the way, step by step.

-- the runs of a begun one's mappings and of entries
abbrev pub with_items : Joined → List (ℕ × BlockTime) → List Run
with_items joined items = runs_from joined (map mapping_of items)

pub with_both : (joined : Joined) (xs ys : List (ℕ × BlockTime)) → with_items joined (xs ++ ys) ≡ runs_from joined (map mapping_of xs ++ map mapping_of ys)
with_both joined xs ys = ap (λ (ms : List Mapping). runs_from joined ms) (map-append mapping_of xs ys)

-- below a leaf are its entries alone
leaf_items : (image : List (List ℕ)) (j b : ℕ) → is_inner_node (block_at image b) ≡ false → items_below 8 block_time_of image j b ≡ items_from 8 block_time_of (block_at image b) 0
leaf_items image j b leaf =
    rw (items_below_is 8 block_time_of image j b, kids_leaf 8 (block_at image b) 0 leaf, each_none (items_below 8 block_time_of image) j) (append-nil (items_from 8 block_time_of (block_at image b) 0))

pub leaf_below : (joined : Joined) (image : List (List ℕ)) (j b : ℕ) (items : List (ℕ × BlockTime)) → is_inner_node (block_at image b) ≡ false
    → with_items joined (items_below 8 block_time_of image j b ++ items) ≡ runs_from joined (leaf_mappings (block_at image b) ++ map mapping_of items)
leaf_below joined image j b items leaf =
    ap (λ (xs : List (ℕ × BlockTime)). with_items joined (xs ++ items)) (leaf_items image j b leaf) ∙ with_both joined (items_from 8 block_time_of (block_at image b) 0) items

-- a leaf on top of the way, and what is left without it
top_items : (image : List (List ℕ)) (d : ℕ) (place : NodePlace) → is_inner_node place.block.0 ≡ false → place.next ≡ 0
    → items_at 8 block_time_of image d place ≡ items_from 8 block_time_of place.block.0 0
unfolding items_at
top_items image d place leaf whole =
    rw (whole, kids_leaf 8 place.block.0 0 leaf, each_none (items_below 8 block_time_of image) (63 - d)) (append-nil (items_from 8 block_time_of place.block.0 0))

pub popped : (joined : Joined) (image : List (List ℕ)) (old new : Stack) → new.depth + 1 ≡ old.depth → new.places.items ≡ old.places.items → is_inner_node (last_place old).block.0 ≡ false → (last_place old).next ≡ 0
    → with_items joined (stack_items 8 block_time_of image old) ≡ runs_from joined (leaf_mappings (last_place old).block.0 ++ map mapping_of (stack_items 8 block_time_of image new))
popped joined image old new depth places leaf whole =
    let one : old.depth ≡ suc new.depth = omega arith in
    let before : old.depth - 1 ≡ new.depth = omega arith in
    let rest : List (ℕ × BlockTime) = stacked (items_at 8 block_time_of image) old.places.items new.depth in
    let top =
    ap (λ (d : ℕ). items_at 8 block_time_of image new.depth (place_at old.places.items d)) (sym before) ∙ top_items image new.depth (last_place old) leaf whole in
    ap (λ (xs : List (ℕ × BlockTime)). with_items joined xs)
    (stacked_is (items_at 8 block_time_of image) old.places.items new.depth old.depth one ∙ ap (λ (xs : List (ℕ × BlockTime)). xs ++ rest) top)
    ∙ (with_both joined (items_from 8 block_time_of (last_place old).block.0 0) rest
    ∙ ap (λ (places : List NodePlace). runs_from joined (leaf_mappings (last_place old).block.0 ++ map mapping_of (stacked (items_at 8 block_time_of image) places new.depth))) (sym places))

pub popped_number : (old new : Stack) → new.depth + 1 ≡ old.depth → new.places.items ≡ old.places.items → stack_number 8 new ≤ stack_number 8 old
popped_number old new depth places =
    let one : old.depth ≡ suc new.depth = omega arith in
    let all = weigh_is 8 old.places.items new.depth old.depth one in
    rw (places, all) (omega arith)

-- nothing is left where there is no node
pub ended : (joined : Joined) (image : List (List ℕ)) (now : Stack) → now.depth ≡ 0 → with_items joined (stack_items 8 block_time_of image now) ≡ given_runs (begun_mappings joined.begun)
ended joined image now none =
    ap (λ (xs : List (ℕ × BlockTime)). with_items joined xs) (none_left (items_at 8 block_time_of image) now.places.items now.depth none)
    ∙ ap given_runs (append-nil (begun_mappings joined.begun))

-- an entry that is taken
pub entry_given : (run : Option Run) (key : ℕ) (value : BlockTime) (old new : Joined) (items left : List (ℕ × BlockTime)) → items ≡ (key, value) ∷ left
    → ((rest : List Mapping) → IsGiven run (runs_from old (mapping_of (key, value) ∷ rest)) (runs_from new rest)) → IsGiven run (with_items old items) (with_items new left)
entry_given run key value old new items left is given = rw is (given (map mapping_of left))

-- before the first step all that stands below a root is left
pub from_root : (joined : Joined) (image : List (List ℕ)) (root : ℕ) (now : Stack) → joined.begun ≡ None → now.depth ≡ 0
    → runs_below image root ≡ with_items joined (items_below 8 block_time_of image (63 - now.depth) root ++ stack_items 8 block_time_of image now)
from_root joined image root now begun none =
    rw (begun, none_left (items_at 8 block_time_of image) now.places.items now.depth none, none, append-nil (items_below 8 block_time_of image 63 root)) refl
