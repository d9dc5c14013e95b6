-- The pieces of some mappings and of the parts behind them, before and after a part is taken or a piece is given.
use Rattle.std.proofs.Common.{◌≡◌, ℕ, ◌+◌, ◌≤◌, false, List, [], ◌∷◌, ◌++◌, Option, Some, None, is_some, IfSome, map, refl, sym, ap, ◌∙◌, arith, append_assoc, zero, suc, length, length-append}
use Rattle.std.proofs.lemmas.List.{append-nil}
use Rattle.std.specs.List.{flat_map}
use Rattle.std.proofs.lemmas.Grind.{flat_map-append}
use Rattle.pd_kinds.specs.Meaning.{Mapping}
use Rattle.pd_kinds.specs.Graph.{block_at}
use Rattle.pd_value.specs.declared.thin.BlockTime.{BlockTime}
use Rattle.pd_tree.specs.Below.{each_below, items_from, kids_from}
use Rattle.pd_tree.specs.Stack.{FrontierItem, node, left_of_item, left_at, left_in}
use Rattle.pd_tree.specs.declared.stack.Stack.{Stack}
use Rattle.pd_tree.proofs.StackLemmas.{gather_is, each_none, child_alone}
use Rattle.pd_tree.proofs.NextLemmas.{none_left, none_outside, no_items, no_kids}
use Rattle.pd_meaning_thin.specs.declared.joined.OpenRun.{OpenRun}
use Rattle.pd_meaning_thin.specs.Runs.{begun_mappings, begun_number, given_runs, IsGiven, mapping_of, block_time_of}
use Rattle.pd_meaning_thin.specs.declared.pieces.Piece.{Piece}
use Rattle.pd_meaning_thin.specs.declared.pieces.Piece.TheVariants.{Run, SharedLeaf}
use Rattle.pd_meaning_thin.specs.declared.pieces.PieceRuns.{PieceRuns}
use Rattle.pd_meaning_thin.specs.Pieces.{Part, mapped, leaf, parts_left, joined_pieces, pieces_left, pieces_reads, number_of, kids_of_block, parts_of_block, parts_below, read_of_block, read_below, parts_of_left, read_of_left, stack_parts, stack_reads}
use Rattle.pd_meaning_thin.specs.declared.joined.Run as given

-- the mappings up to the first shared leaf, and the pieces from it on
abbrev leading : List Part → List Mapping
leading [] = []
leading (mapped m ∷ parts) = m ∷ leading parts
leading (leaf number ∷ parts) = []

abbrev behind : List Part → List Piece
behind [] = []
behind (mapped m ∷ parts) = behind parts
behind (leaf number ∷ parts) = SharedLeaf number ∷ joined_pieces [] parts

-- the pieces are the runs of those, and then these
pieces_are : (mappings : List Mapping) (parts : List Part) → joined_pieces mappings parts ≡ map Run (given_runs (mappings ++ leading parts)) ++ behind parts
pieces_are mappings [] = rw (append-nil mappings, append-nil (map Run (given_runs mappings))) refl
pieces_are mappings (mapped m ∷ parts) =
    pieces_are (mappings ++ (m ∷ [])) parts
    ∙ ap (λ (ms : List Mapping). map Run (given_runs ms) ++ behind parts) (append_assoc mappings (m ∷ []) (leading parts))
pieces_are mappings (leaf number ∷ parts) = rw (append-nil mappings) refl

-- a run was given as a piece, or none
abbrev pub IsGivenPiece : Option given.Run → List Piece → List Piece → Type 0
IsGivenPiece None old new = old ≡ new
IsGivenPiece (Some run) old new = old ≡ Run run ∷ new

-- a mapping that is taken, over the runs of any mappings behind it
pub piece_taken : (run : Option given.Run) (old new : List Mapping) (m : Mapping) (parts : List Part)
    → ((rest : List Mapping) → IsGiven run (given_runs (old ++ (m ∷ rest))) (given_runs (new ++ rest)))
    → IsGivenPiece run (joined_pieces old (mapped m ∷ parts)) (joined_pieces new parts)
piece_taken None old new m parts takes =
    pieces_are old (mapped m ∷ parts)
    ∙ (ap (λ (runs : List given.Run). map Run runs ++ behind parts) (takes (leading parts)) ∙ sym (pieces_are new parts))
piece_taken (Some run) old new m parts takes =
    pieces_are old (mapped m ∷ parts)
    ∙ (ap (λ (runs : List given.Run). map Run runs ++ behind parts) (takes (leading parts)) ∙ ap (λ (pieces : List Piece). Run run ∷ pieces) (sym (pieces_are new parts)))

-- so it is with what is left
pub mapping_taken : (run : Option given.Run) (shared : List ℕ) (image : List (List ℕ)) (old new : PieceRuns) (item : ℕ × BlockTime) → old.waiting ≡ None → new.waiting ≡ None
    → parts_left shared image old.parts ≡ mapped (mapping_of item) ∷ parts_left shared image new.parts
    → ((rest : List Mapping) → IsGiven run (given_runs (begun_mappings old.joined.begun ++ (mapping_of item ∷ rest))) (given_runs (begun_mappings new.joined.begun ++ rest)))
    → IsGivenPiece run (pieces_left shared image old) (pieces_left shared image new)
mapping_taken run shared image old new item before after next takes =
    rw (before, after, next) (piece_taken run (begun_mappings old.joined.begun) (begun_mappings new.joined.begun) (mapping_of item) (parts_left shared image new.parts) takes)

-- no leaf waits
pub no_leaf : (waiting : Option ℕ) → is_some waiting ≡ false → waiting ≡ None
no_leaf None none = refl
no_leaf (Some number) none = cc

-- at most one run is begun
pub few_begun : (begun : Option OpenRun) → begun_number begun ≤ 1
few_begun None = omega arith
few_begun (Some begun) = omega arith

-- the same is left as at the start, and each read took a block of those that were to be read
pub record PiecesTold (shared : List ℕ) (image : List (List ℕ)) (reads : ℕ) (start : PieceRuns) (made : ℕ) (now : PieceRuns) : Type 0 where
  pub pieces : pieces_left shared image start ≡ pieces_left shared image now
  pub reads_left : made + pieces_reads shared image now ≤ reads + pieces_reads shared image start

-- where each of three facts holds of the value, if there is one
pub if_three : {X : Type 0} {P Q R S : X → Type 0} → (o : Option X) → ((x : X) → P x → Q x → R x → S x) → IfSome o P → IfSome o Q → IfSome o R → IfSome o S
if_three None join p q r = tt
if_three (Some x) join p q r = join x p q r

-- What stands below a block is what stands at it, and then what stands below the blocks that it names.

-- what a node that was read gives: what its entries give, and then what each block that it names gives
flat_each : {V X : Type 0} → (f : FrontierItem V → List X) (j : ℕ) (bs : List ℕ) → flat_map f (each_below child_alone j bs) ≡ each_below (λ i b. f (node i b)) j bs
unfolding each_below
flat_each f zero bs = refl
flat_each f (suc j) [] = refl
flat_each f (suc j) (b ∷ bs) = ap (λ xs. f (node j b) ++ xs) (flat_each f (suc j) bs)

flat_left : {V X : Type 0} → (f : FrontierItem V → List X) (size : ℕ) (decoded : ℕ → V) (j : ℕ) (block : List ℕ)
    → flat_map f (left_in size decoded j block) ≡ flat_map f (map left_of_item (items_from size decoded block 0)) ++ each_below (λ i b. f (node i b)) j (kids_from size block 0)
unfolding left_in
flat_left f size decoded j block =
    flat_map-append f (map left_of_item (items_from size decoded block 0)) (each_below child_alone j (kids_from size block 0))
    ∙ ap (λ xs. flat_map f (map left_of_item (items_from size decoded block 0)) ++ xs) (flat_each f j (kids_from size block 0))

module _ (shared : List ℕ) (image : List (List ℕ)) where
  -- below a block
  pub parts_below_is : (j b : ℕ)
      → parts_below shared image j b ≡ parts_of_block image b (number_of shared b) ++ each_below (parts_below shared image) j (kids_of_block image b (number_of shared b))
  unfolding parts_below
  parts_below_is j b = gather_is (λ c. parts_of_block image c (number_of shared c)) (λ c. kids_of_block image c (number_of shared c)) j b

  pub read_below_is : (j b : ℕ)
      → read_below shared image j b ≡ read_of_block b (number_of shared b) ++ each_below (read_below shared image) j (kids_of_block image b (number_of shared b))
  unfolding read_below
  read_below_is j b = gather_is (λ c. read_of_block c (number_of shared c)) (λ c. kids_of_block image c (number_of shared c)) j b

  -- a shared leaf
  pub parts_leaf : (j b number : ℕ) → number_of shared b ≡ Some number → parts_below shared image j b ≡ leaf number ∷ []
  parts_leaf j b number is = rw (parts_below_is j b, is, each_none (parts_below shared image) j) refl

  -- a block that isn't one
  item_parts : (items : List (ℕ × BlockTime)) → flat_map (parts_of_left shared image) (map left_of_item items) ≡ map (λ item. mapped (mapping_of item)) items
  item_parts [] = refl
  item_parts (item ∷ items) = ap (λ (parts : List Part). mapped (mapping_of item) ∷ parts) (item_parts items)

  item_reads : (items : List (ℕ × BlockTime)) → flat_map (read_of_left shared image) (map left_of_item items) ≡ []
  item_reads [] = refl
  item_reads (item ∷ items) = item_reads items

  pub parts_read : (j b : ℕ) → number_of shared b ≡ None → flat_map (parts_of_left shared image) (left_in 8 block_time_of j (block_at image b)) ≡ parts_below shared image j b
  parts_read j b none =
      rw (parts_below_is j b, none, flat_left (parts_of_left shared image) 8 block_time_of j (block_at image b), item_parts (items_from 8 block_time_of (block_at image b) 0)) refl

  pub reads_read : (j b : ℕ) → number_of shared b ≡ None → b ∷ flat_map (read_of_left shared image) (left_in 8 block_time_of j (block_at image b)) ≡ read_below shared image j b
  reads_read j b none =
      rw (read_below_is j b, none, flat_left (read_of_left shared image) 8 block_time_of j (block_at image b), item_reads (items_from 8 block_time_of (block_at image b) 0)) refl

  -- a block outside of the image
  pub parts_outside : (j b : ℕ) → number_of shared b ≡ None → length image ≤ b → parts_below shared image j b ≡ []
  parts_outside j b none outside =
      rw (parts_below_is j b, none, none_outside image b outside, no_items 8 block_time_of, no_kids 8, each_none (parts_below shared image) j) refl

  -- the block itself is among those that are read
  pub read_some : (j b : ℕ) → number_of shared b ≡ None → 1 ≤ length (read_below shared image j b)
  read_some j b none = rw (read_below_is j b, none) (omega arith)

  -- a node that was read, before what was left
  pub pushed_parts : (j b : ℕ) (old new : List (FrontierItem BlockTime)) → number_of shared b ≡ None → new ≡ left_in 8 block_time_of j (block_at image b) ++ old
      → flat_map (parts_of_left shared image) new ≡ parts_below shared image j b ++ flat_map (parts_of_left shared image) old
  pushed_parts j b old new none is =
      rw (is, flat_map-append (parts_of_left shared image) (left_in 8 block_time_of j (block_at image b)) old, parts_read j b none) refl

  pub pushed_reads : (j b : ℕ) (old new : List (FrontierItem BlockTime)) → number_of shared b ≡ None → new ≡ left_in 8 block_time_of j (block_at image b) ++ old
      → suc (length (flat_map (read_of_left shared image) new)) ≡ length (read_below shared image j b) + length (flat_map (read_of_left shared image) old)
  pushed_reads j b old new none is =
      rw (is, flat_map-append (read_of_left shared image) (left_in 8 block_time_of j (block_at image b)) old, ← reads_read j b none)
      (omega (arith, length-append (flat_map (read_of_left shared image) (left_in 8 block_time_of j (block_at image b))) (flat_map (read_of_left shared image) old)))

-- the same is left on the way as at the start, and each read took a block of those that were to be read
pub record PartsTold (shared : List ℕ) (image : List (List ℕ)) (reads : ℕ) (start : Stack) (made : ℕ) (now : Stack) : Type 0 where
  pub parts : stack_parts shared image start ≡ stack_parts shared image now
  pub reads_left : made + stack_reads shared image now ≤ reads + stack_reads shared image start

-- in the end nothing is left
pub parts_end : (shared : List ℕ) (image : List (List ℕ)) (start now : Stack) → stack_parts shared image start ≡ stack_parts shared image now → now.depth ≡ 0
    → (stack_parts shared image start ≡ []) × (stack_parts shared image now ≡ [])
parts_end shared image start now told ends =
    let none = ap (flat_map (parts_of_left shared image)) (none_left (left_at 8 block_time_of) now.places.items now.depth ends) in
    (told ∙ none, none)
