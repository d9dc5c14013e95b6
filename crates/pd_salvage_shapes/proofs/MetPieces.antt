-- The pieces of what was met, one note after another.
use Rattle.std.proofs.lemmas.Bool.{cases_Bool}
use Rattle.std.proofs.Common.{◌≡◌, inl, inr, ℕ, ◌+◌, ◌-◌, ◌≤◌, true, false, List, [], ◌∷◌, ◌++◌, length, map, take, drop, Option, Some, None, refl, sym, ap, ◌∙◌, subst, arith, append_assoc}
use Rattle.std.specs.List.{AllByRecursion}
use Rattle.std.proofs.lemmas.List.{append-nil, length-append, length-drop, map-append, take-append-le, drop-append-le}
use Rattle.std.proofs.lemmas.List.Sums.{sum_by-append}
use Rattle.pd_kinds.specs.Meaning.{Mapping}
use Rattle.pd_kinds.proofs.ListLemmas.{all_append}
use Rattle.pd_grammar.specs.ThinText.{joined_runs, mappings_of}
use Rattle.pd_grammar.specs.ThinText as text
use Rattle.pd_laid.specs.Shape.{Piece, own, shared, with_own}
use Rattle.pd_laid.specs.PoolText.{PartPiece, piece_of_part, used_leaf}
use Rattle.pd_meaning_thin.specs.declared.joined.Run.{Run}
use Rattle.pd_meaning_thin.specs.Runs.{spelled}
use Rattle.pd_salvage.specs.declared.joined.Joining.{Joining}
use Rattle.pd_salvage.specs.declared.saved_shape.SavedPiece.{SavedPiece}
use Rattle.pd_salvage.specs.declared.saved_shape.SavedPiece.TheVariants.{Own, Shared}
use Rattle.pd_salvage.specs.Gather.{IsJoining, Takes, mappings_of_runs}
use Rattle.pd_salvage.proofs.GatherLemmas.{runs_more}
use Rattle.pd_salvage.specs.SavedShape.{IsPieceJoined, piece_part, piece_parts, runs_of_piece, runs_of_pieces}
use Rattle.pd_salvage.proofs.SavingLemmas.{take_all}
use Rattle.pd_salvage_shapes.specs.declared.note.LeafNote.{LeafNote}
use Rattle.pd_salvage_shapes.specs.declared.pieces.Piecing.{Piecing}
use Rattle.pd_salvage_shapes.specs.Note.{noted, Met, met_of}
use Rattle.pd_salvage_shapes.specs.Pieces.{above, EndsOwn, HasPieces, IsIdle, IsPiecing, number_of_leaf, own_piece, pieces_of_mets}
use Rattle.pd_laws_shapes.proofs.PiecesBack.{own_both}

-- pieces with more of them behind
pub pieces_more : (ps more : List SavedPiece) (runs others : List Run) → runs_of_pieces ps ≡ length runs → piece_parts (ps ++ more) (runs ++ others) ≡ piece_parts ps runs ++ piece_parts more others
pieces_more [] more [] others number = refl
pieces_more [] more (r ∷ runs) others number = absurd (omega arith)
pieces_more (p ∷ ps) more runs others number =
    let whole : runs_of_piece p + runs_of_pieces ps ≡ length runs = omega (arith, number, sum_by-append runs_of_piece (p ∷ []) ps) in
    let rest : runs_of_pieces ps ≡ length (drop (runs_of_piece p) runs) = omega (arith, length-drop (runs_of_piece p) runs) in
    rw (take-append-le (runs_of_piece p) runs others (omega arith), drop-append-le (runs_of_piece p) runs others (omega arith))
    (ap (λ (qs : List PartPiece). piece_part p (take (runs_of_piece p) runs) ∷ qs) (pieces_more ps more (drop (runs_of_piece p) runs) others rest))

pub sum_more : (ps more : List SavedPiece) → runs_of_pieces (ps ++ more) ≡ runs_of_pieces ps + runs_of_pieces more
sum_more ps more = sum_by-append runs_of_piece ps more

-- what is met of one's own, and of a shared leaf
pieces_own : (ones : List ℕ) (leaf : Option ℕ) (ms : List Mapping) (rest : List Met) → number_of_leaf ones leaf ≡ None → pieces_of_mets ones (met_of leaf ms ++ rest) ≡ with_own ms (pieces_of_mets ones rest)
pieces_own ones leaf [] rest none = refl
pieces_own ones leaf (m ∷ ms) rest none = rw none refl

pieces_shared : (ones : List ℕ) (leaf : Option ℕ) (ms : List Mapping) (k : ℕ) (rest : List Met) → number_of_leaf ones leaf ≡ Some k → 1 ≤ length ms
    → pieces_of_mets ones (met_of leaf ms ++ rest) ≡ shared k ∷ pieces_of_mets ones rest
pieces_shared ones leaf [] k rest is some = absurd (omega arith)
pieces_shared ones leaf (m ∷ ms) k rest is some = rw is refl

-- some runs as a piece
own_number : (runs : List Run) → runs_of_pieces (own_piece runs) ≡ length runs
own_number [] = refl
own_number (r ∷ runs) = omega arith

own_joined : (runs : List Run) → joined_runs (mappings_of_runs runs) ≡ map spelled runs → AllByRecursion IsPieceJoined (piece_parts (own_piece runs) runs)
own_joined [] is = tt
own_joined (r ∷ runs) is = rw (take_all runs) (is, tt)

own_some : (ms : List Mapping) (r : text.Run) (rs : List text.Run) → joined_runs ms ≡ r ∷ rs → 1 ≤ length ms
own_some [] r rs is = cc
own_some (m ∷ ms) r rs is = omega arith

-- a piece of one's own before the end, and before a use
ends_own : (ms : List Mapping) → 1 ≤ length ms → own ms ∷ [] ≡ with_own ms []
ends_own [] some = absurd (omega arith)
ends_own (m ∷ ms) some = refl

uses_own : (ms : List Mapping) (k : ℕ) (pieces : List Piece) → 1 ≤ length ms → own ms ∷ shared k ∷ pieces ≡ with_own ms (shared k ∷ pieces)
uses_own [] k pieces some = absurd (omega arith)
uses_own (m ∷ ms) k pieces some = refl

own_ends : (runs : List Run) → joined_runs (mappings_of_runs runs) ≡ map spelled runs → map piece_of_part (piece_parts (own_piece runs) runs) ≡ with_own (mappings_of_runs runs) []
own_ends [] is = refl
own_ends (r ∷ runs) is = rw (take_all runs) (ends_own (mappings_of_runs (r ∷ runs)) (own_some (mappings_of_runs (r ∷ runs)) (spelled r) (map spelled runs) is))

own_used : (runs : List Run) (k : ℕ) (pieces : List Piece) → joined_runs (mappings_of_runs runs) ≡ map spelled runs
    → map piece_of_part (piece_parts (own_piece runs) runs) ++ (shared k ∷ pieces) ≡ with_own (mappings_of_runs runs) (shared k ∷ pieces)
own_used [] k pieces is = refl
own_used (r ∷ runs) k pieces is = rw (take_all runs) (uses_own (mappings_of_runs (r ∷ runs)) k pieces (own_some (mappings_of_runs (r ∷ runs)) (spelled r) (map spelled runs) is))

-- no piece was begun
none_joining : (before : List Run) (runs : List Run) (joining : Joining) → joining.begun ≡ None → runs ≡ before → IsJoining before runs joining []
none_joining before runs joining none is = record {
  given = [];
  runs_are = is ∙ sym (append-nil before);
  some = rw none tt;
  written = rw none refl;
  joined = λ rest. rw none refl;
}

module _ (ones : List ℕ) (pieces : List SavedPiece) (runs : List Run) where
  pub begins : (p : Piecing) → IsIdle p → p.pieces.items ≡ pieces → p.runs ≡ runs → IsPiecing ones pieces runs p []
  begins p idle is_pieces is_runs = record {
    given = [];
    given_runs = [];
    mappings = [];
    pieces_are = is_pieces ∙ sym (append-nil pieces);
    joining = none_joining (runs ++ []) p.runs p.joining idle.none (is_runs ∙ sym (append-nil runs));
    first = idle.first ∙ ap length (is_runs ∙ sym (append-nil runs));
    number = refl;
    joined = tt;
    means = λ rest. refl;
  }

  module _ (old new : Piecing) (done : List Met) (is : IsPiecing ones pieces runs old done) (leaf : Option ℕ) (ms : List Mapping) where
    -- a note of the device's own
    pub takes_own : number_of_leaf ones leaf ≡ None → new.pieces ≡ old.pieces → new.first ≡ old.first → IsJoining (runs ++ is.given_runs) new.runs new.joining (is.mappings ++ ms)
        → IsPiecing ones pieces runs new (done ++ met_of leaf ms)
    takes_own none same first joining = record {
      given = is.given;
      given_runs = is.given_runs;
      mappings = is.mappings ++ ms;
      pieces_are = rw same is.pieces_are;
      joining = joining;
      first = first ∙ is.first;
      number = is.number;
      joined = is.joined;
      means = λ rest.
          ap (pieces_of_mets ones) (append_assoc done (met_of leaf ms) rest)
          ∙ (is.means (met_of leaf ms ++ rest)
          ∙ ap (λ (ps : List Piece). map piece_of_part (piece_parts is.given is.given_runs) ++ ps)
          (ap (with_own is.mappings) (pieces_own ones leaf ms rest none) ∙ own_both is.mappings ms (pieces_of_mets ones rest)));
    }

    -- a shared leaf
    module _ (mid : Piecing) (k : ℕ) (number : number_of_leaf ones leaf ≡ Some k) (some : 1 ≤ length ms) (ends : EndsOwn old mid (runs ++ is.given_runs) is.mappings) where
      written_joined : joined_runs (mappings_of_runs ends.given) ≡ map spelled ends.given
      written_joined = rw (← ends.written) ends.joined

      parts : piece_parts (is.given ++ (own_piece ends.given ++ Shared k ∷ [])) (is.given_runs ++ ends.given)
          ≡ piece_parts is.given is.given_runs ++ (piece_parts (own_piece ends.given) ends.given ++ used_leaf k ∷ [])
      parts =
          pieces_more is.given (own_piece ends.given ++ Shared k ∷ []) is.given_runs ends.given is.number
          ∙ ap (λ (ps : List PartPiece). piece_parts is.given is.given_runs ++ ps)
          (ap (piece_parts (own_piece ends.given ++ Shared k ∷ [])) (sym (append-nil ends.given))
          ∙ pieces_more (own_piece ends.given) (Shared k ∷ []) ends.given [] (own_number ends.given))

      pub takes_shared : new.pieces.items ≡ mid.pieces.items ++ Shared k ∷ [] → new.runs ≡ mid.runs → new.joining ≡ mid.joining → new.first ≡ mid.first
          → IsPiecing ones pieces runs new (done ++ met_of leaf ms)
      takes_shared pushed same_runs same_joining same_first =
          let whole : new.runs ≡ runs ++ (is.given_runs ++ ends.given) = rw same_runs (ends.runs_are ∙ append_assoc runs is.given_runs ends.given) in
          let same_items : new.runs ≡ mid.runs = rw same_runs refl in
          let sum = sum_more is.given (own_piece ends.given ++ Shared k ∷ []) in
          let sum_last = sum_more (own_piece ends.given) (Shared k ∷ []) in
          let own_sum = own_number ends.given in
          let before = is.number in
          let lengths = length-append is.given_runs ends.given in
          record {
            given = is.given ++ (own_piece ends.given ++ Shared k ∷ []);
            given_runs = is.given_runs ++ ends.given;
            mappings = [];
            pieces_are =
                pushed
                ∙ (ap (λ (ps : List SavedPiece). ps ++ Shared k ∷ []) (ends.pieces_are ∙ (ap (λ (ps : List SavedPiece). ps ++ own_piece ends.given) is.pieces_are ∙ append_assoc pieces is.given (own_piece ends.given)))
                ∙ (append_assoc pieces (is.given ++ own_piece ends.given) (Shared k ∷ [])
                ∙ ap (λ (ps : List SavedPiece). pieces ++ ps) (append_assoc is.given (own_piece ends.given) (Shared k ∷ []))));
            joining = none_joining (runs ++ (is.given_runs ++ ends.given)) new.runs new.joining (rw same_joining ends.none) whole;
            first = same_first ∙ (ends.first ∙ ap length (sym (same_items) ∙ whole));
            number = omega arith;
            joined = rw parts (all_append IsPieceJoined (piece_parts is.given is.given_runs) (piece_parts (own_piece ends.given) ends.given ++ used_leaf k ∷ []) is.joined
                (all_append IsPieceJoined (piece_parts (own_piece ends.given) ends.given) (used_leaf k ∷ []) (own_joined ends.given written_joined) (tt, tt)));
            means = λ rest.
                ap (pieces_of_mets ones) (append_assoc done (met_of leaf ms) rest)
                ∙ (is.means (met_of leaf ms ++ rest)
                ∙ (ap (λ (ps : List Piece). map piece_of_part (piece_parts is.given is.given_runs) ++ ps)
                (ap (with_own is.mappings) (pieces_shared ones leaf ms k rest number some)
                ∙ (ap (λ (xs : List Mapping). with_own xs (shared k ∷ pieces_of_mets ones rest)) ends.written
                ∙ sym (own_used ends.given k (pieces_of_mets ones rest) written_joined)))
                ∙ sym (regroup rest)));
          }
        where
          regroup : (rest : List Met) → map piece_of_part (piece_parts (is.given ++ (own_piece ends.given ++ Shared k ∷ [])) (is.given_runs ++ ends.given)) ++ pieces_of_mets ones rest
              ≡ map piece_of_part (piece_parts is.given is.given_runs) ++ (map piece_of_part (piece_parts (own_piece ends.given) ends.given) ++ (shared k ∷ pieces_of_mets ones rest))
          regroup rest =
              rw (
                parts,
                map-append piece_of_part (piece_parts is.given is.given_runs) (piece_parts (own_piece ends.given) ends.given ++ used_leaf k ∷ []),
                map-append piece_of_part (piece_parts (own_piece ends.given) ends.given) (used_leaf k ∷ []),
                append_assoc (map piece_of_part (piece_parts is.given is.given_runs)) (map piece_of_part (piece_parts (own_piece ends.given) ends.given) ++ (shared k ∷ [])) (pieces_of_mets ones rest),
                append_assoc (map piece_of_part (piece_parts (own_piece ends.given) ends.given)) (shared k ∷ []) (pieces_of_mets ones rest),
              ) refl

  -- the end
  pub has_pieces : (old new : Piecing) (mets : List Met) (is : IsPiecing ones pieces runs old mets) → EndsOwn old new (runs ++ is.given_runs) is.mappings → HasPieces ones pieces runs new mets
  has_pieces old new mets is ends =
      let written_joined : joined_runs (mappings_of_runs ends.given) ≡ map spelled ends.given = rw (← ends.written) ends.joined in
      let parts = pieces_more is.given (own_piece ends.given) is.given_runs ends.given is.number in
      let sum = sum_more is.given (own_piece ends.given) in
      let own_sum = own_number ends.given in
      let before = is.number in
      let lengths = length-append is.given_runs ends.given in
      record {
        given = is.given ++ own_piece ends.given;
        given_runs = is.given_runs ++ ends.given;
        pieces_are = ends.pieces_are ∙ (ap (λ (ps : List SavedPiece). ps ++ own_piece ends.given) is.pieces_are ∙ append_assoc pieces is.given (own_piece ends.given));
        runs_are = ends.runs_are ∙ append_assoc runs is.given_runs ends.given;
        number = omega arith;
        joined = rw parts (all_append IsPieceJoined (piece_parts is.given is.given_runs) (piece_parts (own_piece ends.given) ends.given) is.joined (own_joined ends.given written_joined));
        means =
            ap (map piece_of_part) parts
            ∙ (map-append piece_of_part (piece_parts is.given is.given_runs) (piece_parts (own_piece ends.given) ends.given)
            ∙ (ap (λ (ps : List Piece). map piece_of_part (piece_parts is.given is.given_runs) ++ ps) (own_ends ends.given written_joined ∙ ap (λ (xs : List Mapping). with_own xs []) (sym ends.written))
            ∙ (sym (is.means []) ∙ ap (pieces_of_mets ones) (append-nil mets))));
      }

-- runs that are taken one by one
pub takes_more : (before more : List Mapping) (r0 r1 r2 : List Run) (j0 j1 j2 : Joining) → Takes before r0 r1 j0 j1 → Takes more r1 r2 j1 j2 → Takes (before ++ more) r0 r2 j0 j2
takes_more before more r0 r1 r2 j0 j1 j2 first second = λ runs ms is.
    subst (λ (xs : List Mapping). IsJoining runs r2 j2 xs) (append_assoc ms before more) (second runs (ms ++ before) (first runs ms is))

-- of some runs all but those that are left were taken
pub record TakesFirst (runs left : List Run) (old new : List Run) (joining joining' : Joining) : Type 0 where
  pub first : List Run
  pub split : runs ≡ first ++ left
  pub takes : Takes (mappings_of_runs first) old new joining joining'

module _ (runs : List Run) (old : List Run) (joining : Joining) where
  pub takes_none : (left : List Run) → left ≡ runs → TakesFirst runs left old old joining joining
  takes_none left is = record {
    first = [];
    split = sym is;
    takes = λ before ms joins. rw (append-nil ms) joins;
  }

  pub takes_next : (left rest : List Run) (run : Run) (now new : List Run) (joining' joining'' : Joining) → TakesFirst runs left old now joining joining' → left ≡ run ∷ rest
      → Takes (mappings_of (spelled run)) now new joining' joining'' → TakesFirst runs rest old new joining joining''
  takes_next left rest run now new joining' joining'' taken is next = record {
    first = taken.first ++ run ∷ [];
    split = taken.split ∙ (ap (λ (rs : List Run). taken.first ++ rs) is ∙ sym (append_assoc taken.first (run ∷ []) rest));
    takes =
        subst (λ (ms : List Mapping). Takes ms old new joining joining'') (sym (runs_more taken.first run))
        (takes_more (mappings_of_runs taken.first) (mappings_of (spelled run)) old now new joining joining' joining'' taken.takes next);
  }

  pub takes_all : (left new : List Run) (joining' : Joining) → TakesFirst runs left old new joining joining' → left ≡ [] → Takes (mappings_of_runs runs) old new joining joining'
  takes_all left new joining' taken none =
      let all : taken.first ≡ runs = sym (append-nil taken.first) ∙ (ap (λ (rs : List Run). taken.first ++ rs) (sym none) ∙ sym taken.split) in
      subst (λ (rs : List Run). Takes (mappings_of_runs rs) old new joining joining') all taken.takes

-- so many runs as a piece
pub some_piece : (runs : List Run) (n : ℕ) → n ≡ length runs → 1 ≤ n → own_piece runs ≡ Own n ∷ []
some_piece [] n is some = absurd (omega arith)
some_piece (r ∷ runs) n is some = rw is refl

pub no_piece : (runs : List Run) → length runs ≡ 0 → own_piece runs ≡ []
no_piece [] none = refl
no_piece (r ∷ runs) none = absurd (omega arith)

pub above_none : (o : Option ℕ) → 0 ≡ above o → o ≡ None
above_none None is = refl
above_none (Some k) is = absurd (omega arith)

pub above_some : (o : Option ℕ) (n : ℕ) → n ≡ above o → 1 ≤ n → o ≡ Some (n - 1)
above_some None n is some = absurd (omega arith)
above_some (Some k) n is some = let same : n - 1 ≡ k = omega arith in rw same refl

-- a note with a number is that of a whole leaf, which has mappings
pub some_met : (note : LeafNote) (number : ℕ) → (note.full ≡ false → number ≡ 0) → (note.full ≡ true → 1 ≤ length (noted note)) → 1 ≤ number → 1 ≤ length (noted note)
some_met note number part some positive = elim (cases_Bool note.full) [
  | inl full ↦ some full
  | inr own_note ↦ let none = part own_note in absurd (omega arith)
]
