-- Pieces of a text that are put to a sink.
use borrow.Rule.Slice.PartMut.{put_mid}
use Rattle.std.proofs.Common.{◌≡◌, ℕ, List, [], ◌++◌, Option, Some, ap, ◌∙◌, append_assoc, ◌+◌, ◌≤◌, length, take, drop, sym, arith, length-append, length-take-le}
use Rattle.std.proofs.lemmas.List.{append-nil, drop-drop, take-append-drop}
use Rattle.pd_kinds.specs.Objects.{Appends, AppendsFront}
use Rattle.pd_kinds.proofs.ListLemmas.{front_of_more}
use Rattle.pd_lines.specs.Pieces.{Gathers}
use Rattle.pd_lines.proofs.Printing.{put_front}
use Rattle.pd_lines.proofs.ReaderLemmas.{take_put}

-- nothing was put yet
pub nothing_put : (total left : List ℕ) (start : Option (List ℕ)) → Some left ≡ Some total → Gathers total left start start
nothing_put total left start same = record { told = λ before e. ([], (rw (append-nil before) e, let all : left ≡ total = cc in all)) }

module _ (total pending piece rest : List ℕ) (start now new : Option (List ℕ)) (so_far : Gathers total pending start now) (split : piece ++ rest ≡ pending) where
  -- a piece of what is pending was put
  pub piece_put : Appends piece now new → Gathers total rest start new
  piece_put all = record {
    told = λ before e.
        let given = so_far.told before e in (
          given.0 ++ piece,
          (
            all.told (before ++ given.0) given.1.0 ∙ ap (λ (xs : List ℕ). Some xs) (append_assoc before given.0 piece),
            append_assoc given.0 piece rest ∙ ap (λ (xs : List ℕ). given.0 ++ xs) split ∙ given.1.1,
          ),
        );
  }

  -- or a front of it
  pub piece_front : AppendsFront piece now new → AppendsFront total start new
  piece_front front = put_front total pending start now new so_far (rw split at (front_of_more piece rest now new front))

-- Bytes that are moved from the text to a buffer.

-- the first bytes of the rest of a line were moved
pub moved_front : (n given : ℕ) (line into rest : List ℕ) → take n into ≡ take n (drop given line)
    → take n into ++ (drop (given + n) line ++ rest) ≡ drop given line ++ rest
moved_front n given line into rest front =
    rw (front, ← drop-drop n given line)
    (sym (append_assoc (take n (drop given line)) (drop n (drop given line)) rest)
    ∙ ap (λ (bytes : List ℕ). bytes ++ rest) (take-append-drop n (drop given line)))

-- more bytes were moved behind those that were before
pub moved_more : (a k n : ℕ) (xs ys left now start : List ℕ) → a ≤ length xs → n ≤ length ys
    → take a xs ++ left ≡ start → take n ys ++ now ≡ left → take (a + n) (put_mid a k xs ys) ++ now ≡ start
moved_more a k n xs ys left now start within short before more =
    rw (take_put a k n xs ys within short)
    (append_assoc (take a xs) (take n ys) now ∙ ap (λ (bytes : List ℕ). take a xs ++ bytes) more ∙ before)

-- there was room for them
pub moved_within : (a k n : ℕ) (xs ys : List ℕ) → a ≤ length xs → n ≤ length ys → a + n ≤ length (put_mid a k xs ys)
moved_within a k n xs ys within short =
    simp (length-append, length-take-le a xs within) (omega arith)
