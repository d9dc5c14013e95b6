-- The first two lines of a pool's text.
use Rattle.std.proofs.Common.{◌≡◌, ℕ, ◌≤◌, ◌^◌, Bool, true, false, if◌then◌else◌, refl, List, [], ◌∷◌, Option, Some, None, Ok, arith, zero, suc, ◌+◌, ◌-◌, min, sym, ◌∙◌, zero-add, Result, Err, subst}
use Rattle.std.specs.List.{count_by, range_with_len}
use Rattle.std.proofs.lemmas.List.Sums.{sum_by-cons}
use Rattle.std.proofs.lemmas.Option.{same_Some}
use Rattle.pd_kinds.specs.Bitmap.{bitmaps_for}
use Rattle.pd_kinds.specs.Image.{room_of}
use Rattle.pd_kinds.specs.Meaning.{ThinPool}
use Rattle.pd_kinds.specs.Objects.{DeviceState, SourceState}
use Rattle.pd_grammar.specs.Texts.{read}
use Rattle.pd_grammar.proofs.GrammarLemmas.{is_read}
use Rattle.pd_grammar.specs.ThinText.{Line, Head, first_line, shared_first_line, pool_line, end_line, pool_format}
use Rattle.pd_grammar.proofs.ThinRead.{FitsLine, PlacedInPool, pool_grammar}
use Rattle.pd_grammar.specs.Need.{need_of_devices, overflows_in, thin_need_so_far, thin_need}
use Rattle.pd_grammar.specs.Spelling.{Verdict, accepted}
use Rattle.pd_grammar.specs.Lawful.{IsLawfulPool}
use Rattle.pd_laid.specs.PoolText.{pool_need_so_far, need_of_shared, shape_need_so_far, used_often, IsLawfulShape, IsPoolTextVerdict, is_pool_text_early, shape_need}
use Rattle.pd_laid.specs.LaidThin.{laid_pool, laid_shape}
use Rattle.pd_laid.specs.Shape.{ThinShape, shape_of}
use Rattle.pd_texts.specs.declared.reader.TextReader.{TextReader}
use Rattle.pd_texts.specs.declared.thin_text.ThinLine.{ThinLine}
use Rattle.pd_texts.specs.declared.thin_text.ThinLine.TheVariants.{Pool, Leaf, Device, UseLeaf, Map}
use Rattle.pd_texts.specs.declared.thin_state.ThinState.{ThinState}
use Rattle.pd_texts.specs.Reader.{IsReadAfter, ReadsOn, LeavesOf, GivesLine, GivesOf}
use Rattle.pd_texts.specs.ThinLine.{line_of, thin_meant}
use Rattle.pd_texts.specs.ThinState.{ThinStands, first_of, version_after}
use Rattle.pd_texts.proofs.ThinNextLemmas.{pool_read}
use Rattle.pd_texts.specs.declared.reader.TextFault.{TextFault}
use Rattle.pd_restoring.proofs.ReadingLemmas.{tree_most}
use Rattle.pd_restoring.specs.declared.fault.RestoreFault.{RestoreFault}
use Rattle.pd_restoring.specs.Made.{Ending, done, failed, lacking}
use Rattle.pd_restoring.specs.Restored.{IsRestored}
use Rattle.pd_restoring.specs.declared.fault.RestoreFault.TheVariants as r
use Rattle.pd_restoring.proofs.EndingLemmas as e
use Rattle.pd_restore.specs.Pools.{IsOfPool, StandsBefore, lines_before, GivesShape, PoolLeaves, IsMadeOf, IsShapeMadeOf, pool_content, shape_content}
use Rattle.pd_restore.specs.Whole.{begun_lines, head_of_pool}
use Rattle.pd_restore.specs.declared.thin.Rest.{Rest}
use Rattle.pd_restore.specs.declared.thin.Rest.TheVariants.{Text, Saved, Shape}
use Rattle.pd_restore.specs.SavedLines.{lines_left}
use Rattle.pd_restore.proofs.ComingLemmas.{made_pool}
use Rattle.pd_restore.specs.declared.thin.Begun.{Begun}
use Rattle.pd_restore.specs.ShapeLines as shape
use Rattle.pd_salvage.specs.declared.saved.SavedHead.{SavedHead}
use Rattle.pd_salvage.specs.declared.saved.SavedHead as p

-- no line but a pool's stands behind the first one
module _ (first : Line) where
  placed_second : (line : Line) (bytes : List ℕ) → read pool_format (first ∷ []) bytes ≡ Ok line → PlacedInPool (first ∷ []) line
  placed_second line bytes is = (is_read pool_format FitsLine PlacedInPool pool_grammar (first ∷ []) bytes line is).placed

  pub no_end : (bytes : List ℕ) → read pool_format (first ∷ []) bytes ≡ Ok end_line → ⊥
  no_end bytes is = let late : 2 ≤ 1 = placed_second end_line bytes is in omega arith

  pub given_pool : (next : Option ThinLine) (new : TextReader ThinState ThinLine) → GivesLine pool_format ThinStands first thin_meant (Ok next) [] new → IsOfPool next
  given_pool None new gives = no_end gives.0.bytes gives.0.is
  given_pool (Some (Pool uuid time transaction block_size blocks)) new gives = tt
  given_pool (Some (Leaf number entries)) new gives =
      let one = gives.so_far.lines.0 in
      let late : 2 ≤ 1 = (placed_second (line_of (Leaf number entries)) one.bytes one.is).0 in omega arith
  given_pool (Some (Device id details)) new gives =
      let one = gives.so_far.lines.0 in
      let late : 2 ≤ 1 = placed_second (line_of (Device id details)) one.bytes one.is in omega arith
  given_pool (Some (UseLeaf number)) new gives =
      let one = gives.so_far.lines.0 in
      let late : 2 ≤ 1 = (placed_second (line_of (UseLeaf number)) one.bytes one.is).0 in omega arith
  given_pool (Some (Map run)) new gives =
      let one = gives.so_far.lines.0 in
      let late : 2 ≤ 1 = (placed_second (line_of (Map run)) one.bytes one.is).0 in omega arith

-- the pool that was read
pub pool_reads : (next : Option ThinLine) (pool : p.SavedHead) (new : TextReader ThinState ThinLine) → IsOfPool next → thin_meant next ≡ pool_line (head_of_pool pool)
    → GivesLine pool_format ThinStands (first_of new.state) thin_meant (Ok next) [] new → ReadsOn pool_format ThinStands (begun_lines new pool) new
pool_reads None pool new is same gives = absurd is
pool_reads (Some line) pool new is same gives = rw same at gives

pub pool_told : (next : Option ThinLine) (pool : p.SavedHead) (t : List ℕ) (new : TextReader ThinState ThinLine) (left : Option (List ℕ)) → IsOfPool next → thin_meant next ≡ pool_line (head_of_pool pool)
    → GivesOf pool_format (first_of new.state) thin_meant (Ok next) t [] new left → LeavesOf pool_format t (begun_lines new pool) new left
pool_told None pool t new left is same gives = absurd is
pool_told (Some line) pool t new left is same gives = rw same at gives

pub pool_small : (first : Line) (pool : p.SavedHead) → IsReadAfter pool_format (first ∷ []) (pool_line (head_of_pool pool)) → pool.blocks ≤ 2 ^ 40
pool_small first pool read = (pool_read (first_line ∷ shared_first_line ∷ []) pool_grammar (first ∷ []) (head_of_pool pool) read).data_blocks_fit

-- the version is told by the first line
module _ (head : Head) (version : ℕ) where
  pub first_version : (shared : Bool) → version ≡ version_after (pool_line head ∷ (if shared then shared_first_line else first_line) ∷ []) → (version ≡ 2 → ⊥) → shared ≡ false
  first_version true is other = absurd (other is)
  first_version false is other = refl

  pub second_version : (shared : Bool) → version ≡ version_after (pool_line head ∷ (if shared then shared_first_line else first_line) ∷ []) → version ≡ 2 → shared ≡ true
  second_version true is same = refl
  second_version false is same = absurd (omega (arith, is, same))

-- What the first two lines of a pool's text need.

-- no data block is mapped by them
none_passes : (from n : ℕ) → count_by (λ d. false) (range_with_len from n) ≡ 0
none_passes from zero = refl
none_passes from (suc n) = sum_by-cons (λ (d : ℕ). 0) from (range_with_len (from + 1) n) ∙ (zero-add (count_by (λ d. false) (range_with_len (from + 1) n)) ∙ none_passes (from + 1) n)

no_overflows : (n : ℕ) → overflows_in [] n ≡ 0
unfolding overflows_in
no_overflows n = none_passes 0 n

-- the need of the first two lines is the same in either version
begun_need : (shared : Bool) (head : Head) (room : ℕ)
    → pool_need_so_far room (pool_line head ∷ (if shared then shared_first_line else first_line) ∷ []) ≡ need_of_devices [] head.data_blocks 0 room
unfolding thin_need_so_far shape_need_so_far need_of_devices need_of_shared used_often
begun_need true head room = rw (no_overflows head.data_blocks, no_overflows 0) (omega arith)
begun_need false head room = rw (no_overflows head.data_blocks) refl

small_need : (blocks room : ℕ) → blocks ≤ 2 ^ 40 → room ≤ 4161600 → need_of_devices [] blocks 0 room ≤ 2 ^ 64 - 1
unfolding need_of_devices
small_need blocks room small most = omega (arith, tree_most 252 0, tree_most 126 0, tree_most 336 0, tree_most 168 (bitmaps_for blocks))

some_need : (blocks room : ℕ) → 1 ≤ need_of_devices [] blocks 0 room
unfolding need_of_devices
some_need blocks room = omega arith

-- they need something, and it is a number of its type
pub need_exact : (p : SavedHead) (rest : Rest) (room need : ℕ) → StandsBefore p rest → room ≤ 4161600 → need ≡ min (need_of_devices [] p.blocks 0 room) (2 ^ 64 - 1)
    → need ≡ pool_need_so_far room (lines_before p rest)
need_exact p rest room need stands most is = by rest stands
  where
    fits : p.blocks ≤ 2 ^ 40 → need_of_devices [] p.blocks 0 room ≡ need
    fits small = omega (arith, is, small_need p.blocks room small most)

    by : (rest : Rest) → StandsBefore p rest → need ≡ pool_need_so_far room (lines_before p rest)
    by (Text text) stands = sym (begun_need text.state.is_shared (head_of_pool p) room ∙ fits (pool_small (first_of text.state) p stands.so_far.lines.0))
    by (Saved made) stands = sym (begun_need false (head_of_pool p) room ∙ fits (pool_small first_line p (made_pool false p (lines_left made) stands)))
    by (Shape made) stands = sym (begun_need true (head_of_pool p) room ∙ fits (pool_small shared_first_line p (made_pool true p (shape.lines_left made) stands)))

pub need_some : (p : SavedHead) (room need : ℕ) → need ≡ min (need_of_devices [] p.blocks 0 room) (2 ^ 64 - 1) → 1 ≤ need
need_some p room need is = omega (arith, is, some_need p.blocks room)

-- What a restore of what is held in memory comes to.

-- a source that gives the text
abbrev pub given : List ℕ → SourceState
given text = record { access = 0; path = None; left = Some text; faults = 0 }

-- it is the text of a pool whose own line is known
pub text_given : (text : List ℕ) (begun : Begun) → PoolLeaves text begun (Some []) → (t : List ℕ) → (given text).left ≡ Some t → PoolLeaves t begun (Some [])
text_given text begun leaves t is = subst (λ (t : List ℕ). PoolLeaves t begun (Some [])) (same_Some text t is) leaves

-- a pool that shares no leaf is its shape
pub pool_made : (pool : ThinPool) (ending : Ending) (old new : DeviceState) → IsLawfulPool pool → ((room : ℕ) → shape_need (shape_of pool) room ≡ thin_need pool room)
    → IsShapeMadeOf (shape_of pool) ending old new → IsMadeOf pool ending old new
unfolding laid_pool
pool_made pool ending old new lawful need made =
    e.made_as (shape_content (shape_of pool)) (pool_content pool) (λ _. lawful) need (λ room. refl) ending old new made

-- a restore of lines that are those of a shape for which there is room
module _ (w : ThinShape) (begun : Begun) (gives : GivesShape w begun) (room : ℕ) (to : SourceState) (old new : DeviceState)
    (here : room ≡ room_of old.blocks) (enough : shape_need w room ≤ room) where
  abbrev Restores : Result (Unit {0}) RestoreFault → Type 0
  Restores result = IsRestored IsLawfulShape IsPoolTextVerdict is_pool_text_early laid_shape result (given gives.text) to old new

  fits : shape_need w (room_of old.blocks) ≤ room_of old.blocks
  fits = subst (λ blocks. shape_need w blocks ≤ blocks) here enough

  only : (verdict : Verdict ThinShape) → IsPoolTextVerdict gives.text (room_of old.blocks) verdict → verdict ≡ accepted w
  only verdict right = gives.only (room_of old.blocks) verdict fits right

  pub known_refused : (fault : TextFault) → Restores (Err (r.Text fault)) → ⊥
  known_refused = e.not_refused IsLawfulShape IsPoolTextVerdict is_pool_text_early laid_shape w (shape_content w) (λ blocks. refl) (given gives.text) to old new fits only

  pub known_short : (needed blocks : ℕ) → Restores (Err (r.NoRoom needed blocks)) → ⊥
  known_short = e.has_room IsLawfulShape IsPoolTextVerdict is_pool_text_early laid_shape w (shape_content w) (λ blocks. refl) (given gives.text) to old new fits only

  pub known_made : Restores (Ok tt) → IsShapeMadeOf w done old new
  known_made restored = e.restored_made IsLawfulShape IsPoolTextVerdict is_pool_text_early laid_shape w (shape_content w) (λ blocks. refl) (given gives.text) to old new fits only gives.lawful restored

  pub known_lacking : Restores (Err r.Memory) → IsShapeMadeOf w lacking old new
  known_lacking = e.restored_lacking IsLawfulShape IsPoolTextVerdict is_pool_text_early laid_shape w (shape_content w) (λ blocks. refl) (given gives.text) to old new fits only

  pub known_failed : Restores (Err r.Device) → IsShapeMadeOf w failed old new
  known_failed = e.restored_failed IsLawfulShape IsPoolTextVerdict is_pool_text_early laid_shape w (shape_content w) (λ blocks. refl) (given gives.text) to old new fits only
