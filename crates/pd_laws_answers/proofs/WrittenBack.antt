-- What an answered writeback comes to, by what is known of the copied origin and of a cache in which nothing is dirty.
use Rattle.std.proofs.Common.{◌≡◌, ◌≢◌, ◌⊎◌, inl, inr, ⊎_elim, ℕ, ◌≤◌, nat_eq, nat_lt, List, [], length, Option, Some, None, IfSome, refl, sym, ap, subst, ◌∙◌}
use Rattle.std.proofs.lemmas.Bool.{cases_Bool, eqb-true, ltb-false}
use Rattle.pd_kinds.specs.declared.kind.Kind.TheVariants.{Cache}
use Rattle.pd_kinds.specs.declared.kind.Stage.TheVariants.{Whole}
use Rattle.pd_kinds.specs.Crash.{Chance, HasNoSuper, HoldsSynced, IsSynced, IsUntouched, LeavesOnly, may_leave, moment}
use Rattle.pd_kinds.specs.Image.{IsImage}
use Rattle.pd_kinds.specs.Meaning.{cache_meaning}
use Rattle.pd_kinds.specs.Rule.{Reported, report_of}
use Rattle.pd_kinds.specs.Stages.{IsClean, faults}
use Rattle.pd_kinds.proofs.CrashLemmas.{stays, weaken}
use Rattle.pd_answers.specs.Terms.{Objects}
use Rattle.pd_answers.specs.Writebacks.{blocks_each, copied, fast_need, hot_blocks, is_block_size_bad, settled, view, AllTold, KeepsOthers, WritebackFound, writeback_answer}
use Rattle.pd_answers.specs.Outputs.{IsWorkDone}
use Rattle.pd_laws_changed.specs.Premises.{HasHotBlocks, without_dirt}
use Rattle.pd_laws_answers.specs.Writeback.{HoldsWrittenBack, IsWritebackAnswered, IsWrittenBack, KeepsTheView, LeavesTheView, ReadsAlone}
use Rattle.pd_laws_answers.proofs.Restored.{at_told, four_zero, given_once_done, left_as_was, left_of_synced, left_untouched, none_counted, one_zero, zero_or_not}

abbrev Image : Type 0
Image = List (List ℕ)

-- at the answer's status 0 nothing was refused: the report is empty, and the fast device has what is read of it
record IsNotRefused (found : WritebackFound) : Type 0 where
  pub none : found.report.total ≡ 0
  pub room : fast_need (blocks_each found.block_size) found.hot ≤ found.fast_blocks

not_refused : (found : WritebackFound) → (writeback_answer found).status ≡ 0 → IsNotRefused found
not_refused found given = elim (cases_Bool (nat_eq found.report.total 0)) [
  | inr some ↦ absurd (one_zero (rw some at given))
  | inl none ↦ elim (cases_Bool (is_block_size_bad found.block_size)) [
    | inl bad ↦ absurd (one_zero (rw (none, bad) at given))
    | inr good ↦ elim (cases_Bool (nat_lt found.fast_blocks (fast_need (blocks_each found.block_size) found.hot))) [
      | inl small ↦ absurd (four_zero (rw (none, good, small) at given))
      | inr enough ↦ record {
        none = eqb-true found.report.total 0 none;
        room = ltb-false found.fast_blocks (fast_need (blocks_each found.block_size) found.hot) enough;
      }
    ]
  ]
]

-- what holds where three are told
three : {X : Type 0} (a b c : Option X) (P : X → X → X → Type 0) → ((x y z : X) → a ≡ Some x → b ≡ Some y → c ≡ Some z → P x y z)
    → IfSome a (λ x. IfSome b (λ y. IfSome c (P x y)))
three None b c P each = tt
three (Some x) None c P each = tt
three (Some x) (Some y) None P each = tt
three (Some x) (Some y) (Some z) P each = each x y z refl refl refl

at_three : (before : Objects) (image origin fast : Image) (P : Image → Image → Image → Type 0) → before.input.held ≡ Some image → before.output.held ≡ Some origin → before.third.held ≡ Some fast
    → AllTold before P → P image origin fast
at_three before image origin fast P image_told origin_told fast_told all =
    at_told before.third.held fast (P image origin) fast_told
    (at_told before.output.held origin (λ o. IfSome before.third.held (P image o)) origin_told
    (at_told before.input.held image (λ i. IfSome before.output.held (λ o. IfSome before.third.held (P i o))) image_told all))

-- what is said of what was found is said of the image, where it is right
needs_by : (found : WritebackFound) (image fast : Image) → found.block_size ≡ (cache_meaning image).block_size → found.hot ≡ hot_blocks (cache_meaning image) → found.fast_blocks ≡ length fast
    → fast_need (blocks_each found.block_size) found.hot ≤ found.fast_blocks → HasHotBlocks image fast
needs_by found image fast size hot many room = rw (size, hot, many) at room

keeps_by : (found : WritebackFound) (image origin left : Image) → found.block_size ≡ (cache_meaning image).block_size → found.hot ≡ hot_blocks (cache_meaning image)
    → KeepsOthers (blocks_each found.block_size) found.hot origin left → KeepsOthers (blocks_each (cache_meaning image).block_size) (hot_blocks (cache_meaning image)) origin left
keeps_by found image origin left size hot keeps = rw (size, hot) at keeps

-- what is known of the copied origin, and of a cache in which nothing is dirty
pub record AreViewLaws : Type 0 where
  pub kept : (image origin left fast : Image) → faults Cache Whole image ≡ [] → HasHotBlocks image fast
      → KeepsOthers (blocks_each (cache_meaning image).block_size) (hot_blocks (cache_meaning image)) origin left → view image left fast ≡ view image origin fast
  pub alone : (image origin fast : Image) → faults Cache Whole image ≡ [] → ReadsAlone image origin fast (copied image origin fast)
  pub shows : (image origin fast : Image) → IsImage image → faults Cache Whole image ≡ [] → view (settled image) origin fast ≡ view image origin fast

module _ (laws : AreViewLaws) (metadata fast_path origin_path : List ℕ) (before after : Objects) (status : ℕ)
    (answered : IsWritebackAnswered metadata fast_path origin_path before after status) where
  abbrev found : WritebackFound
  found = answered.finding

  module _ (image origin fast : Image) (image_told : before.input.held ≡ Some image) (origin_told : before.output.held ≡ Some origin) (fast_told : before.third.held ≡ Some fast) where
    -- what was found is right
    right : (found.report ≡ report_of (faults Cache Whole image)) × (found.block_size ≡ (cache_meaning image).block_size) × (found.hot ≡ hot_blocks (cache_meaning image))
    right = at_told before.input.held image _ image_told answered.found.told

    sound : (writeback_answer found).status ≡ 0 → faults Cache Whole image ≡ []
    sound given = none_counted (faults Cache Whole image) (sym (ap (λ (r : Reported). r.total) right.0) ∙ (not_refused found given).none)

    room : (writeback_answer found).status ≡ 0 → HasHotBlocks image fast
    room given =
        let many : found.fast_blocks ≡ length fast = at_told before.third.held fast (λ (i : Image). found.fast_blocks ≡ length i) fast_told answered.found.fast.told in
        needs_by found image fast right.1 right.2 many (not_refused found given).room

    -- the copied origin reads alone what the cached device read
    reads_alone : faults Cache Whole image ≡ [] → HoldsSynced (copied image origin fast) after.output
        → IfSome after.output.held (λ left. ReadsAlone image origin fast left × HoldsSynced left after.output)
    reads_alone none synced =
        subst (λ (held : Option Image). IfSome held (λ left. ReadsAlone image origin fast left × HoldsSynced left after.output)) (sym synced.held)
        (laws.alone image origin fast none, synced)

    -- what a crash leaves of each, of a call that goes on
    origin_reads : (writeback_answer found).status ≡ 0 → LeavesOnly (λ left firsts. view image left fast ≡ view image origin fast) before.output after.output
    origin_reads given =
        let none = sound given in
        let enough = room given in
        weaken (at_told before.output.held origin _ origin_told answered.leaves.origin)
        (λ left firsts keeps. laws.kept image origin left fast none enough (keeps_by found image origin left right.1 right.2 keeps))

    metadata_reads : IsImage image → (writeback_answer found).status ≡ 0
        → LeavesOnly (λ left firsts. Chance left firsts → HasNoSuper left ⊎ ((other : Image) → view left other fast ≡ view image other fast)) before.input after.input
    metadata_reads is given =
        weaken (at_told before.input.held image _ image_told answered.leaves.metadata)
        (λ left firsts outcome chance.
        ⊎_elim (λ old. inr (λ other. ap (λ (i : Image). view i other fast) old))
        (λ more. ⊎_elim (λ none_valid. inl none_valid) (λ made. inr (λ other. ap (λ (i : Image). view i other fast) made ∙ laws.shows image other fast is (sound given))) more)
        (outcome chance))

    -- and of both at the call's end
    both_read : IsSynced before.input → IsImage image → (writeback_answer found).status ≡ 0 → (metadata firsts left others : Image)
        → may_leave after.input (moment after.input) metadata firsts → Chance metadata firsts → may_leave after.output (moment after.output) left others
        → (view metadata left fast ≡ view image origin fast) ⊎ (HasNoSuper metadata × ReadsAlone image origin fast left)
    both_read input_synced is given metadata firsts left others leaves chance leaves_origin =
        let same = (origin_reads given).now left others leaves_origin in
        ⊎_elim
        (λ none_valid. ⊎_elim
        (λ untouched. inl (ap (λ (i : Image). view i left fast) (left_untouched before.input after.input image image_told input_synced untouched metadata firsts leaves) ∙ same))
        (λ synced. inr (
          none_valid,
          subst (ReadsAlone image origin fast) (sym (left_of_synced after.output (copied image origin fast) left others synced leaves_origin))
              (laws.alone image origin fast (sound given)),
        ))
        (at_three before image origin fast (λ i o f. IsUntouched before.input after.input ⊎ HoldsSynced (copied i o f) after.output) image_told origin_told fast_told answered.leaves.order))
        (λ reads. inl (reads left ∙ same))
        ((metadata_reads is given).now metadata firsts leaves chance)

    -- a call that goes on
    pub keeps_at_work : IsSynced before.input → IsImage image → (writeback_answer found).status ≡ 0 → KeepsTheView image origin fast before after
    keeps_at_work input_synced is given =
        let none = sound given in
        record {
          origin_left = origin_reads given;
          metadata_left = metadata_reads is given;
          together = both_read input_synced is given;
          order = ⊎_elim (λ untouched. inl untouched) (λ synced. inr (reads_alone none synced))
              (at_three before image origin fast (λ i o f. IsUntouched before.input after.input ⊎ HoldsSynced (copied i o f) after.output) image_told origin_told fast_told answered.leaves.order);
          origin_kept = λ same_origin same_fast. ⊎_elim (λ untouched. inl untouched) (λ synced. inr (reads_alone none synced))
              (at_three before image origin fast (λ i o f. IsUntouched before.output after.output ⊎ HoldsSynced (copied i o f) after.output) image_told origin_told fast_told
              (answered.leaves.origin_kept same_origin same_fast));
          metadata_kept = λ same_metadata. ⊎_elim (λ untouched. inl untouched)
              (λ synced. inr (subst (λ (held : Option Image). IfSome held (λ left. ((other : Image) → view left other fast ≡ view image other fast) × HoldsSynced left after.input)) (sym synced.held)
              (λ other. laws.shows image other fast is none, synced)))
              (at_told before.input.held image (λ (i : Image). IsUntouched before.input after.input ⊎ HoldsSynced (settled i) after.input) image_told (answered.leaves.metadata_kept same_metadata));
        }

    -- one that is refused
    pub keeps_refused : IsSynced before.input → IsSynced before.output → (writeback_answer found).status ≢ 0 → KeepsTheView image origin fast before after
    keeps_refused input_synced output_synced refused =
        let both = answered.leaves.refused refused in
        record {
          origin_left = stays both.1.held both.1.history
              (λ left firsts leaves. ap (λ (i : Image). view image i fast) (left_as_was before.output origin left firsts origin_told output_synced leaves));
          metadata_left = stays both.0.held both.0.history
              (λ left firsts leaves chance. inr (λ other. ap (λ (i : Image). view i other fast) (left_as_was before.input image left firsts image_told input_synced leaves)));
          order = inl both.0;
          together = λ metadata firsts left others leaves chance leaves_origin. inl
              (ap (λ (i : Image). view i left fast) (left_untouched before.input after.input image image_told input_synced both.0 metadata firsts leaves)
              ∙ ap (λ (o : Image). view image o fast) (left_untouched before.output after.output origin origin_told output_synced both.1 left others leaves_origin));
          origin_kept = λ _ _. inl both.1;
          metadata_kept = λ _. inl both.0;
        }

  -- what a crash leaves
  pub keeps_the_view : IsSynced before.input → IsSynced before.output → LeavesTheView before after
  keeps_the_view input_synced output_synced =
      three before.input.held before.output.held before.third.held (λ image origin fast. IsImage image → KeepsTheView image origin fast before after)
      (λ image origin fast image_told origin_told fast_told is.
      ⊎_elim (keeps_at_work image origin fast image_told origin_told fast_told input_synced is)
      (keeps_refused image origin fast image_told origin_told fast_told input_synced output_synced)
      (zero_or_not (writeback_answer found).status))

-- what the devices hold once the work is done
module _ (laws : AreViewLaws) (made : (image : Image) → IsImage image → faults Cache Whole image ≡ [] → (faults Cache Whole (settled image) ≡ [])
    × (IsClean Cache image → IsClean Cache (settled image)) × (cache_meaning (settled image) ≡ without_dirt (cache_meaning image)))
    (copied_keeps : (image origin fast : Image) → KeepsOthers (blocks_each (cache_meaning image).block_size) (hot_blocks (cache_meaning image)) origin (copied image origin fast))
    (metadata fast_path origin_path : List ℕ) (before after : Objects) (status : ℕ) (answered : IsWritebackAnswered metadata fast_path origin_path before after status) (done : IsWorkDone before after status) where
  written_back : (image origin fast : Image) → before.input.held ≡ Some image → before.output.held ≡ Some origin → before.third.held ≡ Some fast → IsImage image
      → IsWrittenBack image origin fast (settled image) (copied image origin fast)
  written_back image origin fast image_told origin_told fast_told is =
      let given = given_once_done (writeback_answer answered.finding).status status before after (λ low. (answered.sound low).status) answered.spared done in
      let none = sound laws metadata fast_path origin_path before after status answered image origin fast image_told origin_told fast_told given in
      let enough = room laws metadata fast_path origin_path before after status answered image origin fast image_told origin_told fast_told given in
      let is_made = made image is none in
      record {
        sound = is_made.0;
        clean = is_made.1;
        meaning = is_made.2;
        same = laws.shows image (copied image origin fast) fast is none ∙ laws.kept image origin (copied image origin fast) fast none enough (copied_keeps image origin fast);
        alone = laws.alone image origin fast none;
      }

  pub holds_written_back : HoldsWrittenBack before after
  holds_written_back =
      three before.input.held before.output.held before.third.held (λ image origin fast. IsImage image →
      IfSome after.input.held (λ metadata. IfSome after.output.held (λ left. IsWrittenBack image origin fast metadata left × HoldsSynced metadata after.input × HoldsSynced left after.output)))
      (λ image origin fast image_told origin_told fast_told is.
      let marked = at_told before.input.held image (λ (i : Image). HoldsSynced (settled i) after.input) image_told (answered.leaves.marked done) in
      let all = at_three before image origin fast (λ i o f. HoldsSynced (copied i o f) after.output) image_told origin_told fast_told (answered.leaves.copied_all done) in
      subst (λ (held : Option Image). IfSome held (λ metadata. IfSome after.output.held (λ left. IsWrittenBack image origin fast metadata left × HoldsSynced metadata after.input × HoldsSynced left after.output)))
      (sym marked.held)
      (subst (λ (held : Option Image). IfSome held (λ left. IsWrittenBack image origin fast (settled image) left × HoldsSynced (settled image) after.input × HoldsSynced left after.output))
      (sym all.held)
      (written_back image origin fast image_told origin_told fast_told is, marked, all)))
