-- What the work of a search comes to, over plain variables.
use Rattle.std.proofs.Common.{◌≡◌, ◌≢◌, inl, inr, ℕ, ◌≤◌, ◌<◌, Bool, true, false, IsTrue, List, [], length, Option, Some, None, IfSome, Result, Ok, Err, min, refl, sym, ap, ◌∙◌, subst, arith}
use Rattle.std.specs.Option.{option_map_or}
use Rattle.std.proofs.lemmas.Bool.{lt-ltb, le-ltb}
use Rattle.pd_kinds.specs.declared.limits.TheConstants.{MAX_META_BLOCKS}
use Rattle.pd_kinds.specs.Objects.{DeviceState, SinkState, Rose}
use Rattle.pd_kinds.specs.Crash.{IsUntouched}
use Rattle.pd_kinds.specs.Image.{HasBytes, room_of}
use Rattle.pd_kinds.specs.Layout.{graph_of}
use Rattle.pd_kinds.specs.ThinFormat.{ThinFields}
use Rattle.pd_grammar.specs.Lines.{no_room_line}
use Rattle.pd_laid.specs.FoundRoots.{AreBest, FoundRoots, IsFound, are_fitting, found_pool, lost_graph}
use Rattle.pd_laid.specs.Salvage.{salvage_from, saved_shape_from}
use Rattle.pd_answers.specs.Terms.{Answer, AreFresh, Objects, Terms, is_possible}
use Rattle.pd_answers.specs.Outputs.{Lays, Making}
use Rattle.pd_answers.specs.Repairs.{Saved, saved_making, saved_of}
use Rattle.pd_answers.specs.Searches.{LeavesFound, Searched, found_from, found_shape, saved_from, searched_answer, are_some, seen, timed, roots_line}
use Rattle.pd_answers.specs.DamagedStates.{damaged_states}
use Rattle.pd_answers.specs.declared.request.GivenSuper.{GivenSuper}
use Rattle.pd_image.specs.Device.{KeepsPlace, OnlyReads}
use Rattle.pd_restoring.specs.Made.{AnswersEnding, Content, IsEarly, IsDone as IsMadeDone}
use Rattle.pd_repair.specs.declared.repair.RepairFault.{RepairFault}
use Rattle.pd_repair.specs.Faults.{output_ending}
use Rattle.pd_repair.specs.Repaired.{BlamesOne, IsOther, IsRepairedFromAs}
use Rattle.pd_repair.specs.declared.repair.RepairFault.TheVariants as fault
use Rattle.pd_scan.specs.Pairs.{lost_fields}
use Rattle.pd_tools.specs.declared.ending.Stop.{Stop}
use Rattle.pd_tools.specs.declared.ending.Stop.TheVariants.{Device, Memory}
use Rattle.pd_tools.specs.Ending.{no_roots_text, repair_ended}
use Rattle.pd_tools.specs.Opened.{AreOpened, Devices, devices_of}
use Rattle.pd_tools.specs.Restore.{saved_by, saved_content, seen_by}
use Rattle.pd_tools.specs.Given.{terms_of_search}
use Rattle.pd_tools.specs.Stop.{stop_status}
use Rattle.pd_tools.specs.Task.{AreAlone, IsAtRest, IsDone, IsEnded, IsHalted, IsMeasured, Works, HasCause}
use Rattle.pd_tools.proofs.BestRoots.{best_roots}
use Rattle.pd_tools.proofs.Laying.{first_alone, first_done, first_failed, first_lacking, first_lost, first_spared, blocks_of, has_room, room_at_rest}
use Rattle.pd_tools.proofs.Checks.{one_told, two_told}
use Rattle.pd_tools.proofs.Repairs.{of_ending}
use Rattle.pd_tools.proofs.Restores.{Image}
use Rattle.pd_tools.proofs.Tasks.{halted_at_rest, read_alone, read_by}

-- what is right to find in what is told
abbrev pub IsRight : (shared : Bool) → GivenSuper → Option Image → Option FoundRoots → Bool → Saved shared → Type 0
IsRight shared given held roots are_damaged saved = IfSome held (λ image. IsFound (lost_graph image given.blocks) image roots
    × (IfSome roots (λ r. saved ≡ saved_from shared (lost_graph image given.blocks) image given.transaction given.block_size r)
    × (roots ≡ None → are_damaged ≡ are_some (damaged_states (lost_graph image given.blocks) image))))

-- what is saved from roots, if there are any
saved_at : (shared : Bool) → GivenSuper → Image → Option FoundRoots → Saved shared
saved_at shared given image roots =
    option_map_or (λ (r : FoundRoots). saved_from shared (lost_graph image given.blocks) image given.transaction given.block_size r) roots (saved_of shared image)

saved-told : (shared : Bool) (given : GivenSuper) (image : Image) (roots : Option FoundRoots)
    → IfSome roots (λ r. saved_at shared given image roots ≡ saved_from shared (lost_graph image given.blocks) image given.transaction given.block_size r)
unfolding saved_at
saved-told shared given image None = tt
saved-told shared given image (Some roots) = refl

-- there is something right to find, whatever is told
record IsMeant (shared : Bool) (given : GivenSuper) (held : Option Image) : Type 0 where
  roots : Option FoundRoots
  are_damaged : Bool
  saved : Saved shared
  right : IsRight shared given held roots are_damaged saved

meant : (shared : Bool) (given : GivenSuper) (held : Option Image) → IsMeant shared given held
meant shared given None = record { roots = None; are_damaged = false; saved = saved_of shared []; right = tt }
meant shared given (Some image) =
    let best = best_roots image given.blocks in
    record {
      roots = best.0;
      are_damaged = are_some (damaged_states (lost_graph image given.blocks) image);
      saved = saved_at shared given image best.0;
      right = (best.1, (saved-told shared given image best.0, λ e. refl));
    }

abbrev found_of : {S : Type 0} → Option FoundRoots → Bool → S → ℕ → Searched S
found_of roots are_damaged saved room = record { roots = roots; are_damaged = are_damaged; saved = saved; room = room }

-- the answer to what was found
module _ {S : Type 0} (making : S → Making) (roots : FoundRoots) (saved : S) (room : ℕ) where
  answer_made : (making saved).need room ≤ room → searched_answer making (found_of (Some roots) false saved room) ≡ record { status = 0; out = roots_line roots; notes = [] }
  answer_made fits = rw (le-ltb room ((making saved).need room) fits) refl

  answer_small : room < (making saved).need room
      → searched_answer making (found_of (Some roots) false saved room) ≡ record { status = 4; out = []; notes = no_room_line ((making saved).need room) room }
  answer_small small = rw (lt-ltb room ((making saved).need room) small) refl

-- an output that was left alone, under each status but 0
left_alone : (shared : Bool) (found : Searched (Saved shared)) (before after : Objects) (status : ℕ) → AreFresh before → after.out ≡ before.out
    → IsUntouched before.output after.output → status ≢ 0 → LeavesFound (saved_making shared) found before after status
left_alone shared found before after status fresh unput same some =
    let answer = searched_answer (saved_making shared) found in
    first_alone (Lays answer (saved_making shared found.saved) found.room) answer.status before after status fresh.output.2 unput same some

-- what is left where a line is lost
pub found_lost : (shared : Bool) (found : Searched (Saved shared)) (before after : Objects) (status : ℕ) → status ≢ 0
    → LeavesFound (saved_making shared) found before after status → LeavesFound (saved_making shared) found before after 6
found_lost shared found before after status some left = first_lost _ _ before after status some left

-- before anything was written
pub search_rests : (shared : Bool) (given : GivenSuper) (from to : List ℕ) (before after : Objects) → AreFresh before → AreAlone before after
    → IsAtRest (terms_of_search shared given from to) before after
search_rests shared given from to before after fresh alone =
    let m = meant shared given before.input.held in
    record {
      finding = found_of m.roots m.are_damaged m.saved (room_of (blocks_of before.output after.output));
      found = (room_at_rest before.output after.output alone.output.held alone.output_measured, m.right);
      leaves = λ status some. left_alone shared _ before after status fresh alone.out alone.output some;
    }

-- devices that were attached, and of which the input was read
module _ (shared : Bool) (given : GivenSuper) (from to : List ℕ) (before : Objects) (opened : Devices) (notes : SinkState) (last_input : DeviceState) (fresh : AreFresh before)
    (both : AreOpened (terms_of_search shared given from to).uses (devices_of before) opened)
    (measured : IfSome opened.output.held (λ image. length image ≡ opened.output.blocks)) (third : IsMeasured opened.third) (reads : OnlyReads opened.input last_input) where
  abbrev read_after : Objects
  read_after = read_by before opened notes last_input

  alone_here : AreAlone before read_after
  alone_here = read_alone (terms_of_search shared given from to).uses before opened notes last_input both (record { held = reads.held; history = reads.history }) (λ _. measured) third

  -- there are no roots
  pub search_none : (are_damaged : Bool)
      → IfSome opened.input.held (λ image. IsFound (lost_graph image given.blocks) image None × (are_damaged ≡ are_some (damaged_states (lost_graph image given.blocks) image)))
      → IsEnded (terms_of_search shared given from to) before read_after 1 (no_roots_text are_damaged)
  search_none are_damaged none = record {
    finding = found_of None are_damaged (saved_of shared []) (room_of opened.output.blocks);
    found = (
      has_room before.output opened.output opened.output (room_of opened.output.blocks) refl both.output.untouched.held measured refl,
      one_told before.input.held (λ image is. (is.0, (tt, λ e. is.1))) (rw both.input.untouched.held at none),
    );
    answer = refl;
    possible = refl;
    no_line = λ e. absurd (omega arith);
    leaves = left_alone shared (found_of None are_damaged (saved_of shared []) (room_of opened.output.blocks)) before read_after 1 fresh refl both.output.untouched (λ e. omega arith);
  }

  -- the search failed
  pub search_wanting : IsHalted (terms_of_search shared given from to) before read_after Memory
  search_wanting =
      halted_at_rest (terms_of_search shared given from to) before read_after Memory (search_rests shared given from to before read_after fresh alone_here) refl tt

  pub search_unread : Rose opened.input.faults last_input.faults → IsHalted (terms_of_search shared given from to) before read_after Device
  search_unread rose =
      halted_at_rest (terms_of_search shared given from to) before read_after Device (search_rests shared given from to before read_after fresh alone_here) refl
      (inl (rw both.input.faults at rose))

-- of a pool whose trees fit each other all is saved
abbrev pub AreSavedWhole : Type 0
AreSavedWhole = (image : Image) (data_blocks transaction block_size : ℕ) (roots : FoundRoots) → HasBytes image
    → let graph = lost_graph image data_blocks in are_fitting graph image roots.top roots.details ≡ true
    → salvage_from (lost_fields roots transaction block_size graph.nr data_blocks) image ≡ found_pool graph image transaction block_size roots

lost_nr : (image : Image) (data_blocks : ℕ) → (lost_graph image data_blocks).nr ≡ min (length image) MAX_META_BLOCKS
unfolding lost_graph graph_of
lost_nr image data_blocks = refl

lost_data : (image : Image) (data_blocks : ℕ) → (lost_graph image data_blocks).data_blocks ≡ data_blocks
unfolding lost_graph graph_of
lost_data image data_blocks = refl

-- the superblock of found roots gives the shape that was found
shape_found : (image : Image) (data_blocks transaction block_size : ℕ) (roots : FoundRoots)
    → saved_shape_from (lost_fields roots transaction block_size (lost_graph image data_blocks).nr data_blocks) image ≡ found_shape (lost_graph image data_blocks) image transaction block_size roots
unfolding found_shape
shape_found image data_blocks transaction block_size roots =
    ap (λ (n : ℕ). saved_shape_from (lost_fields roots transaction block_size (lost_graph image data_blocks).nr n) image) (sym (lost_data image data_blocks))

-- what is saved by that superblock is what is found below the roots
saved_whole : AreSavedWhole → (shared : Bool) (image : Image) (data_blocks transaction block_size : ℕ) (roots : FoundRoots) → HasBytes image
    → are_fitting (lost_graph image data_blocks) image roots.top roots.details ≡ true
    → saved_by shared (lost_fields roots transaction block_size (lost_graph image data_blocks).nr data_blocks) image
    ≡ found_from shared (lost_graph image data_blocks) image transaction block_size roots
saved_whole whole false image data_blocks transaction block_size roots bytes fitting = whole image data_blocks transaction block_size roots bytes fitting
saved_whole whole true image data_blocks transaction block_size roots bytes fitting = shape_found image data_blocks transaction block_size roots

-- a superblock's own time changes nothing
timed_same : (shared : Bool) (fields : ThinFields) (image : Image) → timed shared fields.time (saved_by shared fields image) ≡ saved_by shared fields image
unfolding salvage_from saved_shape_from
timed_same false fields image = refl
timed_same true fields image = refl

saved_found : AreSavedWhole → (shared : Bool) (given : GivenSuper) (roots : FoundRoots) (blocks : ℕ) (saved : Saved shared) (image : Image) → HasBytes image → length image ≡ blocks
    → AreBest (lost_graph image given.blocks) image roots
    → saved ≡ seen_by shared roots.time (lost_fields roots given.transaction given.block_size (min blocks MAX_META_BLOCKS) given.blocks) image
    → saved ≡ saved_from shared (lost_graph image given.blocks) image given.transaction given.block_size roots
saved_found whole shared given roots blocks saved image bytes number best is =
    let nr : min blocks MAX_META_BLOCKS ≡ (lost_graph image given.blocks).nr = sym (lost_nr image given.blocks ∙ ap (λ (n : ℕ). min n MAX_META_BLOCKS) number) in
    is ∙ ap (λ (n : ℕ). seen_by shared roots.time (lost_fields roots given.transaction given.block_size n given.blocks) image) nr
    ∙ ap (seen shared) (timed_same shared (lost_fields roots given.transaction given.block_size (lost_graph image given.blocks).nr given.blocks) image
    ∙ saved_whole whole shared image given.blocks given.transaction given.block_size roots bytes best.fitting)

-- devices that were attached, and roots that were found
module _ (shared : Bool) (given : GivenSuper) (from to : List ℕ) (before after : Objects) (opened : Devices) (fresh : AreFresh before) (unput : after.out ≡ before.out)
    (both : AreOpened (terms_of_search shared given from to).uses (devices_of before) opened)
    (measured : IfSome opened.output.held (λ image. length image ≡ opened.output.blocks)) (place : KeepsPlace opened.output after.output)
    (whole : AreSavedWhole) (bytes : IfSome opened.input.held HasBytes) (number : IfSome opened.input.held (λ image. length image ≡ opened.input.blocks))
    (roots : FoundRoots) (best : IfSome opened.input.held (λ image. AreBest (lost_graph image given.blocks) image roots))
    (result : Result (Unit {0}) RepairFault)
    (done : IsRepairedFromAs (saved_content shared) (seen_by shared roots.time) (lost_fields roots given.transaction given.block_size (min opened.input.blocks MAX_META_BLOCKS) given.blocks)
    result opened.input opened.output after.output) where
  abbrev terms : Terms
  terms = terms_of_search shared given from to

  abbrev room : ℕ
  room = room_of opened.output.blocks

  abbrev content : Content
  content = saved_content shared done.pool

  abbrev found : Searched (Saved shared)
  found = found_of (Some roots) false done.pool room

  abbrev answer : Answer
  answer = searched_answer (saved_making shared) found

  abbrev Leaves : ℕ → Type 0
  Leaves status = LeavesFound (saved_making shared) found before after status

  right : IsRight shared given before.input.held (Some roots) false done.pool
  right =
      let image_is : IfSome opened.input.held (λ image. HasBytes image × (length image ≡ opened.input.blocks)) = two_told opened.input.held (λ image a b. (a, b)) bytes number in
      let best_is : IfSome opened.input.held (λ image. AreBest (lost_graph image given.blocks) image roots × (HasBytes image × (length image ≡ opened.input.blocks))) =
      two_told opened.input.held (λ image a b. (a, b)) best image_is in
      let right_here : IsRight shared given opened.input.held (Some roots) false done.pool =
      two_told opened.input.held (λ image is saved. (is.0, (saved_found whole shared given roots opened.input.blocks done.pool image is.1.0 is.1.1 is.0 saved, λ e. absurd cc))) best_is done.right in
      subst (λ (h : Option Image). IsRight shared given h (Some roots) false done.pool) both.input.untouched.held right_here

  is_found : (out : SinkState) → terms.finds before (record after { out = out }) found
  is_found out = (has_room before.output opened.output after.output room refl both.output.untouched.held measured place.blocks, right)

  -- there is room
  zero_if : content.need room ≤ room → answer.status ≡ 0
  zero_if fits = ap (λ (a : Answer). a.status) (answer_made (saved_making shared) roots done.pool room fits)

  -- what the ending of the writing says
  told : (r : Result (Unit {0}) RepairFault) → result ≡ r → AnswersEnding (output_ending r) content room
  told r is = of_ending (λ ending. AnswersEnding ending content room) result r is done.output.answer

  early : (r : Result (Unit {0}) RepairFault) → result ≡ r → IsEarly (output_ending r) → (status : ℕ) → status ≢ 0 → Leaves status
  early r is before_writing status some =
      first_spared before after opened.output fresh both.output.untouched unput content (output_ending result) done.output answer zero_if
      (of_ending (λ ending. IsEarly ending → IsUntouched opened.output after.output) result r is done.output.early before_writing) status some

  halted : (stop : Stop) → IsTrue (is_possible terms (stop_status stop)) → HasCause terms before after stop → Leaves (stop_status stop) → IsHalted terms before after stop
  halted stop possible cause left = record { finding = found; found = is_found after.out; possible = possible; cause = cause; leaves = left }

  no_room : (need blocks : ℕ) → result ≡ Err (fault.NoRoom need blocks) → IsEnded terms before after 4 (no_room_line need blocks)
  no_room need blocks is =
      let told_here = told (Err (fault.NoRoom need blocks)) is in
      let small : room < content.need room = subst (λ (n : ℕ). room < n) told_here.0 told_here.1.1 in
      record {
        finding = found;
        found = is_found after.out;
        answer = rw (told_here.0, told_here.1.0) (answer_small (saved_making shared) roots done.pool room small);
        possible = refl;
        no_line = λ e. absurd (omega arith);
        leaves = early (Err (fault.NoRoom need blocks)) is tt 4 (λ e. omega arith);
      }

  -- whatever the fault
  pub search_unmade : (f : RepairFault) → result ≡ Err f → IsOther f → BlamesOne f opened.input.faults after.input.faults opened.output.faults after.output.faults
      → Works terms before after (repair_ended (Err f))
  search_unmade fault.Memory is other counts =
      halted Memory refl tt (first_lacking before after opened.output fresh both.output.untouched unput content (output_ending result) done.output answer zero_if (rw is tt))
  search_unmade fault.Input is other counts = halted Device refl (inl (rw both.input.faults at counts.0.0)) (early (Err fault.Input) is tt 5 (λ e. omega arith))
  search_unmade fault.Output is other counts =
      let risen : Rose before.output.faults after.output.faults = rw both.output.faults at counts.1.0 in
      halted Device refl (inr (inl risen))
      (first_failed before after opened.output fresh both.output.untouched unput content (output_ending result) done.output answer zero_if risen)
  search_unmade (fault.NoSuper rules) is other counts = absurd other
  search_unmade (fault.NoRoom need blocks) is other counts = no_room need blocks is

  -- the pool was written
  pub search_done : result ≡ Ok tt → IsDone terms before after (roots_line roots)
  search_done is =
      let given_answer = answer_made (saved_making shared) roots done.pool room (told (Ok tt) is).1 in
      record {
        finding = found;
        found = is_found;
        answer = given_answer;
        named = refl;
        possible = refl;
        loud = λ e. absurd cc;
        loud_lost = λ e. absurd cc;
        unspared = λ some. some (ap (λ (a : Answer). a.status) given_answer);
        leaves = first_done before after opened.output fresh both.output.untouched unput content (output_ending result) done.output answer zero_if
            (of_ending (λ ending. IsMadeDone ending) (Ok tt) result (sym is) tt) (ap (λ (a : Answer). a.status) given_answer);
      }
