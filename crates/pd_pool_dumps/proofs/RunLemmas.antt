-- Runs that are printed and counted, one part after another.
use Rattle.std.proofs.Common.{◌≡◌, ℕ, ◌+◌, ◌-◌, ◌^◌, min, List, [], ◌∷◌, ◌++◌, length, Option, IfSome, Result, Ok, Err, OnOk, refl, sym, ap, ◌∙◌, append_assoc, arith, length-append, map, None, Some, ap₂}
use Rattle.std.specs.Prelude.{sum_by}
use Rattle.std.specs.List.{flat_map}
use Rattle.std.proofs.lemmas.List.{append-nil, map-append}
use Rattle.std.proofs.lemmas.List.Sums.{sum_by-append}
use Rattle.std.proofs.lemmas.List.Concat.{flat_map-append}
use Rattle.std.specs.Result.{IsErr}
use Rattle.pd_kinds.proofs.ResultLemmas.{if_both, if_any}
use Rattle.pd_grammar.specs.ThinText.{Line, end_line, map_line, thin}
use Rattle.pd_grammar.specs.Texts.{text_of_lines, written}
use Rattle.pd_lines.specs.Printing.{Printing, Prints}
use Rattle.pd_lines.proofs.Printing.{begun_after, printed_both, printed_none}
use Rattle.pd_texts.specs.ThinLine.{text_of_line}
use Rattle.pd_meaning_thin.specs.declared.devices.DeviceRow.{DeviceRow}
use Rattle.pd_meaning_thin.specs.Given.{row_lines}
use Rattle.pd_meaning_thin.proofs.PieceLemmas.{if_three}
use Rattle.pd_meaning_thin.specs.declared.devices.ThinDevices.{ThinDevices}
use Rattle.pd_meaning_thin.specs.declared.joined.Run.{Run}
use Rattle.pd_meaning_thin.specs.Runs.{rows_left, spelled, IsGiven}
use Rattle.pd_query.proofs.QueryLemmas.{one_told, prints_known, so_far_lost, so_far_none}
use Rattle.pd_query.specs.Query.{PrintsSome}
use Rattle.pd_pool_dumps.specs.declared.counts.DumpCounts.{DumpCounts}
use Rattle.pd_pool_dumps.specs.ThinText.{Counted, CountsSome, IsCountOf, mappings_of_line, given_text, rest_text, row_text, rows_text, AddsRuns, PrintsRuns, RunsSoFar, given_lines}
use Rattle.pd_pool_dumps.specs.declared.leaf_text.LaterRuns.{LaterRuns}
use Rattle.pd_pool_dumps.specs.LeafText.{GoesOnWith}

-- Lines that are counted one after another.

-- the lines of another count were counted
pub count_both : (old new other : DumpCounts) → new.lines ≡ min (old.lines + other.lines) (2 ^ 64 - 1) → new.mappings ≡ min (old.mappings + other.mappings) (2 ^ 64 - 1)
    → (lines : List Line) → IsCountOf other lines → Counted old new lines
count_both old new other lines_are mappings_are lines counts = record {
  all = λ before is. record {
    mappings_are = mappings_are ∙ (capped old.mappings (sum_by mappings_of_line before) other.mappings (sum_by mappings_of_line lines) is.mappings_are counts.mappings_are
        ∙ ap (λ (n : ℕ). min n (2 ^ 64 - 1)) (sym (sum_by-append mappings_of_line before lines)));
    lines_are = lines_are ∙ (capped old.lines (length before) other.lines (length lines) is.lines_are counts.lines_are ∙ ap (λ (n : ℕ). min n (2 ^ 64 - 1)) (sym (length-append before lines)));
  };
}
  where
    capped : (a b n k : ℕ) → a ≡ min b (2 ^ 64 - 1) → n ≡ min k (2 ^ 64 - 1) → min (a + n) (2 ^ 64 - 1) ≡ min (b + k) (2 ^ 64 - 1)
    capped a b n k is also = omega arith

-- a line was counted
pub count_one : (old new : DumpCounts) (line : Line) → new.lines ≡ min (old.lines + 1) (2 ^ 64 - 1) → new.mappings ≡ min (old.mappings + mappings_of_line line) (2 ^ 64 - 1)
    → Counted old new (line ∷ [])
count_one old new line lines mappings =
    let n : ℕ = mappings_of_line line in
    let one : sum_by mappings_of_line (line ∷ []) ≡ n = omega arith in
    count_both old new (record { mappings = min n (2 ^ 64 - 1); lines = 1 }) lines (mappings ∙ capped old.mappings n) (line ∷ [])
    (record { mappings_are = ap (λ (n : ℕ). min n (2 ^ 64 - 1)) (sym one); lines_are = refl })
  where
    capped : (a n : ℕ) → min (a + n) (2 ^ 64 - 1) ≡ min (a + min n (2 ^ 64 - 1)) (2 ^ 64 - 1)
    capped a n = omega arith

-- a line that has no mapping
pub count_plain : (old new : DumpCounts) (line : Line) → mappings_of_line line ≡ 0 → new.lines ≡ min (old.lines + 1) (2 ^ 64 - 1) → new.mappings ≡ old.mappings
    → Counted old new (line ∷ [])
count_plain old new line none lines mappings = record {
  all = λ before is.
      let same : old.mappings ≡ min (old.mappings + mappings_of_line line) (2 ^ 64 - 1) = let was = is.mappings_are in omega arith in
      (count_one old new line lines (mappings ∙ same)).all before is;
}

-- nothing was, or first these lines and then those
pub counted_none : (now : DumpCounts) → Counted now now []
counted_none now = record { all = λ before is. rw (append-nil before) is }

pub counted_then : {old mid new : DumpCounts} (xs ys : List Line) → Counted old mid xs → Counted mid new ys → Counted old new (xs ++ ys)
counted_then xs ys first second = record { all = λ before is. rw (← append_assoc before xs ys) (second.all (before ++ xs) (first.all before is)) }

-- so far some lines were counted, which with the rest are the whole
pub record CountedUpTo (old new : DumpCounts) (whole rest : List Line) : Type 0 where
  pub lines : List Line
  pub split : whole ≡ lines ++ rest
  pub counted : Counted old new lines

abbrev pub CountsSoFar : Option (List (List ℕ)) → (List (List ℕ) → List Line) → (List (List ℕ) → List Line) → DumpCounts → DumpCounts → Type 0
CountsSoFar held whole rest old new = IfSome held (λ image. CountedUpTo old new (whole image) (rest image))

module _ (held : Option (List (List ℕ))) (old mid new : DumpCounts) where
  pub counts_more : (whole rest lines later : List (List ℕ) → List Line) → CountsSoFar held whole rest old mid
      → IfSome held (λ image. rest image ≡ lines image ++ later image) → CountsSome held lines mid new → CountsSoFar held whole later old new
  counts_more whole rest lines later so_far cut some = if_three held (λ image so_far cut some. record {
    lines = so_far.lines ++ lines image;
    split = so_far.split ∙ (ap (λ (xs : List Line). so_far.lines ++ xs) cut ∙ sym (append_assoc so_far.lines (lines image) (later image)));
    counted = counted_then so_far.lines (lines image) so_far.counted some;
  }) so_far cut some

  -- a line, and then what a call counted; or the other way round
  pub counts_after : {E : Type 0} (line : Line) (lines : List (List ℕ) → List Line) (result : Result (Unit {0}) E) → Counted old mid (line ∷ [])
      → OnOk result (CountsSome held lines mid new) → OnOk result (CountsSome held (λ image. line ∷ lines image) old new)
  counts_after line lines (Err fault) first some = tt
  counts_after line lines (Ok done) first some = one_told held (λ image rest. counted_then (line ∷ []) (lines image) first rest) some

  pub counts_before : {E : Type 0} (lines : List (List ℕ) → List Line) (line : Line) (result : Result (Unit {0}) E) → CountsSome held lines old mid
      → OnOk result (Counted mid new (line ∷ [])) → OnOk result (CountsSome held (λ image. lines image ++ (line ∷ [])) old new)
  counts_before lines line (Err fault) some last = tt
  counts_before lines line (Ok done) some last = one_told held (λ image first. counted_then (lines image) (line ∷ []) first last) some

-- nothing is left
pub counts_all : (held : Option (List (List ℕ))) (old new : DumpCounts) (whole rest : List (List ℕ) → List Line) → CountsSoFar held whole rest old new → IfSome held (λ image. rest image ≡ []) → CountsSome held whole old new
counts_all held old new whole rest so_far none =
    if_both {P = λ image. CountedUpTo old new (whole image) (rest image)} {Q = λ image. rest image ≡ []} {R = λ image. Counted old new (whole image)} held (λ image so_far none. rw (so_far.split ∙ ap (λ (xs : List Line). so_far.lines ++ xs) none ∙ append-nil so_far.lines) so_far.counted) so_far none

-- the lines of rows, by the first one
pub rows_lines : (image : List (List ℕ)) (row : DeviceRow) (left later : List DeviceRow) → left ≡ row ∷ later → flat_map (row_lines image) left ≡ row_lines image row ++ flat_map (row_lines image) later
rows_lines image row left later is = rw is refl

-- the counts of a whole text, which began with none
pub counts_whole : (held : Option (List (List ℕ))) (lines : List (List ℕ) → List Line) (first last : DumpCounts) → IsCountOf first [] → CountsSome held lines first last
    → IfSome held (λ image. IsCountOf last (lines image))
counts_whole held lines first last none some = one_told held (λ image counted. counted.all [] none) some

-- The text of runs and of rows, one after another.

-- the text of lines in a row
pub text-append : (xs ys : List Line) → text_of_lines thin (xs ++ ys) ≡ text_of_lines thin xs ++ text_of_lines thin ys
text-append xs ys = flat_map-append (λ (line : Line). written thin line ++ (10 ∷ [])) xs ys

-- a run before others
pub run_first : (run : Run) (left later : List Run) → left ≡ run ∷ later → given_text left ≡ text_of_line thin (map_line (spelled run)) ++ given_text later
run_first run left later is = rw is refl

-- a row before others
pub row_first : (image : List (List ℕ)) (row : DeviceRow) (left later : List DeviceRow) → left ≡ row ∷ later → rows_text image left ≡ row_text image row ++ rows_text image later
row_first image row left later is = rw is (text-append (row_lines image row) _)

-- the lines of the devices, and the last one
pub last_line : (image : List (List ℕ)) (devices : ThinDevices) → rest_text image devices ≡ rows_text image (rows_left image devices) ++ text_of_line thin end_line
last_line image devices = text-append (flat_map (row_lines image) (rows_left image devices)) (end_line ∷ [])

-- the lines and the text of runs in a row
pub lines_both : (xs ys : List Run) → given_lines (xs ++ ys) ≡ given_lines xs ++ given_lines ys
lines_both xs ys = ap (map map_line) (map-append spelled xs ys) ∙ map-append map_line (map spelled xs) (map spelled ys)

pub text_both : (xs ys : List Run) → given_text (xs ++ ys) ≡ given_text xs ++ given_text ys
text_both xs ys = ap (text_of_lines thin) (lines_both xs ys) ∙ text-append (given_lines xs) (given_lines ys)

-- one part, and then another
adds_both : {whole mid left : List Run} {text text' : List ℕ} {old new last : DumpCounts} → AddsRuns whole mid text old new → AddsRuns mid left text' new last → AddsRuns whole left (text ++ text') old last
adds_both {left = left} {old = old} {last = last} one two = record {
  runs = one.runs ++ two.runs;
  parts = one.parts ∙ (ap (λ (rs : List Run). one.runs ++ rs) two.parts ∙ sym (append_assoc one.runs two.runs left));
  text_is = ap₂ (λ (xs ys : List ℕ). xs ++ ys) one.text_is two.text_is ∙ sym (text_both one.runs two.runs);
  counted = rw (lines_both one.runs two.runs) (counted_then (given_lines one.runs) (given_lines two.runs) one.counted two.counted);
}

module _ (held : Option (List (List ℕ))) where
  -- nothing was printed: the same runs are left
  pub runs_same : {whole left : List (List ℕ) → List Run} (now : Printing) (counts : DumpCounts) → IfSome held (λ image. whole image ≡ left image) → RunsSoFar held whole left now now counts counts
  runs_same now counts same = record {
    text = [];
    told = one_told held (λ image is. record { runs = []; parts = is; text_is = refl; counted = counted_none counts }) same;
    printed = printed_none now;
  }

  pub runs_none : (whole : List (List ℕ) → List Run) (now : Printing) (counts : DumpCounts) → RunsSoFar held whole whole now now counts counts
  runs_none whole now counts = runs_same now counts (if_any held (λ image. refl))

  pub runs_both : {whole mid left : List (List ℕ) → List Run} {old between new : Printing} {first second last : DumpCounts} → RunsSoFar held whole mid old between first second
      → RunsSoFar held mid left between new second last → RunsSoFar held whole left old new first last
  runs_both one two = record {
    text = one.text ++ two.text;
    told = if_both held (λ image adds more. adds_both adds more) one.told two.told;
    printed = printed_both one.printed two.printed;
  }

  -- the work stops in a part of the rest
  pub runs_lost : {E : Type 0} {fault : E} {whole mid : List (List ℕ) → List Run} {old between new : Printing} {first second : DumpCounts} → RunsSoFar held whole mid old between first second
      → PrintsSome held (λ image. given_text (mid image)) (Err fault) between new → PrintsSome held (λ image. given_text (whole image)) (Err fault) old new
  runs_lost {mid = mid} one lost = record {
    text = one.text ++ lost.text;
    told =
        if_both held
        (λ image adds is. ap₂ (λ (xs ys : List ℕ). xs ++ ys) adds.text_is is ∙ (sym (text_both adds.runs (mid image)) ∙ ap (λ (rs : List Run). given_text rs) (sym adds.parts))) one.told
        lost.told;
    prints = begun_after one.printed lost.prints;
  }

  -- a first part, and then what a call printed, or failed in
  pub runs_then : {E : Type 0} {whole mid left : List (List ℕ) → List Run} {old between new : Printing} {first second last : DumpCounts} (result : Result (Unit {0}) E)
      → RunsSoFar held whole mid old between first second → PrintsRuns held mid left result between new second last → PrintsRuns held whole left result old new first last
  runs_then (Ok done) one two = record { outcome = runs_both one two.outcome }
  runs_then (Err fault) one two = record { outcome = runs_lost one two.outcome }

  -- work that failed, whatever the fault
  pub runs_fail : {E F : Type 0} {fault : F} {whole : List (List ℕ) → List Run} (left : List (List ℕ) → List Run) {old new : Printing} {first last : DumpCounts} (result : Result (Unit {0}) E) → IsErr result
      → PrintsSome held (λ image. given_text (whole image)) (Err fault) old new → PrintsRuns held whole left result old new first last
  runs_fail left (Ok done) failed lost = absurd (cc (failed))
  runs_fail left (Err fault) failed lost = record { outcome = record { text = lost.text; told = lost.told; prints = lost.prints } }

  -- the line of a run
  pub runs_one : {E : Type 0} (run : Run) {whole left : List (List ℕ) → List Run} {old new : Printing} {first last : DumpCounts} (result : Result (Unit {0}) E)
      → Prints (text_of_line thin (map_line (spelled run))) result old new → OnOk result (Counted first last (map_line (spelled run) ∷ []))
      → IfSome held (λ image. whole image ≡ run ∷ left image) → PrintsRuns held whole left result old new first last
  runs_one run (Ok done) printed counted is = record {
    outcome = record {
      text = text_of_line thin (map_line (spelled run));
      told = one_told held (λ image is. record { runs = run ∷ []; parts = is; text_is = sym (append-nil (text_of_line thin (map_line (spelled run)))); counted = counted }) is;
      printed = printed;
    };
  }
  runs_one run {whole = whole} {left = left} {old = old} (Err fault) begun counted is = record {
    outcome = so_far_lost held (λ image. given_text (left image)) (so_far_none held (λ image. given_text (whole image)) old)
        (one_told held (λ image is. run_first run (whole image) (left image) is) is) (prints_known {result = Err fault} held begun);
  }

  -- the lines of a kept text
  pub runs_known : {E : Type 0} (later : LaterRuns) {whole left : List (List ℕ) → List Run} {old new : Printing} {first last : DumpCounts} (result : Result (Unit {0}) E)
      → Prints later.lines.items result old new → OnOk result ((lines : List Line) → IsCountOf later.counts lines → Counted first last lines)
      → IfSome held (λ image. GoesOnWith later [] (whole image) (left image)) → PrintsRuns held whole left result old new first last
  runs_known later (Ok done) printed counted goes = record {
    outcome = record {
      text = later.lines.items;
      told = one_told held (λ image on. record { runs = on.middle; parts = on.parts; text_is = on.text_is; counted = counted (given_lines on.middle) on.counts_are }) goes;
      printed = printed;
    };
  }
  runs_known later {whole = whole} {left = left} {old = old} (Err fault) begun counted goes = record {
    outcome = so_far_lost held (λ image. given_text (left image)) (so_far_none held (λ image. given_text (whole image)) old)
        (one_told held
        (λ image on. ap (λ (rs : List Run). given_text rs) on.parts ∙ (text_both on.middle (left image) ∙ ap (λ (xs : List ℕ). xs ++ given_text (left image)) (sym on.text_is))) goes)
        (prints_known {result = Err fault} held begun);
  }

  -- all was printed and counted, where nothing is left
  all_runs : {whole : List Run} {text : List ℕ} {first last : DumpCounts} → AddsRuns whole [] text first last → (text ≡ given_text whole) × Counted first last (given_lines whole)
  all_runs adds =
      let all = adds.parts ∙ append-nil adds.runs in
      (adds.text_is ∙ ap (λ (rs : List Run). given_text rs) (sym all), rw all adds.counted)

  pub runs_printed : {E : Type 0} {whole : List (List ℕ) → List Run} {old new : Printing} {first last : DumpCounts} (result : Result (Unit {0}) E)
      → PrintsRuns held whole (λ image. []) result old new first last → PrintsSome held (λ image. given_text (whole image)) result old new
  runs_printed (Ok done) all =
      let so_far = all.outcome in
      record { text = so_far.text; told = one_told held (λ image adds. (all_runs adds).0) so_far.told; prints = so_far.printed }
  runs_printed (Err fault) lost = lost.outcome

  pub runs_counted : {E : Type 0} {whole : List (List ℕ) → List Run} {old new : Printing} {first last : DumpCounts} (result : Result (Unit {0}) E)
      → PrintsRuns held whole (λ image. []) result old new first last → OnOk result (CountsSome held (λ image. given_lines (whole image)) first last)
  runs_counted (Ok done) all = let so_far = all.outcome in one_told held (λ image adds. (all_runs adds).1) so_far.told
  runs_counted (Err fault) lost = tt

-- a run is given of more than was left
pub given_more : (run : Option Run) (old new more : List Run) → IsGiven run old new → IsGiven run (old ++ more) (new ++ more)
given_more None old new more is = ap (λ (rs : List Run). rs ++ more) is
given_more (Some run) old new more is = ap (λ (rs : List Run). rs ++ more) is
