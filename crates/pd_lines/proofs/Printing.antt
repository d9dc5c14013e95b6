-- What a printer did, call by call.
use Rattle.std.proofs.Common.{◌≡◌, ℕ, ◌+◌, List, [], ◌++◌, length, take, Option, Some, refl, ap, sym, ◌∙◌, append_assoc, Result, Ok, Err, OnOk, suc, zero, ◌∷◌, drop, add-one, codes, decimal, eqb, false, ◌*◌, ◌/◌, ◌%◌, ◌^◌, ◌<◌, ◌≤◌, arith, length-append, length-take-le}
use Rattle.std.proofs.lemmas.List.{append-nil, take-append-drop, take_all, take-append-le}
use Rattle.std.proofs.Math.Seq.{take-append-add, take-suc}
use Rattle.std.specs.Result.{IsErr}
use Rattle.std.specs.List.{flat_map, slice_get}
use Rattle.std.proofs.lemmas.Grind.{flat_map-append}
use Rattle.std.proofs.lemmas.Option.{slice_get_within, get_or_from_slice_get}
use Rattle.std.proofs.lemmas.Fmt.{decimal_digit, decimal_step}
use Rattle.pd_kinds.specs.Objects.{Appends, AppendsFront, SinkState}
use Rattle.pd_kinds.proofs.ListLemmas.{front_none, front_of_more}
use Rattle.pd_kinds.specs.declared.rule.Fault.{Fault}
use Rattle.pd_grammar.specs.Lines.{fault_line, lines_of}
use Rattle.pd_image.specs.Sink.{KeepsSink}
use Rattle.pd_lines.specs.Pieces.{Gathers}
use Rattle.pd_lines.specs.Printing.{Begun, Finishes, Printed, Printing, Prints}

-- What a sink has and what is pending, as pieces are gathered and put.

-- a line is gathered
pub gathers_more : (total pending line : List ℕ) (start now : Option (List ℕ))
    → Gathers total pending start now → Gathers (total ++ line) (pending ++ line) start now
gathers_more total pending line start now so_far = record {
  told = λ before e.
      let given = so_far.told before e in
      (given.0, (given.1.0, sym (append_assoc given.0 pending line) ∙ ap (λ (xs : List ℕ). xs ++ line) given.1.1));
}

-- a front of what is pending is put
pub put_front : (total pending : List ℕ) (start now new : Option (List ℕ))
    → Gathers total pending start now → AppendsFront pending now new → AppendsFront total start new
put_front total pending start now new so_far front = record {
  told = λ before e.
      let given = so_far.told before e in
      let put = front.told (before ++ given.0) given.1.0 in
      let taken : take (length given.0 + put.0) total ≡ given.0 ++ take put.0 pending =
      ap (λ (xs : List ℕ). take (length given.0 + put.0) xs) (sym given.1.1) ∙ take-append-add given.0 pending put.0 in (
        length given.0 + put.0,
        put.1 ∙ ap (λ (xs : List ℕ). Some xs) (append_assoc before given.0 (take put.0 pending)
            ∙ ap (λ (xs : List ℕ). before ++ xs) (sym taken)),
      );
}

-- what was appended is all, and nothing is pending
pub gathers_none : (total : List ℕ) (start now : Option (List ℕ)) → Appends total start now → Gathers total [] start now
gathers_none total start now all = record { told = λ before e. (total, (all.told before e, append-nil total)) }

-- nothing is pending at the start
pub gathers_start : (start : Option (List ℕ)) → Gathers [] [] start start
gathers_start start = record { told = λ before e. ([], (rw (append-nil before) e, refl)) }

-- what is pending may be lost
pub gathers_front : (total pending : List ℕ) (start now : Option (List ℕ)) → Gathers total pending start now → AppendsFront total start now
gathers_front total pending start now so_far =
    put_front total pending start now now so_far (front_none pending now)

-- what two calls keep
pub keeps_both : {a b c : SinkState} → KeepsSink a b → KeepsSink b c → KeepsSink a c
keeps_both first second = record { access = second.access ∙ first.access; path = second.path ∙ first.path }

-- a line was gathered, or not
pub prints_line : {E : Type 0} (line : List ℕ) (result : Result (Unit {0}) E) (old new : Printing)
    → ((total : List ℕ) (start : Option (List ℕ)) → Gathers total old.pending start old.sink.written → OnOk result (Gathers (total ++ line) new.pending start new.sink.written))
    → ((total : List ℕ) (start : Option (List ℕ)) → Gathers total old.pending start old.sink.written → AppendsFront total start new.sink.written)
    → KeepsSink old.sink new.sink → Prints line result old new
prints_line line (Ok done) old new gathered front kept = record { gathered = gathered; kept = kept }
prints_line line (Err fault) old new gathered front kept =
    record { front = λ total start so_far. front_of_more total line start new.sink.written (front total start so_far); kept = kept }

-- nothing was printed
pub printed_none : (now : Printing) → Printed [] now now
printed_none now = record { gathered = λ total start so_far. rw (append-nil total) so_far; kept = record { access = refl; path = refl } }

pub begun_none : (text : List ℕ) (now : Printing) → Begun text now now
begun_none text now = record {
  front = λ total start so_far. front_of_more total text start now.sink.written (gathers_front total now.pending start now.sink.written so_far);
  kept = record { access = refl; path = refl };
}

-- one text, and then another
pub printed_both : {first second : List ℕ} {old mid new : Printing} → Printed first old mid → Printed second mid new → Printed (first ++ second) old new
printed_both {first} {second} one two = record {
  gathered = λ total start so_far. rw (← append_assoc total first second) (two.gathered (total ++ first) start (one.gathered total start so_far));
  kept = keeps_both one.kept two.kept;
}

-- a front of the first, or the first and a front of the other
pub begun_first : {first : List ℕ} (rest : List ℕ) {old new : Printing} → Begun first old new → Begun (first ++ rest) old new
begun_first {first} rest {old} {new} begun = record {
  front = λ total start so_far. rw (← append_assoc total first rest) (front_of_more (total ++ first) rest start new.sink.written (begun.front total start so_far));
  kept = begun.kept;
}

pub begun_after : {first rest : List ℕ} {old mid new : Printing} → Printed first old mid → Begun rest mid new → Begun (first ++ rest) old new
begun_after {first} {rest} one begun = record {
  front = λ total start so_far. rw (← append_assoc total first rest) (begun.front (total ++ first) start (one.gathered total start so_far));
  kept = keeps_both one.kept begun.kept;
}

-- work that failed, whatever the fault
pub begun_with : {E : Type 0} {text : List ℕ} {old new : Printing} (result : Result (Unit {0}) E) → IsErr result → Begun text old new → Prints text result old new
begun_with (Ok done) failed begun = absurd (cc (failed))
begun_with (Err fault) failed begun = begun

-- a text, and then the rest, which a call printed or began to
pub prints_then : {E : Type 0} (first rest : List ℕ) {old mid : Printing} (new : Printing) (result : Result (Unit {0}) E) → Printed first old mid → Prints rest result mid new
    → Prints (first ++ rest) result old new
prints_then first rest new (Ok done) one two = printed_both one two
prints_then first rest new (Err fault) one begun = begun_after one begun

-- a printer of which nothing is pending
abbrev pub fresh : SinkState → Printing
fresh sink = record { sink = sink; pending = [] }

-- all that was printed since then was put, or a front of it
pub all_put : {text : List ℕ} {first sink : SinkState} {mid : Printing} {E : Type 0} {done : Unit {0}} → Printed text (fresh first) mid → Finishes {E = E} (Ok done) mid sink → Appends text first.written sink.written
all_put {text} {first} printed finishes = finishes.whole text first.written (printed.gathered [] first.written (gathers_start first.written))

pub all_lost : {text : List ℕ} {first sink : SinkState} {mid : Printing} {T E : Type 0} {result : Result T E} → Printed text (fresh first) mid → Finishes result mid sink → AppendsFront text first.written sink.written
all_lost {text} {first} printed finishes = finishes.front text first.written (printed.gathered [] first.written (gathers_start first.written))

pub all_begun : {text : List ℕ} {first : SinkState} {mid : Printing} → Begun text (fresh first) mid → AppendsFront text first.written mid.sink.written
all_begun {text} {first} begun = begun.front [] first.written (gathers_start first.written)

-- The lines of a report, put together one by one.

-- one line more
pub lines-take-suc : (total : List ℕ) (faults : List Fault) (i : ℕ) (fault : Fault) → slice_get faults i ≡ Some fault
    → total ++ flat_map fault_line (take (i + 1) faults) ≡ (total ++ flat_map fault_line (take i faults)) ++ fault_line fault
lines-take-suc total faults i fault e =
    let within = slice_get_within faults i fault e in
    let item = get_or_from_slice_get faults i fault fault e in
    let front = take-suc faults i fault within in
    rw (add-one i, front, item, flat_map-append fault_line (take i faults) (fault ∷ []), append-nil (fault_line fault))
    (sym (append_assoc total (flat_map fault_line (take i faults)) (fault_line fault)))

-- the lines so far are a front of all
pub lines-take : (total : List ℕ) (faults : List Fault) (i : ℕ)
    → (total ++ flat_map fault_line (take i faults)) ++ flat_map fault_line (drop i faults) ≡ total ++ flat_map fault_line faults
lines-take total faults i =
    append_assoc total (flat_map fault_line (take i faults)) (flat_map fault_line (drop i faults))
    ∙ ap (λ (xs : List ℕ). total ++ xs) (sym (flat_map-append fault_line (take i faults) (drop i faults))
    ∙ ap (λ (xs : List Fault). flat_map fault_line xs) (take-append-drop i faults))

-- a report with faults ends with their number
pub lines_of-faults : (faults : List Fault) (total : ℕ) → eqb total 0 ≡ false
    → lines_of faults total ≡ flat_map fault_line faults ++ (codes "faults " ++ (decimal total ++ (10 ∷ [])))
unfolding lines_of
lines_of-faults faults zero none = cc
lines_of-faults faults (suc n) some = refl

-- The digits of numbers.

-- how many a number has, by the power of ten that is at most the number
pub decimal_length : (n k : ℕ) → n < 2 ^ 64 → 10 ^ k ≤ n → n < 10 * 10 ^ k → length (decimal n) ≡ k + 1
decimal_length n zero small low high = ap length (decimal_digit n (omega arith))
decimal_length n (suc k) small low high =
    let shorter : length (decimal (n / 10)) ≡ k + 1 = decimal_length (n / 10) k (omega arith) (omega arith) (omega arith) in
    omega (arith, shorter, ap length (decimal_step n (omega arith) small), length-append (decimal (n / 10)) ((48 + n % 10) ∷ []))

-- digits that were written up to an end, behind the first bytes
pub digits_behind : (old new digits rest : List ℕ) (len start end : ℕ) → len ≤ length old → end ≡ len + length digits → start + length digits ≡ end
    → drop start new ≡ digits ++ rest → take start new ≡ take start old → take end new ≡ take len old ++ digits
digits_behind old new digits rest len start end within is_end ends tail front =
    let at : start ≡ len = omega (arith, is_end, ends) in
    let whole : new ≡ take len old ++ (digits ++ rest) = sym (take-append-drop start new) ∙ rw (front, tail, at) refl in
    let short : length (take len old) ≡ len = length-take-le len old within in
    rw (whole, is_end)
    (ap (λ (i : ℕ). take (i + length digits) (take len old ++ (digits ++ rest))) (sym short)
    ∙ take-append-add (take len old) (digits ++ rest) (length digits)
    ∙ ap (λ (zs : List ℕ). take len old ++ zs) (take-append-le (length digits) digits rest (omega arith) ∙ take_all (length digits) digits (omega arith)))
