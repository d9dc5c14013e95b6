-- What was put, said in other words, and why a query fails.
use Rattle.std.proofs.Common.{◌≡◌, ℕ, List, [], ◌++◌, Option, None, Some, IfSome, Result, Ok, Err, OnOk, refl, sym, ap, ◌∙◌, append_assoc}
use Rattle.std.specs.Result.{IsErr}
use Rattle.std.proofs.lemmas.List.{append-nil}
use Rattle.pd_kinds.specs.Objects.{Appends, SinkState}
use Rattle.pd_kinds.proofs.ListLemmas.{front_from_whole, front_none}
use Rattle.pd_kinds.proofs.ResultLemmas.{if_any, if_both}
use Rattle.pd_kinds.specs.declared.report.CheckFault.{CheckFault}
use Rattle.pd_kinds.specs.CheckFault.{CountsCheckFault}
use Rattle.pd_kinds.specs.declared.report.CheckFault.TheVariants as check
use Rattle.pd_lines.specs.Printing.{Finishes, Printed, Printing, Prints}
use Rattle.pd_lines.proofs.Printing.{all_begun, all_lost, all_put, begun_after, begun_first, begun_none, fresh, printed_both, printed_none}
use Rattle.pd_query.specs.Query.{PrintsSome, PutsText, Puts, QueryEnds, Fails, StartFails, fault_of_check}
use Rattle.pd_query.specs.declared.query.QueryFault.{QueryFault}
use Rattle.pd_query.specs.declared.query.QueryFault.TheVariants.{Memory, Device, Sink}

-- Text that is printed, one part after another, and put.

pub one_told : {X : Type 0} {P Q : X → Type 0} → (o : Option X) → ((x : X) → P x → Q x) → IfSome o P → IfSome o Q
one_told None join p = tt
one_told (Some x) join p = join x p

-- a text that is told, where one is
abbrev pub told_text : Option (List (List ℕ)) → (List (List ℕ) → List ℕ) → List ℕ
told_text None text_of = []
told_text (Some image) text_of = text_of image

is_told : (held : Option (List (List ℕ))) (text_of : List (List ℕ) → List ℕ) → IfSome held (λ image. told_text held text_of ≡ text_of image)
is_told None text_of = tt
is_told (Some image) text_of = refl

-- so far some text was printed, which with the rest is the whole where the device tells what it holds
pub record PrintsSoFar (held : Option (List (List ℕ))) (whole rest : List (List ℕ) → List ℕ) (old new : Printing) : Type 0 where
  pub text : List ℕ
  pub told : IfSome held (λ image. whole image ≡ text ++ rest image)
  pub printed : Printed text old new

-- a text that is known
pub prints_known : {E : Type 0} {text : List ℕ} {result : Result (Unit {0}) E} {old new : Printing} (held : Option (List (List ℕ))) → Prints text result old new → PrintsSome held (λ image. text) result old new
prints_known {E} {text} held prints = record { text = text; told = if_any held (λ image. refl); prints = prints }

module _ (held : Option (List (List ℕ))) where
  -- nothing was printed yet
  pub so_far_none : (whole : List (List ℕ) → List ℕ) (now : Printing) → PrintsSoFar held whole whole now now
  so_far_none whole now = record { text = []; told = if_any held (λ image. refl); printed = printed_none now }

  -- some text more
  pub so_far_more : {E : Type 0} {done : Unit {0}} {whole rest text_of later : List (List ℕ) → List ℕ} {old mid new : Printing}
      → PrintsSoFar held whole rest old mid → IfSome held (λ image. rest image ≡ text_of image ++ later image) → PrintsSome {E = E} held text_of (Ok done) mid new
      → PrintsSoFar held whole later old new
  so_far_more {later = later} so_far cut some = record {
    text = so_far.text ++ some.text;
    told =
        if_both held (λ image is parts. is ∙ (ap (λ (xs : List ℕ). so_far.text ++ xs) parts ∙ sym (append_assoc so_far.text some.text (later image)))) so_far.told
        (if_both held (λ image cut is. cut ∙ ap (λ (xs : List ℕ). xs ++ later image) (sym is)) cut some.told);
    printed = printed_both so_far.printed some.prints;
  }

  -- nothing is left
  pub so_far_all : {E : Type 0} (done : Unit {0}) {whole rest : List (List ℕ) → List ℕ} {old new : Printing} → PrintsSoFar held whole rest old new → IfSome held (λ image. rest image ≡ [])
      → PrintsSome {E = E} held whole (Ok done) old new
  so_far_all done so_far none = record {
    text = so_far.text;
    told = if_both held (λ image is nothing. sym (is ∙ (rw nothing (append-nil so_far.text)))) so_far.told none;
    prints = so_far.printed;
  }

  -- the work stops in a part of the rest
  pub so_far_lost : {E : Type 0} {fault : E} {whole rest text_of : List (List ℕ) → List ℕ} (later : List (List ℕ) → List ℕ) {old mid new : Printing}
      → PrintsSoFar held whole rest old mid → IfSome held (λ image. rest image ≡ text_of image ++ later image) → PrintsSome held text_of (Err fault) mid new
      → PrintsSome held whole (Err fault) old new
  so_far_lost later so_far cut lost = record {
    text = so_far.text ++ (lost.text ++ told_text held later);
    told =
        if_both held (λ image is parts. sym (is ∙ ap (λ (xs : List ℕ). so_far.text ++ xs) parts)) so_far.told
        (if_both held (λ image both last. both ∙ ap (λ (xs : List ℕ). lost.text ++ xs) (sym last))
        (if_both held (λ image cut is. cut ∙ ap (λ (xs : List ℕ). xs ++ later image) (sym is)) cut lost.told) (is_told held later));
    prints = begun_after so_far.printed (begun_first (told_text held later) lost.prints);
  }

  -- or before it
  pub prints_none : {E : Type 0} (fault : E) (text_of : List (List ℕ) → List ℕ) (now : Printing) → PrintsSome held text_of (Err fault) now now
  prints_none fault text_of now = record { text = told_text held text_of; told = is_told held text_of; prints = begun_none (told_text held text_of) now }

  pub so_far_stops : {E : Type 0} (fault : E) {whole rest : List (List ℕ) → List ℕ} {old new : Printing} → PrintsSoFar held whole rest old new → PrintsSome held whole (Err fault) old new
  so_far_stops fault {whole} {rest} {old} {new} so_far =
      so_far_lost {text_of = rest} (λ image. []) so_far (if_any held (λ image. sym (append-nil (rest image)))) (prints_none fault rest new)

  -- a first part, and then the rest, which a call printed or began to
  pub some_then : {E : Type 0} {done : Unit {0}} {whole first rest : List (List ℕ) → List ℕ} {old mid new : Printing} (result : Result (Unit {0}) E)
      → ((image : List (List ℕ)) → whole image ≡ first image ++ rest image) → PrintsSome {E = E} held first (Ok done) old mid → PrintsSome held rest result mid new
      → PrintsSome held whole result old new
  some_then {done = done} {whole = whole} {rest = rest} {old = old} {mid = mid} (Ok last) cut one two =
      let so_far : PrintsSoFar held whole rest old mid = so_far_more (so_far_none whole old) (if_any held cut) one in
      so_far_all last {rest = λ image. []} (so_far_more so_far (if_any held (λ image. sym (append-nil (rest image)))) two) (if_any held (λ image. refl))
  some_then {whole = whole} {rest = rest} {old = old} {mid = mid} (Err fault) cut one two =
      let so_far : PrintsSoFar held whole rest old mid = so_far_more (so_far_none whole old) (if_any held cut) one in
      so_far_lost {text_of = rest} (λ image. []) so_far (if_any held (λ image. sym (append-nil (rest image)))) two

  -- work that failed, whatever the fault
  pub lost_with : {E F : Type 0} {fault : F} {text_of : List (List ℕ) → List ℕ} {old new : Printing} (result : Result (Unit {0}) E) → IsErr result → PrintsSome held text_of (Err fault) old new
      → PrintsSome held text_of result old new
  lost_with (Ok done) failed lost = absurd (cc (failed))
  lost_with (Err fault) failed lost = record { text = lost.text; told = lost.told; prints = lost.prints }

  -- or a front of the first part
  pub first_lost : {E : Type 0} {fault : E} {whole first : List (List ℕ) → List ℕ} (rest : List (List ℕ) → List ℕ) {old new : Printing}
      → ((image : List (List ℕ)) → whole image ≡ first image ++ rest image) → PrintsSome held first (Err fault) old new → PrintsSome held whole (Err fault) old new
  first_lost {whole = whole} rest {old} cut lost = so_far_lost rest (so_far_none whole old) (if_any held cut) lost

  -- all that was printed from the start on was put, or a front of it
  pub text_put : {T E F G : Type 0} {done last : Unit {0}} (value : T) {text_of : List (List ℕ) → List ℕ} {first sink : SinkState} {mid : Printing} → PrintsSome {E = F} held text_of (Ok done) (fresh first) mid
      → Finishes {E = G} (Ok last) mid sink → PutsText {T = T} {E = E} held text_of (Ok value) first.written sink.written
  text_put value {first = first} {sink = sink} some finishes =
      let all = all_put some.prints finishes in
      record { text = some.text; told = some.told; whole = all; front = front_from_whole some.text first.written sink.written all }

  pub text_lost : {T E F G : Type 0} {done : Unit {0}} {lost : G} (fault : E) {text_of : List (List ℕ) → List ℕ} {first sink : SinkState} {mid : Printing} → PrintsSome {E = F} held text_of (Ok done) (fresh first) mid
      → Finishes {T = Unit {0}} (Err lost) mid sink → PutsText {T = T} held text_of (Err fault) first.written sink.written
  text_lost fault some finishes = record { text = some.text; told = some.told; whole = tt; front = all_lost some.prints finishes }

  pub text_finished : {E F : Type 0} {done : Unit {0}} (result : Result (Unit {0}) E) {text_of : List (List ℕ) → List ℕ} {first sink : SinkState} {mid : Printing} → PrintsSome {E = F} held text_of (Ok done) (fresh first) mid
      → Finishes result mid sink → PutsText held text_of result first.written sink.written
  text_finished (Ok last) {first = first} {sink = sink} some finishes = text_put last {first = first} {sink = sink} some finishes
  text_finished (Err fault) {first = first} {sink = sink} some finishes = text_lost fault {first = first} {sink = sink} some finishes

  pub text_stopped : {T E F : Type 0} {lost : F} (result : Result T E) {text_of : List (List ℕ) → List ℕ} {first : SinkState} {mid : Printing} → IsErr result
      → PrintsSome held text_of (Err lost) (fresh first) mid → PutsText held text_of result first.written mid.sink.written
  text_stopped (Ok value) failed some = absurd (cc (failed))
  text_stopped (Err fault) failed some = record { text = some.text; told = some.told; whole = tt; front = all_begun some.prints }

-- the same text in other words, where the device tells what it holds
pub prints_told : {E : Type 0} {result : Result (Unit {0}) E} {text_of other : List (List ℕ) → List ℕ} {old new : Printing} (held : Option (List (List ℕ)))
    → IfSome held (λ image. text_of image ≡ other image) → PrintsSome held text_of result old new → PrintsSome held other result old new
prints_told held same some = record { text = some.text; told = if_both held (λ image is same. is ∙ same) some.told same; prints = some.prints }

-- all that was printed since then was put, where nothing failed
pub put_all : {E : Type 0} (result : Result (Unit {0}) E) {text : List ℕ} {first sink : SinkState} {mid : Printing} → Printed text (fresh first) mid → Finishes result mid sink
    → OnOk result (Appends text first.written sink.written)
put_all (Ok done) {first = first} {sink = sink} printed finishes = all_put {first = first} {sink = sink} printed finishes
put_all (Err fault) printed finishes = tt

-- what holds of the text that was put, where another thing does
pub puts_as : {T E : Type 0} {held : Option (List (List ℕ))} {Holds Means : List (List ℕ) → List ℕ → Type 0} {result : Result T E} {before after : Option (List ℕ)}
    → IfSome held (λ image. (text : List ℕ) → Holds image text → Means image text) → Puts held Holds result before after → Puts held Means result before after
puts_as {T} {E} {held} so puts = record {
  text = puts.text;
  told = if_both held (λ image so holds. so puts.text holds) so puts.told;
  whole = puts.whole;
  front = puts.front;
}

-- work that failed, whatever the fault
pub lost_as : {T U E F : Type 0} {held : Option (List (List ℕ))} {Holds : List (List ℕ) → List ℕ → Type 0} {before after : Option (List ℕ)} (fault : E) (other : F)
    → Puts {T = T} held Holds (Err fault) before after → Puts {T = U} held Holds (Err other) before after
lost_as fault other puts = record { text = puts.text; told = puts.told; whole = tt; front = puts.front }

-- nothing was put, whatever the text that holds
holds_told : (Holds : List (List ℕ) → List ℕ → Type 0) (held : Option (List (List ℕ))) (text_of : List (List ℕ) → List ℕ) → ((image : List (List ℕ)) → Holds image (text_of image))
    → IfSome held (λ image. Holds image (told_text held text_of))
holds_told Holds None text_of holds = tt
holds_told Holds (Some image) text_of holds = holds image

pub puts_none : {T E : Type 0} {Holds : List (List ℕ) → List ℕ → Type 0} (held : Option (List (List ℕ))) (text_of : List (List ℕ) → List ℕ) (fault : E) {before after : Option (List ℕ)}
    → after ≡ before → ((image : List (List ℕ)) → Holds image (text_of image)) → Puts {T = T} held Holds (Err fault) before after
puts_none {T} {E} {Holds} held text_of fault {before} same holds = record {
  text = told_text held text_of;
  told = holds_told Holds held text_of holds;
  whole = tt;
  front = rw same (front_none _ before);
}

-- a query that takes no memory fails as one that does
pub ends_as : (result : Result (Unit {0}) QueryFault) (dev dev' out out' : ℕ) → Fails result dev dev' out out' → QueryEnds result dev dev' out out'
ends_as (Ok done) dev dev' out out' fails = fails
ends_as (Err Memory) dev dev' out out' fails = absurd fails
ends_as (Err Device) dev dev' out out' fails = fails
ends_as (Err Sink) dev dev' out out' fails = fails

-- a query isn't started where the check of what it takes fails
pub starts_as : (fault : CheckFault) (dev dev' : ℕ) → CountsCheckFault {R = Unit {0}} (Err fault) dev dev' → StartFails {T = Unit {0}} (Err (fault_of_check fault)) dev dev'
starts_as check.Memory dev dev' fails = fails
starts_as check.Device dev dev' fails = fails
