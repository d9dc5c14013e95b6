-- Text that is printed part by part, up to what is left of it.
use Rattle.std.proofs.Common.{◌≡◌, ℕ, ◌+◌, ◌-◌, ◌^◌, ◌<◌, take, drop, length, map, Bool, true, false, List, [], ◌++◌, Option, None, Some, IfSome, Result, Ok, Err, refl, sym, ap, ◌∙◌, subst, append_assoc, arith}
use Rattle.std.specs.Result.{IsErr}
use Rattle.std.proofs.lemmas.List.{append-nil, drop-drop, length-drop, map-append, take-append-drop}
use Rattle.std.proofs.Math.Seq.{take-length}
use Rattle.pd_kinds.proofs.ResultLemmas.{if_any}
use Rattle.pd_lines.specs.Printing.{Begun, Printing, Prints}
use Rattle.pd_lines.proofs.Printing.{begun_after, printed_both, printed_none}
use Rattle.pd_meaning_era.specs.declared.eras.Eras.{Eras}
use Rattle.pd_meaning_era.specs.Parts.{CountsPart, CountsSome, TakesPart, eras_left}
use Rattle.pd_query.specs.Query.{PrintsSome}
use Rattle.pd_query.proofs.QueryLemmas.{PrintsSoFar, one_told, prints_known, so_far_all, so_far_lost, so_far_more}
use Rattle.pd_dumps.specs.EraLines.{PrintsFront, PrintsUpTo}

-- the eras from a place on, as a slice has them
rest_from : (eras : List ℕ) (at : ℕ) → take (length eras - at) (drop at eras) ≡ drop at eras
rest_from eras at = rw (← length-drop at eras) (take-length (drop at eras))

-- what they count as is cut after some of them
pub cut_at : (f : ℕ → ℕ) (eras later : List ℕ) (at n : ℕ) → map f (drop at eras) ++ later ≡ map f (take n (take (length eras - at) (drop at eras))) ++ (map f (drop (at + n) eras) ++ later)
cut_at f eras later at n = rw (rest_from eras at)
    (ap (λ (xs : List ℕ). map f xs ++ later) (sym (take-append-drop n (drop at eras)) ∙ ap (λ (xs : List ℕ). take n (drop at eras) ++ xs) (drop-drop n at eras))
    ∙ (ap (λ (xs : List ℕ). xs ++ later) (map-append f (take n (drop at eras)) (drop (at + n) eras))
    ∙ append_assoc (map f (take n (drop at eras))) (map f (drop (at + n) eras)) later))

-- nothing was printed, and the same text is left
pub front_none : {whole left : List ℕ} (now : Printing) → whole ≡ left → PrintsFront whole left now now
front_none now same = record { front = []; cut = same; printed = printed_none now }

-- a front, and then the front of what was left, which is this in other words
pub front_more : (text : List ℕ → List ℕ) {whole left xs ys : List ℕ} {old then new : Printing} → PrintsFront whole (text xs) old then → xs ≡ ys → PrintsFront (text ys) left then new → PrintsFront whole left old new
front_more text {left = left} one same two = record {
  front = one.front ++ two.front;
  cut = one.cut ∙ (ap (λ (zs : List ℕ). one.front ++ zs) (ap text same ∙ two.cut) ∙ sym (append_assoc one.front two.front left));
  printed = printed_both one.printed two.printed;
}

-- or a front of that
pub front_lost : (text : List ℕ → List ℕ) {whole xs ys : List ℕ} {old then new : Printing} → PrintsFront whole (text xs) old then → xs ≡ ys → Begun (text ys) then new → Begun whole old new
front_lost text one same begun = rw (one.cut, ap text same) (begun_after one.printed begun)

-- work that failed, whatever the fault
pub up_to_lost : {E : Type 0} {whole : List ℕ} (left : List ℕ) {old new : Printing} (result : Result (Unit {0}) E) → IsErr result → Begun whole old new → PrintsUpTo whole left result old new
up_to_lost left (Ok done) failed begun = absurd (cc (failed))
up_to_lost left (Err fault) failed begun = begun

-- what is left of the eras where a part was taken, and where there was none
pub part_taken : (f : ℕ → ℕ) (held : Option (List (List ℕ))) {more : Bool} (old new : Eras) (part : List ℕ) → more ≡ true → part ≡ new.part.items → IfSome held (λ image. TakesPart image more old new)
    → IfSome held (λ image. map f (eras_left image old) ≡ map f part ++ map f (eras_left image new))
part_taken f held {more} old new part is same taken = one_told held
    (λ image takes.
    ap (map f) ((subst (λ (m : Bool). TakesPart image m old new) is takes).part ∙ ap (λ (xs : List ℕ). xs ++ eras_left image new) (sym same)) ∙ map-append f part (eras_left image new)) taken

pub none_taken : (f : ℕ → ℕ) (held : Option (List (List ℕ))) {more : Bool} (old new : Eras) → more ≡ false → IfSome held (λ image. TakesPart image more old new) → IfSome held (λ image. map f (eras_left image old) ≡ [])
none_taken f held {more} old new is taken = one_told held (λ image takes. ap (map f) (subst (λ (m : Bool). TakesPart image m old new) is takes).none) taken

-- how many blocks are left then
pub part_counted : {more : Bool} (old new : Eras) → more ≡ true → CountsPart more old new → CountsSome old new
part_counted {more} old new is counts = subst (λ (m : Bool). CountsPart m old new) is counts

-- the blocks that were taken and those that are left fit together, as before
pub still_few : (end taken later left : ℕ) (part items : List ℕ) → part ≡ items → taken ≡ end + length part → length items + later ≡ left → end + left < 2 ^ 32 → taken + later < 2 ^ 32
still_few end taken later left part items same number counted few = let one : length part ≡ length items = ap length same in omega arith

-- a part was printed, up to what is left with the later parts
pub part_more : (held : Option (List (List ℕ))) {whole earlier left : List (List ℕ) → List ℕ} (before after : List ℕ → List ℕ) (part : List ℕ) {old mid new : Printing}
    → PrintsSoFar held whole (λ image. before (earlier image)) old mid → IfSome held (λ image. earlier image ≡ part ++ left image)
    → ((later : List ℕ) → PrintsFront (before (part ++ later)) (after later) mid new)
    → PrintsSoFar held whole (λ image. after (left image)) old new
part_more None before after part so_far cut fronts = record { text = so_far.text ++ (fronts []).front; told = tt; printed = printed_both so_far.printed (fronts []).printed }
part_more (Some image) {left = left} before after part so_far cut fronts =
    let more = fronts (left image) in
    record {
      text = so_far.text ++ more.front;
      told = so_far.told ∙ (ap (λ (xs : List ℕ). so_far.text ++ xs) (ap before cut ∙ more.cut) ∙ sym (append_assoc so_far.text more.front (after (left image))));
      printed = printed_both so_far.printed more.printed;
    }

-- or a front of it
pub part_lost : (held : Option (List (List ℕ))) {E : Type 0} {fault : E} {whole earlier : List (List ℕ) → List ℕ} (left : List (List ℕ) → List ℕ) (before : List ℕ → List ℕ) (part : List ℕ) {old mid new : Printing}
    → PrintsSoFar held whole (λ image. before (earlier image)) old mid → IfSome held (λ image. earlier image ≡ part ++ left image)
    → ((later : List ℕ) → Begun (before (part ++ later)) mid new)
    → PrintsSome held whole (Err fault) old new
part_lost None left before part so_far cut begun = record { text = so_far.text ++ before (part ++ []); told = tt; prints = begun_after so_far.printed (begun []) }
part_lost (Some image) left before part so_far cut begun = record {
  text = so_far.text ++ before (part ++ left image);
  told = sym (so_far.told ∙ ap (λ (xs : List ℕ). so_far.text ++ xs) (ap before cut));
  prints = begun_after so_far.printed (begun (left image));
}

module _ (held : Option (List (List ℕ))) where
  -- the last run, behind all parts
  pub parts_end : {E : Type 0} (result : Result (Unit {0}) E) {whole left : List (List ℕ) → List ℕ} (after : List ℕ → List ℕ) {old mid new : Printing}
      → PrintsSoFar held whole (λ image. after (left image)) old mid → IfSome held (λ image. left image ≡ []) → Prints (after []) result mid new
      → PrintsSome held whole result old new
  parts_end {E} (Ok done) after so_far none prints =
      so_far_all held done {rest = λ image. []}
      (so_far_more held {E = E} so_far (one_told held (λ image is. ap after is ∙ sym (append-nil (after []))) none) (prints_known held prints)) (if_any held (λ image. refl))
  parts_end (Err fault) after so_far none prints =
      so_far_lost held (λ image. []) so_far (one_told held (λ image is. ap after is ∙ sym (append-nil (after []))) none) (prints_known held prints)
