-- What a reader makes of the bytes that it holds.
use borrow.Rule.Slice.PartMut.{put_mid}
use lib.Count.{count_trailing_zeros}
use lib.Lanes.{chunk, mask_l, top, zip2}
use Rattle.std.proofs.Common.{◌≡◌, inl, inr, ℕ, suc, ◌+◌, ◌≤◌, ◌<◌, Bool, true, false, leb, List, [], ◌∷◌, ◌++◌, length, length-append, length-take, take, drop, get_or, refl, ap, sym, subst, ◌∙◌, append_assoc, arith, Option, Some, Result, Ok, Err, drop-cons, ◌-◌, slice_range, None, length-take-le, min, IfOk, IfSome, ◌≢◌, ◌%◌, ◌^◌, not, map, replicate, Fits, w8}
use Rattle.std.proofs.lemmas.Bool.{cases_Bool, agree_below, agree_below_at, not-false, not-true, true≢false, cases_lt}
use Rattle.std.proofs.lemmas.Bool.Decides.{nat_tests}
use Rattle.std.proofs.lemmas.List.{take_all, take-append-drop, take-append-le, append-nil, drop-take, drop-drop, length-map, get_or-take}
use Rattle.std.proofs.lemmas.Option.{same_Some, none-some}
use Rattle.std.specs.List.{list_all, prefix_len}
use Rattle.std.proofs.Math.Seq.{take-append-add}
use Rattle.std.proofs.Math.Nat.{sub-zero}
use Rattle.std.proofs.lemmas.List.Elements.{All-from_get_or}
use Rattle.std.proofs.lemmas.List.Folds.{list_all_at}
use Rattle.std.proofs.lemmas.List.Sums.{list_all-from_AllPass}
use Rattle.std.proofs.lemmas.Simd.{map-map, zip2_splat, zip2_splat_left, mask_l-mod, length-chunk, leading_from_mask_l, trailing_mask_l, run_in_chunk_le, run_in_chunk_fails, run_in_chunk_stops}
use Rattle.pd_grammar.specs.Texts.{is_printable}
use Rattle.pd_grammar.proofs.WordLemmas.{both}
use Rattle.pd_image.specs.Source.{TakesBytes}
use Rattle.pd_lines.specs.declared.reader.LineFault.{LineFault}
use Rattle.pd_lines.specs.declared.reader.LineFault.TheVariants.{TooLong, Unended}
use Rattle.pd_lines.specs.Front.{Moves, IsUnbroken, EndsLine, LineText, IsRun, IsRunIn}
use Rattle.pd_lines.specs.Reader.{Reads, ReadsLine, IsNotText, answered}

-- more than a line may have, and no line feed
too_long : (held left : List ℕ) → 160 < length held → IsUnbroken (take 161 held) → (161 ≤ length (held ++ left)) × IsUnbroken (take 161 (held ++ left))
too_long held left long unbroken =
    let P : List ℕ → Type 0 = IsUnbroken in
    (omega (arith, length-append held left), subst P (sym (take-append-le 161 held left (omega arith))) unbroken)

unbroken_all : (held : List ℕ) → length held ≤ 160 → IsUnbroken (take 161 held) → IsUnbroken held
unbroken_all held short unbroken =
    let P : List ℕ → Type 0 = IsUnbroken in
    subst P (take_all 161 held (omega arith)) unbroken

-- the bytes before and after a byte
pub cut_at : (xs left : List ℕ) (end at : ℕ) → end < length xs → get_or xs end 0 ≡ at → xs ++ left ≡ take end xs ++ (at ∷ (drop (end + 1) xs ++ left))
cut_at xs left end at within feed =
    let rest : drop end xs ≡ at ∷ drop (suc end) xs = drop-cons xs end 0 within ∙ ap (λ (b : ℕ). b ∷ drop (suc end) xs) feed in
    let next : end + 1 ≡ suc end = omega arith in
    rw next (ap (λ (ys : List ℕ). ys ++ left) (sym (take-append-drop end xs)) ∙ append_assoc (take end xs) (drop end xs) left ∙ ap (λ (ys : List ℕ). take end xs ++ (ys ++ left)) rest)

-- the line that is held
pub held_line : (xs left line : List ℕ) (end number : ℕ) → EndsLine xs end → line ≡ take end xs → list_all is_printable line ≡ true
    → ReadsLine (record { number = number; bytes = line }) number (xs ++ left) (drop (end + 1) xs) (Some left)
held_line xs left line end number ends is printable = record {
  rest = left;
  left_is = refl;
  text_is = rw is (cut_at xs left end 10 ends.within ends.feed);
  short = rw is (omega (arith, ends.short, length-take end xs));
  printable = printable;
  number_is = refl;
}

-- a line with a byte that it may not have
pub not_text : (xs left : List ℕ) (end : ℕ) → EndsLine xs end → list_all is_printable (take end xs) ≡ false → IsNotText (xs ++ left)
not_text xs left end ends other = record {
  bytes = take end xs;
  rest = drop (end + 1) xs ++ left;
  text_is = cut_at xs left end 10 ends.within ends.feed;
  unbroken = ends.unbroken;
  short = omega (arith, ends.short, length-take end xs);
  other = other;
}

-- what is read of the bytes that are held and left is read of the text that they are
pub reads_moved : (result : Result (Option LineText) LineFault) (number : ℕ) (before mid held left : List ℕ) (start now : Option (List ℕ))
    → Moves before mid start now → start ≡ Some left
    → ((more : List ℕ) → Reads result number (mid ++ more) held (Some more)) → Reads result number (before ++ left) held now
reads_moved result number before mid held left start now moves e reads =
    let moved = moves.told left e in
    let P : List ℕ → Type 0 = λ text. Reads result number text held now in
    let Q : Option (List ℕ) → Type 0 = λ after. Reads result number (mid ++ moved.0) held after in
    subst P moved.1.1 (subst Q (sym moved.1.0) (reads moved.0))

-- nothing more comes, and no line feed is held
last_bytes : (count : ℕ) (line : List ℕ) (result : Result Bool LineFault) (number : ℕ) (held : List ℕ)
    → (1 ≤ length held → length held ≤ 160 → result ≡ Err (Unended number)) → (held ≡ [] → result ≡ Ok false)
    → length held ≤ 160 → IsUnbroken held → Reads (answered count line result) number held held (Some [])
last_bytes count line result number [] unended end short unbroken = rw (end refl) (refl, (refl, refl))
last_bytes count line result number (b ∷ held) unended end short unbroken =
    rw (unended (omega arith) short) (refl, (omega arith, (short, unbroken)))

long_bytes : (count : ℕ) (line : List ℕ) (result : Result Bool LineFault) (number : ℕ) (held more : List ℕ) (after : Option (List ℕ))
    → result ≡ Err (TooLong number) → 160 < length held → IsUnbroken (take 161 held) → Reads (answered count line result) number (held ++ more) held after
long_bytes count line result number held more after is long unbroken = rw is (refl, too_long held more long unbroken)

-- what is read where no line feed is found
pub reads_end : (count : ℕ) (line : List ℕ) (result : Result Bool LineFault) (number : ℕ) (before held left : List ℕ) (start now : Option (List ℕ))
    → Moves before held start now → start ≡ Some left
    → (160 < length held → result ≡ Err (TooLong number))
    → (1 ≤ length held → length held ≤ 160 → result ≡ Err (Unended number))
    → (held ≡ [] → result ≡ Ok false)
    → IsUnbroken (take 161 held)
    → (length held ≤ 160 → now ≡ Some [])
    → Reads (answered count line result) number (before ++ left) held now
reads_end count line result number before held left start now moves e long unended end unbroken none =
    let moved = moves.told left e in
    let P : List ℕ → Type 0 = λ text. Reads (answered count line result) number text held now in
    elim (cases_Bool (leb (length held) 160)) [
      | inl few ↦
          let short : length held ≤ 160 = grind (arith, nat_tests) in
          let nothing : moved.0 ≡ [] = same_Some moved.0 [] (sym moved.1.0 ∙ none short) in
          let text : held ≡ before ++ left = sym (append-nil held) ∙ ap (λ (ys : List ℕ). held ++ ys) (sym nothing) ∙ moved.1.1 in
          let Q : Option (List ℕ) → Type 0 = λ after. Reads (answered count line result) number held held after in
          subst P text (subst Q (sym (none short)) (last_bytes count line result number held unended end short (unbroken_all held short unbroken)))
      | inr many ↦
          let past : 160 < length held = grind (arith, nat_tests) in
          subst P moved.1.1 (long_bytes count line result number held moved.0 now (long past) past unbroken)
    ]

-- Bytes that are held in a buffer.

pub skipped : (xs : List ℕ) (start end n : ℕ) → start + n ≤ end → slice_range xs (start + n) end ≡ drop n (slice_range xs start end)
skipped xs start end n within =
    let rest = end - (start + n) in
    let split : n + rest ≡ end - start = omega arith in
    rw (← drop-drop n start xs) (sym (rw (← split) (drop-take n rest (drop start xs))))

-- bytes written after the first ones
pub take_put : (a k n : ℕ) (xs ys : List ℕ) → a ≤ length xs → n ≤ length ys → take (a + n) (put_mid a k xs ys) ≡ take a xs ++ take n ys
take_put a k n xs ys within short =
    let front : length (take a xs) ≡ a = length-take-le a xs within in
    let tail = ys ++ drop (a + k) xs in
    let whole : put_mid a k xs ys ≡ take a xs ++ tail = ap (λ (zs : List ℕ). take a xs ++ (ys ++ zs)) (drop-drop k a xs) in
    rw whole (ap (λ (i : ℕ). take (i + n) (take a xs ++ tail)) (sym front) ∙ take-append-add (take a xs) tail n ∙ ap (λ (zs : List ℕ). take a xs ++ zs) (take-append-le n ys (drop (a + k) xs) short))

IfSome-at : (o : Option (List ℕ)) (x : List ℕ) (P : List ℕ → Type 0) → o ≡ Some x → IfSome o P → P x
IfSome-at None x P e h = absurd (none-some x e)
IfSome-at (Some y) x P e h = subst P (same_Some y x e) h

taken_at_end : (n : ℕ) (ys left : List ℕ) (before now : Option (List ℕ)) → IfSome before (TakesBytes n ys now) → before ≡ Some left → n ≡ 0 → now ≡ Some []
taken_at_end n ys left before now takes e none =
    let got = IfSome-at before left (TakesBytes n ys now) e takes in
    got.rest ∙ rw (got.only_at_end none, none) refl

pub end_if_none : {E : Type 0} → (r : Result ℕ E) (ys : List ℕ) (before now : Option (List ℕ)) → IfOk r (λ n. IfSome before (TakesBytes n ys now))
    → IfOk r (λ n. n ≡ 0 → (left : List ℕ) → before ≡ Some left → now ≡ Some [])
end_if_none (Ok n) ys before now takes = λ none left e. taken_at_end n ys left before now takes e none
end_if_none (Err e) ys before now takes = tt

-- bytes were taken after those that are held
pub filled_moves : (a k n : ℕ) (held xs ys : List ℕ) (before now : Option (List ℕ)) → a ≤ length xs → n ≤ length ys → take a xs ≡ held
    → IfSome before (TakesBytes n ys now) → Moves held (take (a + n) (put_mid a k xs ys)) before now
filled_moves a k n held xs ys before now within short same takes = record {
  told = λ left e.
      let got = IfSome-at before left (TakesBytes n ys now) e takes in (
        drop n left,
        (
          got.rest,
          rw (take_put a k n xs ys within short, same, got.moved)
              (append_assoc held (take n left) (drop n left) ∙ ap (λ (zs : List ℕ). held ++ zs) (take-append-drop n left)),
        ),
      );
}

pub skip_within : (xs : List ℕ) (start end n : ℕ) → start ≤ end → n ≤ length (slice_range xs start end) → start + n ≤ end
skip_within xs start end n order within = omega (arith, length-take (end - start) (drop start xs))

-- what a call of `take` gives after the bytes that are held
pub moves_if_taken : {E : Type 0} → (r : Result ℕ E) (a k : ℕ) (held xs ys : List ℕ) (before now : Option (List ℕ)) → a ≤ length xs → take a xs ≡ held
    → IfOk r (λ n. n ≤ length ys) → IfOk r (λ n. IfSome before (TakesBytes n ys now))
    → IfOk r (λ n. Moves held (slice_range (put_mid a k xs ys) 0 (a + n)) before now)
moves_if_taken (Ok n) a k held xs ys before now within same short takes = simp sub-zero (filled_moves a k n held xs ys before now within short same takes)
moves_if_taken (Err e) a k held xs ys before now within same short takes = tt

-- the first bytes of what is shorter are all
pub take_most : (xs : List ℕ) (i n : ℕ) → i ≡ min (length xs) n → take i xs ≡ take n xs
take_most xs i n e = elim (cases_Bool (leb n (length xs))) [
  | inl few ↦ let same : i ≡ n = grind (arith, nat_tests) in rw same refl
  | inr many ↦ let all : length xs ≤ i = grind (arith, nat_tests) in let more : length xs ≤ n = grind (arith, nat_tests) in take_all i xs all ∙ sym (take_all n xs more)
]

-- The bytes that one step looks at, and what they say of a line.

-- the mask of 32 bytes has a bit for each that isn't printable
module _ (above_32 is_past : ℕ → ℕ → ℕ) (d : List ℕ) (i m : ℕ) (room : i + 32 ≤ length d) (fits : (k : ℕ) → Fits w8 (get_or d k 0))
    (mask : m ≡ mask_l (map (top 7) (zip2 is_past (replicate 32 94) (zip2 above_32 (chunk i 32 d) (replicate 32 32)))) % 2 ^ 64)
    (same : agree_below (λ x. top 7 (is_past 94 (above_32 x 32))) (λ x. not (is_printable x)) 256 ≡ true) where
  abbrev stops : ℕ → Bool
  stops x = top 7 (is_past 94 (above_32 x 32))

  long : length (chunk i 32 d) ≡ 32
  long = length-chunk i 32 d room

  mask_is : m ≡ mask_l (map stops (chunk i 32 d))
  mask_is =
      let v = chunk i 32 d in
      let above = zip2_splat above_32 v 32 32 long in
      let past = ap (zip2 is_past (replicate 32 94)) above ∙ zip2_splat_left is_past 94 32 (map (λ x. above_32 x 32) v) (length-map v (λ x. above_32 x 32) ∙ long) in
      let lanes = ap (map (top 7)) (past ∙ map-map (is_past 94) (λ x. above_32 x 32) v) ∙ map-map (top 7) (λ x. is_past 94 (above_32 x 32)) v in
      mask ∙ ap (λ l. mask_l l % 2 ^ 64) lanes ∙ mask_l-mod (map stops v) 64 (omega (arith, length-map v stops, long))

  at : (k : ℕ) → stops (get_or d k 0) ≡ not (is_printable (get_or d k 0))
  at k = agree_below_at stops (λ x. not (is_printable x)) 256 (get_or d k 0) same (fits k).fits

  run_of : (r : ℕ) → r ≡ prefix_len (λ x. not (stops x)) (chunk i 32 d) → IsRunIn d i 32 r
  run_of r counted = record {
    within = run_in_chunk_le stops d i 32 r 0 room counted;
    text = λ k from to. not-false _ (sym (at k) ∙ run_in_chunk_fails stops d i 32 r 0 room counted k from to);
    other = λ short. not-true _ (sym (at (i + r)) ∙ run_in_chunk_stops stops d i 32 r 0 room counted short);
  }

  pub whole_run : m ≡ 0 → IsRunIn d i 32 32
  whole_run none = run_of 32 (sym (leading_from_mask_l stops (chunk i 32 d) (sym mask_is ∙ none) ∙ long))

  pub part_run : m ≢ 0 → IsRunIn d i 32 (count_trailing_zeros 64 m)
  part_run some = run_of (count_trailing_zeros 64 m) (ap (count_trailing_zeros 64) mask_is ∙ trailing_mask_l stops 64 (chunk i 32 d) (omega (arith, long)) (omega (arith, some, mask_is)))

-- a run of printable bytes from the first on
text_of : (bytes : List ℕ) (len : ℕ) → IsRun bytes 0 len → list_all is_printable (take len bytes) ≡ true
text_of bytes len run =
    list_all-from_AllPass is_printable (take len bytes) (All-from_get_or (λ b. is_printable b ≡ true) (take len bytes) 0
    (λ k low. let few : k < len = omega (arith, length-take len bytes) in rw (get_or-take len bytes k 0 few) (run.text k (omega arith) few)))

unbroken : (bytes : List ℕ) → list_all is_printable bytes ≡ true → IsUnbroken bytes
unbroken [] text = tt
unbroken (b ∷ bytes) text =
    let parts = both (is_printable b) (list_all is_printable bytes) text in
    (λ feed. true≢false (sym parts.0 ∙ ap is_printable feed), unbroken bytes parts.1)

pub line_is : (bytes : List ℕ) (len : ℕ) → IsRun bytes 0 len → len ≤ 160 → len < length bytes → get_or bytes len 0 ≡ 10
    → EndsLine bytes len × (list_all is_printable (take len bytes) ≡ true)
line_is bytes len run short within feed = (record { within = within; short = short; unbroken = unbroken (take len bytes) (text_of bytes len run); feed = feed }, text_of bytes len run)

-- where the first line feed is elsewhere, a byte before it is another
pub other_is : (bytes : List ℕ) (len end : ℕ) → IsRun bytes 0 len → EndsLine bytes end → len ≢ end → list_all is_printable (take end bytes) ≡ false
other_is bytes len end run ends differ = elim (cases_lt len end) [
  | inl before ↦
      let other = run.other (omega (arith, before, ends.within)) in
      list_all_at is_printable (take end bytes) len 0 (omega (arith, before, ends.within, length-take end bytes)) (rw (get_or-take end bytes len 0 before) other)
  | inr after ↦
      let past : end < len = omega arith in
      absurd (true≢false (sym (run.text end (omega arith) past) ∙ ap is_printable ends.feed))
]
