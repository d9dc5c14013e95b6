-- Words of a line, as the code looks at them.
use Rattle.std.proofs.Common.{◌≡◌, inl, inr, ℕ, ◌+◌, ◌*◌, ◌-◌, ◌^◌, ◌≤◌, ◌<◌, Bool, true, false, ◌&&◌, ltb, if◌then◌else◌, List, [], ◌∷◌, ◌++◌, length, length-drop, take, drop, get_or, refl, ap, sym, subst, ◌∙◌, arith, Option, Some, None}
use Rattle.std.proofs.lemmas.Bool.{cases_Bool, ne_eqb, true≢false}
use Rattle.std.proofs.lemmas.Grind.{pow_more}
use Rattle.std.proofs.lemmas.Bool.Decides.{nat_tests, Decides-ltb}
use Rattle.std.proofs.lemmas.List.{take_all, append-nil}
use Rattle.std.proofs.lemmas.List.Folds.{list_all_more, list_all_at}
use Rattle.std.proofs.lemmas.Option.{none-some, same_Some}
use Rattle.std.proofs.lemmas.Str.Parse.{digits_value-take-le}
use Rattle.std.proofs.lemmas.Int.Digits.{digits_value_more}
use Rattle.std.specs.Char.{is_ascii_digit, digit_value}
use Rattle.std.specs.List.{list_all}
use Rattle.std.specs.Str.{all_ascii_digits, bytes_eq}
use Rattle.std.specs.Str.Parse.{digits_value}
use Rattle.std.proofs.Math.Nat.{pow-le-pow_right}
use Rattle.std.proofs.lemmas.Slice.Eq.{bytes_eq-Decides}
use Rattle.pd_grammar.specs.Texts.{split, is_canonical, number_of, bytes_of}
use Rattle.pd_grammar.proofs.WordLemmas.{Lacks, split-cut, split-one, both}
use Rattle.pd_lines.proofs.ReaderLemmas.{cut_at}
use Rattle.pd_texts.specs.Words.{first_word}

pub word_cut : (xs : List ℕ) (i at : ℕ) → i < length xs → get_or xs i 0 ≡ at → Lacks at (take i xs)
    → split at xs ≡ take i xs ∷ split at (take (length xs - (i + 1)) (drop (i + 1) xs))
word_cut xs i at within space lacks =
    let rest : take (length xs - (i + 1)) (drop (i + 1) xs) ≡ drop (i + 1) xs =
    take_all (length xs - (i + 1)) (drop (i + 1) xs) (omega (arith, length-drop (i + 1) xs)) in
    let whole : xs ≡ take i xs ++ (at ∷ drop (i + 1) xs) =
    sym (append-nil xs) ∙ cut_at xs [] i at within space ∙ ap (λ (ys : List ℕ). take i xs ++ (at ∷ ys)) (append-nil (drop (i + 1) xs)) in
    rw rest (ap (split at) whole ∙ split-cut at (take i xs) (drop (i + 1) xs) lacks)

pub word_whole : (xs : List ℕ) (i at : ℕ) → length xs ≤ i → Lacks at (take i xs) → split at xs ≡ xs ∷ []
word_whole xs i at past lacks =
    let P : List ℕ → Type 0 = Lacks at in
    split-one at xs (subst P (take_all i xs past) lacks)

-- digits
all_digits : (xs : List ℕ) → all_ascii_digits xs ≡ list_all is_ascii_digit xs
all_digits [] = refl
all_digits (x ∷ xs) = rw (all_digits xs) refl

digit_is : (b : ℕ) → is_ascii_digit b ≡ true → digit_value b ≡ b - 48
digit_is b digit = grind (arith, nat_tests, digit)

abbrev pub digits_read : List ℕ → Option ℕ
digits_read word = if all_ascii_digits word && ltb (digits_value 10 word) (2 ^ 64) then Some (digits_value 10 word) else None

abbrev pub digit_read : ℕ → ℕ → Option ℕ
digit_read value b = if is_ascii_digit b && ltb (value * 10 + (b - 48)) (2 ^ 64) then Some (value * 10 + (b - 48)) else None

not_taken : (b : Bool) (x : ℕ) → (if b then Some x else None) ≡ None → b ≡ false
not_taken true x e = absurd (none-some x (sym e))
not_taken false x e = refl

is_taken : (b : Bool) (x y : ℕ) → (if b then Some x else None) ≡ Some y → (b ≡ true) × (x ≡ y)
is_taken true x y e = (refl, same_Some x y e)
is_taken false x y e = absurd (none-some y e)

not_both : (b : Bool) (x : ℕ) → None ≡ (if b && false then Some x else None)
not_both true x = refl
not_both false x = refl

pub digits_fail : (word : List ℕ) (i value : ℕ) → i < length word → digits_value 10 (take i word) ≡ value
    → digit_read value (get_or word i 0) ≡ None → None ≡ digits_read word
digits_fail word i value within sofar e =
    let b = get_or word i 0 in
    let fails = not_taken (is_ascii_digit b && ltb (value * 10 + (b - 48)) (2 ^ 64)) (value * 10 + (b - 48)) e in
    elim (cases_Bool (is_ascii_digit b)) [
      | inr other ↦ let all : all_ascii_digits word ≡ false = all_digits word ∙ list_all_at is_ascii_digit word i 0 within other in rw all refl
      | inl digit ↦
          let large : ltb (value * 10 + (b - 48)) (2 ^ 64) ≡ false = rw digit at fails in
          let more : digits_value 10 (take (i + 1) word) ≡ value * 10 + (b - 48) =
          digits_value_more 10 word i within ∙ rw (sofar, digit_is b digit) refl in
          let past : 2 ^ 64 ≤ value * 10 + (b - 48) = grind (arith, nat_tests, large) in
          let big : 2 ^ 64 ≤ digits_value 10 word = omega (arith, digits_value-take-le 10 word (i + 1) (omega arith), more, past) in
          let test : ltb (digits_value 10 word) (2 ^ 64) ≡ false = grind (arith, nat_tests, big) in
          rw test (not_both (all_ascii_digits word) (digits_value 10 word))
    ]

pub digits_next : (word : List ℕ) (i value next : ℕ) → i < length word → all_ascii_digits (take i word) ≡ true → digits_value 10 (take i word) ≡ value
    → digit_read value (get_or word i 0) ≡ Some next
    → (all_ascii_digits (take (i + 1) word) ≡ true) × ((digits_value 10 (take (i + 1) word) ≡ next) × (next < 2 ^ 64))
digits_next word i value next within all sofar e =
    let b = get_or word i 0 in
    let taken = is_taken (is_ascii_digit b && ltb (value * 10 + (b - 48)) (2 ^ 64)) (value * 10 + (b - 48)) next e in
    let tests = both (is_ascii_digit b) (ltb (value * 10 + (b - 48)) (2 ^ 64)) taken.0 in
    let digit = tests.0 in
    let fits : next < 2 ^ 64 = rw (← taken.1) ((Decides-ltb (value * 10 + (b - 48)) (2 ^ 64)).0 tests.1) in
    let list : list_all is_ascii_digit (take i word) ≡ true = sym (all_digits (take i word)) ∙ all in (
      all_digits (take (i + 1) word) ∙ list_all_more is_ascii_digit word i 0 within ∙ rw (list, digit) refl,
      (digits_value_more 10 word i within ∙ rw (sofar, digit_is b digit) taken.1, fits),
    )

pub digits_end : (word : List ℕ) (i value : ℕ) → length word ≤ i → value < 2 ^ 64 → all_ascii_digits (take i word) ≡ true → digits_value 10 (take i word) ≡ value
    → Some value ≡ digits_read word
digits_end word i value past fits all sofar =
    let whole = take_all i word past in
    let digits : all_ascii_digits word ≡ true = ap all_ascii_digits (sym whole) ∙ all in
    let number : digits_value 10 word ≡ value = ap (digits_value 10) (sym whole) ∙ sofar in
    let test : ltb value (2 ^ 64) ≡ true = (Decides-ltb value (2 ^ 64)).1 fits in
    rw (digits, number, test) refl

pub digit_low : (b : ℕ) → is_ascii_digit b ≡ true → b - 48 < 10
digit_low b digit = grind (arith, nat_tests, digit)

-- a digit more
pub digit_more : (word : List ℕ) (i value : ℕ) → i < length word → all_ascii_digits (take i word) ≡ true → digits_value 10 (take i word) ≡ value → value < 10 ^ i
    → is_ascii_digit (get_or word i 0) ≡ true
    → (all_ascii_digits (take (i + 1) word) ≡ true) × ((digits_value 10 (take (i + 1) word) ≡ value * 10 + (get_or word i 0 - 48)) × (value * 10 + (get_or word i 0 - 48) < 10 ^ (i + 1)))
digit_more word i value within all sofar low digit =
    let b = get_or word i 0 in
    let list : list_all is_ascii_digit (take i word) ≡ true = sym (all_digits (take i word)) ∙ all in
    let most = digit_low b digit in (
      all_digits (take (i + 1) word) ∙ list_all_more is_ascii_digit word i 0 within ∙ rw (list, digit) refl,
      (digits_value_more 10 word i within ∙ rw (sofar, digit_is b digit) refl, omega (arith, most, low, pow_more 10 i)),
    )

-- 18 digits and one more fit
pub digits_fit : (value i : ℕ) → value < 10 ^ i → i < 19 → value < 10 ^ 18
digits_fit value i low few = omega (arith, low, pow-le-pow_right {n = 10} (omega arith) {i = i} {j = 18} (omega arith))

-- a byte that isn't a digit isn't among digits
lacks_digits : (at : ℕ) → is_ascii_digit at ≡ false → (word : List ℕ) → all_ascii_digits word ≡ true → Lacks at word
lacks_digits at other [] all = tt
lacks_digits at other (b ∷ word) all =
    let parts = both (is_ascii_digit b) (all_ascii_digits word) all in
    (ne_eqb b at (λ same. true≢false (sym parts.0 ∙ ap is_ascii_digit same ∙ other)), lacks_digits at other word parts.1)

-- the number of digits without a leading zero
pub digits_are : (word : List ℕ) (value : ℕ) → is_canonical word ≡ true → digits_value 10 word ≡ value → value < 2 ^ 64 → Some value ≡ number_of word
unfolding number_of
digits_are word value canonical is fits =
    let test : ltb value (2 ^ 64) ≡ true = (Decides-ltb value (2 ^ 64)).1 fits in
    rw (canonical, is, test) refl

-- a word of digits, up to a space or to the end
pub cut_digits : (xs : List ℕ) (i : ℕ) → i < length xs → get_or xs i 0 ≡ 32 → all_ascii_digits (take i xs) ≡ true
    → split 32 xs ≡ take i xs ∷ split 32 (take (length xs - (i + 1)) (drop (i + 1) xs))
cut_digits xs i within space all = word_cut xs i 32 within space (lacks_digits 32 refl (take i xs) all)

pub whole_digits : (xs : List ℕ) (i : ℕ) → i ≡ length xs → all_ascii_digits (take i xs) ≡ true → split 32 xs ≡ take i xs ∷ []
whole_digits xs i end all = word_whole xs i 32 (omega arith) (lacks_digits 32 refl (take i xs) all) ∙ ap (λ (ys : List ℕ). ys ∷ []) (sym (take_all i xs (omega arith)))

-- the first word, and its number
pub first_is : (bytes word : List ℕ) (words : List (List ℕ)) → split 32 bytes ≡ word ∷ words → split 32 bytes ≡ first_word bytes ∷ words
first_is bytes word words e = rw e refl

pub first_number : (bytes word : List ℕ) (words : List (List ℕ)) (o : Option ℕ) → split 32 bytes ≡ word ∷ words → o ≡ number_of word → o ≡ number_of (first_word bytes)
first_number bytes word words o e is = is ∙ ap number_of (sym (ap (λ (ws : List (List ℕ)). get_or ws 0 []) e))

-- Words that are identifiers, as the code reads them.

-- sixteen bytes in a form
swapped : (a b : List ℕ) → false ≡ bytes_eq b a → bytes_eq a b ≡ false
swapped a b differ = elim (cases_Bool (bytes_eq a b)) [
  | inr e ↦ e
  | inl e ↦ absurd (true≢false (sym ((bytes_eq-Decides b a).1 (sym ((bytes_eq-Decides a b).0 e))) ∙ sym differ))
]

-- a word that isn't in its form, and one that isn't parsed
pub other_bytes : (read : List ℕ → Option (List ℕ)) (form : List ℕ → List ℕ) (word bytes text : List ℕ) → Some bytes ≡ read word → text ≡ form bytes → false ≡ bytes_eq text word → None ≡ bytes_of read form word
unfolding bytes_of
other_bytes read form word bytes text is same differ =
    let test : bytes_eq word (form bytes) ≡ false = swapped word (form bytes) (rw same at differ) in
    rw (← is, test) refl

unparsed : (read : List ℕ → Option (List ℕ)) (form : List ℕ → List ℕ) (o : Option (List ℕ)) (word : List ℕ) → o ≡ read word → (((u : List ℕ) × (read word ≡ Some u)) → ⊥) → None ≡ bytes_of read form word
unfolding bytes_of
unparsed read form None word is none = rw (← is) refl
unparsed read form (Some u) word is none = absurd (none (u, sym is))

pub no_bytes : (read : List ℕ → Option (List ℕ)) (form : List ℕ → List ℕ) (word : List ℕ) → (((u : List ℕ) × (read word ≡ Some u)) → ⊥) → None ≡ bytes_of read form word
no_bytes read form word none = unparsed read form (read word) word refl none
