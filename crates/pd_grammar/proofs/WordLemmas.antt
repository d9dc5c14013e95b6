-- Words that are numbers.
-- Pieces of a text.
-- Words without spaces, and the uuids among them.
-- How long lines of numbers are.
use Rattle.std.proofs.Common.{◌≡◌, ◌⊎◌, inl, inr, ℕ, zero, suc, ◌^◌, ◌<◌, Bool, true, false, not, ◌&&◌, ◌||◌, List, [], ◌∷◌, length, get_or, refl, ap, sym, ◌∙◌, arith, eqb, ltb, decimal, Some, Result, Ok, Err, if◌then◌else◌, ◌≤◌, ◌++◌, ◌+◌, ◌*◌, ◌/◌, ◌%◌, All, leb, Option, None, unwrap_or, length-append, map}
use Rattle.std.proofs.lemmas.Bool.{true≢false, cases_Bool, cases_lt}
use Rattle.std.proofs.lemmas.Bool.Decides.{Decides-ltb, nat_tests, Decides-eqb}
use Rattle.std.proofs.lemmas.Option.{cond_some, none-some, option_and_then_some}
use Rattle.std.proofs.lemmas.Fmt.{decimal-digits_value, digits_decimal, digits_value-decimal, decimal_nonempty, first_decimal, decimal_digit, length-decimal-le}
use Rattle.std.proofs.lemmas.Str.Parse.{IsNumeralModel, numerals_by_value, tells_all_ascii_digits}
use Rattle.std.specs.Str.{all_ascii_digits, bytes_eq}
use Rattle.std.specs.Str.Parse.{digits_value}
use Rattle.std.specs.List.{join_with_byte, AllByRecursion, list_all}
use Rattle.std.proofs.lemmas.List.{get_or_default, get_or_past}
use Rattle.std.proofs.lemmas.Slice.Eq.{bytes_eq-Decides}
use Rattle.std.specs.Char.{is_ascii_digit}
use Rattle.std.specs.Result.{result_ok}
use Rattle.uuid.specs.Text.{by_index, lower, hyphenated_text, parsed, parsed_simple, digits_of, byte_of_digits, value_of, is_hex_digit, nibble, digit_place, is_hyphen_place, hex_digit, has_hyphens}
use Rattle.uuid.proofs.RoundTrips.{parses_hyphenated}
use Rattle.uuid.proofs.TextLemmas.{by_index_length, by_index_at, nibble_small}
use Rattle.hex.specs.Hex.{IsBytes, decode_sized, encode_lower, encode_with, lower_digits}
use Rattle.hex.specs.declared.error.FromHexError.{FromHexError}
use Rattle.hex.proofs.HexLemmas.{length-encode_with, decode_of-encode_lower, decode_of-ok, decode_sized-ok, decode_sized-twice}
use Rattle.pd_grammar.specs.Texts.{is_canonical, number_of, split, with_first, is_printable, bytes_of, uuid_of, policy_of, sixteen_of}

abbrev pub own : IsNumeralModel (λ ds. all_ascii_digits ds ≡ true) (digits_value 10)
own = numerals_by_value (λ ds. all_ascii_digits ds ≡ true) tells_all_ascii_digits

pub ok-err : {X E : Type 0} → (x : X) (e : E) → ◌≡◌ {A = Result X E} (Ok x) (Err e) → ⊥
ok-err x e same = cc

pub same_Ok : {X E : Type 0} → (x y : X) → ◌≡◌ {A = Result X E} (Ok x) (Ok y) → x ≡ y
same_Ok x y same = cc

pub chosen : {X : Type 0} → (b : Bool) (x y z : X) → (if b then x else y) ≡ z → ((b ≡ true) × (x ≡ z)) ⊎ ((b ≡ false) × (y ≡ z))
chosen true x y z e = inl (refl, e)
chosen false x y z e = inr (refl, e)

-- the parts of a test of two tests
pub both : (a b : Bool) → (a && b) ≡ true → (a ≡ true) × (b ≡ true)
both true b e = (refl, e)
both false b e = absurd (true≢false (sym e))

tells : (digits : Bool) (k first : ℕ) → (digits && (ltb 0 k && (not (eqb first 48) || eqb k 1))) ≡ true
    → (digits ≡ true) × ((0 < k) × (first ≡ 48 → k ≡ 1))
tells false k first e = absurd (true≢false (sym e))
tells true k first e = (refl, (grind (arith, nat_tests), λ zero. grind (arith, nat_tests)))

told : (k first : ℕ) → 0 < k → (first ≡ 48 → k ≡ 1) → (ltb 0 k && (not (eqb first 48) || eqb k 1)) ≡ true
told k first some at_zero = grind (arith, nat_tests)

-- a canonical word is the digits of its value
pub canonical_decimal : (word : List ℕ) → is_canonical word ≡ true → digits_value 10 word < 2 ^ 64 → decimal (digits_value 10 word) ≡ word
unfolding is_canonical
canonical_decimal word test fits =
    let parts = tells (all_ascii_digits word) (length word) (get_or word 0 0) test in
    decimal-digits_value own word parts.0 parts.1.0 parts.1.1 fits

starts_with_zero : (n : ℕ) → n < 2 ^ 64 → get_or (decimal n) 0 0 ≡ 48 → length (decimal n) ≡ 1
starts_with_zero zero fits e = rw (decimal_digit 0 (omega arith)) refl
starts_with_zero (suc n) fits e = absurd (omega (arith, first_decimal (suc n) (omega arith) fits))

-- and the digits of a number are canonical
pub decimal_canonical : (n : ℕ) → n < 2 ^ 64 → is_canonical (decimal n) ≡ true
unfolding is_canonical
decimal_canonical n fits =
    let digits : all_ascii_digits (decimal n) ≡ true = digits_decimal own n fits in
    rw digits (told (length (decimal n)) (get_or (decimal n) 0 0) (decimal_nonempty n fits) (starts_with_zero n fits))

pub number_is : (word : List ℕ) (n : ℕ) → number_of word ≡ Some n → (decimal n ≡ word) × (n < 2 ^ 64)
unfolding number_of
number_is word n e =
    let parts = cond_some (is_canonical word && ltb (digits_value 10 word) (2 ^ 64)) (digits_value 10 word) n e in
    let tests = both (is_canonical word) (ltb (digits_value 10 word) (2 ^ 64)) parts.0 in
    let fits : digits_value 10 word < 2 ^ 64 = (Decides-ltb (digits_value 10 word) (2 ^ 64)).0 tests.1 in
    (rw (← parts.1) (canonical_decimal word tests.0 fits), rw (← parts.1) fits)

pub number_again : (n : ℕ) → n < 2 ^ 64 → number_of (decimal n) ≡ Some n
unfolding number_of
number_again n fits =
    rw (decimal_canonical n fits, digits_value-decimal own n fits, (Decides-ltb n (2 ^ 64)).1 fits) refl

-- the values of a function at 0, 1 and so on
abbrev pub values : (ℕ → ℕ) → ℕ → List ℕ
values f zero = []
values f (suc k) = f 0 ∷ values (λ i. f (suc i)) k

values_all : (ns : List ℕ) → values (λ i. get_or ns i 0) (length ns) ≡ ns
values_all [] = refl
values_all (n ∷ ns) = ap (λ (xs : List ℕ). n ∷ xs) (values_all ns)

-- a list of so many numbers is that of its elements
pub values_are : (k : ℕ) (ns : List ℕ) → length ns ≡ k → values (λ i. get_or ns i 0) k ≡ ns
values_are k ns len = ap (values (λ i. get_or ns i 0)) (sym len) ∙ values_all ns

-- a byte isn't in a list
abbrev pub Lacks : ℕ → List ℕ → Type 0
Lacks at bytes = AllByRecursion (λ b. eqb b at ≡ false) bytes

with_first-some : (b : ℕ) (ps : List (List ℕ)) → 1 ≤ length (with_first b ps)
with_first-some b [] = omega arith
with_first-some b (p ∷ ps) = omega arith

pub split-some : (at : ℕ) (bytes : List ℕ) → 1 ≤ length (split at bytes)
split-some at [] = omega arith
split-some at (b ∷ bytes) = elim (cases_Bool (eqb b at)) [
  | inl e ↦ rw e (omega arith)
  | inr e ↦ rw e (with_first-some b (split at bytes))
]

join_empty : (at : ℕ) (ps : List (List ℕ)) → 1 ≤ length ps → join_with_byte at ([] ∷ ps) ≡ at ∷ join_with_byte at ps
join_empty at [] some = absurd (omega arith)
join_empty at (p ∷ ps) some = refl

join_first : (at b : ℕ) (ps : List (List ℕ)) → join_with_byte at (with_first b ps) ≡ b ∷ join_with_byte at ps
join_first at b [] = refl
join_first at b (p ∷ []) = refl
join_first at b (p ∷ q ∷ ps) = refl

-- the pieces joined again are the bytes
pub join_split : (at : ℕ) (bytes : List ℕ) → join_with_byte at (split at bytes) ≡ bytes
join_split at [] = refl
join_split at (b ∷ bytes) = elim (cases_Bool (eqb b at)) [
  | inl e ↦ rw e (join_empty at (split at bytes) (split-some at bytes) ∙ rw (join_split at bytes, (Decides-eqb b at).0 e) refl)
  | inr e ↦ rw e (join_first at b (split at bytes) ∙ rw (join_split at bytes) refl)
]

-- bytes without the byte are one piece
pub split-one : (at : ℕ) (bytes : List ℕ) → Lacks at bytes → split at bytes ≡ bytes ∷ []
split-one at [] lacks = refl
split-one at (b ∷ bytes) lacks = rw (lacks.0, split-one at bytes lacks.1) refl

pub same_byte : (at : ℕ) → eqb at at ≡ true
same_byte at = (Decides-eqb at at).1 refl

-- and the first piece where the byte follows them
pub split-cut : (at : ℕ) (bytes rest : List ℕ) → Lacks at bytes → split at (bytes ++ (at ∷ rest)) ≡ bytes ∷ split at rest
split-cut at [] rest lacks = rw (same_byte at) refl
split-cut at (b ∷ bytes) rest lacks = rw (lacks.0, split-cut at bytes rest lacks.1) refl

-- words that lack the byte are the pieces of their join
pub split_join : (at : ℕ) (word : List ℕ) (words : List (List ℕ)) → AllByRecursion (Lacks at) (word ∷ words)
    → split at (join_with_byte at (word ∷ words)) ≡ word ∷ words
split_join at word [] lacks = split-one at word lacks.0
split_join at word (next ∷ words) lacks =
    split-cut at word (join_with_byte at (next ∷ words)) lacks.0 ∙ rw (split_join at next words lacks.1) refl

-- bytes that are printed, and aren't spaces
abbrev pub Plain : List ℕ → Type 0
Plain bytes = AllByRecursion (λ b. (33 ≤ b) × (b ≤ 126)) bytes

-- a literal word, by a test that computes
pub plain_word : (word : List ℕ) → list_all (λ b. leb 33 b && leb b 126) word ≡ true → Plain word
plain_word [] test = tt
plain_word (b ∷ word) test =
    let parts = both (leb 33 b && leb b 126) (list_all (λ c. leb 33 c && leb c 126) word) test in
    ((grind (arith, nat_tests, parts.0), grind (arith, nat_tests, parts.0)), plain_word word parts.1)

pub plain_lacks : (at : ℕ) (bytes : List ℕ) → at < 33 → Plain bytes → Lacks at bytes
plain_lacks at [] low plain = tt
plain_lacks at (b ∷ bytes) low plain = (grind (arith, nat_tests, plain.0.0), plain_lacks at bytes low plain.1)

pub words_lack : (words : List (List ℕ)) → AllByRecursion Plain words → AllByRecursion (Lacks 32) words
words_lack [] plain = tt
words_lack (w ∷ words) plain = (plain_lacks 32 w (omega arith) plain.0, words_lack words plain.1)

abbrev pub Printable : List ℕ → Type 0
Printable bytes = list_all is_printable bytes ≡ true

printable_at : (b : ℕ) → 32 ≤ b → b ≤ 126 → is_printable b ≡ true
printable_at b low high = grind (arith, nat_tests)

joined_printable : (w tail : List ℕ) → Plain w → Printable tail → Printable (w ++ tail)
joined_printable [] tail plain rest = rest
joined_printable (b ∷ w) tail plain rest = rw (printable_at b (omega (arith, plain.0.0)) plain.0.1, joined_printable w tail plain.1 rest) refl

printable_word : (w : List ℕ) → Plain w → Printable w
printable_word [] plain = refl
printable_word (b ∷ w) plain = rw (printable_at b (omega (arith, plain.0.0)) plain.0.1, printable_word w plain.1) refl

pub printable_join : (words : List (List ℕ)) → AllByRecursion Plain words → Printable (join_with_byte 32 words)
printable_join [] plain = refl
printable_join (w ∷ []) plain = printable_word w plain.0
printable_join (w ∷ v ∷ words) plain = joined_printable w (32 ∷ join_with_byte 32 (v ∷ words)) plain.0 (printable_join (v ∷ words) plain.1)

pub printable_lacks : (bytes : List ℕ) → Printable bytes → Lacks 10 bytes
printable_lacks [] test = tt
printable_lacks (b ∷ bytes) test =
    let parts = both (is_printable b) (list_all is_printable bytes) test in
    let here : is_printable b ≡ true = parts.0 in
    (grind (arith, nat_tests), printable_lacks bytes parts.1)

-- numbers
digits_plain : (bytes : List ℕ) → all_ascii_digits bytes ≡ true → Plain bytes
digits_plain [] digits = tt
digits_plain (b ∷ bytes) digits =
    let parts = both (is_ascii_digit b) (all_ascii_digits bytes) digits in
    let here : is_ascii_digit b ≡ true = parts.0 in
    ((grind (arith, nat_tests), grind (arith, nat_tests)), digits_plain bytes parts.1)

pub number_plain : (n : ℕ) → n < 2 ^ 64 → Plain (decimal n)
number_plain n fits = digits_plain (decimal n) (digits_decimal own n fits)

-- uuids
plain-append : (xs ys : List ℕ) → Plain xs → Plain ys → Plain (xs ++ ys)
plain-append [] ys p q = q
plain-append (x ∷ xs) ys p q = (p.0, plain-append xs ys p.1 q)

by_index_plain : (n : ℕ) (f : ℕ → ℕ) → ((k : ℕ) → (33 ≤ f k) × (f k ≤ 126)) → Plain (by_index n f)
unfolding by_index
by_index_plain zero f each = tt
by_index_plain (suc n) f each = plain-append (by_index n f) (f n ∷ []) (by_index_plain n f each) (each n, tt)

digit_plain : (b : Bool) (d : ℕ) → d < 16 → (33 ≤ (if b then 45 else hex_digit lower d)) × ((if b then 45 else hex_digit lower d) ≤ 126)
digit_plain true d small = (omega arith, omega arith)
digit_plain false d small = (grind (arith, nat_tests), grind (arith, nat_tests))

pub uuid_plain : (uuid : List ℕ) → Plain (hyphenated_text lower uuid)
uuid_plain uuid = by_index_plain 36 (λ k. if is_hyphen_place k then 45 else hex_digit lower (nibble uuid (digit_place k)))
    (λ k. digit_plain (is_hyphen_place k) (nibble uuid (digit_place k)) (nibble_small uuid (digit_place k)))

all_at : (test : ℕ → Bool) (xs : List ℕ) (i d : ℕ) → list_all test xs ≡ true → i < length xs → test (get_or xs i d) ≡ true
all_at test [] i d all within = absurd (omega arith)
all_at test (x ∷ xs) zero d all within = (both (test x) (list_all test xs) all).0
all_at test (x ∷ xs) (suc i) d all within = all_at test xs i d (both (test x) (list_all test xs) all).1 (omega arith)

-- a hexadecimal digit, by a test that computes
lower_digit_plain : (d : ℕ) → d < 16 → (33 ≤ get_or lower_digits d 0) × (get_or lower_digits d 0 ≤ 126)
lower_digit_plain d small =
    let parts = both (leb 33 (get_or lower_digits d 0)) (leb (get_or lower_digits d 0) 126) (all_at (λ b. leb 33 b && leb b 126) lower_digits d 0 refl small) in
    (grind (arith, nat_tests, parts.0), grind (arith, nat_tests, parts.1))

pub policy_plain : (policy : List ℕ) → IsBytes policy → Plain (encode_lower policy)
unfolding encode_with
policy_plain [] small = tt
policy_plain (b ∷ policy) small =
    let first : b < 256 = small 0 in
    let high = lower_digit_plain (b / 16) (omega arith) in
    let low = lower_digit_plain (b % 16) (omega arith) in
    (high, (low, policy_plain policy (λ i. small (suc i))))

-- sixteen bytes in a form that is read as these are read again
bytes_again : (read : List ℕ → Option (List ℕ)) (form : List ℕ → List ℕ) (bytes : List ℕ) → Some bytes ≡ read (form bytes) → bytes_of read form (form bytes) ≡ Some bytes
unfolding bytes_of
bytes_again read form bytes parses =
    let same : bytes_eq (form bytes) (form bytes) ≡ true = (bytes_eq-Decides (form bytes) (form bytes)).1 refl in
    rw (← parses, same) refl

pub uuid_again : (uuid : List ℕ) → length uuid ≡ 16 → All (λ b. b < 256) uuid → uuid_of (hyphenated_text lower uuid) ≡ Some uuid
uuid_again uuid len small = bytes_again parsed (hyphenated_text lower) uuid (parses_hyphenated lower uuid (inl refl) len small)

-- bytes by the places that a list has, and by all places
pub bytes_everywhere : (bytes : List ℕ) → All (λ b. b < 256) bytes → IsBytes bytes
bytes_everywhere bytes small i = elim (cases_lt i (length bytes)) [
  | inl within ↦ small i 0 within
  | inr past ↦ rw (get_or_past bytes i 0 past) (omega arith)
]

pub policy_again : (policy : List ℕ) → length policy ≡ 16 → All (λ b. b < 256) policy → policy_of (encode_lower policy) ≡ Some policy
policy_again policy len small =
    let twice : length (encode_lower policy) ≡ 2 * 16 = length-encode_with lower_digits policy ∙ ap (λ (n : ℕ). 2 * n) len in
    let decoded : decode_sized (encode_lower policy) 16 ≡ Ok policy =
    decode_sized-twice (encode_lower policy) 16 twice ∙ decode_of-encode_lower policy (bytes_everywhere policy small) in
    bytes_again sixteen_of encode_lower policy (sym (ap (λ (r : Result (List ℕ) FromHexError). result_ok r) decoded))

-- sixteen bytes that were read of a word, in this form
pub record AreBytes (form : List ℕ → List ℕ) (word bytes : List ℕ) : Type 0 where
  pub text : form bytes ≡ word
  pub len : length bytes ≡ 16
  pub small : All (λ b. b < 256) bytes

value_small : (c : ℕ) → is_hex_digit c ≡ true → value_of c < 16
value_small c digit = grind (arith, nat_tests)

bytes_small : (hex : List ℕ) (i d : ℕ) → length hex ≡ 32 → list_all is_hex_digit hex ≡ true → i < 16 → get_or (by_index 16 (byte_of_digits hex)) i d < 256
bytes_small hex i d len digits within =
    let high = value_small (get_or hex (2 * i) 0) (all_at is_hex_digit hex (2 * i) 0 digits (omega arith)) in
    let low = value_small (get_or hex (2 * i + 1) 0) (all_at is_hex_digit hex (2 * i + 1) 0 digits (omega arith)) in
    rw (by_index_at 16 (byte_of_digits hex) i d within) (omega arith)

simple_small : (hex bytes : List ℕ) → parsed_simple hex ≡ Some bytes → (length bytes ≡ 16) × All (λ b. b < 256) bytes
simple_small hex bytes e =
    let parts = cond_some (eqb (length hex) 32 && list_all is_hex_digit hex) (by_index 16 (byte_of_digits hex)) bytes e in
    let tests = both (eqb (length hex) 32) (list_all is_hex_digit hex) parts.0 in
    rw (← parts.1) (by_index_length 16 (byte_of_digits hex), λ i d within. bytes_small hex i d ((Decides-eqb (length hex) 32).0 tests.0) tests.1 (omega (arith, within, by_index_length 16 (byte_of_digits hex))))

simple_of : (b : Bool) (o : Option (List ℕ)) (bytes : List ℕ) → (if b then o else None) ≡ Some bytes → o ≡ Some bytes
simple_of true o bytes e = e
simple_of false o bytes e = absurd (none-some bytes e)

uuid_small : (word bytes : List ℕ) → length word ≡ 36 → parsed word ≡ Some bytes → (length bytes ≡ 16) × All (λ b. b < 256) bytes
uuid_small word bytes len e =
    let at36 : (if has_hyphens word then parsed_simple (digits_of word) else None) ≡ Some bytes = rw len at e in
    simple_small (digits_of word) bytes (simple_of (has_hyphens word) (parsed_simple (digits_of word)) bytes at36)

decoded_small : (word bytes : List ℕ) (r : Result (List ℕ) FromHexError) → decode_sized word 16 ≡ r → result_ok r ≡ Some bytes
    → (length bytes ≡ 16) × All (λ b. b < 256) bytes
decoded_small word bytes (Err fault) is e = absurd (none-some bytes e)
decoded_small word bytes (Ok found) is e =
    let len = decode_sized-ok word 16 found is in
    let are = decode_of-ok word found (sym (decode_sized-twice word 16 len) ∙ is) in
    let same : found ≡ bytes = ap (λ (o : Option (List ℕ)). unwrap_or o []) e in
    rw (← same) (omega (arith, len, are.2), λ i d within. rw (get_or_default found i d 0 within) (are.3 i))

policy_small : (word bytes : List ℕ) → sixteen_of word ≡ Some bytes → (length bytes ≡ 16) × All (λ b. b < 256) bytes
policy_small word bytes e = decoded_small word bytes (decode_sized word 16) refl e

bytes_are : (read : List ℕ → Option (List ℕ)) (form : List ℕ → List ℕ)
    → ((word bytes : List ℕ) → form bytes ≡ word → read word ≡ Some bytes → (length bytes ≡ 16) × All (λ b. b < 256) bytes)
    → (word bytes : List ℕ) → bytes_of read form word ≡ Some bytes → AreBytes form word bytes
unfolding bytes_of
bytes_are read form small word bytes e =
    option_and_then_some {P = AreBytes form word bytes} (λ (u : List ℕ). if bytes_eq word (form u) then Some u else None) (read word) bytes e
    (λ u is same.
    let parts = cond_some (bytes_eq word (form u)) u bytes same in
    let text : form bytes ≡ word = ap form (sym parts.1) ∙ sym ((bytes_eq-Decides word (form u)).0 parts.0) in
    let are = small word bytes text (is ∙ ap (λ (v : List ℕ). Some v) parts.1) in
    record { text = text; len = are.0; small = are.1 })

pub uuid_is : (word uuid : List ℕ) → uuid_of word ≡ Some uuid → AreBytes (hyphenated_text lower) word uuid
uuid_is = bytes_are parsed (hyphenated_text lower) (λ word bytes text. uuid_small word bytes (ap length (sym text) ∙ by_index_length 36 _))

pub policy_is : (word policy : List ℕ) → policy_of word ≡ Some policy → AreBytes encode_lower word policy
policy_is = bytes_are sixteen_of encode_lower (λ word bytes text. policy_small word bytes)

pub decimal_short : (n : ℕ) → n < 2 ^ 64 → length (decimal n) ≤ 20
decimal_short n fits = length-decimal-le 20 n (omega arith) (omega arith) fits

small_short : (n : ℕ) → n < 2 ^ 32 → length (decimal n) ≤ 10
small_short n fits = length-decimal-le 10 n (omega arith) (omega (arith, fits)) (omega (arith, fits))

-- the bytes of words, with a space after each
abbrev pub room_of : List (List ℕ) → ℕ
room_of [] = 0
room_of (w ∷ words) = suc (length w) + room_of words

pub joined_short : (words : List (List ℕ)) → length (join_with_byte 32 words) ≤ room_of words
joined_short [] = omega arith
joined_short (w ∷ []) = omega arith
joined_short (w ∷ v ∷ words) = omega (arith, length-append w (32 ∷ join_with_byte 32 (v ∷ words)), joined_short (v ∷ words))

pub small_numbers_short : (ns : List ℕ) → AllByRecursion (λ n. n < 2 ^ 32) ns → room_of (map decimal ns) ≤ 11 * length ns
small_numbers_short [] fit = omega arith
small_numbers_short (n ∷ ns) fit = omega (arith, small_short n fit.0, small_numbers_short ns fit.1)
