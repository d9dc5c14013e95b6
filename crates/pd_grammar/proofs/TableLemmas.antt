-- Of a lawful table: what is read is what is written, in its place.
use Rattle.std.proofs.Common.{◌≡◌, inl, inr, ℕ, suc, ◌+◌, ◌^◌, ◌*◌, ◌≤◌, ◌<◌, true, ltb, List, [], ◌∷◌, length, map, All, refl, ap, sym, subst, ◌∙◌, arith, Option, Some, None, Result, Ok, Err}
use Rattle.std.proofs.lemmas.Bool.Decides.{Decides-eqb, nat_tests}
use Rattle.std.proofs.lemmas.Option.{none-some, same_Some}
use Rattle.std.proofs.lemmas.Slice.Eq.{bytes_eq-Decides}
use Rattle.std.specs.Str.{bytes_eq}
use Rattle.std.specs.List.{AllByRecursion, join_with_byte}
use Rattle.std.specs.Option.{option_map}
use Rattle.hex.specs.Hex.{encode_lower, lower_digits}
use Rattle.hex.proofs.HexLemmas.{length-encode_with}
use Rattle.uuid.specs.Text.{hyphenated_text, lower}
use Rattle.uuid.proofs.TextLemmas.{by_index_length}
use Rattle.pd_grammar.specs.declared.cause.TextCause.{TextCause}
use Rattle.pd_grammar.specs.declared.cause.TextCause.TheVariants.{Word, Number}
use Rattle.pd_grammar.specs.declared.value.Field.{Field}
use Rattle.pd_grammar.specs.declared.value.Value.{Value}
use Rattle.pd_grammar.specs.Texts.{uuid_of, policy_of, number_of, result_map, written}
use Rattle.pd_grammar.specs.Tables.{field_of, word_of, value_of, with_value, values_in, bytes_at, number_at, LinePlace, second_line, later_line, later_line_where, may_stand, LineKind, Table, words_of, words_by, kind_named, line_in, parsed_by, first_among, first_by, format_of}
use Rattle.pd_grammar.proofs.WordLemmas.{ok-err, same_Ok, chosen, both, number_is, number_again, Plain, Printable, number_plain, uuid_plain, uuid_again, uuid_is, bytes_everywhere, policy_plain, policy_again, policy_is, room_of, joined_short, decimal_short}
use Rattle.pd_grammar.proofs.GrammarLemmas.{IsGrammar, AreWords, Passes}
use Rattle.pd_grammar.specs.declared.value.Field.TheVariants as f
use Rattle.pd_grammar.specs.declared.value.Value.TheVariants as v

-- a value that can be written
abbrev FitsValue : Value → Type 0
FitsValue (v.Uuid bytes) = (length bytes ≡ 16) × All (λ b. b < 256) bytes
FitsValue (v.Policy bytes) = (length bytes ≡ 16) × All (λ b. b < 256) bytes
FitsValue (v.Number n) = n < 2 ^ 64

-- values that can be written
abbrev pub AreFit : List Value → Type 0
AreFit [] = Unit {0}
AreFit (v.Uuid bytes ∷ values) = (length bytes ≡ 16) × (All (λ b. b < 256) bytes × AreFit values)
AreFit (v.Policy bytes ∷ values) = (length bytes ≡ 16) × (All (λ b. b < 256) bytes × AreFit values)
AreFit (v.Number n ∷ values) = (n < 2 ^ 64) × AreFit values

fit_with : (x : Value) (xs : List Value) → FitsValue x → AreFit xs → AreFit (x ∷ xs)
fit_with (v.Uuid bytes) xs fits rest = (fits.0, (fits.1, rest))
fit_with (v.Policy bytes) xs fits rest = (fits.0, (fits.1, rest))
fit_with (v.Number n) xs fits rest = (fits, rest)

fit_parts : (x : Value) (xs : List Value) → AreFit (x ∷ xs) → FitsValue x × AreFit xs
fit_parts (v.Uuid bytes) xs fits = ((fits.0, fits.1.0), fits.1.1)
fit_parts (v.Policy bytes) xs fits = ((fits.0, fits.1.0), fits.1.1)
fit_parts (v.Number n) xs fits = (fits.0, fits.1)

-- a word and the value that it is
record IsValue (field : Field) (word : List ℕ) (x : Value) : Type 0 where
  text : word_of x ≡ word
  stands : field_of x ≡ field
  fits : FitsValue x

mapped : {X Y : Type 0} → (g : X → Y) (o : Option X) (y : Y) → option_map g o ≡ Some y → (x : X) × (o ≡ Some x) × (g x ≡ y)
mapped g None y e = absurd (none-some y e)
mapped g (Some x) y e = (x, refl, same_Some (g x) y e)

value_is : (field : Field) (word : List ℕ) (x : Value) → value_of field word ≡ Some x → IsValue field word x
value_is f.Uuid word x e =
    let is = mapped (λ (bytes : List ℕ). v.Uuid bytes) (uuid_of word) x e in
    let are = uuid_is word is.0 is.1 in
    rw (← is.2) (record { text = are.text; stands = refl; fits = (are.len, are.small) })
value_is f.Policy word x e =
    let is = mapped (λ (bytes : List ℕ). v.Policy bytes) (policy_of word) x e in
    let are = policy_is word is.0 is.1 in
    rw (← is.2) (record { text = are.text; stands = refl; fits = (are.len, are.small) })
value_is f.Number word x e =
    let is = mapped (λ (n : ℕ). v.Number n) (number_of word) x e in
    let number = number_is word is.0 is.1 in
    rw (← is.2) (record { text = number.0; stands = refl; fits = number.1 })

value_again : (x : Value) → FitsValue x → value_of (field_of x) (word_of x) ≡ Some x
value_again (v.Uuid bytes) fits = ap (option_map (λ (b : List ℕ). v.Uuid b)) (uuid_again bytes fits.0 fits.1)
value_again (v.Policy bytes) fits = ap (option_map (λ (b : List ℕ). v.Policy b)) (policy_again bytes fits.0 fits.1)
value_again (v.Number n) fits = ap (option_map (λ (m : ℕ). v.Number m)) (number_again n fits)

with_value-ok : (o : Option Value) (field : Field) (rest : Result (List Value) TextCause) (xs : List Value) → with_value o field rest ≡ Ok xs
    → (x : Value) × (ys : List Value) × (o ≡ Some x) × (rest ≡ Ok ys) × (x ∷ ys ≡ xs)
with_value-ok (Some x) field (Ok ys) xs e = (x, ys, refl, refl, same_Ok {E = TextCause} (x ∷ ys) xs e)
with_value-ok (Some x) field (Err cause) xs e = absurd (ok-err xs cause (sym e))
with_value-ok None f.Uuid rest xs e = absurd (ok-err xs Word (sym e))
with_value-ok None f.Policy rest xs e = absurd (ok-err xs Word (sym e))
with_value-ok None f.Number (Ok ys) xs e = absurd (ok-err xs Number (sym e))
with_value-ok None f.Number (Err cause) xs e = absurd (ok-err xs cause (sym e))

-- words and the values that they are in fields
record AreValues (fields : List Field) (words : List (List ℕ)) (xs : List Value) : Type 0 where
  text : map word_of xs ≡ words
  stand : map field_of xs ≡ fields
  fits : AreFit xs

values_are : (fields : List Field) (words : List (List ℕ)) (xs : List Value) → values_in fields words ≡ Ok xs → AreValues fields words xs
unfolding values_in
values_are [] [] xs e = rw (← same_Ok {E = TextCause} [] xs e) (record { text = refl; stand = refl; fits = tt })
values_are [] (word ∷ words) xs e = absurd (ok-err xs Word (sym e))
values_are (field ∷ fields) [] xs e = absurd (ok-err xs Word (sym e))
values_are (field ∷ fields) (word ∷ words) xs e =
    let parts = with_value-ok (value_of field word) field (values_in fields words) xs e in
    let one = value_is field word parts.0 parts.2 in
    let more = values_are fields words parts.1 parts.3 in
    rw (← parts.4) (record {
      text = rw (one.text, more.text) refl;
      stand = rw (one.stands, more.stand) refl;
      fits = fit_with parts.0 parts.1 one.fits more.fits;
    })

pub values_again : (xs : List Value) → AreFit xs → values_in (map field_of xs) (map word_of xs) ≡ Ok xs
unfolding values_in
values_again [] fits = refl
values_again (x ∷ xs) fits =
    let parts = fit_parts x xs fits in
    rw (value_again x parts.0, values_again xs parts.1) refl

-- the values of fields by their places
abbrev pub values_at : List Field → (ℕ → List ℕ) → (ℕ → ℕ) → List Value
values_at [] bytes number = []
values_at (f.Uuid ∷ fields) bytes number = v.Uuid (bytes 0) ∷ values_at fields (λ i. bytes (suc i)) (λ i. number (suc i))
values_at (f.Policy ∷ fields) bytes number = v.Policy (bytes 0) ∷ values_at fields (λ i. bytes (suc i)) (λ i. number (suc i))
values_at (f.Number ∷ fields) bytes number = v.Number (number 0) ∷ values_at fields (λ i. bytes (suc i)) (λ i. number (suc i))

values_all : (xs : List Value) → values_at (map field_of xs) (bytes_at xs) (number_at xs) ≡ xs
values_all [] = refl
values_all (v.Uuid bytes ∷ xs) = ap (λ (ys : List Value). v.Uuid bytes ∷ ys) (values_all xs)
values_all (v.Policy bytes ∷ xs) = ap (λ (ys : List Value). v.Policy bytes ∷ ys) (values_all xs)
values_all (v.Number n ∷ xs) = ap (λ (ys : List Value). v.Number n ∷ ys) (values_all xs)

-- plain and short words
values_plain : (xs : List Value) → AreFit xs → AllByRecursion Plain (map word_of xs)
values_plain [] fits = tt
values_plain (v.Uuid bytes ∷ xs) fits = (uuid_plain bytes, values_plain xs fits.1.1)
values_plain (v.Policy bytes ∷ xs) fits = (policy_plain bytes (bytes_everywhere bytes fits.1.0), values_plain xs fits.1.1)
values_plain (v.Number n ∷ xs) fits = (number_plain n fits.0, values_plain xs fits.1)

-- how long the words of values are at the most, with a space before each
abbrev pub width_of : List Value → ℕ
width_of [] = 0
width_of (v.Uuid bytes ∷ xs) = 37 + width_of xs
width_of (v.Policy bytes ∷ xs) = 33 + width_of xs
width_of (v.Number n ∷ xs) = 21 + width_of xs

pub policy_length : (policy : List ℕ) → length policy ≡ 16 → length (encode_lower policy) ≡ 32
policy_length policy len = length-encode_with lower_digits policy ∙ ap (λ (n : ℕ). 2 * n) len

pub values_short : (xs : List Value) → AreFit xs → room_of (map word_of xs) ≤ width_of xs
values_short [] fits = omega arith
values_short (v.Uuid bytes ∷ xs) fits =
    let uuid : length (hyphenated_text lower bytes) ≡ 36 = by_index_length 36 _ in
    omega (arith, uuid, values_short xs fits.1.1)
values_short (v.Policy bytes ∷ xs) fits = omega (arith, policy_length bytes fits.0, values_short xs fits.1.1)
values_short (v.Number n ∷ xs) fits = omega (arith, decimal_short n fits.0, values_short xs fits.1)

-- a line may stand in a place
abbrev pub IsPlaced : {L : Type 0} → LinePlace L → List L → Type 0
IsPlaced second_line before = length before ≡ 1
IsPlaced later_line before = 2 ≤ length before
IsPlaced (later_line_where test) before = (2 ≤ length before) × (test before ≡ true)

is_placed : {L : Type 0} → (place : LinePlace L) (before : List L) → may_stand place before ≡ true → IsPlaced place before
is_placed second_line before stands = (Decides-eqb (length before) 1).0 stands
is_placed later_line before stands = grind (arith, nat_tests)
is_placed (later_line_where test) before stands =
    let parts = both (ltb 1 (length before)) (test before) stands in
    (grind (arith, nat_tests, parts.0), parts.1)

pub stands_again : {L : Type 0} → (place : LinePlace L) (before : List L) → IsPlaced place before → may_stand place before ≡ true
stands_again second_line before placed = (Decides-eqb (length before) 1).1 placed
stands_again later_line before placed = grind (arith, nat_tests)
stands_again (later_line_where test) before placed =
    let later : ltb 1 (length before) ≡ true = grind (arith, nat_tests, placed.0) in
    rw (later, placed.1) refl

-- a line's values can be written, and it may stand after these lines
abbrev pub FitsBy : {L : Type 0} → Table L → L → Type 0
FitsBy table line = AreFit (table.values line)

-- a first line is one of the table's
abbrev pub PlacedAs : {L : Type 0} → Table L → L → Option (LineKind L) → List L → Type 0
PlacedAs table line None before = (length before ≡ 0) × (first_by table (join_with_byte 32 (table.first_words line)) ≡ Some line)
PlacedAs table line (Some kind) before = IsPlaced kind.place before

abbrev pub PlacedBy : {L : Type 0} → Table L → List L → L → Type 0
PlacedBy table before line = PlacedAs table line (table.kind_of line) before

-- the line that a kind makes of values is of that kind and has those values
abbrev pub Makes : {L : Type 0} → Table L → LineKind L → Type 0
Makes table kind = (xs : List Value)
    → (table.kind_of (kind.make xs) ≡ Some kind) × (table.values (kind.make xs) ≡ values_at kind.fields (bytes_at xs) (number_at xs))

-- a line has the words of a first line, or is of a kind of the table, which makes it of its values
abbrev pub IsMade : {L : Type 0} → Table L → L → Option (LineKind L) → Type 0
IsMade table line None = (1 ≤ length (table.first_words line)) × AllByRecursion Plain (table.first_words line)
IsMade table line (Some kind) =
    (kind_named table.kinds kind.keyword ≡ Some kind) × ((kind.make (table.values line) ≡ line) × (map field_of (table.values line) ≡ kind.fields))

-- a first line is of no kind and has no values, and its bytes are such as a line may have
pub record IsFirst {L : Type 0} (table : Table L) (line : L) : Type 0 where
  pub kind : table.kind_of line ≡ None
  pub values : table.values line ≡ []
  pub printable : Printable (join_with_byte 32 (table.first_words line))

-- kinds and lines fit together
pub record IsLawful {L : Type 0} (table : Table L) : Type 0 where
  pub firsts : AllByRecursion (IsFirst table) table.firsts
  pub keywords : AllByRecursion (λ (kind : LineKind L). Plain kind.keyword) table.kinds
  pub makes : AllByRecursion (Makes table) table.kinds
  pub made : (line : L) → IsMade table line (table.kind_of line)

kind_known : {L : Type 0} → (P : LineKind L → Type 0) (kinds : List (LineKind L)) (keyword : List ℕ) (kind : LineKind L) → AllByRecursion P kinds
    → kind_named kinds keyword ≡ Some kind → (keyword ≡ kind.keyword) × P kind
unfolding kind_named
kind_known P [] keyword kind all e = absurd (none-some kind e)
kind_known {L} P (one ∷ kinds) keyword kind all e = elim (chosen (bytes_eq keyword one.keyword) _ _ (Some kind) e) [
  | inl (same, e) ↦
      let is : one ≡ kind = same_Some one kind e in
      rw (← is) ((bytes_eq-Decides keyword one.keyword).0 same, all.0)
  | inr (other, e) ↦ kind_known P kinds keyword kind all.1 e
]

first_known : {L : Type 0} → (P : L → Type 0) (words : L → List (List ℕ)) (lines : List L) (bytes : List ℕ) (line : L) → AllByRecursion P lines
    → first_among words lines bytes ≡ Some line → (bytes ≡ join_with_byte 32 (words line)) × P line
first_known P words [] bytes line all e = absurd (none-some line e)
first_known P words (one ∷ lines) bytes line all e = elim (chosen (bytes_eq bytes (join_with_byte 32 (words one))) _ _ (Some line) e) [
  | inl (same, e) ↦
      let is : one ≡ line = same_Some one line e in
      rw (← is) ((bytes_eq-Decides bytes (join_with_byte 32 (words one))).0 same, all.0)
  | inr (other, e) ↦ first_known P words lines bytes line all.1 e
]

result_map-ok : {X Y : Type 0} → (g : X → Y) (r : Result X TextCause) (y : Y) → result_map g r ≡ Ok y → (x : X) × (r ≡ Ok x) × (g x ≡ y)
result_map-ok g (Ok x) y e = (x, refl, same_Ok {E = TextCause} (g x) y e)
result_map-ok g (Err cause) y e = absurd (ok-err y cause (sym e))

module _ {L : Type 0} (table : Table L) (lawful : IsLawful table) where
  line_words : (before : List L) (kind : LineKind L) (words : List (List ℕ)) (line : L) → Makes table kind → may_stand kind.place before ≡ true
      → result_map kind.make (values_in kind.fields words) ≡ Ok line
      → AreWords (words_by table) (FitsBy table) (PlacedBy table) before (kind.keyword ∷ words) line
  line_words before kind words line makes stands e =
      let parts = result_map-ok kind.make (values_in kind.fields words) line e in
      let xs = parts.0 in
      let are = values_are kind.fields words xs parts.1 in
      let of : table.kind_of (kind.make xs) ≡ Some kind = (makes xs).0 in
      let same : table.values (kind.make xs) ≡ xs =
      (makes xs).1 ∙ ap (λ (fields : List Field). values_at fields (bytes_at xs) (number_at xs)) (sym are.stand) ∙ values_all xs in
      let Stands : Option (LineKind L) → Type 0 = λ k. PlacedAs table (kind.make xs) k before in
      let Fits : List Value → Type 0 = AreFit in
      rw (← parts.2) (record {
        words_are = ap (λ (k : Option (LineKind L)). words_of (table.first_words (kind.make xs)) k (table.values (kind.make xs))) of
            ∙ ap (λ (ys : List Value). kind.keyword ∷ map word_of ys) same ∙ ap (λ (ws : List (List ℕ)). kind.keyword ∷ ws) are.text;
        fits = subst Fits (sym same) are.fits;
        placed = subst Stands (sym of) (is_placed kind.place before stands);
      })

  named_words : (before : List L) (keyword : List ℕ) (words : List (List ℕ)) (line : L) (o : Option (LineKind L)) → kind_named table.kinds keyword ≡ o
      → line_in before o words ≡ Ok line → AreWords (words_by table) (FitsBy table) (PlacedBy table) before (keyword ∷ words) line
  named_words before keyword words line None named e = absurd (ok-err line Word (sym e))
  named_words before keyword words line (Some kind) named e =
      let known = kind_known (Makes table) table.kinds keyword kind lawful.makes named in
      elim (chosen (may_stand kind.place before) _ _ (Ok line) e) [
        | inl (stands, e) ↦ rw known.0 (line_words before kind words line known.1 stands e)
        | inr (other, e) ↦ absurd (ok-err line Word (sym e))
      ]

  words_are : (before : List L) (words : List (List ℕ)) (line : L) → 1 ≤ length before → parsed_by table before words ≡ Ok line
      → AreWords (words_by table) (FitsBy table) (PlacedBy table) before words line
  unfolding parsed_by
  words_are before [] line some e = absurd (ok-err line Word (sym e))
  words_are before (keyword ∷ words) line some e = named_words before keyword words line (kind_named table.kinds keyword) refl e

  made_again : (before : List L) (line : L) (o : Option (LineKind L)) → IsMade table line o → FitsBy table line → PlacedAs table line o before → 1 ≤ length before
      → parsed_by table before (words_of (table.first_words line) o (table.values line)) ≡ Ok line
  unfolding parsed_by
  made_again before line None made fits placed some = absurd (omega (arith, placed.0))
  made_again before line (Some kind) made fits placed some =
      let again : values_in kind.fields (map word_of (table.values line)) ≡ Ok (table.values line) =
      ap (λ (fields : List Field). values_in fields (map word_of (table.values line))) (sym made.1.1) ∙ values_again (table.values line) fits in
      rw (made.0, stands_again kind.place before placed, again) (ap (λ (l : L). Ok l) made.1.0)

  words_plain : (line : L) (o : Option (LineKind L)) → IsMade table line o → FitsBy table line
      → (1 ≤ length (words_of (table.first_words line) o (table.values line))) × AllByRecursion Plain (words_of (table.first_words line) o (table.values line))
  words_plain line None made fits = made
  words_plain line (Some kind) made fits =
      let known = kind_known (λ (k : LineKind L). Plain k.keyword) table.kinds kind.keyword kind lawful.keywords made.0 in
      (omega arith, (known.1, values_plain (table.values line) fits))

  first_is : (bytes : List ℕ) (line : L) → first_by table bytes ≡ Some line
      → (written (format_of table) line ≡ bytes) × (FitsBy table line × (PlacedBy table [] line × Printable bytes))
  first_is bytes line e =
      let known = first_known (IsFirst table) table.first_words table.firsts bytes line lawful.firsts e in
      let Fits : List Value → Type 0 = AreFit in
      let Stands : Option (LineKind L) → Type 0 = λ k. PlacedAs table line k [] in
      let again : first_by table (join_with_byte 32 (table.first_words line)) ≡ Some line = rw (← known.0) e in
      let words : join_with_byte 32 (words_by table line) ≡ join_with_byte 32 (table.first_words line) =
      ap (λ (k : Option (LineKind L)). join_with_byte 32 (words_of (table.first_words line) k (table.values line))) known.1.kind in
      rw known.0 (words, (subst Fits (sym known.1.values) tt, (subst Stands (sym known.1.kind) (refl, again), known.1.printable)))

  none_first : {P : Type 0} → (place : LinePlace L) → IsPlaced place [] → P
  none_first second_line placed = absurd (omega (arith, placed))
  none_first later_line placed = absurd (omega (arith, placed))
  none_first (later_line_where test) placed = absurd (omega (arith, placed.0))

  first_again : (line : L) (o : Option (LineKind L)) → PlacedAs table line o []
      → first_by table (join_with_byte 32 (words_of (table.first_words line) o (table.values line))) ≡ Some line
  first_again line None placed = placed.1
  first_again line (Some kind) placed = none_first kind.place placed

  -- a text of the table reads what it writes, where no line is longer than 160 bytes
  pub table_grammar : ((before : List L) (line : L) → FitsBy table line → PlacedBy table before line → Passes table.tests before line → length (written (format_of table) line) ≤ 160)
      → IsGrammar (format_of table) (FitsBy table) (PlacedBy table)
  table_grammar short = record {
    first_is = first_is;
    first_again = λ line fits placed. first_again line (table.kind_of line) placed;
    words_are = words_are;
    words_again = λ before line fits placed some. made_again before line (table.kind_of line) (lawful.made line) fits placed some;
    plain = λ line fits. words_plain line (table.kind_of line) (lawful.made line) fits;
    short = short;
  }

-- a line whose words have room is short
pub short_by : {L : Type 0} → (table : Table L) (line : L) → room_of (words_by table line) ≤ 160 → length (written (format_of table) line) ≤ 160
short_by table line room = omega (arith, joined_short (words_by table line), room)
