-- Words of fields, one after another, and what they are in their place.
use Rattle.std.proofs.Common.{◌≡◌, ℕ, ◌≤◌, true, false, eqb, List, [], length, refl, arith, Some, None, Result, Ok, Err, zero, suc, ◌+◌, ◌<◌, Bool, not, ◌&&◌, ◌∷◌, ◌++◌, take, drop, get_or, slice_index, replicate, ap, sym, ◌∙◌, append_assoc, add-one, Option}
use Rattle.std.proofs.lemmas.Bool.Decides.{nat_tests}
use Rattle.std.specs.List.{list_all}
use Rattle.std.proofs.lemmas.Bool.{true≢false}
use Rattle.std.proofs.lemmas.List.{append-nil}
use Rattle.std.specs.Borrow.{Bor}
use Rattle.std.specs.Prelude.{is_some}
use Rattle.pd_grammar.specs.declared.cause.TextCause.{TextCause}
use Rattle.pd_grammar.specs.declared.cause.TextCause.TheVariants.{Header, Word, Number}
use Rattle.pd_grammar.specs.Texts.{split, is_printable, TextFormat, read, tested, result_map}
use Rattle.pd_grammar.specs.declared.value.Field.{Field}
use Rattle.pd_grammar.specs.declared.value.Value.{Value}
use Rattle.pd_grammar.specs.Tables.{value_of, with_value, values_in, Table, LineKind, may_stand, kind_named, parsed_by, format_of}
use Rattle.pd_grammar.proofs.WordLemmas.{split-some}
use Rattle.pd_grammar.proofs.TableLemmas.{values_at}
use Rattle.pd_grammar.specs.declared.value.Field.TheVariants as f
use Rattle.pd_texts.specs.Words.{words_in, is_name, value_by, name_at}

-- What a line is in its place, by its words.

pub not_first : (n : ℕ) → 1 ≤ n → eqb n 0 ≡ false
not_first n some = grind (arith, nat_tests)

-- the first line
pub first_ok : {M : Type 0} → (format : TextFormat M) (bytes : List ℕ) (line : M) → format.first bytes ≡ Some line → read format [] bytes ≡ Ok line
unfolding read
first_ok format bytes line is = rw is refl

pub first_err : {M : Type 0} → (format : TextFormat M) (bytes : List ℕ) → format.first bytes ≡ None → read format [] bytes ≡ Err Header
unfolding read
first_err format bytes is = rw is refl

-- a later line whose words are right, and one whose words aren't
pub later_ok : {M : Type 0} → (format : TextFormat M) (before : List M) (bytes : List ℕ) (line : M) (r : Result M TextCause) → 1 ≤ length before → list_all is_printable bytes ≡ true
    → Ok line ≡ format.parsed before (split 32 bytes) → r ≡ tested format.tests before line → r ≡ read format before bytes
unfolding read
later_ok format before bytes line r some text is e = rw (not_first (length before) some, text, ← is) e

pub later_err : {M : Type 0} → (format : TextFormat M) (before : List M) (bytes : List ℕ) (cause : TextCause) → 1 ≤ length before → list_all is_printable bytes ≡ true
    → Err cause ≡ format.parsed before (split 32 bytes) → Err cause ≡ read format before bytes
unfolding read
later_err format before bytes cause some text is = rw (not_first (length before) some, text, ← is) refl

-- a byte that a line may not have
pub other_bytes : {M : Type 0} → (format : TextFormat M) (before : List M) (bytes : List ℕ) → 1 ≤ length before → list_all is_printable bytes ≡ false
    → read format before bytes ≡ Err Word
unfolding read
other_bytes format before bytes some other = rw (not_first (length before) some, other) refl

-- the values of the first fields are those of names and numbers in these places
values_more : (fields : List Field) (i : ℕ) (d : Field) (names names' : ℕ → List ℕ) (ns ns' : ℕ → ℕ) → i < length fields
    → ((j : ℕ) → j < i → names' j ≡ names j) → ((j : ℕ) → j < i → ns' j ≡ ns j)
    → values_at (take (suc i) fields) names' ns' ≡ values_at (take i fields) names ns ++ (value_by (get_or fields i d) (names' i) (ns' i) ∷ [])
values_more [] i d names names' ns ns' within same equal = absurd (omega arith)
values_more (f.Uuid ∷ fields) zero d names names' ns ns' within same equal = refl
values_more (f.Policy ∷ fields) zero d names names' ns ns' within same equal = refl
values_more (f.Number ∷ fields) zero d names names' ns ns' within same equal = refl
values_more (f.Uuid ∷ fields) (suc i) d names names' ns ns' within same equal =
    rw (same 0 (omega arith), values_more fields i d (λ j. names (suc j)) (λ j. names' (suc j)) (λ j. ns (suc j)) (λ j. ns' (suc j)) (omega arith) (λ j low. same (suc j) (omega arith)) (λ j low. equal (suc j) (omega arith))) refl
values_more (f.Policy ∷ fields) (suc i) d names names' ns ns' within same equal =
    rw (same 0 (omega arith), values_more fields i d (λ j. names (suc j)) (λ j. names' (suc j)) (λ j. ns (suc j)) (λ j. ns' (suc j)) (omega arith) (λ j low. same (suc j) (omega arith)) (λ j low. equal (suc j) (omega arith))) refl
values_more (f.Number ∷ fields) (suc i) d names names' ns ns' within same equal =
    rw (equal 0 (omega arith), values_more fields i d (λ j. names (suc j)) (λ j. names' (suc j)) (λ j. ns (suc j)) (λ j. ns' (suc j)) (omega arith) (λ j low. same (suc j) (omega arith)) (λ j low. equal (suc j) (omega arith))) refl

pub before_at : {X : Type 0} → (new old : List X) (i j : ℕ) (d : X) → take i new ≡ take i old → j < i → get_or new j d ≡ get_or old j d
before_at new old i j d same low = sym (get_or-take new i j d low) ∙ ap (λ xs. get_or xs j d) same ∙ get_or-take old i j d low
  where
    get_or-take : {X : Type 0} → (xs : List X) (i j : ℕ) (d : X) → j < i → get_or (take i xs) j d ≡ get_or xs j d
    get_or-take [] zero j d low = refl
    get_or-take [] (suc i) j d low = refl
    get_or-take (x ∷ xs) zero j d low = absurd (omega arith)
    get_or-take (x ∷ xs) (suc i) zero d low = refl
    get_or-take (x ∷ xs) (suc i) (suc j) d low = get_or-take xs i j d (omega arith)

-- what becomes of the values so far, whether all of them were there, and of what is read of the rest
abbrev pub continued : List Value → Bool → Result (List Value) TextCause → Result (List Value) TextCause
continued values true rest = result_map (λ more. values ++ more) rest
continued values false (Ok more) = Err Number
continued values false (Err cause) = Err cause

more_values : (values : List Value) (all : Bool) (x : Value) (field : Field) (rest : Result (List Value) TextCause)
    → continued (values ++ (x ∷ [])) all rest ≡ continued values all (with_value (Some x) field rest)
more_values values true x field (Ok more) = ap (λ (xs : List Value). Ok xs) (append_assoc values (x ∷ []) more)
more_values values true x field (Err cause) = refl
more_values values false x field (Ok more) = refl
more_values values false x field (Err cause) = refl

bad_number : (values new : List Value) (all : Bool) (field : Field) (rest : Result (List Value) TextCause) → is_name field ≡ false
    → continued new false rest ≡ continued values all (with_value None field rest)
bad_number values new all f.Uuid rest other = absurd (true≢false other)
bad_number values new all f.Policy rest other = absurd (true≢false other)
bad_number values new true f.Number (Ok more) other = refl
bad_number values new true f.Number (Err cause) other = refl
bad_number values new false f.Number (Ok more) other = refl
bad_number values new false f.Number (Err cause) other = refl

bad_word : (values : List Value) (all : Bool) → continued values all (Err Word) ≡ Err Word
bad_word values true = refl
bad_word values false = refl

bad_name : (values : List Value) (all : Bool) (field : Field) (rest : Result (List Value) TextCause) → is_name field ≡ true
    → continued values all (with_value None field rest) ≡ Err Word
bad_name values all f.Uuid rest is = bad_word values all
bad_name values all f.Policy rest is = bad_word values all
bad_name values all f.Number rest is = absurd (true≢false (sym is))

from_field : (fields : List Field) (i : ℕ) (d : Field) → i < length fields → drop i fields ≡ get_or fields i d ∷ drop (suc i) fields
from_field [] i d within = absurd (omega arith)
from_field (field ∷ fields) zero d within = refl
from_field (field ∷ fields) (suc i) d within = from_field fields i d (omega arith)

field_at : (fields : List Field) (i : ℕ) (d : Field) → i < length fields → drop i fields ≡ get_or fields i d ∷ drop (i + 1) fields
field_at fields i d within = rw (add-one i) (from_field fields i d within)

and_true : (b : Bool) → (b && true) ≡ b
and_true true = refl
and_true false = refl

pub and_false : (b : Bool) → (b && false) ≡ false
and_false true = refl
and_false false = refl

next_value : (old new : List Value) (all good : Bool) (field : Field) (word : List ℕ) (x : Value) (o : Option Value) (rest : Result (List Value) TextCause)
    → value_of field word ≡ o → good ≡ is_some (value_of field word) → (good ≡ true → value_of field word ≡ Some x)
    → new ≡ old ++ (x ∷ []) → (not good && is_name field) ≡ false
    → continued new (all && good) rest ≡ continued old all (with_value (value_of field word) field rest)
next_value old new all good field word x None rest read is put grown other =
    let bad : good ≡ false = is ∙ rw read refl in
    let number : is_name field ≡ false = rw bad at other in
    rw (bad, and_false all, read) (bad_number old new all field rest number)
next_value old new all good field word x (Some y) rest read is put grown other =
    let yes : good ≡ true = is ∙ rw read refl in
    rw (put yes, yes, and_true all, grown) (more_values old all x field rest)

-- a word more
pub value_step : (fields : List Field) (old new : List (List ℕ)) (ns ms : List ℕ) (i : ℕ) (all good : Bool) (field : Field) (word : List ℕ) (words : List (List ℕ)) (none : Field)
    → i < length fields → get_or fields i none ≡ field → good ≡ is_some (value_of field word)
    → (good ≡ true → value_of field word ≡ Some (value_by field (name_at new i) (get_or ms i 0))) → take i new ≡ take i old → take i ms ≡ take i ns
    → (not good && is_name field) ≡ false
    → continued (values_at (take (i + 1) fields) (name_at new) (slice_index ms)) (all && good) (values_in (drop (i + 1) fields) words)
    ≡ continued (values_at (take i fields) (name_at old) (slice_index ns)) all (values_in (drop i fields) (word ∷ words))
unfolding values_in
value_step fields old new ns ms i all good field word words none within here is put names numbers other =
    let grown : values_at (take (i + 1) fields) (name_at new) (slice_index ms) ≡ values_at (take i fields) (name_at old) (slice_index ns) ++ (value_by field (name_at new i) (get_or ms i 0) ∷ []) =
    rw (add-one i, ← here) (values_more fields i none (name_at old) (name_at new) (slice_index ns) (slice_index ms) within
    (λ j low. before_at new old i j (replicate 16 0) names low) (λ j low. before_at ms ns i j 0 numbers low)) in
    rw (field_at fields i none within, here)
    (next_value (values_at (take i fields) (name_at old) (slice_index ns)) _ all good field word (value_by field (name_at new i) (get_or ms i 0)) (value_of field word)
    (values_in (drop (i + 1) fields) words) refl is put grown other)

-- a word that isn't the identifier of its field
none_of : (o : Option Value) (good : Bool) → good ≡ is_some o → good ≡ false → o ≡ None
none_of None good is bad = refl
none_of (Some x) good is bad = absurd (true≢false (sym is ∙ bad))

pub is_bad : (good : Bool) → not good ≡ true → good ≡ false
is_bad true test = absurd (true≢false (sym test))
is_bad false test = refl

pub value_fails : (fields : List Field) (values : List Value) (i : ℕ) (all good : Bool) (field : Field) (word : List ℕ) (words : List (List ℕ)) (none : Field)
    → i < length fields → get_or fields i none ≡ field → good ≡ is_some (value_of field word) → good ≡ false → is_name field ≡ true
    → continued values all (values_in (drop i fields) (word ∷ words)) ≡ Err Word
unfolding values_in
value_fails fields values i all good field word words none within here is bad name =
    rw (field_at fields i none within, here, none_of (value_of field word) good is bad) (bad_name values all field (values_in (drop (i + 1) fields) words) name)

-- a word too few
pub value_lacks : (fields : List Field) (values : List Value) (i : ℕ) (all : Bool) (d : Field) → i < length fields
    → continued values all (values_in (drop i fields) []) ≡ Err Word
unfolding values_in
value_lacks fields values i all d within = rw (field_at fields i d within) (bad_word values all)

-- and too many
drop_past : (fields : List Field) (i : ℕ) → length fields ≤ i → drop i fields ≡ []
drop_past [] zero past = refl
drop_past [] (suc i) past = refl
drop_past (field ∷ fields) zero past = absurd (omega arith)
drop_past (field ∷ fields) (suc i) past = drop_past fields i (omega arith)

more_words : (values : List Value) (all : Bool) (words : List (List ℕ)) → 1 ≤ length words → continued values all (values_in [] words) ≡ Err Word
unfolding values_in
more_words values all [] some = absurd (omega arith)
more_words values all (word ∷ words) some = bad_word values all

pub values_past : (fields : List Field) (values : List Value) (i : ℕ) (all : Bool) (rest : Option (Bor (List ℕ))) → length fields ≤ i → true ≡ is_some rest
    → continued values all (values_in (drop i fields) (words_in rest)) ≡ Err Word
values_past fields values i all None past e = absurd (true≢false e)
values_past fields values i all (Some bytes) past e = rw (drop_past fields i past) (more_words values all (split 32 bytes.now) (split-some 32 bytes.now))

pub values_done : (fields : List Field) (values : List Value) (i : ℕ) (rest : Option (Bor (List ℕ))) → length fields ≤ i → false ≡ is_some rest
    → continued values true (values_in (drop i fields) (words_in rest)) ≡ Ok values
unfolding values_in
values_done fields values i None past e = rw (drop_past fields i past, append-nil values) refl
values_done fields values i (Some bytes) past e = absurd (true≢false (sym e))

pub values_bad : (fields : List Field) (values : List Value) (i : ℕ) (rest : Option (Bor (List ℕ))) → length fields ≤ i → false ≡ is_some rest
    → continued values false (values_in (drop i fields) (words_in rest)) ≡ Err Number
unfolding values_in
values_bad fields values i None past e = rw (drop_past fields i past) refl
values_bad fields values i (Some bytes) past e = absurd (true≢false (sym e))

-- what a later line is by its words: of no kind, of a kind that may not stand there, and of one that may
module _ {L : Type 0} (format : TextFormat L) (table : Table L) (by_table : format ≡ format_of table) (before : List L) (bytes word : List ℕ) (words : List (List ℕ)) (some : 1 ≤ length before) (text : list_all is_printable bytes ≡ true) (cut : split 32 bytes ≡ word ∷ words) where
  pub read_none : None ≡ kind_named table.kinds word → Err Word ≡ read format before bytes
  unfolding parsed_by
  read_none named = rw by_table (later_err (format_of table) before bytes Word some text (rw (cut, ← named) refl))

  pub read_elsewhere : (kind : LineKind L) → Some kind ≡ kind_named table.kinds word → false ≡ may_stand kind.place before → Err Word ≡ read format before bytes
  unfolding parsed_by
  read_elsewhere kind named stands = rw by_table (later_err (format_of table) before bytes Word some text (rw (cut, ← named, ← stands) refl))

  pub read_words : (kind : LineKind L) (xs : List Value) (r : Result L TextCause) → Some kind ≡ kind_named table.kinds word → true ≡ may_stand kind.place before
      → values_in kind.fields words ≡ Ok xs → r ≡ tested table.tests before (kind.make xs) → r ≡ read format before bytes
  unfolding parsed_by
  read_words kind xs r named stands are e = rw by_table (later_ok (format_of table) before bytes (kind.make xs) r some text (rw (cut, ← named, ← stands, are) refl) e)

  pub read_err : (kind : LineKind L) (cause : TextCause) → Some kind ≡ kind_named table.kinds word → true ≡ may_stand kind.place before
      → values_in kind.fields words ≡ Err cause → Err cause ≡ read format before bytes
  unfolding parsed_by
  read_err kind cause named stands are = rw by_table (later_err (format_of table) before bytes cause some text (rw (cut, ← named, ← stands, are) refl))
