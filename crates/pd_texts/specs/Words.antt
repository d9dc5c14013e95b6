-- Words of a line, as the code looks at them.
-- Lines as the definitions speak of them.
use Rattle.std.specs.Prelude.{ℕ, Bool, true, false, List, [], get_or, slice_index, replicate, Option, Some, None, Result, Ok, Err}
use Rattle.std.specs.Borrow.{Bor}
use Rattle.pd_grammar.specs.declared.value.Field.{Field}
use Rattle.pd_grammar.specs.declared.value.Value.{Value}
use Rattle.pd_grammar.specs.Texts.{split}
use Rattle.pd_grammar.specs.Tables.{LineKind}
use Rattle.pd_grammar.proofs.TableLemmas.{values_at}
use Rattle.pd_grammar.specs.declared.value.Field.TheVariants as f
use Rattle.pd_grammar.specs.declared.value.Value.TheVariants as v

-- the first of the words of some bytes
abbrev pub first_word : List ℕ → List ℕ
first_word bytes = get_or (split 32 bytes) 0 []

-- the words of what follows a word
abbrev pub words_in : Option (Bor (List ℕ)) → List (List ℕ)
words_in None = []
words_in (Some bytes) = split 32 bytes.now

-- whether a field has an identifier
abbrev pub is_name : Field → Bool
is_name f.Uuid = true
is_name f.Policy = true
is_name f.Number = false

-- the identifier in a place, from 0
abbrev pub name_at : List (List ℕ) → ℕ → List ℕ
name_at names i = get_or names i (replicate 16 0)

-- the value of a field, of an identifier and a number
abbrev pub value_by : Field → List ℕ → ℕ → Value
value_by f.Uuid name n = v.Uuid name
value_by f.Policy name n = v.Policy name
value_by f.Number name n = v.Number n

-- the line of a kind, of the identifiers and numbers of its fields
abbrev pub made_of : {L : Type 0} → LineKind L → List (List ℕ) → List ℕ → L
made_of kind names numbers = kind.make (values_at kind.fields (name_at names) (slice_index numbers))

-- what a line means, where one was read
abbrev pub seen_by : {X Y E : Type 0} → (X → Y) → Result X E → Result Y E
seen_by meant (Ok line) = Ok (meant line)
seen_by meant (Err e) = Err e
