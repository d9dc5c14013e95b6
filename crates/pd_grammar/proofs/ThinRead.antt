-- Lines of thin texts: what is read is what is written, in its place.
use Rattle.std.proofs.Common.{◌≤◌, List, [], ◌∷◌, refl, arith, codes}
use Rattle.std.specs.List.{AllByRecursion}
use Rattle.pd_grammar.specs.Tables.{words_by, kind_named, format_of}
use Rattle.pd_grammar.proofs.GrammarLemmas.{IsGrammar}
use Rattle.pd_grammar.proofs.WordLemmas.{plain_word, room_of}
use Rattle.pd_grammar.proofs.TableLemmas.{FitsBy, PlacedBy, IsFirst, IsMade, IsLawful, values_short, short_by, table_grammar}
use Rattle.pd_grammar.specs.ThinText.{Line, first_line, shared_first_line, pool_line, leaf_line, device_line, use_line, map_line, end_line, table_from, thin, thin_table, pool_format, pool_table, values_of_line, kind_of_line}

-- the numbers and the uuid of a line can be written
abbrev pub FitsLine : Line → Type 0
FitsLine line = FitsBy thin_table line

-- the line may stand after these ones, in a text of version 1, and in one of either version
abbrev pub Placed : List Line → Line → Type 0
Placed before line = PlacedBy thin_table before line

abbrev pub PlacedInPool : List Line → Line → Type 0
PlacedInPool before line = PlacedBy pool_table before line

module _ (firsts : List Line) (lawful : AllByRecursion (IsFirst (table_from firsts)) firsts) where
  made : (line : Line) → IsMade (table_from firsts) line (kind_of_line line)
  unfolding kind_named
  made first_line = (omega arith, (plain_word (codes "thin") refl, (plain_word (codes "1") refl, tt)))
  made shared_first_line = (omega arith, (plain_word (codes "thin") refl, (plain_word (codes "2") refl, tt)))
  made (pool_line p) = (refl, (refl, refl))
  made (leaf_line l) = (refl, (refl, refl))
  made (device_line d) = (refl, (refl, refl))
  made (use_line n) = (refl, (refl, refl))
  made (map_line r) = (refl, (refl, refl))
  made end_line = (refl, (refl, refl))

  table_lawful : IsLawful (table_from firsts)
  table_lawful = record {
    firsts = lawful;
    keywords = (
      plain_word (codes "map") refl,
      (
        plain_word (codes "use") refl,
        (
          plain_word (codes "leaf") refl,
          (plain_word (codes "device") refl, (plain_word (codes "pool") refl, (plain_word (codes "end") refl, tt))),
        ),
      ),
    );
    makes = (λ xs. (refl, refl), (λ xs. (refl, refl), (λ xs. (refl, refl), (λ xs. (refl, refl), (λ xs. (refl, refl), (λ xs. (refl, refl), tt))))));
    made = made;
  }

  -- no line is longer than 160 bytes
  narrow : (line : Line) → FitsLine line → room_of (words_by (table_from firsts) line) ≤ 160
  narrow first_line fits = omega arith
  narrow shared_first_line fits = omega arith
  narrow (pool_line p) fits = omega (arith, values_short (values_of_line (pool_line p)) fits)
  narrow (leaf_line l) fits = omega (arith, values_short (values_of_line (leaf_line l)) fits)
  narrow (device_line d) fits = omega (arith, values_short (values_of_line (device_line d)) fits)
  narrow (use_line n) fits = omega (arith, values_short (values_of_line (use_line n)) fits)
  narrow (map_line r) fits = omega (arith, values_short (values_of_line (map_line r)) fits)
  narrow end_line fits = omega arith

  grammar_from : IsGrammar (format_of (table_from firsts)) FitsLine (PlacedBy (table_from firsts))
  grammar_from = table_grammar (table_from firsts) table_lawful (λ before line fits placed passes. short_by (table_from firsts) line (narrow line fits))

-- a thin text reads what it writes, of version 1 alone and of either version
pub thin_grammar : IsGrammar thin FitsLine Placed
thin_grammar = grammar_from (first_line ∷ []) (record { kind = refl; values = refl; printable = refl }, tt)

pub pool_grammar : IsGrammar pool_format FitsLine PlacedInPool
pool_grammar =
    grammar_from (first_line ∷ shared_first_line ∷ [])
    (record { kind = refl; values = refl; printable = refl }, (record { kind = refl; values = refl; printable = refl }, tt))
