-- Lines of era texts: what is read is what is written, in its place.
use Rattle.std.proofs.Common.{◌≤◌, List, refl, arith, codes}
use Rattle.pd_grammar.specs.Tables.{words_by, kind_named}
use Rattle.pd_grammar.proofs.GrammarLemmas.{IsGrammar}
use Rattle.pd_grammar.proofs.WordLemmas.{plain_word, room_of}
use Rattle.pd_grammar.proofs.TableLemmas.{FitsBy, PlacedBy, IsMade, IsLawful, values_short, short_by, table_grammar}
use Rattle.pd_grammar.specs.EraText.{Line, first_line, era_line, run_line, end_line, era, era_table, values_of_line, kind_of_line}

-- the numbers and the uuid of a line can be written
abbrev pub FitsLine : Line → Type 0
FitsLine line = FitsBy era_table line

-- the line may stand after these ones
abbrev pub Placed : List Line → Line → Type 0
Placed before line = PlacedBy era_table before line

made : (line : Line) → IsMade era_table line (kind_of_line line)
unfolding kind_named
made first_line = (omega arith, (plain_word (codes "era") refl, (plain_word (codes "1") refl, tt)))
made (era_line h) = (refl, (refl, refl))
made (run_line r) = (refl, (refl, refl))
made end_line = (refl, (refl, refl))

era_lawful : IsLawful era_table
era_lawful = record {
  firsts = (record { kind = refl; values = refl; printable = refl }, tt);
  keywords = (plain_word (codes "run") refl, (plain_word (codes "era") refl, (plain_word (codes "end") refl, tt)));
  makes = (λ xs. (refl, refl), (λ xs. (refl, refl), (λ xs. (refl, refl), tt)));
  made = made;
}

-- no line is longer than 160 bytes
narrow : (line : Line) → FitsLine line → room_of (words_by era_table line) ≤ 160
narrow first_line fits = omega arith
narrow (era_line h) fits = omega (arith, values_short (values_of_line (era_line h)) fits)
narrow (run_line r) fits = omega (arith, values_short (values_of_line (run_line r)) fits)
narrow end_line fits = omega arith

-- an era text reads what it writes
pub era_grammar : IsGrammar era FitsLine Placed
era_grammar = table_grammar era_table era_lawful (λ before line fits placed passes. short_by era_table line (narrow line fits))
