-- The table of the tools, as the definitions speak of it: the names are lists of bytes.
use Rattle.std.specs.Prelude.{Bool, ℕ, List, map}
use Rattle.std.specs.Borrow.{Bor}
use Rattle.std.specs.List.{list_any}
use Rattle.pd_answers.specs.declared.tool.ToolWords.{ToolWords as ToolWordsOf}
use Rattle.pd_answers.specs.declared.tool.Word.{Word as WordOf}
use Rattle.pd_answers.specs.Tools.{ToolWords, Word}
use Rattle.pd_answers.specs.Words.{is_named_flag}

-- a word that can be given, and a form of a tool, as code has them
abbrev pub NamedWord : Type 0
NamedWord = WordOf (Bor (List ℕ))

abbrev pub ToolForm : Type 0
ToolForm = ToolWordsOf (Bor (List ℕ)) (Bor (List NamedWord))

abbrev pub word_as : NamedWord → Word
word_as word = record { name = word.name.now; need = word.need }

abbrev pub row_as : ToolForm → ToolWords
row_as row = record { name = row.name.now; tool = row.tool; words = map word_as row.words.now }

-- whether a tool has a flag of this name
abbrev pub has_flag : List ℕ → ToolWords → Bool
has_flag name row = list_any (is_named_flag name) row.words
