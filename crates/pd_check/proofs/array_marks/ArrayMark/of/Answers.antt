use Rattle.std.proofs.Common.{inl, inr, ℕ, ◌-◌, ◌≤◌, List, arith}
use Rattle.std.proofs.lemmas.Bool.{cases_lt}
use Rattle.pd_kinds.specs.Array.{word_count}
use Rattle.pd_kinds.proofs.KindLemmas.{counted_below}
use Rattle.pd_array.specs.declared.array.Word.{Word}
use Rattle.pd_array.specs.Word.{size_of}
use Rattle.pd_array.proofs.ArrayWritten.{has_room}
use Rattle.pd_check.proofs.array_marks.ArrayMark.of.Goals as goal

-- a block has at most 1018 words
few_words : (word : Word) (block : List ℕ) → word_count (size_of word) block ≤ 1018
few_words word block =
    let number = word_count (size_of word) block in
    let max = (has_room word).max in
    elim (cases_lt 0 number) [
      | inl some ↦ let last = counted_below (size_of word) block (number - 1) (omega arith) in omega (arith, last.0, last.1)
      | inr none ↦ omega arith
    ]

pub overflow_cast-result : goal.overflow_cast-result
overflow_cast-result c = omega (arith, few_words c.args.word c.args.block.now.0, c.array_len.ensures)
