use Rattle.std.proofs.Common.{◌≡◌, ◌≤◌, ◌∙◌, sym, ap, ℕ, length, arith}
use Rattle.std.proofs.lemmas.Bool.{leb-true}
use Rattle.pd_count.specs.Counted.{few_numbers, form_numbers}
use Rattle.pd_count.proofs.FormLemmas.{few_size}
use Rattle.pd_count.proofs.chunk.Chunk.is_full.Goals as goal

pub returns-in-Few : goal.returns-in-Few
returns-in-Few c = λ full.
    let entries = c.in-Few.entries in
    let is : c.args.self.now ≡ few_numbers entries.items = sym c.self.view_is ∙ ap form_numbers c.in-Few.is in
    let many : 256 ≤ c.len.result = leb-true 256 c.len.result full in
    ap (length {A = ℕ}) is ∙ few_size entries.items (omega (arith, c.len.ensures, entries.ok.0))
