use Rattle.std.proofs.Common.{◌*◌, ◌+◌, ◌≤◌, ℕ, List, length, sym, ap, subst, ◌∙◌, arith}
use Rattle.std.proofs.lemmas.Option.{IfSome_then}
use Rattle.pd_array.specs.declared.array.Word.TheVariants.{Eight}
use Rattle.pd_kinds.specs.Graph.{block_at}
use Rattle.pd_kinds.proofs.ResultLemmas.{if_any}
use Rattle.pd_tree.specs.Cursor.{words_from}
use Rattle.pd_tree.proofs.StackLemmas.{block_found}
use Rattle.pd_tree.proofs.NextLemmas.{words_outside}
use Rattle.pd_meaning_era.specs.Eras.{Raises, holds_from}
use Rattle.pd_meaning_era.specs.Notes.{row_holds}
use Rattle.pd_meaning_era.proofs.RaiseLemmas.{few_words, length-words}
use Rattle.pd_meaning_era.proofs.LevelLemmas.{from_nothing}
use Rattle.pd_meaning_era.proofs.RaiseLemmas.{raises_none}
use Rattle.pd_meaning_era.proofs.PartLemmas.{no_bits}
use Rattle.pd_meaning_era.proofs.part.raise_row.Goals as goal

pub returns-then-not-may_lie-clause-raised : goal.returns-then-not-may_lie-clause-raised
returns-then-not-may_lie-clause-raised g c =
    let row = c.args.row.now in
    let part = c.args.part.now in
    if_any (g.D.Device.state c.args.dev.now).held (λ image.
    let block = block_at image row.block in
    let number = length-words 8 block 0 in
    let few = few_words block in
    raises_none row.era (λ i. row_holds image row (64 * c.args.base + i)) part
    (λ i within. no_bits row.end row.first c.args.base (length part) (words_from 8 block 0) i within (omega arith) (c.may_lie.ensures c.if-not-may_lie.true)))

pub returns-then-row-blocks-clause-raised : goal.returns-then-row-blocks-clause-raised
returns-then-row-blocks-clause-raised g c =
    let row = c.args.row.now in
    IfSome_then (g.D.Device.state c.args.dev.now).held c.blocks-2.ensures.honest (λ image honest.
    let outside : length image ≤ row.block = omega arith in
    raises_none row.era (λ i. row_holds image row (64 * c.args.base + i)) c.args.part.now
    (λ i within. ap (λ (words : List ℕ). holds_from row.end row.first words (64 * c.args.base + i)) (words_outside Eight image row.block outside) ∙ from_nothing row.end row.first (64 * c.args.base + i)))

pub returns-clause-raised : goal.returns-clause-raised
returns-clause-raised g c =
    let row = c.args.row.now in
    IfSome_then (g.D.Device.state c.args.dev.now).held c.in_ok-read.ensures.content (λ image content.
    subst (λ (block : List ℕ). Raises row.era (λ i. holds_from row.end row.first (words_from 8 block 0) (64 * c.args.base + i)) c.args.part.now c.raise_by.new.part) (sym (block_found image row.block c.read.new.into.0 content))
    c.raise_by.ensures.raised)
