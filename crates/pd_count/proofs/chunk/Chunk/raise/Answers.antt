use Rattle.std.proofs.Common.{◌∙◌, sym, ap, ℕ, length}
use mathlib.Core.Bool.{false≢true}
use Rattle.std.proofs.lemmas.List.{with_items_is}
use Rattle.pd_count.specs.Counted.{digits_number, form_numbers}
use Rattle.pd_count.specs.contracts.chunk.Chunk.{the_view}
use Rattle.pd_count.proofs.FormLemmas.{raised_shown, shown_dense}
use Rattle.pd_count.proofs.chunk.Chunk.raise.Goals as goal
use Rattle.pd_count.proofs.chunk.Chunk.raise.Goals.{in-Few, in-Dense, in-Waiting}

pub returns-clause-raised : goal.returns-clause-raised
returns-clause-raised c = elim c.match-self.branch [
  | in-Few w ↦ λ raised. absurd (false≢true (sym w.result-is ∙ raised))
  | in-Waiting w ↦ λ raised. absurd (false≢true (sym w.result-is ∙ raised))
  | in-Dense w ↦ λ raised.
      let digits = w.in-Dense.digits in
      let read = w.deref_mut.ensures.value in
      let new = w.raise.new.digits in
      let whole = with_items_is digits new (w.raise.auto.digits ∙ (ap (length {A = ℕ}) read ∙ sym digits.ok.0)) in
      let before = shown_dense c.args.self.now digits.items w.deref_mut.result.now (sym c.self.view_is ∙ ap form_numbers w.in-Dense.is) read in
      let after = shown_dense (the_view c.match-self.self-inside) _ new (ap the_view w.self-inside-is) (sym whole) in
      raised_shown c.args.at c.args.self.now (the_view c.match-self.self-inside) (digits_number w.deref_mut.result.now) (digits_number new) c.requires before after
      (w.raise.ensures.raised (sym w.result-is ∙ raised))
]
