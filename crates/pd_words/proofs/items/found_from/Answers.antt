use Rattle.std.proofs.Common.{◌∙◌, sym, map, string_bytes}
use Rattle.std.proofs.lemmas.List.{length-map}
use Rattle.pd_words.proofs.ItemLemmas.{values_end, values_none, values_found, values_skip}
use Rattle.pd_words.proofs.items.found_from.Goals as goal

pub returns-in-None : goal.returns-in-None
returns-in-None c =
    rw c.loop-at.invariant (values_none (map string_bytes c.args.words.now) c.args.purpose.now c.loop-at.at c.in-None.ensures.items)

pub returns-then-eq : goal.returns-then-eq
returns-then-eq c =
    c.loop-at.invariant ∙ values_found (map string_bytes c.args.words.now) c.args.purpose.now c.loop-at.at _ _ _ c.in-Some.ensures.items (sym c.eq.ensures ∙ c.if-eq.true)

pub loop-at-preserved : goal.loop-at-preserved
loop-at-preserved c =
    c.loop-at.invariant ∙ values_skip (map string_bytes c.args.words.now) c.args.purpose.now c.loop-at.at _ _ _ c.in-Some.ensures.items (sym c.eq.ensures ∙ c.if-eq.false)

pub returns : goal.returns
returns c =
    rw c.loop-at.invariant (values_end (map string_bytes c.args.words.now) c.args.purpose.now c.loop-at.at (rw (length-map c.args.words.now string_bytes) c.loop-at-test.false))
