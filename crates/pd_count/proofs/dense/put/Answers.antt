use Rattle.std.proofs.Common.{◌∙◌, sym, ap, subst, List, ℕ, get_or, length, arith}
use Rattle.std.proofs.lemmas.List.{with_items_is}
use Rattle.pd_count.specs.Counted.{Puts, digits_number}
use Rattle.pd_count.proofs.FormLemmas.{low_put, puts_same}
use Rattle.pd_count.proofs.dense.put.Goals as goal

pub returns-then-len-eq-CHUNK_COUNTS-clause-put : goal.returns-then-len-eq-CHUNK_COUNTS-clause-put
returns-then-len-eq-CHUNK_COUNTS-clause-put c =
    low_put c.args.digits.now.items c.args.at c.args.number c.requires.place (omega (arith, c.len.ensures, c.if-len-eq-CHUNK_COUNTS.true))

pub returns-clause-put : goal.returns-clause-put
returns-clause-put c =
    let room = c.take_memory.new.digits in
    let read = c.deref_mut.ensures.value in
    let whole = with_items_is room c.write.new.digits (c.write.ensures.size ∙ (ap (length {A = ℕ}) read ∙ sym room.ok.0)) in
    subst (λ (d : List ℕ). Puts c.args.at c.args.number (digits_number c.args.digits.now.items) (digits_number d)) (sym whole)
    (puts_same c.args.digits.now.items c.deref_mut.result.now c.args.at c.args.number (digits_number c.write.new.digits)
    (λ k. ap (λ (xs : List ℕ). get_or xs k 0) read ∙ c.take_memory.ensures.same k) c.write.ensures.put)
