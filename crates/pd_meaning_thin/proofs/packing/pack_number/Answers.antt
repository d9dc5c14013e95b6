use Rattle.std.proofs.Common.{[], ◌∷◌, ◌++◌, ◌+◌, ◌%◌, List, ℕ, ap, ◌∙◌, append_assoc, arith}
use Rattle.pd_meaning_thin.specs.Packed.{packed_number}
use Rattle.pd_meaning_thin.proofs.NumberLemmas.{packed_number-step, packed_number-end}
use Rattle.pd_meaning_thin.proofs.packing.pack_number.Goals as goal

pub loop-rest-preserved : goal.loop-rest-preserved
loop-rest-preserved c =
    let l = c.loop-rest in
    let byte = (l.rest % 128 + 128) ∷ [] in
    record {
      packed = rw c.in_ok-push.ensures.items
          (packed_number-step l.bytes.items (c.args.bytes.now.items ++ packed_number c.args.number) l.rest (omega arith) l.invariant.packed);
      kept = (
        l.invariant.kept.0 ++ byte,
        c.in_ok-push.ensures.items
            ∙ ap (λ (front : List ℕ). front ++ byte) l.invariant.kept.1
            ∙ append_assoc c.args.bytes.now.items l.invariant.kept.0 byte,
      );
    }

pub returns-clause-packed : goal.returns-clause-packed
returns-clause-packed c =
    let l = c.loop-rest in
    c.in_ok-push-2.ensures.items
    ∙ packed_number-end l.bytes.items (c.args.bytes.now.items ++ packed_number c.args.number) l.rest (omega arith) l.invariant.packed
