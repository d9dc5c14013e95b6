use Rattle.pd_count.specs.Counted.{digits_number, waiting_number}
use Rattle.pd_count.proofs.FormLemmas.{numbers_same}
use Rattle.pd_count.proofs.chunk.form_of.Goals as goal

pub returns-then-len-eq-CHUNK_COUNTS-clause-same : goal.returns-then-len-eq-CHUNK_COUNTS-clause-same
returns-then-len-eq-CHUNK_COUNTS-clause-same c =
    rw c.in_ok-new.ensures.ok (numbers_same 16320 (digits_number c.args.digits.items) (waiting_number c.in_ok-places.places) c.in_ok-places.ensures.numbers)
