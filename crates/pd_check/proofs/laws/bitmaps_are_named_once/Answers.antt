use Rattle.pd_check.proofs.NamedLemmas.{named_once}
use Rattle.pd_check.proofs.laws.bitmaps_are_named_once.Goals as goal

pub returns : goal.returns
returns c = λ graph image is_bitmap part role lawful none few bitmap once.
    named_once graph image is_bitmap part role few bitmap none (λ b own reached. c.edges_lead_to_reached_pairs.ensures.edges graph image b own lawful reached) once
