use Rattle.std.proofs.lemmas.Option.{IfSome_then}
use Rattle.pd_salvage_cache.proofs.KeptEntries.{saved_is, saved_lawful}
use Rattle.pd_salvage_cache.proofs.salvage.salvage_cache.Goals as goal

pub of_parts-requires : goal.of_parts-requires
of_parts-requires g c =
    let head = c.head_of.ensures in
    rw head.head (saved_lawful c.args.s.now c.in_ok-rows.rows.items c.in_ok-kept.kept.items (rw head.head at head.fits) c.requires.hints c.in_ok-rows.ensures.ascend c.in_ok-kept.ensures)

pub returns-clause-saved : goal.returns-clause-saved
returns-clause-saved g c =
    IfSome_then (g.D.Device.state c.args.dev.now).held c.in_ok-rows.ensures.found (λ image found.
    rw (c.of_parts.ensures, c.head_of.ensures.head) (saved_is c.args.s.now image c.in_ok-rows.rows.items c.in_ok-kept.kept.items c.in_ok-kept.ensures found))

pub returns-clause-unknown : goal.returns-clause-unknown
returns-clause-unknown g c = IfSome_then (g.D.Device.state c.args.dev.now).held c.in_ok-rows.ensures.unknown (λ image unknown. rw c.of_parts.ensures unknown)
