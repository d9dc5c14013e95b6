use Rattle.std.proofs.Common.{◌≡◌, filter}
use Rattle.pd_kinds.proofs.ResultLemmas.{if_then}
use Rattle.pd_meaning_era.specs.Eras.{sets_below}
use Rattle.pd_meaning_era.specs.Notes.{Knows}
use Rattle.pd_meaning_era.specs.Notes.{HasSets, is_set_from}
use Rattle.pd_meaning_era.proofs.KnownLemmas.{knows_nothing}
use Rattle.pd_meaning_era.proofs.SetLemmas.{has_rows}
use Rattle.pd_meaning_era.proofs.rows.rows_of.Goals as goal

pub returns-clause-rows : goal.returns-clause-rows
returns-clause-rows g c =
    let s = c.args.s.now in
    let walk = c.in_ok-walk.walk in
    let last = c.add_from_last.new.walk in
    if_then (g.D.Device.state c.args.dev.now).held (g.D.Device.state c.sets_since.new.dev).held
    (λ image. c.in_ok-sets.sets.items ≡ filter (is_set_from c.args.least) (sets_below image s.writesets_root))
    (λ image. Knows image walk → HasSets image s.blocks c.add_current.new.sets.items walk.rows.items last.rows.items)
    _ c.in_ok-sets.ensures.kept.held
    (λ image archived has.
    has_rows image c.args.least s c.in_ok-sets.sets.items c.add_current.new.sets.items walk.rows.items last.rows.items c.add_current.ensures.era archived c.in_ok-add_current.ensures.added c.in_ok-walk.ensures.rows
    (has (knows_nothing image walk c.in_ok-walk.ensures.notes)))
    c.in_ok-sets.ensures.sets c.in_ok-add_from_last.ensures.sets
