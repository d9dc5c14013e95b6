use Rattle.std.proofs.Common.{ap, length, List, ℕ}
use Rattle.std.proofs.lemmas.Option.{IfSome_then}
use Rattle.std.proofs.lemmas.Result.{on_ok_weaker}
use Rattle.pd_value.specs.declared.thin.Root.{Root}
use Rattle.pd_tree.specs.Cursor.{cursor_items}
use Rattle.pd_tree.specs.Cursor.{root_of}
use Rattle.pd_meaning_thin.specs.Walk.{roots_below, roots_of}
use Rattle.pd_meaning_thin.proofs.FoundLemmas.{first_walk}
use Rattle.pd_meaning_thin.proofs.marks.walk_pool.Goals as goal

pub returns-clause-marked : goal.returns-clause-marked
returns-clause-marked g c =
    on_ok_weaker c.walk_devices.result
    (λ walked. IfSome_then (g.D.Device.state c.args.dev.now).held walked (λ image walks proper.
    first_walk image (roots_below image c.args.s.now.mapping_root) (roots_of (cursor_items 8 root_of image c.in_ok-devices.devices)) (length c.args.marks.now) c.args.marks.now c.walk_devices.new.marks
    c.requires.unseen c.walk_devices.ensures.same_number (ap (λ (items : List (ℕ × Root)). roots_of items) (c.in_ok-devices.ensures.items image)) walks proper))
    c.walk_devices.ensures.walked
