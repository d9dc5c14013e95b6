use Rattle.std.proofs.Common.{ap, not, ◌&&◌, ◌||◌, nat_eq, get_or, false, Bool, List, ℕ, [], Option, ◌∙◌}
use Rattle.std.specs.Option.{unwrap_or}
use Rattle.std.proofs.lemmas.Option.{IfSome_then}
use Rattle.pd_salvage_cache.proofs.FullerLemmas.{child_is}
use Rattle.pd_salvage_cache.proofs.candidates.mark_from.Goals as goal

pub returns-clause-marks : goal.returns-clause-marks
returns-clause-marks g c =
    IfSome_then (g.D.Device.state c.args.dev.now).held c.in_ok-read.ensures.content (λ image found child within.
    c.mark_children.ensures.marks child within
    ∙ ap (λ (named : Bool). get_or c.args.marks.now child false || (not (nat_eq c.args.place child) && named))
    (child_is image c.args.place child c.read.new.into.0 (ap (λ (o : Option (List ℕ)). unwrap_or o []) found)))
