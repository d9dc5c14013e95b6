use Rattle.std.proofs.Common.{refl}
use Rattle.pd_salvage_shapes.proofs.visiting.Visiting.begin.Goals as goal

pub returns : goal.returns
returns c =
    let none = c.clear-2.ensures.items in
    record {
      same = (refl, refl, refl);
      ready = record {
        places = c.requires.places;
        notes = c.requires.notes;
        met = rw none (record { within = tt; lawful = λ rest are. are; counted = refl });
      };
      depth = c.clear.ensures.depth;
      knows = c.clear.ensures.knows;
      none = (none, refl);
    }
