use Rattle.pd_cache.proofs.room.CacheMemoryWatch.see.Goals as goal

pub see-requires-clause-room : goal.see-requires-clause-room
see-requires-clause-room g c = record { roles = c.requires.room.roles; places = λ few. (c.requires.room.is few).marks }

pub returns-clause-room : goal.returns-clause-room
returns-clause-room g c = record {
  roles = c.requires.room.roles;
  is = λ few. let room = c.requires.room.is few in record { marks = c.see.ensures.room.places few; origins = room.origins; fresh = room.fresh };
}
