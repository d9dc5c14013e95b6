-- The mappings of the runs that are put together.
use Rattle.std.specs.Prelude.{List, ◌++◌}
use Rattle.pd_uses.specs.declared.hit_runs.Joining.{Joining}
use Rattle.pd_uses.specs.declared.hits.Hit.{Hit}
use Rattle.pd_uses.specs.Hits.{run_hits, runs_hits}

abbrev pub joined_hits : Joining → List Hit
joined_hits joining = runs_hits joining.done.items ++ run_hits joining.open
