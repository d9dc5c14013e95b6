use Rattle.std.proofs.Common.{◌≡◌, ◌+◌, ◌≤◌}
use Rattle.pd_grammar.specs.ThinText.{mappings_from}
use Rattle.pd_laid.specs.LaidThin.{mapping_items}
use Rattle.pd_devices.specs.SharedGrowth.{TakesAll}
use Rattle.pd_devices.proofs.piece.put_run.Given as goal

abbrev pub invariant-loop-i : goal.invariant-loop-i
invariant-loop-i g l = record {
  same_reference : l.draft.dev.ghost_name ≡ l.initial.draft.dev.ghost_name;
  takes : TakesAll 8 (mapping_items (mappings_from l.fn.run.virt l.fn.run.target l.fn.run.time l.i)) l.initial.builder l.builder l.initial.row l.row
      (record { device = g.D.Device.state l.initial.draft.dev.now; place = l.initial.draft.next }) (record { device = g.D.Device.state l.draft.dev.now; place = l.draft.next });
  low : l.builder.low ≤ l.fn.run.virt + l.i;
}
