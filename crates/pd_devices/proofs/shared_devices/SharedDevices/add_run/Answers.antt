use Rattle.std.proofs.Common.{◌∷◌, refl, arith}
use Rattle.pd_grammar.specs.Texts.{has_ended}
use Rattle.std.specs.List.{flat_map}
use Rattle.pd_grammar.specs.Need.{data_of_line}
use Rattle.pd_grammar.specs.ThinText.{map_line, pool_format}
use Rattle.pd_laid.specs.PoolText.{told_devices}
use Rattle.pd_devices.specs.Devices.{run_of}
use Rattle.pd_devices.proofs.DeviceLemmas.{on_ok}
use Rattle.pd_devices.proofs.RoomLemmas.{own_within}
use Rattle.pd_devices.proofs.RoomLemmas.{parts_within}
use Rattle.pd_devices.proofs.RunLemmas.{gathered_run, held_most, total_more}
use Rattle.pd_devices.proofs.shared_devices.SharedDevices.add_run.Goals as goal

pub add_run-requires-clause-few : goal.add_run-requires-clause-few
add_run-requires-clause-few c =
    let g = c.requires.gathered.so_far in
    let r = run_of c.args.run in
    let after = map_line r ∷ g.before in
    omega (
      arith,
      total_more r g.gathered c.requires.gathered.follows,
      own_within (has_ended pool_format after) (told_devices after),
      parts_within g.room after,
      c.requires.gathered.fits,
      g.most,
    )

pub add-requires : goal.add-requires
add-requires c =
    let g = c.requires.gathered.so_far in
    let r = run_of c.args.run in
    let after = map_line r ∷ g.before in
    record {
      few = omega (
        arith,
        held_most g.gathered,
        own_within (has_ended pool_format g.before) (told_devices g.before),
        parts_within g.room g.before,
        g.need,
        g.most,
        total_more r g.gathered c.requires.gathered.follows,
        own_within (has_ended pool_format after) (told_devices after),
        parts_within g.room after,
        c.requires.gathered.fits,
      );
    }

pub returns : goal.returns
returns c = record {
  gathered = λ room before start now h next fits.
      let counted = c.in_ok-add_run.ensures in
      on_ok c.add.result (c.add.ensures.held _ h.held)
      (λ held. gathered_run before c.args.self.now _ (run_of c.args.run) h next counted.size counted.total (counted.listed (flat_map data_of_line before) h.counts.counted)
      held refl refl refl refl refl refl refl);
}
