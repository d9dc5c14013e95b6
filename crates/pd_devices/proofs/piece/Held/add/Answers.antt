use Rattle.std.proofs.Common.{List, ◌∷◌, [], ◌++◌, ap, ◌∙◌, arith}
use Rattle.std.proofs.lemmas.List.{map-append}
use Rattle.pd_grammar.specs.ThinText.{Run}
use Rattle.pd_devices.specs.Devices.{run_of}
use Rattle.pd_meaning_thin.specs.declared.joined.Run.{Run as Packed}
use Rattle.pd_meaning_thin.specs.Runs.{spelled}
use Rattle.pd_devices.specs.SharedGrowth.{runs_of}
use Rattle.pd_devices.proofs.PieceLemmas.{number_behind}
use Rattle.pd_devices.proofs.piece.Held.add.Goals as goal

pub returns : goal.returns
returns c =
    let run : Packed = record { virt = c.args.run.virtual_block; target = c.args.run.data_block; length = c.args.run.length; time = c.args.run.time } in
    record {
      held = λ runs h. record {
        runs_are =
            ap runs_of c.in_ok-push.ensures.pushed
            ∙ (map-append spelled c.args.self.now.runs (run ∷ []) ∙ ap (λ (rs : List Run). rs ++ run_of c.args.run ∷ []) h.runs_are);
        number = omega (arith, h.number, number_behind runs (run_of c.args.run));
      };
    }
