use Rattle.std.proofs.Common.{◌∷◌, [], sym, ◌∙◌, arith}
use Rattle.std.proofs.lemmas.List.{length-append}
use Rattle.pd_meaning_thin.specs.Runs.{mapping_of}
use Rattle.pd_salvage_shapes.proofs.NoteLemmas.{end_more, first_more}
use Rattle.pd_salvage_shapes.proofs.note.LeafGathering.take.Goals as goal

pub returns : goal.returns
returns c = λ ms is.
    let m = mapping_of (c.args.virt, c.args.mapping) in
    record {
      joining = c.in_ok-take.ensures [] ms is.joining;
      mapped = omega (arith, is.mapped, length-append ms (m ∷ []));
      first = c.least_key-first.ensures ∙ rw (is.mapped, is.first) (sym (first_more ms m));
      end = sym (end_more ms m);
    }
