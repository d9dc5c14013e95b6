use Rattle.std.proofs.Common.{◌∷◌, []}
use Rattle.pd_grammar.specs.ThinText.{first_line, shared_first_line}
use Rattle.pd_grammar.proofs.ThinRead.{pool_grammar}
use Rattle.pd_texts.proofs.ThinNextLemmas.{pool_read, leaf_read, device_read, use_read, run_read, end_read}
use Rattle.pd_texts.proofs.thin_laws.read_pool_lines_are_in_range.Goals as goal

pub returns : goal.returns
returns c =
    let firsts = first_line ∷ shared_first_line ∷ [] in
    record {
      pool = pool_read firsts pool_grammar;
      leaf = leaf_read firsts pool_grammar;
      device = device_read firsts pool_grammar;
      used = use_read firsts pool_grammar;
      map = run_read firsts pool_grammar;
      end = end_read firsts pool_grammar;
    }
