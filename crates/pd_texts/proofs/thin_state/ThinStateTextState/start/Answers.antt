use Rattle.std.proofs.Common.{refl, arith}
use Rattle.pd_texts.proofs.thin_state.ThinStateTextState.start.Goals as goal

pub returns : goal.returns
returns c = record {
  stage = refl;
  is_shared = refl;
  blocks = refl;
  least_id = refl;
  has_device = refl;
  piece_end = refl;
  unmapped = refl;
  leaves = c.new.ensures;
  short = λ none. omega arith;
}
