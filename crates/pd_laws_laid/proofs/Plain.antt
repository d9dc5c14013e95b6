-- What a format's graph sees of a sound block whose role isn't a tree's.
use Rattle.std.proofs.Common.{◌≡◌, ℕ, ◌<◌, ◌≤◌, false, List, refl, ◌∙◌, arith}
use Rattle.std.proofs.lemmas.Bool.{both_ways}
use Rattle.pd_kinds.specs.declared.rule.Rule.{Rule}
use Rattle.pd_kinds.specs.Rule.{all_rules}
use Rattle.pd_kinds.specs.Layout.{Layout, layout_bad, is_bad, is_tree_layout, layout_edges, layout_data, graph_of}
use Rattle.pd_kinds.specs.Graph.{Graph, block_at, pair, is_inner_pair, is_deep}
use Rattle.pd_kinds.proofs.KindLemmas.{none_broken}
use Rattle.pd_laid.specs.Laid.{LaidBlock}
use Rattle.pd_laws_laid.specs.LaidOut.{IsSeen}
use Rattle.pd_laws_laid.proofs.Levels.{no_chain}
use Rattle.pd_laws_laid.proofs.Nodes.{at_pair}

module _ (roles nr data_blocks : ℕ) (table : ℕ → Layout) (image : List (List ℕ)) where
  abbrev pub this : Graph
  this = graph_of roles nr data_blocks table

  -- it is no node, and it names what its layout says
  pub plain_seen : (layout : Layout) (place : ℕ) (block : List ℕ) (x : LaidBlock) → x.role < roles → roles ≤ 16 → table x.role ≡ layout → is_tree_layout layout ≡ false
      → layout_edges nr x.role layout block ≡ x.edges → layout_data layout block ≡ x.data_refs → block_at image place ≡ block
      → ((rule : Rule) → layout_bad nr x.role layout place block rule ≡ false) → IsSeen this image place x
  unfolding graph_of is_bad is_deep
  plain_seen layout place block x known few is no_tree names data_names stands sound =
      let small : x.role < 16 = omega arith in
      let good = none_broken (layout_bad nr x.role layout place block) sound all_rules in
      let leaf : is_inner_pair this image (pair place x.role) ≡ false = at_pair image this.is_inner place x.role small ∙ rw (stands, is, no_tree) refl in
      record {
        known = known;
        sound = λ rule. rw (stands, is) (sound rule);
        shallow = no_chain this image (pair place x.role) 64 leaf (omega arith);
        in_range = λ inner. absurd (both_ways (is_inner_pair this image (pair place x.role)) leaf inner);
        earlier = λ inner. absurd (both_ways (is_inner_pair this image (pair place x.role)) leaf inner);
        edges_are = at_pair image this.edges place x.role small ∙ rw (stands, is, good) names;
        data_are = at_pair image this.data_refs place x.role small ∙ rw (stands, is, good) data_names;
      }
