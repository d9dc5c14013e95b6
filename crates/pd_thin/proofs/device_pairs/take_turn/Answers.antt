use Rattle.pd_tree.specs.Cursor.{cursor_items}
use Rattle.pd_tree.specs.Cursor.{root_of}
use Rattle.pd_thin.specs.DevicePairs.{peeked_items}
use Rattle.pd_thin.specs.DevicePairs.{details_of}
use Rattle.pd_thin.proofs.TreePairLemmas.{told_top, told_detail, told_device}
use Rattle.pd_thin.proofs.device_pairs.take_turn.Goals as goal

pub returns-in_ok-advance-in-Top-clause-way : goal.returns-in_ok-advance-in-Top-clause-way
returns-in_ok-advance-in-Top-clause-way g c =
    told_top _ c.args.audit.now c.args.cursors.now.tops.first c.advance-in-Top.new.self.first c.args.cursors.now.details.first c.args.cursors.now.details.first
    (λ image. peeked_items 8 root_of image c.args.cursors.now.tops) (λ image. peeked_items 8 root_of image c.advance-in-Top.new.self)
    (λ image. cursor_items 24 details_of image c.args.cursors.now.details.cursor)
    c.in-Top.ensures c.in_ok-advance-in-Top.ensures.items c.in_ok-advance-in-Top.ensures.end

pub returns-in_ok-advance-in-Both-2-clause-way : goal.returns-in_ok-advance-in-Both-2-clause-way
returns-in_ok-advance-in-Both-2-clause-way g c =
    told_device _ c.args.audit.now c.args.cursors.now.tops.first c.advance.new.self.first c.args.cursors.now.details.first c.advance-in-Both.new.self.first
    _ c.mark_mapped.new.audit c.in-Both.root c.in-Both.mapped
    (λ image. peeked_items 8 root_of image c.args.cursors.now.tops) (λ image. peeked_items 8 root_of image c.advance.new.self)
    (λ image. peeked_items 24 details_of image c.args.cursors.now.details) (λ image. peeked_items 24 details_of image c.advance-in-Both.new.self)
    c.in_ok-advance-in-Both.ensures.kept.held c.in-Both.ensures c.in_ok-advance-in-Both.ensures.items c.in_ok-advance-in-Both.ensures.end
    c.in_ok-advance-in-Both-2.ensures.items c.in_ok-advance-in-Both-2.ensures.end c.mark_mapped.ensures.charges

pub returns-in_ok-advance-in-Detail-clause-way : goal.returns-in_ok-advance-in-Detail-clause-way
returns-in_ok-advance-in-Detail-clause-way g c =
    told_detail _ c.args.audit.now c.args.cursors.now.tops.first c.args.cursors.now.tops.first c.args.cursors.now.details.first c.advance-in-Detail.new.self.first
    (λ image. cursor_items 8 root_of image c.args.cursors.now.tops.cursor)
    (λ image. peeked_items 24 details_of image c.args.cursors.now.details) (λ image. peeked_items 24 details_of image c.advance-in-Detail.new.self)
    c.in-Detail.ensures c.in_ok-advance-in-Detail.ensures.items c.in_ok-advance-in-Detail.ensures.end
