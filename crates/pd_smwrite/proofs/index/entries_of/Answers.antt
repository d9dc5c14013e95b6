use Rattle.std.proofs.Common.{◌≡◌, ℕ, map, ap, arith, ◌∙◌}
use Rattle.std.specs.List.{range_with_len}
use Rattle.pd_bitmap.proofs.Placed.{code_of}
use Rattle.pd_kinds.specs.Bitmap.{bitmaps_for}
use Rattle.pd_laid.specs.Laid.{index_entry_of}
use Rattle.pd_count.specs.Counted.{count_of}
use Rattle.pd_smwrite.proofs.MapLemmas.{codes_more}
use Rattle.pd_smwrite.proofs.index.entries_of.Goals as goal

pub loop-i-init : goal.loop-i-init
loop-i-init c = ap (map code_of) c.new-entries.ensures.items

pub loop-i-preserved : goal.loop-i-preserved
loop-i-preserved c =
    let counts = c.args.counts.now in
    codes_more code_of (index_entry_of (count_of counts) counts.size c.args.first) c.loop-i.i c.loop-i.entries.items c.push.new.self.items c.entry_of.result
    c.loop-i.invariant c.in_ok-push.ensures.items c.entry_of.ensures.entry

pub returns : goal.returns
returns c =
    let counts = c.args.counts.now in
    let last : c.loop-i.i ≡ bitmaps_for counts.size = omega (arith, c.bitmap_number-i-end.ensures) in
    c.loop-i.invariant ∙ ap (λ (n : ℕ). map (index_entry_of (count_of counts) counts.size c.args.first) (range_with_len 0 n)) last
