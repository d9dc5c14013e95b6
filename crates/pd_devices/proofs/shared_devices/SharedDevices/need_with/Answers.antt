use Rattle.std.proofs.Common.{◌≡◌, ◌∙◌, ◌<◌, ◌+◌, ◌-◌, ◌^◌, min, eqb, ℕ, ap, arith}
use Rattle.std.specs.List.{count_by, range_with_len}
use Rattle.std.proofs.lemmas.List.FromFn.{length-range_with_len}
use Rattle.std.proofs.lemmas.List.Sums.{count_by-le-length}
use Rattle.pd_count.specs.Counted.{Counted, count_of}
use Rattle.pd_grammar.specs.Texts.{has_ended}
use Rattle.pd_grammar.specs.ThinText.{pool_format}
use Rattle.pd_laid.specs.PoolText.{told_devices}
use Rattle.pd_devices.specs.Counts.{overflows_of}
use Rattle.pd_devices.specs.Devices.{run_of}
use Rattle.pd_devices.proofs.CountLemmas.{overflows-le}
use Rattle.pd_devices.proofs.RoomLemmas.{own_within}
use Rattle.pd_devices.proofs.GatheredNeed.{need_more}
use Rattle.pd_devices.proofs.RoomLemmas.{parts_within}
use Rattle.pd_devices.proofs.RunLemmas.{held_most}
use Rattle.pd_devices.proofs.shared_devices.SharedDevices.need_with.Goals as goal

pub thirds_in-thirds-requires : goal.thirds_in-thirds-requires
thirds_in-thirds-requires c =
    let g = c.requires.gathered.so_far in
    record { within = omega (arith, c.requires.gathered.follows.within, g.gathered.counts.size, ap (λ (k : Counted). k.size) c.counts.ensures) }

pub returns : goal.returns
returns c before start now h next =
    let s = c.args.self.now in
    let g = c.requires.gathered.so_far in
    let r = run_of c.args.run.now in
    let p = c.parts.ensures in
    let row = range_with_len r.data_block r.length in
    let old = overflows_of s.counts.counts s.counts.counts.size in
    let twice : c.thirds_in-thirds.result ≡ count_by (λ d. eqb (count_of s.counts.counts d) 2) row =
    c.thirds_in-thirds.ensures ∙ ap (λ (k : Counted). count_by (λ d. eqb (count_of k d) 2) row) c.counts.ensures in
    let over : c.parts.result.over ≡ min (old + count_by (λ d. eqb (count_of s.counts.counts d) 2) row) (2 ^ 64 - 1) =
    p.over ∙ ap (λ (k : ℕ). min (old + k) (2 ^ 64 - 1)) twice in
    let few : old + count_by (λ d. eqb (count_of s.counts.counts d) 2) row < 2 ^ 64 =
    omega (
      arith,
      overflows-le s.counts.counts s.counts.counts.size,
      count_by-le-length (λ d. eqb (count_of s.counts.counts d) 2) row,
      length-range_with_len r.data_block r.length,
      next.within,
      h.counts.size,
      h.counts.small,
    ) in
    let fits : s.held.number + r.length < 2 ^ 64 =
    omega (
      arith,
      held_most g.gathered,
      own_within (has_ended pool_format g.before) (told_devices g.before),
      parts_within g.room g.before,
      g.need,
      g.most,
      next.within,
      h.counts.small,
    ) in
    c.need_of.ensures ∙ need_more c.parts.result r h next fits p.leaves p.often p.trees p.begun p.devices p.blocks over few
