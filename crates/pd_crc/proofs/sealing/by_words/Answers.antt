use Rattle.std.proofs.Common.{◌∙◌, ◌+◌, ◌≤◌, length, refl, arith}
use Rattle.pd_crc.proofs.Streams.{fold-more, fold-rest}
use Rattle.pd_crc.proofs.sealing.by_words.Goals as goal

pub loop-at-preserved : goal.loop-at-preserved
loop-at-preserved c =
    let within : c.loop-at.at + 4 ≤ length c.args.bytes.now = omega arith in
    record {
      within = within;
      so_far =
          rw (c.after_four-crc.ensures, c.u32_at.ensures)
          (fold-more c.args.bytes.now (λ i. (c.type_inv.bytes i).fits) 4 c.loop-at.at (c.loop-at.at + 4) c.args.start c.loop-at.crc refl within c.loop-at.invariant.so_far);
    }

pub returns : goal.returns
returns c = c.one_by_one.ensures ∙ fold-rest c.args.bytes.now c.loop-at.at c.args.start c.loop-at.crc c.loop-at.invariant.so_far
