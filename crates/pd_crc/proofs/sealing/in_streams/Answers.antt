use Rattle.std.proofs.Common.{◌≡◌, ◌∙◌, ◌+◌, ◌≤◌, length, take, arith}
use Rattle.std.specs.List.{fold}
use Rattle.pd_kinds.specs.Field.{crc_byte}
use Rattle.pd_crc.proofs.Streams.{fold-rest}
use Rattle.pd_crc.proofs.Streams.{fold-first, fold-streams, word_by_word}
use Rattle.pd_crc.proofs.sealing.in_streams.Goals as goal

pub loop-at-init : goal.loop-at-init
loop-at-init c =
    record {
      within = c.requires;
      so_far =
          rw (c.u32_at.ensures, c.u32_at-second.ensures, c.u32_at-third.ensures, c.u32_at-fourth.ensures)
          (fold-first c.args.bytes.now (λ i. (c.type_inv.bytes i).fits) c.args.start c.requires);
    }

pub loop-at-preserved : goal.loop-at-preserved
loop-at-preserved c =
    let within : c.loop-at.at + 16 ≤ length c.args.bytes.now = omega arith in
    record {
      within = within;
      so_far =
          rw (c.u32_at-in-loop-at.ensures, c.after_sixteen.ensures, c.u32_at-in-loop-at-2.ensures, c.after_sixteen-in-loop-at.ensures, c.u32_at-in-loop-at-3.ensures, c.after_sixteen-in-loop-at-2.ensures, c.u32_at-in-loop-at-4.ensures, c.after_sixteen-in-loop-at-3.ensures)
          (fold-streams c.args.bytes.now (λ i. (c.type_inv.bytes i).fits) c.loop-at.at c.args.start c.loop-at.first c.loop-at.second c.loop-at.third c.loop-at.fourth within c.loop-at.invariant.so_far);
    }

pub returns : goal.returns
returns c =
    let whole : c.after_four-crc.result ≡ fold crc_byte c.args.start (take c.loop-at.at c.args.bytes.now) =
    rw (c.after_four-crc.ensures, c.after_four-3.ensures, c.after_four-2.ensures, c.after_four.ensures)
    (word_by_word c.loop-at.first c.loop-at.second c.loop-at.third c.loop-at.fourth ∙ c.loop-at.invariant.so_far) in
    c.by_words.ensures ∙ fold-rest c.args.bytes.now c.loop-at.at c.args.start c.after_four-crc.result whole
