use Rattle.std.proofs.Common.{◌≡◌, ◌-◌, ◌≤◌, ℕ, List, length, take, ap, ◌∙◌, arith}
use Rattle.pd_uses.specs.UseLine.{set_two}
use Rattle.pd_uses.specs.Uses.{use_line}
use Rattle.pd_uses.proofs.DigitLemmas.{head_near, head_short, head_within, last_within, line_near, take_two, whole_length}
use Rattle.pd_uses.proofs.use_line.UseLine.go_to.Goals as goal

pub put_two-requires : goal.put_two-requires
put_two-requires c =
    let short = head_short c.self.inside.one.block c.self.inside.head c.fits.ensures.block c.self.invariant.1.1 in
    omega (arith, short, c.saturating_sub.ensures)

pub invariant_of-self-2 : goal.invariant_of-self-2
invariant_of-self-2 c =
    let old = c.self.inside.one in
    let new = c.args.one in
    let bytes = c.self.inside.bytes in
    let head = c.self.inside.head in
    let len = c.self.inside.len in
    let near = c.is_near.ensures c.if-not-is_near.false in
    let line : take len bytes ≡ use_line old = c.self.invariant.0 in
    let within : len ≤ 161 = c.self.invariant.1.0 in
    let is_head = c.self.invariant.1.1 in
    let is_len : len ≡ length (use_line old) = whole_length bytes (use_line old) len (omega arith) line in
    let mid = set_two bytes (head - 2) new.block in
    let first : c.put_two.new.bytes ≡ mid = c.put_two.ensures ∙ ap (λ (at : ℕ). set_two bytes at new.block) c.saturating_sub.ensures in
    let second : c.put_two-2.new.bytes ≡ set_two mid (len - 3) new.virt =
    c.put_two-2.ensures ∙ (ap (λ (at : ℕ). set_two c.put_two.new.bytes at new.virt) c.saturating_sub-2.ensures ∙ ap (λ (xs : List ℕ). set_two xs (len - 3) new.virt) first) in
    let head_in = head_within old head len c.fits.ensures.block c.fits.ensures.virt near.long_block near.long_virt is_head is_len in
    let last_in = last_within old head len c.fits.ensures.block c.fits.ensures.virt near.long_block near.long_virt is_head is_len in
    let whole = line_near old head len c.fits.ensures.block c.fits.ensures.virt near.long_block near.long_virt is_head is_len new c.fits-2.ensures.block c.fits-2.ensures.virt near in (
      ap (take len) second
          ∙ (take_two mid len (len - 3) new.virt last_in
          ∙ (ap (λ (xs : List ℕ). set_two xs (len - 3) new.virt) (take_two bytes len (head - 2) new.block head_in ∙ ap (λ (xs : List ℕ). set_two xs (head - 2) new.block) line) ∙ whole)),
      (within, head_near old head len c.fits.ensures.block c.fits.ensures.virt near.long_block near.long_virt is_head is_len new c.fits-2.ensures.block near),
    )
