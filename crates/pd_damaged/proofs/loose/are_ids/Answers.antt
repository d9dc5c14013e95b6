use Rattle.std.proofs.Common.{◌≡◌, ℕ, ◌^◌, nat_lt, true, false, sym, arith}
use Rattle.std.proofs.lemmas.Bool.{le-ltb, lt-ltb}
use Rattle.pd_kinds.specs.Node.{entry_count, key_at}
use Rattle.pd_damaged.proofs.PushLemmas.{all_more, one_fails}
use Rattle.pd_damaged.proofs.loose.are_ids.Goals as goal

pub returns-then-key-ge-IDS_END : goal.returns-then-key-ge-IDS_END
returns-then-key-ge-IDS_END g c =
    let block = c.args.block.now.0 in
    let here : nat_lt (key_at block c.loop-i.i) (2 ^ 24) ≡ false = le-ltb (key_at block c.loop-i.i) (2 ^ 24) (omega arith) in
    sym (one_fails (λ (i : ℕ). nat_lt (key_at block i) (2 ^ 24)) (entry_count g.V.Value.SIZE block) c.loop-i.i (omega arith) here)

pub loop-i-preserved : goal.loop-i-preserved
loop-i-preserved g c =
    let block = c.args.block.now.0 in
    let here : nat_lt (key_at block c.loop-i.i) (2 ^ 24) ≡ true = lt-ltb (key_at block c.loop-i.i) (2 ^ 24) (omega arith) in
    all_more (λ (i : ℕ). nat_lt (key_at block i) (2 ^ 24)) c.loop-i.i c.loop-i.invariant here
