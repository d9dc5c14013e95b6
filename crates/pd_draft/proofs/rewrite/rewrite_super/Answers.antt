use Rattle.std.proofs.Common.{◌≡◌, length, List, ℕ, Some, set, arith, refl}
use Rattle.std.specs.Prelude.{is_ok}
use Rattle.pd_image.proofs.CrashLemmas.{at_some}
use Rattle.pd_draft.proofs.DraftLemmas.{replaced_write, replaced_last}
use Rattle.pd_draft.proofs.rewrite.rewrite_super.Goals as goal

pub returns-in_err-write-clause-crash : goal.returns-in_err-write-clause-crash
returns-in_err-write-clause-crash g c image synced =
    let old = g.D.Device.state c.args.dev.now in
    let w = c.write.ensures.wrote in
    let number : length image ≡ old.blocks = at_some old.held (λ (i : List (List ℕ)). length i ≡ old.blocks) image synced.held (g.met.D.Device.measured c.args.dev.now) in
    replaced_write image c.args.super_block.now.0 synced (omega arith) w.crash w.told w.others

pub returns-clause-crash : goal.returns-clause-crash
returns-clause-crash g c image synced =
    let old = g.D.Device.state c.args.dev.now in
    let mid = g.D.Device.state c.write.new.self in
    let w = c.write.ensures.wrote in
    let number : length image ≡ old.blocks = at_some old.held (λ (i : List (List ℕ)). length i ≡ old.blocks) image synced.held (g.met.D.Device.measured c.args.dev.now) in
    let written = at_some old.held (λ (i : List (List ℕ)). mid.held ≡ Some (set i 0 c.args.super_block.now.0)) image synced.held (c.in_ok-write.ensures.wrote.content refl) in
    replaced_last image c.args.super_block.now.0 (is_ok c.sync.result) (replaced_write image c.args.super_block.now.0 {old = old} {new = mid} synced (omega arith) w.crash w.told w.others)
    written c.sync.ensures.synced.crash c.sync.ensures.synced.held
