use Rattle.std.proofs.Common.{◌≡◌, ℕ, true, false, List, length, refl, ap, ◌∙◌, sym}
use Rattle.std.specs.Option.{is_some}
use Rattle.pd_kinds.proofs.CrashLemmas.{still_tells}
use Rattle.pd_answers.specs.Flag.{is_flag_set}
use Rattle.pd_image.proofs.CrashLemmas.{at_some}
use Rattle.pd_draft.proofs.ClearedLemmas.{cleared_none, read_crash, unset_done, set_done, set_crash, not_unset}
use Rattle.pd_draft.proofs.clearing.clear_needs_check.Goals as goal

pub returns-then-blocks-eq0-clause-done : goal.returns-then-blocks-eq0-clause-done
returns-then-blocks-eq0-clause-done g c image synced =
    let old = g.D.Device.state c.args.dev.now in
    let number : length image ≡ old.blocks = at_some old.held (λ (i : List (List ℕ)). length i ≡ old.blocks) image synced.held (g.met.D.Device.measured c.args.dev.now) in
    rw (cleared_none c.args.flagged image (number ∙ sym c.blocks-2.ensures.count ∙ c.if-blocks-eq0.true)) synced

pub returns-in_err-read-clause-crash : goal.returns-in_err-read-clause-crash
returns-in_err-read-clause-crash g c image synced = read_crash c.args.flagged image _ _ c.read.ensures.kept synced

pub returns-else-is_set-clause-done : goal.returns-else-is_set-clause-done
returns-else-is_set-clause-done g c =
    let unset : is_flag_set c.args.flagged c.read.new.into.0 ≡ false = cc in
    unset_done c.args.flagged _ _ c.read.new.into.0 c.read.ensures.kept c.in_ok-read.ensures.content unset

pub returns-else-is_set-clause-crash : goal.returns-else-is_set-clause-crash
returns-else-is_set-clause-crash g c image synced = read_crash c.args.flagged image _ _ c.read.ensures.kept synced

pub returns-then-is_set-clause-done : goal.returns-then-is_set-clause-done
returns-then-is_set-clause-done g c =
    let is_set : is_flag_set c.args.flagged c.read.new.into.0 ≡ true = cc in
    set_done c.args.flagged _ _ c.read.new.into.0 c.read.ensures.kept c.in_ok-read.ensures.content _ is_set c.rewrite_super.result
    (rw c.without_flag.ensures at c.rewrite_super.ensures.done)

pub returns-then-is_set-clause-crash : goal.returns-then-is_set-clause-crash
returns-then-is_set-clause-crash g c =
    let is_set : is_flag_set c.args.flagged c.read.new.into.0 ≡ true = cc in
    set_crash c.args.flagged _ _ c.read.new.into.0 c.read.ensures.kept c.in_ok-read.ensures.content _ is_set
    (λ image synced. rw c.without_flag.ensures at (c.rewrite_super.ensures.crash image synced))

pub returns-then-is_set-clause-unset : goal.returns-then-is_set-clause-unset
returns-then-is_set-clause-unset g c =
    let is_set : is_flag_set c.args.flagged c.read.new.into.0 ≡ true = cc in
    not_unset c.args.flagged _ _ c.read.new.into.0 c.read.ensures.kept c.in_ok-read.ensures.content (g.D.Device.state c.rewrite_super.new.dev) is_set _

pub returns-then-blocks-eq0-clause-told : goal.returns-then-blocks-eq0-clause-told
returns-then-blocks-eq0-clause-told g c = still_tells (g.D.Device.state c.args.dev.now) (g.D.Device.state c.args.dev.now) refl

pub returns-in_err-read-clause-told : goal.returns-in_err-read-clause-told
returns-in_err-read-clause-told g c = still_tells (g.D.Device.state c.args.dev.now) (g.D.Device.state c.read.new.self) (ap is_some c.read.ensures.kept.held)

pub returns-else-is_set-clause-told : goal.returns-else-is_set-clause-told
returns-else-is_set-clause-told g c = still_tells (g.D.Device.state c.args.dev.now) (g.D.Device.state c.read.new.self) (ap is_some c.read.ensures.kept.held)

pub returns-then-is_set-clause-told : goal.returns-then-is_set-clause-told
returns-then-is_set-clause-told g c =
    still_tells (g.D.Device.state c.args.dev.now) (g.D.Device.state c.rewrite_super.new.dev) (c.rewrite_super.ensures.told ∙ ap is_some c.read.ensures.kept.held)
