use Rattle.std.proofs.Common.{◌≡◌, ℕ, min, ap, ap₂, ◌∙◌}
use Rattle.pd_kinds.specs.declared.limits.TheConstants.{MAX_META_BLOCKS}
use Rattle.pd_kinds.specs.ThinFormat.{ThinFields}
use Rattle.pd_answers.specs.NamedRepairs.{pool_time, saved_time}
use Rattle.pd_scan.specs.declared.roots.Roots.{Roots}
use Rattle.pd_scan.specs.Pairs.{lost_fields, roots_of}
use Rattle.pd_tools.proofs.Checks.{two_told}
use Rattle.pd_tools.proofs.NamedRepairs.{fields_named, timeless_is}
use Rattle.pd_tools.proofs.named.named_super.Goals as goal

pub returns-clause-named : goal.returns-clause-named
returns-clause-named g c =
    let given = c.args.given.now in
    let named = c.args.named.now in
    let blocks = (g.A.Device.state c.args.input.now).blocks in
    let time = c.in_ok-times.times.lost in
    let is : c.lost_super-timeless.result ≡ lost_fields (record { top = named.top; details = named.details; mappings = 0; time = 0; transaction = 0; times = 0 }) given.transaction given.block_size (min blocks MAX_META_BLOCKS) given.blocks =
    c.lost_super-timeless.ensures
    ∙ ap₂ (λ (roots : Roots) (n : ℕ). lost_fields (roots_of roots) given.transaction given.block_size n given.blocks) c.roots_of.ensures c.usable_blocks.ensures in
    two_told (g.A.Device.state c.args.input.now).held
    (λ image number told. ap (λ (fields : ThinFields). record fields { time = time }) is
    ∙ fields_named image given named blocks time number (told ∙ ap (λ (fields : ThinFields). saved_time fields image) is))
    (g.met.A.Device.measured c.args.input.now) c.in_ok-times.ensures.lost

pub returns-clause-time : goal.returns-clause-time
returns-clause-time g c =
    let given = c.args.given.now in
    let named = c.args.named.now in
    let blocks = (g.A.Device.state c.args.input.now).blocks in
    let is : c.lost_super-timeless.result ≡ lost_fields (record { top = named.top; details = named.details; mappings = 0; time = 0; transaction = 0; times = 0 }) given.transaction given.block_size (min blocks MAX_META_BLOCKS) given.blocks =
    c.lost_super-timeless.ensures
    ∙ ap₂ (λ (roots : Roots) (n : ℕ). lost_fields (roots_of roots) given.transaction given.block_size n given.blocks) c.roots_of.ensures c.usable_blocks.ensures in
    two_told (g.A.Device.state c.args.input.now).held
    (λ image number told. told ∙ ap (λ (fields : ThinFields). pool_time fields image) (is ∙ timeless_is image given named blocks number))
    (g.met.A.Device.measured c.args.input.now) c.in_ok-times.ensures.pool
