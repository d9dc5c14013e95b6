use Rattle.std.proofs.Common.{◌≡◌, ℕ, List, [], ◌∷◌, IfSome, ap, ◌∙◌, arith}
use Rattle.std.specs.List.{AllByRecursion}
use Rattle.pd_kinds.proofs.ResultLemmas.{if_then}
use Rattle.pd_image.proofs.CrashLemmas.{only_reads_both}
use Rattle.pd_tree.specs.Cursor.{cursor_items}
use Rattle.pd_tree.specs.Cursor.{root_of}
use Rattle.pd_cache.specs.Meeting.{AreMet, IsMapBlock, IsPartMet, blocks_left, blocks_named}
use Rattle.pd_cache.proofs.MeetLemmas.{part_end, part_more, seen_few}
use Rattle.pd_cache.proofs.mapping.gather.Goals as goal

pub returns-in_err-named-clause-reads : goal.returns-in_err-named-clause-reads
returns-in_err-named-clause-reads g c =
    let few = seen_few c.args.audit.now c.loop-named.origins (c.loop-named.invariant.places ∙ c.requires.places) c.loop-named.invariant.in_role in
    if_then (g.D.Device.state c.args.dev.now).held (g.D.Device.state c.loop-named.dev).held _ _ _ c.loop-named.invariant.kept.held
    (λ image before failed. omega (arith, before, failed, few)) c.loop-named.invariant.reads c.in_err-named.ensures.reads_failed

pub returns-clause-reads : goal.returns-clause-reads
returns-clause-reads g c =
    let few = seen_few c.args.audit.now c.loop-named.origins (c.loop-named.invariant.places ∙ c.requires.places) c.loop-named.invariant.in_role in
    if_then (g.D.Device.state c.args.dev.now).held (g.D.Device.state c.loop-named.dev).held _ _ _ c.loop-named.invariant.kept.held
    (λ image before read. omega (arith, before, read, few)) c.loop-named.invariant.reads c.in_ok-named.ensures.reads

pub returns-clause-met : goal.returns-clause-met
returns-clause-met g c =
    let held = (g.D.Device.state c.loop-named.dev).held in
    let ended : IfSome held (λ image. (cursor_items 8 root_of image c.loop-named.entries ≡ []) × (cursor_items 8 root_of image c.next.new.self ≡ [])) =
    rw c.in_default.is at c.in_ok-named.ensures.next in
    if_then (g.D.Device.state c.args.dev.now).held held _ _ _ c.loop-named.invariant.kept.held
    (λ image met none each fresh.
    part_end image (blocks_left image c.args.entries.now) (blocks_left image c.loop-named.entries) c.loop-named.origins (ap blocks_named none.0) (met each fresh))
    c.loop-named.invariant.met ended

pub loop-named-preserved : goal.loop-named-preserved
loop-named-preserved g c =
    let held = (g.D.Device.state c.args.dev.now).held in
    let audit = c.args.audit.now in
    let P : List (List ℕ) → Type 0 =
    λ image. AllByRecursion (IsMapBlock audit) (blocks_left image c.args.entries.now) → AreMet image [] c.args.origins.now
    → IsPartMet image (blocks_left image c.args.entries.now) (blocks_left image c.loop-named.entries) c.loop-named.origins in
    let Q : List (List ℕ) → Type 0 =
    λ image. cursor_items 8 root_of image c.loop-named.entries ≡ (c.in-Some.field-0-0, c.in-Some.named) ∷ cursor_items 8 root_of image c.next.new.self in
    let R : List (List ℕ) → Type 0 = λ image. P image × Q image in
    let taken : IfSome (g.D.Device.state c.loop-named.dev).held Q = rw c.in-Some.is at c.in_ok-named.ensures.next in
    let both : IfSome held R = if_then held (g.D.Device.state c.loop-named.dev).held P Q R c.loop-named.invariant.kept.held (λ image p q. (p, q)) c.loop-named.invariant.met taken in
    record {
      met =
          if_then held (g.D.Device.state c.next.new.dev).held R _ _ (c.next.ensures.kept.held ∙ c.loop-named.invariant.kept.held)
          (λ image known meets each fresh.
          part_more image audit (blocks_left image c.args.entries.now) (blocks_left image c.loop-named.entries) (blocks_left image c.next.new.self) c.in-Some.named.0
          c.loop-named.origins c.meet.new.origins each (ap blocks_named known.1) meets (known.0 each fresh))
          both c.in_ok-meet.ensures.met;
      reads =
          if_then held (g.D.Device.state c.loop-named.dev).held _ _ _ c.loop-named.invariant.kept.held
          (λ image before read. omega (arith, before, read, c.in_ok-meet.ensures.reads)) c.loop-named.invariant.reads c.in_ok-named.ensures.reads;
      in_role = c.meet.ensures.in_role;
      places = c.meet.ensures.places ∙ c.loop-named.invariant.places;
      kept = only_reads_both (only_reads_both c.loop-named.invariant.kept c.next.ensures.kept) c.meet.ensures.kept;
      faults = c.in_ok-meet.ensures.faults ∙ (c.in_ok-named.ensures.faults ∙ c.loop-named.invariant.faults);
    }
