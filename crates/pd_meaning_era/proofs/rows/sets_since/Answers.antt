use Rattle.std.proofs.Common.{◌≡◌, ℕ, List, [], ◌∷◌, ◌++◌, filter, ap, refl, sym, ◌∙◌, rules}
use Rattle.std.proofs.lemmas.List.{append-nil, append_assoc}
use Rattle.std.proofs.lemmas.List.Elements.{filter-append}
use Rattle.pd_kinds.proofs.ResultLemmas.{if_any, if_then}
use Rattle.pd_value.specs.declared.era.Writeset.{Writeset}
use Rattle.pd_tree.specs.Cursor.{cursor_items}
use Rattle.pd_meaning_era.specs.Eras.{set_of, sets_below}
use Rattle.pd_meaning_era.specs.Notes.{is_set_from}
use Rattle.pd_meaning_era.proofs.rows.sets_since.Goals as goal

pub loop-sets-init : goal.loop-sets-init
loop-sets-init g c = record {
  all =
      let none : c.new-sets.result.items ≡ [] = search rules in
      if_any (g.D.Device.state c.args.dev.now).held (λ image. ap (filter (is_set_from c.args.least)) (sym (c.in_ok-left.ensures.items image)) ∙ rw none refl);
  kept = search rules;
  faults = search rules;
}

pub loop-sets-preserved : goal.loop-sets-preserved
loop-sets-preserved g c =
    let so_far = c.loop-sets.invariant in
    let next = rw c.in-Some.is at c.in_ok-set.ensures.next in
    let before = c.loop-sets.sets.items in
    let late = is_set_from c.args.least in
    record {
      all =
          if_then (g.D.Device.state c.args.dev.now).held (g.D.Device.state c.loop-sets.dev).held
          (λ image. filter late (sets_below image c.args.root) ≡ before ++ filter late (cursor_items 12 set_of image c.loop-sets.left))
          (λ image. cursor_items 12 set_of image c.loop-sets.left ≡ c.in-Some.set ∷ cursor_items 12 set_of image c.next.new.self)
          _ so_far.kept.held
          (λ image all is.
          let rest = cursor_items 12 set_of image c.next.new.self in
          all ∙ (ap (λ (items : List (ℕ × Writeset)). before ++ items) (ap (filter late) is ∙ filter-append late (c.in-Some.set ∷ []) rest)
          ∙ (sym (append_assoc before (filter late (c.in-Some.set ∷ [])) (filter late rest)) ∙ ap (λ (items : List (ℕ × Writeset)). items ++ filter late rest) (sym c.in_ok-add_set.ensures.added))))
          so_far.all next;
      kept = search rules;
      faults = c.in_ok-set.ensures.faults ∙ so_far.faults;
    }

pub returns-clause-sets : goal.returns-clause-sets
returns-clause-sets g c =
    let none = rw c.in_default.is at c.in_ok-set.ensures.next in
    let late = is_set_from c.args.least in
    if_then (g.D.Device.state c.args.dev.now).held (g.D.Device.state c.loop-sets.dev).held
    (λ image. filter late (sets_below image c.args.root) ≡ c.loop-sets.sets.items ++ filter late (cursor_items 12 set_of image c.loop-sets.left))
    (λ image. (cursor_items 12 set_of image c.loop-sets.left ≡ []) × (cursor_items 12 set_of image c.next.new.self ≡ []))
    _ c.loop-sets.invariant.kept.held
    (λ image all left. sym (all ∙ (ap (λ (items : List (ℕ × Writeset)). c.loop-sets.sets.items ++ filter late items) left.0 ∙ append-nil c.loop-sets.sets.items)))
    c.loop-sets.invariant.all none
