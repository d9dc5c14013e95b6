use Rattle.std.proofs.Common.{◌≡◌, ◌||◌, ℕ, Bool, List, subst, sym, ap, ◌∙◌}
use Rattle.std.specs.List.{list_any}
use Rattle.std.specs.List.Sorted.{IsNonDecreasing}
use Rattle.std.proofs.lemmas.List.Sorted.{IsNonDecreasingBy-from_sort}
use Rattle.pd_kinds.specs.Whole.{has_repeat}
use Rattle.pd_meaning_cache.specs.OriginSet.{is_set}
use Rattle.pd_meaning_cache.proofs.AddedLemmas.{counted_repeat}
use Rattle.pd_meaning_cache.proofs.AddedLemmas.{repeat_in_any_order}
use Rattle.pd_meaning_cache.proofs.origin_set.OriginSet.has_repeat.Goals as goal

pub is_repeated-repeated-requires : goal.is_repeated-repeated-requires
is_repeated-repeated-requires c =
    subst (λ (xs : List ℕ). IsNonDecreasing xs) (sym c.deref-3.ensures.value)
    (IsNonDecreasingBy-from_sort (λ x. x) c.sort_unstable.new.self.items c.sort_unstable.ensures.sorted)

pub returns-clause-repeat : goal.returns-clause-repeat
returns-clause-repeat c = λ os before.
    let bits = c.args.self.now.bits.items in
    let others = c.args.self.now.others.items in
    let mixed : c.is_any_set-mixed.result ≡ list_any (is_set bits) others =
    c.is_any_set-mixed.ensures
    ∙ (ap (λ (ws : List ℕ). list_any (is_set ws) c.deref-2.result.now) c.deref.ensures.value ∙ ap (list_any (is_set bits)) c.deref-2.ensures.value) in
    let repeated : c.is_repeated-repeated.result ≡ has_repeat others =
    c.is_repeated-repeated.ensures
    ∙ (ap has_repeat c.deref-3.ensures.value ∙ repeat_in_any_order others c.sort_unstable.new.self.items c.sort_unstable.ensures.permutation) in
    ap (λ (b : Bool). (c.args.self.now.again || b) || c.is_repeated-repeated.result) mixed
    ∙ (ap (λ (b : Bool). (c.args.self.now.again || list_any (is_set bits) others) || b) repeated
    ∙ counted_repeat os bits others c.args.self.now.again before)
