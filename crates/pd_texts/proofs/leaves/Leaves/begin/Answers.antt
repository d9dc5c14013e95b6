use Rattle.std.proofs.Common.{◌≡◌, ◌+◌, true, not, ◌∷◌, [], ◌++◌, is_ok, sym, ◌∙◌, arith}
use Rattle.std.proofs.lemmas.List.Sums.{count_by-le-length}
use Rattle.pd_texts.specs.declared.leaves.ToldLeaf.{ToldLeaf}
use Rattle.pd_texts.specs.ThinState.{nothing_told}
use Rattle.pd_texts.proofs.StateLemmas.{leaf_begun}
use Rattle.pd_texts.proofs.leaves.Leaves.begin.Goals as goal

pub returns-then-is_ok : goal.returns-then-is_ok
returns-then-is_ok c = λ room before leaf are.
    let told = c.args.self.now.told in
    let ok : is_ok c.push.result ≡ true = sym c.is_ok.ensures.value ∙ c.if-is_ok.true in
    let items : c.push.new.self.items ≡ told.items ++ (nothing_told ∷ []) = rw (← c.nothing.ensures) (rw ok at c.push.ensures.items) in
    let few = count_by-le-length (λ (leaf : ToldLeaf). not leaf.is_used) told.items in
    let more : c.saturating_add-self.result ≡ c.args.self.now.unused + 1 = omega (arith, are.unused, few, told.ok.0, told.ok.1, told.small, c.saturating_add-self.ensures) in
    leaf_begun c.args.self.now _ before leaf are items more
