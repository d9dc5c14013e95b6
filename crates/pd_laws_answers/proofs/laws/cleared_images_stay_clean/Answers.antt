use Rattle.std.proofs.Common.{◌≡◌, ℕ, List, ◌∙◌, refl}
use Rattle.pd_kinds.specs.declared.kind.Flagged.TheVariants.{Pool, Cache}
use Rattle.pd_kinds.specs.Flagged.{kind_of}
use Rattle.pd_kinds.specs.Meaning.{cache_meaning, thin_meaning}
use Rattle.pd_kinds.specs.Stages.{faults}
use Rattle.pd_answers.specs.Flag.{cleared}
use Rattle.pd_laws_answers.proofs.Cleared.{cleared_clean, cleared_unset, on_cleared}
use Rattle.pd_laws_answers.proofs.laws.cleared_images_stay_clean.Goals as goal

pub returns-clause-same : goal.returns-clause-same
returns-clause-same c Pool = λ some until image is none.
    on_cleared Pool (λ (left : List (List ℕ)). faults (kind_of Pool) until left ≡ faults (kind_of Pool) until image) image is refl
    (λ alike. c.alike_pools_have_the_same_faults.ensures some until image (cleared Pool image) alike none)
returns-clause-same c Cache = λ some until image is none.
    on_cleared Cache (λ (left : List (List ℕ)). faults (kind_of Cache) until left ≡ faults (kind_of Cache) until image) image is refl
    (λ alike. c.alike_caches_have_the_same_faults.ensures some until image (cleared Cache image) alike none)

pub returns-clause-clean : goal.returns-clause-clean
returns-clause-clean c = λ flagged until image is none. returns-clause-same c flagged until until image is none ∙ none

pub returns-clause-meaning : goal.returns-clause-meaning
returns-clause-meaning c Pool = λ until image is looks none.
    on_cleared Pool (λ (left : List (List ℕ)). thin_meaning left ≡ thin_meaning image) image is refl
    (λ alike. c.alike_pools_mean_the_same.ensures until image (cleared Pool image) alike looks none)
returns-clause-meaning c Cache = λ until image is looks none.
    on_cleared Cache (λ (left : List (List ℕ)). cache_meaning left ≡ cache_meaning image) image is refl
    (λ alike. c.alike_caches_mean_the_same.ensures until image (cleared Cache image) alike (cleared_clean image is) looks none)

pub returns-clause-unset : goal.returns-clause-unset
returns-clause-unset c = cleared_unset
