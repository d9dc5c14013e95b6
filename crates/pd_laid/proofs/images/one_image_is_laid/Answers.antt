use Rattle.std.proofs.Common.{subst, sym, List, ℕ}
use Rattle.pd_laid.specs.Laid.{IsLaid}
use Rattle.pd_laid.proofs.LaidLemmas.{image_of_laid, laid_over}
use Rattle.pd_laid.proofs.images.one_image_is_laid.Goals as goal

pub returns : goal.returns
returns c = λ laid base image room. (
  image_of_laid laid base image,
  λ same. subst (λ (x : List (List ℕ)). IsLaid laid base x) (sym same) (laid_over laid base room),
)
