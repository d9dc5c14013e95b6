use Rattle.pd_answers.specs.Rehearsals.{generated_text}
use Rattle.pd_gen.specs.Lines.{generated_pool}
use Rattle.pd_laws_answers.proofs.Asked.{answered_for, holds_generated}
use Rattle.pd_laws_answers.proofs.Asked.{generated_few}
use Rattle.pd_laws_answers.proofs.Restored.{pool_laws}
use Rattle.std.proofs.Common.{◌≡◌, ℕ, List, [], ◌∷◌, Some, refl}
use Rattle.std.specs.Prelude.{codes}
use Rattle.pd_answers.specs.declared.request.Request.TheVariants.{Rehearse}
use Rattle.pd_answers.specs.Words.{is_flag, items_of, given, version_of, generated_number, tool_in, request_of, asked}
use Rattle.pd_laws_answers.specs.Words.{IsName}
use Rattle.pd_laws_answers.proofs.words.thin_rehearse_makes_its_pool.Goals as goal

thin_rehearse_asked : (word : List ℕ) (number : ℕ) (path : List ℕ) → IsName word → generated_number word ≡ Some number → IsName path
    → asked (codes "thin_rehearse" ∷ codes "--number" ∷ word ∷ codes "-o" ∷ path ∷ []) ≡ Some (Rehearse number path)
unfolding is_flag items_of given version_of tool_in request_of asked
thin_rehearse_asked word number path is_word is is_path = rw (is_word, is_path, is) refl

pub returns : goal.returns
returns c = λ word number path before after status is_word is is_path ends.
    let text = generated_text number in
    let m = generated_pool number in
    let pool = c.generated_text_spells_a_pool.ensures number (generated_few word number is) in
    holds_generated (pool_laws c.pool_text_has_one_verdict.ensures.one c.pool_text_is_accepted_where_there_is_room.ensures.no_room c.laid_shapes_are_clean.ensures)
    c.pool_text_has_one_shape.ensures number m pool (c.either_version_spells_a_shape.ensures.first text m pool)
    path before after status (answered_for _ _ status before after (thin_rehearse_asked word number path is_word is is_path) ends)
