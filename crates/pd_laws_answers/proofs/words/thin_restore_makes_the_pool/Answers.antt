use Rattle.pd_laws_answers.proofs.Asked.{answered_for}
use Rattle.std.proofs.Common.{◌≡◌, ℕ, List, [], ◌∷◌, Some, refl}
use Rattle.std.specs.Prelude.{codes}
use Rattle.pd_kinds.specs.declared.kind.Kind.TheVariants.{Thin}
use Rattle.pd_answers.specs.declared.request.Request.TheVariants.{Restore}
use Rattle.pd_answers.specs.Words.{is_flag, items_of, given, version_of, tool_in, request_of, asked}
use Rattle.pd_laws_answers.specs.Words.{IsName}
use Rattle.pd_laws_answers.proofs.words.thin_restore_makes_the_pool.Goals as goal

thin_restore_asked : (file path : List ℕ) → IsName file → IsName path → asked (codes "thin_restore" ∷ codes "-i" ∷ file ∷ codes "-o" ∷ path ∷ []) ≡ Some (Restore Thin 1 file path)
unfolding is_flag items_of given version_of tool_in request_of asked
thin_restore_asked file path is_file is_path = rw (is_file, is_path) refl

pub returns : goal.returns
returns c = λ file path before after is_file is_path ends.
    c.restored_pool_is_clean.ensures file path before after (answered_for _ _ 0 before after (thin_restore_asked file path is_file is_path) ends)
