use Rattle.pd_laws_answers.proofs.Asked.{answered_for}
use Rattle.std.proofs.Common.{◌≡◌, ℕ, List, [], ◌∷◌, Some, refl}
use Rattle.std.specs.Prelude.{codes}
use Rattle.pd_answers.specs.declared.request.Request.TheVariants.{Writeback}
use Rattle.pd_answers.specs.Words.{is_flag, items_of, given, version_of, tool_in, request_of, asked}
use Rattle.pd_laws_answers.specs.Words.{IsName}
use Rattle.pd_laws_answers.proofs.words.cache_writeback_leaves_nothing_dirty.Goals as goal

cache_writeback_asked : (metadata fast origin : List ℕ) → IsName metadata → IsName fast → IsName origin
    → asked (codes "cache_writeback" ∷ codes "--metadata-device" ∷ metadata ∷ codes "--fast-device" ∷ fast ∷ codes "--origin-device" ∷ origin ∷ []) ≡ Some (Writeback metadata fast origin)
unfolding is_flag items_of given version_of tool_in request_of asked
cache_writeback_asked metadata fast origin is_metadata is_fast is_origin = rw (is_metadata, is_fast, is_origin) refl

pub returns : goal.returns
returns c = λ metadata fast origin before after status is_metadata is_fast is_origin ends.
    c.written_back_cache_is_clean.ensures metadata fast origin before after status
    (answered_for _ _ status before after (cache_writeback_asked metadata fast origin is_metadata is_fast is_origin) ends)
