use Rattle.std.proofs.Common.{None, ◌≡◌, ℕ, Bool, true, false, List, [], ◌∷◌, ◌++◌, Some, refl}
use Rattle.std.proofs.lemmas.Option.{IfSome_then}
use Rattle.pd_kinds.specs.Graph.{block_at}
use Rattle.pd_kinds.specs.ThinFormat.{thin_fields}
use Rattle.pd_answers.specs.KeptLines.{kept_text, told_from}
use Rattle.pd_answers.specs.declared.request.Asked.TheVariants.{Kept}
use Rattle.pd_laws_answers.proofs.Asked.{answered_for, answers}
use Rattle.std.specs.Prelude.{codes}
use Rattle.pd_answers.specs.declared.request.Request.TheVariants.{Query}
use Rattle.pd_answers.specs.Words.{is_flag, items_of, given, version_of, tool_in, request_of, asked}
use Rattle.pd_laws_answers.specs.Words.{IsName, with_sharing}
use Rattle.pd_laws_answers.proofs.ToldRoom.{told_right}
use Rattle.pd_laws_answers.proofs.words.thin_repair_tells_what_it_would_keep.Goals as goal

dry_repair_asked : (shared : Bool) (image : List ℕ) → IsName image
    → asked (codes "thin_repair" ∷ codes "--dry-run" ∷ (with_sharing shared ++ (codes "-i" ∷ image ∷ []))) ≡ Some (Query Kept None image)
unfolding is_flag items_of given version_of tool_in request_of asked
dry_repair_asked false image is_image = rw is_image refl
dry_repair_asked true image is_image = rw is_image refl

pub returns : goal.returns
unfolding kept_text
returns c = λ shared image before after is_image ends.
    IfSome_then before.input.held (answers Kept None image before after (answered_for _ _ 0 before after (dry_repair_asked shared image is_image) ends))
    (λ held is. record { sound = is.0; told = told_from (thin_fields (block_at held 0)) held; right = told_right (thin_fields (block_at held 0)) held; put = is.1 })
