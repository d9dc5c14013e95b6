use Rattle.std.proofs.Common.{refl, ◌≡◌, ℕ, List, [], ◌∷◌, ◌++◌, Option, Some, None, IfSome, subst}
use Rattle.std.proofs.lemmas.Option.{IfSome_then}
use Rattle.std.specs.Prelude.{codes}
use Rattle.pd_kinds.specs.declared.kind.Kind.TheVariants.{Thin}
use Rattle.pd_kinds.specs.declared.kind.Stage.TheVariants.{Counts}
use Rattle.pd_kinds.specs.Graph.{block_at, data_count}
use Rattle.pd_kinds.specs.Objects.{Appends}
use Rattle.pd_kinds.specs.ThinFormat.{thin_graph}
use Rattle.pd_answers.specs.declared.request.Asked.TheVariants.{Unused}
use Rattle.pd_answers.specs.declared.request.Request.TheVariants.{Query}
use Rattle.pd_answers.specs.Words.{is_flag, items_of, given, version_of, tool_in, request_of, asked}
use Rattle.pd_laws_answers.specs.Words.{IsName, to_file}
use Rattle.pd_laws_answers.proofs.Asked.{answered_for, answers}
use Rattle.pd_laws_answers.proofs.UnusedBlocks.{runs_of, runs_unmapped, text_is}
use Rattle.pd_laws_answers.proofs.words.thin_trim_lists_the_unused_blocks.Goals as goal

trim_asked : (file : Option (List ℕ)) (image : List ℕ) → IfSome file IsName → IsName image → asked (codes "thin_trim" ∷ codes "--list" ∷ (to_file file ++ (image ∷ []))) ≡ Some (Query Unused file image)
unfolding is_flag items_of given version_of tool_in request_of asked
trim_asked None image is_file is_image = rw (is_image) refl
trim_asked (Some file) image is_file is_image = rw (is_file, is_image) refl

pub returns : goal.returns
returns c = λ file path before after is_file is_path ends.
    IfSome_then before.input.held (answers Unused file path before after (answered_for _ _ 0 before after (trim_asked file path is_file is_path) ends)) (λ image is.
    let unmapped = λ (d : ℕ) (none : data_count (thin_graph (block_at image 0)) image d ≡ 0). c.unused_blocks_are_mapped_by_none.ensures Counts image d tt is.0 none in
    record {
      clean = (c.faults_are_none_where_clean.ensures Thin image).0 is.0;
      runs = runs_of image unmapped;
      unmapped = runs_unmapped image unmapped;
      put = subst (λ (bytes : List ℕ). Appends bytes before.out.written after.out.written) (text_is image unmapped) is.1;
    })
