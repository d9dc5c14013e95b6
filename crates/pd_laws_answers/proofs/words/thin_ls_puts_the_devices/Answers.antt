use Rattle.std.proofs.Common.{refl, ◌≡◌, ℕ, List, [], ◌∷◌, ◌++◌, Option, Some, None, IfSome}
use Rattle.pd_answers.specs.declared.request.Asked.TheVariants.{DeviceList}
use Rattle.pd_laws_answers.proofs.Asked.{answered_for, puts}
use Rattle.std.specs.Prelude.{codes}
use Rattle.pd_answers.specs.declared.request.Request.TheVariants.{Query}
use Rattle.pd_answers.specs.Words.{is_flag, items_of, given, version_of, tool_in, request_of, asked}
use Rattle.pd_laws_answers.specs.Words.{IsName, to_file}
use Rattle.pd_laws_answers.proofs.words.thin_ls_puts_the_devices.Goals as goal

thin_ls_asked : (file : Option (List ℕ)) (image : List ℕ) → IfSome file IsName → IsName image → asked (codes "thin_ls" ∷ (to_file file ++ (image ∷ []))) ≡ Some (Query DeviceList file image)
unfolding is_flag items_of given version_of tool_in request_of asked
thin_ls_asked None image is_file is_image = rw (is_image) refl
thin_ls_asked (Some file) image is_file is_image = rw (is_file, is_image) refl

pub returns : goal.returns
returns c = λ file image before after is_file is_image ends.
    puts DeviceList file image before after refl (answered_for _ _ 0 before after (thin_ls_asked file image is_file is_image) ends)
