use Rattle.std.proofs.Common.{arith, ◌≡◌, ℕ, List, ◌∷◌, Option, Some, None, IfSome, refl}
use Rattle.pd_laws_answers.proofs.Asked.{answered_for}
use Rattle.std.specs.Prelude.{codes}
use Rattle.pd_answers.specs.declared.request.Request.TheVariants.{Generate}
use Rattle.pd_answers.specs.Words.{is_flag, items_of, given, version_of, generated_number, tool_in, request_of, asked}
use Rattle.pd_laws_answers.specs.Words.{IsName, to_file}
use Rattle.pd_laws_answers.proofs.words.thin_generate_puts_its_text.Goals as goal

thin_generate_asked : (word : List ℕ) (number : ℕ) (file : Option (List ℕ)) → IsName word → generated_number word ≡ Some number → IfSome file IsName
    → asked (codes "thin_generate" ∷ codes "--number" ∷ word ∷ to_file file) ≡ Some (Generate number file)
unfolding is_flag items_of given version_of tool_in request_of asked
thin_generate_asked word number None is_word is is_file = rw (is_word, is) refl
thin_generate_asked word number (Some file) is_word is is_file = rw (is_word, is_file, is) refl

pub returns : goal.returns
returns c = λ word number file before after is_word is is_file ends.
    ((answered_for _ _ 0 before after (thin_generate_asked word number file is_word is is_file) ends).sound (omega arith)).out
