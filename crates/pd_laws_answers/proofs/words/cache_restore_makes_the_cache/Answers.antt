use Rattle.pd_laws_answers.proofs.Asked.{answered_for}
use Rattle.pd_laws_answers.proofs.Asked.{known_version}
use Rattle.std.proofs.Common.{◌≡◌, ℕ, List, [], ◌∷◌, ◌++◌, Option, Some, None, IfSome, refl}
use Rattle.std.specs.Prelude.{codes}
use Rattle.std.proofs.lemmas.Option.{same_Some}
use Rattle.pd_kinds.specs.declared.kind.Kind.TheVariants.{Cache}
use Rattle.pd_answers.specs.declared.request.Request.TheVariants.{Restore}
use Rattle.pd_answers.specs.Words.{is_flag, items_of, given, version_of, tool_in, request_of, asked}
use Rattle.pd_laws_answers.specs.Words.{IsName, in_version}
use Rattle.pd_laws_answers.proofs.words.cache_restore_makes_the_cache.Goals as goal

first_version : (version : ℕ) → version_of None ≡ Some version → 1 ≡ version
unfolding version_of
first_version version is = same_Some 1 version is

cache_restore_asked : (word : Option (List ℕ)) (version : ℕ) (file path : List ℕ) → IfSome word IsName → version_of word ≡ Some version → IsName file → IsName path
    → asked (codes "cache_restore" ∷ (in_version word ++ (codes "-i" ∷ file ∷ codes "-o" ∷ path ∷ []))) ≡ Some (Restore Cache version file path)
unfolding is_flag items_of given tool_in request_of asked
cache_restore_asked None version file path is_word is is_file is_path = rw (is_file, is_path, ← first_version version is) refl
cache_restore_asked (Some word) version file path is_word is is_file is_path = rw (is_word, is_file, is_path, is) refl

pub returns : goal.returns
returns c = λ word version file path before after is_word is is_file is_path ends.
    c.restored_cache_is_clean.ensures version file path before after (known_version word version is)
    (answered_for _ _ 0 before after (cache_restore_asked word version file path is_word is is_file is_path) ends)
