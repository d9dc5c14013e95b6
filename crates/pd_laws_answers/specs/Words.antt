-- Trusted base.
-- What status 0 says to whoever gave the words of a command line: of what was read, of what was put to `out`, and of what
-- the output holds.
-- The words of a command line as groups, which can be given in any order.
use Rattle.std.specs.Prelude.{◌≡◌, ℕ, ◌^◌, Bool, true, false, List, [], ◌∷◌, Option, Some, None, IfSome, codes, ◌++◌}
use Rattle.std.specs.List.{AllByRecursion}
use Rattle.pd_kinds.specs.declared.kind.Kind.{Kind}
use Rattle.pd_kinds.specs.declared.kind.Kind.TheVariants.{Thin, Cache, Era}
use Rattle.pd_kinds.specs.declared.kind.Passing.{Passing}
use Rattle.pd_kinds.specs.declared.kind.Passing.TheVariants.{Nothing, Leaks}
use Rattle.pd_kinds.specs.declared.kind.Stage.TheVariants.{Super, Whole}
use Rattle.pd_kinds.specs.Crash.{HoldsSynced}
use Rattle.pd_kinds.specs.Graph.{block_at}
use Rattle.pd_kinds.specs.Image.{IsImage}
use Rattle.pd_kinds.specs.Objects.{Appends}
use Rattle.pd_kinds.specs.Stages.{faults}
use Rattle.pd_kinds.specs.ThinFormat.{thin_fields}
use Rattle.pd_grammar.specs.ThinText.{SpellsPool}
use Rattle.pd_laid.specs.Shape.{image_shape}
use Rattle.pd_laid.specs.PoolText.{SpellsPoolShape, text_of_shape}
use Rattle.pd_answers.specs.Terms.{Objects, IsAnswered}
use Rattle.pd_answers.specs.Rehearsals.{generated_text}
use Rattle.pd_answers.specs.KeptLines.{IsTold, Told, told_text}
use Rattle.pd_answers.specs.Promises.{terms_of}
use Rattle.pd_answers.specs.QueryLines.{image_text}
use Rattle.pd_answers.specs.declared.request.CacheRoots.{CacheRoots}
use Rattle.pd_answers.specs.Words.{asked, is_value, number_below, version_of, is_flag}
use Rattle.pd_laws_laid.specs.Clean.{IsCleanPool}
use Rattle.pd_laws_answers.specs.Exact.{IsOfText, LosesNothing, TellsClean, TellsPassed}

-- a call that was given the words, without the program's own name, ended with this status
abbrev pub CallEnds : List (List ℕ) → ℕ → Objects → Objects → Type 0
CallEnds words status before after = IsAnswered (terms_of (asked words)) before after status

-- a word that can name a file or a device, or be a value
abbrev pub IsName : List ℕ → Type 0
IsName word = is_value word ≡ true

-- `-o FILE`, where a file is named; else `out` is the standard stream
abbrev pub to_file : Option (List ℕ) → List (List ℕ)
to_file None = []
to_file (Some file) = codes "-o" ∷ file ∷ []

-- a word with its value, where one is given
abbrev pub if_given : List ℕ → Option (List ℕ) → List (List ℕ)
if_given name None = []
if_given name (Some word) = name ∷ word ∷ []

-- `--metadata-version VERSION`, where one is given
abbrev pub in_version : Option (List ℕ) → List (List ℕ)
in_version version = if_given (codes "--metadata-version") version

-- a version that may be left out is said by its word
abbrev pub IsVersionSaid : Option (List ℕ) → Option ℕ → Type 0
IsVersionSaid None None = Unit {0}
IsVersionSaid (Some word) (Some version) = IsName word × (version_of (Some word) ≡ Some version)
IsVersionSaid _ _ = ⊥

-- a block number that may be left out is said by its word
abbrev pub IsBlockSaid : Option (List ℕ) → Option ℕ → Type 0
IsBlockSaid None None = Unit {0}
IsBlockSaid (Some word) (Some block) = IsName word × (number_below (2 ^ 64) word ≡ Some block)
IsBlockSaid _ _ = ⊥

-- the words for the roots of a cache's arrays, where they are named
pub record CacheRootWords : Type 0 where
  pub mappings : Option (List ℕ)
  pub hints : Option (List ℕ)
  pub dirty : Option (List ℕ)

-- they are these roots in decimal
pub record SayCacheRoots (words : CacheRootWords) (named : CacheRoots) : Type 0 where
  pub mappings : IsBlockSaid words.mappings named.mappings
  pub hints : IsBlockSaid words.hints named.hints
  pub dirty : IsBlockSaid words.dirty named.dirty

-- `--mapping-root ROOT`, `--hint-root ROOT` and `--dirty-root ROOT`, each where it is given
abbrev pub naming_roots : CacheRootWords → List (List ℕ) → List (List ℕ)
naming_roots words others =
    if_given (codes "--mapping-root") words.mappings
    ++ (if_given (codes "--hint-root") words.hints ++ (if_given (codes "--dirty-root") words.dirty ++ others))

-- none of them is
abbrev pub no_root_words : CacheRootWords
no_root_words = record { mappings = None; hints = None; dirty = None }

-- `--shared`, where shared leaves are kept
abbrev pub with_sharing : Bool → List (List ℕ)
with_sharing false = []
with_sharing true = codes "--shared" ∷ []

-- `--ignore-non-fatal-errors`, where leaks pass
abbrev pub letting_pass : Passing → List (List ℕ)
letting_pass Nothing = []
letting_pass Leaks = codes "--ignore-non-fatal-errors" ∷ []

-- the status of a check tells whether the image is clean
abbrev pub TellsWhetherClean : Kind → Objects → Objects → ℕ → Type 0
TellsWhetherClean kind before after status = IfSome before.input.held (TellsClean kind before after status)

-- or whether it passes
abbrev pub TellsWhetherPassed : Passing → Kind → Objects → Objects → ℕ → Type 0
TellsWhetherPassed passing kind before after status = IfSome before.input.held (TellsPassed passing kind before after status)

-- the image that was read loses nothing
abbrev pub InputLosesNothing : Kind → Objects → Type 0
InputLosesNothing kind before = IfSome before.input.held (LosesNothing kind)

-- the name of the check of a kind
abbrev pub check_name : Kind → List ℕ
check_name Thin = codes "thin_check"
check_name Cache = codes "cache_check"
check_name Era = codes "era_check"

-- the image has no faults up to the stage Whole, and these bytes were put to `out`
pub record PutsOfSound (kind : Kind) (bytes : List ℕ) (image : List (List ℕ)) (before after : Objects) : Type 0 where
  pub sound : faults kind Whole image ≡ []
  pub put : Appends bytes before.out.written after.out.written

-- such an image was read, and the bytes were put that this gives of it
abbrev pub PutsOfInput : Kind → (List (List ℕ) → List ℕ) → Objects → Objects → Type 0
PutsOfInput kind bytes_of before after = IfSome before.input.held (λ image. PutsOfSound kind (bytes_of image) image before after)

-- the superblock of the image that was read has no faults, and it was put what a repair would keep of it, and the least numbers of
-- blocks on which that has room
pub record TellsKept (image : List (List ℕ)) (before after : Objects) : Type 0 where
  pub sound : faults Thin Super image ≡ []
  pub told : Told
  pub right : IsTold (thin_fields (block_at image 0)) image told
  pub put : Appends (told_text told) before.out.written after.out.written

abbrev pub TellsKeptOfInput : Objects → Objects → Type 0
TellsKeptOfInput before after = IfSome before.input.held (λ image. TellsKept image before after)

-- these bytes were put, and they spell this
pub record PutsSpelled {M : Type 0} (kind : Kind) (Spells : List ℕ → M → Type 0) (meaning : M) (bytes : List ℕ) (image : List (List ℕ)) (before after : Objects) : Type 0 where
  pub text : PutsOfSound kind bytes image before after
  pub spells : IsImage image → Spells bytes meaning

-- the image's text was put, and it spells what the image means
abbrev pub PutsTextOfInput : {M : Type 0} → Kind → (List ℕ → M → Type 0) → (List (List ℕ) → M) → Objects → Objects → Type 0
PutsTextOfInput kind Spells meaning_of before after =
    IfSome before.input.held (λ image. PutsSpelled kind Spells (meaning_of image) (image_text kind image) image before after)

-- the text of the pool's shape was put, which tells each shared leaf once, and it spells this shape
abbrev pub PutsShapeOfInput : Objects → Objects → Type 0
PutsShapeOfInput before after =
    IfSome before.input.held (λ image. PutsSpelled Thin SpellsPoolShape (image_shape image) (text_of_shape (image_shape image)) image before after)

-- the generator's text was put
abbrev pub PutsGenerated : ℕ → Objects → Objects → Type 0
PutsGenerated number before after = Appends (generated_text number) before.out.written after.out.written

-- the output holds an image that is clean and means the pool of the generator's text, and nothing of it is unsynced
abbrev pub HoldsGenerated : ℕ → Objects → Objects → Type 0
HoldsGenerated number before after = IfSome before.output.held (λ base.
    IfSome after.output.held (λ image. IsOfText SpellsPool IsCleanPool (generated_text number) image × HoldsSynced image after.output))

-- what stands behind a tool's name: a flag's word alone, an option's word with its value, or an operand alone
pub data Group : Type 0 where
  flag : List ℕ → Group
  option : List ℕ → List ℕ → Group
  operand : List ℕ → Group

abbrev pub words_of_group : Group → List (List ℕ)
words_of_group (flag name) = name ∷ []
words_of_group (option name value) = name ∷ value ∷ []
words_of_group (operand word) = word ∷ []

-- an option's word is each that is neither a flag's nor can be a value; whether a tool has it is another question
abbrev pub IsGroup : Group → Type 0
IsGroup (flag name) = (is_value name ≡ false) × (is_flag name ≡ true)
IsGroup (option name value) = (is_value name ≡ false) × (is_flag name ≡ false) × (is_value value ≡ true)
IsGroup (operand word) = is_value word ≡ true

abbrev pub AreGroups : List Group → Type 0
AreGroups groups = AllByRecursion IsGroup groups

-- their words, one group after another
abbrev pub words_of_groups : List Group → List (List ℕ)
words_of_groups [] = []
words_of_groups (group ∷ groups) = words_of_group group ++ words_of_groups groups
