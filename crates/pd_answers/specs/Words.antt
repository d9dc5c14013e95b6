-- Trusted base.
-- What the words of a command line ask for.
use Rattle.std.specs.Prelude.{ℕ, ◌+◌, Bool, true, false, ◌==◌, ◌^◌, nat_lt, not, ◌&&◌, if◌then◌else◌, List, [], ◌∷◌, length, drop, Option, Some, None, is_some, codes, decimal}
use Rattle.std.specs.List.{list_any, list_all, filter_map, take_while}
use Rattle.std.specs.Option.{option_and_then}
use Rattle.std.specs.Str.{bytes_eq}
use Rattle.std.specs.Str.Parse.{digits_value}
use Rattle.pd_kinds.specs.declared.kind.Flagged.{Flagged}
use Rattle.pd_kinds.specs.declared.kind.Kind.{Kind}
use Rattle.pd_kinds.specs.declared.kind.Kind.TheVariants.{Thin, Cache, Era}
use Rattle.pd_kinds.specs.declared.kind.Passing.{Passing}
use Rattle.pd_kinds.specs.declared.kind.Passing.TheVariants.{Nothing, Leaks}
use Rattle.pd_kinds.specs.declared.kind.Stage.{Stage}
use Rattle.pd_kinds.specs.declared.kind.Stage.TheVariants.{Super, Walk, Order, Whole, Counts}
use Rattle.pd_kinds.specs.declared.kind.Flagged.TheVariants as flagged
use Rattle.pd_answers.specs.declared.request.GivenSuper.{GivenSuper}
use Rattle.pd_answers.specs.declared.request.NamedRoots.{NamedRoots}
use Rattle.pd_answers.specs.declared.request.CacheRoots.{CacheRoots}
use Rattle.pd_answers.specs.declared.request.Request.TheVariants.{Check, PassingCheck, CheckAndClear, Query, Restore, Repair, Search, RepairNamed, DrySearch, RepairCache, Generate, Rehearse, Writeback, Shrink}
use Rattle.pd_answers.specs.declared.tool.Need.{Need}
use Rattle.pd_answers.specs.declared.tool.Need.TheVariants.{Flag, Mark, Wanted, Optional}
use Rattle.pd_answers.specs.declared.tool.Tool.{Tool}
use Rattle.pd_answers.specs.declared.tool.Value.{Value}
use Rattle.pd_answers.specs.Tools.{ToolWords, Word, tools, image_word, until_word, passing_word, clear_word, file_word, shared_word, region_word, since_word, text_word, input_word, output_word, dry_run_word, version_word, number_word, transaction_word, block_size_word, data_blocks_word, mapping_root_word, details_root_word, map_root_word, hint_root_word, dirty_root_word, list_word, metadata_word, fast_word, origin_word, data_word, blocks_word}
use Rattle.pd_answers.specs.Requests.{Request}
use Rattle.pd_answers.specs.declared.request.Asked.TheVariants as ask
use Rattle.pd_answers.specs.declared.tool.Tool.TheVariants as tool
use Rattle.pd_answers.specs.declared.tool.Value.TheVariants as value

-- the next step needs the value of this one
infixl 10 ◌>>=◌
abbrev pub ◌>>=◌ : {A B : Type 0} → Option A → (A → Option B) → Option B
o >>= f = option_and_then f o

-- whether a word can be a value or an operand: it isn't empty, and doesn't begin with `-`
abbrev pub is_value : List ℕ → Bool
is_value [] = false
is_value (first ∷ rest) = not (first == 45)

-- whether a word has no value
abbrev pub is_flag_need : Need → Bool
is_flag_need Flag = true
is_flag_need Mark = true
is_flag_need (Wanted value) = false
is_flag_need (Optional value) = false

-- whether a word has this name
abbrev pub is_named : List ℕ → Word → Bool
is_named name word = bytes_eq name word.name

-- whether it is a flag of this name
abbrev pub is_named_flag : List ℕ → Word → Bool
is_named_flag name word = is_flag_need word.need && is_named name word

-- whether a word is a flag's of a tool
unfoldable pub is_flag : List ℕ → Bool
is_flag name = list_any (λ (row : ToolWords). list_any (is_named_flag name) row.words) tools

-- a word that was given, and for what: the value of an option for the option's word, the operand for `IMAGE`, and a
-- flag's word for itself
pub record Item : Type 0 where
  pub purpose : List ℕ
  pub value : List ℕ

-- one item more in front of the others
abbrev pub more : List ℕ → List ℕ → Option (List Item) → Option (List Item)
more purpose value None = None
more purpose value (Some items) = Some (record { purpose = purpose; value = value } ∷ items)

-- The words as items. A word that can be a value is the operand. Any other is a flag's word, or an option's word, and
-- then the next one is its value
unfoldable pub items_of : List (List ℕ) → Option (List Item)
items_of [] = Some []
items_of (word ∷ []) =
    if is_value word then more image_word.name word (Some [])
    else if is_flag word then more word word (Some [])
    else None
items_of (word ∷ next ∷ words) =
    if is_value word then more image_word.name word (items_of (next ∷ words))
    else if is_flag word then more word word (items_of (next ∷ words))
    else if is_value next then more word next (items_of words)
    else None

-- the value of an item, if it was given for this
abbrev pub value_of : List ℕ → Item → Option (List ℕ)
value_of purpose item = if bytes_eq item.purpose purpose then Some item.value else None

-- how often something was given
pub data Given : Type 0 where
  never : Given
  once : List ℕ → Given
  often : Given

abbrev pub given_of : List (List ℕ) → Given
given_of [] = never
given_of (value ∷ []) = once value
given_of (value ∷ other ∷ values) = often

unfoldable pub given : List ℕ → List Item → Given
given purpose items = given_of (filter_map (value_of purpose) items)

-- a value that is wanted
abbrev pub single_value : Given → Option (List ℕ)
single_value never = None
single_value (once value) = Some value
single_value often = None

-- a value that may be left out
abbrev pub at_most_one : Given → Option (Option (List ℕ))
at_most_one never = Some None
at_most_one (once value) = Some (Some value)
at_most_one often = None

-- whether a flag is set
abbrev pub is_set : Given → Option Bool
is_set never = Some false
is_set (once value) = Some true
is_set often = None

-- whether it is, where it must be
abbrev pub is_marked : Given → Option Bool
is_marked never = None
is_marked (once value) = Some true
is_marked often = None

-- the number that a word is in decimal, without leading zeros, if it is below the bound
unfoldable pub number_below : ℕ → List ℕ → Option ℕ
number_below bound word =
    let number = digits_value 10 word in
    if nat_lt number bound && bytes_eq word (decimal number) then Some number else None

-- a number from 1 to 10000
unfoldable pub generated_number : List ℕ → Option ℕ
generated_number word = do
  number ← number_below 10001 word
  if number == 0 then None else Some number

-- the word behind two points
abbrev pub behind_points : List ℕ → Option (List ℕ)
behind_points (first ∷ second ∷ word) = if (first == 46) && (second == 46) then Some word else None
behind_points _ = None

-- two numbers, with two points between them, of which the first isn't above the second
pub record Region : Type 0 where
  pub first : ℕ
  pub end : ℕ

unfoldable pub region_of : List ℕ → Option Region
region_of word =
    let begin = take_while (λ (c : ℕ). not (c == 46)) word in do
      first ← number_below (2 ^ 64) begin
      rest ← behind_points (drop (length begin) word)
      end ← number_below (2 ^ 64) rest
      if nat_lt end first then None else Some (record { first = first; end = end })

-- the stage that a word names
unfoldable pub stage_of : List ℕ → Option Stage
stage_of word =
    if bytes_eq word (codes "super") then Some Super
    else if bytes_eq word (codes "walk") then Some Walk
    else if bytes_eq word (codes "order") then Some Order
    else if bytes_eq word (codes "whole") then Some Whole
    else if bytes_eq word (codes "counts") then Some Counts
    else None

-- without a word it is the last one
abbrev pub stage_or_last : Option Stage → Stage
stage_or_last None = Counts
stage_or_last (Some until) = until

-- the version of a cache's metadata that a word names; without a word it is the first one
unfoldable pub version_of : Option (List ℕ) → Option ℕ
version_of None = Some 1
version_of (Some word) =
    if bytes_eq word (codes "1") then Some 1
    else if bytes_eq word (codes "2") then Some 2
    else None

abbrev pub version_or_first : Option ℕ → ℕ
version_or_first None = 1
version_or_first (Some version) = version

-- what a value is
abbrev pub Meant : Value → Type 0
Meant value.File = List ℕ
Meant value.Device = List ℕ
Meant value.Stage = Stage
Meant value.Version = ℕ
Meant value.Region = Region
Meant (value.UpTo most) = ℕ
Meant value.Generated = ℕ

-- and what the word says that gives it
abbrev pub meant : (value : Value) → List ℕ → Option (Meant value)
meant value.File word = Some word
meant value.Device word = Some word
meant value.Stage word = stage_of word
meant value.Version word = version_of (Some word)
meant value.Region word = region_of word
meant (value.UpTo most) word = number_below (most + 1) word
meant value.Generated word = generated_number word

abbrev pub meant_if_any : (value : Value) → Option (List ℕ) → Option (Option (Meant value))
meant_if_any value None = Some None
meant_if_any value (Some word) = do
  read ← meant value word
  Some (Some read)

-- what a word of the table says: whether a flag is set, or a value
abbrev pub Told : Need → Type 0
Told Flag = Bool
Told Mark = Bool
Told (Wanted value) = Meant value
Told (Optional value) = Option (Meant value)

abbrev pub told_by : (need : Need) → Given → Option (Told need)
told_by Flag times = is_set times
told_by Mark times = is_marked times
told_by (Wanted value) times = single_value times >>= meant value
told_by (Optional value) times = at_most_one times >>= meant_if_any value

-- what the items say for it
abbrev pub told : (word : Word) → List Item → Option (Told word.need)
told word items = told_by word.need (given word.name items)

-- the kinds that have the flag "needs check"
abbrev pub flagged_of : Kind → Option Flagged
flagged_of Thin = Some flagged.Pool
flagged_of Cache = Some flagged.Cache
flagged_of Era = None

-- whether leaks pass
abbrev pub passing_of : Bool → Passing
passing_of false = Nothing
passing_of true = Leaks

-- the flags stand only where the check goes to its end
abbrev pub check_with : Kind → Stage → Bool → Bool → List ℕ → Option Request
check_with kind until false false image = Some (Check kind until image)
check_with kind Counts true false image = Some (PassingCheck kind image)
check_with kind Counts leaks true image = do
  which ← flagged_of kind
  Some (CheckAndClear which (passing_of leaks) image)
check_with kind until leaks clear image = None

-- only of a pool the leaves that are shared are told once
abbrev pub dump_with : Kind → Bool → Option (List ℕ) → List ℕ → Option Request
dump_with kind false file image = Some (Query (ask.Text kind) file image)
dump_with Thin true file image = Some (Query ask.SharedText file image)
dump_with Cache true file image = None
dump_with Era true file image = None

-- what the items say of a superblock that is wanting, and of its roots
unfoldable pub given_super : List Item → Option GivenSuper
given_super items = do
  transaction ← told transaction_word items
  block_size ← told block_size_word items
  blocks ← told data_blocks_word items
  Some (record { transaction = transaction; block_size = block_size; blocks = blocks })

unfoldable pub named_roots : List Item → Option NamedRoots
named_roots items = do
  top ← told mapping_root_word items
  details ← told details_root_word items
  Some (record { top = top; details = details })

unfoldable pub cache_roots : List Item → Option CacheRoots
cache_roots items = do
  mappings ← told map_root_word items
  hints ← told hint_root_word items
  dirty ← told dirty_root_word items
  Some (record { mappings = mappings; hints = hints; dirty = dirty })

-- what the items ask of a tool
unfoldable pub request_of : Tool → List Item → Option Request
request_of (tool.Check kind) items = do
  until ← told until_word items
  leaks ← told passing_word items
  clear ← told clear_word items
  image ← told image_word items
  check_with kind (stage_or_last until) leaks clear image
request_of (tool.Dump kind) items = do
  shared ← told shared_word items
  file ← told file_word items
  image ← told image_word items
  dump_with kind shared file image
request_of (tool.Restore kind) items = do
  version ← told version_word items
  text ← told text_word items
  image ← told output_word items
  Some (Restore kind (version_or_first version) text image)
request_of tool.Repair items = do
  shared ← told shared_word items
  input ← told input_word items
  output ← told output_word items
  Some (Repair shared input output)
request_of tool.Search items = do
  shared ← told shared_word items
  input ← told input_word items
  output ← told output_word items
  given ← given_super items
  Some (Search shared input output given)
request_of tool.NamedRepair items = do
  shared ← told shared_word items
  input ← told input_word items
  output ← told output_word items
  given ← given_super items
  named ← named_roots items
  Some (RepairNamed shared input output given named)
request_of tool.DryRepair items = do
  dry_run ← told dry_run_word items
  shared ← told shared_word items
  input ← told input_word items
  Some (Query ask.Kept None input)
request_of tool.DrySearch items = do
  dry_run ← told dry_run_word items
  shared ← told shared_word items
  input ← told input_word items
  given ← given_super items
  Some (DrySearch input given None)
request_of tool.DryNamed items = do
  dry_run ← told dry_run_word items
  shared ← told shared_word items
  input ← told input_word items
  given ← given_super items
  named ← named_roots items
  Some (DrySearch input given (Some named))
request_of tool.RepairCache items = do
  version ← told version_word items
  named ← cache_roots items
  input ← told input_word items
  output ← told output_word items
  Some (RepairCache version named input output)
request_of tool.DryRepairCache items = do
  dry_run ← told dry_run_word items
  version ← told version_word items
  named ← cache_roots items
  input ← told input_word items
  Some (Query (ask.KeptCache named) None input)
request_of tool.ReverseMap items = do
  region ← told region_word items
  file ← told file_word items
  image ← told image_word items
  Some (Query (ask.ReverseMap region.first region.end) file image)
request_of tool.DeviceList items = do
  file ← told file_word items
  image ← told image_word items
  Some (Query ask.DeviceList file image)
request_of tool.Unused items = do
  list ← told list_word items
  file ← told file_word items
  image ← told image_word items
  Some (Query ask.Unused file image)
request_of tool.Since items = do
  era ← told since_word items
  file ← told file_word items
  image ← told image_word items
  Some (Query (ask.Since era) file image)
request_of tool.Generate items = do
  number ← told number_word items
  file ← told file_word items
  Some (Generate number file)
request_of tool.Rehearse items = do
  number ← told number_word items
  image ← told output_word items
  Some (Rehearse number image)
request_of tool.Writeback items = do
  metadata ← told metadata_word items
  fast ← told fast_word items
  origin ← told origin_word items
  Some (Writeback metadata fast origin)
request_of tool.Shrink items = do
  shared ← told shared_word items
  input ← told input_word items
  output ← told output_word items
  pool ← told data_word items
  blocks ← told blocks_word items
  Some (Shrink shared input output pool blocks)

-- whether an item is given for one of these words
abbrev pub is_known : List Word → Item → Bool
is_known words item = list_any (is_named item.purpose) words

-- the items, where each of them is
abbrev pub known : List Word → Option (List Item) → Option (List Item)
known words None = None
known words (Some items) = if list_all (is_known words) items then Some items else None

-- whether a form has this name, and each of the items is given for one of its words
abbrev pub takes : List ℕ → Option (List Item) → ToolWords → Bool
takes word items row = bytes_eq word row.name && is_some (known row.words items)

-- the first such form
unfoldable pub tool_in : List ToolWords → List ℕ → Option (List Item) → Option ToolWords
tool_in [] word items = None
tool_in (row ∷ others) word items = if takes word items row then Some row else tool_in others word items

abbrev pub tool_of : List ℕ → Option (List Item) → Option ToolWords
tool_of word items = tool_in tools word items

-- what the words ask for, without the program's own name
unfoldable pub asked : List (List ℕ) → Option Request
asked [] = None
asked (word ∷ words) = do
  row ← tool_of word (items_of words)
  items ← known row.words (items_of words)
  request_of row.tool items
