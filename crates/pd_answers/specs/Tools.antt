-- Trusted base.
-- The tools, and the words that can be given to each.
use Rattle.std.specs.Prelude.{ℕ, ◌-◌, ◌^◌, List, [], ◌∷◌, codes}
use Rattle.pd_kinds.specs.declared.kind.Kind.TheVariants.{Thin, Cache, Era}
use Rattle.pd_answers.specs.declared.tool.Need.{Need}
use Rattle.pd_answers.specs.declared.tool.Need.TheVariants.{Flag, Mark, Wanted, Optional}
use Rattle.pd_answers.specs.declared.tool.Tool.TheVariants.{Check, Dump, Restore, Repair, Search, NamedRepair, DryRepair, DrySearch, DryNamed, RepairCache, DryRepairCache, ReverseMap, DeviceList, Unused, Since, Generate, Rehearse, Writeback, Shrink}
use Rattle.pd_answers.specs.declared.tool.ToolWords.{ToolWords as ToolWordsOf}
use Rattle.pd_answers.specs.declared.tool.Value.TheVariants.{File, Device, Stage, Version, Region, UpTo, Generated}
use Rattle.pd_answers.specs.declared.tool.Word.{Word as WordOf}

-- a word that can be given, by its name
abbrev pub Word : Type 0
Word = WordOf (List ℕ)

abbrev pub named : List ℕ → Need → Word
named name need = record { name = name; need = need }

-- the operand, which has no option's word before it
abbrev pub image_word : Word
image_word = named (codes "IMAGE") (Wanted Device)

-- the last stage of a check, and its flags
abbrev pub until_word : Word
until_word = named (codes "--until") (Optional Stage)

abbrev pub passing_word : Word
passing_word = named (codes "--ignore-non-fatal-errors") Flag

abbrev pub clear_word : Word
clear_word = named (codes "--clear-needs-check-flag") Flag

-- the file for what is printed, and whether shared leaves are told once in it, or kept in what is written
abbrev pub file_word : Word
file_word = named (codes "-o") (Optional File)

abbrev pub shared_word : Word
shared_word = named (codes "--shared") Flag

-- what is asked of an image
abbrev pub region_word : Word
region_word = named (codes "--region") (Wanted Region)

abbrev pub since_word : Word
since_word = named (codes "--written-since") (Wanted (UpTo (2 ^ 32 - 1)))

-- what is read, and what is written
abbrev pub text_word : Word
text_word = named (codes "-i") (Wanted File)

abbrev pub input_word : Word
input_word = named (codes "-i") (Wanted Device)

abbrev pub output_word : Word
output_word = named (codes "-o") (Wanted Device)

-- that nothing is written, but told what would be
abbrev pub dry_run_word : Word
dry_run_word = named (codes "--dry-run") Mark

abbrev pub version_word : Word
version_word = named (codes "--metadata-version") (Optional Version)

abbrev pub number_word : Word
number_word = named (codes "--number") (Wanted Generated)

-- the numbers of a superblock that is wanting
abbrev pub transaction_word : Word
transaction_word = named (codes "--transaction-id") (Wanted (UpTo (2 ^ 64 - 1)))

abbrev pub block_size_word : Word
block_size_word = named (codes "--data-block-size") (Wanted (UpTo (2 ^ 32 - 1)))

abbrev pub data_blocks_word : Word
data_blocks_word = named (codes "--nr-data-blocks") (Wanted (UpTo (2 ^ 40)))

abbrev pub superblock_words : List Word
superblock_words = transaction_word ∷ block_size_word ∷ data_blocks_word ∷ []

-- and its roots
abbrev pub mapping_root_word : Word
mapping_root_word = named (codes "--mapping-root") (Wanted (UpTo (2 ^ 64 - 1)))

abbrev pub details_root_word : Word
details_root_word = named (codes "--details-root") (Wanted (UpTo (2 ^ 64 - 1)))

-- the roots of a cache's arrays, and all that can be said of its metadata
abbrev pub map_root_word : Word
map_root_word = named (codes "--mapping-root") (Optional (UpTo (2 ^ 64 - 1)))

abbrev pub hint_root_word : Word
hint_root_word = named (codes "--hint-root") (Optional (UpTo (2 ^ 64 - 1)))

abbrev pub dirty_root_word : Word
dirty_root_word = named (codes "--dirty-root") (Optional (UpTo (2 ^ 64 - 1)))

abbrev pub cache_words : List Word
cache_words = version_word ∷ map_root_word ∷ hint_root_word ∷ dirty_root_word ∷ input_word ∷ []

-- that the blocks to which no mapping leads are listed
abbrev pub list_word : Word
list_word = named (codes "--list") Mark

-- the devices of a cache
abbrev pub metadata_word : Word
metadata_word = named (codes "--metadata-device") (Wanted Device)

abbrev pub fast_word : Word
fast_word = named (codes "--fast-device") (Wanted Device)

abbrev pub origin_word : Word
origin_word = named (codes "--origin-device") (Wanted Device)

-- the data device of a pool, and how many data blocks it is to have
abbrev pub data_word : Word
data_word = named (codes "--data") (Wanted Device)

abbrev pub blocks_word : Word
blocks_word = named (codes "--nr-blocks") (Wanted (UpTo (2 ^ 64 - 1)))

-- a form of a tool: the tool's name, and what can be given to it
abbrev pub ToolWords : Type 0
ToolWords = ToolWordsOf (List ℕ) (List Word)

-- the forms of the tools
abbrev pub tools : List ToolWords
tools =
    record { name = codes "thin_check"; tool = Check Thin; words = until_word ∷ passing_word ∷ clear_word ∷ image_word ∷ [] }
    ∷ record { name = codes "cache_check"; tool = Check Cache; words = until_word ∷ passing_word ∷ clear_word ∷ image_word ∷ [] }
    ∷ record { name = codes "era_check"; tool = Check Era; words = until_word ∷ passing_word ∷ image_word ∷ [] }
    ∷ record { name = codes "thin_dump"; tool = Dump Thin; words = shared_word ∷ file_word ∷ image_word ∷ [] }
    ∷ record { name = codes "cache_dump"; tool = Dump Cache; words = file_word ∷ image_word ∷ [] }
    ∷ record { name = codes "era_dump"; tool = Dump Era; words = file_word ∷ image_word ∷ [] }
    ∷ record { name = codes "thin_restore"; tool = Restore Thin; words = text_word ∷ output_word ∷ [] }
    ∷ record { name = codes "cache_restore"; tool = Restore Cache; words = version_word ∷ text_word ∷ output_word ∷ [] }
    ∷ record { name = codes "era_restore"; tool = Restore Era; words = text_word ∷ output_word ∷ [] }
    ∷ record { name = codes "thin_repair"; tool = Repair; words = shared_word ∷ input_word ∷ output_word ∷ [] }
    ∷ record { name = codes "thin_repair"; tool = Search; words = shared_word ∷ input_word ∷ output_word ∷ superblock_words }
    ∷ record { name = codes "thin_repair"; tool = NamedRepair; words = shared_word ∷ input_word ∷ output_word ∷ mapping_root_word ∷ details_root_word ∷ superblock_words }
    ∷ record { name = codes "thin_repair"; tool = DryRepair; words = dry_run_word ∷ shared_word ∷ input_word ∷ [] }
    ∷ record { name = codes "thin_repair"; tool = DrySearch; words = dry_run_word ∷ shared_word ∷ input_word ∷ superblock_words }
    ∷ record { name = codes "thin_repair"; tool = DryNamed; words = dry_run_word ∷ shared_word ∷ input_word ∷ mapping_root_word ∷ details_root_word ∷ superblock_words }
    ∷ record { name = codes "cache_repair"; tool = RepairCache; words = output_word ∷ cache_words }
    ∷ record { name = codes "cache_repair"; tool = DryRepairCache; words = dry_run_word ∷ cache_words }
    ∷ record { name = codes "thin_rmap"; tool = ReverseMap; words = region_word ∷ file_word ∷ image_word ∷ [] }
    ∷ record { name = codes "thin_ls"; tool = DeviceList; words = file_word ∷ image_word ∷ [] }
    ∷ record { name = codes "thin_trim"; tool = Unused; words = list_word ∷ file_word ∷ image_word ∷ [] }
    ∷ record { name = codes "era_invalidate"; tool = Since; words = since_word ∷ file_word ∷ image_word ∷ [] }
    ∷ record { name = codes "thin_generate"; tool = Generate; words = number_word ∷ file_word ∷ [] }
    ∷ record { name = codes "thin_rehearse"; tool = Rehearse; words = number_word ∷ output_word ∷ [] }
    ∷ record { name = codes "cache_writeback"; tool = Writeback; words = metadata_word ∷ fast_word ∷ origin_word ∷ [] }
    ∷ record { name = codes "thin_shrink"; tool = Shrink; words = shared_word ∷ input_word ∷ output_word ∷ data_word ∷ blocks_word ∷ [] }
    ∷ []
