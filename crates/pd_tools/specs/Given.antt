-- What a repair of a cache is given.
-- What a search is given.
use Rattle.std.specs.Prelude.{ℕ, Bool, true, ◌==◌, ◌||◌, Option, Some, None, List}
use Rattle.pd_answers.specs.Searches.{search}
use Rattle.pd_answers.specs.Terms.{Terms}
use Rattle.pd_answers.specs.declared.request.GivenSuper.{GivenSuper}

-- no version of the metadata is asked, or one that there is
abbrev pub is_known : Option ℕ → Bool
is_known None = true
is_known (Some version) = (version == 1) || (version == 2)

-- the terms of a search with these numbers, from one image to another, with shared leaves or without
abbrev pub terms_of_search : Bool → GivenSuper → List ℕ → List ℕ → Terms
terms_of_search shared given from to = search shared from to given.transaction given.block_size given.blocks
