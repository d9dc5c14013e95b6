-- What a request that was read means.
use Rattle.std.specs.Prelude.{◌≡◌, ◌⊎◌, ℕ, ◌^◌, ◌≤◌, List, Option, IfSome}
use Rattle.std.specs.Borrow.{Bor}
use Rattle.std.specs.Option.{option_map}
use Rattle.pd_answers.specs.declared.request.Request.{Request as RequestOf}
use Rattle.pd_answers.specs.declared.request.Request.TheVariants.{Check, PassingCheck, CheckAndClear, Query, Restore, Repair, Search, RepairNamed, DrySearch, RepairCache, Generate, Rehearse, Writeback, Shrink}
use Rattle.pd_answers.specs.Requests.{Request}

-- a request of other words
abbrev pub request_map : {V W : Type 0} → (V → W) → RequestOf V → RequestOf W
request_map f (Check kind until image) = Check kind until (f image)
request_map f (PassingCheck kind image) = PassingCheck kind (f image)
request_map f (CheckAndClear flagged passing image) = CheckAndClear flagged passing (f image)
request_map f (Query asked file image) = Query asked (option_map f file) (f image)
request_map f (Restore kind version text image) = Restore kind version (f text) (f image)
request_map f (Repair shared input output) = Repair shared (f input) (f output)
request_map f (Search shared input output given) = Search shared (f input) (f output) given
request_map f (RepairNamed shared input output given named) = RepairNamed shared (f input) (f output) given named
request_map f (DrySearch input given named) = DrySearch (f input) given named
request_map f (RepairCache version named input output) = RepairCache version named (f input) (f output)
request_map f (Generate number file) = Generate number (option_map f file)
request_map f (Rehearse number image) = Rehearse number (f image)
request_map f (Writeback metadata fast origin) = Writeback (f metadata) (f fast) (f origin)
request_map f (Shrink shared input output pool blocks) = Shrink shared (f input) (f output) (f pool) blocks

-- a request as code has it
abbrev pub RequestRead : Type 0
RequestRead = RequestOf (Bor (List ℕ))

-- the request as the definitions speak of it: its words are lists of bytes
abbrev pub request_as : RequestRead → Request
request_as request = request_map (λ word. word.now) request

-- the request that was read, if one was
abbrev pub read_as : Option RequestRead → Option Request
read_as read = option_map request_as read

-- a number of the generator
abbrev pub IsGenerated : ℕ → Type 0
IsGenerated number = number ≤ 10000

-- a version of a cache's metadata
abbrev pub IsVersion : ℕ → Type 0
IsVersion version = (version ≡ 1) ⊎ (version ≡ 2)

-- a number of data blocks of a pool
abbrev pub IsPoolSize : ℕ → Type 0
IsPoolSize blocks = blocks ≤ 2 ^ 40

-- the numbers of a request are what they are to be: its version is one, and so are the generator's number and that of a pool's data
-- blocks
abbrev pub AreNumbers : RequestRead → Type 0
AreNumbers (Restore kind version text image) = IsVersion version
AreNumbers (Search shared input output given) = IsPoolSize given.blocks
AreNumbers (RepairNamed shared input output given named) = IsPoolSize given.blocks
AreNumbers (DrySearch input given named) = IsPoolSize given.blocks
AreNumbers (RepairCache version named input output) = IfSome version IsVersion
AreNumbers (Generate number file) = IsGenerated number
AreNumbers (Rehearse number image) = IsGenerated number
AreNumbers _ = Unit {0}
