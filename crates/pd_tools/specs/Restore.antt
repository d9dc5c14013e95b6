-- What a restore does to its objects, for each kind.
-- What a repair writes of a pool, as what is written.
use Rattle.std.specs.Prelude.{◌≡◌, ◌≢◌, ℕ, List, Result, IfSome, Bool, true, false}
use Rattle.pd_kinds.specs.declared.kind.Kind.{Kind}
use Rattle.pd_kinds.specs.declared.kind.Kind.TheVariants.{Thin, Cache, Era}
use Rattle.pd_kinds.specs.Objects.{DeviceState, SourceState, Rose}
use Rattle.pd_kinds.specs.Crash.{IsUntouched}
use Rattle.pd_kinds.specs.ThinFormat.{ThinFields}
use Rattle.pd_grammar.specs.Spelling.{Verdict}
use Rattle.pd_grammar.specs.Lawful.{IsLawfulCache, IsLawfulEra}
use Rattle.pd_grammar.specs.CacheText.{IsCacheVerdict}
use Rattle.pd_grammar.specs.EraText.{IsEraVerdict}
use Rattle.pd_grammar.specs.Early.{is_cache_early, is_era_early}
use Rattle.pd_laid.specs.LaidThin.{laid_shape}
use Rattle.pd_laid.specs.LaidCache.{laid_cache}
use Rattle.pd_laid.specs.LaidEra.{laid_era}
use Rattle.pd_laid.specs.PoolText.{IsLawfulShape, IsPoolTextVerdict, is_pool_text_early}
use Rattle.pd_laid.specs.Salvage.{salvage_from, saved_shape_from}
use Rattle.pd_answers.specs.Terms.{IsUsed, reading, writing}
use Rattle.pd_answers.specs.Repairs.{Saved}
use Rattle.pd_answers.specs.Searches.{seen, timed}
use Rattle.pd_restoring.specs.declared.fault.RestoreFault.{RestoreFault}
use Rattle.pd_restoring.specs.Restored.{IsRestored}
-- with the shared leaves or without
pub use Rattle.pd_shrink.specs.Kept.{IsLawfulSaved, saved_content}
use Rattle.pd_tools.specs.declared.ending.Stop.{Stop}
use Rattle.pd_tools.specs.declared.ending.Stop.TheVariants.{Device, Stream, Memory}

-- each text of the kind has a verdict, whatever the room
abbrev pub HaveVerdicts : {M : Type 0} → (List ℕ → ℕ → Verdict M → Type 0) → Type 0
HaveVerdicts {M} IsVerdictOn = (text : List ℕ) (room : ℕ) → (v : Verdict M) × IsVerdictOn text room v

abbrev pub TextsHaveVerdicts : Kind → ℕ → Type 0
TextsHaveVerdicts Thin version = HaveVerdicts IsPoolTextVerdict
TextsHaveVerdicts Cache version = HaveVerdicts (IsCacheVerdict version)
TextsHaveVerdicts Era version = HaveVerdicts IsEraVerdict

-- what a restore of the kind did
abbrev pub IsRestoredAs : Kind → ℕ → Result (Unit {0}) RestoreFault → SourceState → SourceState → DeviceState → DeviceState → Type 0
IsRestoredAs Thin version = IsRestored IsLawfulShape IsPoolTextVerdict is_pool_text_early laid_shape
IsRestoredAs Cache version =
    IsRestored IsLawfulCache (IsCacheVerdict version) (is_cache_early version) (λ m room. laid_cache m version room)
IsRestoredAs Era version = IsRestored IsLawfulEra IsEraVerdict is_era_early laid_era

-- both objects were attached, under these paths, and otherwise left alone
pub record AreAttached (file path : List ℕ) (source attached : SourceState) (output opened : DeviceState) : Type 0 where
  pub source_access : attached.access ≡ 1
  pub source_path : IfSome attached.path (λ told. told ≡ file)
  pub left : attached.left ≡ source.left
  pub source_faults : attached.faults ≡ source.faults
  pub output_access : opened.access ≡ 2
  pub output_path : IfSome opened.path (λ told. told ≡ path)
  pub untouched : IsUntouched output opened
  pub output_faults : opened.faults ≡ output.faults

-- why an object couldn't be attached
abbrev pub FailedToAttach : SourceState → SourceState → DeviceState → DeviceState → Stop → Type 0
FailedToAttach source attached output opened Device = Rose output.faults opened.faults
FailedToAttach source attached output opened Stream = Rose source.faults attached.faults
FailedToAttach source attached output opened Memory = ⊥

-- one of them couldn't be attached, and both were left alone
pub record AreUnattached (file path : List ℕ) (source attached : SourceState) (output opened : DeviceState) (stop : Stop) : Type 0 where
  pub source_used : IsUsed (reading file) attached.access attached.path
  pub output_used : IsUsed (writing path) opened.access opened.path
  pub closed : opened.access ≢ 2
  pub order : opened.access ≢ 0 → attached.access ≡ 1
  pub untouched : IsUntouched output opened
  pub cause : FailedToAttach source attached output opened stop

-- what is saved by a superblock with these fields
abbrev pub saved_by : (shared : Bool) → ThinFields → List (List ℕ) → Saved shared
saved_by false = salvage_from
saved_by true = saved_shape_from

-- the same with this as the pool's time, and with sharing seen in it
abbrev pub seen_by : (shared : Bool) → ℕ → ThinFields → List (List ℕ) → Saved shared
seen_by shared time fields image = seen shared (timed shared time (saved_by shared fields image))
