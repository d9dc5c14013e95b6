-- Between which data blocks mappings lead.
use Rattle.std.specs.Prelude.{◌≤◌, List}
use Rattle.std.specs.List.{AllByRecursion}
use Rattle.pd_uses.specs.declared.hits.Hit.{Hit}
use Rattle.pd_uses.specs.declared.hits.Span.{Span}

abbrev pub IsSpan : Span → List Hit → Type 0
IsSpan span hits = AllByRecursion (λ (hit : Hit). (span.least ≤ hit.block) × (hit.block ≤ span.most)) hits
