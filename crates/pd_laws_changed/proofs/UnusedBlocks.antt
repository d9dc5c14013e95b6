-- A data block without a reference is mapped by no device that a root of the superblock leads to.
use Rattle.std.proofs.Common.{◌≡◌, ℕ, List, map, nat_eq, false}
use Rattle.std.specs.List.{AllByRecursion}
use Rattle.pd_kinds.specs.Graph.{block_at, data_count}
use Rattle.pd_kinds.specs.Meaning.{Mapping, ThinDevice, thin_device, thin_meaning}
use Rattle.pd_kinds.specs.Node.{Entry}
use Rattle.pd_kinds.specs.Stages.{IsReached}
use Rattle.pd_kinds.specs.ThinFormat.{mapped_block, mapped_time, thin_fields, thin_graph}
use Rattle.pd_kinds.specs.Whole.{Roots, details_entries, mapping_entries, roots_in, thin_roots, top_entries}
use Rattle.pd_kinds.proofs.ListLemmas.{all_from, all_mapped}
use Rattle.pd_laws_changed.specs.KnownPool.{IsKnown}
use Rattle.pd_laws_changed.specs.Unused.{IsMappedByNone, IsUnmapped, devices_from}
use Rattle.pd_laws_changed.proofs.FreeBlocks.{entries_unnamed}
use Rattle.pd_laws_changed.proofs.Pools.{AreReached, roots_reached}

module _ (image : List (List ℕ)) (known : IsKnown image) where
  module _ (d : ℕ) (none : data_count (thin_graph (block_at image 0)) image d ≡ 0) where
    abbrev IsElsewhere : Mapping → Type 0
    IsElsewhere mapping = nat_eq mapping.data_block d ≡ false

    device_elsewhere : (details : List Entry) (top : Entry) → IsReached (thin_graph (block_at image 0)) image top.value 3
        → AllByRecursion IsElsewhere (thin_device (thin_graph (block_at image 0)) image details top).mappings
    unfolding thin_device
    device_elsewhere details top reached =
        all_mapped (λ (e : Entry). record { virtual_block = e.key; data_block = mapped_block e.value; time = mapped_time e.value }) IsElsewhere (mapping_entries (thin_graph (block_at image 0)) image top.value)
        (entries_unnamed image known.ordered (known.devices (thin_fields (block_at image 0)).mapping_root known.roots.devices) d none top.value reached)

    devices_elsewhere : (roots : Roots) → AreReached image known roots → IsUnmapped d (devices_from image roots)
    devices_elsewhere roots reached =
        let graph = thin_graph (block_at image 0) in
        let details = details_entries graph image roots.details in
        let tops = top_entries graph image roots.mapping in
        all_mapped (thin_device graph image details) (λ (device : ThinDevice). AllByRecursion IsElsewhere device.mappings) tops
        (all_from (λ (top : Entry). IsReached graph image top.value 3) (λ (top : Entry). AllByRecursion IsElsewhere (thin_device graph image details top).mappings) (device_elsewhere details) tops
        (known.devices roots.mapping reached.mapping))

    pub mapped_by_none : IsMappedByNone image d
    unfolding thin_meaning
    mapped_by_none = record {
      pool = devices_elsewhere (roots_in (block_at image 0)) (record { mapping = known.roots.devices; details = known.roots.details });
      roots = all_from (AreReached image known) (λ (roots : Roots). IsUnmapped d (devices_from image roots)) devices_elsewhere (thin_roots image) (roots_reached image known);
    }
