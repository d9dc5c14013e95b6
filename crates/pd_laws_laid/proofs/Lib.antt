pub mod ListLemmas
pub mod Bytes
pub mod Bitmaps
pub mod Index
pub mod MetaMap
pub mod LaidLemmas
pub mod Names
pub mod Roots
pub mod Formats
pub mod OnceTrees
pub mod MapLemmas
pub mod DataCounts
pub mod DeviceNames
pub mod PoolNames
pub mod PoolCase
mod CacheParts
mod CacheEntries
mod EraParts
pub mod ThinRows
pub mod ThinSuper
pub mod CacheNamed
pub mod EraNamed
pub mod NeedLemmas
pub mod Pool
pub mod WrittenParts
pub mod Ascending
pub mod LaidArrays
pub mod Levels
pub mod Nodes
pub mod Pieces
pub mod RoleCounts
pub mod Rows
pub mod Trees
pub mod ThinCounts
pub mod ThinDevices
pub mod ThinLaw
pub mod ThinPool
pub mod ThinWhole
mod CacheCounts
mod CacheLaw
mod CacheSuper
mod EraLaw
pub mod Plain
pub mod ShapeNeed
mod CacheWords
