-- Details trees by what is measured of them, and which of those with one sum are the best for a mapping tree.
-- The leaves of a mapping tree's top, by the notes of the roots that they name.
use Rattle.std.specs.Prelude.{ℕ, Bool, ◌&&◌, ◌||◌, nat_lt, List, ◌≡◌, ◌-◌, ◌^◌, ◌<◌, min, true, false, ◌==◌, if◌then◌else◌, [], ◌∷◌, Option, Some, None}
use Rattle.std.specs.List.{list_all}
use Rattle.std.specs.declared.cmp.Ordering.{Ordering}
use Rattle.std.specs.Ordering.{nat_cmp, ordering_then}
use Rattle.std.specs.BTreeMap.{BTreeMap, get}
use Rattle.pd_laid.specs.FoundRoots.{is_greater}
use Rattle.pd_graph.specs.declared.notes.Notes.{Notes}
use Rattle.pd_graph.specs.Format.{Contents}
use Rattle.pd_graph.specs.Notes.{size_of, note_in}
use Rattle.pd_settle.specs.Looking.{blocks_of_edges}
use Rattle.pd_measures.specs.declared.measures.Measured.{Measured}
use Rattle.pd_measures.specs.declared.measures.Measures.{Measures}
use Rattle.pd_measures.specs.Measured.{measure_at}
use Rattle.pd_scan.specs.declared.partners.Partner.{Partner}
use Rattle.pd_scan.specs.declared.partners.Partners.{Partners}

-- there is such a block, and it was noted as a good node
abbrev pub is_noted_good : Notes → ℕ → Bool
is_noted_good notes b = nat_lt b (size_of notes) && nat_lt (note_in notes b).height 65

-- the bytes are those of an inner node, or name only blocks that were noted as good nodes
abbrev pub keeps_roots : Contents → Notes → ℕ → List ℕ → Bool
keeps_roots contents notes role block =
    contents.is_inner role block || list_all (is_noted_good notes) (blocks_of_edges (contents.edges role block))

-- the sum of a tree's list of devices, as it is measured: how many mappings there are, and the fingerprint
abbrev pub sum_of : Measured → ℕ × ℕ
sum_of measure = (measure.total, measure.print)

-- what is measured has this sum
abbrev pub has_sum : ℕ × ℕ → Measured → Bool
has_sum sum measure = (measure.total == sum.0) && (measure.print == sum.1)

-- the order of sums
abbrev pub sum_cmp : ℕ × ℕ → ℕ × ℕ → Ordering
sum_cmp a b = ordering_then (nat_cmp a.0 b.0) (nat_cmp a.1 b.1)

-- the latest time below a tree, which has 32 bits
abbrev pub time_of : Measured → ℕ
time_of measure = min measure.time (2 ^ 32 - 1)

-- that of the tree with a root
abbrev pub time_at : Measures → ℕ → ℕ
time_at measures b = time_of (measure_at measures b)

-- a details tree is sound, and has this sum
unfoldable pub is_partner : Notes → Measures → ℕ × ℕ → ℕ → Bool
is_partner details measures sum b = is_noted_good details b && has_sum sum (measure_at measures b)

-- a details tree by what it is compared by
abbrev pub partner_of : ℕ → Measured → Partner
partner_of b measure = record { root = b; time = time_of measure; transaction = measure.transaction }

abbrev pub partner_at : Measures → ℕ → Partner
partner_at measures b = partner_of b (measure_at measures b)

-- what it is compared by with others, the first number first: where their times count, and where the mapping tree's is
-- as late as each of them
abbrev pub by_time : Partner → List ℕ
by_time partner = partner.time ∷ partner.transaction ∷ partner.root ∷ []

abbrev pub by_transaction : Partner → List ℕ
by_transaction partner = partner.transaction ∷ partner.root ∷ []

-- of the trees that pass, with roots before a block, the greatest one
pub record IsGreatest (passes : ℕ → Bool) (partner : ℕ → Partner) (by : Partner → List ℕ) (before : ℕ) (greatest : Partner) : Type 0 where
  pub fit : passes greatest.root ≡ true
  pub small : greatest.root < before
  pub told : greatest ≡ partner greatest.root
  pub none_greater : (b : ℕ) → b < before → passes b ≡ true → is_greater (by (partner b)) (by greatest) ≡ false

-- the greatest one by each order
pub record ArePartners (passes : ℕ → Bool) (partner : ℕ → Partner) (before : ℕ) (partners : Partners) : Type 0 where
  pub latest : IsGreatest passes partner by_time before partners.latest
  pub newest : IsGreatest passes partner by_transaction before partners.newest

-- the same, where some pass, and else there are none
abbrev pub ArePartnersBefore : (ℕ → Bool) → (ℕ → Partner) → ℕ → Option Partners → Type 0
ArePartnersBefore passes partner before None = (b : ℕ) → b < before → passes b ≡ false
ArePartnersBefore passes partner before (Some partners) = ArePartners passes partner before partners

-- the greater one of two trees
abbrev pub greater_of : (Partner → List ℕ) → Partner → Partner → Partner
greater_of by old new = if is_greater (by new) (by old) then new else old

-- partners and one more tree
abbrev pub with_one : Option Partners → Partner → Partners
with_one None one = record { latest = one; newest = one }
with_one (Some partners) one = record {
  latest = greater_of by_time partners.latest one;
  newest = greater_of by_transaction partners.newest one;
}

-- the best partner of a mapping tree with this time: the one with the latest time, if that is later, and else the newest
abbrev pub best_partner : Partners → ℕ → ℕ
best_partner partners time = if nat_lt time partners.latest.time then partners.latest.root else partners.newest.root

-- the table has of each sum the partners among the trees with roots before a block
pub record AreBySum (details : Notes) (measures : Measures) (before : ℕ) (table : BTreeMap (ℕ × ℕ) Partners) : Type 0 where
  pub partners : (sum : ℕ × ℕ) → ArePartnersBefore (is_partner details measures sum) (partner_at measures) before (get sum_cmp table sum)
