-- Good nodes: what they are by their children, and by chains of inner edges.
use Rattle.std.proofs.Common.{◌≡◌, ◌⊎◌, inl, inr, ℕ, suc, ◌+◌, ◌-◌, ◌<◌, ◌≤◌, Bool, true, false, cond, List, [], map, refl, sym, ◌∙◌, ap, subst, arith, zero, ◌&&◌, ◌||◌, not}
use Rattle.std.specs.List.{list_any, flat_map, list_all}
use Rattle.std.proofs.lemmas.Bool.{cases_Bool, and_parts, and_from, both_ways}
use Rattle.pd_kinds.specs.Graph.{has_chain, gathered, are_children_in_range}
use Rattle.pd_kinds.proofs.ListLemmas.{all_from, all_from_two}
use Rattle.pd_graph.specs.declared.notes.Note.{Note}
use Rattle.pd_graph.specs.Notes.{no_note}
use Rattle.pd_settle.specs.Notes.{keys_note, joined, are_notes_in_range, one_step_higher, IsNoted}
use Rattle.pd_settle.proofs.ChainLemmas.{is_among, all_among, longer_chain, ends_by, ends_above, chain_by, among_passes, all_pass, ends_below}
use Rattle.pd_settle.proofs.KeyLemmas.{gathered_step, joined_keys, joined_above, joined_within, joined_is, ranges_kept}
use Rattle.pd_settle.specs.Settled.{is_good}

-- The note of a node is right where those of its children are.

-- a node without children has chains of no length
ends_at_leaf : (down : ℕ → List ℕ) (p : ℕ) → down p ≡ [] → has_chain down 1 p ≡ false
unfolding has_chain
ends_at_leaf down p none = ap (list_any (λ (c : ℕ). true)) none

pub chain_none : (down : ℕ → List ℕ) (p : ℕ) → has_chain down 0 p ≡ true
unfolding has_chain
chain_none down p = refl

module _ (inner : ℕ → Bool) (down : ℕ → List ℕ) (own : ℕ → List ℕ) where
  -- the keys of a node that isn't deep
  keys_at : (p : ℕ) (h : ℕ) → h ≤ 64 → has_chain down h p ≡ false
      → gathered inner down own 63 p ≡ cond (inner p) (flat_map (gathered inner down own 63) (down p)) (own p)
  keys_at p h few ends = gathered_step inner down own 63 p (ends_by down h 64 p few ends)

  pub noted_leaf : (p : ℕ) → inner p ≡ false → down p ≡ [] → IsNoted inner down own p (keys_note (own p) 1 true)
  noted_leaf p leaf none =
      let ends = ends_at_leaf down p none in
      record {
        low = omega arith;
        high = omega arith;
        long = chain_none down p;
        ends = ends;
        keys =
            ap (λ (ks : List ℕ). keys_note ks 1 true)
            (sym (keys_at p 1 (omega arith) ends ∙ ap (λ (b : Bool). cond b (flat_map (gathered inner down own 63) (down p)) (own p)) leaf));
      }

  -- a child's note is right, and the node is no deeper than others may be
  pub record IsLow (c : ℕ) (note : Note) : Type 0 where
    pub noted : IsNoted inner down own c note
    pub low : note.height < 64

  long_at : (notes : ℕ → Note) (p : ℕ) (m : ℕ) → ((c : ℕ) → is_among c (down p) ≡ true → IsLow c (notes c))
      → ((m ≡ 0) ⊎ ((c : ℕ) × (is_among c (down p) ≡ true) × (m ≡ (notes c).height))) → has_chain down m p ≡ true
  long_at notes p m each (inl none) = subst (λ (k : ℕ). has_chain down k p ≡ true) (sym none) (chain_none down p)
  long_at notes p m each (inr one) =
      let c = one.0 in
      let noted = (each c one.1).noted in
      let some = noted.low in
      let same : suc ((notes c).height - 1) ≡ m = let e = one.2 in omega arith in
      subst (λ (k : ℕ). has_chain down k p ≡ true) same (longer_chain down ((notes c).height - 1) p c one.1 noted.long)

  pub noted_inner : (notes : ℕ → Note) (p : ℕ) (r : Bool) → inner p ≡ true → ((c : ℕ) → is_among c (down p) ≡ true → IsLow c (notes c))
      → IsNoted inner down own p (one_step_higher (joined notes no_note (down p)) r)
  noted_inner notes p r is_inner each =
      let sum = joined notes no_note (down p) in
      let m = sum.height in
      let all = all_among (λ c. IsLow c (notes c)) (down p) each in
      let few : m ≤ 63 = joined_within notes 63 (down p) no_note (omega arith)
      (all_from (λ c. IsLow c (notes c)) (λ c. (notes c).height ≤ 63) (λ c low. let e = low.low in omega arith) (down p) all) in
      let ends : has_chain down (m + 1) p ≡ false =
      subst (λ (k : ℕ). has_chain down k p ≡ false) (let e : suc m ≡ m + 1 = omega arith in e)
      (ends_above down m p
      (all_from_two (λ c. IsLow c (notes c)) (λ c. (notes c).height ≤ m) (λ c. has_chain down m c ≡ false)
      (λ c low most. ends_by down (notes c).height m c most low.noted.ends) (down p) all (joined_above notes (down p) no_note))) in
      let keys = joined_keys (gathered inner down own 63) notes (down p) [] no_note refl
      (all_from (λ c. IsLow c (notes c)) (λ c. notes c ≡ keys_note (gathered inner down own 63 c) (notes c).height (notes c).in_range) (λ c low. low.noted.keys) (down p) all) in
      let below : flat_map (gathered inner down own 63) (down p) ≡ gathered inner down own 63 p =
      sym (keys_at p (m + 1) (omega arith) ends ∙ ap (λ (b : Bool). cond b (flat_map (gathered inner down own 63) (down p)) (own p)) is_inner) in
      record {
        low = omega arith;
        high = omega arith;
        long = subst (λ (k : ℕ). has_chain down k p ≡ true) (let e : m ≡ m + 1 - 1 = omega arith in e) (long_at notes p m each (joined_is notes (down p) no_note));
        ends = ends;
        keys = ap (λ (n : Note). one_step_higher n r) keys ∙ ap (λ (ks : List ℕ). keys_note ks (m + 1) r) below;
      }

  -- and so are its children's ranges
  pub ranged_inner : (notes : ℕ → Note) (p : ℕ) (lows : List ℕ) → ((c : ℕ) → is_among c (down p) ≡ true → IsLow c (notes c))
      → are_children_in_range lows (map (gathered inner down own 63) (down p)) ≡ are_notes_in_range notes lows (down p)
  ranged_inner notes p lows each =
      ranges_kept (gathered inner down own 63) notes lows (down p)
      (all_from (λ c. IsLow c (notes c)) (λ c. notes c ≡ keys_note (gathered inner down own 63 c) (notes c).height (notes c).in_range) (λ c low. low.noted.keys) (down p)
      (all_among (λ c. IsLow c (notes c)) (down p) each))

  -- a node that isn't deep, and one whose child isn't low
  pub noted_shallow : (p : ℕ) (note : Note) → IsNoted inner down own p note → has_chain down 64 p ≡ false
  noted_shallow p note noted = ends_by down note.height 64 p noted.high noted.ends

  pub deep_above : (p c : ℕ) → is_among c (down p) ≡ true → has_chain down 63 c ≡ true → has_chain down 64 p ≡ true
  deep_above p c leads chain = longer_chain down 63 p c leads chain

  -- a note of height 64 tells of a chain of 63
  pub highest_is_long : (c : ℕ) (note : Note) → IsNoted inner down own c note → 64 ≤ note.height → has_chain down 63 c ≡ true
  highest_is_long c note noted high =
      let most = noted.high in
      chain_by down 63 (note.height - 1) c (omega arith) noted.long

module _ (well : ℕ → Bool) (down : ℕ → List ℕ) where
  pub never_good : (p : ℕ) → is_good well down 0 p ≡ false
  unfolding is_good
  never_good p = refl

  pub good_well : (j p : ℕ) → is_good well down (suc j) p ≡ true → well p ≡ true
  unfolding is_good
  good_well j p good = (and_parts (well p) (list_all (is_good well down j) (down p)) good).0

  pub good_below : (j p q : ℕ) → is_good well down (suc j) p ≡ true → is_among q (down p) ≡ true → is_good well down j q ≡ true
  unfolding is_good
  good_below j p q good leads =
      among_passes (is_good well down j) q (down p) (and_parts (well p) (list_all (is_good well down j) (down p)) good).1 leads

  pub good_from : (j p : ℕ) → well p ≡ true → ((q : ℕ) → is_among q (down p) ≡ true → is_good well down j q ≡ true) → is_good well down (suc j) p ≡ true
  unfolding is_good
  good_from j p itself each = and_from (well p) (list_all (is_good well down j) (down p)) itself (all_pass (is_good well down j) (down p) each)

  -- no chain of as many edges starts at a good node
  pub good_ends : (j p : ℕ) → is_good well down j p ≡ true → has_chain down j p ≡ false
  good_ends zero p good = absurd (both_ways _ (never_good p) good)
  good_ends (suc j) p good =
      ends_above down j p (all_among (λ c. has_chain down j c ≡ false) (down p) (λ c leads. good_ends j c (good_below j p c good leads)))

  -- so a node is good at each depth at which its chains end
  pub good_between : (j k p : ℕ) → is_good well down k p ≡ true → has_chain down j p ≡ false → is_good well down j p ≡ true
  good_between zero k p good ends = absurd (both_ways _ ends (chain_none down p))
  good_between (suc j) zero p good ends = absurd (both_ways _ (never_good p) good)
  good_between (suc j) (suc k) p good ends =
      good_from j p (good_well k p good) (λ q leads. good_between j k q (good_below k p q good leads) (ends_below down j p q ends leads))

  pub good_later : (j p : ℕ) → is_good well down j p ≡ true → is_good well down (suc j) p ≡ true
  good_later j p good = good_between (suc j) j p good (ends_by down j (suc j) p (omega arith) (good_ends j p good))

  -- a child of a good node is good
  pub good_child : (j p q : ℕ) → is_good well down (suc j) p ≡ true → is_among q (down p) ≡ true → is_good well down (suc j) q ≡ true
  good_child j p q good leads = good_later j q (good_below j p q good leads)

  -- and a node is good that is well, isn't deep, and whose children are good
  pub good_above : (j p : ℕ) → well p ≡ true → has_chain down (suc j) p ≡ false → ((q : ℕ) → is_among q (down p) ≡ true → is_good well down (suc j) q ≡ true)
      → is_good well down (suc j) p ≡ true
  good_above j p itself ends each =
      good_from j p itself (λ q leads. good_between j (suc j) q (each q leads) (ends_below down j p q ends leads))

  -- what makes a node bad: a chain, a bad child, or that it isn't well itself
  pub chain_bad : (j p : ℕ) → has_chain down j p ≡ true → is_good well down j p ≡ false
  chain_bad j p chain = elim (cases_Bool (is_good well down j p)) [
    | inl good ↦ absurd (both_ways _ (good_ends j p good) chain)
    | inr e ↦ e
  ]

  pub child_bad : (j p q : ℕ) → is_among q (down p) ≡ true → is_good well down (suc j) q ≡ false → is_good well down (suc j) p ≡ false
  child_bad j p q leads bad = elim (cases_Bool (is_good well down (suc j) p)) [
    | inl good ↦ absurd (both_ways _ bad (good_child j p q good leads))
    | inr e ↦ e
  ]

  pub itself_bad : (j p : ℕ) → well p ≡ false → is_good well down (suc j) p ≡ false
  itself_bad j p bad = elim (cases_Bool (is_good well down (suc j) p)) [
    | inl good ↦ absurd (both_ways _ bad (good_well j p good))
    | inr e ↦ e
  ]

  -- where each node is well, the good ones are those without a chain
  ends_good : ((q : ℕ) → well q ≡ true) → (j p : ℕ) → has_chain down j p ≡ false → is_good well down j p ≡ true
  ends_good all zero p ends = absurd (both_ways _ ends (chain_none down p))
  ends_good all (suc j) p ends = good_from j p (all p) (λ q leads. ends_good all j q (ends_below down j p q ends leads))

  pub good_is_shallow : ((q : ℕ) → well q ≡ true) → (j p : ℕ) → is_good well down j p ≡ not (has_chain down j p)
  good_is_shallow all j p = elim (cases_Bool (has_chain down j p)) [
    | inl chain ↦ chain_bad j p chain ∙ sym (ap not chain)
    | inr ends ↦ ends_good all j p ends ∙ sym (ap not ends)
  ]

-- whether a node is well, by the tests that it is made of
pub well_leaf : (fit strict inner ranged : Bool) → fit ≡ true → inner ≡ false → (fit && (not strict || (not inner || ranged))) ≡ true
well_leaf fit true inner ranged e f = rw (e, f) refl
well_leaf fit false inner ranged e f = rw e refl

pub well_inner : (fit strict inner ranged : Bool) → fit ≡ true → (strict && not ranged) ≡ false → (fit && (not strict || (not inner || ranged))) ≡ true
well_inner fit false inner ranged e f = rw e refl
well_inner fit true true true e f = rw e refl
well_inner fit true false true e f = rw e refl
well_inner fit true inner false e f = absurd (both_ways true f refl)

pub stray_bad : (fit strict inner ranged : Bool) → strict ≡ true → inner ≡ true → ranged ≡ false → (fit && (not strict || (not inner || ranged))) ≡ false
stray_bad true strict inner ranged e f g = rw (e, f, g) refl
stray_bad false strict inner ranged e f g = refl

pub unfit_bad : (fit rest : Bool) → fit ≡ false → (fit && rest) ≡ false
unfit_bad fit rest e = rw e refl

pub well_ranged : (fit inner ranged : Bool) → (fit && (not true || (not inner || ranged))) ≡ true → inner ≡ true → ranged ≡ true
well_ranged fit true ranged e f = (and_parts fit ranged e).1
well_ranged fit false ranged e f = absurd (both_ways false refl f)
