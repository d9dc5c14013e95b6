-- A leaf that is noted, and one that is visited.
use Rattle.std.proofs.Common.{◌≡◌, ◌≢◌, inl, inr, ℕ, suc, ◌+◌, ◌-◌, ◌<◌, ◌≤◌, Bool, true, false, cond, ◌&&◌, nat_eq, get_or, set, List, [], ◌∷◌, ◌++◌, length, Option, Some, None, IfSome, refl, sym, ap, ◌∙◌, subst, arith, append_assoc, eq-eqb}
use Rattle.std.specs.List.{AllByRecursion, flat_map, slice_get}
use Rattle.std.proofs.lemmas.Bool.{both_ways, eqb-true, ne_eqb, cases_Bool}
use Rattle.std.proofs.lemmas.List.{length-append, get_or-set_same, get_or-set_other}
use Rattle.std.proofs.lemmas.Option.{IfSome_then, slice_get_within}
use Rattle.pd_kinds.specs.Graph.{is_outside, block_at}
use Rattle.pd_kinds.specs.Meaning.{Mapping}
use Rattle.pd_kinds.specs.Node.{is_inner_node}
use Rattle.pd_kinds.specs.ThinFormat.{ThinFields}
use Rattle.pd_grammar.specs.Lawful.{AreMappings}
use Rattle.pd_laid.specs.Salvage.{is_damaged, Visit, entries_of_visit, is_whole_visit, saved_of_visit}
use Rattle.pd_tree.specs.Stack.{child_weight, last_place}
use Rattle.pd_tree.proofs.NextLemmas.{if_both}
use Rattle.pd_tree.proofs.StackLemmas.{unit_some}
use Rattle.pd_salvage.specs.declared.way.Range.{Range}
use Rattle.pd_salvage.specs.declared.way.Way.{Way}
use Rattle.pd_salvage.specs.Range.{is_wanted}
use Rattle.pd_salvage.specs.Way.{PushesNode, frontier, told, way_number}
use Rattle.pd_salvage.proofs.RangeLemmas.{unwanted, wanted, told_inner, told_more}
use Rattle.pd_salvage_shapes.specs.declared.note.LeafNote.{LeafNote}
use Rattle.pd_salvage_shapes.specs.declared.visiting.Visiting.{Visiting}
use Rattle.pd_salvage_shapes.specs.Note.{Met, met_of, met_of_visit, mets_below, way_left, IsNote, in_keys, met_in, met_of_note, noted, saved_at}
use Rattle.pd_salvage_shapes.specs.Visiting.{AreMet, AreNotes, Grow, IsNoted, IsRaised, IsReady, KnowsInner, Meets, MeetsAll, ReadsPart, TakesNote, TakesOwn, Tells, TellsAll, TellsLeaf, Visits, is_undamaged_inner, maps, mets_now, mets_of}
use Rattle.pd_salvage_shapes.proofs.VisitingLemmas.{all_weaker, at_pushed, last_at, maps_append, maps_met, mets_grow, pushed_at, raised_are, raised_same, took_mets, took_ready, took_rest}

-- a note was added
module _ (old : Visiting) (ready : IsReady old) (note : LeafNote) (sound : IsNote old.s.data_map.blocks note) (notes : List LeafNote) (is : notes ≡ old.notes.items ++ note ∷ []) where
  abbrev blocks : ℕ
  blocks = old.s.data_map.blocks

  pub grown : Grow old.notes.items notes
  grown = λ k n at. rw is (at_pushed old.notes.items note k n at)

  pub more_notes : length notes ≡ length old.notes.items + 1
  more_notes = rw is (length-append old.notes.items (note ∷ []))

  met_bounded : AllByRecursion (λ k. k < length notes) old.met.items
  met_bounded =
      let more = more_notes in
      all_weaker (λ k. k < length old.notes.items) (λ k. k < length notes) (λ k below. omega arith) old.met.items ready.met.within

  pub same_mets : mets_of notes old.met.items ≡ mets_now old
  same_mets = mets_grow old.notes.items notes old.met.items grown ready.met.within

  pub met_grown : AreMet blocks notes old.met.items old.mapped old.least
  met_grown = record {
    within = met_bounded;
    lawful = rw same_mets ready.met.lawful;
    counted = rw same_mets ready.met.counted;
  }

  each_grown : (k : ℕ) (n : LeafNote) → slice_get notes k ≡ Some n → IsNote blocks n
  each_grown k n at = elim (pushed_at old.notes.items note k n (rw is at at)) [
    | inl before ↦ ready.notes.each k n before
    | inr last ↦ rw last.1 sound
  ]

  -- as one of a device's own
  module _ (part : note.full ≡ false) where
    pub own_notes : AreNotes blocks old.places.items notes
    own_notes = record {
      each = each_grown;
      placed = λ k n at full. elim (pushed_at old.notes.items note k n (rw is at at)) [
        | inl before ↦ ready.notes.placed k n before full
        | inr last ↦ absurd (both_ways note.full part (rw last.1 at full))
      ];
      named = λ b. let more = more_notes in let before = ready.notes.named b in omega arith;
    }

    pub own_tells : (image : List (List ℕ)) → TellsAll image old → Tells old.s image old.places.items notes
    own_tells image tells = λ b k n named at. elim (pushed_at old.notes.items note k n (rw is at at)) [
      | inl before ↦ tells b k n named before
      | inr last ↦ let most = ready.notes.named b in let number = last.0 in absurd (omega arith)
    ]

  -- as that of a block
  module _ (b : ℕ) (at_b : note.block ≡ b) (within : b < length old.places.items) (unread : get_or old.places.items b 0 ≡ 0) (places : List ℕ)
      (named : places ≡ set old.places.items b (length old.notes.items + 1)) where
    here : get_or places b 0 ≡ length old.notes.items + 1
    here = rw named (get_or-set_same old.places.items b (length old.notes.items + 1) 0 within)

    others : (c : ℕ) → c ≢ b → get_or places c 0 ≡ get_or old.places.items c 0
    others c other = rw named (get_or-set_other old.places.items b c (length old.notes.items + 1) 0 other)

    pub leaf_named : 1 ≤ get_or places b 0
    leaf_named = let is_here = here in omega arith

    pub leaf_notes : AreNotes blocks places notes
    leaf_notes = record {
      each = each_grown;
      placed = λ k n at full. elim (pushed_at old.notes.items note k n (rw is at at)) [
        | inl before ↦
            let place = ready.notes.placed k n before full in
            others n.block (λ same. let none : get_or old.places.items n.block 0 ≡ 0 = rw same unread in omega arith) ∙ place
        | inr last ↦ rw (last.1, at_b, last.0) here
      ];
      named = λ c.
          let more = more_notes in
          let is_here = here in
          let before = ready.notes.named c in
          elim (cases_Bool (nat_eq c b)) [
            | inl same ↦ let is_b = eqb-true c b same in rw is_b (omega arith)
            | inr apart ↦
                let other = others c (λ same. both_ways (nat_eq c b) apart (eq-eqb c b same)) in
                omega arith
          ];
    }

    pub leaf_tells : (image : List (List ℕ)) → TellsLeaf old.s image b note → TellsAll image old → Tells old.s image places notes
    leaf_tells image leaf tells = λ c k n at_c at. elim (cases_Bool (nat_eq c b)) [
      | inl same ↦
          let is_b = eqb-true c b same in
          let number : k ≡ length old.notes.items = (let there = rw is_b at at_c in let is_here = here in omega arith) in
          elim (pushed_at old.notes.items note k n (rw is at at)) [
            | inl before ↦ let below = slice_get_within old.notes.items k n before in absurd (omega arith)
            | inr last ↦ rw (is_b, last.1) leaf
          ]
      | inr apart ↦
          let other = others c (λ same. both_ways (nat_eq c b) apart (eq-eqb c b same)) in
          let before_c : get_or old.places.items c 0 ≡ suc k = sym other ∙ at_c in
          elim (pushed_at old.notes.items note k n (rw is at at)) [
            | inl before ↦ tells c k n before_c before
            | inr last ↦ let most = ready.notes.named c in let number = last.0 in absurd (omega arith)
          ]
    ]

-- a note of the device's own was met
module _ (k : ℕ) (note : LeafNote) (old mid new : Visiting) (ready : IsReady old) (sound : IsNote old.s.data_map.blocks note) (part : note.full ≡ false)
    (from : AreMappings old.s.data_map.blocks old.least (noted note)) (is : mid.notes.items ≡ old.notes.items ++ note ∷ []) (number : k ≡ length old.notes.items)
    (s : mid.s ≡ old.s) (way : mid.way ≡ old.way) (places : mid.places ≡ old.places) (met : mid.met ≡ old.met) (mapped : mid.mapped ≡ old.mapped) (least : mid.least ≡ old.least)
    (takes : TakesNote k note mid new) where
  mid_ready : IsReady mid
  mid_ready = record {
    places = rw (s, places) ready.places;
    notes = rw (s, places) (own_notes old ready note sound mid.notes.items is part);
    met = rw (s, met, mapped, least) (met_grown old ready note sound mid.notes.items is);
  }

  at_last : slice_get mid.notes.items k ≡ Some note
  at_last = rw (is, number) (last_at old.notes.items note)

  mid_from : AreMappings mid.s.data_map.blocks mid.least (noted note)
  mid_from = rw (s, least) from

  pub takes_own : TakesOwn note old new
  takes_own = record {
    same = (takes.same.0 ∙ s, takes.same.1 ∙ way, takes.same.2 ∙ places);
    ready = took_ready k note mid new mid_ready at_last mid_from takes;
    grow = rw takes.same.3 (grown old ready note sound mid.notes.items is);
    mets =
        took_mets k note mid new mid_ready at_last mid_from takes
        ∙ ap (λ (ms : List Met). ms ++ met_of_note note) (rw met (same_mets old ready note sound mid.notes.items is));
    rest = λ rest are. rw s at (took_rest k note mid new mid_ready at_last mid_from takes rest (rw (s, least) are));
    tells = λ image tells. rw (takes.same.0, takes.same.2, takes.same.3, s, places) (own_tells old ready note sound mid.notes.items is part image tells);
  }

-- what is met of what is left on the way
module _ (fields : ThinFields) (image : List (List ℕ)) where
  pub same_left : (old new : Way) → frontier 8 new ≡ frontier 8 old → way_left fields image new ≡ way_left fields image old
  same_left old new same = ap (flat_map (told (λ e. []) (mets_below fields image))) same

  -- a sound inner node was pushed
  pub inner_pushed : (held : Option (List (List ℕ))) (b : ℕ) (range : Range) (old new : Way) → PushesNode 8 held b range old new → old.stack.depth < 64
      → block_at image b ≡ (last_place new.stack).block.0 → is_outside fields.meta_map.blocks b ≡ false → is_damaged 8 b (last_place new.stack).block.0 ≡ false
      → is_inner_node (last_place new.stack).block.0 ≡ true → way_left fields image new ≡ mets_below fields image (64 - old.stack.depth) range b ++ way_left fields image old
  unfolding mets_below
  inner_pushed held b range old new pushes room read inside sound inner =
      told_more (λ e. []) (mets_below fields image) 8 old new _ _ pushes.left
      (told_inner (λ e. []) (met_of_visit fields image) 8 fields.meta_map.blocks image (64 - old.stack.depth) (63 - old.stack.depth) b range (last_place new.stack).block.0
      (omega arith) read inside sound inner)

  -- nothing of a block that is not wanted
  met_nothing : (v : Visit) → entries_of_visit 8 image v ≡ [] → met_of_visit fields image v ≡ []
  met_nothing v none =
      let saved : saved_of_visit fields image v ≡ [] = rw none refl in
      ap (met_of (cond (is_whole_visit fields image v) (Some v.leaf) None)) saved

  pub none_wanted : (j b : ℕ) (range : Range) → is_wanted fields.meta_map.blocks b range ≡ false → mets_below fields image j range b ≡ []
  unfolding mets_below
  none_wanted j b range out = unwanted (met_of_visit fields image) 8 fields.meta_map.blocks image met_nothing j b range out

pub any_if : {P : List (List ℕ) → Type 0} → (o : Option (List (List ℕ))) → ((x : List (List ℕ)) → P x) → IfSome o P
any_if None each = tt
any_if (Some x) each = each x

-- what is met and left, where nothing changed but what was left
module _ (held : Option (List (List ℕ))) (b : ℕ) (range : Range) (old : Visiting) (ready : IsReady old) where
  pub passes : KnowsInner held old.way → is_wanted old.s.meta_map.blocks b range ≡ false → way_number 8 old.way < way_number 8 old.way + child_weight (64 - old.way.stack.depth) → Meets held b range old old
  passes known out number = record {
    same = refl;
    ready = ready;
    grow = λ k n at. at;
    number = number;
    knows = known;
    told = any_if held (λ image tells ascend.
        let none = none_wanted old.s image (64 - old.way.stack.depth) b range out in
        record { tells = tells; mets = rw none refl; ascend = rw none at ascend });
  }

-- the rest of what was met behind a leaf
split_maps : (a b : List Met) (ms : List Mapping) → maps a ≡ ms → maps (a ++ b) ≡ ms ++ maps b
split_maps a b ms is = maps_append a b ∙ ap (λ (xs : List Mapping). xs ++ maps b) is

-- a visit of a noted leaf in a range
module _ (b k : ℕ) (note : LeafNote) (range raised : Range) (old new : Visiting) (ready : IsReady old) (at : slice_get old.notes.items k ≡ Some note) (named : get_or old.places.items b 0 ≡ suc k)
    (lifts : IsRaised old.least range raised) where
  abbrev pool : ℕ
  pool = old.s.data_map.blocks

  lawful : AreMappings pool 0 (noted note)
  lawful = (ready.notes.each k note at).lawful

  module _ (image : List (List ℕ)) (tells : TellsAll image old) (j : ℕ) (inside : is_outside old.s.meta_map.blocks b ≡ false)
      (ascend : AreMappings pool old.least (maps (mets_below old.s image (suc j) range b ++ way_left old.s image old.way))) where
    abbrev left : List Met
    left = way_left old.s image old.way

    leaf : TellsLeaf old.s image b note
    leaf = tells b k note named at

    below : mets_below old.s image (suc j) range b ≡ met_in note range
    below = leaf.meets j range inside

    in_order : AreMappings pool old.least (in_keys range (noted note) ++ maps left)
    in_order = rw (below, split_maps (met_in note range) left (in_keys range (noted note)) (maps_met _ (in_keys range (noted note)))) at ascend

    kept : in_keys raised (noted note) ≡ in_keys range (noted note)
    kept = raised_same pool old.least range raised lifts 0 (noted note) (maps left) lawful in_order

    -- all of it
    pub whole_met : in_keys raised (noted note) ≡ noted note → (met_in note range ≡ met_of_note note) × AreMappings pool old.least (noted note ++ maps left)
    whole_met all =
        let same : in_keys range (noted note) ≡ noted note = sym kept ∙ all in
        (rw (same, eq-eqb (length (noted note)) (length (noted note)) refl) (and_one note.full), rw same at in_order)
      where
        and_one : (full : Bool) → met_of (cond (full && true) (Some note.block) None) (noted note) ≡ met_of (cond full (Some note.block) None) (noted note)
        and_one true = refl
        and_one false = refl

    -- a part of it
    pub part_met : (part : LeafNote) → length (in_keys raised (noted note)) < length (noted note) → part.full ≡ false → noted part ≡ saved_at pool b (block_at image b) raised
        → (met_in note range ≡ met_of_note part) × AreMappings pool old.least (noted part ++ maps left)
    part_met part less own is =
        let same : noted part ≡ in_keys range (noted note) = is ∙ (leaf.saves raised ∙ kept) in
        let fewer : length (in_keys range (noted note)) < length (noted note) = rw kept at less in
        let apart : nat_eq (length (in_keys range (noted note))) (length (noted note)) ≡ false = ne_eqb (length (in_keys range (noted note))) (length (noted note)) (λ equal. omega arith) in
        (rw (own, same, apart) (and_none note.full), rw same in_order)
      where
        and_none : (full : Bool) → met_of (cond (full && false) (Some note.block) None) (in_keys range (noted note)) ≡ met_of None (in_keys range (noted note))
        and_none true = refl
        and_none false = refl

    -- what was met, and what is left
    pub meets_more : (other : LeafNote) → (met_in note range ≡ met_of_note other) × AreMappings pool old.least (noted other ++ maps left) → new.s ≡ old.s → TellsAll image new
        → mets_now new ≡ mets_now old ++ met_of_note other → ((rest : List Mapping) → AreMappings pool old.least (noted other ++ rest) → AreMappings pool new.least rest)
        → way_left old.s image new.way ≡ left → MeetsAll image (mets_now old ++ (mets_below old.s image (suc j) range b ++ left)) new
    meets_more other is s new_tells mets rest same_left = record {
      tells = new_tells;
      mets = rw (s, same_left, mets, below, is.0) (append_assoc (mets_now old) (met_of_note other) left);
      ascend = rw (s, same_left) (rest (maps left) is.1);
    }

    -- all of a leaf
    pub whole_told : in_keys raised (noted note) ≡ noted note → (from : AreMappings pool old.least (noted note)) (takes : TakesNote k note old new)
        → MeetsAll image (mets_now old ++ (mets_below old.s image (suc j) range b ++ left)) new
    whole_told all from takes =
        meets_more note (whole_met all) takes.same.0 (rw (takes.same.0, takes.same.2, takes.same.3) tells)
        (took_mets k note old new ready at from takes) (took_rest k note old new ready at from takes) (rw takes.same.1 refl)

    -- a part of one
    pub part_told : (part : LeafNote) (way : Way) → frontier 8 way ≡ frontier 8 old.way
        → length (in_keys raised (noted note)) < length (noted note) → part.full ≡ false → noted part ≡ saved_at pool b (block_at image b) raised
        → TakesOwn part (record old { way = way }) new → MeetsAll image (mets_now old ++ (mets_below old.s image (suc j) range b ++ left)) new
    part_told part way same less own is takes =
        meets_more part (part_met part less own is) takes.same.0 (takes.tells image tells) takes.mets takes.rest (rw takes.same.1 (same_left old.s image old.way way same))

  pub visits_whole : (held : Option (List (List ℕ))) → in_keys raised (noted note) ≡ noted note → TakesNote k note old new → Visits held b range old new
  visits_whole held all takes =
      let from : AreMappings pool old.least (noted note) = rw all at (raised_are pool old.least range raised lifts 0 (noted note) lawful) in
      record {
        same = takes.same.0;
        ready = took_ready k note old new ready at from takes;
        grow = rw takes.same.3 (λ n other is. is);
        way = record { depth = rw takes.same.1 refl; left = rw takes.same.1 refl; number = rw takes.same.1 refl; knows = rw takes.same.1 (λ good image known. known) };
        told = any_if held (λ image tells j inside ascend. whole_told image tells j inside ascend all from takes);
      }

  pub visits_part : (held : Option (List (List ℕ))) (part : LeafNote) (mid : Visiting) → length (in_keys raised (noted note)) < length (noted note) → ReadsPart held b raised part old mid → TakesOwn part mid new
      → Visits held b range old new
  visits_part held part mid less reads takes =
      let own : TakesOwn part (record old { way = mid.way }) new = subst (λ (v : Visiting). TakesOwn part v new) reads.same takes in
      record {
        same = own.same.0;
        ready = own.ready;
        grow = own.grow;
        way = record {
          depth = rw own.same.1 reads.way.depth;
          left = rw own.same.1 reads.way.left;
          number = rw own.same.1 reads.way.number;
          knows = rw own.same.1 reads.way.knows;
        };
        told = IfSome_then held reads.told (λ image is tells j inside ascend. part_told image tells j inside ascend part mid.way reads.way.left less reads.part is own);
      }

-- a part that may follow
pub part_from : (held : Option (List (List ℕ))) (b : ℕ) (range raised : Range) (part : LeafNote) (old mid : Visiting) → IsRaised old.least range raised → ReadsPart held b raised part old mid
    → AreMappings mid.s.data_map.blocks mid.least (noted part)
part_from held b range raised part old mid lifts reads =
    let from : AreMappings old.s.data_map.blocks old.least (noted part) =
    rw reads.inside at (raised_are old.s.data_map.blocks old.least range raised lifts 0 (noted part) reads.sound.lawful) in
    subst (λ (v : Visiting). AreMappings v.s.data_map.blocks v.least (noted part)) (sym reads.same) from

-- a leaf was met that was noted before, or now
module _ (held : Option (List (List ℕ))) (b : ℕ) (range : Range) (old : Visiting) (room : old.way.stack.depth < 64) (is_in : is_wanted old.s.meta_map.blocks b range ≡ true) where
  budget : 64 - old.way.stack.depth ≡ suc (63 - old.way.stack.depth)
  budget = omega arith

  more_number : (n : ℕ) → n ≡ way_number 8 old.way → n < way_number 8 old.way + child_weight (64 - old.way.stack.depth)
  more_number n same = let some = unit_some (64 - old.way.stack.depth) in omega arith

  pub meets_visited : KnowsInner held old.way → (new : Visiting) → Visits held b range old new → Meets held b range old new
  meets_visited known new visits = record {
    same = visits.same;
    ready = visits.ready;
    grow = visits.grow;
    number = more_number (way_number 8 new.way) visits.way.number;
    knows = IfSome_then held known (visits.way.knows is_undamaged_inner);
    told = IfSome_then held visits.told (λ image told tells ascend.
        rw budget (told tells (63 - old.way.stack.depth) (wanted old.s.meta_map.blocks b range is_in).0 (rw budget at ascend)));
  }

  pub meets_noted : KnowsInner held old.way → (ready : IsReady old) (mid new : Visiting) → IsNoted held b old mid → Visits held b range mid new → Meets held b range old new
  meets_noted known ready mid new notes visits =
      let s = notes.same.0 in
      let mets : mets_now mid ≡ mets_now old = rw notes.same.1 (mets_grow old.notes.items mid.notes.items old.met.items notes.grow ready.met.within) in
      record {
        same = visits.same ∙ s;
        ready = visits.ready;
        grow = λ k n at. visits.grow k n (notes.grow k n at);
        number = more_number (way_number 8 new.way) (visits.way.number ∙ notes.way.number);
        knows = IfSome_then held known (λ image known_is. visits.way.knows is_undamaged_inner image (notes.way.knows is_undamaged_inner image known_is));
        told =
            if_both held
            (λ image held_is to_mid told tells ascend.
            let left = same_left old.s image old.way mid.way notes.way.left in
            let before : AreMappings mid.s.data_map.blocks mid.least (maps (mets_below mid.s image (suc (63 - old.way.stack.depth)) range b ++ way_left mid.s image mid.way)) =
            rw (s, notes.same.3, left) (rw budget at ascend) in
            let outside : is_outside mid.s.meta_map.blocks b ≡ false = rw s (wanted old.s.meta_map.blocks b range is_in).0 in
            rw (budget, ← mets, ← left, ← s) (told (to_mid tells) (63 - old.way.stack.depth) outside before))
            notes.tells visits.told;
      }
