-- What is found step by step, and that each note stays right.
use Rattle.std.proofs.Common.{◌≡◌, ℕ, suc, ◌-◌, ◌<◌, ◌≤◌, Bool, true, false, ◌||◌, List, [], ◌∷◌, ◌++◌, map, filter, length, Option, None, Some, IfSome, refl, sym, ap, ◌∙◌, ap₂, subst, append_assoc, arith, inl, inr, length-append}
use Rattle.std.specs.List.{AllByRecursion, flat_map}
use Rattle.std.proofs.lemmas.Bool.{cases_Bool, cases_eq, cases_lt, or_parts, true≢false}
use Rattle.std.proofs.lemmas.List.{append-nil, get_or_append_left, get_or_at, map-append}
use Rattle.std.proofs.lemmas.List.Concat.{flat_map-append}
use Rattle.std.proofs.lemmas.List.Elements.{filter-append}
use Rattle.pd_kinds.specs.Graph.{block_at}
use Rattle.pd_kinds.specs.Node.{is_inner_node}
use Rattle.pd_kinds.proofs.ResultLemmas.{if_both}
use Rattle.pd_tree.specs.Stack.{IsNext}
use Rattle.pd_meaning_thin.specs.declared.devices.DeviceRow.{DeviceRow}
use Rattle.pd_uses.specs.declared.hits.DataUse.{DataUse}
use Rattle.pd_uses.specs.declared.found.Found.{Found}
use Rattle.pd_uses.specs.declared.found.HitNote.{HitNote}
use Rattle.pd_uses.specs.declared.found.HitNote.TheVariants.{Unknown, Bare, Hits}
use Rattle.pd_uses.specs.declared.found.Visit.{Visit}
use Rattle.pd_uses.specs.declared.hits.Hit.{Hit}
use Rattle.pd_uses.specs.declared.hits.Region.{Region}
use Rattle.pd_uses.specs.declared.hits.LeafPart.{LeafPart}
use Rattle.pd_uses.specs.Descent.{FindsRows}
use Rattle.pd_uses.specs.FoundUses.{Closes, Finds, HasLeaf, HasNote, HasVisit, IsNote, IsRight, found_uses, leaf_at, note_at, visit_uses, visits_uses}
use Rattle.pd_uses.specs.Hits.{hits_below, hits_each, hits_in, is_hit, use_of}
use Rattle.pd_uses.specs.Uses.{is_within, row_uses, rows_uses}
use Rattle.pd_uses.specs.Parts.{AreParts, hits_at}
use Rattle.pd_uses.proofs.HitLemmas.{bare_nearer, below_leaf, each_more, each_one, row_hits}

-- the uses by visits to leaves that are there stay where a leaf comes
abbrev AreThere : ℕ → List Visit → Type 0
AreThere n visits = AllByRecursion (λ (visit : Visit). visit.leaf < n) visits

uses_stay : (leaves more : List (List Hit)) (visits : List Visit) → AreThere (length leaves) visits → visits_uses (leaves ++ more) visits ≡ visits_uses leaves visits
unfolding visits_uses
uses_stay leaves more [] there = refl
uses_stay leaves more (visit ∷ visits) there =
    ap₂ (λ (hits : List Hit) (uses : List DataUse). map (use_of visit.id) hits ++ uses) (get_or_append_left leaves more [] visit.leaf there.0) (uses_stay leaves more visits there.1)

there_more : (m n : ℕ) → m ≤ n → (visits : List Visit) → AreThere m visits → AreThere n visits
there_more m n less [] there = tt
there_more m n less (visit ∷ visits) there = let first = there.0 in (omega arith, there_more m n less visits there.1)

there_last : (n : ℕ) (visits : List Visit) (visit : Visit) → AreThere n visits → visit.leaf < n → AreThere n (visits ++ (visit ∷ []))
there_last n [] visit there last = (last, tt)
there_last n (one ∷ visits) visit there last = (there.0, there_last n visits visit there.1 last)

pub uses_last : (leaves : List (List Hit)) (visits : List Visit) (visit : Visit) → visits_uses leaves (visits ++ (visit ∷ [])) ≡ visits_uses leaves visits ++ visit_uses leaves visit
unfolding visits_uses
uses_last leaves visits visit =
    flat_map-append (visit_uses leaves) visits (visit ∷ []) ∙ ap (λ (uses : List DataUse). flat_map (visit_uses leaves) visits ++ uses) (append-nil (visit_uses leaves visit))

one_more : (n : ℕ) (leaves : List (List Hit)) (hits : List Hit) → n ≡ length leaves → length (leaves ++ (hits ∷ [])) ≡ suc n
one_more n leaves hits is = omega (arith, is, length-append leaves (hits ∷ []))

module _ (region : Region) (image : List (List ℕ)) where
  -- a note stays right where a leaf comes
  note_stays : (leaves : List (List Hit)) (hits : List Hit) (b : ℕ) (one : HitNote) → IsNote region image leaves b one → IsNote region image (leaves ++ (hits ∷ [])) b one
  note_stays leaves hits b Unknown right = tt
  note_stays leaves hits b (Bare levels) right = right
  note_stays leaves hits b (Hits n) right =
      let within = right.0 in
      (omega (arith, within, one_more (length leaves) leaves hits refl), λ j. right.1 j ∙ sym (get_or_append_left leaves (hits ∷ []) [] n right.0))

  -- and where leaves and the note are the same
  same_note : (b : ℕ) {leaves leaves' : List (List Hit)} {one two : HitNote} → leaves' ≡ leaves → two ≡ one → IsNote region image leaves b one → IsNote region image leaves' b two
  same_note b {leaves} {leaves'} {one} {two} same is right = subst (λ (list : List (List Hit)). IsNote region image list b two) (sym same) (subst (IsNote region image leaves b) (sym is) right)

  -- a block has a note
  pub right_noted : (b : ℕ) (one : HitNote) {old new : Found} → HasNote b one old new → IsRight region image old → IsNote region image old.leaves.items b one → IsRight region image new
  right_noted b one {old} {new} has right is = record {
    notes = λ c. elim (cases_eq c b) [
      | inl same ↦ subst (λ (d : ℕ). IsNote region image new.leaves.items d (note_at new.notes.items d)) (sym same) here
      | inr other ↦ same_note c has.leaves (has.others c other) (right.notes c)
    ];
    visits = subst (AreThere (length new.leaves.items)) (sym has.visits) (subst (λ (list : List (List Hit)). AreThere (length list) old.visits.items) (sym has.leaves) right.visits);
  }
    where
      here : IsNote region image new.leaves.items b (note_at new.notes.items b)
      here = elim (cases_lt b (length old.notes.items)) [
        | inl inside ↦ same_note b has.leaves (has.put inside) is
        | inr past ↦ same_note b {leaves = old.leaves.items} has.leaves (has.past past) tt
      ]

  -- where nothing was found, or something, the uses are the same
  uses_same : (old new : Found) → new.leaves.items ≡ old.leaves.items → new.visits.items ≡ old.visits.items → found_uses new ≡ found_uses old
  uses_same old new leaves visits = ap₂ visits_uses leaves visits

  pub finds_nothing : (id : ℕ) (hits : List Hit) (some : Bool) {now : Found} → hits ≡ [] → IsRight region image now → Finds region image id hits some now now
  finds_nothing id hits some {now} none right = record {
    right = right;
    uses = rw none (sym (append-nil (found_uses now)));
    none = λ not_some. none;
  }

  -- one after another
  pub finds_both : (id : ℕ) (first second : List Hit) {here there : Bool} {old mid new : Found} → Finds region image id first here old mid → Finds region image id second there mid new
      → Finds region image id (first ++ second) (here || there) old new
  finds_both id first second {here} {there} {old} one two = record {
    right = two.right;
    uses =
        two.uses ∙ (ap (λ (uses : List DataUse). uses ++ map (use_of id) second) one.uses
        ∙ (append_assoc (found_uses old) (map (use_of id) first) (map (use_of id) second) ∙ ap (λ (uses : List DataUse). found_uses old ++ uses) (sym (map-append (use_of id) first second))));
    none = λ nothing. let both = or_parts here there nothing in rw (one.none both.0, two.none both.1) refl;
  }

  -- a note more says nothing of the uses
  pub finds_noted : (id b : ℕ) (one : HitNote) (hits : List Hit) {some : Bool} {old mid new : Found} → Finds region image id hits some old mid → HasNote b one mid new → IsNote region image mid.leaves.items b one
      → Finds region image id hits some old new
  finds_noted id b one hits {old = old} {mid = mid} {new = new} finds has is = record {
    right = right_noted b one has finds.right is;
    uses = uses_same mid new has.leaves has.visits ∙ finds.uses;
    none = finds.none;
  }

  -- a node below which nothing was found
  pub finds_bare : (id edges b : ℕ) (hits : List Hit) {some : Bool} {old mid new : Found} → Finds region image id hits some old mid → some ≡ false → hits_below region image edges b ≡ hits
      → HasNote b (Bare edges) mid new → Finds region image id hits some old new
  finds_bare id edges b hits finds nothing below has =
      finds_noted id b (Bare edges) hits finds has (λ j nearer. bare_nearer region image j edges b nearer (below ∙ finds.none nothing))

  -- a leaf that is known
  pub finds_known : (id leaf : ℕ) (hits : List Hit) {old new : Found} → HasVisit id leaf old new → IsRight region image old → leaf < length old.leaves.items → hits ≡ leaf_at old.leaves.items leaf
      → Finds region image id hits true old new
  finds_known id leaf hits {old} {new} has right within is = record {
    right = record {
      notes = λ c. same_note c has.leaves (ap (λ (notes : List HitNote). note_at notes c) has.notes) (right.notes c);
      visits = rw (has.leaves, has.visits) (there_last (length old.leaves.items) old.visits.items (record { id = id; leaf = leaf }) right.visits within);
    };
    uses = rw (has.leaves, has.visits, is) (uses_last old.leaves.items old.visits.items (record { id = id; leaf = leaf }));
    none = λ none. absurd (true≢false none);
  }

  -- and one that comes
  right_leaf : (leaf : ℕ) (hits : List Hit) {old new : Found} → HasLeaf leaf hits old new → IsRight region image old → IsRight region image new
  right_leaf leaf hits {old} {new} has right = record {
    notes = λ c. same_note c has.leaves (ap (λ (notes : List HitNote). note_at notes c) has.notes) (note_stays old.leaves.items hits c (note_at old.notes.items c) (right.notes c));
    visits = rw (has.leaves, has.visits) (there_more (length old.leaves.items) (length (old.leaves.items ++ (hits ∷ []))) (omega (arith, one_more (length old.leaves.items) old.leaves.items hits refl)) old.visits.items right.visits);
  }

  pub finds_leaf : (id b leaf : ℕ) {old one two new : Found} → is_inner_node (block_at image b) ≡ false → IsRight region image old → HasLeaf leaf (hits_in region (block_at image b)) old one
      → HasNote b (Hits leaf) one two → HasVisit id leaf two new → Finds region image id (hits_in region (block_at image b)) true old new
  finds_leaf id b leaf {old} {one} {two} {new} plain right came noted visited =
      let hits : List Hit = hits_in region (block_at image b) in
      let here : leaf < length one.leaves.items = rw came.leaves (omega (arith, one_more leaf old.leaves.items hits came.number)) in
      let its : hits ≡ leaf_at one.leaves.items leaf = sym (rw came.leaves (get_or_at old.leaves.items hits [] [] leaf (sym came.number))) in
      let before = right_noted b (Hits leaf) noted (right_leaf leaf hits came right) (here, λ j. below_leaf region image j b plain ∙ its) in
      let finds = finds_known id leaf hits visited before (subst (λ (list : List (List Hit)). leaf < length list) (sym noted.leaves) here) (its ∙ ap (λ (list : List (List Hit)). leaf_at list leaf) (sym noted.leaves)) in
      record {
        right = finds.right;
        uses =
            finds.uses ∙ ap (λ (uses : List DataUse). uses ++ map (use_of id) hits)
            (uses_same one two noted.leaves noted.visits ∙ (ap₂ visits_uses came.leaves came.visits ∙ uses_stay old.leaves.items (hits ∷ []) old.visits.items right.visits));
        none = finds.none;
      }

  -- which its note may tell
  pub finds_closed : (id edges b : ℕ) (hits : List Hit) (some : Bool) {old mid new : Found} → Finds region image id hits some old mid → hits_below region image edges b ≡ hits
      → Closes b edges some mid new → Finds region image id (hits_below region image edges b) some old new
  finds_closed id edges b hits true {old} finds below closes =
      subst (λ (found : Found). Finds region image id (hits_below region image edges b) true old found) (sym (closes.other refl))
      (record { right = finds.right; uses = rw below finds.uses; none = λ nothing. absurd (true≢false nothing) })
  finds_closed id edges b hits false finds below closes =
      let noted = finds_bare id edges b hits finds refl below (closes.none refl) in
      record { right = noted.right; uses = rw below noted.uses; none = λ nothing. below ∙ noted.none nothing }

  -- one block more
  pub finds_more : (id edges b : ℕ) (bs : List ℕ) {some here : Bool} {old mid new : Found} → Finds region image id (hits_each region image edges bs) some old mid
      → Finds region image id (hits_below region image edges b) here mid new → Finds region image id (hits_each region image edges (bs ++ (b ∷ []))) (some || here) old new
  finds_more id edges b bs {some} {here} {old} {mid} {new} one two =
      subst (λ (hits : List Hit). Finds region image id hits (some || here) old new) (sym (each_more region image edges b bs)) (finds_both id (hits_each region image edges bs) (hits_below region image edges b) one two)

  -- what a device has
  pub finds_row : (row : DeviceRow) (some : Bool) {old new : Found} → Finds region image row.id (hits_each region image 63 (row.root ∷ [])) some old new → FindsRows region image (row ∷ []) old new
  finds_row row some {old} finds = record {
    right = finds.right;
    uses =
        finds.uses ∙ ap (λ (uses : List DataUse). found_uses old ++ uses)
        (ap (map (use_of row.id)) (each_one region image 63 row.root) ∙ (row_hits region image row ∙ ap (filter (is_within region.first region.end)) (sym (append-nil (row_uses image row)))));
  }

  -- so far the uses by some devices were found, which with those that are left are all
  pub record RowsSoFar (whole rest : List DeviceRow) (old new : Found) : Type 0 where
    pub right : IsRight region image new
    pub uses : found_uses old ++ filter (is_within region.first region.end) (rows_uses image whole) ≡ found_uses new ++ filter (is_within region.first region.end) (rows_uses image rest)

  abbrev within : DataUse → Bool
  within = is_within region.first region.end

  pub rows_more : (row : DeviceRow) {whole rest later : List DeviceRow} {old mid new : Found} → RowsSoFar whole rest old mid → rest ≡ row ∷ later → FindsRows region image (row ∷ []) mid new
      → RowsSoFar whole later old new
  rows_more row {whole} {rest} {later} {old} {mid} {new} so_far is finds = record {
    right = finds.right;
    uses =
        so_far.uses ∙ (ap (λ (uses : List DataUse). found_uses mid ++ uses) (ap (λ (rows : List DeviceRow). filter within (rows_uses image rows)) is ∙ (filter-append within (row_uses image row) (rows_uses image later)))
        ∙ (sym (append_assoc (found_uses mid) (filter within (row_uses image row)) (filter within (rows_uses image later)))
        ∙ ap (λ (uses : List DataUse). uses ++ filter within (rows_uses image later)) (sym (finds.uses ∙ ap (λ (uses : List DataUse). found_uses mid ++ filter within uses) (append-nil (row_uses image row))))));
  }

  pub rows_all : {whole rest : List DeviceRow} {old new : Found} → RowsSoFar whole rest old new → rest ≡ [] → FindsRows region image whole old new
  rows_all {new = new} so_far none = record { right = so_far.right; uses = sym (so_far.uses ∙ rw none (append-nil (found_uses new))) }

-- the uses in a part of a region
module _ (part : Region) where
  abbrev here : DataUse → Bool
  here = is_within part.first part.end

  uses_within : (id : ℕ) (hits : List Hit) → map (use_of id) (filter (is_hit part) hits) ≡ filter here (map (use_of id) hits)
  uses_within id [] = refl
  uses_within id (hit ∷ hits) = elim (cases_Bool (is_hit part hit)) [
    | inl inside ↦ rw (inside, uses_within id hits) refl
    | inr outside ↦ rw (outside, uses_within id hits) refl
  ]

  pub no_visits : (leaves : List (List Hit)) → filter here (visits_uses leaves []) ≡ []
  unfolding visits_uses
  no_visits leaves = refl

  -- by a visit more, which adds what its leaf has of the part
  pub visits_more : (leaves : List (List Hit)) (parts : List LeafPart) (visits : List Visit) (visit : Visit) → AreParts part leaves parts
      → filter here (visits_uses leaves (visits ++ (visit ∷ []))) ≡ filter here (visits_uses leaves visits) ++ map (use_of visit.id) (hits_at leaves parts visit.leaf)
  visits_more leaves parts visits visit are =
      ap (filter here) (uses_last leaves visits visit)
      ∙ (filter-append here (visits_uses leaves visits) (visit_uses leaves visit)
      ∙ ap (λ (uses : List DataUse). filter here (visits_uses leaves visits) ++ uses) (sym (ap (map (use_of visit.id)) (are.each visit.leaf) ∙ uses_within visit.id (leaf_at leaves visit.leaf))))

-- where the device tells what it holds: one block more, whose children were looked into or not
module _ (held : Option (List (List ℕ))) (region : Region) (id edges b : ℕ) where
  abbrev Found_more : (List (List ℕ) → List Hit) → Bool → Found → Found → Type 0
  Found_more hits some old new = IfSome held (λ image. IsRight region image old → Finds region image id (hits image) some old new)

  pub told_more : (bs : List ℕ) (some here : Bool) (old mid new : Found) → Found_more (λ image. hits_each region image edges bs) some old mid → Found_more (λ image. hits_below region image edges b) here mid new
      → Found_more (λ image. hits_each region image edges (bs ++ (b ∷ []))) (some || here) old new
  told_more bs some here old mid new first second = if_both held (λ image one two right. let so_far = one right in finds_more region image id edges b bs so_far (two so_far.right)) first second

  pub told_below : (below : List ℕ) (here : Bool) (old mid last new : Found) → IfSome held (λ image. IsRight region image old → (mid ≡ old) × (hits_below region image edges b ≡ hits_each region image (edges - 1) below))
      → Found_more (λ image. hits_each region image (edges - 1) below) here mid last → Closes b edges here last new → Found_more (λ image. hits_below region image edges b) here old new
  told_below below here old mid last new opened found closes =
      if_both held (λ image has finds right.
      let same = (has right).0 in
      finds_closed region image id edges b (hits_each region image (edges - 1) below) here
      (subst (λ (from : Found). Finds region image id (hits_each region image (edges - 1) below) here from last) same (finds (subst (IsRight region image) (sym same) right))) (has right).1 closes) opened found

-- a device more
pub told_rows : (held : Option (List (List ℕ))) (region : Region) (row : DeviceRow) (whole rest later : List (List ℕ) → List DeviceRow) (old mid new : Found)
    → IfSome held (λ image. IsRight region image old → RowsSoFar region image (whole image) (rest image) old mid) → IfSome held (λ image. IsNext (Some row) (rest image) (later image))
    → IfSome held (λ image. IsRight region image mid → FindsRows region image (row ∷ []) mid new) → IfSome held (λ image. IsRight region image old → RowsSoFar region image (whole image) (later image) old new)
told_rows None region row whole rest later old mid new so_far next finds = tt
told_rows (Some image) region row whole rest later old mid new so_far next finds = λ right. let before = so_far right in rows_more region image row before next (finds before.right)

-- at first nothing is known
pub right_new : (region : Region) (image : List (List ℕ)) (found : Found) → ((b : ℕ) → note_at found.notes.items b ≡ Unknown) → found.visits.items ≡ [] → IsRight region image found
right_new region image found unknown none = record {
  notes = λ b. subst (IsNote region image found.leaves.items b) (sym (unknown b)) tt;
  visits = subst (AreThere (length found.leaves.items)) (sym none) tt;
}

none_yet : (leaves : List (List Hit)) (visits : List Visit) → visits ≡ [] → visits_uses leaves visits ≡ []
unfolding visits_uses
none_yet leaves visits is = rw is refl

-- so all that was found is what the devices have
pub all_found : (region : Region) (image : List (List ℕ)) (rows : List DeviceRow) {old new : Found} → old.visits.items ≡ [] → FindsRows region image rows old new
    → found_uses new ≡ filter (is_within region.first region.end) (rows_uses image rows)
all_found region image rows {old} none finds = finds.uses ∙ ap (λ (uses : List DataUse). uses ++ filter (is_within region.first region.end) (rows_uses image rows)) (none_yet old.leaves.items old.visits.items none)
