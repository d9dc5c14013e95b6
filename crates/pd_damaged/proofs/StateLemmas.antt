-- The states of mapping trees, put in their places one after another.
use Rattle.std.proofs.Common.{◌≡◌, ℕ, zero, suc, ◌+◌, ◌-◌, ◌<◌, ◌≤◌, max, Bool, true, false, ◌&&◌, nat_lt, cond, List, [], ◌∷◌, length, get_or, insert, map, filter, fold, take, drop, Option, IfSome, refl, sym, ◌∙◌, ap, ap₂, subst, arith}
use Rattle.std.specs.List.{flat_map, range_with_len}
use Rattle.std.proofs.Math.Seq.{drop-cons}
use Rattle.pd_kinds.specs.declared.limits.TheConstants.{MAX_META_BLOCKS}
use Rattle.pd_kinds.specs.Graph.{Graph}
use Rattle.pd_kinds.specs.Meaning.{ThinDevice}
use Rattle.pd_kinds.specs.Node.{Entry}
use Rattle.pd_kinds.proofs.KindsListLemmas.{all_front, all_rest}
use Rattle.pd_kinds.proofs.ListLemmas.{all_append}
use Rattle.pd_kinds.proofs.ResultLemmas.{if_three}
use Rattle.pd_kinds.specs.Layout.{graph_of}
use Rattle.pd_kinds.specs.ThinFormat.{thin_layout}
use Rattle.pd_laid.specs.FoundRoots.{FoundRoots, lost_graph, times_of}
use Rattle.pd_answers.specs.FoundStates.{in_order, placed}
use Rattle.pd_measures.specs.Counts.{latest}
use Rattle.pd_scan.specs.declared.states.State.{State}
use Rattle.pd_scan.specs.Pairs.{AreInside, place_among, state_roots}
use Rattle.pd_scan.proofs.StateLemmas.{placed_is}
use Rattle.pd_answers.specs.DamagedStates.{best_details, better_details, damaged_state, damaged_states, given_details, is_details_root, is_loose_top, kept_devices, kept_number, kept_roots}
use Rattle.pd_damaged.specs.declared.given.Given.{Given}
use Rattle.pd_damaged.specs.declared.listing.Search.{Search}
use Rattle.pd_damaged.specs.declared.table.KnownTable.{KnownTable}
use Rattle.pd_damaged.specs.declared.top.KeptTop.{KeptTop}
use Rattle.pd_damaged.specs.Given.{best_after, given_at, given_of, inside_tops}
use Rattle.pd_damaged.specs.Known.{AreKnown}
use Rattle.pd_damaged.specs.Listed.{AreFound, AreStates, HasKeptDevices, IsSearchOf, IsStateOf, StatesInside, StaysSearch, is_any_kept, state_by}
use Rattle.pd_damaged.specs.Loose.{AreDetailsRoots, AreTopmost, is_topmost_top}
use Rattle.pd_damaged.specs.Top.{IsKeptOfTop}
use Rattle.pd_damaged.proofs.ListedLemmas.{all_times, all_transactions, devices_few, filter_both, number_few, times_few}
use Rattle.pd_damaged.proofs.TopLemmas.{devices_of}

-- What is known of a search stays.

pub stays_both : {a b c : Search} → StaysSearch a b → StaysSearch b c → StaysSearch a c
stays_both first second = record { remains = second.remains ∙ first.remains; roots = second.roots ∙ first.roots }

pub search_stays : (graph : Graph) (image : List (List ℕ)) (old new : Search) → IsSearchOf graph image old → StaysSearch old new → IsSearchOf graph image new
search_stays graph image old new is stays = record {
  right = subst (λ (t : KnownTable). AreKnown image t) (sym stays.remains) is.right;
  number = is.number ∙ ap (λ (t : KnownTable). t.nr) (sym stays.remains);
  pool = is.pool ∙ ap (λ (t : KnownTable). t.data_blocks) (sym stays.remains);
  roots = record { all = stays.roots ∙ is.roots.all };
}

-- The state of a mapping tree.

unfoldable the_roots : ℕ → ℕ → ℕ → ℕ → ℕ → ℕ → FoundRoots
the_roots top details mappings time transaction times =
    record { top = top; details = details; mappings = mappings; time = time; transaction = transaction; times = times }

same_roots : (top a b c d e f g h i j : ℕ) → a ≡ f → b ≡ g → c ≡ h → d ≡ i → e ≡ j → the_roots top a b c d e ≡ the_roots top f g h i j
same_roots top a b c d e f g h i j details mappings time transaction times =
    ap₂ (λ (x y : ℕ). the_roots top x y c d e) details mappings
    ∙ (ap₂ (λ (x y : ℕ). the_roots top f g x y e) time transaction ∙ ap (λ (x : ℕ). the_roots top f g h i x) times)

module _ (graph : Graph) (image : List (List ℕ)) (top : ℕ) (few : graph.nr ≤ MAX_META_BLOCKS) (kept : KeptTop) (are : IsKeptOfTop graph image top kept) where
  abbrev tops : List Entry
  tops = inside_tops graph.nr image top

  number_is : (d : ℕ) → kept.kept.number ≡ kept_number (kept_devices graph image top d)
  number_is d = let number = are.number d in let less = number_few graph image top d few in omega arith

  devices_is : (d : ℕ) → kept.devices ≡ length (kept_devices graph image top d)
  devices_is d = let number = are.devices d in let less = devices_few graph image top d few in omega arith

  times_is : (d : ℕ) → kept.kept.times ≡ (kept_roots graph image top d).times
  times_is d = let number = are.times d in let less = times_few graph image top d few in omega arith

  time_is : (d : ℕ) → max kept.kept.time (given_at graph image top d).time ≡ (kept_roots graph image top d).time
  unfolding given_of given_details latest
  time_is d =
      let devices = devices_of graph image top d tops refl in
      ap₂ max (are.time d ∙ ap (λ (ds : List ThinDevice). latest (flat_map (λ (x : ThinDevice). map (λ m. m.time) x.mappings) ds)) devices) refl
      ∙ (sym (all_times graph image top d tops) ∙ ap (λ (ds : List ThinDevice). fold max 0 (flat_map times_of ds)) (sym devices))

  transaction_is : (d : ℕ) → (given_at graph image top d).transaction ≡ (kept_roots graph image top d).transaction
  unfolding given_of given_details latest
  transaction_is d =
      let devices = devices_of graph image top d tops refl in
      sym (all_transactions graph image top d tops) ∙ ap (λ (ds : List ThinDevice). fold max 0 (map (λ (x : ThinDevice). x.transaction) ds)) (sym devices)

  roots_with : (d : ℕ) → state_roots (state_by top kept (given_at graph image top d)) ≡ kept_roots graph image top d
  unfolding the_roots given_of
  roots_with d = same_roots top d _ _ _ _ d _ _ _ _ refl (number_is d) (time_is d) (transaction_is d) (times_is d)

  best_is : (roots : List ℕ) → AreDetailsRoots graph image roots → best_after graph image top 0 roots ≡ best_details graph image top
  unfolding best_details
  best_is roots all =
      ap (best_after graph image top 0) all.all
      ∙ ap (λ (ds : List ℕ). fold (better_details graph image top) 0 ds) (filter_both (is_details_root graph image) (λ d. nat_lt 0 (length (given_details graph image top d))) (range_with_len 0 graph.nr))

  pub state_is : (roots : List ℕ) (given : Given) → AreDetailsRoots graph image roots → given ≡ given_at graph image top (best_after graph image top 0 roots)
      → IsStateOf graph image top (state_by top kept given)
  unfolding damaged_state given_of
  state_is roots given all is =
      let best : given ≡ given_at graph image top (best_details graph image top) = is ∙ ap (given_at graph image top) (best_is roots all) in
      subst (λ (g : Given). IsStateOf graph image top (state_by top kept g)) (sym best)
      (record { roots = roots_with (best_details graph image top); devices = devices_is (best_details graph image top) })

  any_kept : is_any_kept graph image top ≡ nat_lt 0 kept.kept.number
  any_kept = ap (nat_lt 0) (sym (number_is 0))

  -- nothing is put where nothing is kept
  pub none_put : (ts : List ℕ) (found : List State) → kept.kept.number ≡ 0 → AreStates graph image ts found → AreStates graph image (top ∷ ts) found
  none_put ts found nothing before =
      let none : is_any_kept graph image top ≡ false = any_kept ∙ ap (nat_lt 0) nothing in
      record {
        best = before.best
            ∙ ap (λ (b : Bool). in_order (map (damaged_state graph image) (cond b (top ∷ filter (is_any_kept graph image) ts) (filter (is_any_kept graph image) ts)))) (sym none);
        devices = before.devices;
      }

  -- and else its state in its place
  pub one_put : (ts : List ℕ) (found : List State) (s : State) → nat_lt 0 kept.kept.number ≡ true → IsStateOf graph image top s → AreStates graph image ts found
      → AreStates graph image (top ∷ ts) (insert found (place_among s found) s)
  one_put ts found s some is before = record {
    best =
        placed_is s found
        ∙ (ap₂ placed is.roots before.best
        ∙ ap (λ (b : Bool). in_order (map (damaged_state graph image) (cond b (top ∷ filter (is_any_kept graph image) ts) (filter (is_any_kept graph image) ts)))) (sym (any_kept ∙ some)));
    devices = all_append (HasKeptDevices graph image) (take (place_among s found) found) (s ∷ drop (place_among s found) found)
        (all_front (HasKeptDevices graph image) (place_among s found) found before.devices)
        (devices_kept s is, all_rest (HasKeptDevices graph image) (place_among s found) found before.devices);
  }
    where
      devices_kept : (x : State) → IsStateOf graph image top x → HasKeptDevices graph image x
      devices_kept x it = it.devices

pub inside_put : (nr place : ℕ) (found : List State) (s : State) → AreInside nr s.roots → StatesInside nr found → StatesInside nr (insert found place s)
inside_put nr place found s own all =
    all_append (λ (x : State). AreInside nr x.roots) (take place found) (s ∷ drop place found)
    (all_front (λ (x : State). AreInside nr x.roots) place found all) (own, all_rest (λ (x : State). AreInside nr x.roots) place found all)

-- All of them.

pub none_listed : (graph : Graph) (image : List (List ℕ)) (ts : List ℕ) (found : List State) → ts ≡ [] → found ≡ [] → AreStates graph image ts found
none_listed graph image ts found no_tops none =
    subst (λ (xs : List ℕ). AreStates graph image xs found) (sym no_tops)
    (subst (λ (xs : List State). AreStates graph image [] xs) (sym none) (record { best = refl; devices = tt }))

pub drop_all : (xs : List ℕ) (n : ℕ) → length xs ≤ n → drop n xs ≡ []
drop_all [] zero past = refl
drop_all [] (suc n) past = refl
drop_all (x ∷ xs) zero past = absurd (omega arith)
drop_all (x ∷ xs) (suc n) past = drop_all xs n (omega arith)

pub one_more : (xs : List ℕ) (nr passed : ℕ) → nr ≡ length xs → passed < nr
    → drop (nr - (passed + 1)) xs ≡ get_or xs (nr - (passed + 1)) 0 ∷ drop (nr - passed) xs
one_more xs nr passed number less =
    let next : suc (nr - (passed + 1)) ≡ nr - passed = omega arith in
    drop-cons xs (nr - (passed + 1)) 0 (omega arith) ∙ ap (λ (j : ℕ). get_or xs (nr - (passed + 1)) 0 ∷ drop j xs) next

pub states_found : (graph : Graph) (image : List (List ℕ)) (tops : List ℕ) (found : List State) → AreTopmost graph image tops
    → AreStates graph image tops found → AreFound graph image found
unfolding damaged_states is_loose_top
states_found graph image ts found all are = record {
  states =
      are.best
      ∙ ap (λ (ts : List ℕ). in_order (map (damaged_state graph image) ts))
      (ap (filter (is_any_kept graph image)) all.all
      ∙ (filter_both (is_topmost_top graph image) (is_any_kept graph image) (range_with_len 0 graph.nr) ∙ same (range_with_len 0 graph.nr)));
  devices = are.devices;
}
  where
    assoc : (a b c : Bool) → ((a && b) && c) ≡ (a && (b && c))
    assoc true b c = refl
    assoc false b c = refl

    same : (xs : List ℕ) → filter (λ x. is_topmost_top graph image x && is_any_kept graph image x) xs ≡ filter (is_loose_top graph image) xs
    same [] = refl
    same (x ∷ xs) = ap₂ (λ (b : Bool) (ys : List ℕ). cond b (x ∷ ys) ys) (assoc _ _ (is_any_kept graph image x)) (same xs)

-- three facts over one image, each told by the device of its own moment
pub if_still : {X : Type 0} → (first second third : Option X) (P Q R S : X → Type 0) → second ≡ first → third ≡ second
    → ((x : X) → P x → Q x → R x → S x) → IfSome first P → IfSome second Q → IfSome third R → IfSome first S
if_still {X} first second third P Q R S same still f p q r =
    if_three first P Q R S f p (subst (λ (o : Option X). IfSome o Q) same q) (subst (λ (o : Option X). IfSome o R) (still ∙ same) r)

pub blocks_of : (graph : Graph) (nr data_blocks : ℕ) → graph ≡ graph_of 11 nr data_blocks (thin_layout nr data_blocks) → graph.data_blocks ≡ data_blocks
unfolding graph_of
blocks_of graph nr data_blocks e = ap (λ (g : Graph). g.data_blocks) e

-- there are none where there are no blocks
pub no_states : (image : List (List ℕ)) (data_blocks : ℕ) → (lost_graph image data_blocks).nr ≡ 0 → damaged_states (lost_graph image data_blocks) image ≡ []
unfolding damaged_states
no_states image data_blocks none =
    ap (λ (n : ℕ). in_order (map (damaged_state (lost_graph image data_blocks) image) (filter (is_loose_top (lost_graph image data_blocks) image) (range_with_len 0 n)))) none
