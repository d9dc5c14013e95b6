-- Levels above levels.
use Rattle.std.proofs.Common.{◌≡◌, inl, inr, ℕ, zero, suc, ◌+◌, ◌-◌, ◌*◌, ◌/◌, ◌^◌, ◌<◌, ◌≤◌, true, List, [], ◌∷◌, ◌++◌, length, map, take, drop, get_or, set, refl, sym, ◌∙◌, ap, ap₂, subst, arith, add-one, length-append, drop-cons}
use Rattle.std.specs.List.{flat_map, take-map, drop-map}
use Rattle.std.proofs.Math.Seq.{take-suc, take-suc-set, take-append_seam}
use Rattle.std.proofs.lemmas.Bool.{cases_lt, lt-ltb, le-ltb}
use Rattle.std.proofs.lemmas.List.{append_assoc, append-nil, map-append, length-map, length-drop, length-take-le, drop-drop, take_all, take-append-drop}
use Rattle.pd_kinds.specs.Node.{Entry, is_ascending, inner_block}
use Rattle.pd_kinds.proofs.KindLemmas.{asc_left, asc_right}
use Rattle.pd_kinds.specs.Trees.{keys_of as keys}
use Rattle.pd_grammar.specs.Need.{nodes_for, need_above}
use Rattle.pd_laid.specs.Laid.{even_parts, heads, blocks_from, first_key, levels_above, first_place, root_above}
use Rattle.pd_laid.proofs.LaidLemmas.{length-spread}
use Rattle.pd_laid.proofs.NeedLemmas.{length-heads}
use Rattle.pd_laid.proofs.Rows.{levels_one, levels_more, first_head}
use Rattle.pd_node.specs.Items.{keys_of}
use Rattle.pd_draft.specs.Closed.{IsClosed, DraftState, Wrote}
use Rattle.pd_build.proofs.OrderLemmas.{heads_ascend}
use Rattle.pd_build.proofs.RowLemmas.{moved_by, rows_then, row_next, wrote_nothing, level_spread, need_more}
use Rattle.pd_build.specs.Tree.{AreCounts, link_entries}
use Rattle.pd_build.proofs.TakesLemmas.{IsEndOf, end_of, parts_some, nodes_at}

-- where a level is half written: the first parts of the level below were used up
pub record IsHalf (nodes : ℕ) (all : List Entry) (i used : ℕ) : Type 0 where
  pub rest : drop i (even_parts nodes all) ≡ even_parts (nodes - i) (drop used all)
  pub behind : i ≤ used
  pub within : used ≤ length all
  pub some : nodes - i ≤ length all - used
  pub few : length all - used ≤ (nodes - i) * 252

-- where the levels are half written
pub record IsRising (all level : List Entry) (from to : DraftState) : Type 0 where
  pub fuel : ℕ
  pub done : List (List Entry)
  pub high : length level ≤ 252 ^ fuel
  pub some : 1 ≤ length level
  pub ascending : is_ascending (map (λ (e : Entry). e.key) level) ≡ true
  pub whole : levels_above 10 from.place all ≡ done ++ levels_above fuel to.place level
  pub wrote : Wrote (blocks_from inner_block from.place done) from to
  pub top : length level ≡ 1 → first_place level ≡ root_above from.place all
  pub need : to.place + need_above fuel (length level) ≡ from.place + need_above 10 (length all)

-- rows of heads
pub heads-append : (place : ℕ) (xs ys : List (List Entry)) → heads place (xs ++ ys) ≡ heads place xs ++ heads (place + length xs) ys
unfolding heads
heads-append place [] ys = ap (λ (p : ℕ). heads p ys) (omega arith)
heads-append place (x ∷ xs) ys =
    ap (λ (rest : List Entry). record { key = first_key x; value = place } ∷ rest)
    (heads-append (place + 1) xs ys ∙ ap (λ (p : ℕ). heads (place + 1) xs ++ heads p ys) (omega arith))

pub head_one : (place : ℕ) (node : List Entry) → heads place (node ∷ []) ≡ record { key = first_key node; value = place } ∷ []
unfolding heads
head_one place node = refl

-- a level that is half written
half_counts : {nodes i used : ℕ} {all : List Entry} → IsHalf nodes all i used → i < nodes
    → AreCounts 252 (nodes - i) (length all - used) (nodes_for (nodes - i) (length all - used)) 0
half_counts {nodes} {i} {used} {all} half more =
    let is = parts_some (nodes - i) (length all - used) (omega arith) (omega (arith, half.some)) in
    record {
      some = half.some;
      few = half.few;
      none = λ none. refl;
      sized = λ one. refl;
      begun_less = λ one. omega arith;
    }

pub half_start : (nodes : ℕ) (all : List Entry) → nodes ≤ length all → length all ≤ nodes * 252 → IsHalf nodes all 0 0
half_start nodes all some few = record {
  rest = ap (λ (k : ℕ). even_parts k all) (omega arith);
  behind = omega arith;
  within = omega arith;
  some = omega arith;
  few = let e : nodes - 0 ≡ nodes = omega arith in rw e (omega arith);
}

-- the next part
pub record IsPart (nodes : ℕ) (all : List Entry) (i used size : ℕ) : Type 0 where
  pub is : take (i + 1) (even_parts nodes all) ≡ take i (even_parts nodes all) ++ take size (drop used all) ∷ []
  pub next : IsHalf nodes all (i + 1) (used + size)
  pub some : 1 ≤ size
  pub most : size ≤ 252

pub half_next : {nodes i used : ℕ} {all : List Entry} (size : ℕ) → IsHalf nodes all i used → i < nodes → size ≡ nodes_for (nodes - i) (length all - used)
    → IsPart nodes all i used size
unfolding even_parts
half_next {nodes} {i} {used} {all} size half more is =
    let counts : AreCounts 252 (nodes - i) (length all - used) size 0 = rw is (half_counts half more) in
    let end : IsEndOf 252 (nodes - i) (length all - used) size = end_of counts (omega arith) in
    let whole = even_parts nodes all in
    let x = drop used all in
    let k = nodes - i - 1 in
    let left : nodes - i ≡ suc k = omega arith in
    let size_is : (length x + k) / suc k ≡ size =
    ap (λ (n : ℕ). (n + k) / suc k) (length-drop used all) ∙ sym (is ∙ nodes_at (nodes - i) k (length all - used) left) in
    let within : i < length whole = omega (arith, length-spread nodes all) in
    let split : get_or whole i [] ∷ drop (suc i) whole ≡ take size x ∷ even_parts k (drop size x) =
    sym (drop-cons whole i [] within) ∙ (half.rest ∙ (ap (λ (n : ℕ). even_parts n x) left ∙ ap (λ (c : ℕ). take c x ∷ even_parts k (drop c x)) size_is)) in
    let part : get_or whole i [] ≡ take size x = cc in
    let others : drop (suc i) whole ≡ even_parts k (drop size x) = cc in
    let one : 1 ≤ size = omega (arith, counts.begun_less) in
    record {
      is = rw add-one (take-suc whole i [] within ∙ ap (λ (p : List Entry). take i whole ++ p ∷ []) part);
      next = record {
        rest = rw add-one (others ∙ ap₂ (λ (n : ℕ) (y : List Entry). even_parts n y) (omega arith) (drop-drop size used all));
        behind = omega (arith, half.behind);
        within = omega (arith, half.within, end.within);
        some = omega (arith, end.some);
        few = let e : nodes - (i + 1) ≡ nodes - i - 1 = omega arith in rw e (omega (arith, end.few));
      };
      some = one;
      most = end.room;
    }

-- a row of keys and places
pub length-links : (items : List (ℕ × ℕ)) → length (link_entries items) ≡ length items
length-links items = length-map items (λ (item : ℕ × ℕ). record { key = item.0; value = item.1 })

pub links-append : (xs ys : List (ℕ × ℕ)) → link_entries (xs ++ ys) ≡ link_entries xs ++ link_entries ys
links-append xs ys = map-append (λ (item : ℕ × ℕ). record { key = item.0; value = item.1 }) xs ys

pub links-take : (n : ℕ) (xs : List (ℕ × ℕ)) → take n (link_entries xs) ≡ link_entries (take n xs)
links-take n xs = take-map (λ (item : ℕ × ℕ). record { key = item.0; value = item.1 }) n xs

pub links-drop : (n : ℕ) (xs : List (ℕ × ℕ)) → drop n (link_entries xs) ≡ link_entries (drop n xs)
links-drop n xs = drop-map (λ (item : ℕ × ℕ). record { key = item.0; value = item.1 }) n xs

pub keys-links : (xs : List (ℕ × ℕ)) → keys (link_entries xs) ≡ keys_of xs
keys-links [] = refl
keys-links (x ∷ xs) = ap (λ (rest : List ℕ). x.0 ∷ rest) (keys-links xs)

-- the keys of a part ascend
pub part_ascends : (used size : ℕ) (was level : List (ℕ × ℕ)) → drop used level ≡ drop used was → is_ascending (keys_of was) ≡ true
    → is_ascending (keys_of (take size (drop used level))) ≡ true
part_ascends used size was level same asc =
    let later = drop used was in
    let whole : keys_of (take used was) ++ keys_of later ≡ keys_of was =
    sym (map-append (λ (item : ℕ × ℕ). item.0) (take used was) later) ∙ ap keys_of (take-append-drop used was) in
    let behind : is_ascending (keys_of later) ≡ true = asc_right (keys_of (take used was)) (keys_of later) (rw whole asc) in
    let parts : keys_of (take size later) ++ keys_of (drop size later) ≡ keys_of later =
    sym (map-append (λ (item : ℕ × ℕ). item.0) (take size later) (drop size later)) ∙ ap keys_of (take-append-drop size later) in
    rw same (asc_left (keys_of (take size later)) (keys_of (drop size later)) (rw parts behind))

-- the part of the level as it is now
pub part_is : (used size : ℕ) (was level : List (ℕ × ℕ)) → drop used level ≡ drop used was
    → link_entries (take size (drop used level)) ≡ take size (drop used (link_entries was))
part_is used size was level same =
    ap (λ (xs : List (ℕ × ℕ)). link_entries (take size xs)) same ∙ sym (ap (take size) (links-drop used was) ∙ links-take size (drop used was))

first_is : (size : ℕ) (xs : List (ℕ × ℕ)) (d : ℕ × ℕ) (rest : List (ℕ × ℕ)) → 1 ≤ size → xs ≡ d ∷ rest → d.0 ≡ first_key (link_entries (take size xs))
first_is zero xs d rest some is = absurd (omega arith)
first_is (suc size) xs d rest some is = rw is refl

pub least_is : (used size : ℕ) (level : List (ℕ × ℕ)) (d : ℕ × ℕ) → 1 ≤ size → used < length level
    → (get_or level used d).0 ≡ first_key (link_entries (take size (drop used level)))
least_is used size level d some within =
    first_is size (drop used level) (get_or level used d) (drop (suc used) level) some (drop-cons level used d within)

-- one head more
pub heads_next : (nodes i used size place least start : ℕ) (was level : List (ℕ × ℕ)) (d : ℕ × ℕ)
    → IsPart nodes (link_entries was) i used size → i < nodes → IsHalf nodes (link_entries was) i used → length level ≡ length was
    → drop used level ≡ drop used was
    → link_entries (take i level) ≡ heads start (take i (even_parts nodes (link_entries was)))
    → place ≡ start + i → least ≡ (get_or level used d).0
    → link_entries (take (i + 1) (set level i (least, place))) ≡ heads start (take (i + 1) (even_parts nodes (link_entries was)))
heads_next nodes i used size place least start was level d part more half same below so_far at is_least =
    let whole = even_parts nodes (link_entries was) in
    let p = take size (drop used (link_entries was)) in
    let room : length (link_entries was) ≡ length was = length-links was in
    let within : i < length level = omega (arith, half.some, half.behind, half.within) in
    let count : length (take i whole) ≡ i = length-take-le i whole (omega (arith, length-spread nodes (link_entries was))) in
    let key : least ≡ first_key p =
    is_least ∙ (least_is used size level d part.some (omega (arith, half.some, half.within)) ∙ ap first_key (part_is used size was level below)) in
    let spot : place ≡ start + length (take i whole) = omega arith in
    ap (λ (n : ℕ). link_entries (take n (set level i (least, place)))) (add-one i)
    ∙ (ap link_entries (take-suc-set level i (least, place) within)
    ∙ (links-append (take i level) ((least, place) ∷ [])
    ∙ (ap₂ (λ (front : List Entry) (e : Entry). front ++ e ∷ []) so_far (ap₂ (λ (k v : ℕ). record { key = k; value = v }) key spot)
    ∙ (ap (λ (back : List Entry). heads start (take i whole) ++ back) (sym (head_one (start + length (take i whole)) p))
    ∙ (sym (heads-append start (take i whole) (p ∷ [])) ∙ ap (heads start) (sym part.is))))))

-- one block more
pub wrote_next : (nodes i used size place : ℕ) (block : List ℕ) (was level : List (ℕ × ℕ)) (from mid to : DraftState)
    → IsPart nodes (link_entries was) i used size → drop used level ≡ drop used was
    → Wrote (blocks_from inner_block from.place (take i (even_parts nodes (link_entries was)))) from mid
    → block ≡ inner_block place (link_entries (take size (drop used level))) → place ≡ mid.place
    → Wrote (block ∷ []) mid to
    → Wrote (blocks_from inner_block from.place (take (i + 1) (even_parts nodes (link_entries was)))) from to
wrote_next nodes i used size place block was level from mid to part below before is_block at wrote =
    let p = take size (drop used (link_entries was)) in
    subst (λ (nodes : List (List Entry)). Wrote (blocks_from inner_block from.place nodes) from to) (sym part.is)
    (row_next inner_block (take i (even_parts nodes (link_entries was))) p block before (is_block ∙ ap₂ inner_block at (part_is used size was level below)) wrote)

-- how far it is written
pub half_moved : (nodes i : ℕ) (all : List Entry) (from to : DraftState) → i ≤ nodes
    → Wrote (blocks_from inner_block from.place (take i (even_parts nodes all))) from to → to.place ≡ from.place + i
half_moved nodes i all from to within wrote =
    moved_by inner_block (take i (even_parts nodes all)) wrote
    ∙ ap (λ (n : ℕ). from.place + n) (length-take-le i (even_parts nodes all) (omega (arith, length-spread nodes all)))

pub all_parts_taken : (nodes : ℕ) (all : List Entry) → take nodes (even_parts nodes all) ≡ even_parts nodes all
all_parts_taken nodes all = take_all nodes (even_parts nodes all) (omega (arith, length-spread nodes all))

pub root_one : (place : ℕ) (below : List Entry) → length below ≤ 1 → root_above place below ≡ first_place below
unfolding root_above
root_one place below few = rw (le-ltb 1 (length below) few) refl

pub root_more : (place : ℕ) (below : List Entry) → 1 < length below → root_above place below ≡ place + length (levels_above 10 place below) - 1
unfolding root_above
root_more place below many = rw (lt-ltb 1 (length below) many) refl

pub rising_start : (all : List Entry) (draft_state : DraftState) → 1 ≤ length all → length all ≤ 252 ^ 10
    → is_ascending (keys all) ≡ true → IsClosed draft_state.device → IsRising all all draft_state draft_state
rising_start all draft_state some few asc closed = record {
  fuel = 10;
  done = [];
  high = few;
  some = some;
  ascending = asc;
  whole = refl;
  wrote = wrote_nothing inner_block draft_state closed;
  top = λ one. sym (root_one draft_state.place all (omega arith));
  need = refl;
}

-- one level more
rising_by : (fuel : ℕ) (done : List (List Entry)) (all level next : List Entry) (from mid to : DraftState)
    → length level ≤ 252 ^ fuel → is_ascending (keys level) ≡ true
    → levels_above 10 from.place all ≡ done ++ levels_above fuel mid.place level
    → Wrote (blocks_from inner_block from.place done) from mid
    → mid.place + need_above fuel (length level) ≡ from.place + need_above 10 (length all)
    → 1 < length level
    → next ≡ heads mid.place (even_parts (nodes_for 252 (length level)) level)
    → Wrote (blocks_from inner_block mid.place (even_parts (nodes_for 252 (length level)) level)) mid to
    → IsRising all next from to
rising_by zero done all level next from mid to high asc whole before need many is wrote = absurd (omega arith)
rising_by (suc k) done all level next from mid to high asc whole before need many is wrote =
    let row = even_parts (nodes_for 252 (length level)) level in
    let spreads = level_spread k level (omega arith) in
    let moved : to.place ≡ mid.place + length row = moved_by inner_block row wrote in
    let at : mid.place ≡ from.place + length done = moved_by inner_block done before in
    let count : length next ≡ length row = ap length is ∙ length-heads mid.place row in
    let up : levels_above (suc k) mid.place level ≡ row ++ levels_above k to.place next =
    levels_more k mid.place level many
    ∙ sym (ap₂ (λ (p : ℕ) (hs : List Entry). row ++ levels_above k p hs) moved is) in
    let all_up : levels_above 10 from.place all ≡ (done ++ row) ++ levels_above k to.place next =
    whole ∙ (ap (λ (rest : List (List Entry)). done ++ rest) up ∙ sym (append_assoc done row (levels_above k to.place next))) in
    let parts_asc : is_ascending (keys (flat_map (λ (g : List Entry). g) row)) ≡ true = (let joined = spreads.joined in rw joined asc) in
    record {
      fuel = k;
      done = done ++ row;
      high = rw count (spreads.small high);
      some = rw count spreads.some;
      ascending = rw is (heads_ascend mid.place row spreads.parts parts_asc);
      whole = all_up;
      wrote = rows_then inner_block done row before wrote;
      top = λ one.
          let last : levels_above 10 from.place all ≡ done ++ row =
          all_up ∙ (ap (λ (rest : List (List Entry)). (done ++ row) ++ rest) (levels_one k to.place next (omega arith)) ∙ append-nil (done ++ row)) in
          let total : length (levels_above 10 from.place all) ≡ length done + length row = ap length last ∙ length-append done row in
          elim (cases_lt 1 (length all)) [
            | inl more ↦
                ap first_place is ∙ (first_head mid.place row (omega arith)
                ∙ sym (root_more from.place all more ∙ omega arith))
            | inr few ↦
                let nothing : length (levels_above 10 from.place all) ≡ 0 = ap length (levels_one 10 from.place all few) in
                absurd (omega arith)
          ];
      need =
          let split = need_more k (length level) many in
          let size : length next ≡ nodes_for 252 (length level) = count ∙ spreads.count in
          let same : need_above k (length next) ≡ need_above k (nodes_for 252 (length level)) = ap (need_above k) size in
          omega arith;
    }

pub rising_next : {all level next : List Entry} {from mid to : DraftState} → IsRising all level from mid → 1 < length level
    → next ≡ heads mid.place (even_parts (nodes_for 252 (length level)) level)
    → Wrote (blocks_from inner_block mid.place (even_parts (nodes_for 252 (length level)) level)) mid to
    → IsRising all next from to
rising_next {all} {level} {next} {from} {mid} {to} r many is wrote =
    rising_by r.fuel r.done all level next from mid to r.high r.ascending r.whole r.wrote r.need many is wrote

need_least : (fuel n : ℕ) → n ≤ 252 ^ fuel → 1 < n → nodes_for 252 n ≤ need_above fuel n
need_least zero n high many = absurd (omega arith)
need_least (suc k) n high many = omega (arith, need_more k n many)

pub rising_room : {all level : List Entry} {from to : DraftState} → IsRising all level from to → 1 < length level
    → to.place + nodes_for 252 (length level) ≤ from.place + need_above 10 (length all)
rising_room {all} {level} {from} {to} r many = omega (arith, r.need, need_least r.fuel (length level) r.high many)

pub rising_end : {all level : List Entry} {from to : DraftState} → IsRising all level from to → length level ≤ 1
    → Wrote (blocks_from inner_block from.place (levels_above 10 from.place all)) from to
rising_end {all} {level} {from} {to} r few =
    let last : levels_above 10 from.place all ≡ r.done =
    r.whole ∙ (ap (λ (rest : List (List Entry)). r.done ++ rest) (levels_one r.fuel to.place level few) ∙ append-nil r.done) in
    rw last r.wrote

-- a whole vector that was lent as a slice
pub lent_whole : (n : ℕ) (xs ys : List (ℕ × ℕ)) → length xs ≡ n → take n (xs ++ ys) ≡ xs
lent_whole n xs ys is = rw (← is) (take-append_seam xs ys)
