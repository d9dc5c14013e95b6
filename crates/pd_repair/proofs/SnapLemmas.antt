-- When what has some runs is snapped, by how often each data block was counted.
use Rattle.std.proofs.Common.{◌≡◌, ℕ, zero, suc, ◌+◌, ◌-◌, ◌^◌, ◌<◌, ◌≤◌, max, min, Bool, true, false, cond, ltb, eqb, ◌||◌, List, [], ◌∷◌, ◌++◌, map, refl, sym, ap, ◌∙◌, arith, add-one, get_or, length, take, drop, ap₂, append_assoc}
use Rattle.std.specs.List.{count_by, filter, list_any, range_with_len}
use Rattle.std.specs.Prelude.{fold, sum_by}
use Rattle.std.proofs.lemmas.Bool.Decides.{nat_tests}
use Rattle.std.proofs.lemmas.Bool.{false≢true, or_parts}
use Rattle.std.proofs.lemmas.List.{append-nil, drop-drop, drop_all, drop_more, length-drop}
use Rattle.std.proofs.lemmas.List.Sums.{sum_by-drop_more}
use Rattle.pd_kinds.specs.Meaning.{Mapping}
use Rattle.pd_grammar.specs.Lawful.{AreMappings}
use Rattle.pd_grammar.specs.ThinText.{mappings_from}
use Rattle.pd_laid.specs.Shape.{leaf_mappings, piece_mappings}
use Rattle.pd_laid.specs.PoolText.{mappings_of_runs as mappings_spelled, piece_of_part}
use Rattle.pd_count.specs.Counted.{Counted, count_of}
use Rattle.pd_meaning_thin.specs.declared.joined.Run.{Run}
use Rattle.pd_restore.specs.ShapeNeed.{HasCountedThrice}
use Rattle.pd_salvage.specs.declared.saved.SavedDevice.{SavedDevice}
use Rattle.pd_salvage.specs.declared.saved_shape.SavedLeaf.{SavedLeaf}
use Rattle.pd_salvage.specs.declared.saved_shape.SavedPiece.{SavedPiece}
use Rattle.pd_salvage.specs.declared.saved_shape.ShapedDevice.{ShapedDevice}
use Rattle.pd_salvage.specs.Gather.{mappings_of_runs}
use Rattle.pd_salvage.specs.SavedShape.{leaf_parts, piece_part, runs_of_piece, runs_of_pieces}
use Rattle.pd_repair.specs.Snaps.{is_twice, snap_after, snaps_of, mappings_of_pieces, seen_devices, seen_shaped, snapped_at}

-- the blocks of a run from one on: the first of them, and none
pub rest_shared : (test : ℕ → Bool) (t n i : ℕ) → i < n
    → list_any test (range_with_len (t + i) (n - i)) ≡ (test (t + i) || list_any test (range_with_len (t + (i + 1)) (n - (i + 1))))
rest_shared test t n i within =
    let less : n - i ≡ suc (n - (i + 1)) = omega arith in
    let next : t + i + 1 ≡ t + (i + 1) = omega arith in
    rw (less, ← next) refl

pub none_shared : (test : ℕ → Bool) (t n i : ℕ) → n ≤ i → list_any test (range_with_len (t + i) (n - i)) ≡ false
none_shared test t n i over = let none : n - i ≡ 0 = omega arith in rw none refl

-- one mapping more
split : (b : Bool) (snap : ℕ) (x : Mapping) (l : List Mapping)
    → fold max snap (map (λ (x : Mapping). x.time + 1) (cond b (x ∷ l) l)) ≡ fold max (cond b (max snap (x.time + 1)) snap) (map (λ (x : Mapping). x.time + 1) l)
split true snap x l = refl
split false snap x l = refl

pub one_more : (test : ℕ → Bool) (snap : ℕ) (x : Mapping) (ms : List Mapping)
    → snap_after test snap (x ∷ ms) ≡ snap_after test (cond (test x.data_block) (max snap (x.time + 1)) snap) ms
one_more test snap x ms = split (test x.data_block) snap x (filter (λ (x : Mapping). test x.data_block) ms)

-- some mappings, and others behind them
pub snap_append : (test : ℕ → Bool) (snap : ℕ) (ms ns : List Mapping) → snap_after test snap (ms ++ ns) ≡ snap_after test (snap_after test snap ms) ns
snap_append test snap [] ns = refl
snap_append test snap (x ∷ ms) ns =
    let next = cond (test x.data_block) (max snap (x.time + 1)) snap in
    one_more test snap x (ms ++ ns) ∙ (snap_append test next ms ns ∙ ap (λ (s : ℕ). snap_after test s ns) (sym (one_more test snap x ms)))

-- a run that is too old
kept : (b : Bool) (snap t : ℕ) → t < snap → cond b (max snap (t + 1)) snap ≡ snap
kept true snap t older = omega arith
kept false snap t older = refl

pub older : (test : ℕ → Bool) (v d t n snap : ℕ) (rest : List Mapping) → t < snap → snap_after test snap (mappings_from v d t n ++ rest) ≡ snap_after test snap rest
older test v d t zero snap rest less = refl
older test v d t (suc n) snap rest less =
    one_more test snap (record { virtual_block = v; data_block = d; time = t }) (mappings_from (suc v) (suc d) t n ++ rest)
    ∙ (ap (λ (s : ℕ). snap_after test s (mappings_from (suc v) (suc d) t n ++ rest)) (kept (test d) snap t less) ∙ older test (suc v) (suc d) t n snap rest less)

-- one without such a data block
pub unshared : (test : ℕ → Bool) (v d t n snap : ℕ) (rest : List Mapping) → list_any test (range_with_len d n) ≡ false
    → snap_after test snap (mappings_from v d t n ++ rest) ≡ snap_after test snap rest
unshared test v d t zero snap rest none = refl
unshared test v d t (suc n) snap rest none =
    let parts = or_parts (test d) (list_any test (range_with_len (d + 1) n)) none in
    let later : list_any test (range_with_len (suc d) n) ≡ false = rw add-one at parts.1 in
    one_more test snap (record { virtual_block = v; data_block = d; time = t }) (mappings_from (suc v) (suc d) t n ++ rest)
    ∙ (ap (λ (b : Bool). snap_after test (cond b (max snap (t + 1)) snap) (mappings_from (suc v) (suc d) t n ++ rest)) parts.0
    ∙ unshared test (suc v) (suc d) t n snap rest later)

-- and one with such a block
pub shared_run : (test : ℕ → Bool) (v d t n snap : ℕ) (rest : List Mapping) → list_any test (range_with_len d n) ≡ true → snap ≤ t
    → snap_after test snap (mappings_from v d t n ++ rest) ≡ snap_after test (t + 1) rest
shared_run test v d t zero snap rest some most = absurd (false≢true some)
shared_run test v d t (suc n) snap rest some most =
    let later : list_any test (range_with_len (d + 1) n) ≡ true → snap_after test snap (mappings_from (suc v) (suc d) t n ++ rest) ≡ snap_after test (t + 1) rest =
    λ more. shared_run test (suc v) (suc d) t n snap rest (rw add-one at more) most in
    one_more test snap (record { virtual_block = v; data_block = d; time = t }) (mappings_from (suc v) (suc d) t n ++ rest) ∙ by (test d) some later
  where
    by : (b : Bool) → (b || list_any test (range_with_len (d + 1) n)) ≡ true
        → (list_any test (range_with_len (d + 1) n) ≡ true → snap_after test snap (mappings_from (suc v) (suc d) t n ++ rest) ≡ snap_after test (t + 1) rest)
        → snap_after test (cond b (max snap (t + 1)) snap) (mappings_from (suc v) (suc d) t n ++ rest) ≡ snap_after test (t + 1) rest
    by true some later =
        let raised : max snap (t + 1) ≡ t + 1 = omega (arith, most) in
        ap (λ (s : ℕ). snap_after test s (mappings_from (suc v) (suc d) t n ++ rest)) raised ∙ older test (suc v) (suc d) t n (t + 1) rest (omega arith)
    by false some later = later some

-- the latest of a time and of others is the later one of it and of the latest of these
snap_max : (test : ℕ → Bool) (a b : ℕ) (ms : List Mapping) → snap_after test (max a b) ms ≡ max a (snap_after test b ms)
snap_max test a b [] = refl
snap_max test a b (x ∷ ms) =
    one_more test (max a b) x ms
    ∙ (ap (λ (s : ℕ). snap_after test s ms) (outside (test x.data_block))
    ∙ (snap_max test a (cond (test x.data_block) (max b (x.time + 1)) b) ms ∙ ap (max a) (sym (one_more test b x ms))))
  where
    outside : (c : Bool) → cond c (max (max a b) (x.time + 1)) (max a b) ≡ max a (cond c (max b (x.time + 1)) b)
    outside true = omega arith
    outside false = refl

pub leaf_snap : (test : ℕ → Bool) (snap n : ℕ) (leaves : List (List Mapping)) → max snap (get_or (snaps_of test leaves) n 0) ≡ snap_after test snap (leaf_mappings leaves n)
leaf_snap test snap n [] = omega arith
leaf_snap test snap zero (ms ∷ leaves) =
    let least : max snap 0 ≡ snap = omega arith in
    sym (snap_max test snap 0 ms) ∙ ap (λ (s : ℕ). snap_after test s ms) least
leaf_snap test snap (suc n) (ms ∷ leaves) = leaf_snap test snap n leaves

-- whether a block was counted twice or more is whether it stands so often in what was counted
abbrev pub stands_twice : List ℕ → ℕ → Bool
stands_twice places b = ltb 1 (count_by (λ r. eqb r b) places)

at_two : (n m : ℕ) → n ≡ min m 3 → ltb 1 n ≡ ltb 1 m
at_two n m is = grind (arith, nat_tests)

same_times : (p q : ℕ → Bool) → ((b : ℕ) → p b ≡ q b) → (snap : ℕ) (ms : List Mapping) → snap_after p snap ms ≡ snap_after q snap ms
same_times p q same snap [] = refl
same_times p q same snap (x ∷ ms) =
    one_more p snap x ms
    ∙ (ap (λ (b : Bool). snap_after p (cond b (max snap (x.time + 1)) snap) ms) (same x.data_block)
    ∙ (same_times p q same (cond (q x.data_block) (max snap (x.time + 1)) snap) ms ∙ sym (one_more q snap x ms)))

pub counted_snap : (counts : Counted) (places : List ℕ) → HasCountedThrice counts places → (snap : ℕ) (ms : List Mapping)
    → snap_after (is_twice counts) snap ms ≡ snap_after (stands_twice places) snap ms
counted_snap counts places counted snap ms =
    same_times (is_twice counts) (stands_twice places) (λ b. at_two (count_of counts b) (count_by (λ r. eqb r b) places) (counted b)) snap ms

-- it has 32 bits where the times of all mappings have 24
pub snap_fits : (test : ℕ → Bool) (blocks least snap : ℕ) (ms : List Mapping) → AreMappings blocks least ms → snap < 2 ^ 32 → snap_after test snap ms < 2 ^ 32
snap_fits test blocks least snap [] are fits = fits
snap_fits test blocks least snap (x ∷ ms) are fits =
    let timed = are.0.time_fits in
    rw (one_more test snap x ms) (snap_fits test blocks (x.virtual_block + 1) (cond (test x.data_block) (max snap (x.time + 1)) snap) ms are.1 (either (test x.data_block) timed))
  where
    either : (b : Bool) → x.time < 2 ^ 24 → cond b (max snap (x.time + 1)) snap < 2 ^ 32
    either true timed = omega arith
    either false timed = fits

-- Devices, leaves and pieces that are looked at one after another.

-- a block of a run that was counted so often
counted_twice : (n m : ℕ) → n ≡ m → 1 < n → ltb 1 m ≡ true
counted_twice n m is more = grind (arith, nat_tests)

counted_once : (n m : ℕ) → n ≡ m → n ≤ 1 → ltb 1 m ≡ false
counted_once n m is less = grind (arith, nat_tests)

pub shared_here : (counts : Counted) (t n i often : ℕ) → i < n → often ≡ count_of counts (t + i) → 1 < often → list_any (is_twice counts) (range_with_len (t + i) (n - i)) ≡ true
shared_here counts t n i often within is more =
    rest_shared (is_twice counts) t n i within
    ∙ ap (λ (b : Bool). b || list_any (is_twice counts) (range_with_len (t + (i + 1)) (n - (i + 1)))) (counted_twice often (count_of counts (t + i)) is more)

pub shared_later : (counts : Counted) (t n i often : ℕ) → i < n → often ≡ count_of counts (t + i) → often ≤ 1
    → list_any (is_twice counts) (range_with_len (t + i) (n - i)) ≡ list_any (is_twice counts) (range_with_len (t + (i + 1)) (n - (i + 1)))
shared_later counts t n i often within is less =
    rest_shared (is_twice counts) t n i within
    ∙ ap (λ (b : Bool). b || list_any (is_twice counts) (range_with_len (t + (i + 1)) (n - (i + 1)))) (counted_once often (count_of counts (t + i)) is less)

-- from a list whose first elements were seen to one element more
joined_next : {T : Type 0} (seen : List T) (one : T) (rest before all : List T) → one ∷ rest ≡ before → seen ++ before ≡ all → (seen ++ one ∷ []) ++ rest ≡ all
joined_next {T} seen one rest before all is joined = append_assoc seen (one ∷ []) rest ∙ (ap (λ (xs : List T). seen ++ xs) is ∙ joined)

-- a device with another snapped time
abbrev pub device_at : SavedDevice → ℕ → SavedDevice
device_at d snapped = record { id = d.id; details = snapped_at d.details snapped; runs = d.runs }

abbrev pub shaped_at : ShapedDevice → ℕ → ShapedDevice
shaped_at d snapped = record { id = d.id; details = snapped_at d.details snapped; pieces = d.pieces }

-- what stands past the last device
abbrev pub no_saved : SavedDevice
no_saved = record { id = 0; details = record { mapped = 0; transaction = 0; created = 0; snapped = 0 }; runs = 0 }

abbrev pub no_shaped : ShapedDevice
no_shaped = record { id = 0; details = record { mapped = 0; transaction = 0; created = 0; snapped = 0 }; pieces = 0 }

-- a device more
pub devices_next : (test : ℕ → Bool) (ds : List SavedDevice) (i : ℕ) (d : SavedDevice) (seen : List SavedDevice) (snapped : ℕ) (runs later : List Run) (all : List SavedDevice) → i < length ds
    → (let e = get_or ds i d in snapped ≡ snap_after test e.details.snapped (mappings_of_runs (take e.runs runs)) → later ≡ drop e.runs runs → seen ++ seen_devices test (drop i ds) runs ≡ all
    → (seen ++ device_at e snapped ∷ []) ++ seen_devices test (drop (i + 1) ds) later ≡ all)
devices_next test ds i d seen snapped runs later all within is behind joined =
    let e = get_or ds i d in
    joined_next seen (device_at e snapped) (seen_devices test (drop (i + 1) ds) later) (seen_devices test (drop i ds) runs) all
    (ap₂ (λ (s : ℕ) (rs : List Run). device_at e s ∷ seen_devices test (drop (i + 1) ds) rs) is behind
    ∙ ap (λ (es : List SavedDevice). seen_devices test es runs) (sym (drop_more ds i d within)))
    joined

-- a leaf more
pub leaves_next : (test : ℕ → Bool) (leaves : List SavedLeaf) (i : ℕ) (d : SavedLeaf) (snaps : List ℕ) (snap : ℕ) (runs later : List Run) (all : List ℕ) → i < length leaves
    → (let e = get_or leaves i d in snap ≡ snap_after test 0 (mappings_of_runs (take e.runs runs)) → later ≡ drop e.runs runs
    → snaps ++ snaps_of test (map mappings_spelled (leaf_parts (drop i leaves) runs)) ≡ all → (snaps ++ snap ∷ []) ++ snaps_of test (map mappings_spelled (leaf_parts (drop (i + 1) leaves) later)) ≡ all)
leaves_next test leaves i d snaps snap runs later all within is behind joined =
    let told = λ (rs : List Run). snaps_of test (map mappings_spelled (leaf_parts (drop (i + 1) leaves) rs)) in
    joined_next snaps snap (told later) (snaps_of test (map mappings_spelled (leaf_parts (drop i leaves) runs))) all
    (ap₂ (λ (s : ℕ) (rs : List Run). s ∷ snaps_of test (map mappings_spelled (leaf_parts (drop (i + 1) leaves) rs))) is behind
    ∙ ap (λ (ls : List SavedLeaf). snaps_of test (map mappings_spelled (leaf_parts ls runs))) (sym (drop_more leaves i d within)))
    joined

-- a device with pieces more
pub shaped_next : (test : ℕ → Bool) (leaves : List (List Mapping)) (ds : List ShapedDevice) (i : ℕ) (d : ShapedDevice) (seen : List ShapedDevice) (snapped : ℕ) (pieces others : List SavedPiece)
    (runs later : List Run) (all : List ShapedDevice) → i < length ds
    → (let e = get_or ds i d in snapped ≡ snap_after test e.details.snapped (mappings_of_pieces leaves (take e.pieces pieces) runs) → others ≡ drop e.pieces pieces
    → later ≡ drop (runs_of_pieces (take e.pieces pieces)) runs → seen ++ seen_shaped test leaves (drop i ds) pieces runs ≡ all
    → (seen ++ shaped_at e snapped ∷ []) ++ seen_shaped test leaves (drop (i + 1) ds) others later ≡ all)
shaped_next test leaves ds i d seen snapped pieces others runs later all within is rest behind joined =
    let e = get_or ds i d in
    joined_next seen (shaped_at e snapped) (seen_shaped test leaves (drop (i + 1) ds) others later)
    (seen_shaped test leaves (drop i ds) pieces runs) all
    (ap (λ (s : ℕ). shaped_at e s ∷ seen_shaped test leaves (drop (i + 1) ds) others later) is
    ∙ (ap₂ (λ (ps : List SavedPiece) (rs : List Run). shaped_at e (snap_after test e.details.snapped (mappings_of_pieces leaves (take e.pieces pieces) runs)) ∷ seen_shaped test leaves (drop (i + 1) ds) ps rs) rest behind
    ∙ ap (λ (es : List ShapedDevice). seen_shaped test leaves es pieces runs) (sym (drop_more ds i d within))))
    joined

-- the pieces that are left are those of the devices that are left
pub pieces_left : (ds : List ShapedDevice) (i : ℕ) (d : ShapedDevice) (pieces others : List SavedPiece) → i < length ds → sum_by (λ (d : ShapedDevice). d.pieces) (drop i ds) ≡ length pieces
    → others ≡ drop (get_or ds i d).pieces pieces → sum_by (λ (d : ShapedDevice). d.pieces) (drop (i + 1) ds) ≡ length others
pieces_left ds i d pieces others within number rest =
    let n = (get_or ds i d).pieces in
    let long : length others ≡ length pieces - n = ap (λ (ps : List SavedPiece). length ps) rest ∙ length-drop n pieces in
    omega (arith, number, long, sum_by-drop_more (λ (d : ShapedDevice). d.pieces) ds i d within)

pub pieces_there : (ds : List ShapedDevice) (i : ℕ) (d : ShapedDevice) (pieces : List SavedPiece) → i < length ds → sum_by (λ (d : ShapedDevice). d.pieces) (drop i ds) ≡ length pieces
    → (get_or ds i d).pieces ≤ length pieces
pieces_there ds i d pieces within number = omega (arith, number, sum_by-drop_more (λ (d : ShapedDevice). d.pieces) ds i d within)

-- a piece more
pub piece_next : (test : ℕ → Bool) (leaves : List (List Mapping)) (snap next : ℕ) (pieces : List SavedPiece) (i : ℕ) (d : SavedPiece) (runs later : List Run) → i < length pieces
    → (let p = get_or pieces i d in next ≡ snap_after test snap (piece_mappings leaves (piece_of_part (piece_part p (take (runs_of_piece p) runs)))) → later ≡ drop (runs_of_piece p) runs
    → snap_after test next (mappings_of_pieces leaves (drop (i + 1) pieces) later) ≡ snap_after test snap (mappings_of_pieces leaves (drop i pieces) runs))
piece_next test leaves snap next pieces i d runs later within is behind =
    let p = get_or pieces i d in
    let mine = piece_mappings leaves (piece_of_part (piece_part p (take (runs_of_piece p) runs))) in
    ap₂ (λ (s : ℕ) (rs : List Run). snap_after test s (mappings_of_pieces leaves (drop (i + 1) pieces) rs)) is behind
    ∙ (sym (snap_append test snap mine (mappings_of_pieces leaves (drop (i + 1) pieces) (drop (runs_of_piece p) runs)))
    ∙ ap (λ (ps : List SavedPiece). snap_after test snap (mappings_of_pieces leaves ps runs)) (sym (drop_more pieces i d within)))

pub behind_next : (pieces : List SavedPiece) (i : ℕ) (d : SavedPiece) (runs later : List Run) → i < length pieces → later ≡ drop (runs_of_piece (get_or pieces i d)) runs
    → drop (runs_of_pieces (drop (i + 1) pieces)) later ≡ drop (runs_of_pieces (drop i pieces)) runs
behind_next pieces i d runs later within behind =
    let p = get_or pieces i d in
    ap (λ (rs : List Run). drop (runs_of_pieces (drop (i + 1) pieces)) rs) behind
    ∙ (drop-drop (runs_of_pieces (drop (i + 1) pieces)) (runs_of_piece p) runs
    ∙ ap (λ (n : ℕ). drop n runs) (sym (sum_by-drop_more runs_of_piece pieces i d within)))

-- no piece is left
pub pieces_over : (test : ℕ → Bool) (leaves : List (List Mapping)) (snap : ℕ) (pieces : List SavedPiece) (i : ℕ) (runs : List Run) → length pieces ≤ i
    → snap_after test snap (mappings_of_pieces leaves (drop i pieces) runs) ≡ snap
pieces_over test leaves snap pieces i runs over = rw (drop_all i pieces over) refl

pub none_over : (pieces : List SavedPiece) (i : ℕ) (runs : List Run) → length pieces ≤ i → drop (runs_of_pieces (drop i pieces)) runs ≡ runs
none_over pieces i runs over = rw (drop_all i pieces over) refl

-- no device is left, and no leaf
pub devices_over : (test : ℕ → Bool) (ds : List SavedDevice) (i : ℕ) (seen : List SavedDevice) (runs : List Run) (all : List SavedDevice) → length ds ≤ i
    → seen ++ seen_devices test (drop i ds) runs ≡ all → seen ≡ all
devices_over test ds i seen runs all over joined =
    sym (append-nil seen) ∙ (ap (λ (es : List SavedDevice). seen ++ seen_devices test es runs) (sym (drop_all i ds over)) ∙ joined)

pub shaped_over : (test : ℕ → Bool) (leaves : List (List Mapping)) (ds : List ShapedDevice) (i : ℕ) (seen : List ShapedDevice) (pieces : List SavedPiece) (runs : List Run) (all : List ShapedDevice)
    → length ds ≤ i → seen ++ seen_shaped test leaves (drop i ds) pieces runs ≡ all → seen ≡ all
shaped_over test leaves ds i seen pieces runs all over joined =
    sym (append-nil seen) ∙ (ap (λ (es : List ShapedDevice). seen ++ seen_shaped test leaves es pieces runs) (sym (drop_all i ds over)) ∙ joined)

pub leaves_over : (test : ℕ → Bool) (leaves : List SavedLeaf) (i : ℕ) (snaps : List ℕ) (runs : List Run) (all : List ℕ) → length leaves ≤ i
    → snaps ++ snaps_of test (map mappings_spelled (leaf_parts (drop i leaves) runs)) ≡ all → snaps ≡ all
leaves_over test leaves i snaps runs all over joined =
    sym (append-nil snaps) ∙ (ap (λ (ls : List SavedLeaf). snaps ++ snaps_of test (map mappings_spelled (leaf_parts ls runs))) (sym (drop_all i leaves over)) ∙ joined)
