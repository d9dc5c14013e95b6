-- The generator's text as the lines of a pool, with a run for each mapping.
use Rattle.std.proofs.Common.{◌≡◌, inl, inr, ℕ, zero, suc, ◌+◌, ◌*◌, ◌%◌, ◌^◌, ◌<◌, ◌≤◌, nat_eq, List, [], ◌∷◌, ◌++◌, map, refl, ap, sym, ◌∙◌, append_assoc, arith, rules, lit≤, lit<, codes, decimal, replicate}
use Rattle.std.specs.List.{AllByRecursion, flat_map, join_with_byte, range_with_len}
use Rattle.uuid.specs.Text.{by_index, hyphenated_text, lower}
use Rattle.std.proofs.lemmas.Bool.{cases_Bool}
use Rattle.std.proofs.lemmas.Grind.{flat_map-append}
use Rattle.std.proofs.lemmas.List.{append-nil}
use Rattle.std.proofs.lemmas.List.FromFn.{length-map-range_with_len}
use Rattle.std.proofs.Math.Nat.{sub-zero}
use Rattle.pd_kinds.specs.Meaning.{ThinDevice, Mapping}
use Rattle.pd_grammar.specs.Texts.{text_of_lines, written}
use Rattle.pd_grammar.specs.Lawful.{AreMappings, IsDevice, IsLawfulPool}
use Rattle.pd_grammar.specs.ThinText.{Run, Line, first_line, pool_line, device_line, map_line, end_line, thin, mappings_of, device_of_part, MeansPool, SpellsPool}
use Rattle.pd_answers.specs.Rehearsals.{generated_text, generated_mapped, device_map, numbers_line, snapshot_map}
use Rattle.pd_gen.specs.Lines.{generated_lines, part_of, run_of, details_with, device_mapping, snapshot_mapping, generated_device, generated_head, generated_pool, lines_from}
use Rattle.pd_gen.specs.declared.lines.NextLine.TheVariants.{Pool}

-- the runs written out are the mappings
pub written_out : (ms : List Mapping) → flat_map mappings_of (map run_of ms) ≡ ms
written_out [] = refl
written_out (m ∷ ms) = ap (λ (xs : List Mapping). m ∷ xs) (written_out ms)

same_device : (d : ThinDevice) → device_of_part (part_of d) ≡ d
same_device d = rw (written_out d.mappings) refl

pub have_mappings : (ms : List Mapping) → AllByRecursion (λ (r : Run). 1 ≤ r.length) (map run_of ms)
have_mappings [] = tt
have_mappings (m ∷ ms) = (lit≤ tt, have_mappings ms)

-- a mapping of a virtual block below a number
record IsOf (blocks v : ℕ) (m : Mapping) : Type 0 where
  virtual : m.virtual_block ≡ v
  within : m.data_block < blocks
  time : m.time < 2 ^ 24

module _ (f : ℕ → Mapping) (blocks top : ℕ) (few : top ≤ 2 ^ 64) (each : (v : ℕ) → v < top → IsOf blocks v (f v)) where
  are_mappings : (least a n : ℕ) → least ≤ a → a + n ≤ top → AreMappings blocks least (map f (range_with_len a n))
  are_mappings least a zero low within = tt
  are_mappings least a (suc n) low within =
      let below : a < top = omega arith in
      let is = each a below in
      let virtual : (f a).virtual_block ≡ a = is.virtual in
      let above : least ≤ (f a).virtual_block = omega arith in
      let fits : (f a).virtual_block < 2 ^ 64 = omega arith in
      let next : (f a).virtual_block + 1 ≤ a + 1 = omega arith in (
        record { above = above; virtual_fits = fits; within = is.within; time_fits = is.time },
        are_mappings ((f a).virtual_block + 1) (a + 1) n next (omega arith),
      )

device_is : (number v : ℕ) → v < generated_mapped number → IsOf (10000 * number) v (device_mapping v)
device_is number v below = record { virtual = refl; within = omega arith; time = lit< tt }

snapshot_is : (number v : ℕ) → v < generated_mapped number → IsOf (10000 * number) v (snapshot_mapping v)
snapshot_is number v below = elim (cases_Bool (nat_eq (v % 200) 0)) [
  | inl e ↦ rw e (record { virtual = refl; within = omega arith; time = lit< tt })
  | inr e ↦ rw e (device_is number v below)
]

module _ (number : ℕ) (few : number ≤ 10000) where
  device_lawful : (least id : ℕ) (f : ℕ → Mapping) → least ≤ id → id ≤ 1 → ((v : ℕ) → v < generated_mapped number → IsOf (10000 * number) v (f v))
      → IsDevice (10000 * number) least (generated_device number id f)
  device_lawful least id f low one each = record {
    above = low;
    id_fits = omega arith;
    mapped = sym (length-map-range_with_len f 0 (generated_mapped number));
    mapped_fits = omega arith;
    transaction_fits = omega arith;
    created_fits = omega arith;
    snapped_fits = lit< tt;
    mappings = are_mappings f (10000 * number) (generated_mapped number) (omega arith) each 0 0 (generated_mapped number) (lit≤ tt) (omega arith);
  }

  pool_lawful : IsLawfulPool (generated_pool number)
  unfolding generated_pool
  pool_lawful = record {
    uuid_len = refl;
    uuid_bytes = search rules;
    time_fits = lit< tt;
    transaction_fits = lit< tt;
    block_size_fits = lit< tt;
    data_blocks_fit = omega arith;
    devices = (
      device_lawful 0 0 device_mapping (lit≤ tt) (lit≤ tt) (device_is number),
      (device_lawful 1 1 snapshot_mapping (lit≤ tt) (lit≤ tt) (snapshot_is number), tt),
    );
  }

-- the bytes of a line, with its line feed
abbrev line_text : Line → List ℕ
line_text line = written thin line ++ (10 ∷ [])

-- the text of a pool with two devices
two_devices : (first pool one other end : Line) (ms ns : List Line)
    → text_of_lines thin (first ∷ pool ∷ (((one ∷ ms) ++ ((other ∷ ns) ++ [])) ++ (end ∷ [])))
    ≡ line_text first ++ (line_text pool ++ (line_text one ++ (flat_map line_text ms ++ (line_text other ++ (flat_map line_text ns ++ line_text end)))))
two_devices first pool one other end ms ns =
    ap (λ (lines : List Line). line_text first ++ (line_text pool ++ (line_text one ++ flat_map line_text lines))) in_order
    ∙ ap (λ (bytes : List ℕ). line_text first ++ (line_text pool ++ (line_text one ++ bytes))) rest
  where
    in_order : (ms ++ ((other ∷ ns) ++ [])) ++ (end ∷ []) ≡ ms ++ (other ∷ (ns ++ (end ∷ [])))
    in_order = append_assoc ms ((other ∷ ns) ++ []) (end ∷ []) ∙ ap (λ (lines : List Line). ms ++ (other ∷ (lines ++ (end ∷ [])))) (append-nil ns)

    rest : flat_map line_text (ms ++ (other ∷ (ns ++ (end ∷ [])))) ≡ flat_map line_text ms ++ (line_text other ++ (flat_map line_text ns ++ line_text end))
    rest =
        flat_map-append line_text ms (other ∷ (ns ++ (end ∷ [])))
        ∙ ap (λ (bytes : List ℕ). flat_map line_text ms ++ (line_text other ++ bytes))
        (flat_map-append line_text ns (end ∷ []) ∙ ap (λ (bytes : List ℕ). flat_map line_text ns ++ bytes) (append-nil (line_text end)))

-- a line of a word and numbers
numbers_are : (word : List ℕ) (numbers : List ℕ) → join_with_byte 32 (word ∷ map decimal numbers) ++ (10 ∷ []) ≡ numbers_line word numbers
numbers_are word [] = refl
numbers_are word (n ∷ numbers) =
    append_assoc word (32 ∷ join_with_byte 32 (decimal n ∷ map decimal numbers)) (10 ∷ [])
    ∙ ap (λ (bytes : List ℕ). word ++ (32 ∷ bytes))
    (numbers_are (decimal n) numbers ∙ sym (append_assoc (decimal n) (flat_map (λ (k : ℕ). 32 ∷ decimal k) numbers) (10 ∷ [])))

-- the map lines of virtual blocks
map_texts : (f : ℕ → Mapping) (line : ℕ → List ℕ) → ((v : ℕ) → line_text (map_line (run_of (f v))) ≡ line v) → (vs : List ℕ)
    → flat_map line_text (map map_line (map run_of (map f vs))) ≡ flat_map line vs
map_texts f line each [] = refl
map_texts f line each (v ∷ vs) =
    ap (λ (bytes : List ℕ). bytes ++ flat_map line_text (map map_line (map run_of (map f vs)))) (each v)
    ∙ ap (λ (bytes : List ℕ). line v ++ bytes) (map_texts f line each vs)

device_map_is : (v : ℕ) → line_text (map_line (run_of (device_mapping v))) ≡ device_map v
device_map_is v = numbers_are (codes "map") (v ∷ 2 * v ∷ 1 ∷ 0 ∷ [])

snapshot_map_is : (v : ℕ) → line_text (map_line (run_of (snapshot_mapping v))) ≡ snapshot_map v
snapshot_map_is v = elim (cases_Bool (nat_eq (v % 200) 0)) [
  | inl e ↦ rw e (numbers_are (codes "map") (v ∷ (2 * v + 1) ∷ 1 ∷ 1 ∷ []))
  | inr e ↦ rw e (device_map_is v)
]

-- the bytes of the lines of the pool, and of a device
abbrev pool_text : ℕ → List ℕ
pool_text number = numbers_line (codes "pool 00000000-0000-0000-0000-000000000000") (1 ∷ 2 ∷ 128 ∷ 10000 * number ∷ [])

abbrev device_text : ℕ → ℕ → List ℕ
device_text number id = numbers_line (codes "device") (id ∷ generated_mapped number ∷ id ∷ id ∷ 1 ∷ [])

device_line_is : (number id : ℕ) → line_text (device_line (details_with number id)) ≡ device_text number id
device_line_is number id = numbers_are (codes "device") (id ∷ generated_mapped number ∷ id ∷ id ∷ 1 ∷ [])

zero_uuid : hyphenated_text lower (replicate 16 0) ≡ codes "00000000-0000-0000-0000-000000000000"
unfolding by_index
zero_uuid = refl

pool_line_is : (number : ℕ) → line_text (pool_line (generated_head number)) ≡ pool_text number
pool_line_is number =
    let numbers = 1 ∷ 2 ∷ 128 ∷ 10000 * number ∷ [] in
    ap (λ (bytes : List ℕ). codes "pool " ++ bytes) (numbers_are (hyphenated_text lower (replicate 16 0)) numbers)
    ∙ ap (λ (bytes : List ℕ). codes "pool " ++ numbers_line bytes numbers) zero_uuid

all_same : {a b c d e f g a' b' c' d' e' f' g' : List ℕ} → a ≡ a' → b ≡ b' → c ≡ c' → d ≡ d' → e ≡ e' → f ≡ f' → g ≡ g'
    → a ++ (b ++ (c ++ (d ++ (e ++ (f ++ g))))) ≡ a' ++ (b' ++ (c' ++ (d' ++ (e' ++ (f' ++ g')))))
all_same same_a same_b same_c same_d same_e same_f same_g = cc

pub text_is : (number : ℕ) → generated_text number ≡ text_of_lines thin (generated_lines number)
unfolding generated_text generated_pool
text_is number =
    let vs = range_with_len 0 (generated_mapped number) in
    sym (two_devices first_line (pool_line (generated_head number)) (device_line (details_with number 0)) (device_line (details_with number 1)) end_line
    (map map_line (map run_of (map device_mapping vs))) (map map_line (map run_of (map snapshot_mapping vs)))
    ∙ all_same {a' = line_text first_line} {b' = pool_text number} {c' = device_text number 0} {d' = flat_map device_map vs} {e' = device_text number 1} {f' = flat_map snapshot_map vs} {g' = line_text end_line}
    refl (pool_line_is number) (device_line_is number 0) (map_texts device_mapping device_map device_map_is vs)
    (device_line_is number 1) (map_texts snapshot_mapping snapshot_map snapshot_map_is vs) refl)

pub generated_means : (number : ℕ) → number ≤ 10000 → MeansPool (generated_lines number) (generated_pool number)
unfolding generated_pool
generated_means number few = record {
  parts = map part_of (generated_pool number).devices;
  lines_are = refl;
  devices = rw (same_device (generated_device number 0 device_mapping), same_device (generated_device number 1 snapshot_mapping)) refl;
  runs = (
    have_mappings (map device_mapping (range_with_len 0 (generated_mapped number))),
    (have_mappings (map snapshot_mapping (range_with_len 0 (generated_mapped number))), tt),
  );
  lawful = pool_lawful number few;
}

pub generated_spells : (number : ℕ) → number ≤ 10000 → SpellsPool (generated_text number) (generated_pool number)
generated_spells number few = record { lines = generated_lines number; bytes = text_is number; means = generated_means number few }

-- The text of the generator's lines.

all_lines : (number : ℕ) → first_line ∷ (lines_from number Pool ++ (end_line ∷ [])) ≡ generated_lines number
unfolding generated_pool
all_lines number =
    rw (sub-zero (generated_mapped number), append-nil (map map_line (map run_of (map snapshot_mapping (range_with_len 0 (generated_mapped number)))))) refl

-- a text that has all lines left
pub all_left : (number : ℕ) (lines : List Line) → lines ≡ lines_from number Pool → text_of_lines thin (first_line ∷ (lines ++ (end_line ∷ []))) ≡ generated_text number
all_left number lines all =
    ap (λ (lines : List Line). text_of_lines thin (first_line ∷ (lines ++ (end_line ∷ [])))) all
    ∙ (ap (text_of_lines thin) (all_lines number) ∙ sym (text_is number))
