-- One block more of a mapping array was met.
use Rattle.std.proofs.Common.{◌≡◌, inl, inr, ℕ, zero, suc, ◌+◌, ◌<◌, ◌≤◌, Bool, true, false, ◌||◌, cond, nat_eq, nat_lt, List, [], ◌∷◌, ◌++◌, length, None, Some, is_some, refl, sym, ap, ◌∙◌, subst, arith, append-nil, append_assoc, eq-eqb}
use Rattle.std.specs.List.{flat_map, AllByRecursion}
use Rattle.std.proofs.Math.Bool.{or-false}
use Rattle.std.proofs.lemmas.Bool.{cases_eq, cases_lt, lt-ltb, ne_eqb, or_cases, or_left, or_right}
use Rattle.std.proofs.lemmas.Grind.{flat_map-append}
use Rattle.pd_kinds.specs.Graph.{block_at}
use Rattle.pd_kinds.specs.Whole.{has_repeat}
use Rattle.pd_kinds.proofs.NumberLemmas.{same_test}
use Rattle.pd_graph.specs.declared.audit.Audit.{Audit}
use Rattle.pd_graph.specs.Audit.{blocks_of, roles_at}
use Rattle.pd_graph.specs.Marks.{has_bit}
use Rattle.pd_graph.proofs.BitLemmas.{counts_none, counts_one}
use Rattle.pd_check.specs.Refs.{number_in}
use Rattle.pd_check.specs.Arrays.{number_where}
use Rattle.pd_check.proofs.ArrayReads.{in_role, where_fewer, where_more, where_zero}
use Rattle.pd_meaning_cache.specs.declared.origin_set.OriginSet.{OriginSet}
use Rattle.pd_meaning_cache.specs.OriginSet.{AreAdded, count_of}
use Rattle.pd_meaning_cache.proofs.AddedLemmas.{count-append, count_by_repeat, count_here, repeat_behind, repeat_by_count}
use Rattle.pd_cache.specs.declared.origins.Origins.{Origins}
use Rattle.pd_cache.specs.Meeting.{AddsBlock, is_again, places_of, seen_at, AreMapBlocks, AreMet, IsFresh, IsMapBlock, IsPartMet, IsSeen, seen_number}
use Rattle.pd_cache.specs.Words.{block_origins, origins_in}

module _ (words met : List ℕ) (again : Bool) (told : has_repeat words ≡ (again || has_repeat met))
    (kept : (x : ℕ) → 1 ≤ count_of x words → 1 ≤ count_of x met) (only : (x : ℕ) → count_of x met ≤ count_of x words) (added : List ℕ) where
  -- the origins of a block that wasn't met before
  new_forward : has_repeat (words ++ added) ≡ true → (again || has_repeat (met ++ added)) ≡ true
  new_forward repeat =
      let twice = count_by_repeat (words ++ added) repeat in
      let x = twice.0 in
      let two = twice.1 in
      let there = count-append x words added in
      let here = count-append x met added in
      elim (cases_eq (count_of x added) 0) [
        | inl none ↦ elim (or_cases again (has_repeat met) (sym told ∙ repeat_by_count x words (omega arith))) [
          | inl before ↦ or_left again (has_repeat (met ++ added)) before
          | inr among ↦ or_right again (has_repeat (met ++ added)) (repeat_behind met added among)
        ]
        | inr some ↦ elim (cases_lt (count_of x added) 2) [
          | inl one ↦ let was = kept x (omega arith) in or_right again (has_repeat (met ++ added)) (repeat_by_count x (met ++ added) (omega arith))
          | inr more ↦ or_right again (has_repeat (met ++ added)) (repeat_by_count x (met ++ added) (omega arith))
        ]
      ]

  new_back : (again || has_repeat (met ++ added)) ≡ true → has_repeat (words ++ added) ≡ true
  new_back either = elim (or_cases again (has_repeat (met ++ added)) either) [
    | inl before ↦ repeat_behind words added (told ∙ or_left again (has_repeat met) before)
    | inr among ↦
        let twice = count_by_repeat (met ++ added) among in
        let two = twice.1 in
        let less = only twice.0 in
        repeat_by_count twice.0 (words ++ added) (omega (arith, count-append twice.0 words added, count-append twice.0 met added))
  ]

  pub repeats_new : has_repeat (words ++ added) ≡ (again || has_repeat (met ++ added))
  repeats_new = same_test _ _ new_forward new_back

  pub kept_new : (x : ℕ) → 1 ≤ count_of x (words ++ added) → 1 ≤ count_of x (met ++ added)
  kept_new x some = elim (cases_lt 0 (count_of x added)) [
    | inl here ↦ omega (arith, count-append x met added)
    | inr none ↦ let was = kept x (omega (arith, count-append x words added)) in omega (arith, count-append x met added)
  ]

  pub only_new : (x : ℕ) → count_of x (met ++ added) ≤ count_of x (words ++ added)
  only_new x = omega (arith, only x, count-append x met added, count-append x words added)

-- those of a block that was met before: a repeat is found where it has any
again_by : (words met added : List ℕ) (again valid : Bool) → has_repeat words ≡ (again || has_repeat met) → ((x : ℕ) → count_of x added ≤ count_of x words)
    → valid ≡ nat_lt 0 (length added) → has_repeat (words ++ added) ≡ ((again || valid) || has_repeat met)
again_by words met [] again valid told among is =
    ap has_repeat (append-nil words)
    ∙ (told ∙ sym (ap (λ (b : Bool). (again || b) || has_repeat met) is ∙ ap (λ (b : Bool). b || has_repeat met) (or-false again)))
again_by words met (x ∷ added) again valid told among is =
    let once = count_here x x added (eq-eqb x x refl) in
    let before = among x in
    repeat_by_count x (words ++ (x ∷ added)) (omega (arith, count-append x words (x ∷ added)))
    ∙ sym (or_left (again || valid) (has_repeat met) (or_right again valid (is ∙ lt-ltb 0 (length (x ∷ added)) (omega arith))))

-- the origins of one block more
origins_more : (image : List (List ℕ)) (blocks : List ℕ) (b : ℕ) → origins_in image (blocks ++ b ∷ []) ≡ origins_in image blocks ++ block_origins (block_at image b)
unfolding origins_in
origins_more image blocks b =
    flat_map-append (λ c. block_origins (block_at image c)) blocks (b ∷ [])
    ∙ ap (λ (os : List ℕ). flat_map (λ c. block_origins (block_at image c)) blocks ++ os) (append-nil (block_origins (block_at image b)))

-- a block that was seen stays seen
seen_stays : (image : List (List ℕ)) (blocks : List ℕ) (b c : ℕ) (valid : Bool) → IsSeen image blocks c valid → IsSeen image (blocks ++ b ∷ []) c valid
seen_stays image blocks b c valid seen = record {
  among = λ x.
      let less = seen.among x in
      let more = ap (count_of x) (origins_more image blocks b) ∙ count-append x (origins_in image blocks) (block_origins (block_at image b)) in
      omega arith;
  some = seen.some;
}

-- a block is met for the first time
module _ (image : List (List ℕ)) (blocks : List ℕ) (b : ℕ) (old new : Origins) (before : AreMet image blocks old) where
  words : List ℕ
  words = origins_in image blocks

  here : List ℕ
  here = block_origins (block_at image b)

  more : origins_in image (blocks ++ b ∷ []) ≡ words ++ here
  unfolding words here
  more = origins_more image blocks b

  now_seen : (c : ℕ) (valid : Bool) → seen_at new c ≡ cond (nat_eq c b) (Some (nat_lt 0 (length here))) (seen_at old c) → seen_at new c ≡ Some valid
      → IsSeen image (blocks ++ b ∷ []) c valid
  unfolding words here
  now_seen c valid sets is = elim (cases_eq c b) [
    | inl same ↦
        let some : nat_lt 0 (length here) ≡ valid =
        let told = sym sets ∙ is in
        let mine : Some (nat_lt 0 (length here)) ≡ Some valid = sym (ap (λ (t : Bool). cond t (Some (nat_lt 0 (length here))) (seen_at old c)) (eq-eqb c b same)) ∙ told in
        cc in
        subst (λ (d : ℕ). IsSeen image (blocks ++ b ∷ []) d valid) (sym same)
        (record {
          among = λ x. let all = ap (count_of x) (origins_more image blocks b) ∙ count-append x (origins_in image blocks) here in omega arith;
          some = sym some;
        })
    | inr ne ↦
        seen_stays image blocks b c valid
        (before.seen c valid (sym (sets ∙ ap (λ (t : Bool). cond t (Some (nat_lt 0 (length here))) (seen_at old c)) (ne_eqb c b ne)) ∙ is))
  ]

  pub met_first : (block : List ℕ) → block_at image b ≡ block → AddsBlock b (block_origins block) old new → AreMet image (blocks ++ b ∷ []) new
  unfolding words here
  met_first block found adds =
      let same : block_origins block ≡ here = ap block_origins (sym found) in
      let met = before.met in
      record {
        met = met ++ here;
        added = subst (λ (os : List ℕ). AreAdded (met ++ os) new.met) same (adds.met met before.added);
        repeats =
            ap has_repeat more
            ∙ (repeats_new words met (is_again old) before.repeats before.kept before.only here
            ∙ sym (ap (λ (a : Bool). a || has_repeat (met ++ here)) adds.again));
        kept = λ x some. kept_new words met (is_again old) before.repeats before.kept before.only here x (subst (λ (os : List ℕ). 1 ≤ count_of x os) more some);
        only = λ x. let less = only_new words met (is_again old) before.repeats before.kept before.only here x in omega (arith, ap (count_of x) more);
        seen = λ c valid is.
            now_seen c valid (adds.seen c ∙ ap (λ (os : List ℕ). cond (nat_eq c b) (Some (nat_lt 0 (length os))) (seen_at old c)) same) is;
      }

  -- or again
  pub met_more : (valid : Bool) → seen_at old b ≡ Some valid → is_again new ≡ (is_again old || valid) → new.met ≡ old.met → ((c : ℕ) → seen_at new c ≡ seen_at old c)
      → AreMet image (blocks ++ b ∷ []) new
  unfolding words here
  met_more valid is again kept seen =
      let known = before.seen b valid is in
      let met = before.met in
      record {
        met = met;
        added = subst (λ (set : OriginSet). AreAdded met set) (sym kept) before.added;
        repeats =
            ap has_repeat more
            ∙ (again_by words met here (is_again old) valid before.repeats known.among known.some ∙ sym (ap (λ (a : Bool). a || has_repeat met) again));
        kept = λ x some.
            let less = known.among x in
            before.kept x (omega (arith, ap (count_of x) more, count-append x words here));
        only = λ x. omega (arith, before.only x, ap (count_of x) more, count-append x words here);
        seen = λ c v has. seen_stays image blocks b c v (before.seen c v (sym (seen c) ∙ has));
      }

-- before any block was met
pub fresh_met : (image : List (List ℕ)) (origins : Origins) → IsFresh origins → AreMet image [] origins
unfolding origins_in has_repeat
fresh_met image origins fresh = record {
  met = [];
  added = fresh.added;
  repeats = sym (ap (λ (a : Bool). a || has_repeat []) fresh.again);
  kept = λ x some. absurd (omega arith);
  only = λ x. omega arith;
  seen = λ b valid is. absurd (let none = fresh.seen b in cc);
}

-- how many were met
where_same : (f g : ℕ → Bool) (n : ℕ) → ((c : ℕ) → c < n → g c ≡ f c) → number_where g n ≡ number_where f n
where_same f g zero same = where_zero g ∙ sym (where_zero f)
where_same f g (suc n) same =
    let next : suc n ≡ n + 1 = omega arith in
    rw next (where_more g n
    ∙ (ap (λ (m : ℕ). m + cond (g n) 1 0) (where_same f g n (λ c less. same c (omega arith)))
    ∙ (ap (λ (b : Bool). number_where f n + cond b 1 0) (same n (omega arith)) ∙ sym (where_more f n))))

where_one : (f g : ℕ → Bool) (b n : ℕ) → b < n → f b ≡ false → g b ≡ true → ((c : ℕ) → (c ≡ b → ⊥) → g c ≡ f c) → number_where g n ≡ number_where f n + 1
where_one f g b zero within none one others = absurd (omega arith)
where_one f g b (suc n) within none one others =
    let next : suc n ≡ n + 1 = omega arith in
    rw next (elim (cases_eq n b) [
      | inl same ↦
          let here = counts_one (g n) (ap g same ∙ one) in
          let was = counts_none (f n) (ap f same ∙ none) in
          omega (arith, where_more f n, where_more g n, where_same f g n (λ c less. others c (λ e. omega arith)))
      | inr ne ↦
          where_more g n
          ∙ (ap (λ (m : ℕ). m + cond (g n) 1 0) (where_one f g b n (omega arith) none one others)
          ∙ (ap (λ (t : Bool). number_where f n + 1 + cond t 1 0) (others n ne) ∙ omega (arith, where_more f n)))
    ])

pub seen_more : (b : ℕ) (added : List ℕ) (old new : Origins) → b < places_of old → seen_at old b ≡ None → AddsBlock b added old new → seen_number new ≡ seen_number old + 1
seen_more b added old new within unseen adds =
    ap (λ (n : ℕ). number_where (λ c. is_some (seen_at new c)) n) adds.places
    ∙ where_one (λ c. is_some (seen_at old c)) (λ c. is_some (seen_at new c)) b (places_of old) within (ap is_some unseen)
    (ap is_some (adds.seen b ∙ ap (λ (t : Bool). cond t (Some (nat_lt 0 (length added))) (seen_at old b)) (eq-eqb b b refl)))
    (λ c ne. ap is_some (adds.seen c ∙ ap (λ (t : Bool). cond t (Some (nat_lt 0 (length added))) (seen_at old c)) (ne_eqb c b ne)))

-- they are no more than the blocks in the role
pub seen_few : (audit : Audit) (origins : Origins) → places_of origins ≡ blocks_of audit → AreMapBlocks audit origins → seen_number origins ≤ number_in audit 2 (blocks_of audit)
seen_few audit origins places are =
    let fewer = where_fewer (λ c. is_some (seen_at origins c)) (λ c. has_bit (roles_at audit c) 2) (places_of origins) are.each in
    let all = ap (λ (n : ℕ). number_where (λ c. has_bit (roles_at audit c) 2) n) places in
    omega (arith, in_role audit 2 (blocks_of audit))

-- and fewer while one of these wasn't met
pub seen_fewer : (audit : Audit) (origins : Origins) (b : ℕ) → places_of origins ≡ blocks_of audit → AreMapBlocks audit origins → IsMapBlock audit b → seen_at origins b ≡ None
    → seen_number origins + 1 ≤ number_in audit 2 (blocks_of audit)
seen_fewer audit origins b places are map_block unseen =
    let f = λ (c : ℕ). is_some (seen_at origins c) in
    let g = λ (c : ℕ). cond (nat_eq c b) true (is_some (seen_at origins c)) in
    let within = map_block.within in
    let one =
    where_one f g b (places_of origins) (omega arith) (ap is_some unseen) (ap (λ (t : Bool). cond t true (f b)) (eq-eqb b b refl))
    (λ c ne. ap (λ (t : Bool). cond t true (f c)) (ne_eqb c b ne)) in
    let fewer = where_fewer g (λ c. has_bit (roles_at audit c) 2) (places_of origins) (λ c seen. elim (cases_eq c b) [
      | inl same ↦ subst (λ (d : ℕ). has_bit (roles_at audit d) 2 ≡ true) (sym same) map_block.met
      | inr ne ↦ are.each c (sym (ap (λ (t : Bool). cond t true (f c)) (ne_eqb c b ne)) ∙ seen)
    ]) in
    let all = ap (λ (n : ℕ). number_where (λ c. has_bit (roles_at audit c) 2) n) places in
    omega (arith, in_role audit 2 (blocks_of audit))

-- one block more of those that are left
middle : (P : ℕ → Type 0) (xs : List ℕ) (y : ℕ) (ys : List ℕ) → AllByRecursion P (xs ++ y ∷ ys) → P y
middle P [] y ys all = all.0
middle P (x ∷ xs) y ys all = middle P xs y ys all.1

pub part_more : (image : List (List ℕ)) (audit : Audit) (all left later : List ℕ) (b : ℕ) (old new : Origins) → AllByRecursion (IsMapBlock audit) all → left ≡ b ∷ later
    → (IsMapBlock audit b → (blocks : List ℕ) → AreMet image blocks old → AreMet image (blocks ++ b ∷ []) new)
    → IsPartMet image all left old → IsPartMet image all later new
part_more image audit all left later b old new each first meets part =
    let parts = part.parts ∙ ap (λ (bs : List ℕ). part.blocks ++ bs) first in
    record {
      blocks = part.blocks ++ b ∷ [];
      parts = parts ∙ sym (append_assoc part.blocks (b ∷ []) later);
      met = meets (middle (IsMapBlock audit) part.blocks b later (rw parts at each)) part.blocks part.met;
    }

-- none is left
pub part_end : (image : List (List ℕ)) (all left : List ℕ) (origins : Origins) → left ≡ [] → IsPartMet image all left origins → AreMet image all origins
part_end image all left origins none part =
    subst (λ (blocks : List ℕ). AreMet image blocks origins) (sym (part.parts ∙ (ap (λ (bs : List ℕ). part.blocks ++ bs) none ∙ append-nil part.blocks))) part.met
