-- What a round over the blocks finds: each low block, where all lower ones are known.
use Rattle.std.proofs.Common.{◌≡◌, inl, inr, ℕ, zero, suc, ◌+◌, ◌<◌, ◌≤◌, true, false, not, nat_eq, nat_lt, List, Option, Some, None, IfSome, IsSome, refl, sym, subst, arith}
use Rattle.std.proofs.lemmas.Bool.{cases_Bool, cases_lt, or_parts, not-false, ltb-true}
use Rattle.pd_kinds.specs.Graph.{is_outside}
use Rattle.pd_damaged.specs.declared.known.Known.{Known}
use Rattle.pd_damaged.specs.declared.table.KnownTable.{KnownTable}
use Rattle.pd_damaged.specs.declared.remains.Remains.{Remains}
use Rattle.pd_damaged.specs.Known.{AreLookedAt, AreRight, IsLookedAt, IsLow, Knows, KnowsBelow, KnowsLow}
use Rattle.pd_damaged.proofs.KnownLemmas.{known_outside}

outside_known : (remains : Remains) (b : ℕ) → is_outside remains.table.nr b ≡ true → Knows remains b
outside_known remains b outside = subst (λ (o : Option Known). IsSome o) (sym (known_outside remains.table b outside)) refl

-- what is known below a height is known below any lesser one
pub lower : (image : List (List ℕ)) (less height : ℕ) (table : KnownTable) → less ≤ height → KnowsBelow image height table → KnowsBelow image less table
lower image less height table few knows = record { each = λ b h below low. knows.each b h (omega arith) low }

-- of tables that know more
kept_below : (image : List (List ℕ)) (height : ℕ) (old new : Remains) → new.table.nr ≡ old.table.nr → ((c : ℕ) → Knows old c → Knows new c)
    → KnowsBelow image height old.table → KnowsBelow image height new.table
kept_below image height old new number keeps knows = record {
  each = λ b h below low. keeps b (knows.each b h below (subst (λ (n : ℕ). IsLow n image h b) number low));
}

-- before the first block
pub none_looked_at : (image : List (List ℕ)) (remains : Remains) → AreLookedAt image remains remains 1
none_looked_at image remains = record {
  each = λ b before h few low knows.
      let first : b ≡ 0 = omega arith in
      subst (λ (c : ℕ). Knows remains c) (sym first) (outside_known remains 0 refl);
}

-- one block more
pub more_looked_at : (image : List (List ℕ)) (start old new : Remains) (b : ℕ) → old.table.nr ≡ start.table.nr
    → ((c : ℕ) → Knows start c → Knows old c) → ((c : ℕ) → Knows old c → Knows new c)
    → AreLookedAt image start old b → IsLookedAt image old new b → AreLookedAt image start new (b + 1)
more_looked_at image start old new b number before after are is = record {
  each = λ c within h few low knows. elim (cases_lt c b) [
    | inl earlier ↦ after c (are.each c earlier h few low knows)
    | inr last ↦
        let same : b ≡ c = omega arith in
        subst (λ (x : ℕ). Knows new x) same
        (is h few (subst (λ (n : ℕ). IsLow n image h b) (sym number) (subst (λ (x : ℕ). IsLow start.table.nr image h x) (sym same) low))
        (kept_below image h start old number before knows))
  ];
}

-- where the device tells what it holds
pub right_more : (held : Option (List (List ℕ))) (start old new : Remains) → IfSome held (λ image. AreRight image start → AreRight image old)
    → IfSome held (λ image. AreRight image old → AreRight image new) → IfSome held (λ image. AreRight image start → AreRight image new)
right_more None start old new first second = tt
right_more (Some image) start old new first second = λ right. second (first right)

pub looked_more : (held : Option (List (List ℕ))) (start old new : Remains) (b : ℕ) → old.table.nr ≡ start.table.nr
    → ((c : ℕ) → Knows start c → Knows old c) → ((c : ℕ) → Knows old c → Knows new c)
    → IfSome held (λ image. AreRight image start → AreRight image old)
    → IfSome held (λ image. AreRight image start → AreLookedAt image start old b) → IfSome held (λ image. AreRight image old → IsLookedAt image old new b)
    → IfSome held (λ image. AreRight image start → AreLookedAt image start new (b + 1))
looked_more None start old new b number before after right are is = tt
looked_more (Some image) start old new b number before after right are is =
    λ first. more_looked_at image start old new b number before after (are first) (is (right first))

inside_is : (nr b : ℕ) → is_outside nr b ≡ false → b < nr
inside_is nr b inside = ltb-true b nr (not-false (nat_lt b nr) (or_parts (nat_eq b 0) (not (nat_lt b nr)) inside).1)

-- all blocks
pub all_looked_at : (image : List (List ℕ)) (old new : Remains) (n : ℕ) → new.table.nr ≡ old.table.nr → new.table.nr ≤ n → AreLookedAt image old new n
    → (height : ℕ) → height ≤ 64 → KnowsBelow image height old.table → KnowsBelow image (height + 1) new.table
all_looked_at image old new n number all are height few knows = record {
  each = λ b h below low. elim (cases_Bool (is_outside new.table.nr b)) [
    | inl outside ↦ outside_known new b outside
    | inr inside ↦
        let small = inside_is new.table.nr b inside in
        are.each b (omega arith) h (omega arith) (subst (λ (n : ℕ). IsLow n image h b) number low) (lower image h height old.table (omega arith) knows)
  ];
}

-- where that changed nothing, all low blocks are known
module _ (image : List (List ℕ)) (old new : Remains) (same : new.table ≡ old.table)
    (more : (height : ℕ) → height ≤ 64 → KnowsBelow image height old.table → KnowsBelow image (height + 1) new.table) where
  each_height : (height : ℕ) → height ≤ 65 → KnowsBelow image height old.table
  each_height zero few = record { each = λ b h below low. absurd (omega arith) }
  each_height (suc height) few =
      let next : height + 1 ≡ suc height = omega arith in
      subst (λ (n : ℕ). KnowsBelow image n old.table) next
      (subst (λ (t : KnownTable). KnowsBelow image (height + 1) t) same (more height (omega arith) (each_height height (omega arith))))

  pub still_knows_all : KnowsLow image new
  still_knows_all = subst (λ (t : KnownTable). KnowsBelow image 65 t) (sym same) (each_height 65 (omega arith))

-- nothing is known below height 0
pub none_below : (image : List (List ℕ)) (table : KnownTable) → KnowsBelow image 0 table
none_below image table = record { each = λ b h below low. absurd (omega arith) }
