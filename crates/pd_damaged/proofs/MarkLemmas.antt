-- Blocks that are marked one after another, and those that are listed of them.
use Rattle.std.proofs.Common.{◌≡◌, inl, inr, ℕ, zero, suc, ◌+◌, ◌<◌, ◌≤◌, Bool, true, false, ◌&&◌, ◌||◌, not, nat_eq, nat_lt, List, filter, refl, sym, ◌∙◌, ap, ap₂, subst, arith}
use Rattle.std.specs.List.{list_any, range_with_len}
use Rattle.std.proofs.lemmas.Bool.{cases_lt, lt-ltb, le-ltb, cases_Bool}
use Rattle.pd_kinds.specs.Graph.{Graph, block_at}
use Rattle.pd_graph.specs.declared.notes.Notes.{Notes}
use Rattle.pd_graph.specs.Notes.{size_of}
use Rattle.pd_scan.specs.Lost.{AreRoots}
use Rattle.pd_damaged.specs.declared.loose.Kind.{Kind}
use Rattle.pd_damaged.specs.declared.loose.Kind.TheVariants as k
use Rattle.pd_damaged.specs.declared.marks.LooseNodes.{LooseNodes}
use Rattle.pd_answers.specs.DamagedStates.{has_child, is_details_root, is_loose_details_node, is_loose_top_node, is_topmost}
use Rattle.pd_damaged.specs.Loose.{AreDetailsRoots, AreMarked, AreTopmost, MarksMore, is_below_first, is_below_in, is_listed, is_loose_by, is_loose_in, is_noted, is_root_in, is_topmost_top, looks_loose, size_of_kind}
use Rattle.pd_damaged.proofs.PushLemmas.{any_push, listed_push}

-- nothing is marked before block 1
outside_first : (kind : Kind) (nr : ℕ) (sound : Bool) (block : List ℕ) → looks_loose kind nr sound 0 block ≡ false
outside_first k.Top nr sound block = refl
outside_first k.Details nr sound block = refl

first_not : (kind : Kind) (notes : Notes) (image : List (List ℕ)) → is_loose_by kind notes image 0 ≡ false
unfolding is_loose_by
first_not kind notes image = outside_first kind (size_of notes) (is_noted notes 0) (block_at image 0)

pub none_marked : (kind : Kind) (notes : Notes) (image : List (List ℕ)) (nodes : LooseNodes) → ((c : ℕ) → is_loose_in nodes c ≡ false)
    → ((c : ℕ) → is_below_in nodes c ≡ false) → AreMarked kind notes image 1 nodes
unfolding is_below_first
none_marked kind notes image nodes loose below = record {
  loose = λ c small. loose c ∙ sym (before c);
  below = λ c small. below c ∙ sym (under c);
}
  where
    before : (c : ℕ) → (nat_lt c 1 && is_loose_by kind notes image c) ≡ false
    before c = elim (cases_lt c 1) [
      | inl less ↦
          let is : c ≡ 0 = omega arith in
          ap₂ (λ (a b : Bool). a && b) (lt-ltb c 1 less) (ap (is_loose_by kind notes image) is ∙ first_not kind notes image)
      | inr from ↦ ap (λ (b : Bool). b && is_loose_by kind notes image c) (le-ltb c 1 from)
    ]

    both : (b : Bool) → ((b && false) || false) ≡ false
    both true = refl
    both false = refl

    under : (c : ℕ) → is_below_first kind notes image 1 c ≡ false
    under c =
        ap (λ (b : Bool). (not (nat_eq 0 c) && (b && has_child (size_of_kind kind) (block_at image 0) c)) || false) (first_not kind notes image)
        ∙ both (not (nat_eq 0 c))

or_none : (x : Bool) → (x || false) ≡ x
or_none true = refl
or_none false = refl

-- one block more
pub one_marked : (kind : Kind) (notes : Notes) (image : List (List ℕ)) (b : ℕ) (block : List ℕ) (loose : Bool) (old new : LooseNodes)
    → block_at image b ≡ block → loose ≡ looks_loose kind (size_of notes) (is_noted notes b) b block
    → MarksMore kind loose b block (size_of notes) old new → AreMarked kind notes image b old → AreMarked kind notes image (b + 1) new
unfolding is_below_first is_loose_by
one_marked kind notes image b block loose old new here is more are = record {
  loose = λ c small. more.itself c small ∙ (ap (λ (x : Bool). x || (nat_eq c b && loose)) (are.loose c small) ∙ itself c);
  below = λ c small.
      more.children c small
      ∙ (ap₂ (λ (x y : Bool). x || (not (nat_eq b c) && y)) (are.below c small)
      (ap₂ (λ (x : Bool) (bytes : List ℕ). x && has_child (size_of_kind kind) bytes c) it (sym here))
      ∙ sym (any_push (λ other. not (nat_eq other c) && (is_loose_by kind notes image other && has_child (size_of_kind kind) (block_at image other) c)) b));
}
  where
    it : loose ≡ is_loose_by kind notes image b
    it = is ∙ ap (looks_loose kind (size_of notes) (is_noted notes b) b) (sym here)

    itself : (c : ℕ) → ((nat_lt c b && is_loose_by kind notes image c) || (nat_eq c b && loose)) ≡ (nat_lt c (b + 1) && is_loose_by kind notes image c)
    itself c = elim (cases_Bool (nat_eq c b)) [
      | inl same ↦
          let equal : c ≡ b = grind (arith, same) in
          let less : nat_lt c b ≡ false = le-ltb c b (omega arith) in
          let next : nat_lt c (b + 1) ≡ true = lt-ltb c (b + 1) (omega arith) in
          ap₂ (λ (x y : Bool). (x && is_loose_by kind notes image c) || (y && loose)) less same
          ∙ (it ∙ (ap (is_loose_by kind notes image) (sym equal) ∙ ap (λ (x : Bool). x && is_loose_by kind notes image c) (sym next)))
      | inr other ↦ elim (cases_lt c b) [
        | inl less ↦
            ap₂ (λ (x y : Bool). (x && is_loose_by kind notes image c) || (y && loose)) (lt-ltb c b less) other
            ∙ (or_none (is_loose_by kind notes image c) ∙ ap (λ (x : Bool). x && is_loose_by kind notes image c) (sym (lt-ltb c (b + 1) (omega arith))))
        | inr from ↦
            let past : b + 1 ≤ c = grind (arith, other, from) in
            ap₂ (λ (x y : Bool). (x && is_loose_by kind notes image c) || (y && loose)) (le-ltb c b from) other
            ∙ ap (λ (x : Bool). x && is_loose_by kind notes image c) (sym (le-ltb c (b + 1) past))
      ]
    ]

-- tests that agree on the first numbers
any_same : (p q : ℕ → Bool) (n : ℕ) → ((x : ℕ) → x < n → p x ≡ q x) → list_any p (range_with_len 0 n) ≡ list_any q (range_with_len 0 n)
any_same p q zero each = refl
any_same p q (suc n) each =
    let more : n + 1 ≡ suc n = omega arith in
    subst (λ (j : ℕ). list_any p (range_with_len 0 j) ≡ list_any q (range_with_len 0 j)) more
    (any_push p n ∙ (ap₂ (λ (a b : Bool). a || b) (any_same p q n (λ x small. each x (omega arith))) (each n (omega arith)) ∙ sym (any_push q n)))

filter_same : (p q : ℕ → Bool) (n : ℕ) → ((x : ℕ) → x < n → p x ≡ q x) → filter p (range_with_len 0 n) ≡ filter q (range_with_len 0 n)
filter_same p q zero each = refl
filter_same p q (suc n) each =
    let more : n + 1 ≡ suc n = omega arith in
    subst (λ (j : ℕ). filter p (range_with_len 0 j) ≡ filter q (range_with_len 0 j)) more
    (listed_push q n (filter p (range_with_len 0 n)) (filter p (range_with_len 0 (n + 1))) (p n) (filter_same p q n (λ x small. each x (omega arith))) (each n (omega arith))
    (sym (listed_push p n (filter p (range_with_len 0 n)) _ (p n) refl refl refl)))

-- what looks loose by notes of the sound trees is loose
module _ (graph : Graph) (image : List (List ℕ)) (notes : Notes) (nodes : LooseNodes) (number : graph.nr ≡ size_of notes) where
  module _ (kind : Kind) (marked : AreMarked kind notes image (size_of notes) nodes) (loose : ℕ → Bool) (same : (c : ℕ) → c < size_of notes → is_loose_by kind notes image c ≡ loose c) where
    roots_are : (c : ℕ) → c < size_of notes → is_root_in nodes c ≡ (loose c && is_topmost (size_of_kind kind) loose graph.nr image c)
    unfolding is_below_first
    roots_are c small =
        ap₂ (λ (a b : Bool). a && not b)
        (marked.loose c small ∙ (ap (λ (b : Bool). b && is_loose_by kind notes image c) (lt-ltb c (size_of notes) small) ∙ same c small))
        (marked.below c small
        ∙ (any_same _ (λ other. not (nat_eq other c) && (loose other && has_child (size_of_kind kind) (block_at image other) c)) (size_of notes)
        (λ x within. ap (λ (b : Bool). not (nat_eq x c) && (b && has_child (size_of_kind kind) (block_at image x) c)) (same x within))
        ∙ ap (λ (n : ℕ). list_any (λ other. not (nat_eq other c) && (loose other && has_child (size_of_kind kind) (block_at image other) c)) (range_with_len 0 n)) (sym number)))

  tops_same : AreRoots graph image 2 notes → (c : ℕ) → c < size_of notes → is_loose_by k.Top notes image c ≡ is_loose_top_node graph image c
  unfolding is_loose_by is_loose_top_node
  tops_same are c small = ap₂ (λ (n : ℕ) (b : Bool). looks_loose k.Top n b c (block_at image c)) (sym number) (are.sound c (omega arith))

  details_same : AreRoots graph image 4 notes → (c : ℕ) → c < size_of notes → is_loose_by k.Details notes image c ≡ is_loose_details_node graph image c
  unfolding is_loose_by is_loose_details_node
  details_same are c small = ap₂ (λ (n : ℕ) (b : Bool). looks_loose k.Details n b c (block_at image c)) (sym number) (are.sound c (omega arith))

  pub tops_listed : (found : List ℕ) → AreRoots graph image 2 notes → AreMarked k.Top notes image (size_of notes) nodes
      → found ≡ filter (is_listed nodes notes false) (range_with_len 0 (size_of notes)) → AreTopmost graph image found
  tops_listed found are marked is = record {
    all =
        is
        ∙ (filter_same (is_listed nodes notes false) (is_topmost_top graph image) (size_of notes)
        (λ c small. roots_are k.Top marked (is_loose_top_node graph image) (tops_same are) c small)
        ∙ ap (λ (n : ℕ). filter (is_topmost_top graph image) (range_with_len 0 n)) (sym number));
  }

  pub details_listed : (found : List ℕ) → AreRoots graph image 4 notes → AreMarked k.Details notes image (size_of notes) nodes
      → found ≡ filter (is_listed nodes notes true) (range_with_len 0 (size_of notes)) → AreDetailsRoots graph image found
  unfolding is_details_root
  details_listed found are marked is = record {
    all =
        is
        ∙ (filter_same (is_listed nodes notes true) (is_details_root graph image) (size_of notes)
        (λ c small. ap₂ (λ (a b : Bool). a || b) (are.sound c (omega arith))
        (roots_are k.Details marked (is_loose_details_node graph image) (details_same are) c small))
        ∙ ap (λ (n : ℕ). filter (is_details_root graph image) (range_with_len 0 n)) (sym number));
  }
