-- Tests of lists and of ranges that say the same.
use Rattle.std.proofs.Common.{◌≡◌, inl, inr, ℕ, zero, suc, ◌+◌, ◌<◌, ◌≤◌, Bool, true, false, ◌&&◌, ◌||◌, cond, nat_eq, List, [], ◌∷◌, filter, refl, sym, ◌∙◌, ap, eq-eqb, arith, drop, map, Some}
use Rattle.std.specs.List.{list_any, range_with_len, count_by, slice_get}
use Rattle.std.proofs.lemmas.Bool.{or_cases, or_left, or_right, and_parts, and_from, eqb-true}
use Rattle.std.proofs.Math.Bool.{or_assoc, or_comm, or-false}
use Rattle.std.proofs.lemmas.List.{drop_more}
use Rattle.std.proofs.lemmas.List.Sums.{sum_by-append}
use Rattle.std.proofs.lemmas.Option.{get_or_from_slice_get, slice_get_within}
use Rattle.pd_kinds.proofs.NumberLemmas.{same_test}
use Rattle.pd_kinds.proofs.PathLemmas.{passing_below, passes_below}
use Rattle.pd_kinds.specs.Graph.{Edge, pair}
use Rattle.pd_graph.specs.Marks.{is_in, Follows, seen_of}
use Rattle.pd_graph.specs.declared.marks.Marks.{Marks}

-- tests that agree below n agree on whether any number passes
pub any_same : (f g : ℕ → Bool) (n : ℕ) → ((q : ℕ) → q < n → g q ≡ f q) → list_any g (range_with_len 0 n) ≡ list_any f (range_with_len 0 n)
any_same f g n same =
    same_test _ _
    (λ e. let at = passing_below g n e in passes_below f n at.0 at.1 (sym (same at.0 at.1) ∙ at.2))
    (λ e. let at = passing_below f n e in passes_below g n at.0 at.1 (same at.0 at.1 ∙ at.2))

-- a test that gains one number below n passes also if this one does
pub any_more : (f g bad : ℕ → Bool) (n role : ℕ) → role < n → ((q : ℕ) → q < n → g q ≡ (f q || nat_eq q role))
    → list_any (λ q. g q && bad q) (range_with_len 0 n) ≡ (list_any (λ q. f q && bad q) (range_with_len 0 n) || bad role)
any_more f g bad n role small gains =
    let old = λ (q : ℕ). f q && bad q in
    let new = λ (q : ℕ). g q && bad q in
    same_test _ _
    (λ e.
    let at = passing_below new n e in
    let parts = and_parts (g at.0) (bad at.0) at.2 in
    elim (or_cases (f at.0) (nat_eq at.0 role) (sym (gains at.0 at.1) ∙ parts.0)) [
      | inl before ↦ or_left (list_any old (range_with_len 0 n)) (bad role) (passes_below old n at.0 at.1 (and_from (f at.0) (bad at.0) before parts.1))
      | inr same ↦ or_right (list_any old (range_with_len 0 n)) (bad role) (ap bad (sym (eqb-true at.0 role same)) ∙ parts.1)
    ])
    (λ e. elim (or_cases (list_any old (range_with_len 0 n)) (bad role) e) [
      | inl before ↦
          let at = passing_below old n before in
          let parts = and_parts (f at.0) (bad at.0) at.2 in
          passes_below new n at.0 at.1 (and_from (g at.0) (bad at.0) (gains at.0 at.1 ∙ or_left (f at.0) (nat_eq at.0 role) parts.0) parts.1)
      | inr broken ↦
          passes_below new n role small (and_from (g role) (bad role) (gains role small ∙ or_right (f role) (nat_eq role role) (eq-eqb role role refl)) broken)
    ])

-- tests that agree from a on keep the same numbers
same_kept_from : (f g : ℕ → Bool) (a n : ℕ) → ((q : ℕ) → a ≤ q → q < a + n → g q ≡ f q) → filter g (range_with_len a n) ≡ filter f (range_with_len a n)
same_kept_from f g a zero same = refl
same_kept_from f g a (suc n) same =
    let first = same a (omega arith) (omega arith) in
    let rest = same_kept_from f g (a + 1) n (λ q low high. same q (omega arith) (omega arith)) in
    ap (λ (b : Bool). cond b (a ∷ filter g (range_with_len (a + 1) n)) (filter g (range_with_len (a + 1) n))) first
    ∙ ap (λ (kept : List ℕ). cond (f a) (a ∷ kept) kept) rest

pub same_kept : (f g : ℕ → Bool) (n : ℕ) → ((q : ℕ) → q < n → g q ≡ f q) → filter g (range_with_len 0 n) ≡ filter f (range_with_len 0 n)
same_kept f g n same = same_kept_from f g 0 n (λ q low high. same q (omega arith))

any_first : (t : ℕ → Bool) (b : Bool) (x : ℕ) (kept : List ℕ) (m : Bool) → list_any t kept ≡ m → list_any t (cond b (x ∷ kept) kept) ≡ ((b && t x) || m)
any_first t true x kept m e = ap (λ (y : Bool). t x || y) e
any_first t false x kept m e = e

-- whether any number that is kept passes
pub any_kept : (t f : ℕ → Bool) (xs : List ℕ) → list_any t (filter f xs) ≡ list_any (λ x. f x && t x) xs
any_kept t f [] = refl
any_kept t f (x ∷ xs) = any_first t (f x) x (filter f xs) _ (any_kept t f xs)

-- where nothing passes
pub none_passes : (f : ℕ → Bool) (xs : List ℕ) → ((q : ℕ) → f q ≡ false) → list_any f xs ≡ false
none_passes f [] none = refl
none_passes f (x ∷ xs) none = rw (none x, none_passes f xs none) refl

-- The edges of a block, one after another.

-- no edge was followed
pub follows_none : (marks : Marks) → Follows [] marks marks
follows_none marks = record {
  places = λ nr places. places;
  seen = λ p. sym (or-false (is_in (seen_of marks) p));
  read = refl;
  counts = λ b. omega arith;
}

-- the edges from one on
pub edges_from : (edges : List Edge) (i k : ℕ) (e : Edge) → k + 1 ≡ i → slice_get edges k ≡ Some e → drop k edges ≡ e ∷ drop i edges
edges_from edges i k e next found =
    drop_more edges k e (slice_get_within edges k e found)
    ∙ (ap (λ (x : Edge). x ∷ drop (k + 1) edges) (get_or_from_slice_get edges k e e found)
    ∙ ap (λ (from : ℕ). e ∷ drop from edges) next)

-- an edge that is followed last, and stands before the others
pub follows_before : (e : Edge) (others : List Edge) (a b c : Marks) → Follows others a b → Follows (e ∷ []) b c → Follows (e ∷ others) a c
follows_before e others a b c first second = record {
  places = λ nr places. second.places nr (first.places nr places);
  seen = λ p.
      let here = nat_eq (pair e.block e.role) p in
      let rest = list_any (λ t. nat_eq t p) (map (λ (edge : Edge). pair edge.block edge.role) others) in
      second.seen p ∙ (ap (λ (x : Bool). x || (here || false)) (first.seen p)
      ∙ (or_assoc (is_in (seen_of a) p) rest (here || false)
      ∙ ap (λ (x : Bool). is_in (seen_of a) p || x) (or_comm rest (here || false) ∙ ap (λ (x : Bool). x || rest) (or-false here))));
  read = second.read ∙ first.read;
  counts = λ place.
      let now = second.counts place in
      let before = first.counts place in
      let test = λ (r : ℕ). nat_eq r place in
      let to = λ (edge : Edge). edge.block in
      let joined : count_by test (map to (e ∷ others)) ≡ count_by test (map to (e ∷ [])) + count_by test (map to others) =
      sum_by-append (λ (r : ℕ). cond (test r) 1 0) (e.block ∷ []) (map to others) in
      omega arith;
}
