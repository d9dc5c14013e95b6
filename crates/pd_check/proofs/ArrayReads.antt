-- How many blocks are read, height after height.
use Rattle.std.proofs.Common.{◌≡◌, inl, inr, ℕ, zero, suc, ◌+◌, ◌-◌, ◌≤◌, Bool, true, false, ◌&&◌, cond, nat_eq, nat_lt, [], ◌∷◌, ◌++◌, refl, sym, ap, subst, ◌∙◌, arith, eq-eqb, add-one}
use Rattle.std.specs.List.{count_by, range_with_len}
use Rattle.std.proofs.lemmas.Bool.{cases_eq, cases_lt, lt-ltb, le-ltb, ne_eqb}
use Rattle.std.proofs.lemmas.List.Sums.{sum_by-append}
use Rattle.pd_graph.specs.declared.audit.Audit.{Audit}
use Rattle.pd_graph.specs.Audit.{blocks_of, note_at, roles_at, KeepsButRules}
use Rattle.pd_graph.specs.Marks.{has_bit}
use Rattle.pd_graph.proofs.BitLemmas.{range_more}
use Rattle.pd_check.specs.Refs.{number_in}
use Rattle.pd_check.proofs.RefsLemmas.{number_more, number_none}
use Rattle.pd_check.specs.declared.array_rules.ArrayRoles.{ArrayRoles}
use Rattle.pd_check.specs.Arrays.{kind_reads, is_at, is_under, number_where}

-- one number more
pub where_more : (f : ℕ → Bool) (n : ℕ) → number_where f (n + 1) ≡ number_where f n + cond (f n) 1 0
unfolding number_where
where_more f n =
    let more : range_with_len 0 (n + 1) ≡ range_with_len 0 n ++ (n ∷ []) = rw (add-one n) (range_more 0 n n (omega arith)) in
    ap (count_by f) more ∙ sum_by-append (λ k. cond (f k) 1 0) (range_with_len 0 n) (n ∷ []) ∙ omega arith

pub where_zero : (f : ℕ → Bool) → number_where f 0 ≡ 0
unfolding number_where
where_zero f = refl

where_grows : (f : ℕ → Bool) (n k : ℕ) → number_where f n ≤ number_where f (n + k)
where_grows f n zero = let same : n + 0 ≡ n = omega arith in rw same (omega arith)
where_grows f n (suc k) =
    let next : n + suc k ≡ n + k + 1 = omega arith in
    rw next (omega (arith, where_more f (n + k), where_grows f n k))

-- a test that passes wherever another does, for one number
fewer_one : (a b : Bool) → (a ≡ true → b ≡ true) → cond a 1 0 ≤ cond b 1 0
fewer_one true b more = rw (more refl) (omega arith)
fewer_one false true more = omega arith
fewer_one false false more = omega arith

pub where_fewer : (f g : ℕ → Bool) (n : ℕ) → ((b : ℕ) → f b ≡ true → g b ≡ true) → number_where f n ≤ number_where g n
where_fewer f g zero more = omega (arith, where_zero f, where_zero g)
where_fewer f g (suc n) more =
    let next : suc n ≡ n + 1 = omega arith in
    rw next (omega (arith, where_more f n, where_more g n, where_fewer f g n more, fewer_one (f n) (g n) (more n)))

-- the heights up to one are the lower ones and that one
level_one : (met : Bool) (h height : ℕ) → cond (met && nat_lt h (height + 1)) 1 0 ≡ cond (met && nat_lt h height) 1 0 + cond (met && nat_eq h height) 1 0
level_one false h height = refl
level_one true h height = elim (cases_lt h height) [
  | inl less ↦ rw (lt-ltb h (height + 1) (omega arith), lt-ltb h height less, ne_eqb h height (λ e. omega arith)) refl
  | inr more ↦ elim (cases_eq h height) [
    | inl same ↦ rw (lt-ltb h (height + 1) (omega arith), le-ltb h height more, eq-eqb h height same) refl
    | inr ne ↦ rw (le-ltb h (height + 1) (omega arith), le-ltb h height more, ne_eqb h height ne) refl
  ]
]

pub where_level : (audit : Audit) (role height n : ℕ) → number_where (is_under audit role (height + 1)) n
    ≡ number_where (is_under audit role height) n + number_where (is_at audit role height) n
where_level audit role height zero =
    omega (arith, where_zero (is_under audit role (height + 1)), where_zero (is_under audit role height), where_zero (is_at audit role height))
where_level audit role height (suc n) =
    let next : suc n ≡ n + 1 = omega arith in
    rw next (omega (
      arith,
      where_more (is_under audit role (height + 1)) n,
      where_more (is_under audit role height) n,
      where_more (is_at audit role height) n,
      where_level audit role height n,
      level_one (has_bit (roles_at audit n) role) (note_at audit n).height height,
    ))

-- those of all heights are no more than those in the role
met_of : (met other : Bool) → (met && other) ≡ true → met ≡ true
met_of true other both = refl
met_of false other both = both

pub in_role : (audit : Audit) (role n : ℕ) → number_where (λ b. has_bit (roles_at audit b) role) n ≡ number_in audit role n
unfolding number_where number_in
in_role audit role n = refl

pub where_in : (audit : Audit) (role height n : ℕ) → number_where (is_under audit role height) n ≤ number_in audit role n
where_in audit role height n =
    let fewer = where_fewer (is_under audit role height) (λ b. has_bit (roles_at audit b) role) n
    (λ b under. met_of (has_bit (roles_at audit b) role) (nat_lt (note_at audit b).height height) under) in
    omega (arith, fewer, in_role audit role n)

-- one block was read where it is at the height, and none elsewhere
pub read_one : (f : ℕ → Bool) (b old new : ℕ) → f b ≡ true → new ≤ old + 1 → new + number_where f b ≤ old + number_where f (b + 1)
read_one f b old new at reads = omega (arith, where_more f b ∙ ap (λ (t : Bool). number_where f b + cond t 1 0) at)

pub read_none : (f : ℕ → Bool) (b old : ℕ) → old + number_where f b ≤ old + number_where f (b + 1)
read_none f b old = omega (arith, where_more f b)

-- up to the last block
pub where_all : (f : ℕ → Bool) (n m : ℕ) → n ≤ m → number_where f n ≤ number_where f m
where_all f n m less =
    let all : n + (m - n) ≡ m = omega arith in
    subst (λ (k : ℕ). number_where f n ≤ number_where f k) all (where_grows f n (m - n))

-- rules that are added change no number
pub number_stays : (old new : Audit) (role n : ℕ) → KeepsButRules old new → number_in new role n ≡ number_in old role n
number_stays old new role zero kept = number_none new role ∙ sym (number_none old role)
number_stays old new role (suc n) kept =
    let next : suc n ≡ n + 1 = omega arith in
    rw next (number_more new role n
    ∙ (ap (λ (m : ℕ). m + cond (has_bit (roles_at new n) role) 1 0) (number_stays old new role n kept)
    ∙ (ap (λ (r : ℕ). number_in old role n + cond (has_bit r role) 1 0) (kept.roles n) ∙ sym (number_more old role n))))

pub kind_stays : (old new : Audit) (roles : ArrayRoles) → KeepsButRules old new → kind_reads new roles ≡ kind_reads old roles
kind_stays old new roles kept =
    ap (number_in new roles.nodes) kept.number ∙ number_stays old new roles.nodes (blocks_of old) kept
