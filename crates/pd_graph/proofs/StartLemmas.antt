-- The start of a walk, and its end.
use Rattle.std.proofs.Common.{◌≡◌, inl, inr, ℕ, ◌+◌, ◌*◌, ◌<◌, ◌≤◌, Bool, true, false, ◌&&◌, ◌||◌, cond, nat_eq, nat_lt, get_or, List, [], ◌∷◌, map, filter, length, refl, sym, ◌∙◌, ap, subst, arith}
use Rattle.std.specs.List.{list_any, flat_map, range_with_len}
use Rattle.std.proofs.lemmas.Bool.{or_cases, or_right, eqb-true, both_ways}
use Rattle.std.proofs.lemmas.List.Sums.{sum_by-cons}
use Rattle.pd_kinds.specs.declared.rule.Rule.{Rule}
use Rattle.pd_kinds.specs.Rule.{same_rule}
use Rattle.pd_kinds.specs.Graph.{Edge, edge_of, Graph, block_at, pair, edges_of, next, is_reached, nodes, references, meta_count}
use Rattle.pd_kinds.specs.Stages.{roles_of, walk_bad}
use Rattle.pd_kinds.specs.Lawful.{IsLawful}
use Rattle.pd_kinds.specs.Paths.{IsOnPath, start, edge}
use Rattle.pd_kinds.proofs.NumberLemmas.{same_test}
use Rattle.pd_kinds.proofs.PathLemmas.{path_from_reached, reached_from_path}
use Rattle.pd_kinds.specs.declared.rule.Rule.TheVariants as r
use Rattle.pd_graph.specs.declared.marks.Marks.{Marks}
use Rattle.pd_graph.specs.Marks.{is_in, has_bit, has_several, HasPlaces, IsUnmarked, has_rule_in, seen_of, read_of, counts_of, rules_of, Follows}
use Rattle.pd_graph.specs.Walk.{IsSafe, IsTold, IsDone, read_number, edges_to}
use Rattle.pd_graph.proofs.BitLemmas.{is_in_none, is_in-pair}
use Rattle.pd_graph.proofs.Weights.{none_weigh, same_weight, count_weighs}
use Rattle.pd_graph.proofs.AnyLemmas.{any_same, same_kept, any_kept, none_passes}

-- at the start only the superblock was met
only_super : (old new : Marks) (p : ℕ) → IsUnmarked old → Follows (edge_of 0 0 ∷ []) old new → is_in (seen_of new) p ≡ true → p ≡ 0
only_super old new p unmarked follows met =
    elim (or_cases (is_in (seen_of old) p) _ (sym (follows.seen p) ∙ met)) [
      | inl before ↦ absurd (both_ways (is_in (seen_of old) p) (is_in_none (seen_of old) unmarked.seen p) before)
      | inr first ↦ elim (or_cases (nat_eq 0 p) false first) [
        | inl same ↦ sym (eqb-true 0 p same)
        | inr never ↦ absurd (both_ways false refl never)
      ]
    ]

-- and nothing was read
pub none_read : (old new : Marks) (p : ℕ) → IsUnmarked old → Follows (edge_of 0 0 ∷ []) old new → is_in (read_of new) p ≡ false
none_read old new p unmarked follows = ap (λ (table : List ℕ). is_in table p) follows.read ∙ is_in_none (read_of old) unmarked.read p

pub start_number : (nr : ℕ) (old new : Marks) → IsUnmarked old → Follows (edge_of 0 0 ∷ []) old new → read_number nr new ≡ 0
unfolding read_number
start_number nr old new unmarked follows = none_weigh (is_in (read_of new)) (λ p. 1) (16 * nr) (λ p. none_read old new p unmarked follows)

one_at_most : (b : Bool) → cond b 1 0 + 0 ≤ 1
one_at_most true = omega arith
one_at_most false = omega arith

pub start_safe : (graph : Graph) (old new : Marks) → IsLawful graph → HasPlaces graph.nr old → IsUnmarked old → Follows (edge_of 0 0 ∷ []) old new → IsSafe graph new
start_safe graph old new lawful places unmarked follows = record {
  places = follows.places graph.nr places;
  known = λ p met. let same = only_super old new p unmarked follows met in let some = lawful.some_role in omega arith;
  met = λ p read. absurd (both_ways (is_in (read_of new) p) (none_read old new p unmarked follows) read);
  room = λ b.
      let now = follows.counts b in
      let before = unmarked.counts b in
      let one = one_at_most (nat_eq 0 b) in
      omega arith;
}

pub start_told : (graph : Graph) (image : List (List ℕ)) (old new : Marks) → IsUnmarked old → Follows (edge_of 0 0 ∷ []) old new → rules_of new ≡ rules_of old
    → IsTold graph image new
start_told graph image old new unmarked follows rules = record {
  start = follows.seen 0 ∙ or_right (is_in (seen_of old) 0) _ refl;
  sound = λ p met. subst (λ (x : ℕ). IsOnPath (16 * graph.nr) (next graph image) x) (sym (only_super old new p unmarked follows met)) start;
  closed = λ p t read leads. absurd (both_ways (is_in (read_of new) p) (none_read old new p unmarked follows) read);
  counts = λ b.
      let now = follows.counts b in
      let before = unmarked.counts b in
      let none = none_weigh (is_in (read_of new)) (edges_to graph image b) (16 * graph.nr) (λ p. none_read old new p unmarked follows) in
      omega arith;
  rules = λ b wanted.
      ap (λ table. has_rule_in table b wanted) rules ∙ (unmarked.rules b wanted
      ∙ sym (none_passes (λ role. is_in (read_of new) (pair b role) && graph.bad role b (block_at image b) wanted) (range_with_len 0 16)
      (λ role. ap (λ (x : Bool). x && graph.bad role b (block_at image b) wanted) (none_read old new (pair b role) unmarked follows))));
}

-- in the end what a path leads to was met
path_met : (graph : Graph) (image : List (List ℕ)) (marks : Marks) → IsDone graph image marks → (p : ℕ) → IsOnPath (16 * graph.nr) (next graph image) p
    → is_in (seen_of marks) p ≡ true
path_met graph image marks done p start = done.told.start
path_met graph image marks done p (edge q p' small path leads) =
    done.told.closed q p' (done.all.pairs q (path_met graph image marks done q path)) leads

-- so the pairs that were met are those that are reached
pub met_reached : (graph : Graph) (image : List (List ℕ)) (marks : Marks) → IsDone graph image marks → (p : ℕ) → is_in (seen_of marks) p ≡ is_reached graph image p
unfolding is_reached
met_reached graph image marks done p =
    same_test (is_in (seen_of marks) p) _
    (λ met. reached_from_path (16 * graph.nr) (next graph image) p (done.told.sound p met))
    (λ e. path_met graph image marks done p (path_from_reached (16 * graph.nr) (next graph image) (16 * graph.nr) p e))

-- and so are those that were read
pub read_is_reached : (graph : Graph) (image : List (List ℕ)) (marks : Marks) → IsDone graph image marks → (p : ℕ) → is_in (read_of marks) p ≡ is_reached graph image p
read_is_reached graph image marks done p =
    same_test (is_in (read_of marks) p) (is_in (seen_of marks) p) (done.safe.met p) (done.all.pairs p) ∙ met_reached graph image marks done p

-- the roles in the end
pub end_roles : (graph : Graph) (image : List (List ℕ)) (marks : Marks) → IsDone graph image marks → (b role : ℕ) → role < 16
    → has_bit (get_or (seen_of marks) b 0) role ≡ is_reached graph image (pair b role)
end_roles graph image marks done b role within = sym (is_in-pair (seen_of marks) b role within) ∙ met_reached graph image marks done (pair b role)

-- the counts in the end
pub end_counts : (graph : Graph) (image : List (List ℕ)) (marks : Marks) → IsDone graph image marks → (b : ℕ)
    → get_or (counts_of marks) b 0 ≡ meta_count graph image b
unfolding meta_count references nodes edges_to
end_counts graph image marks done b =
    let test = λ (r : ℕ). nat_eq r b in
    let blocks = λ (p : ℕ). map (λ (edge : Edge). edge.block) (edges_of graph image p) in
    let now = done.told.counts b in
    let same = same_weight (is_reached graph image) (is_in (read_of marks)) (edges_to graph image b) (16 * graph.nr) (λ q small. read_is_reached graph image marks done q) in
    let joined = count_weighs (is_reached graph image) test blocks (16 * graph.nr) in
    let first = sum_by-cons (λ (r : ℕ). cond (test r) 1 0) 0 (flat_map blocks (filter (is_reached graph image) (range_with_len 0 (16 * graph.nr)))) in
    now ∙ (ap (λ (x : ℕ). cond (nat_eq 0 b) 1 0 + x) (same ∙ sym joined) ∙ sym first)

-- the rules in the end, in the roles below n
rules_below : (graph : Graph) (image : List (List ℕ)) (marks : Marks) → IsDone graph image marks → (b n : ℕ) (wanted : Rule)
    → list_any (λ role. is_in (read_of marks) (pair b role) && graph.bad role b (block_at image b) wanted) (range_with_len 0 n)
    ≡ list_any (λ role. graph.bad role b (block_at image b) wanted) (filter (λ role. is_reached graph image (pair b role)) (range_with_len 0 n))
rules_below graph image marks done b n wanted =
    let bad = λ (role : ℕ). graph.bad role b (block_at image b) wanted in
    let reached = λ (role : ℕ). is_reached graph image (pair b role) in
    any_same (λ role. reached role && bad role) (λ role. is_in (read_of marks) (pair b role) && bad role) n
    (λ role small. ap (λ (x : Bool). x && bad role) (read_is_reached graph image marks done (pair b role)))
    ∙ sym (any_kept bad reached (range_with_len 0 n))

roles_below : (graph : Graph) (image : List (List ℕ)) (marks : Marks) → IsDone graph image marks → (b n : ℕ) → n ≤ 16
    → filter (has_bit (get_or (seen_of marks) b 0)) (range_with_len 0 n) ≡ filter (λ role. is_reached graph image (pair b role)) (range_with_len 0 n)
roles_below graph image marks done b n few =
    same_kept (λ role. is_reached graph image (pair b role)) (has_bit (get_or (seen_of marks) b 0)) n
    (λ role small. end_roles graph image marks done b role (omega arith))

end_several : (graph : Graph) (image : List (List ℕ)) (marks : Marks) → IsDone graph image marks → (b : ℕ)
    → has_several (get_or (seen_of marks) b 0) ≡ nat_lt 1 (length (roles_of graph image b))
unfolding has_several roles_of
end_several graph image marks done b = ap (λ (roles : List ℕ). nat_lt 1 (length roles)) (roles_below graph image marks done b 16 (omega arith))

end_broken : (graph : Graph) (image : List (List ℕ)) (marks : Marks) → IsDone graph image marks → (b : ℕ) (wanted : Rule)
    → has_rule_in (rules_of marks) b wanted ≡ list_any (λ role. graph.bad role b (block_at image b) wanted) (roles_of graph image b)
unfolding roles_of
end_broken graph image marks done b wanted = done.told.rules b wanted ∙ rules_below graph image marks done b 16 wanted

pub end_rules : (graph : Graph) (image : List (List ℕ)) (marks : Marks) → IsDone graph image marks → (b : ℕ) (wanted : Rule)
    → (has_rule_in (rules_of marks) b wanted || (has_several (get_or (seen_of marks) b 0) && same_rule r.Role wanted)) ≡ walk_bad graph image b wanted
unfolding walk_bad
end_rules graph image marks done b wanted =
    ap (λ (x : Bool). x || (has_several (get_or (seen_of marks) b 0) && same_rule r.Role wanted)) (end_broken graph image marks done b wanted)
    ∙ ap (λ (x : Bool). list_any (λ role. graph.bad role b (block_at image b) wanted) (roles_of graph image b) || (x && same_rule r.Role wanted)) (end_several graph image marks done b)
