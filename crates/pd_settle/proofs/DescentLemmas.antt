-- A step of the descent keeps what holds on the way.
use Rattle.std.proofs.Common.{◌≡◌, ◌≢◌, ◌⊎◌, inl, inr, ℕ, ◌+◌, ◌-◌, ◌<◌, ◌≤◌, Bool, true, false, List, [], ◌∷◌, Option, Some, IfSome, refl, sym, ◌∙◌, ap, subst, arith}
use Rattle.std.specs.List.{slice_get}
use Rattle.std.specs.Option.{unwrap_or}
use Rattle.std.proofs.lemmas.Bool.{cases_Bool, cases_eq, both_ways}
use Rattle.pd_kinds.specs.Graph.{Edge, Graph, pair, block_of}
use Rattle.pd_kinds.specs.Lawful.{KeepsLaws}
use Rattle.pd_kinds.proofs.ResultLemmas.{if_any, if_both}
use Rattle.pd_graph.specs.declared.notes.Note.{Note}
use Rattle.pd_graph.specs.declared.notes.Notes.{Notes}
use Rattle.pd_graph.specs.Format.{Contents, AreContents, IsSound}
use Rattle.pd_graph.specs.Notes.{size_of, note_in}
use Rattle.pd_graph.proofs.BitLemmas.{pair_block}
use Rattle.pd_settle.specs.Settled.{is_good_node, AreSettleable, IsGoodNote, IsOrdering, IsClosed, KeepsKnown}
use Rattle.pd_settle.specs.Looking.{blocks_of_edges, open_note, IsVerdict, Opens, Settles, Closes}
use Rattle.pd_settle.proofs.ChainLemmas.{is_among}
use Rattle.pd_settle.proofs.VerdictLemmas.{IsStack, Changes, changed_here, changed_there, stack_opened, stack_closed, AreStacked, all_opened, all_closed, IsRight, verdict_height, verdict_right}
use Rattle.pd_settle.proofs.NodeLemmas.{child_at, IsTrail}

-- what holds of the notes that stay, and of the one that is replaced
module _ (graph : Graph) (image : List (List ℕ)) (nodes fit : ℕ → Bool) (strict : Bool) (old new : ℕ → Note) (b role : ℕ) (note : Note) (within : role < 16)
    (changes : Changes b note old new) (ordering : IsOrdering graph image nodes fit strict old) (node : nodes (pair b role) ≡ true) where
  here : (p : ℕ) → block_of p ≡ b → new (block_of p) ≡ note
  here p e = ap new e ∙ changed_here b note old new changes

  height_here : (c : ℕ) → c ≡ b → (new c).height ≡ note.height
  height_here c e = ap (λ (d : ℕ). (new d).height) e ∙ ap (λ (n : Note). n.height) (changed_here b note old new changes)

  there : (c : ℕ) → c ≢ b → new c ≡ old c
  there c ne = changed_there b note old new c changes ne

  height_there : (c : ℕ) → c ≢ b → (new c).height ≡ (old c).height
  height_there c ne = ap (λ (n : Note). n.height) (there c ne)

  good_there : (p : ℕ) → block_of p ≢ b → nodes p ≡ true → 1 ≤ (new (block_of p)).height → (new (block_of p)).height ≤ 64
      → IsGoodNote graph image fit strict p (new (block_of p))
  good_there p ne is_p low high =
      let height = height_there (block_of p) ne in
      subst (λ (n : Note). IsGoodNote graph image fit strict p n) (sym (there (block_of p) ne)) (ordering.good p is_p (omega arith) (omega arith))

  bad_there : (p : ℕ) → block_of p ≢ b → nodes p ≡ true → 65 ≤ (new (block_of p)).height → (new (block_of p)).height ≢ 66
      → is_good_node graph image fit strict p ≡ false
  bad_there p ne is_p high closed =
      let height = height_there (block_of p) ne in
      ordering.bad p is_p (omega arith) (λ e. closed (height ∙ e))

  unfit_kept : (old b).height ≢ 65 → b < graph.nr → (c : ℕ) → c < graph.nr → fit c ≡ false → (new c).height ≡ 65
  unfit_kept other small c below unfit = elim (cases_eq c b) [
    | inl e ↦ absurd (other (ap (λ (d : ℕ). (old d).height) (sym e) ∙ ordering.unfit c below unfit))
    | inr ne ↦ height_there c ne ∙ ordering.unfit c below unfit
  ]

  looked_kept : (c : ℕ) → 1 ≤ (new c).height → (r : ℕ) × (r < 16) × (nodes (pair c r) ≡ true)
  looked_kept c low = elim (cases_eq c b) [
    | inl same ↦ (role, within, ap (λ (x : ℕ). nodes (pair x role)) same ∙ node)
    | inr ne ↦ let height = height_there c ne in ordering.looked c (omega arith)
  ]

  unknown_kept : 1 ≤ note.height → (c : ℕ) → (new c).height ≡ 0 → (new c).in_range ≡ true
  unknown_kept low c none = elim (cases_eq c b) [
    | inl e ↦ let height = height_here c e in absurd (omega arith)
    | inr ne ↦ ap (λ (n : Note). n.in_range) (there c ne) ∙ ordering.unknown c (sym (height_there c ne) ∙ none)
  ]

  -- the block is put on the stack
  pub ordering_opened : b < graph.nr → note.height ≡ 66 → (old b).height ≡ 0 → IsOrdering graph image nodes fit strict new
  ordering_opened small opened unknown = record {
    good = λ p is_p low high. elim (cases_eq (block_of p) b) [
      | inl e ↦ let h = height_here (block_of p) e in absurd (omega arith)
      | inr ne ↦ good_there p ne is_p low high
    ];
    bad = λ p is_p high closed. elim (cases_eq (block_of p) b) [
      | inl e ↦ absurd (closed (height_here (block_of p) e ∙ opened))
      | inr ne ↦ bad_there p ne is_p high closed
    ];
    unfit = unfit_kept (λ e. absurd (omega arith)) small;
    looked = looked_kept;
    unknown = unknown_kept (omega arith);
  }

  -- the block is settled
  pub ordering_settled : b < graph.nr → AreSettleable graph image nodes fit → 1 ≤ note.height → (old b).height ≡ 66
      → IsRight graph image fit strict (pair b role) note → IsOrdering graph image nodes fit strict new
  ordering_settled small settleable low opened right =
      let only : (p : ℕ) → nodes p ≡ true → block_of p ≡ b → p ≡ pair b role =
      λ p is_p e. settleable.alone p (pair b role) is_p node (e ∙ sym (pair_block b role within)) in
      record {
        good = λ p is_p least most. elim (cases_eq (block_of p) b) [
          | inl e ↦
              let h = height_here (block_of p) e in
              subst (λ (n : Note). IsGoodNote graph image fit strict p n) (sym (here p e))
              (subst (λ (q : ℕ). IsGoodNote graph image fit strict q note) (sym (only p is_p e)) (right.good (omega arith)))
          | inr ne ↦ good_there p ne is_p least most
        ];
        bad = λ p is_p least closed. elim (cases_eq (block_of p) b) [
          | inl e ↦
              let h = height_here (block_of p) e in
              subst (λ (q : ℕ). is_good_node graph image fit strict q ≡ false) (sym (only p is_p e)) (right.bad (omega arith))
          | inr ne ↦ bad_there p ne is_p least closed
        ];
        unfit = unfit_kept (λ e. absurd (omega arith)) small;
        looked = looked_kept;
        unknown = unknown_kept low;
      }

-- a block on the stack is fit
fit_open : (graph : Graph) (image : List (List ℕ)) (nodes fit : ℕ → Bool) (strict : Bool) (notes : ℕ → Note) (b : ℕ) → IsOrdering graph image nodes fit strict notes → b < graph.nr
    → (notes b).height ≡ 66 → fit b ≡ true
fit_open graph image nodes fit strict notes b ordering small opened = elim (cases_Bool (fit b)) [
  | inl e ↦ e
  | inr e ↦ let bad = ordering.unfit b small e in absurd (omega arith)
]

-- what holds on the way, with these blocks on the stack
pub record Descending (graph : Graph) (held : Option (List (List ℕ))) (role start : ℕ) (strict : Bool) (first now : Notes) (top : ℕ) (stack : List ℕ) : Type 0 where
  pub linked : IsStack (note_in now) graph.nr top stack
  pub are : AreStacked (note_in now) stack
  pub number : size_of now ≡ size_of first
  pub knows : KeepsKnown (note_in first) (note_in now)
  pub started : 1 ≤ (note_in now start).height
  pub told : IfSome held (λ image. (nodes fit : ℕ → Bool) → AreSettleable graph image nodes fit → IsOrdering graph image nodes fit strict (note_in first)
      → nodes (pair start role) ≡ true → IsOrdering graph image nodes fit strict (note_in now) × IsTrail graph image nodes role stack)

-- the stack is the block on top and a rest
pub with_top : (graph : Graph) (held : Option (List (List ℕ))) (role start : ℕ) (strict : Bool) (first now : Notes) (top b : ℕ) (stack : List ℕ) → top ≡ b + 1
    → Descending graph held role start strict first now top stack → (rest : List ℕ) × Descending graph held role start strict first now top (b ∷ rest)
with_top graph held role start strict first now top b [] e descending = let none = descending.linked in absurd (omega arith)
with_top graph held role start strict first now top b (c ∷ rest) e descending =
    let link = descending.linked.0 in
    let same : c ≡ b = omega arith in
    (rest, subst (λ (d : ℕ). Descending graph held role start strict first now top (d ∷ rest)) same descending)

known_changed : (b : ℕ) (note : Note) (old new : ℕ → Note) → Changes b note old new → 1 ≤ note.height → KeepsKnown old new
known_changed b note old new changes low = record {
  known = λ c some. elim (cases_eq c b) [
    | inl e ↦
        let h : (new c).height ≡ note.height = ap (λ (d : ℕ). (new d).height) e ∙ ap (λ (n : Note). n.height) (changed_here b note old new changes) in
        omega arith
    | inr ne ↦
        let h : (new c).height ≡ (old c).height = ap (λ (n : Note). n.height) (changed_there b note old new c changes ne) in
        omega arith
  ];
}

pub knows_both : (a b c : ℕ → Note) → KeepsKnown a b → KeepsKnown b c → KeepsKnown a c
knows_both a b c first second = record { known = λ d some. second.known d (first.known d some) }

-- the block of a node is sound
sound_at : (graph : Graph) (image : List (List ℕ)) (nodes fit : ℕ → Bool) (b role : ℕ) (block : List ℕ) → role < 16 → b < graph.nr → AreSettleable graph image nodes fit
    → nodes (pair b role) ≡ true → fit b ≡ true → slice_get image b ≡ Some block → IsSound graph role b block
sound_at graph image nodes fit b role block within small settleable node is_fit found =
    subst (λ (o : Option (List ℕ)). IsSound graph role b (unwrap_or o [])) found (settleable.sound b role small within node is_fit)

-- what a sound block's bytes show is what the format says of it
verdict_told : (graph : Graph) (contents : Contents) (role b : ℕ) (block : List ℕ) → AreContents graph contents → role < graph.roles → IsSound graph role b block
    → (strict : Bool) (notes : ℕ → Note) (note : Note)
    → IsVerdict graph.nr strict (contents.is_inner role block) notes (contents.keys role block) (blocks_of_edges (contents.edges role block)) note
    → IsVerdict graph.nr strict (graph.is_inner role b block) notes (graph.keys role b block) (blocks_of_edges (graph.edges role b block)) note
verdict_told graph contents role b block told known sound strict notes note verdict =
    rw (told.is_inner role b block known sound, told.keys role b block known sound, told.edges role b block known sound) verdict

module _ (graph : Graph) (contents : Contents) (held : Option (List (List ℕ))) (role start : ℕ) (strict : Bool) (first old new : Notes) (b top next : ℕ) (rest : List ℕ) (block : List ℕ)
    (within : role < 16) (read : AreContents graph contents) (known : role < graph.roles) (laws : KeepsLaws graph role b block)
    (found : IfSome held (λ image. slice_get image b ≡ Some block))
    (descending : Descending graph held role start strict first old top (b ∷ rest)) where
  opens_more : (opens : Opens graph.nr (contents.is_inner role block) (blocks_of_edges (contents.edges role block)) b old new next)
      → Descending graph held role start strict first new next (opens.child ∷ (b ∷ rest))
  opens_more opens =
      let child = opens.child in
      let changes : Changes child (open_note (b + 1)) (note_in old) (note_in new) = record { notes = opens.closes.notes } in
      let linked = descending.linked in
      let knows = known_changed child (open_note (b + 1)) (note_in old) (note_in new) changes (omega arith) in
      record {
        linked =
            subst (λ (l : ℕ). IsStack (note_in new) graph.nr l (child ∷ (b ∷ rest))) (sym opens.above)
            (stack_opened child (b + 1) (note_in old) (note_in new) graph.nr (b ∷ rest) changes opens.within opens.unknown
            (subst (λ (l : ℕ). IsStack (note_in old) graph.nr l (b ∷ rest)) linked.0 linked));
        are = all_opened child (b + 1) (note_in old) (note_in new) (b ∷ rest) changes descending.are;
        number = opens.closes.number ∙ descending.number;
        knows = knows_both (note_in first) (note_in old) (note_in new) descending.knows knows;
        started = knows.known start descending.started;
        told = if_both held
            (λ image content told nodes fit settleable ordered node.
            let before = told nodes fit settleable ordered node in
            let trail = before.1 in
            let is_fit = fit_open graph image nodes fit strict (note_in old) b before.0 linked.1 linked.2 in
            let sound = sound_at graph image nodes fit b role block within linked.1 settleable trail.0 is_fit content in
            let is_inner = read.is_inner role b block known sound ∙ opens.inner_node in
            let leads = ap (λ (edges : List Edge). is_among child (blocks_of_edges edges)) (read.edges role b block known sound) ∙ opens.leads in
            let is_under = child_at graph image b role block within (ap (λ o. unwrap_or o []) content) laws is_inner child leads in
            let is_child = settleable.closed (pair b role) (pair child role) trail.0 is_under in (
              ordering_opened graph image nodes fit strict (note_in old) (note_in new) child role (open_note (b + 1)) within changes before.0 is_child opens.within refl opens.unknown,
              (is_child, is_under, trail),
            ))
            found descending.told;
      }

  settles_more : (settles : Settles graph.nr strict (contents.is_inner role block) (contents.keys role block) (blocks_of_edges (contents.edges role block)) b old new next)
      → Descending graph held role start strict first new next rest
  settles_more settles =
      let note = settles.note in
      let changes : Changes b note (note_in old) (note_in new) = record { notes = settles.closes.notes } in
      let linked = descending.linked in
      let heights = verdict_height graph.nr strict (contents.is_inner role block) (note_in old) (contents.keys role block) (blocks_of_edges (contents.edges role block)) note settles.verdict in
      let low = heights.0 in
      let high = heights.1 in
      let knows = known_changed b note (note_in old) (note_in new) changes low in
      record {
        linked =
            subst (λ (l : ℕ). IsStack (note_in new) graph.nr l rest) (sym settles.below)
            (stack_closed b top note (note_in old) (note_in new) graph.nr rest changes linked);
        are = all_closed b note (note_in old) (note_in new) rest changes (λ e. absurd (omega arith)) descending.are;
        number = settles.closes.number ∙ descending.number;
        knows = knows_both (note_in first) (note_in old) (note_in new) descending.knows knows;
        started = knows.known start descending.started;
        told = if_both held
            (λ image content told nodes fit settleable ordered node.
            let before = told nodes fit settleable ordered node in
            let trail = before.1 in
            let is_fit = fit_open graph image nodes fit strict (note_in old) b before.0 linked.1 linked.2 in
            let sound = sound_at graph image nodes fit b role block within linked.1 settleable trail.0 is_fit content in
            let verdict = verdict_told graph contents role b block read known sound strict (note_in old) note settles.verdict in
            let right = verdict_right graph image nodes fit strict b role block within (ap (λ o. unwrap_or o []) content) laws settleable trail.0 is_fit (note_in old) before.0 rest trail descending.are note verdict in (
              ordering_settled graph image nodes fit strict (note_in old) (note_in new) b role note within changes before.0 trail.0 linked.1 settleable low linked.2 right,
              trail.2,
            ))
            found descending.told;
      }

-- a step keeps it
pub one_step : (graph : Graph) (contents : Contents) (held : Option (List (List ℕ))) (role start : ℕ) (strict : Bool) (first old new : Notes) (b top next : ℕ) (stack block : List ℕ)
    → role < 16 → AreContents graph contents → role < graph.roles → KeepsLaws graph role b block → IfSome held (λ image. slice_get image b ≡ Some block) → top ≡ b + 1
    → Descending graph held role start strict first old top stack
    → (Opens graph.nr (contents.is_inner role block) (blocks_of_edges (contents.edges role block)) b old new next
    ⊎ Settles graph.nr strict (contents.is_inner role block) (contents.keys role block) (blocks_of_edges (contents.edges role block)) b old new next)
    → (stack : List ℕ) × Descending graph held role start strict first new next stack
one_step graph contents held role start strict first old new b top next stack block within read known laws found e descending (inl opens) =
    let topped = with_top graph held role start strict first old top b stack e descending in
    (opens.child ∷ (b ∷ topped.0), opens_more graph contents held role start strict first old new b top next topped.0 block within read known laws found topped.1 opens)
one_step graph contents held role start strict first old new b top next stack block within read known laws found e descending (inr settles) =
    let topped = with_top graph held role start strict first old top b stack e descending in
    (topped.0, settles_more graph contents held role start strict first old new b top next topped.0 block within read known laws found topped.1 settles)

-- the first block is put on the stack
pub descends_start : (graph : Graph) (held : Option (List (List ℕ))) (role start : ℕ) (strict : Bool) (first now : Notes) → role < 16 → start < graph.nr
    → (note_in first start).height ≡ 0 → IsClosed (note_in first) → Closes start (open_note 0) first now
    → Descending graph held role start strict first now (start + 1) (start ∷ [])
descends_start graph held role start strict first now within small unknown closed closes =
    let changes : Changes start (open_note 0) (note_in first) (note_in now) = record { notes = closes.notes } in
    let nothing : AreStacked (note_in first) [] = record { all = λ c is_open. absurd (closed.none c is_open) } in
    let here = ap (λ (n : Note). n.height) (changed_here start (open_note 0) (note_in first) (note_in now) changes) in
    record {
      linked = stack_opened start 0 (note_in first) (note_in now) graph.nr [] changes small unknown refl;
      are = all_opened start 0 (note_in first) (note_in now) [] changes nothing;
      number = closes.number;
      knows = known_changed start (open_note 0) (note_in first) (note_in now) changes (omega arith);
      started = omega arith;
      told = if_any held (λ image nodes fit settleable ordered node.
          (ordering_opened graph image nodes fit strict (note_in first) (note_in now) start role (open_note 0) within changes ordered node small refl unknown, (node, tt, tt)));
    }

-- the block on top
pub top_block : (graph : Graph) (held : Option (List (List ℕ))) (role start : ℕ) (strict : Bool) (first now : Notes) (top : ℕ) (stack : List ℕ) → 0 < top
    → Descending graph held role start strict first now top stack → (top ≡ top - 1 + 1) × (top - 1 < graph.nr) × ((note_in now (top - 1)).height ≡ 66)
top_block graph held role start strict first now top [] some descending = let none = descending.linked in absurd (omega arith)
top_block graph held role start strict first now top (b ∷ rest) some descending =
    let link = descending.linked.0 in
    let small = descending.linked.1 in
    let same : b ≡ top - 1 = omega arith in
    (omega arith, omega arith, ap (λ (d : ℕ). (note_in now d).height) (sym same) ∙ descending.linked.2)

-- the end of the descent
pub descends_end : (graph : Graph) (held : Option (List (List ℕ))) (role start : ℕ) (strict : Bool) (first now : Notes) (top : ℕ) (stack : List ℕ) → top ≤ 0
    → Descending graph held role start strict first now top stack → IsClosed (note_in now)
descends_end graph held role start strict first now top [] none descending = record { none = λ c is_open. both_ways _ refl (descending.are.all c is_open) }
descends_end graph held role start strict first now top (b ∷ rest) none descending = let link = descending.linked.0 in absurd (omega arith)
