-- A block more is looked at: the leaves among the pairs that were read are noted.
use Rattle.std.proofs.Common.{◌≡◌, ◌≢◌, ◌⊎◌, inl, inr, ℕ, ◌<◌, ◌≤◌, Bool, true, false, ◌||◌, cond, nat_eq, List, [], Some, refl, sym, ◌∙◌, ap, subst, arith, eq-eqb}
use Rattle.std.specs.List.{slice_get}
use Rattle.std.specs.Option.{unwrap_or}
use Rattle.std.proofs.lemmas.Bool.{or_cases, or_left, or_right, eqb-true, ne_eqb, cases_eq, both_ways}
use Rattle.pd_kinds.specs.Graph.{Graph, block_at, pair}
use Rattle.pd_graph.specs.declared.notes.Note.{Note}
use Rattle.pd_graph.specs.Notes.{no_note, ends_note}
use Rattle.pd_graph.specs.Walk.{IsLeaf, IsLeafNote, AreLeavesNoted, NotesLeaf, NotesNone}

-- nothing is noted where no pair was read
pub start_noted : (graph : Graph) (image : List (List ℕ)) (pairs : ℕ → Bool) (notes : ℕ → Note) → ((p : ℕ) → pairs p ≡ false) → ((b : ℕ) → notes b ≡ no_note)
    → AreLeavesNoted graph image pairs notes
start_noted graph image pairs notes none unknown = record {
  only = λ b. inl (unknown b);
  each = λ b role within passes leaf. absurd (both_ways (pairs (pair b role)) (none (pair b role)) passes);
}

pub none_low : (note : Note) → note ≡ no_note → note.height ≤ 1
none_low note e = let h = ap (λ (n : Note). n.height) e in omega arith

-- the same pairs
pub noted_same : (graph : Graph) (image : List (List ℕ)) (pairs others : ℕ → Bool) (notes : ℕ → Note) → ((p : ℕ) → others p ≡ pairs p)
    → AreLeavesNoted graph image pairs notes → AreLeavesNoted graph image others notes
noted_same graph image pairs others notes same noted = record {
  only = λ b. elim (noted.only b) [
    | inl none ↦ inl none
    | inr one ↦ inr (record { role = one.role; within = one.within; passes = same (pair b one.role) ∙ one.passes; leaf = one.leaf; same = one.same })
  ];
  each = λ b role within passes leaf. noted.each b role within (sym (same (pair b role)) ∙ passes) leaf;
}

-- each note stays low
pub low_more : (graph : Graph) (role b : ℕ) (block : List ℕ) (old new : ℕ → Note) → ((c : ℕ) → (old c).height ≤ 1)
    → (NotesLeaf graph role b block old new ⊎ NotesNone graph role b block old new) → (c : ℕ) → (new c).height ≤ 1
low_more graph role b block old new low (inl notes) c = elim (cases_eq c b) [
  | inl same ↦
      let h = ap (λ (n : Note). n.height) (notes.notes c ∙ ap (λ (x : Bool). cond x (ends_note (graph.keys role b block)) (old c)) (eq-eqb c b same)) in
      omega arith
  | inr ne ↦
      let h = ap (λ (n : Note). n.height) (notes.notes c ∙ ap (λ (x : Bool). cond x (ends_note (graph.keys role b block)) (old c)) (ne_eqb c b ne)) in
      let before = low c in
      omega arith
]
low_more graph role b block old new low (inr notes) c = let h = ap (λ (n : Note). n.height) (notes.notes c) in let before = low c in omega arith

-- one pair more
module _ (graph : Graph) (image : List (List ℕ)) (b role : ℕ) (pairs more : ℕ → Bool) (old new : ℕ → Note) (within : role < 16)
    (gains : (p : ℕ) → more p ≡ (pairs p || nat_eq p (pair b role))) (noted : AreLeavesNoted graph image pairs old) where
  same_pair : (c r : ℕ) → r < 16 → nat_eq (pair c r) (pair b role) ≡ true → (c ≡ b) × (r ≡ role)
  same_pair c r small e = let same = eqb-true (pair c r) (pair b role) e in (omega arith, omega arith)

  -- a note that stays
  stays : (c : ℕ) → new c ≡ old c → (new c ≡ no_note) ⊎ IsLeafNote graph image more c (new c)
  stays c e = elim (noted.only c) [
    | inl none ↦ inl (e ∙ none)
    | inr one ↦ inr (record {
      role = one.role;
      within = one.within;
      passes = gains (pair c one.role) ∙ or_left (pairs (pair c one.role)) _ one.passes;
      leaf = one.leaf;
      same = e ∙ one.same;
    })
  ]

  leaf_more : NotesLeaf graph role b (block_at image b) old new → AreLeavesNoted graph image more new
  leaf_more notes =
      let here : (c : ℕ) → c ≡ b → new c ≡ ends_note (graph.keys role b (block_at image b)) =
      λ c e. notes.notes c ∙ ap (λ (x : Bool). cond x (ends_note (graph.keys role b (block_at image b))) (old c)) (eq-eqb c b e) in
      let there : (c : ℕ) → c ≢ b → new c ≡ old c =
      λ c ne. notes.notes c ∙ ap (λ (x : Bool). cond x (ends_note (graph.keys role b (block_at image b))) (old c)) (ne_eqb c b ne) in
      record {
        only = λ c. elim (cases_eq c b) [
          | inl e ↦ inr (subst (λ (x : ℕ). IsLeafNote graph image more x (new x)) (sym e) (record {
            role = role;
            within = within;
            passes = gains (pair b role) ∙ or_right (pairs (pair b role)) _ (eq-eqb (pair b role) (pair b role) refl);
            leaf = notes.leaf;
            same = here b refl;
          }))
          | inr ne ↦ stays c (there c ne)
        ];
        each = λ c r small passes leaf. elim (cases_eq c b) [
          | inl e ↦ ap (λ (n : Note). n.height) (here c e)
          | inr ne ↦ elim (or_cases (pairs (pair c r)) (nat_eq (pair c r) (pair b role)) (sym (gains (pair c r)) ∙ passes)) [
            | inl before ↦ ap (λ (n : Note). n.height) (there c ne) ∙ noted.each c r small before leaf
            | inr same ↦ absurd (ne (same_pair c r small same).0)
          ]
        ];
      }

  none_more : NotesNone graph role b (block_at image b) old new → AreLeavesNoted graph image more new
  none_more notes = record {
    only = λ c. stays c (notes.notes c);
    each = λ c r small passes leaf. elim (or_cases (pairs (pair c r)) (nat_eq (pair c r) (pair b role)) (sym (gains (pair c r)) ∙ passes)) [
      | inl before ↦ ap (λ (n : Note). n.height) (notes.notes c) ∙ noted.each c r small before leaf
      | inr same ↦
          let e = same_pair c r small same in
          absurd (notes.none
          (subst (λ (x : ℕ). IsLeaf graph role x (block_at image x)) e.0 (subst (λ (s : ℕ). IsLeaf graph s c (block_at image c)) e.1 leaf)))
    ];
  }

pub noted_more : (graph : Graph) (image : List (List ℕ)) (b role : ℕ) (block : List ℕ) (pairs more : ℕ → Bool) (old new : ℕ → Note) → role < 16
    → slice_get image b ≡ Some block → ((p : ℕ) → more p ≡ (pairs p || nat_eq p (pair b role))) → AreLeavesNoted graph image pairs old
    → (NotesLeaf graph role b block old new ⊎ NotesNone graph role b block old new) → AreLeavesNoted graph image more new
noted_more graph image b role block pairs more old new within found gains noted (inl notes) =
    leaf_more graph image b role pairs more old new within gains noted
    (subst (λ (x : List ℕ). NotesLeaf graph role b x old new) (sym (ap (λ o. unwrap_or o []) found)) notes)
noted_more graph image b role block pairs more old new within found gains noted (inr notes) =
    none_more graph image b role pairs more old new within gains noted
    (subst (λ (x : List ℕ). NotesNone graph role b x old new) (sym (ap (λ o. unwrap_or o []) found)) notes)
