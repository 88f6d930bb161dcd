-- The leaves of a flat net as those of one list of leaves and roles, and what one more of these adds.
use Rattle.std.proofs.Common.{◌≡◌, ℕ, suc, ◌+◌, List, [], ◌∷◌, ◌++◌, length, refl, sym, ap, ◌∙◌, arith, append_assoc, append-nil, length-append}
use Rattle.std.specs.Prelude.{nat_lt}
use Rattle.std.specs.List.{zip}
use Rattle.fir_net.specs.declared.leaf.Leaf.{Leaf}
use Rattle.fir_net.specs.declared.node.Node.{Node}
use Rattle.fir_whens.specs.declared.net_role.NetRole.{NetRole}
use Rattle.fir_flatten.specs.declared.design_net.DesignLeaf.{DesignLeaf}
use Rattle.fir_flatten.specs.working.FlatRoles.{added_behind, added_by, flat_leaf_of, flat_leaves_of}
use denote.Ref.{Bor}

-- a leaf of a design with its role
abbrev pub Given : Type 0
Given = DesignLeaf × NetRole

abbrev pub given : DesignLeaf × Bor NetRole → Given
given p = (p.0, p.1.now)

module _ (places : List ℕ) (ports : ℕ) where
  abbrev leaves_over : ℕ → List Given → ℕ → List Leaf
  leaves_over x [] count = []
  leaves_over x (g ∷ gs) count = flat_leaf_of places g.0 (nat_lt x ports) g.1 count ∷ leaves_over (suc x) gs (count + length (added_by places g.1 count))

  abbrev nodes_over : List Given → ℕ → List Node
  nodes_over [] count = []
  nodes_over (g ∷ gs) count = added_by places g.1 count ++ nodes_over gs (count + length (added_by places g.1 count))

  leaves_zipped : (x : ℕ) (ls : List DesignLeaf) (rs : List NetRole) (count : ℕ) → leaves_over x (zip ls rs) count ≡ flat_leaves_of places ports x ls rs count
  leaves_zipped x [] rs count = refl
  leaves_zipped x (l ∷ ls) [] count = refl
  leaves_zipped x (l ∷ ls) (r ∷ rs) count =
      ap (λ (rest : List Leaf). flat_leaf_of places l (nat_lt x ports) r count ∷ rest) (leaves_zipped (suc x) ls rs (count + length (added_by places r count)))

  nodes_zipped : (ls : List DesignLeaf) (rs : List NetRole) (count : ℕ) → nodes_over (zip ls rs) count ≡ added_behind places ls rs count
  nodes_zipped [] rs count = refl
  nodes_zipped (l ∷ ls) [] count = refl
  nodes_zipped (l ∷ ls) (r ∷ rs) count =
      ap (λ (rest : List Node). added_by places r count ++ rest) (nodes_zipped ls rs (count + length (added_by places r count)))

  leaves_push : (x : ℕ) (gs : List Given) (g : Given) (count : ℕ)
      → leaves_over x (gs ++ g ∷ []) count
      ≡ leaves_over x gs count ++ flat_leaf_of places g.0 (nat_lt (x + length gs) ports) g.1 (count + length (nodes_over gs count)) ∷ []
  leaves_push x [] g count =
      let here : x + 0 ≡ x = omega arith in
      let all : count + 0 ≡ count = omega arith in
      rw (here, all) refl
  leaves_push x (f ∷ gs) g count =
      let here : suc x + length gs ≡ x + suc (length gs) = omega arith in
      let own = added_by places f.1 count in
      let rest = nodes_over gs (count + length own) in
      let all : count + length own + length rest ≡ count + length (own ++ rest) = omega (arith, length-append own rest) in
      ap (λ (more : List Leaf). flat_leaf_of places f.0 (nat_lt x ports) f.1 count ∷ more)
      (leaves_push (suc x) gs g (count + length own)
      ∙ ap (λ (y : ℕ). leaves_over (suc x) gs (count + length own) ++ flat_leaf_of places g.0 (nat_lt y ports) g.1 (count + length own + length rest) ∷ []) here
      ∙ ap (λ (n : ℕ). leaves_over (suc x) gs (count + length own) ++ flat_leaf_of places g.0 (nat_lt (x + suc (length gs)) ports) g.1 n ∷ []) all)

  nodes_push : (gs : List Given) (g : Given) (count : ℕ)
      → nodes_over (gs ++ g ∷ []) count ≡ nodes_over gs count ++ added_by places g.1 (count + length (nodes_over gs count))
  nodes_push [] g count = let all : count + 0 ≡ count = omega arith in rw all (append-nil (added_by places g.1 count))
  nodes_push (f ∷ gs) g count =
      let own = added_by places f.1 count in
      let rest = nodes_over gs (count + length own) in
      let all : count + length own + length rest ≡ count + length (own ++ rest) = omega (arith, length-append own rest) in
      ap (λ (more : List Node). own ++ more)
      (nodes_push gs g (count + length own) ∙ ap (λ (n : ℕ). rest ++ added_by places g.1 n) all)
      ∙ sym (append_assoc own rest (added_by places g.1 (count + length (own ++ rest))))

  length-leaves : (x : ℕ) (gs : List Given) (count : ℕ) → length (leaves_over x gs count) ≡ length gs
  length-leaves x [] count = refl
  length-leaves x (g ∷ gs) count = ap suc (length-leaves (suc x) gs (count + length (added_by places g.1 count)))

  -- the leaves of so many, behind these nodes
  pub record SoFar (old new : List Node) (gs : List Given) (leaves : List Leaf) : Type 0 where
    pub are : leaves ≡ leaves_over 0 gs (length old)
    pub nodes : new ≡ old ++ nodes_over gs (length old)

  pub so_far_none : (old : List Node) → SoFar old old [] []
  so_far_none old = record { are = refl; nodes = sym (append-nil old) }

  pub so_far_more : (old middle new : List Node) (gs : List Given) (g : Given) (leaves : List Leaf) (l : Leaf) → SoFar old middle gs leaves
      → l ≡ flat_leaf_of places g.0 (nat_lt (length leaves) ports) g.1 (length middle) → new ≡ middle ++ added_by places g.1 (length middle)
      → SoFar old new (gs ++ g ∷ []) (leaves ++ l ∷ [])
  so_far_more old middle new gs g leaves l so is grown =
      let start = length old in
      let rest = nodes_over gs start in
      let long : length leaves ≡ 0 + length gs = ap length so.are ∙ length-leaves 0 gs start ∙ omega arith in
      let many : length middle ≡ start + length rest = ap length so.nodes ∙ length-append old rest in
      let here : l ≡ flat_leaf_of places g.0 (nat_lt (0 + length gs) ports) g.1 (start + length rest) =
      is ∙ ap (λ (y : ℕ). flat_leaf_of places g.0 (nat_lt y ports) g.1 (length middle)) long
      ∙ ap (flat_leaf_of places g.0 (nat_lt (0 + length gs) ports) g.1) many in
      record {
        are =
            ap (λ (k : Leaf). leaves ++ k ∷ []) here
            ∙ ap (λ (ls : List Leaf). ls ++ flat_leaf_of places g.0 (nat_lt (0 + length gs) ports) g.1 (start + length rest) ∷ []) so.are
            ∙ sym (leaves_push 0 gs g start);
        nodes =
            grown ∙ ap (λ (n : ℕ). middle ++ added_by places g.1 n) many
            ∙ ap (λ (ns : List Node). ns ++ added_by places g.1 (start + length rest)) so.nodes ∙ append_assoc old rest (added_by places g.1 (start + length rest))
            ∙ ap (λ (ns : List Node). old ++ ns) (sym (nodes_push gs g start));
      }

  pub all_leaves : (old new : List Node) (ls : List DesignLeaf) (rs : List NetRole) (gs : List Given) (leaves : List Leaf) → gs ≡ zip ls rs
      → SoFar old new gs leaves → leaves ≡ flat_leaves_of places ports 0 ls rs (length old)
  all_leaves old new ls rs gs leaves all so =
      so.are ∙ ap (λ (l : List Given). leaves_over 0 l (length old)) all ∙ leaves_zipped 0 ls rs (length old)

  pub all_nodes : (old new : List Node) (ls : List DesignLeaf) (rs : List NetRole) (gs : List Given) (leaves : List Leaf) → gs ≡ zip ls rs
      → SoFar old new gs leaves → new ≡ old ++ added_behind places ls rs (length old)
  all_nodes old new ls rs gs leaves all so =
      so.nodes ∙ ap (λ (l : List Given). old ++ nodes_over l (length old)) all ∙ ap (λ (ns : List Node). old ++ ns) (nodes_zipped ls rs (length old))
