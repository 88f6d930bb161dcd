-- The processes that come at a leaf: where it is a word with a reset, the assign of the net that its reset has of its own, and the register that it shows.
use Rattle.std.proofs.Common.{◌≡◌, ℕ, List, [], ◌∷◌, ◌++◌, map, flat_map, refl, sym, ap, ◌∙◌, inl, inr, ◌⊎◌, subst, Option, Some, None}
use Rattle.std.specs.Prelude.{slice_get}
use Rattle.fir_base.specs.Lists.{In}
use Rattle.fir_base.proofs.Members.{in_flat_map, in_flat_map_from}
use Rattle.fir_net.specs.declared.leaf.Reset.{Reset}
use Rattle.fir_net.specs.declared.leaf.Role.{Role}
use Rattle.fir_net.specs.declared.leaf.Role.TheVariants as role
use Rattle.fir_net.specs.declared.leaf.Leaf.{Leaf}
use Rattle.fir_net.specs.declared.net.FlatNet.{FlatNet}
use Rattle.fir_net.specs.working.Counted.{is_register}
use Rattle.fir_net.specs.working.IsNet.{IsNet}
use Rattle.fir_net.specs.working.IsWritable.{HasNoPipes}
use Rattle.fir_net_names.specs.declared.name_table.NameTable.{NameTable}
use Rattle.fir_net_names.specs.working.IsTable.{IsTable}
use Rattle.fir_net_names.specs.working.LeafNamed.{name_at}
use Rattle.ver_ast.specs.declared.tree.Edge.{Edge}
use Rattle.ver_ast.specs.declared.tree.Resetting.{Resetting}
use Rattle.ver_ast.specs.Nets.{AlwaysBlock, resetting_block, block_reset}
use Rattle.ver_ast.specs.Processes.{Process, showing}
use Rattle.ver_build.specs.declared.places.Places.{Places}
use Rattle.ver_build.specs.working.Places.{clock_in}
use Rattle.ver_build.specs.working.Blocks.{block_on, edge_on, own_net, plain_on, resetting_on}
use Rattle.ver_build.specs.working.Built.{at_number, word_blocks}
use Rattle.ver_build.proofs.Words.{IsWord, leaf_word, named_word, block_of, block_in, register_block, word_edge}
use Rattle.ver_build.proofs.Placed.{inner_process}

abbrev pub word_shown : Places → ℕ → ℕ → List ℕ → Option Reset → Option Edge → List Process
word_shown p k w name None edge = []
word_shown p k w name (Some r) edge = map inner_process (own_net p (Some r) (name_at p.resets k)) ++ showing (resetting_on p k w name r edge) ∷ []

abbrev pub role_shown : NameTable → Places → ℕ → Role → ℕ → Option (List ℕ) → List Process
role_shown t p k (role.Register r) w (Some name) = word_shown p k w name r.reset (edge_on t p (clock_in p.leaves r.clock) w r.next name)
role_shown t p k _ w n = []

abbrev pub leaf_shown : FlatNet → NameTable → Places → ℕ → List Process
leaf_shown net t p k = at_number (λ l n. role_shown t p k l.role l.width n) t.leaves net.leaves k

-- the asynchronous block of a word with a reset
abbrev pub word_resetting : (net : FlatNet) (t : NameTable) (p : Places) (k : ℕ) → IsWord net t k → Reset → Resetting
word_resetting net t p k w r = resetting_on p k w.leaf.width w.name r (word_edge net t p k w)

no_reset : (e : Option Edge) (b : Resetting) → In (flat_map block_reset (plain_on e)) b → ⊥
no_reset None b m = m
no_reset (Some e) b m = m

module _ (net : FlatNet) (t : NameTable) (p : Places) where
  pub shown_is : (k : ℕ) (w : IsWord net t k) → leaf_shown net t p k ≡ word_shown p k w.leaf.width w.name w.own.reset (word_edge net t p k w)
  shown_is k w =
      let at = w.at in
      let named = w.named in
      rw (at, named) (ap (λ (r : Role). role_shown t p k r w.leaf.width (Some w.name)) w.register)

  -- a word with a reset
  pub record HasShown (k : ℕ) : Type 0 where
    pub among : In net.state k
    pub word : IsWord net t k
    pub reset : Reset
    pub has : word.own.reset ≡ Some reset

  -- what comes at it
  pub given_is : (k : ℕ) (w : IsWord net t k) (r : Reset) → w.own.reset ≡ Some r
      → leaf_shown net t p k ≡ map inner_process (own_net p (Some r) (name_at p.resets k)) ++ showing (word_resetting net t p k w r) ∷ []
  given_is k w r has = shown_is k w ∙ ap (λ o. word_shown p k w.leaf.width w.name o (word_edge net t p k w)) has

  -- the register and the reset of an asynchronous block
  pub record IsReset (b : Resetting) : Type 0 where
    pub number : ℕ
    pub among : In net.state number
    pub word : IsWord net t number
    pub reset : Reset
    pub has : word.own.reset ≡ Some reset
    pub is : b ≡ word_resetting net t p number word reset

  reset_on : (k : ℕ) → In net.state k → (w : IsWord net t k) → (reset : Option Reset) → w.own.reset ≡ reset → (b : Resetting)
      → In (flat_map block_reset (block_on p k w.leaf.width w.name reset (word_edge net t p k w))) b → IsReset b
  reset_on k m w None has b n = absurd (no_reset (word_edge net t p k w) b n)
  reset_on k m w (Some r) has b (inl e) = record { number = k; among = m; word = w; reset = r; has = has; is = sym e }
  reset_on k m w (Some r) has b (inr o) = absurd o

  pub resetting_in : (k : ℕ) → In net.state k → (w : IsWord net t k) → (r : Reset) → w.own.reset ≡ Some r
      → In (flat_map block_reset (word_blocks net t p)) (word_resetting net t p k w r)
  resetting_in k m w r has =
      let given : register_block net t p k w ≡ block_on p k w.leaf.width w.name (Some r) (word_edge net t p k w) =
      ap (λ o. block_on p k w.leaf.width w.name o (word_edge net t p k w)) has in
      let block = resetting_block (word_resetting net t p k w r) in
      in_flat_map block_reset (word_blocks net t p) block (word_resetting net t p k w r)
      (block_in net t p k m w block (subst (λ (bs : List AlwaysBlock). In bs block) (sym given) (inl refl))) (inl refl)

  module _ (whole : IsNet net) (table : IsTable net t) where
    pub reset_of : HasNoPipes net → (b : Resetting) → In (flat_map block_reset (word_blocks net t p)) b → IsReset b
    reset_of pipes b m =
        let from = in_flat_map_from block_reset (word_blocks net t p) b m in
        let o = block_of net t p whole table pipes from.0 from.1 in
        reset_on o.number o.among o.word o.word.own.reset refl b (in_flat_map block_reset (register_block net t p o.number o.word) from.0 b o.inside from.2)

    word_view : (k : ℕ) → In net.state k → (w : IsWord net t k) → (reset : Option Reset) → w.own.reset ≡ reset
        → (word_shown p k w.leaf.width w.name reset (word_edge net t p k w) ≡ []) ⊎ HasShown k
    word_view k m w None has = inl refl
    word_view k m w (Some r) has = inr (record { among = m; word = w; reset = r; has = has })

    role_view : (k : ℕ) (l : Leaf) (r : Role) (n : Option (List ℕ)) → slice_get net.leaves k ≡ Some l → l.role ≡ r → name_at t.leaves k ≡ n
        → (role_shown t p k r l.width n ≡ []) ⊎ HasShown k
    role_view k l (role.Register d) None at e named = inl refl
    role_view k l (role.Register d) (Some name) at e named =
        word_view k (named_word net t whole table k l name at (ap is_register e) named) (leaf_word net t whole table k l d name at e named) d.reset refl
    role_view k l _ n at e named = inl refl

    -- nothing comes at any other leaf
    pub shown_view : (k : ℕ) (l : Leaf) → slice_get net.leaves k ≡ Some l → (leaf_shown net t p k ≡ []) ⊎ HasShown k
    shown_view k l at = rw at (role_view k l l.role (name_at t.leaves k) at refl refl)
