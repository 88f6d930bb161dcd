-- The words of the state: each is a register that has bits and a name.
-- What its block is, and the net that its reset has of its own.
use Rattle.std.proofs.Common.{◌≡◌, ℕ, ◌≤◌, List, [], ◌∷◌, true, not, nat_eq, refl, sym, ap, ◌∙◌, inl, inr, subst, Option, Some, None}
use Rattle.std.specs.Prelude.{slice_get}
use Rattle.std.proofs.lemmas.Bool.{and_from, and_parts}
use Rattle.fir_base.specs.Lists.{In}
use Rattle.fir_base.proofs.Elements.{get_in}
use Rattle.fir_base.proofs.Members.{in_right, in_flat_map, in_flat_map_from}
use Rattle.fir_base.proofs.Tests.{both}
use Rattle.fir_net.specs.declared.leaf.Reset.{Reset}
use Rattle.fir_net.specs.declared.leaf.Register.{Register}
use Rattle.fir_net.specs.declared.leaf.Role.{Role}
use Rattle.fir_net.specs.declared.leaf.Role.TheVariants as role
use Rattle.fir_net.specs.declared.leaf.Leaf.{Leaf}
use Rattle.fir_net.specs.declared.net.FlatNet.{FlatNet}
use Rattle.fir_net.specs.working.Counted.{is_register}
use Rattle.fir_net.specs.working.IsNet.{is_state, IsNet}
use Rattle.fir_net.specs.working.IsWritable.{HasNoPipes}
use Rattle.fir_net_names.specs.declared.name_table.NameTable.{NameTable}
use Rattle.fir_net_names.specs.working.IsTable.{IsTable}
use Rattle.fir_net_names.specs.working.LeafNamed.{named_ports, name_at}
use Rattle.ver_ast.specs.declared.tree.Edge.{Edge}
use Rattle.ver_ast.specs.declared.tree.Rhs.TheVariants as rhs
use Rattle.ver_ast.specs.Nets.{AlwaysBlock}
use Rattle.ver_build.specs.declared.places.Places.{Places}
use Rattle.ver_build.specs.declared.right_sides.Inner.{Inner}
use Rattle.ver_build.specs.working.Operands.{atom_at}
use Rattle.ver_build.specs.working.Places.{held_of, clock_in}
use Rattle.ver_build.specs.working.Blocks.{own_net, role_net, leaf_net, edge_on, block_on, role_block}
use Rattle.ver_build.specs.working.Built.{at_number, reset_inners, word_block, word_blocks}
use Rattle.ver_build.proofs.Premises.{LeafNamed, no_pipe, register_state, some_bits, state_register}
use Rattle.ver_build.proofs.LeafKinds.{is_wire}
use Rattle.ver_build.proofs.TableLeaves.{word_leaf, leaf_named}

pub record IsWord (net : FlatNet) (t : NameTable) (k : ℕ) : Type 0 where
  pub leaf : Leaf
  pub at : slice_get net.leaves k ≡ Some leaf
  pub own : Register
  pub register : leaf.role ≡ role.Register own
  pub some : 1 ≤ leaf.width
  pub name : List ℕ
  pub named : name_at t.leaves k ≡ Some name

register_of : (r : Role) → is_register r ≡ true → (d : Register) × (r ≡ role.Register d)
register_of (role.Register d) e = (d, refl)
register_of _ e = absurd (cc)

pub named_bits : (l : Leaf) (n : Option (List ℕ)) (name : List ℕ) → LeafNamed l n → n ≡ Some name → not (nat_eq l.width 0) ≡ true
named_bits l None name h e = absurd (cc)
named_bits l (Some other) name h e = (both (not (is_wire l.role)) (not (nat_eq l.width 0)) h).1

-- a reset's own net
abbrev pub net_inner : Places → Reset → List ℕ → Inner
net_inner p r name = record { name = name; width = 1; rhs = rhs.Atom (atom_at 1 (held_of p r.condition)) }

own_given : (p : Places) (reset : Option Reset) (n : Option (List ℕ)) (i : Inner) → In (own_net p reset n) i
    → (r : Reset) × (name : List ℕ) × (reset ≡ Some r) × (n ≡ Some name) × (i ≡ net_inner p r name)
own_given p None n i m = absurd m
own_given p (Some r) None i m = absurd m
own_given p (Some r) (Some name) i (inl e) = (r, name, refl, refl, sym e)
own_given p (Some r) (Some name) i (inr m) = absurd m

module _ (net : FlatNet) (t : NameTable) (whole : IsNet net) (table : IsTable net t) (pipes : HasNoPipes net) where
  pub word_at : (k : ℕ) → In net.state k → IsWord net t k
  word_at k m =
      let word = word_leaf net whole k m in
      let parts = and_parts (is_state word.0.role) (not (nat_eq word.0.width 0)) word.2 in
      let own = register_of word.0.role (state_register word.0.role (no_pipe net pipes k word.0 word.1) parts.0) in
      let name = table.has k (in_right (named_ports 0 net.leaves) net.state k m) in
      record { leaf = word.0; at = word.1; own = own.0; register = own.1; some = some_bits word.0.width parts.1; name = name.0; named = name.1 }

module _ (net : FlatNet) (t : NameTable) (whole : IsNet net) (table : IsTable net t) where
  -- a register that has a name
  abbrev pub leaf_word : (k : ℕ) (l : Leaf) (own : Register) (name : List ℕ) → slice_get net.leaves k ≡ Some l → l.role ≡ role.Register own
      → name_at t.leaves k ≡ Some name → IsWord net t k
  leaf_word k l own name at register named =
      let bits = named_bits l (name_at t.leaves k) name (leaf_named net whole t table k l at) named in
      record { leaf = l; at = at; own = own; register = register; some = some_bits l.width bits; name = name; named = named }

  -- is one
  pub named_word : (k : ℕ) (l : Leaf) (name : List ℕ) → slice_get net.leaves k ≡ Some l → is_register l.role ≡ true → name_at t.leaves k ≡ Some name
      → In net.state k
  named_word k l name at kind named =
      let bits = named_bits l (name_at t.leaves k) name (leaf_named net whole t table k l at) named in
      let place = whole.state.all k l at (and_from (is_state l.role) (not (nat_eq l.width 0)) (register_state l.role kind) bits) in
      get_in net.state place.0 k place.1

module _ (net : FlatNet) (t : NameTable) (p : Places) where
  abbrev pub word_edge : (k : ℕ) → IsWord net t k → Option Edge
  word_edge k w = edge_on t p (clock_in p.leaves w.own.clock) w.leaf.width w.own.next w.name

  abbrev pub register_block : (k : ℕ) → IsWord net t k → List AlwaysBlock
  register_block k w = block_on p k w.leaf.width w.name w.own.reset (word_edge k w)

  pub block_is : (k : ℕ) (w : IsWord net t k) → word_block net t p k ≡ register_block k w
  block_is k w =
      let at = w.at in
      let named = w.named in
      rw (at, named) (ap (λ (r : Role). role_block t p k r w.leaf.width (Some w.name)) w.register)

  pub net_is : (k : ℕ) (w : IsWord net t k) → at_number (leaf_net p) p.resets net.leaves k ≡ own_net p w.own.reset (name_at p.resets k)
  net_is k w = let at = w.at in rw at (ap (λ (r : Role). role_net p r (name_at p.resets k)) w.register)

  -- the word of a block
  pub record BlockOf (b : AlwaysBlock) : Type 0 where
    pub number : ℕ
    pub among : In net.state number
    pub word : IsWord net t number
    pub inside : In (register_block number word) b

  -- the word whose reset has that net of its own
  pub record NetOf (i : Inner) : Type 0 where
    pub number : ℕ
    pub among : In net.state number
    pub word : IsWord net t number
    pub reset : Reset
    pub has : word.own.reset ≡ Some reset
    pub name : List ℕ
    pub named : name_at p.resets number ≡ Some name
    pub is : i ≡ net_inner p reset name

  pub block_in : (k : ℕ) → In net.state k → (w : IsWord net t k) → (b : AlwaysBlock) → In (register_block k w) b → In (word_blocks net t p) b
  block_in k m w b n = in_flat_map (word_block net t p) net.state k b m (subst (λ (bs : List AlwaysBlock). In bs b) (sym (block_is k w)) n)

  pub net_in : (k : ℕ) → In net.state k → (w : IsWord net t k) → (r : Reset) (name : List ℕ) → w.own.reset ≡ Some r → name_at p.resets k ≡ Some name
      → In (reset_inners net p) (net_inner p r name)
  net_in k m w r name has named =
      let given : own_net p w.own.reset (name_at p.resets k) ≡ net_inner p r name ∷ [] = rw (has, named) refl in
      in_flat_map (at_number (leaf_net p) p.resets net.leaves) net.state k (net_inner p r name) m
      (subst (λ (xs : List Inner). In xs (net_inner p r name)) (sym (net_is k w ∙ given)) (inl refl))

  module _ (whole : IsNet net) (table : IsTable net t) (pipes : HasNoPipes net) where
    pub block_of : (b : AlwaysBlock) → In (word_blocks net t p) b → BlockOf b
    block_of b m =
        let from = in_flat_map_from (word_block net t p) net.state b m in
        let word = word_at net t whole table pipes from.0 from.1 in
        record { number = from.0; among = from.1; word = word; inside = subst (λ (bs : List AlwaysBlock). In bs b) (block_is from.0 word) from.2 }

    pub net_of : (i : Inner) → In (reset_inners net p) i → NetOf i
    net_of i m =
        let from = in_flat_map_from (at_number (leaf_net p) p.resets net.leaves) net.state i m in
        let word = word_at net t whole table pipes from.0 from.1 in
        let given = own_given p word.own.reset (name_at p.resets from.0) i (subst (λ (xs : List Inner). In xs i) (net_is from.0 word) from.2) in
        record { number = from.0; among = from.1; word = word; reset = given.0; has = given.2; name = given.1; named = given.3; is = given.4 }
