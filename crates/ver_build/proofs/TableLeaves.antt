-- The table of a whole net names the ports and registers that have bits, and no other leaf.
use Rattle.std.proofs.Common.{◌≡◌, ℕ, List, Bool, true, false, not, ◌&&◌, nat_eq, Option, Some, None, refl, sym, ap, ◌∙◌, inl, inr, ◌⊎◌, ⊎_elim, subst}
use Rattle.std.proofs.lemmas.Bool.{and_parts, and_from, both_ways}
use Rattle.std.specs.Prelude.{slice_get}
use Rattle.fir_base.specs.Lists.{In}
use Rattle.fir_base.proofs.Elements.{get_in, number_of}
use Rattle.fir_base.proofs.Members.{in_left, in_right, in_either}
use Rattle.fir_net.specs.declared.leaf.Role.{Role}
use Rattle.fir_net.specs.declared.leaf.Role.TheVariants as role
use Rattle.fir_net.specs.declared.leaf.Leaf.{Leaf}
use Rattle.fir_net.specs.declared.net.FlatNet.{FlatNet}
use Rattle.fir_net.specs.working.IsNet.{is_port, is_state, is_word, IsLeaf, IsNet}
use Rattle.fir_net.proofs.NumberedLeaves.{among}
use Rattle.fir_net_names.specs.declared.name_table.NameTable.{NameTable}
use Rattle.fir_net_names.specs.working.IsTable.{IsTable}
use Rattle.fir_net_names.specs.working.LeafNamed.{port_number, named_ports, named_leaves, name_at}
use Rattle.fir_net_names.proofs.NumbersNamed.{number_given, ports_own, port_at}
use Rattle.ver_build.proofs.Names.{Each, each_by_number, each_with}
use Rattle.ver_build.proofs.LeafKinds.{is_wire, has_name}
use Rattle.ver_build.proofs.Premises.{LeafNamed, Whole}

-- what has a name is a port, a register or a pipe
port_or_state : (r : Role) (z : Bool) → (not (is_wire r) && not z) ≡ true → ((is_port r && not z) ≡ true) ⊎ ((is_state r && not z) ≡ true)
port_or_state role.Input z e = inl e
port_or_state role.Clock z e = inl e
port_or_state (role.Output r) z e = inl e
port_or_state (role.Wire r) z e = absurd (cc)
port_or_state (role.Register d) z e = inr e
port_or_state (role.Reading d) z e = absurd (cc)
port_or_state (role.Pipe q) z e = inr e
port_or_state (role.ClockOutput c) z e = inl e
port_or_state (role.ClockWire c) z e = absurd (cc)

port_no_wire : (r : Role) → is_port r ≡ true → not (is_wire r) ≡ true
port_no_wire (role.Wire r) e = absurd (cc)
port_no_wire (role.Reading r) e = absurd (cc)
port_no_wire (role.ClockWire c) e = absurd (cc)
port_no_wire _ e = refl

state_no_wire : (r : Role) → is_state r ≡ true → not (is_wire r) ≡ true
state_no_wire (role.Wire r) e = absurd (cc)
state_no_wire (role.Reading r) e = absurd (cc)
state_no_wire (role.ClockWire c) e = absurd (cc)
state_no_wire _ e = refl

named_as : (l : Leaf) (b : Bool) (n : Option (List ℕ)) → has_name l ≡ b → (b ≡ true → (name : List ℕ) × (n ≡ Some name)) → (b ≡ false → n ≡ None) → LeafNamed l n
named_as l true n e some none = let found = some refl in subst (LeafNamed l) (sym found.1) e
named_as l false n e some none = subst (LeafNamed l) (sym (none refl)) e

module _ (net : FlatNet) (whole : IsNet net) where
  pub has_number : (k : ℕ) (l : Leaf) → slice_get net.leaves k ≡ Some l → has_name l ≡ true → In (named_leaves net) k
  has_number k l at has =
      ⊎_elim
      (λ (e : (is_port l.role && not (nat_eq l.width 0)) ≡ true).
      let place = among port_number ports_own net.leaves k l at (number_given l.role l.width k e) in
      in_left (named_ports 0 net.leaves) net.state k (get_in (named_ports 0 net.leaves) place.0 k place.1))
      (λ (e : is_word l ≡ true).
      let place = whole.state.all k l at e in
      in_right (named_ports 0 net.leaves) net.state k (get_in net.state place.0 k place.1))
      (port_or_state l.role (nat_eq l.width 0) has)

  -- the leaf of a word has bits and is a register or a pipe
  pub word_leaf : (k : ℕ) → In net.state k → (l : Leaf) × (slice_get net.leaves k ≡ Some l) × (is_word l ≡ true)
  word_leaf k m = let place = number_of net.state k m in whole.state.only place.0 k place.1

  pub number_named : (k : ℕ) (l : Leaf) → slice_get net.leaves k ≡ Some l → In (named_leaves net) k → has_name l ≡ true
  number_named k l at m =
      ⊎_elim
      (λ (p : In (named_ports 0 net.leaves) k).
      let port = port_at net.leaves k p in
      let same : Some port.leaf ≡ Some l = sym port.at ∙ at in
      let one : port.leaf ≡ l = cc in
      subst (λ (x : Leaf). has_name x ≡ true) one
      (and_from (not (is_wire port.leaf.role)) (not (nat_eq port.leaf.width 0)) (port_no_wire port.leaf.role port.port) (ap not port.bits)))
      (λ (s : In net.state k).
      let word = word_leaf k s in
      let same : Some word.0 ≡ Some l = sym word.1 ∙ at in
      let one : word.0 ≡ l = cc in
      let parts = and_parts (is_state word.0.role) (not (nat_eq word.0.width 0)) word.2 in
      subst (λ (x : Leaf). has_name x ≡ true) one
      (and_from (not (is_wire word.0.role)) (not (nat_eq word.0.width 0)) (state_no_wire word.0.role parts.0) parts.1))
      (in_either (named_ports 0 net.leaves) net.state k m)

  module _ (t : NameTable) (table : IsTable net t) where
    pub leaf_named : (k : ℕ) (l : Leaf) → slice_get net.leaves k ≡ Some l → LeafNamed l (name_at t.leaves k)
    leaf_named k l at =
        named_as l (has_name l) (name_at t.leaves k) refl (λ e. table.has k (has_number k l at e))
        (λ e. table.only k (λ m. both_ways (has_name l) e (number_named k l at m)))

    pub leaves_named : Each LeafNamed t.leaves net.leaves
    leaves_named = each_by_number LeafNamed t.leaves net.leaves table.count leaf_named

    pub leaves_whole : Each (Whole net) t.leaves net.leaves
    leaves_whole = each_with LeafNamed (Whole net) (IsLeaf net.leaves net.nodes) (λ l n h k. (h, k)) t.leaves net.leaves leaves_named whole.leaves
