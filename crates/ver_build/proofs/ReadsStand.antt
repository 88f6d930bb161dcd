-- Each value that can be read stands in nets of the tree, as one of its type.
-- It goes along the order: what drives a wire or an output stands, and so does what is fitted to its width.
use Rattle.std.proofs.Common.{◌≡◌, ℕ, ◌≤◌, List, [], ◌∷◌, map, true, false, refl, sym, ap, ◌∙◌, ⊎_elim, ◌⊎◌, subst, arith, Option, Some, None, unwrap_or, option_map}
use Rattle.std.specs.Prelude.{slice_get}
use Rattle.std.specs.List.{AllByRecursion}
use Rattle.std.proofs.lemmas.Nat.{pow_pos}
use Rattle.std.proofs.lemmas.Option.{slice_get_within}
use Rattle.fir_base.proofs.Elements.{there, all_there}
use Rattle.fir_bits.specs.Forms.{no_type}
use Rattle.fir_bits.specs.declared.types.NumTy.{NumTy}
use Rattle.fir_net.specs.declared.reads.Read.{Read}
use Rattle.fir_net.specs.declared.reads.Read.TheVariants as read
use Rattle.fir_net.specs.declared.leaf.Reset.{Reset}
use Rattle.fir_net.specs.declared.leaf.Role.{Role}
use Rattle.fir_net.specs.declared.leaf.Role.TheVariants as role
use Rattle.fir_net.specs.declared.leaf.Leaf.{Leaf}
use Rattle.fir_net.specs.declared.node.Node.{Node}
use Rattle.fir_net.specs.declared.net.FlatNet.{FlatNet}
use Rattle.fir_net_names.specs.declared.name_table.NameTable.{NameTable}
use Rattle.fir_net.specs.working.Values.{type_of_leaf}
use Rattle.fir_net.specs.declared.leaf.ResetKind.TheVariants.{Asynchronous}
use Rattle.fir_net.specs.working.Dependence.{IsOf, Reads, kind_reads, reset_reads, role_reads}
use Rattle.fir_net.specs.working.IsWritable.{ActsAtOnce, IsWritableRole}
use Rattle.fir_net.specs.working.IsNet.{node_type, read_type, CanRead, IsNode, IsAddressed, IsLeaf, IsRole, CanDrive, CanBeReset, IsReset}
use Rattle.fir_net_names.specs.working.LeafNamed.{name_at}
use Rattle.fir_net.specs.working.Settled.{is_clock}
use Rattle.ver_ast.specs.Nets.{SizedNet, width_among}
use Rattle.ver_ast.specs.SoundSides.{HasWidth}
use Rattle.ver_build.specs.declared.places.Places.{Places}
use Rattle.ver_build.specs.working.Operands.{atom_at}
use Rattle.ver_build.specs.working.Held.{whole_net, own_held, held_literal, fit}
use Rattle.ver_build.specs.working.Places.{place_value, placed, held_of, node_at, read_width}
use Rattle.ver_build.proofs.AlongOrder.{along_order}
use Rattle.ver_build.proofs.ReadingNets.{IsNothingRead, IsRead, IsReadNetted, reading_view}
use Rattle.ver_build.proofs.Premises.{Premises, LeafNamed}
use Rattle.ver_build.proofs.TableLeaves.{leaf_named}
use Rattle.ver_build.proofs.OrderedLeaves.{ordered_at}
use Rattle.ver_build.proofs.LeafKinds.{is_wire, is_net}
use Rattle.ver_build.proofs.Nets.{sizes}
use Rattle.fir_net.proofs.WholeNodes.{all_nodes}
use Rattle.ver_build.proofs.Standing.{StandsAs, AllStand}
use Rattle.ver_build.proofs.Fitted.{whole_stands, fit_stands}
use Rattle.ver_build.proofs.NodeNets.{IsLiteral, IsEmpty, IsNetted, node_view}
use Rattle.ver_build.proofs.Words.{IsWord}
use Rattle.ver_build.proofs.Sizes.{LeafSized, unnamed_bits, leaf_sizes, own_declared, reading_declared}
use Rattle.ver_build.proofs.OperandAtoms.{atom_fits}

-- the leaf with a number hangs on what its role reads
pub leaf_read : (net : FlatNet) (k : ℕ) (l : Leaf) (r : Role) (n : ℕ) (w : Read) → slice_get net.leaves k ≡ Some l → l.role ≡ r
    → slice_get (role_reads r) n ≡ Some w → Reads net (read.Leaf k) w
leaf_read net k l r n w at is e = record { place = n; is = rw at (rw is e) }

pub leaf_type_at : (net : FlatNet) (k : ℕ) (l : Leaf) → slice_get net.leaves k ≡ Some l
    → read_type net.leaves net.nodes (read.Leaf k) ≡ type_of_leaf l
leaf_type_at net k l at = ap (λ (o : Option Leaf). unwrap_or (option_map type_of_leaf o) no_type) at

pub node_type_at : (net : FlatNet) (k : ℕ) (n : Node) → slice_get net.nodes k ≡ Some n → read_type net.leaves net.nodes (read.Node k) ≡ node_type n
node_type_at net k n at = ap (λ (o : Option Node). unwrap_or (option_map node_type o) no_type) at

-- what can be read is of the net
pub read_of : (net : FlatNet) (r : Read) → CanRead net.leaves net.nodes r → IsOf net r
read_of net (read.Leaf k) can = slice_get_within net.leaves k can.0 can.1
read_of net (read.Node k) can = can

net_stands : (nets : List SizedNet) (name : List ℕ) (t : NumTy) → 1 ≤ t.width → t.width ≤ 128 → width_among nets name ≡ t.width
    → StandsAs nets (whole_net name t.signed t.width) t
net_stands nets name t some narrow wide = record { stands = whole_stands nets name t.signed t.width some narrow wide; signed = refl; width = refl }

none_stands : (nets : List SizedNet) (t : NumTy) → t.width ≡ 0 → StandsAs nets (own_held t.signed t.width None) t
none_stands nets t none =
    record { stands = record { source = record { wide = sym none; below = pow_pos t.width }; narrow = omega arith }; signed = refl; width = refl }

module _ (net : FlatNet) (t : NameTable) (p : Places) (order : List Read) (is : Premises net t p order) where
  abbrev ns : List SizedNet
  ns = sizes net t p order

  abbrev type : Read → NumTy
  type r = read_type net.leaves net.nodes r

  -- what is known of a leaf and of a node
  pub leaf_at : (k : ℕ) (l : Leaf) → slice_get net.leaves k ≡ Some l → IsLeaf net.leaves net.nodes l
  leaf_at k l at = all_there (IsLeaf net.leaves net.nodes) net.leaves is.whole.leaves k l at

  pub whole_at : (k : ℕ) (n : Node) → slice_get net.nodes k ≡ Some n → IsNode net.leaves net.nodes n
  whole_at k n at = all_there (IsNode net.leaves net.nodes) net.nodes (all_nodes net.leaves net.nodes is.whole.nodes) k n at

  pub node_narrow : (k : ℕ) (n : Node) → slice_get net.nodes k ≡ Some n → (node_type n).width ≤ 128
  node_narrow k n at =
      let has =
      is.laws.types net (λ _. 0) (read.Node k) is.whole (record { each = λ j l e plain. pow_pos l.width }) (slice_get_within net.nodes k n at) in
      let wide = ap (λ (u : NumTy). u.width) has.is ∙ ap (λ (u : NumTy). u.width) (node_type_at net k n at) in
      subst (λ (w : ℕ). w ≤ 128) wide has.bits.narrow

  pub size_at : (k : ℕ) (l : Leaf) → slice_get net.leaves k ≡ Some l → LeafSized ns l (name_at t.leaves k)
  size_at k l at = by (name_at t.leaves k) refl (leaf_named net is.whole t is.table k l at)
    where
      by : (n : Option (List ℕ)) → name_at t.leaves k ≡ n → LeafNamed l n → LeafSized ns l n
      by None e h = h
      by (Some name) e h = ordered_at net t is.whole is.table (LeafSized ns) (leaf_sizes net t p order is) k l name at e

  own_stands : (l : Leaf) (n : Option (List ℕ)) → LeafSized ns l n → is_net l.role ≡ true → is_wire l.role ≡ false
      → StandsAs ns (own_held l.signed l.width n) (type_of_leaf l)
  own_stands l None size a b = none_stands ns (type_of_leaf l) (unnamed_bits l b size)
  own_stands l (Some name) size a b = let s = size a in net_stands ns name (type_of_leaf l) s.one s.narrow s.wide

  -- what drives the register of a word, and its reset
  pub word_role : (k : ℕ) (w : IsWord net t k) → IsRole net.leaves net.nodes w.leaf.signed w.leaf.width (role.Register w.own)
  word_role k w = subst (IsRole net.leaves net.nodes w.leaf.signed w.leaf.width) w.register (leaf_at k w.leaf w.at).driven

  pub word_reset : (k : ℕ) (w : IsWord net t k) (r : Reset) → w.own.reset ≡ Some r → IsReset net.leaves net.nodes w.leaf.signed r
  word_reset k w r has = subst (CanBeReset net.leaves net.nodes w.leaf.signed) has (word_role k w).1

  pub word_kind : (k : ℕ) (w : IsWord net t k) (r : Reset) → w.own.reset ≡ Some r → r.kind ≡ Asynchronous
  word_kind k w r has = subst ActsAtOnce has (subst IsWritableRole w.register (is.writable.leaves k w.leaf w.at))

  -- its value hangs on the condition of its reset
  pub word_reads : (k : ℕ) (w : IsWord net t k) (r : Reset) → w.own.reset ≡ Some r → Reads net (read.Leaf k) r.condition
  word_reads k w r has =
      leaf_read net k w.leaf (role.Register w.own) 0 r.condition w.at w.register
      (ap (λ o. slice_get (reset_reads o) 0) has ∙ ap (λ kind. slice_get (kind_reads kind r.condition r.init) 0) (word_kind k w r has))

  abbrev Stand : Read → Type 0
  Stand r = CanRead net.leaves net.nodes r → StandsAs ns (held_of p r) (type r)

  fit_stands_as : (l : Leaf) (r : Read) → l.width ≤ 128 → CanDrive net.leaves net.nodes l.signed r → Stand r
      → StandsAs ns (fit l.width (held_of p r)) (type_of_leaf l)
  fit_stands_as l r narrow drives below =
      let source = below drives.can in
      record { stands = fit_stands ns l.width (held_of p r) source.stands narrow; signed = source.signed ∙ drives.kind; width = refl }

  leaf_stands : (k : ℕ) (l : Leaf) (r : Role) → slice_get net.leaves k ≡ Some l → l.role ≡ r → is_clock r ≡ false
      → IsRole net.leaves net.nodes l.signed l.width r
      → ((w : Read) → Reads net (read.Leaf k) w → Stand w)
      → StandsAs ns (place_value (placed p.leaves p.nodes p.readings (name_at t.leaves k) k l.signed l.width r)) (type_of_leaf l)
  leaf_stands k l role.Input at e plain driven below = own_stands l (name_at t.leaves k) (size_at k l at) (ap is_net e) (ap is_wire e)
  leaf_stands k l (role.Register r) at e plain driven below = own_stands l (name_at t.leaves k) (size_at k l at) (ap is_net e) (ap is_wire e)
  leaf_stands k l (role.Output r) at e plain driven below =
      fit_stands_as l r (leaf_at k l at).narrow driven (below r (leaf_read net k l (role.Output r) 0 r at e refl))
  leaf_stands k l (role.Wire r) at e plain driven below =
      fit_stands_as l r (leaf_at k l at).narrow driven (below r (leaf_read net k l (role.Wire r) 0 r at e refl))
  leaf_stands k l (role.Reading r) at e plain driven below =
      ⊎_elim
      (λ (n : IsNothingRead l.signed l.width (node_at p.readings k)).
      rw n.held (subst (λ (w : ℕ). StandsAs ns (own_held l.signed w None) (type_of_leaf l)) n.none (none_stands ns (type_of_leaf l) n.none)))
      (λ (h : IsReadNetted net l.signed l.width r (node_at p.readings k)).
      rw h.held (net_stands ns h.name (type_of_leaf l) h.some (leaf_at k l at).narrow
      (reading_declared net t p order is k (record { leaf = l; at = at; read = r; reads = e; netted = h }))))
      (reading_view net l.signed l.width r (node_at p.readings k) (is.places.nodes.read.each k l r at e))
  leaf_stands k l (role.Pipe q) at e plain driven below = absurd (is.pipes.none k l q at e)
  leaf_stands k l _ at e plain driven below = absurd (cc)

  literal_stands : (k : ℕ) (n : Node) → slice_get net.nodes k ≡ Some n → (l : IsLiteral n (node_at p.nodes k))
      → StandsAs ns (held_literal l.value) (node_type n)
  literal_stands k n at l =
      let vector = subst (IsNode net.leaves net.nodes) l.node (whole_at k n at) in
      rw l.node (record {
        stands = record { source = record { wide = refl; below = vector.below }; narrow = vector.narrow };
        signed = refl;
        width = refl;
      })

  node_stands : (k : ℕ) (n : Node) → slice_get net.nodes k ≡ Some n → StandsAs ns (node_at p.nodes k).held (node_type n)
  node_stands k n at =
      let here = node_at p.nodes k in
      ⊎_elim
      (λ (l : IsLiteral n here). rw l.held (literal_stands k n at l))
      (λ (o : IsEmpty n here ⊎ IsNetted p n here).
      ⊎_elim
      (λ (e : IsEmpty n here). rw e.held (subst (λ (w : ℕ). StandsAs ns (own_held (node_type n).signed w None) (node_type n)) e.none
      (none_stands ns (node_type n) e.none)))
      (λ (h : IsNetted p n here). rw h.held (net_stands ns h.name (node_type n) h.some (node_narrow k n at) (own_declared net t p order is k n h at)))
      o)
      (node_view p n here (is.places.nodes.held.each k n at))

  stand_step : (v : Read) → IsOf net v → ((w : Read) → Reads net v w → Stand w) → Stand v
  stand_step (read.Leaf k) of below can =
      let l = can.0 in
      let at = can.1 in
      rw (leaf_type_at net k l at, is.places.leaves.each k l at) (leaf_stands k l l.role at refl can.2 (leaf_at k l at).driven below)
  stand_step (read.Node k) of below can =
      let n = there net.nodes k of in
      rw (node_type_at net k n.0 n.1) (node_stands k n.0 n.1)

  pub read_stands : (r : Read) → CanRead net.leaves net.nodes r → StandsAs ns (held_of p r) (read_type net.leaves net.nodes r)
  read_stands r can = along_order net order is.ordered Stand stand_step r (read_of net r can) can

  pub reads_stand : (rs : List Read) → AllByRecursion (CanRead net.leaves net.nodes) rs
      → AllStand ns (map (held_of p) rs) (map (read_type net.leaves net.nodes) rs)
  reads_stand [] can = tt
  reads_stand (r ∷ rs) can = (read_stands r can.0, reads_stand rs can.1)

  -- where an array is read, and under which bit
  pub read_addressed : (k : ℕ) (h : IsRead net p k) → IsAddressed net.leaves net.nodes h.read.address h.read.enable
  read_addressed k h = subst (IsRole net.leaves net.nodes h.leaf.signed h.leaf.width) h.reads (leaf_at k h.leaf h.at).driven

  pub address_narrow : (r : Read) → CanRead net.leaves net.nodes r → read_width net r ≤ 128
  address_narrow r can = let is_at = read_stands r can in subst (λ (w : ℕ). w ≤ 128) is_at.width is_at.stands.narrow

  pub read_wide : (w : ℕ) (r : Read) → CanRead net.leaves net.nodes r → 1 ≤ w → w ≤ 128 → HasWidth (sizes net t p order) w (atom_at w (held_of p r))
  read_wide w r can some narrow = atom_fits ns w (held_of p r) (read_stands r can).stands some narrow
