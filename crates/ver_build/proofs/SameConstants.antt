-- Where two choices of values meet the equations of driven leaves, what reaches no input and no state has one value in both.
use Rattle.std.proofs.Common.{◌≡◌, ℕ, List, [], false, take, refl, sym, ap, ◌∙◌, Option, Some}
use Rattle.std.specs.Prelude.{slice_get}
use Rattle.fir_base.proofs.Elements.{there}
use Rattle.fir_net.specs.declared.reads.Read.{Read}
use Rattle.fir_net.specs.declared.reads.Read.TheVariants as read
use Rattle.fir_net.specs.declared.leaf.Role.{Role}
use Rattle.fir_net.specs.declared.leaf.Role.TheVariants as role
use Rattle.fir_net.specs.declared.leaf.Leaf.{Leaf}
use Rattle.fir_net.specs.declared.node.Node.{Node}
use Rattle.fir_net.specs.declared.net.FlatNet.{FlatNet}
use Rattle.fir_net.specs.working.Dependence.{IsOf, Reads, node_reads, support_of}
use Rattle.fir_net.specs.working.IsNet.{CanRead, IsNode, IsRole}
use Rattle.fir_net.specs.working.IsWritable.{IsConstant, Reaches, itself, through, is_input_or_state}
use Rattle.fir_net.specs.working.Settled.{driver, is_clock, value_at}
use Rattle.fir_net.specs.working.Values.{at_width, leaf_type, number_of, values}
use Rattle.fir_net.proofs.KnownValues.{node_is}
use Rattle.fir_net.proofs.NodeReads.{can_more, node_at, reads_can, same_node}
use Rattle.fir_net_names.specs.declared.name_table.NameTable.{NameTable}
use Rattle.ver_build.specs.declared.places.Places.{Places}
use Rattle.ver_build.proofs.AlongOrder.{along_order}
use Rattle.ver_build.proofs.Premises.{Premises}
use Rattle.ver_build.proofs.ReadsStand.{leaf_at, leaf_read, read_of}

-- each driven leaf has the value that drives it, at its width
pub record MeetsDriven (net : FlatNet) (e : ℕ → ℕ) : Type 0 where
  pub each : (k : ℕ) (l : Leaf) (r : Read) → slice_get net.leaves k ≡ Some l → driver l.role ≡ Some r → e k ≡ at_width (value_at net e r) l.width

further : (net : FlatNet) (v w x : Read) → Reaches net v w → Reads net w x → Reaches net v x
further net v w x (itself u) r = through v x x r (itself x)
further net v w x (through u y z first rest) r = through v y x first (further net y w x rest r)

module _ (net : FlatNet) (t : NameTable) (p : Places) (order : List Read) (is : Premises net t p order) (e f : ℕ → ℕ) (meets : MeetsDriven net e)
    (other : MeetsDriven net f) (constant : Read) (none : IsConstant net constant) where
  abbrev Same : Read → Type 0
  Same v = Reaches net constant v → CanRead net.leaves net.nodes v → value_at net e v ≡ value_at net f v

  driven_same : (k : ℕ) (l : Leaf) (r : Read) → slice_get net.leaves k ≡ Some l → driver l.role ≡ Some r → CanRead net.leaves net.nodes r
      → Reads net (read.Leaf k) r → ((w : Read) → Reads net (read.Leaf k) w → Same w) → Reaches net constant (read.Leaf k) → e k ≡ f k
  driven_same k l r at drives can reads below reach =
      meets.each k l r at drives ∙ ap (λ v. at_width v l.width) (below r reads (further net constant (read.Leaf k) r reach reads) can)
      ∙ sym (other.each k l r at drives)

  role_same : (k : ℕ) (l : Leaf) (d : Role) → slice_get net.leaves k ≡ Some l → l.role ≡ d → is_clock d ≡ false → is_input_or_state d ≡ false
      → IsRole net.leaves net.nodes l.signed l.width d → ((w : Read) → Reads net (read.Leaf k) w → Same w) → Reaches net constant (read.Leaf k) → e k ≡ f k
  role_same k l (role.Output r) at same plain inner drives below reach =
      driven_same k l r at (ap driver same) drives.can (leaf_read net k l (role.Output r) 0 r at same refl) below reach
  role_same k l (role.Wire r) at same plain inner drives below reach =
      driven_same k l r at (ap driver same) drives.can (leaf_read net k l (role.Wire r) 0 r at same refl) below reach
  role_same k l _ at same plain inner drives below reach = absurd (cc)

  step : (v : Read) → IsOf net v → ((w : Read) → Reads net v w → Same w) → Same v
  step (read.Leaf k) of below reach can =
      ap (number_of (leaf_type net.leaves k))
      (role_same k can.0 can.0.role can.1 refl can.2 (none.none k can.0 reach can.1) (leaf_at net t p order is k can.0 can.1).driven below reach)
  step (read.Node k) of below reach can =
      let found = there net.nodes k of in
      let node = found.0 in
      let whole : IsNode net.leaves (take k net.nodes) node = node_at net.leaves net.nodes [] is.whole.nodes k node found.1 in
      let same_read : (j : ℕ) (r : Read) → slice_get (support_of node) j ≡ Some r → value_at net e r ≡ value_at net f r =
      λ j r reads.
      let hangs : Reads net (read.Node k) r = record { place = j; is = ap (λ (o : Option Node). slice_get (node_reads o) j) found.1 ∙ reads } in
      below r hangs (further net constant (read.Node k) r reach hangs)
      (can_more net.leaves net.nodes k r (reads_can net.leaves (take k net.nodes) node whole j r reads)) in
      node_is net e k node is.whole found.1 ∙ same_node net.leaves e f (values net e) (values net f) node same_read ∙ sym (node_is net f k node is.whole found.1)

  pub same_constant : CanRead net.leaves net.nodes constant → value_at net e constant ≡ value_at net f constant
  same_constant can = along_order net order is.ordered Same step constant (read_of net constant can) (itself constant) can
