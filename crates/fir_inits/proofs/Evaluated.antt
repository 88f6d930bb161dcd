-- Numbers that nodes and driven leaves make have their widths; what is put at a place leaves the others.
use Rattle.std.proofs.Common.{◌≡◌, ℕ, ◌+◌, ◌^◌, ◌<◌, ◌≤◌, List, None, Some, length, replicate, set, sym, subst, refl, arith}
use Rattle.std.specs.Prelude.{slice_get, Option, unwrap_or, option_map}
use Rattle.std.specs.List.{AllByRecursion}
use Rattle.std.proofs.lemmas.Option.{slice_get_within}
use Rattle.fir_base.proofs.Each.{all_from}
use Rattle.fir_base.proofs.Elements.{number_of as number_of_in}
use Rattle.fir_bits.specs.Forms.{no_type}
use Rattle.fir_bits.specs.declared.types.NumTy.{NumTy}
use Rattle.fir_bits.proofs.Typing.{typed-outcome}
use Rattle.fir_net.specs.declared.leaf.Leaf.{Leaf}
use Rattle.fir_net.specs.declared.leaf.Role.{Role}
use Rattle.fir_net.specs.declared.leaf.Role.TheVariants as role
use Rattle.fir_net.specs.declared.net.FlatNet.{FlatNet}
use Rattle.fir_net.specs.declared.node.Node.{Node}
use Rattle.fir_net.specs.declared.reads.Read.{Read}
use Rattle.fir_net.specs.declared.reads.Read.TheVariants as read
use Rattle.fir_net.specs.working.Dependence.{support_of, IsOf}
use Rattle.fir_net.specs.working.IsNet.{node_type, CanRead, IsNet, IsRole}
use Rattle.fir_net.specs.working.IsOrder.{IsOrder}
use Rattle.fir_net.specs.working.Values.{at_width, type_of_leaf}
use Rattle.fir_net.proofs.LeafEquations.{driven_at}
use Rattle.fir_net.proofs.NodeReads.{reads_can}
use Rattle.fir_net.proofs.WholeValues.{nodes_have_types}
use Rattle.fir_work.specs.working.Held.{IsHeld}
use Rattle.fir_work.specs.working.NodeValues.{held_node}
use Rattle.fir_work.specs.working.Numbers.{place, type_read, value_in, Fits}
use Rattle.fir_work.proofs.GeneralWay.{node_whole}
use Rattle.fir_work.proofs.HeldNumbers.{place_within, still_held, zeros_held}
use Rattle.fir_work.proofs.HeldTypes.{node_is, read_below}
use Rattle.fir_work.proofs.WholeReads.{read_of}
use Rattle.fir_inits.specs.working.Constants.{leaf_number, node_number, number_of, role_number, AreConstants, AreNumbers}
use Rattle.fir_inits.proofs.Evaluating.{known_more, known_skipped}

from_each : {A : Type 0} → (P : A → Type 0) (xs : List A) → ((j : ℕ) (x : A) → slice_get xs j ≡ Some x → P x) → AllByRecursion P xs
from_each P xs h = all_from P xs (λ x m. let at = number_of_in xs x m in h at.0 x at.1)

module _ (net : FlatNet) (whole : IsNet net) (ns : List ℕ) (held : IsHeld net ns) where
  below : (w : ℕ) (r : Read) → CanRead net.leaves net.nodes r → at_width (value_in net ns r) w < 2 ^ w
  below w r can = read_below typed-outcome (nodes_have_types typed-outcome) net whole ns held w r can

  role_below : (signed : _) (w : ℕ) (d : Role) → IsRole net.leaves net.nodes signed w d → (x : ℕ) → role_number net ns w d ≡ Some x → x < 2 ^ w
  role_below signed w (role.Output r) can x e = let same : at_width (value_in net ns r) w ≡ x = cc in subst (λ (y : ℕ). y < 2 ^ w) same (below w r can.can)
  role_below signed w (role.Wire r) can x e = let same : at_width (value_in net ns r) w ≡ x = cc in subst (λ (y : ℕ). y < 2 ^ w) same (below w r can.can)
  role_below signed w role.Input can x e = absurd (cc)
  role_below signed w role.Clock can x e = absurd (cc)
  role_below signed w (role.Register g) can x e = absurd (cc)
  role_below signed w (role.Reading g) can x e = absurd (cc)
  role_below signed w (role.Pipe g) can x e = absurd (cc)
  role_below signed w (role.ClockOutput g) can x e = absurd (cc)
  role_below signed w (role.ClockWire g) can x e = absurd (cc)

  -- it is of the net, and has its width
  record IsNumber (v : Read) (x : ℕ) : Type 0 where
    of : IsOf net v
    below : x < 2 ^ (type_read net v).width

  leaf_is : (k : ℕ) (o : Option Leaf) → slice_get net.leaves k ≡ o → (x : ℕ) → leaf_number net ns o ≡ Some x → IsNumber (read.Leaf k) x
  leaf_is k None at x e = absurd (cc)
  leaf_is k (Some l) at x e = record {
    of = slice_get_within net.leaves k l at;
    below =
        subst (λ (o : Option Leaf). x < 2 ^ (unwrap_or (option_map type_of_leaf o) no_type).width) (sym at)
        (role_below l.signed l.width l.role (driven_at net whole k l l.role at refl) x e);
  }

  node_number_is : (k : ℕ) (o : Option Node) → slice_get net.nodes k ≡ o → (x : ℕ) → node_number net ns o ≡ Some x → IsNumber (read.Node k) x
  node_number_is k None at x e = absurd (cc)
  node_number_is k (Some n) at x e =
      let is = node_is typed-outcome (nodes_have_types typed-outcome) net whole ns held k n at in
      let same : (held_node (value_in net ns) n).value.number ≡ x = cc in
      let low = subst (λ (t : NumTy). (held_node (value_in net ns) n).value.number < 2 ^ t.width) is.is is.bits.below in
      record {
        of = slice_get_within net.nodes k n at;
        below = subst (λ (o : Option Node). x < 2 ^ (unwrap_or (option_map node_type o) no_type).width) (sym at) (subst (λ (y : ℕ). y < 2 ^ (node_type n).width) same low);
      }

  number_is : (v : Read) (x : ℕ) → number_of net ns v ≡ Some x → IsNumber v x
  number_is (read.Leaf k) x e = leaf_is k (slice_get net.leaves k) refl x e
  number_is (read.Node k) x e = node_number_is k (slice_get net.nodes k) refl x e

  pub number_of_net : (v : Read) (x : ℕ) → number_of net ns v ≡ Some x → IsOf net v
  number_of_net v x e = (number_is v x e).of

  pub number_within : (v : Read) (x : ℕ) → number_of net ns v ≡ Some x → place net v < length ns
  number_within v x e = place_within net ns held v (number_is v x e).of

  -- what a node and a leaf read has its width
  pub support_fits : (k : ℕ) (n : Node) → slice_get net.nodes k ≡ Some n → AllByRecursion (Fits net ns) (support_of n)
  support_fits k n at = from_each (Fits net ns) (support_of n) (λ j r e. held.fits r (read_of net r (reads_can net.leaves net.nodes n (node_whole net whole k n at) j r e)))

  module _ (order : List Read) (n : ℕ) (v : Read) (at : slice_get order n ≡ Some v) (known : IsOrder net order → AreConstants net order n ns) where
    pub numbers_more : (x : ℕ) → number_of net ns v ≡ Some x → AreNumbers net order (n + 1) (set ns (place net v) x)
    numbers_more x e = let number = number_is v x e in record {
      held = still_held net ns held v number.of x number.below;
      known = λ is. known_more net whole order is ns held n v at (known is) x e;
    }

    pub numbers_skipped : number_of net ns v ≡ None → AreNumbers net order (n + 1) ns
    numbers_skipped e = record { held = held; known = λ is. known_skipped net whole order is ns held n v at (known is) e }

-- at first all are 0, and none is known
pub numbers_first : (net : FlatNet) (order : List Read) → AreNumbers net order 0 (replicate (length net.leaves + length net.nodes) 0)
numbers_first net order = record {
  held = zeros_held net;
  known = λ is. record { each = λ i v low at can constant state tick env clock s. absurd (omega (arith, low)) };
}

-- in the end all are known
pub numbers_last : (net : FlatNet) (order : List Read) (n : ℕ) (ns : List ℕ) → length order ≤ n → AreNumbers net order n ns → AreNumbers net order (length order) ns
numbers_last net order n ns high are = record {
  held = are.held;
  known = λ is. record { each = λ i v low at can constant state tick env clock s. (are.known is).each i v (omega (arith, low, high)) at can constant state tick env clock s };
}
