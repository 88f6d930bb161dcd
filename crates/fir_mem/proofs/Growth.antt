-- What stands of leaves and nodes stays where others are put behind them, and where a leaf gives way to one of its type.
use Rattle.std.proofs.Common.{◌≡◌, ℕ, ◌≤◌, List, [], ◌∷◌, ◌++◌, map, Bool, refl, sym, ap, ◌∙◌, subst, append_assoc, append-nil, unwrap_or, option_map}
use Rattle.std.specs.Prelude.{slice_get, Option, Some, None}
use Rattle.std.specs.List.{AllByRecursion}
use Rattle.std.proofs.lemmas.Option.{slice_get_within}
use Rattle.fir_base.proofs.Elements.{there, number_of}
use Rattle.fir_base.proofs.Each.{all_from}
use Rattle.fir_bits.specs.Forms.{no_type}
use Rattle.fir_bits.specs.working.Types.{typed}
use Rattle.fir_bits.specs.declared.types.NumTy.{NumTy}
use Rattle.fir_net.specs.declared.array.Array.{Array}
use Rattle.fir_net.specs.declared.array.ArrayWrite.{ArrayWrite}
use Rattle.fir_net.specs.declared.leaf.Leaf.{Leaf}
use Rattle.fir_net.specs.declared.leaf.Role.{Role}
use Rattle.fir_net.specs.declared.leaf.Role.TheVariants as role
use Rattle.fir_net.specs.declared.leaf.Reset.{Reset}
use Rattle.fir_net.specs.declared.node.Node.{Node}
use Rattle.fir_net.specs.declared.node.Node.TheVariants as node
use Rattle.fir_net.specs.declared.reads.Read.{Read}
use Rattle.fir_net.specs.declared.reads.Read.TheVariants as read
use Rattle.fir_net.specs.working.Values.{type_of_leaf, leaf_type}
use Rattle.fir_net.specs.working.Settled.{is_clock}
use Rattle.fir_net.specs.working.IsNet.{node_type, read_type, CanRead, CanDrive, CanBeDriven, IsClock, CanBeClock, CanBeReset, IsAddressed, IsRole, IsChoice, IsNode, AreNodes, IsArrayWrite, IsArray}

-- each element of a list by its number
pub each_all : {A : Type 0} → (P : A → Type 0) (xs : List A) → ((k : ℕ) (x : A) → slice_get xs k ≡ Some x → P x) → AllByRecursion P xs
each_all P xs each = all_from P xs (λ x i. let n = number_of xs x i in each n.0 x n.1)

-- a leaf of the same type, which is a clock where the other one is
pub record SameKind (l m : Leaf) : Type 0 where
  pub typed : type_of_leaf m ≡ type_of_leaf l
  pub clock : is_clock m.role ≡ is_clock l.role

pub record Grown (leaves : List Leaf) (nodes : List Node) (more : List Leaf) (other : List Node) : Type 0 where
  pub leaf : (k : ℕ) (l : Leaf) → slice_get leaves k ≡ Some l → (m : Leaf) × (slice_get more k ≡ Some m) × SameKind l m
  pub node : (k : ℕ) (n : Node) → slice_get nodes k ≡ Some n → slice_get other k ≡ Some n

pub same_grown : (leaves : List Leaf) (nodes : List Node) → Grown leaves nodes leaves nodes
same_grown leaves nodes = record { leaf = λ k l e. (l, e, record { typed = refl; clock = refl }); node = λ k n e. e }

pub grown_twice : (a : List Leaf) (m : List Node) (b : List Leaf) (n : List Node) (c : List Leaf) (o : List Node) → Grown a m b n → Grown b n c o → Grown a m c o
grown_twice a m b n c o g h = record {
  leaf = λ k l e.
      let x = g.leaf k l e in
      let y = h.leaf k x.0 x.1 in
      (y.0, y.1, record { typed = y.2.typed ∙ x.2.typed; clock = y.2.clock ∙ x.2.clock });
  node = λ k x e. h.node k x (g.node k x e);
}

pub type_there : (leaves : List Leaf) (k : ℕ) (l : Leaf) → slice_get leaves k ≡ Some l → leaf_type leaves k ≡ type_of_leaf l
type_there leaves k l at = ap (λ (o : Option Leaf). unwrap_or (option_map type_of_leaf o) no_type) at

module _ (leaves : List Leaf) (nodes : List Node) (more : List Leaf) (other : List Node) (g : Grown leaves nodes more other) where
  pub can_read : (r : Read) → CanRead leaves nodes r → CanRead more other r
  can_read (read.Leaf k) can = let x = g.leaf k can.0 can.1 in (x.0, x.1, x.2.clock ∙ can.2)
  can_read (read.Node k) can = let n = there nodes k can in slice_get_within other k n.0 (g.node k n.0 n.1)

  pub same_type : (r : Read) → CanRead leaves nodes r → read_type more other r ≡ read_type leaves nodes r
  same_type (read.Leaf k) can =
      let x = g.leaf k can.0 can.1 in
      type_there more k x.0 x.1 ∙ x.2.typed ∙ sym (type_there leaves k can.0 can.1)
  same_type (read.Node k) can =
      let n = there nodes k can in
      ap (λ (n : Option Node). unwrap_or (option_map node_type n) no_type) (g.node k n.0 n.1 ∙ sym n.1)

  can_all : (rs : List Read) → AllByRecursion (CanRead leaves nodes) rs → AllByRecursion (CanRead more other) rs
  can_all [] h = tt
  can_all (r ∷ rs) h = (can_read r h.0, can_all rs h.1)

  same_types : (rs : List Read) → AllByRecursion (CanRead leaves nodes) rs → map (read_type more other) rs ≡ map (read_type leaves nodes) rs
  same_types [] h = refl
  same_types (r ∷ rs) h = rw (same_type r h.0, same_types rs h.1) refl

  pub is_node : (n : Node) → IsNode leaves nodes n → IsNode more other n
  is_node (node.Literal v) h = h
  is_node (node.Operation o) h = record {
    reads = can_all o.reads h.reads;
    has_type = ap (λ (ts : List NumTy). typed o.op ts o.integers) (same_types o.reads h.reads) ∙ h.has_type;
  }
  is_node (node.Mux m) h = record {
    reads = can_all m.reads h.reads;
    has_type = subst (IsChoice (node_type (node.Mux m))) (sym (same_types m.reads h.reads)) h.has_type;
  }

  pub clock_leaf : (k : ℕ) → IsClock leaves k → IsClock more k
  clock_leaf k h = let x = g.leaf k h.0 h.1 in (x.0, x.1, x.2.clock ∙ h.2)

  can_clock : (c : Option ℕ) → CanBeClock leaves c → CanBeClock more c
  can_clock None h = tt
  can_clock (Some k) h = clock_leaf k h

  pub can_drive : (s : Bool) (r : Read) → CanDrive leaves nodes s r → CanDrive more other s r
  can_drive s r h = record { can = can_read r h.can; kind = ap (λ (t : NumTy). t.signed) (same_type r h.can) ∙ h.kind }

  can_be_driven : (s : Bool) (r : Option Read) → CanBeDriven leaves nodes s r → CanBeDriven more other s r
  can_be_driven s None h = tt
  can_be_driven s (Some r) h = can_drive s r h

  can_be_reset : (s : Bool) (r : Option Reset) → CanBeReset leaves nodes s r → CanBeReset more other s r
  can_be_reset s None h = tt
  can_be_reset s (Some r) h = record {
    condition = can_read r.condition h.condition;
    has_one_bit = same_type r.condition h.condition ∙ h.has_one_bit;
    init = can_drive s r.init h.init;
  }

  pub addressed : (at under : Read) → IsAddressed leaves nodes at under → IsAddressed more other at under
  addressed at under h = record {
    address = can_read at h.address;
    unsigned = ap (λ (t : NumTy). t.signed) (same_type at h.address) ∙ h.unsigned;
    has_bits = subst (λ (t : NumTy). 1 ≤ t.width) (sym (same_type at h.address)) h.has_bits;
    enable = can_read under h.enable;
    has_one_bit = same_type under h.enable ∙ h.has_one_bit;
  }

  pub is_role : (s : Bool) (w : ℕ) (r : Role) → IsRole leaves nodes s w r → IsRole more other s w r
  is_role s w role.Input h = tt
  is_role s w role.Clock h = h
  is_role s w (role.Output r) h = can_drive s r h
  is_role s w (role.Wire r) h = can_drive s r h
  is_role s w (role.Register r) h = (clock_leaf r.clock h.0, can_be_reset s r.reset h.1, can_be_driven s r.next h.2)
  is_role s w (role.Reading r) h = addressed r.address r.enable h
  is_role s w (role.Pipe p) h = (clock_leaf p.clock h.0, addressed p.read.address p.read.enable h.1)
  is_role s w (role.ClockOutput c) h = (h.0, can_clock c h.1)
  is_role s w (role.ClockWire c) h = (h.0, can_clock c h.1)

  is_write : (s : Bool) (width : ℕ) (w : ArrayWrite) → IsArrayWrite leaves nodes s width w → IsArrayWrite more other s width w
  is_write s width w h = record {
    clock = clock_leaf w.clock h.clock;
    addressed = addressed w.address w.condition h.addressed;
    given = can_read w.given h.given;
    has_type = same_type w.given h.given ∙ h.has_type;
  }

  are_writes : (s : Bool) (width : ℕ) (ws : List ArrayWrite) → AllByRecursion (IsArrayWrite leaves nodes s width) ws → AllByRecursion (IsArrayWrite more other s width) ws
  are_writes s width [] h = tt
  are_writes s width (w ∷ ws) h = (is_write s width w h.0, are_writes s width ws h.1)

  is_array : (a : Array) → IsArray leaves nodes a → IsArray more other a
  is_array a h = record { narrow = h.narrow; has_words = h.has_words; writes = are_writes a.signed a.width a.writes h.writes }

  pub are_arrays : (xs : List Array) → AllByRecursion (IsArray leaves nodes) xs → AllByRecursion (IsArray more other) xs
  are_arrays [] h = tt
  are_arrays (a ∷ xs) h = (is_array a h.0, are_arrays xs h.1)

-- nodes over other leaves of the same kinds
pub are_nodes : (leaves more : List Leaf) → ((nodes : List Node) → Grown leaves nodes more nodes) → (before ns : List Node) → AreNodes leaves before ns → AreNodes more before ns
are_nodes leaves more g before [] h = tt
are_nodes leaves more g before (n ∷ ns) h = (is_node leaves before more before (g before) n h.0, are_nodes leaves more g (before ++ n ∷ []) ns h.1)

pub nodes_joined : (leaves : List Leaf) (before xs ys : List Node) → AreNodes leaves before xs → AreNodes leaves (before ++ xs) ys → AreNodes leaves before (xs ++ ys)
nodes_joined leaves before [] ys h g = subst (λ (b : List Node). AreNodes leaves b ys) (append-nil before) g
nodes_joined leaves before (x ∷ xs) ys h g =
    (h.0, nodes_joined leaves (before ++ x ∷ []) xs ys h.1 (subst (λ (b : List Node). AreNodes leaves b ys) (sym (append_assoc before (x ∷ []) xs)) g))
