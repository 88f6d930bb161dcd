-- What is read of kept leaves and nodes, under new numbers, is of the same type; so each role, write and node is still one.
use Rattle.std.proofs.Common.{◌≡◌, ℕ, List, [], ◌∷◌, map, Some, None, Bool, true, refl, ap, sym, ◌∙◌, subst, inl, inr, option_map}
use Rattle.std.specs.Prelude.{Option}
use Rattle.std.specs.List.{AllByRecursion}
use Rattle.fir_base.proofs.Members.{in_left, in_right}
use Rattle.fir_bits.specs.working.Types.{typed}
use Rattle.fir_bits.specs.declared.types.NumTy.{NumTy}
use Rattle.fir_net.specs.declared.array.ArrayWrite.{ArrayWrite}
use Rattle.fir_net.specs.declared.leaf.Leaf.{Leaf}
use Rattle.fir_net.specs.declared.leaf.Reset.{Reset}
use Rattle.fir_net.specs.declared.leaf.Role.{Role}
use Rattle.fir_net.specs.declared.leaf.Role.TheVariants as role
use Rattle.fir_net.specs.declared.node.Node.{Node}
use Rattle.fir_net.specs.declared.node.Node.TheVariants as node
use Rattle.fir_net.specs.declared.reads.Read.{Read}
use Rattle.fir_net.specs.declared.reads.Read.TheVariants as read
use Rattle.fir_net.specs.working.Dependence.{support_of}
use Rattle.fir_net.specs.working.IsNet.{CanBeDriven, CanBeReset, CanDrive, CanRead, IsAddressed, IsArrayWrite, IsChoice, IsClock, IsNode, IsRole, is_port, is_state, node_type, read_type}
use Rattle.fir_net.specs.working.Settled.{is_clock}
use Rattle.fir_drop_dead.specs.working.IsLive.{optional_read, whole_reset_reads, whole_role_reads, write_reads}
use Rattle.fir_drop_dead.specs.working.Marks.{Marked, has, mark_at}
use Rattle.fir_drop_dead.specs.working.Moved.{moved_node, moved_read, moved_reset, moved_role, moved_write}
use Rattle.fir_drop_dead.specs.working.Needed.{AreMarked}
use Rattle.fir_drop_dead.specs.working.Numbers.{place}

module _ (m : Marked) where
  -- a role keeps its kind
  pub same_clock : (r : Role) → is_clock (moved_role m r) ≡ is_clock r
  same_clock role.Input = refl
  same_clock role.Clock = refl
  same_clock (role.Output r) = refl
  same_clock (role.Wire r) = refl
  same_clock (role.Register r) = refl
  same_clock (role.Reading r) = refl
  same_clock (role.Pipe p) = refl
  same_clock (role.ClockOutput c) = refl
  same_clock (role.ClockWire c) = refl

  pub same_port : (r : Role) → is_port (moved_role m r) ≡ is_port r
  same_port role.Input = refl
  same_port role.Clock = refl
  same_port (role.Output r) = refl
  same_port (role.Wire r) = refl
  same_port (role.Register r) = refl
  same_port (role.Reading r) = refl
  same_port (role.Pipe p) = refl
  same_port (role.ClockOutput c) = refl
  same_port (role.ClockWire c) = refl

  pub same_state : (r : Role) → is_state (moved_role m r) ≡ is_state r
  same_state role.Input = refl
  same_state role.Clock = refl
  same_state (role.Output r) = refl
  same_state (role.Wire r) = refl
  same_state (role.Register r) = refl
  same_state (role.Reading r) = refl
  same_state (role.Pipe p) = refl
  same_state (role.ClockOutput c) = refl
  same_state (role.ClockWire c) = refl

  pub same_node_type : (n : Node) → node_type (moved_node m n) ≡ node_type n
  same_node_type (node.Literal v) = refl
  same_node_type (node.Operation o) = refl
  same_node_type (node.Mux x) = refl

  -- kept leaves and nodes over the new lists
  pub record Moves (leaves others : List Leaf) (nodes few : List Node) : Type 0 where
    pub can : (r : Read) → CanRead leaves nodes r → has m r ≡ true → CanRead others few (moved_read m r)
    pub type : (r : Read) → CanRead leaves nodes r → has m r ≡ true → read_type others few (moved_read m r) ≡ read_type leaves nodes r
    pub clock : (k : ℕ) → IsClock leaves k → mark_at m.leaves k ≡ true → IsClock others (place m.leaves k)

  module _ (leaves others : List Leaf) (nodes few : List Node) (moves : Moves leaves others nodes few) where
    abbrev type : Read → NumTy
    type = read_type leaves nodes

    abbrev new_type : Read → NumTy
    new_type = read_type others few

    drive_moved : (signed : Bool) (r : Read) → CanDrive leaves nodes signed r → has m r ≡ true → CanDrive others few signed (moved_read m r)
    drive_moved signed r is h = record {
      can = moves.can r is.can h;
      kind = ap (λ (t : NumTy). t.signed) (moves.type r is.can h) ∙ is.kind;
    }

    next_moved : (signed : Bool) (r : Option Read) → CanBeDriven leaves nodes signed r → AreMarked m (optional_read r)
        → CanBeDriven others few signed (option_map (moved_read m) r)
    next_moved signed None is h = tt
    next_moved signed (Some r) is h = drive_moved signed r is (h r (inl refl))

    reset_moved : (signed : Bool) (r : Option Reset) → CanBeReset leaves nodes signed r → AreMarked m (whole_reset_reads r)
        → CanBeReset others few signed (option_map (moved_reset m) r)
    reset_moved signed None is h = tt
    reset_moved signed (Some r) is h =
        let condition = h r.condition (inl refl) in
        record {
          condition = moves.can r.condition is.condition condition;
          has_one_bit = moves.type r.condition is.condition condition ∙ is.has_one_bit;
          init = drive_moved signed r.init is.init (h r.init (inr (inl refl)));
        }

    addressed_moved : (at under : Read) → IsAddressed leaves nodes at under → has m at ≡ true → has m under ≡ true
        → IsAddressed others few (moved_read m at) (moved_read m under)
    addressed_moved at under is h g =
        let same = moves.type at is.address h in
        record {
          address = moves.can at is.address h;
          unsigned = ap (λ (t : NumTy). t.signed) same ∙ is.unsigned;
          has_bits = rw same is.has_bits;
          enable = moves.can under is.enable g;
          has_one_bit = moves.type under is.enable g ∙ is.has_one_bit;
        }

    pub role_moved : (signed : Bool) (width : ℕ) (r : Role) → IsRole leaves nodes signed width r → AreMarked m (whole_role_reads r)
        → IsRole others few signed width (moved_role m r)
    role_moved signed width role.Input is h = tt
    role_moved signed width role.Clock is h = is
    role_moved signed width (role.Output r) is h = drive_moved signed r is (h r (inl refl))
    role_moved signed width (role.Wire r) is h = drive_moved signed r is (h r (inl refl))
    role_moved signed width (role.Register r) is h =
        let front = read.Leaf r.clock ∷ whole_reset_reads r.reset in (
          moves.clock r.clock is.0 (h (read.Leaf r.clock) (inl refl)),
          reset_moved signed r.reset is.1 (λ v n. h v (in_left front (optional_read r.next) v (inr n))),
          next_moved signed r.next is.2 (λ v n. h v (in_right front (optional_read r.next) v n)),
        )
    role_moved signed width (role.Reading r) is h = addressed_moved r.address r.enable is (h r.address (inl refl)) (h r.enable (inr (inl refl)))
    role_moved signed width (role.Pipe p) is h = (
      moves.clock p.clock is.0 (h (read.Leaf p.clock) (inl refl)),
      addressed_moved p.read.address p.read.enable is.1 (h p.read.address (inr (inl refl))) (h p.read.enable (inr (inr (inl refl)))),
    )
    role_moved signed width (role.ClockOutput None) is h = (is.0, tt)
    role_moved signed width (role.ClockOutput (Some k)) is h = (is.0, moves.clock k is.1 (h (read.Leaf k) (inl refl)))
    role_moved signed width (role.ClockWire None) is h = (is.0, tt)
    role_moved signed width (role.ClockWire (Some k)) is h = (is.0, moves.clock k is.1 (h (read.Leaf k) (inl refl)))

    pub write_moved : (signed : Bool) (width : ℕ) (w : ArrayWrite) → IsArrayWrite leaves nodes signed width w → AreMarked m (write_reads w)
        → IsArrayWrite others few signed width (moved_write m w)
    write_moved signed width w is h =
        let given = h w.given (inr (inr (inr (inl refl)))) in
        record {
          clock = moves.clock w.clock is.clock (h (read.Leaf w.clock) (inl refl));
          addressed = addressed_moved w.address w.condition is.addressed (h w.address (inr (inr (inl refl)))) (h w.condition (inr (inl refl)));
          given = moves.can w.given is.given given;
          has_type = moves.type w.given is.given given ∙ is.has_type;
        }

    all_can : (rs : List Read) → AllByRecursion (CanRead leaves nodes) rs → AreMarked m rs → AllByRecursion (CanRead others few) (map (moved_read m) rs)
    all_can [] can h = tt
    all_can (r ∷ rs) can h = (moves.can r can.0 (h r (inl refl)), all_can rs can.1 (λ v n. h v (inr n)))

    all_types : (rs : List Read) → AllByRecursion (CanRead leaves nodes) rs → AreMarked m rs → map new_type (map (moved_read m) rs) ≡ map type rs
    all_types [] can h = refl
    all_types (r ∷ rs) can h = λ i. moves.type r can.0 (h r (inl refl)) i ∷ all_types rs can.1 (λ v n. h v (inr n)) i

    pub node_moved : (n : Node) → IsNode leaves nodes n → AreMarked m (support_of n) → IsNode others few (moved_node m n)
    node_moved (node.Literal v) is h = is
    node_moved (node.Operation o) is h = record {
      reads = all_can o.reads is.reads h;
      has_type = ap (λ (ts : List NumTy). typed o.op ts o.integers) (all_types o.reads is.reads h) ∙ is.has_type;
    }
    node_moved (node.Mux x) is h = record {
      reads = all_can x.reads is.reads h;
      has_type = subst (IsChoice (node_type (node.Mux x))) (sym (all_types x.reads is.reads h)) is.has_type;
    }
