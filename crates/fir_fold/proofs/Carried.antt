-- Reads that give way to others of the same types, over other leaves and nodes: what was a node, a role, a write or an array stays one.
use Rattle.std.proofs.Common.{◌≡◌, ℕ, ◌≤◌, List, [], ◌∷◌, map, Bool, refl, sym, ap, ◌∙◌, subst, inl, inr}
use Rattle.std.specs.Prelude.{Option, Some, None, option_map}
use Rattle.std.specs.List.{AllByRecursion}
use Rattle.fir_base.specs.Lists.{In}
use Rattle.fir_bits.specs.working.Types.{typed}
use Rattle.fir_bits.specs.declared.types.NumTy.{NumTy}
use Rattle.fir_net.specs.declared.array.Array.{Array}
use Rattle.fir_net.specs.declared.array.ArrayWrite.{ArrayWrite}
use Rattle.fir_net.specs.declared.leaf.Leaf.{Leaf}
use Rattle.fir_net.specs.declared.leaf.Reset.{Reset}
use Rattle.fir_net.specs.declared.leaf.Role.{Role}
use Rattle.fir_net.specs.declared.leaf.Role.TheVariants as role
use Rattle.fir_net.specs.declared.node.Node.{Node}
use Rattle.fir_net.specs.declared.node.Node.TheVariants as node
use Rattle.fir_net.specs.declared.reads.Read.{Read}
use Rattle.fir_net.specs.working.Dependence.{support_of}
use Rattle.fir_net.specs.working.IsNet.{node_type, read_type, CanRead, CanDrive, CanBeDriven, IsClock, CanBeClock, CanBeReset, IsAddressed, IsRole, IsChoice, IsNode, IsArrayWrite, IsArray}
use Rattle.fir_fold.specs.working.Standing.{node_read, role_read, write_read, written_array}

module _ (leaves : List Leaf) (nodes : List Node) (more : List Leaf) (other : List Node) (f : Read → Read) where
  pub record IsCarried (r : Read) : Type 0 where
    pub can : CanRead more other (f r)
    pub has_type : read_type more other (f r) ≡ read_type leaves nodes r

  can_all : (rs : List Read) → AllByRecursion (CanRead leaves nodes) rs → ((r : Read) → In rs r → CanRead leaves nodes r → IsCarried r) → AllByRecursion (CanRead more other) (map f rs)
  can_all [] h each = tt
  can_all (r ∷ rs) h each = ((each r (inl refl) h.0).can, can_all rs h.1 (λ x m can. each x (inr m) can))

  same_types : (rs : List Read) → AllByRecursion (CanRead leaves nodes) rs → ((r : Read) → In rs r → CanRead leaves nodes r → IsCarried r)
      → map (read_type more other) (map f rs) ≡ map (read_type leaves nodes) rs
  same_types [] h each = refl
  same_types (r ∷ rs) h each = rw ((each r (inl refl) h.0).has_type, same_types rs h.1 (λ x m can. each x (inr m) can)) refl

  -- a node whose operands are carried
  pub node_carried : (n : Node) → IsNode leaves nodes n → ((r : Read) → In (support_of n) r → CanRead leaves nodes r → IsCarried r) → IsNode more other (node_read f n)
  node_carried (node.Literal v) h each = h
  node_carried (node.Operation o) h each = record {
    reads = can_all o.reads h.reads each;
    has_type = ap (λ (ts : List NumTy). typed o.op ts o.integers) (same_types o.reads h.reads each) ∙ h.has_type;
  }
  node_carried (node.Mux m) h each = record {
    reads = can_all m.reads h.reads each;
    has_type = subst (IsChoice (node_type (node.Mux m))) (sym (same_types m.reads h.reads each)) h.has_type;
  }

  module _ (clock : (k : ℕ) → IsClock leaves k → IsClock more k) (each : (r : Read) → CanRead leaves nodes r → IsCarried r) where
    can_clock : (c : Option ℕ) → CanBeClock leaves c → CanBeClock more c
    can_clock None h = tt
    can_clock (Some k) h = clock k h

    pub can_drive : (s : Bool) (r : Read) → CanDrive leaves nodes s r → CanDrive more other s (f r)
    can_drive s r h = let c = each r h.can in record { can = c.can; kind = ap (λ (t : NumTy). t.signed) c.has_type ∙ h.kind }

    can_be_driven : (s : Bool) (r : Option Read) → CanBeDriven leaves nodes s r → CanBeDriven more other s (option_map f r)
    can_be_driven s None h = tt
    can_be_driven s (Some r) h = can_drive s r h

    can_be_reset : (s : Bool) (r : Option Reset) → CanBeReset leaves nodes s r → CanBeReset more other s (option_map (λ (x : Reset). record { kind = x.kind; condition = f x.condition; init = f x.init }) r)
    can_be_reset s None h = tt
    can_be_reset s (Some r) h = let c = each r.condition h.condition in record {
      condition = c.can;
      has_one_bit = c.has_type ∙ h.has_one_bit;
      init = can_drive s r.init h.init;
    }

    addressed : (at under : Read) → IsAddressed leaves nodes at under → IsAddressed more other (f at) (f under)
    addressed at under h =
        let a = each at h.address in
        let u = each under h.enable in
        record {
          address = a.can;
          unsigned = ap (λ (t : NumTy). t.signed) a.has_type ∙ h.unsigned;
          has_bits = subst (λ (t : NumTy). 1 ≤ t.width) (sym a.has_type) h.has_bits;
          enable = u.can;
          has_one_bit = u.has_type ∙ h.has_one_bit;
        }

    pub role_carried : (s : Bool) (w : ℕ) (r : Role) → IsRole leaves nodes s w r → IsRole more other s w (role_read f r)
    role_carried s w role.Input h = tt
    role_carried s w role.Clock h = h
    role_carried s w (role.Output r) h = can_drive s r h
    role_carried s w (role.Wire r) h = can_drive s r h
    role_carried s w (role.Register r) h = (clock r.clock h.0, can_be_reset s r.reset h.1, can_be_driven s r.next h.2)
    role_carried s w (role.Reading r) h = addressed r.address r.enable h
    role_carried s w (role.Pipe p) h = (clock p.clock h.0, addressed p.read.address p.read.enable h.1)
    role_carried s w (role.ClockOutput c) h = (h.0, can_clock c h.1)
    role_carried s w (role.ClockWire c) h = (h.0, can_clock c h.1)

    write_carried : (s : Bool) (width : ℕ) (w : ArrayWrite) → IsArrayWrite leaves nodes s width w → IsArrayWrite more other s width (write_read f w)
    write_carried s width w h =
        let g = each w.given h.given in
        record {
          clock = clock w.clock h.clock;
          addressed = addressed w.address w.condition h.addressed;
          given = g.can;
          has_type = g.has_type ∙ h.has_type;
        }

    writes_carried : (s : Bool) (width : ℕ) (ws : List ArrayWrite) → AllByRecursion (IsArrayWrite leaves nodes s width) ws → AllByRecursion (IsArrayWrite more other s width) (map (write_read f) ws)
    writes_carried s width [] h = tt
    writes_carried s width (w ∷ ws) h = (write_carried s width w h.0, writes_carried s width ws h.1)

    array_carried : (a : Array) → IsArray leaves nodes a → IsArray more other (written_array f a)
    array_carried a h = record { narrow = h.narrow; has_words = h.has_words; writes = writes_carried a.signed a.width a.writes h.writes }

    pub arrays_carried : (xs : List Array) → AllByRecursion (IsArray leaves nodes) xs → AllByRecursion (IsArray more other) (map (written_array f) xs)
    arrays_carried [] h = tt
    arrays_carried (a ∷ xs) h = (array_carried a h.0, arrays_carried xs h.1)
