-- The names that right sides read, where the nets of the operands are known.
-- Extending, cutting and joining name no other nets.
use Rattle.std.proofs.Common.{ℕ, ◌+◌, ◌-◌, min, max, Bool, true, false, ◌&&◌, not, if◌then◌else◌, List, [], ◌∷◌, ◌++◌}
use Rattle.std.specs.Prelude.{nat_eq, nat_lt, nat_le}
use Rattle.std.specs.List.{AllByRecursion}
use Rattle.std.proofs.lemmas.Bool.{cond_both}
use Rattle.fir_base.specs.Lists.{In, EachIn}
use Rattle.fir_base.proofs.Each.{each_joined, each_parts, all_joined}
use Rattle.fir_bits.specs.declared.operators.PrimOp.{PrimOp}
use Rattle.fir_bits.specs.declared.operators.PrimOp.TheVariants as op
use Rattle.ver_ast.specs.declared.tree.Rhs.{Rhs}
use Rattle.ver_ast.specs.declared.tree.Rhs.TheVariants as rhs
use Rattle.ver_ast.specs.declared.tree.UnaryOp.{UnaryOp}
use Rattle.ver_ast.specs.declared.tree.UnaryOp.TheVariants as unary
use Rattle.ver_ast.specs.declared.tree.BinaryOp.{BinaryOp}
use Rattle.ver_ast.specs.declared.tree.BinaryOp.TheVariants as binary
use Rattle.ver_ast.specs.declared.tree.SignedOp.{SignedOp}
use Rattle.ver_ast.specs.declared.tree.SignedOp.TheVariants as signed
use Rattle.ver_ast.specs.Atoms.{AtomTree, net, constant, bit_select, part_select, repeat, atoms_of}
use Rattle.ver_ast.specs.Names.{atom_names, joined_names, rhs_atoms, rhs_names}
use Rattle.ver_build.specs.declared.held.Part.{Part}
use Rattle.ver_build.specs.declared.held.Source.{Source}
use Rattle.ver_build.specs.declared.held.Source.TheVariants as source
use Rattle.ver_build.specs.declared.held.Held.{Held}
use Rattle.ver_build.specs.working.Held.{empty, cut, fit_source, fit}
use Rattle.ver_build.specs.working.Operands.{selected, bits_of_net, kept_bits, top_bit, copies_of, zeros, extension, source_parts, parts, side_by_side, atom_at, net_field, source_field, field, shifted, amount}
use Rattle.ver_build.specs.working.Places.{source_name}
use Rattle.ver_build.specs.working.Texts.{joined, compared_width, between, compared, reduced, shifted_down, one_rhs}
use Rattle.ver_build.proofs.Standing.{IsKnown}

module _ (known : List (List ℕ)) where
  -- the names of an operand are known
  abbrev pub Reads : AtomTree → Type 0
  Reads a = EachIn (atom_names a) known

  abbrev All : List AtomTree → Type 0
  All = AllByRecursion Reads

  abbrev Knows : Source → Type 0
  Knows s = EachIn (source_name s) known

  selected_known : (name : List ℕ) (hi lo : ℕ) → In known name → Reads (selected name hi lo)
  selected_known name hi lo m = cond_both (nat_eq hi lo) (bit_select name lo) (part_select name hi lo) Reads (λ e. (m, tt)) (λ e. (m, tt))

  net_known : (p : Part) (hi lo : ℕ) → In known p.name → Reads (bits_of_net p hi lo)
  net_known p hi lo m = cond_both (nat_eq p.own 1) (net p.name) (selected p.name hi lo) Reads (λ e. (m, tt)) (λ e. selected_known p.name hi lo m)

  kept_known : (p : Part) → In known p.name → Reads (kept_bits p)
  kept_known p m =
      cond_both (nat_eq p.own p.kept) (net p.name) (selected p.name (p.kept - 1) 0) Reads (λ e. (m, tt)) (λ e. selected_known p.name (p.kept - 1) 0 m)

  zeros_known : (w : ℕ) → All (zeros w)
  zeros_known w = cond_both (nat_eq w 0) [] (constant w 0 ∷ []) All (λ e. tt) (λ e. (tt, tt))

  extension_known : (signed : Bool) (p : Part) (w : ℕ) → In known p.name → All (extension signed p w)
  extension_known signed p w m =
      cond_both (nat_eq w 0) [] (if signed then (copies_of w (top_bit p) ∷ []) else (constant w 0 ∷ [])) All (λ e. tt) (λ e. above signed)
    where
      above : (signed : Bool) → All (if signed then (copies_of w (top_bit p) ∷ []) else (constant w 0 ∷ []))
      above true =
          let top = net_known p (p.kept - 1) (p.kept - 1) m in
          (cond_both (nat_eq w 1) (top_bit p) (repeat w (top_bit p)) Reads (λ e. top) (λ e. top), tt)
      above false = (tt, tt)

  source_known : (signed : Bool) (w : ℕ) (s : Source) → Knows s → All (source_parts signed w s)
  source_known signed w (source.Number v) m = (tt, tt)
  source_known signed w (source.Net p) m =
      all_joined Reads (extension signed p (w - p.kept)) (kept_bits p ∷ []) (extension_known signed p (w - p.kept) m.0) (kept_known p m.0, tt)

  parts_known : (h : Held) → IsKnown known h → All (parts h)
  parts_known h m = cond_both (nat_eq h.width 0) [] (source_parts h.signed h.width h.source) All (λ e. tt)
      (λ e. source_known h.signed h.width h.source m)

  joined_known : (atoms : List AtomTree) → All atoms → EachIn (joined_names (atoms_of atoms)) known
  joined_known [] h = tt
  joined_known (a ∷ atoms) h = each_joined (atom_names a) (joined_names (atoms_of atoms)) known h.0 (joined_known atoms h.1)

  side_known : (atoms : List AtomTree) → All atoms → Reads (side_by_side atoms)
  side_known [] h = tt
  side_known (a ∷ []) h = h.0
  side_known (a ∷ b ∷ more) h = joined_known (a ∷ b ∷ more) h

  pub fit_known : (signed : Bool) (w : ℕ) (s : Source) → Knows s → Knows (fit_source signed w s)
  fit_known signed w (source.Number v) m = tt
  fit_known signed w (source.Net p) m = cond_both (nat_eq w 0) (source.Number empty) (source.Net (cut w p)) Knows (λ e. tt) (λ e. m)

  -- a value as an operand
  pub atom_known : (w : ℕ) (h : Held) → IsKnown known h → Reads (atom_at w h)
  atom_known w h m = side_known (parts (fit w h)) (parts_known (fit w h) (fit_known h.signed w h.source m))

  net_field_known : (signed : Bool) (w hi lo : ℕ) (p : Part) → In known p.name → All (net_field signed w hi lo p)
  net_field_known signed w hi lo p m =
      let top = min hi (p.kept - 1) in
      let above = w - (top + 1 - lo) in
      cond_both (nat_le p.kept lo) (extension signed p w) (extension signed p above ++ bits_of_net p top lo ∷ []) All
      (λ e. extension_known signed p w m)
      (λ e. all_joined Reads (extension signed p above) (bits_of_net p top lo ∷ []) (extension_known signed p above m) (net_known p top lo m, tt))

  field_known : (w hi lo : ℕ) (h : Held) → IsKnown known h → All (field w hi lo h)
  field_known w hi lo h m = of_source h.source m
    where
      of_source : (s : Source) → Knows s → All (source_field h.signed w hi lo s)
      of_source (source.Number v) m = (tt, tt)
      of_source (source.Net p) m = net_field_known h.signed w hi lo p m.0

  shifted_known : (w n : ℕ) (h : Held) → IsKnown known h → All (shifted w n h)
  shifted_known w n h m =
      let top = h.width - 1 in
      cond_both (nat_lt n h.width) (field w top n h) (if h.signed && not (nat_eq h.width 0) then field 1 top top h else zeros w) All
      (λ e. field_known w top n h m)
      (λ e. cond_both (h.signed && not (nat_eq h.width 0)) (field 1 top top h) (zeros w) All (λ e. field_known 1 top top h m) (λ e. zeros_known w))

  -- the operands of a right side read what is known
  abbrev pub SideReads : Rhs → Type 0
  SideReads r = AllByRecursion Reads (rhs_atoms r)

  pub side_names : (r : Rhs) → SideReads r → EachIn (rhs_names r) known
  side_names r h = each_parts atom_names (rhs_atoms r) known h

  pub between_known : (s : SignedOp) (o : BinaryOp) (w : ℕ) (a : Held) (b : AtomTree) → IsKnown known a → Reads b → SideReads (between s o w a b)
  between_known s o w a b m k =
      cond_both a.signed (rhs.Signed (atom_at w a) s b) (rhs.Binary (atom_at w a) o b) SideReads (λ e. (atom_known w a m, (k, tt)))
      (λ e. (atom_known w a m, (k, tt)))

  -- an operation with one net
  module _ (r : ℕ) (a b : Held) (n m : ℕ) (is_a : IsKnown known a) (is_b : IsKnown known b) where
    both_known : (o : BinaryOp) (w : ℕ) → SideReads (rhs.Binary (atom_at w a) o (atom_at w b))
    both_known o w = (atom_known w a is_a, (atom_known w b is_b, tt))

    compared_known : (s : SignedOp) (o : BinaryOp) → SideReads (compared s o a b)
    compared_known s o = between_known s o (compared_width a b) a (atom_at (compared_width a b) b) is_a (atom_known (compared_width a b) b is_b)

    reduced_known : (o : UnaryOp) (none : ℕ) → SideReads (reduced o none a)
    reduced_known o none =
        cond_both (nat_eq a.width 0) (rhs.Atom (constant 1 none)) (rhs.Unary o (atom_at a.width a)) SideReads (λ e. (tt, tt))
        (λ e. (atom_known a.width a is_a, tt))

    by_amount : SideReads (shifted_down r a b)
    by_amount =
        let first = atom_known r a is_a in
        let by = atom_known (max 1 b.width) b is_b in
        cond_both a.signed (rhs.SignedShift (atom_at r a) (amount b)) (rhs.Binary (atom_at r a) binary.Shr (amount b)) SideReads
        (λ e. (first, (by, tt))) (λ e. (first, (by, tt)))

    alone_known : (atoms : List AtomTree) → All atoms → SideReads (joined atoms)
    alone_known atoms h = (side_known atoms h, tt)

    pub one_known : (o : PrimOp) → SideReads (one_rhs o r a b n m)
    one_known op.Add = both_known binary.Add r
    one_known op.Sub = both_known binary.Sub r
    one_known op.Mul = both_known binary.Mul r
    one_known op.Lt = compared_known signed.Lt binary.Lt
    one_known op.Leq = compared_known signed.Leq binary.Leq
    one_known op.Gt = compared_known signed.Gt binary.Gt
    one_known op.Geq = compared_known signed.Geq binary.Geq
    one_known op.Eq = both_known binary.Eq (compared_width a b)
    one_known op.Neq = both_known binary.Neq (compared_width a b)
    one_known op.Shl = alone_known (parts a ++ zeros (r - a.width))
        (all_joined Reads (parts a) (zeros (r - a.width)) (parts_known a is_a) (zeros_known (r - a.width)))
    one_known op.Shr = alone_known (shifted r n a) (shifted_known r n a is_a)
    one_known op.Dshl = (atom_known r a is_a, (atom_known (max 1 b.width) b is_b, tt))
    one_known op.Dshr = by_amount
    one_known op.Neg = (tt, (atom_known r a is_a, tt))
    one_known op.And = both_known binary.And r
    one_known op.Or = both_known binary.Or r
    one_known op.Xor = both_known binary.Xor r
    one_known op.Andr = reduced_known unary.And 1
    one_known op.Orr = reduced_known unary.Or 0
    one_known op.Xorr = reduced_known unary.Xor 0
    one_known op.Cat = alone_known (parts a ++ parts b) (all_joined Reads (parts a) (parts b) (parts_known a is_a) (parts_known b is_b))
    one_known op.Bits = alone_known (field r n m a) (field_known r n m a is_a)
    one_known op.Head = alone_known (field r (a.width - 1) (a.width - n) a) (field_known r (a.width - 1) (a.width - n) a is_a)
    one_known _ = (atom_known r a is_a, tt)
