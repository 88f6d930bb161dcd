-- A tree keeps what a name is declared atoms in another: then what is sound there by these names is sound here.
use Rattle.std.proofs.Common.{◌≡◌, ℕ, ◌*◌, ◌≤◌, List, [], ◌∷◌, ◌++◌, flat_map, Bool, refl, sym, ap, ◌∙◌, inl, inr, ⊎_elim, subst, arith}
use Rattle.std.specs.Prelude.{Option, Some, None}
use Rattle.std.specs.List.{AllByRecursion}
use Rattle.fir_base.specs.Lists.{In}
use Rattle.fir_base.proofs.Members.{in_left, in_right, in_either, in_flat_map, in_flat_map_from}
use Rattle.ver_ast.specs.declared.tree.Verilog.{Verilog}
use Rattle.ver_ast.specs.declared.tree.Edge.{Edge}
use Rattle.ver_ast.specs.declared.tree.Write.{Write}
use Rattle.ver_ast.specs.declared.tree.Assign.{Assign}
use Rattle.ver_ast.specs.declared.tree.Rhs.{Rhs}
use Rattle.ver_ast.specs.declared.tree.Rhs.TheVariants as rhs
use Rattle.ver_ast.specs.Atoms.{AtomTree, net, constant, bit_select, part_select, concat, repeat, AtomTrees, no_atoms, atom_before}
use Rattle.ver_ast.specs.AtomWidths.{atom_width, joined_width}
use Rattle.ver_ast.specs.Names.{atom_names, joined_names, rhs_atoms, rhs_names}
use Rattle.ver_ast.specs.ItemNames.{rhs_arrays, edge_names, write_names}
use Rattle.ver_ast.specs.Nets.{SizedNet, Variable, AlwaysBlock, plain_block, resetting_block, writing_block, nets, regs, clocks, output_clocks, wires, output_nets, arrays, width_among}
use Rattle.ver_ast.specs.SoundSides.{IsSound, AreSound, IsOperand, HasWidth, IsSoundSide, HasSideWidths, KeepsRule, KeepsUnary, binary_rule, signed_rule}
use Rattle.ver_ast.specs.Valid.{IsEdge, IsWrite, AreWrites, IsSoundBlock, IsClockSide}
use Rattle.ver_valid.specs.declared.declared.Declared.{Declared}
use Rattle.ver_valid.specs.working.Declarations.{entries}
use Rattle.ver_valid.specs.working.Kinds.{net_width, register_width, wire_width, output_width, is_clock_input, is_clock_output, sized, chosen, array_of, array_entry}
use Rattle.ver_valid.specs.working.Scopes.{IsFine, driven_nets}
use Rattle.ver_valid.specs.working.Walks.{IsNextAssign}
use Rattle.ver_valid.proofs.Entries.{nets_are, regs_are, wires_are, outputs_are, clocks_are, output_clocks_are, arrays_are}
use Rattle.ver_valid.proofs.EntryKinds.{in_sized, in_chosen, in_array}
use Rattle.ver_valid.proofs.Fine.{fine_width, width_of_net}

abbrev pub Keeps : Verilog → Verilog → List ℕ → Type 0
Keeps v u n = (d : Declared) → In (entries v) (n, d) → In (entries u) (n, d)

-- each of the names is kept
pub record KeepsAll (v u : Verilog) (ns : List (List ℕ)) : Type 0 where
  pub each : (n : List ℕ) → In ns n → Keeps v u n

-- the names that a block uses
abbrev pub block_names : AlwaysBlock → List (List ℕ)
block_names (plain_block b) = b.clock ∷ b.target ∷ atom_names b.source
block_names (resetting_block b) = b.reset ∷ b.tested ∷ b.target ∷ edge_names b.edge
block_names (writing_block b) = b.clock ∷ flat_map write_names b.writes

module _ (v u : Verilog) where
  pub keeps_left : (xs ys : List (List ℕ)) → KeepsAll v u (xs ++ ys) → KeepsAll v u xs
  keeps_left xs ys k = record { each = λ n m. k.each n (in_left xs ys n m) }

  pub keeps_right : (xs ys : List (List ℕ)) → KeepsAll v u (xs ++ ys) → KeepsAll v u ys
  keeps_right xs ys k = record { each = λ n m. k.each n (in_right xs ys n m) }

  pub keeps_rest : (x : List ℕ) (xs : List (List ℕ)) → KeepsAll v u (x ∷ xs) → KeepsAll v u xs
  keeps_rest x xs k = record { each = λ n m. k.each n (inr m) }

  -- what is read of the entries of a name
  kept_size : (width : Declared → Option ℕ) (n : List ℕ) (w : ℕ) → Keeps v u n → In (flat_map (sized width) (entries v)) (n, w)
      → In (flat_map (sized width) (entries u)) (n, w)
  kept_size width n w k m =
      let r = in_flat_map_from (sized width) (entries v) (n, w) m in
      let s = in_sized r.0.0 (width r.0.1) n w r.2 in
      let entry : In (entries u) (n, r.0.1) = k r.0.1 (subst (λ (x : List ℕ). In (entries v) (x, r.0.1)) s.0 r.1) in
      in_flat_map (sized width) (entries u) (n, r.0.1) (n, w) entry (subst (λ (x : List ℕ). In (sized width (x, r.0.1)) (n, w)) s.0 r.2)

  kept_name : (test : Declared → Bool) (n : List ℕ) → Keeps v u n → In (flat_map (chosen test) (entries v)) n → In (flat_map (chosen test) (entries u)) n
  kept_name test n k m =
      let r = in_flat_map_from (chosen test) (entries v) n m in
      let s = in_chosen r.0.0 (test r.0.1) n r.2 in
      let entry : In (entries u) (n, r.0.1) = k r.0.1 (subst (λ (x : List ℕ). In (entries v) (x, r.0.1)) s.0 r.1) in
      in_flat_map (chosen test) (entries u) (n, r.0.1) n entry (subst (λ (x : List ℕ). In (chosen test (x, r.0.1)) n) s.0 r.2)

  pub kept_net : (n : List ℕ) (w : ℕ) → Keeps v u n → In (nets v) (n, w) → In (nets u) (n, w)
  kept_net n w k m =
      subst (λ (xs : List SizedNet). In xs (n, w)) (sym (nets_are u))
      (kept_size net_width n w k (subst (λ (xs : List SizedNet). In xs (n, w)) (nets_are v) m))

  pub kept_register : (n : List ℕ) (w : ℕ) → Keeps v u n → In (regs v) (n, w) → In (regs u) (n, w)
  kept_register n w k m =
      subst (λ (xs : List SizedNet). In xs (n, w)) (sym (regs_are u))
      (kept_size register_width n w k (subst (λ (xs : List SizedNet). In xs (n, w)) (regs_are v) m))

  pub kept_driven : (n : List ℕ) (w : ℕ) → Keeps v u n → In (driven_nets v) (n, w) → In (driven_nets u) (n, w)
  kept_driven n w k m =
      ⊎_elim
      (λ (i : In (wires v) (n, w)). in_left (wires u) (output_nets u) (n, w) (subst (λ (xs : List SizedNet). In xs (n, w)) (sym (wires_are u))
      (kept_size wire_width n w k (subst (λ (xs : List SizedNet). In xs (n, w)) (wires_are v) i))))
      (λ (i : In (output_nets v) (n, w)). in_right (wires u) (output_nets u) (n, w) (subst (λ (xs : List SizedNet). In xs (n, w)) (sym (outputs_are u))
      (kept_size output_width n w k (subst (λ (xs : List SizedNet). In xs (n, w)) (outputs_are v) i))))
      (in_either (wires v) (output_nets v) (n, w) m)

  pub kept_clock : (n : List ℕ) → Keeps v u n → In (clocks v) n → In (clocks u) n
  kept_clock n k m =
      subst (λ (xs : List (List ℕ)). In xs n) (sym (clocks_are u))
      (kept_name is_clock_input n k (subst (λ (xs : List (List ℕ)). In xs n) (clocks_are v) m))

  pub kept_clock_output : (n : List ℕ) → Keeps v u n → In (output_clocks v) n → In (output_clocks u) n
  kept_clock_output n k m =
      subst (λ (xs : List (List ℕ)). In xs n) (sym (output_clocks_are u))
      (kept_name is_clock_output n k (subst (λ (xs : List (List ℕ)). In xs n) (output_clocks_are v) m))

  pub kept_array : (n : List ℕ) (a : Variable) → Keeps v u n → a.name ≡ n → In (arrays v) a → In (arrays u) a
  kept_array n a k name m =
      let r = in_flat_map_from array_entry (entries v) a (subst (λ (xs : List Variable). In xs a) (arrays_are v) m) in
      let own : r.0.0 ≡ n = sym (in_array r.0.0 r.0.1 a r.2) ∙ name in
      let entry : In (entries u) (n, r.0.1) = k r.0.1 (subst (λ (x : List ℕ). In (entries v) (x, r.0.1)) own r.1) in
      subst (λ (xs : List Variable). In xs a) (sym (arrays_are u))
      (in_flat_map array_entry (entries u) (n, r.0.1) a entry (subst (λ (x : List ℕ). In (array_of x r.0.1) a) own r.2))

  module _ (fine : IsFine u) where
    kept_width : (n : List ℕ) → Keeps v u n → 1 ≤ width_among (nets v) n → width_among (nets u) n ≡ width_among (nets v) n
    kept_width n k one = fine_width u fine n (width_among (nets v) n) (kept_net n (width_among (nets v) n) k (width_of_net (nets v) n one))

    mutual
      pub kept_sound : (a : AtomTree) → KeepsAll v u (atom_names a) → IsSound (nets v) a → IsSound (nets u) a × (atom_width (nets u) a ≡ atom_width (nets v) a)
      kept_sound (net n) k s = let same = kept_width n (k.each n (inl refl)) s in (omega arith, same)
      kept_sound (constant width value) k s = (s, refl)
      kept_sound (bit_select n i) k s =
          let two = s.0 in let within = s.1 in
          let same = kept_width n (k.each n (inl refl)) (omega arith) in
          ((omega arith, omega arith), refl)
      kept_sound (part_select n hi lo) k s =
          let two = s.0 in let order = s.1 in let within = s.2 in
          let same = kept_width n (k.each n (inl refl)) (omega arith) in
          ((omega arith, omega arith, omega arith), refl)
      kept_sound (concat a more) k s =
          let first = kept_sound a (keeps_left (atom_names a) (joined_names more) k) s.0 in
          let others = kept_joined more (keeps_right (atom_names a) (joined_names more) k) s.1 in
          let small = s.2 in let one = first.1 in let two = others.1 in
          ((first.0, others.0, omega arith), omega arith)
      kept_sound (repeat count a) k s =
          let copied = kept_sound a k s.0 in
          let same = ap (λ (x : ℕ). count * x) copied.1 in
          ((copied.0, s.1, subst (λ (x : ℕ). x ≤ 128) (sym same) s.2), same)

      pub kept_joined : (more : AtomTrees) → KeepsAll v u (joined_names more) → AreSound (nets v) more
          → AreSound (nets u) more × (joined_width (nets u) more ≡ joined_width (nets v) more)
      kept_joined no_atoms k s = (tt, refl)
      kept_joined (atom_before a more) k s =
          let first = kept_sound a (keeps_left (atom_names a) (joined_names more) k) s.0 in
          let others = kept_joined more (keeps_right (atom_names a) (joined_names more) k) s.1 in
          let one = first.1 in let two = others.1 in
          ((first.0, others.0), omega arith)

    pub kept_operand : (a : AtomTree) → KeepsAll v u (atom_names a) → IsOperand (nets v) a → IsOperand (nets u) a
    kept_operand a k o = record { sound = (kept_sound a k o.sound).0; shallow = o.shallow }

    same_width : (a : AtomTree) → KeepsAll v u (atom_names a) → IsOperand (nets v) a → atom_width (nets v) a ≡ atom_width (nets u) a
    same_width a k o = sym (kept_sound a k o.sound).1

    pub kept_wide : (w : ℕ) (a : AtomTree) → KeepsAll v u (atom_names a) → HasWidth (nets v) w a → HasWidth (nets u) w a
    kept_wide w a k h = record { operand = kept_operand a k h.operand; wide = (kept_sound a k h.operand.sound).1 ∙ h.wide }

    kept_atoms : (atoms : List AtomTree) → KeepsAll v u (flat_map atom_names atoms) → AllByRecursion (IsOperand (nets v)) atoms → AllByRecursion (IsOperand (nets u)) atoms
    kept_atoms [] k h = tt
    kept_atoms (a ∷ atoms) k h = (
      kept_operand a (keeps_left (atom_names a) (flat_map atom_names atoms) k) h.0,
      kept_atoms atoms (keeps_right (atom_names a) (flat_map atom_names atoms) k) h.1,
    )

    pub kept_side : (w : ℕ) (r : Rhs) → KeepsAll v u (rhs_arrays r ++ rhs_names r) → IsSoundSide (nets v) (arrays v) w r → IsSoundSide (nets u) (arrays u) w r
    kept_side w r k s = record {
      operands = kept_atoms (rhs_atoms r) (keeps_right (rhs_arrays r) (rhs_names r) k) s.operands;
      widths = by r k s.operands s.widths;
    }
      where
        one : (a : AtomTree) (atoms : List AtomTree) → KeepsAll v u (atom_names a ++ flat_map atom_names atoms) → AllByRecursion (IsOperand (nets v)) (a ∷ atoms)
            → atom_width (nets v) a ≡ atom_width (nets u) a
        one a atoms k h = same_width a (keeps_left (atom_names a) (flat_map atom_names atoms) k) h.0

        two : (a b : AtomTree) (atoms : List AtomTree) → KeepsAll v u (atom_names a ++ (atom_names b ++ flat_map atom_names atoms))
            → AllByRecursion (IsOperand (nets v)) (a ∷ b ∷ atoms) → atom_width (nets v) b ≡ atom_width (nets u) b
        two a b atoms k h = one b atoms (keeps_right (atom_names a) (atom_names b ++ flat_map atom_names atoms) k) h.1

        by : (r : Rhs) → KeepsAll v u (rhs_arrays r ++ rhs_names r) → AllByRecursion (IsOperand (nets v)) (rhs_atoms r)
            → HasSideWidths (nets v) (arrays v) w r → HasSideWidths (nets u) (arrays u) w r
        by (rhs.Atom a) k h x = sym (one a [] k h) ∙ x
        by (rhs.Unary op a) k h x = subst (λ (y : ℕ). KeepsUnary op w y) (one a [] k h) x
        by (rhs.Binary a op b) k h x =
            subst (λ (y : ℕ). KeepsRule (binary_rule op) w y (atom_width (nets u) b)) (one a (b ∷ []) k h)
            (subst (λ (y : ℕ). KeepsRule (binary_rule op) w (atom_width (nets v) a) y) (two a b [] k h) x)
        by (rhs.Signed a op b) k h x =
            subst (λ (y : ℕ). KeepsRule (signed_rule op) w y (atom_width (nets u) b)) (one a (b ∷ []) k h)
            (subst (λ (y : ℕ). KeepsRule (signed_rule op) w (atom_width (nets v) a) y) (two a b [] k h) x)
        by (rhs.SignedShift a b) k h x = sym (one a (b ∷ []) k h) ∙ x
        by (rhs.Conditional c a b) k h x = (
          sym (one c (a ∷ b ∷ []) k h) ∙ x.0,
          sym (two c a (b ∷ []) k h) ∙ x.1,
          sym (two a b [] (keeps_right (atom_names c) (atom_names a ++ (atom_names b ++ [])) k) h.1) ∙ x.2,
        )
        by (rhs.Word m a) k h x = (x.0, kept_array m x.0 (k.each m (inl refl)) x.2 x.1, x.2, x.3)

    kept_edge : (name : List ℕ) (w : ℕ) (e : Option Edge) → KeepsAll v u (edge_names e) → IsEdge v name w e → IsEdge u name w e
    kept_edge name w None k h = tt
    kept_edge name w (Some e) k h = (
      kept_clock e.clock (k.each e.clock (inl refl)) h.0,
      h.1,
      kept_wide w e.source (keeps_rest e.target (atom_names e.source) (keeps_rest e.clock (e.target ∷ atom_names e.source) k)) h.2,
    )

    kept_write : (name : List ℕ) (x : Write) → KeepsAll v u (write_names x) → IsWrite v name x → IsWrite u name x
    kept_write name x k h =
        let inside = keeps_rest x.array (atom_names x.condition ++ atom_names x.index ++ atom_names x.source) k in
        let front = keeps_left (atom_names x.condition ++ atom_names x.index) (atom_names x.source) inside in
        record {
          one_array = h.one_array;
          array = h.array;
          is_array = kept_array x.array h.array (k.each x.array (inl refl)) (h.named ∙ sym h.one_array) h.is_array;
          named = h.named;
          condition_wide = kept_wide 1 x.condition (keeps_left (atom_names x.condition) (atom_names x.index) front) h.condition_wide;
          index_sound = kept_operand x.index (keeps_right (atom_names x.condition) (atom_names x.index) front) h.index_sound;
          source_wide =
              kept_wide h.array.width x.source (keeps_right (atom_names x.condition ++ atom_names x.index) (atom_names x.source) inside) h.source_wide;
        }

    kept_each : (name : List ℕ) (xs : List Write) → KeepsAll v u (flat_map write_names xs) → AllByRecursion (IsWrite v name) xs
        → AllByRecursion (IsWrite u name) xs
    kept_each name [] k h = tt
    kept_each name (x ∷ xs) k h = (
      kept_write name x (keeps_left (write_names x) (flat_map write_names xs) k) h.0,
      kept_each name xs (keeps_right (write_names x) (flat_map write_names xs) k) h.1,
    )

    kept_writes : (xs : List Write) → KeepsAll v u (flat_map write_names xs) → AreWrites v xs → AreWrites u xs
    kept_writes [] k h = tt
    kept_writes (x ∷ xs) k h = kept_each x.array (x ∷ xs) k h

    pub kept_block : (b : AlwaysBlock) → KeepsAll v u (block_names b) → IsSoundBlock v b → IsSoundBlock u b
    kept_block (plain_block b) k h = record {
      clocked = kept_clock b.clock (k.each b.clock (inl refl)) h.clocked;
      width = h.width;
      register = kept_register b.target h.width (k.each b.target (inr (inl refl))) h.register;
      wide = kept_wide h.width b.source (keeps_rest b.target (atom_names b.source) (keeps_rest b.clock (b.target ∷ atom_names b.source) k)) h.wide;
    }
    kept_block (resetting_block b) k h = record {
      bit = kept_net b.reset 1 (k.each b.reset (inl refl)) h.bit;
      one_reset = h.one_reset;
      register = kept_register b.target b.value.width (k.each b.target (inr (inr (inl refl)))) h.register;
      constant_fits = h.constant_fits;
      clocked =
          kept_edge b.target b.value.width b.edge
          (keeps_rest b.target (edge_names b.edge) (keeps_rest b.tested (b.target ∷ edge_names b.edge)
          (keeps_rest b.reset (b.tested ∷ b.target ∷ edge_names b.edge) k))) h.clocked;
    }
    kept_block (writing_block b) k h = (
      kept_clock b.clock (k.each b.clock (inl refl)) h.0,
      kept_writes b.writes (keeps_rest b.clock (flat_map write_names b.writes) k) h.1,
    )

    kept_clock_side : (r : Rhs) → KeepsAll v u (rhs_arrays r ++ rhs_names r) → IsClockSide v r → IsClockSide u r
    kept_clock_side (rhs.Atom (net n)) k h = kept_clock n (k.each n (inl refl)) h
    kept_clock_side (rhs.Atom (constant w x)) k h = h
    kept_clock_side _ k h = absurd h

    pub kept_assign : (a : Assign) → KeepsAll v u (a.target ∷ (rhs_arrays a.rhs ++ rhs_names a.rhs)) → IsNextAssign v a → IsNextAssign u a
    kept_assign a k (inl h) =
        inl (kept_clock_output a.target (k.each a.target (inl refl)) h.0, kept_clock_side a.rhs (keeps_rest a.target (rhs_arrays a.rhs ++ rhs_names a.rhs) k) h.1)
    kept_assign a k (inr h) =
        inr (h.0, kept_driven a.target h.0 (k.each a.target (inl refl)) h.1, kept_side h.0 a.rhs (keeps_rest a.target (rhs_arrays a.rhs ++ rhs_names a.rhs) k) h.2)
