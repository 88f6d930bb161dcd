-- What is sound names only what is declared.
use Rattle.std.proofs.Common.{◌≡◌, ℕ, ◌≤◌, List, [], ◌∷◌, ◌++◌, flat_map, Bool, sym, ◌∙◌, inl, inr, ⊎_elim, subst, arith}
use Rattle.std.specs.Prelude.{Option, Some, None}
use Rattle.std.specs.List.{AllByRecursion}
use Rattle.fir_base.specs.Lists.{In, EachIn}
use Rattle.fir_base.proofs.Each.{each_joined}
use Rattle.fir_base.proofs.Members.{in_map, in_either, in_flat_map_from}
use Rattle.ver_ast.specs.declared.tree.Verilog.{Verilog}
use Rattle.ver_ast.specs.declared.tree.Edge.{Edge}
use Rattle.ver_ast.specs.declared.tree.Write.{Write}
use Rattle.ver_ast.specs.declared.tree.Assign.{Assign}
use Rattle.ver_ast.specs.declared.tree.Rhs.{Rhs}
use Rattle.ver_ast.specs.declared.tree.Rhs.TheVariants as rhs
use Rattle.ver_ast.specs.Atoms.{AtomTree, net, constant, bit_select, part_select, concat, repeat, AtomTrees, no_atoms, atom_before}
use Rattle.ver_ast.specs.Names.{atom_names, joined_names, rhs_atoms, rhs_names}
use Rattle.ver_ast.specs.ItemNames.{rhs_arrays, edge_names, write_names}
use Rattle.ver_ast.specs.Nets.{SizedNet, Variable, AlwaysBlock, plain_block, resetting_block, writing_block, nets, regs, clocks, output_clocks, wires, output_nets, arrays, width_among}
use Rattle.ver_ast.specs.SoundSides.{IsSound, AreSound, IsOperand, IsSoundSide, HasSideWidths}
use Rattle.ver_ast.specs.Valid.{IsEdge, IsWrite, AreWrites, IsSoundBlock, IsClockSide}
use Rattle.ver_valid.specs.declared.declared.Declared.{Declared}
use Rattle.ver_valid.specs.working.Declarations.{Entry, entries, entry_names}
use Rattle.ver_valid.specs.working.Kinds.{net_width, register_width, wire_width, output_width, is_clock_input, is_clock_output, sized, chosen, array_entry}
use Rattle.ver_valid.specs.working.Scopes.{driven_nets}
use Rattle.ver_valid.specs.working.Walks.{IsNextAssign}
use Rattle.ver_valid.proofs.Entries.{nets_are, regs_are, wires_are, outputs_are, clocks_are, output_clocks_are, arrays_are}
use Rattle.ver_valid.proofs.EntryKinds.{in_sized, in_chosen, in_array}
use Rattle.ver_valid.proofs.Fine.{width_of_net}
use Rattle.ver_valid.proofs.Keeps.{block_names}

-- a sound operand reads nets: names of which each net is one are its names
module _ (ns : List SizedNet) (names : List (List ℕ)) (wide : (n : List ℕ) → 1 ≤ width_among ns n → In names n) where
  mutual
    pub atom_among : (a : AtomTree) → IsSound ns a → EachIn (atom_names a) names
    atom_among (net n) s = (wide n s, tt)
    atom_among (constant width value) s = tt
    atom_among (bit_select n i) s = let two = s.0 in (wide n (omega arith), tt)
    atom_among (part_select n hi lo) s = let two = s.0 in (wide n (omega arith), tt)
    atom_among (concat a more) s = each_joined (atom_names a) (joined_names more) names (atom_among a s.0) (joined_among more s.1)
    atom_among (repeat count a) s = atom_among a s.0

    joined_among : (more : AtomTrees) → AreSound ns more → EachIn (joined_names more) names
    joined_among no_atoms s = tt
    joined_among (atom_before a more) s = each_joined (atom_names a) (joined_names more) names (atom_among a s.0) (joined_among more s.1)

  pub atoms_among : (atoms : List AtomTree) → AllByRecursion (IsOperand ns) atoms → EachIn (flat_map atom_names atoms) names
  atoms_among [] h = tt
  atoms_among (a ∷ atoms) h = each_joined (atom_names a) (flat_map atom_names atoms) names (atom_among a h.0.sound) (atoms_among atoms h.1)

module _ (v : Verilog) where
  abbrev pub Known : List ℕ → Type 0
  Known n = In (entry_names (entries v)) n

  abbrev all_known : List (List ℕ) → Type 0
  all_known ns = EachIn ns (entry_names (entries v))

  sized_known : (width : Declared → Option ℕ) (n : List ℕ) (w : ℕ) → In (flat_map (sized width) (entries v)) (n, w) → Known n
  sized_known width n w m =
      let r = in_flat_map_from (sized width) (entries v) (n, w) m in
      let s = in_sized r.0.0 (width r.0.1) n w r.2 in
      subst Known s.0 (in_map (λ (e : Entry). e.0) (entries v) r.0 r.1)

  chosen_known : (test : Declared → Bool) (n : List ℕ) → In (flat_map (chosen test) (entries v)) n → Known n
  chosen_known test n m =
      let r = in_flat_map_from (chosen test) (entries v) n m in
      let s = in_chosen r.0.0 (test r.0.1) n r.2 in
      subst Known s.0 (in_map (λ (e : Entry). e.0) (entries v) r.0 r.1)

  pub net_known : (n : List ℕ) (w : ℕ) → In (nets v) (n, w) → Known n
  net_known n w m = sized_known net_width n w (subst (λ (xs : List SizedNet). In xs (n, w)) (nets_are v) m)

  register_known : (n : List ℕ) (w : ℕ) → In (regs v) (n, w) → Known n
  register_known n w m = sized_known register_width n w (subst (λ (xs : List SizedNet). In xs (n, w)) (regs_are v) m)

  driven_known : (n : List ℕ) (w : ℕ) → In (driven_nets v) (n, w) → Known n
  driven_known n w m =
      ⊎_elim
      (λ (i : In (wires v) (n, w)). sized_known wire_width n w (subst (λ (xs : List SizedNet). In xs (n, w)) (wires_are v) i))
      (λ (i : In (output_nets v) (n, w)). sized_known output_width n w (subst (λ (xs : List SizedNet). In xs (n, w)) (outputs_are v) i))
      (in_either (wires v) (output_nets v) (n, w) m)

  clock_known : (n : List ℕ) → In (clocks v) n → Known n
  clock_known n m = chosen_known is_clock_input n (subst (λ (xs : List (List ℕ)). In xs n) (clocks_are v) m)

  clock_output_known : (n : List ℕ) → In (output_clocks v) n → Known n
  clock_output_known n m = chosen_known is_clock_output n (subst (λ (xs : List (List ℕ)). In xs n) (output_clocks_are v) m)

  array_known : (n : List ℕ) (a : Variable) → a.name ≡ n → In (arrays v) a → Known n
  array_known n a name m =
      let r = in_flat_map_from array_entry (entries v) a (subst (λ (xs : List Variable). In xs a) (arrays_are v) m) in
      subst Known (sym (in_array r.0.0 r.0.1 a r.2) ∙ name) (in_map (λ (e : Entry). e.0) (entries v) r.0 r.1)

  wide_known : (n : List ℕ) → 1 ≤ width_among (nets v) n → Known n
  wide_known n h = net_known n (width_among (nets v) n) (width_of_net (nets v) n h)

  atom_known : (a : AtomTree) → IsSound (nets v) a → all_known (atom_names a)
  atom_known a s = atom_among (nets v) (entry_names (entries v)) wide_known a s

  side_arrays : (w : ℕ) (r : Rhs) → HasSideWidths (nets v) (arrays v) w r → all_known (rhs_arrays r)
  side_arrays w (rhs.Word m a) h = (array_known m h.0 h.2 h.1, tt)
  side_arrays w (rhs.Atom a) h = tt
  side_arrays w (rhs.Unary op a) h = tt
  side_arrays w (rhs.Binary a op b) h = tt
  side_arrays w (rhs.Signed a op b) h = tt
  side_arrays w (rhs.SignedShift a b) h = tt
  side_arrays w (rhs.Conditional c a b) h = tt

  side_known : (w : ℕ) (r : Rhs) → IsSoundSide (nets v) (arrays v) w r → all_known (rhs_arrays r ++ rhs_names r)
  side_known w r s = each_joined (rhs_arrays r) (rhs_names r) (entry_names (entries v)) (side_arrays w r s.widths) (atoms_among (nets v) (entry_names (entries v)) wide_known (rhs_atoms r) s.operands)

  clock_side_known : (r : Rhs) → IsClockSide v r → all_known (rhs_arrays r ++ rhs_names r)
  clock_side_known (rhs.Atom (net n)) h = (clock_known n h, tt)
  clock_side_known (rhs.Atom (constant w x)) h = tt
  clock_side_known _ h = absurd h

  pub assign_known : (a : Assign) → IsNextAssign v a → all_known (a.target ∷ (rhs_arrays a.rhs ++ rhs_names a.rhs))
  assign_known a (inl h) = (clock_output_known a.target h.0, clock_side_known a.rhs h.1)
  assign_known a (inr h) = (driven_known a.target h.0 h.1, side_known h.0 a.rhs h.2)

  edge_known : (name : List ℕ) (w : ℕ) (e : Option Edge) → Known name → IsEdge v name w e → all_known (edge_names e)
  edge_known name w None k h = tt
  edge_known name w (Some e) k h = (clock_known e.clock h.0, (subst Known (sym h.1) k, atom_known e.source h.2.operand.sound))

  write_known : (name : List ℕ) (x : Write) → IsWrite v name x → all_known (write_names x)
  write_known name x h = (
    array_known x.array h.array (h.named ∙ sym h.one_array) h.is_array,
    each_joined (atom_names x.condition ++ atom_names x.index) (atom_names x.source) (entry_names (entries v))
        (each_joined (atom_names x.condition) (atom_names x.index) (entry_names (entries v)) (atom_known x.condition h.condition_wide.operand.sound)
        (atom_known x.index h.index_sound.sound))
        (atom_known x.source h.source_wide.operand.sound),
  )

  each_known : (name : List ℕ) (xs : List Write) → AllByRecursion (IsWrite v name) xs → all_known (flat_map write_names xs)
  each_known name [] h = tt
  each_known name (x ∷ xs) h =
      each_joined (write_names x) (flat_map write_names xs) (entry_names (entries v)) (write_known name x h.0) (each_known name xs h.1)

  writes_known : (xs : List Write) → AreWrites v xs → all_known (flat_map write_names xs)
  writes_known [] h = tt
  writes_known (x ∷ xs) h = each_known x.array (x ∷ xs) h

  pub block_known : (b : AlwaysBlock) → IsSoundBlock v b → all_known (block_names b)
  block_known (plain_block b) h = (clock_known b.clock h.clocked, (register_known b.target h.width h.register, atom_known b.source h.wide.operand.sound))
  block_known (resetting_block b) h =
      let own = register_known b.target b.value.width h.register in
      let reset = net_known b.reset 1 h.bit in
      (reset, (subst Known (sym h.one_reset) reset, (own, edge_known b.target b.value.width b.edge own h.clocked)))
  block_known (writing_block b) h = (clock_known b.clock h.0, writes_known b.writes h.1)
