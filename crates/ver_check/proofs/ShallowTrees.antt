-- In no operand of a valid tree are more than 256 braces open.
use Rattle.std.proofs.Common.{◌≡◌, ℕ, List, [], ◌∷◌, Bool, true, false, refl, inl, arith}
use Rattle.std.specs.Prelude.{Option, Some, None}
use Rattle.std.specs.List.{AllByRecursion}
use Rattle.fir_base.specs.Lists.{In}
use Rattle.fir_base.specs.Words.{is_among}
use Rattle.fir_base.proofs.Each.{all_from}
use Rattle.fir_base.proofs.Members.{in_flat_map}
use Rattle.ver_ast.specs.declared.tree.Verilog.{Verilog}
use Rattle.ver_ast.specs.declared.tree.Assign.{Assign}
use Rattle.ver_ast.specs.declared.tree.Edge.{Edge}
use Rattle.ver_ast.specs.declared.tree.Write.{Write}
use Rattle.ver_ast.specs.declared.tree.Rhs.{Rhs}
use Rattle.ver_ast.specs.declared.tree.Rhs.TheVariants as rhs
use Rattle.ver_ast.specs.declared.tree.Item.{Item}
use Rattle.ver_ast.specs.declared.tree.Item.TheVariants as item
use Rattle.ver_ast.specs.Atoms.{AtomTree, net, constant}
use Rattle.ver_ast.specs.Names.{rhs_atoms}
use Rattle.ver_ast.specs.Nets.{SizedNet, AlwaysBlock, item_block, output_clocks, plain_block, resetting_block, writing_block}
use Rattle.ver_ast.specs.SoundSides.{IsOperand}
use Rattle.ver_ast.specs.Valid.{AreWrites, IsClockSide, IsEdge, IsSoundBlock, IsWrite, Valid}
use Rattle.ver_valid.proofs.TreeMembers.{in_assigns, in_clock_assigns}
use Rattle.ver_check.specs.working.Laws.{IsShallow, IsShallowAtom, IsShallowEdge, IsShallowItem, IsShallowWrite}

shallow_atoms : (ns : List SizedNet) (atoms : List AtomTree) → AllByRecursion (IsOperand ns) atoms → AllByRecursion IsShallowAtom atoms
shallow_atoms ns [] h = tt
shallow_atoms ns (a ∷ more) h = (h.0.shallow, shallow_atoms ns more h.1)

module _ (v : Verilog) where
  shallow_clock_side : (r : Rhs) → IsClockSide v r → AllByRecursion IsShallowAtom (rhs_atoms r)
  shallow_clock_side (rhs.Atom (net n)) h = (omega arith, tt)
  shallow_clock_side (rhs.Atom (constant w x)) h = (omega arith, tt)
  shallow_clock_side _ h = absurd h

  shallow_edge : (name : List ℕ) (w : ℕ) (o : Option Edge) → IsEdge v name w o → IsShallowEdge o
  shallow_edge name w None h = tt
  shallow_edge name w (Some e) h = h.2.operand.shallow

  shallow_writes : (name : List ℕ) (ws : List Write) → AllByRecursion (IsWrite v name) ws → AllByRecursion IsShallowWrite ws
  shallow_writes name [] h = tt
  shallow_writes name (w ∷ ws) h =
      ((h.0.condition_wide.operand.shallow, h.0.index_sound.shallow, h.0.source_wide.operand.shallow), shallow_writes name ws h.1)

  shallow_block : (ws : List Write) → AreWrites v ws → AllByRecursion IsShallowWrite ws
  shallow_block [] h = tt
  shallow_block (w ∷ ws) h = shallow_writes w.array (w ∷ ws) h

  module _ (h : Valid v) where
    sound_at : (i : Item) (b : AlwaysBlock) → In v.items i → In (item_block i) b → IsSoundBlock v b
    sound_at i b m own = h.sound_blocks b (in_flat_map item_block v.items i b m own)

    shallow_assign : (a : Assign) → In v.items (item.Assign a) → (b : Bool) → is_among (output_clocks v) a.target ≡ b → IsShallowItem (item.Assign a)
    shallow_assign a m true e = shallow_clock_side a.rhs (h.clock_sides a (in_clock_assigns v a m e))
    shallow_assign a m false e = let s = h.sound_assigns a (in_assigns v a m e) in shallow_atoms _ (rhs_atoms a.rhs) s.2.operands

    shallow_item : (i : Item) → In v.items i → IsShallowItem i
    shallow_item (item.Assign a) m = shallow_assign a m (is_among (output_clocks v) a.target) refl
    shallow_item (item.Always b) m = (sound_at (item.Always b) (plain_block b) m (inl refl)).wide.operand.shallow
    shallow_item (item.Resetting b) m =
        shallow_edge b.target b.value.width b.edge (sound_at (item.Resetting b) (resetting_block b) m (inl refl)).clocked
    shallow_item (item.Writing b) m = shallow_block b.writes (sound_at (item.Writing b) (writing_block b) m (inl refl)).1
    shallow_item (item.Wire n) m = tt
    shallow_item (item.Reg n) m = tt
    shallow_item (item.Array a) m = tt

    pub valid_is_shallow : IsShallow v
    valid_is_shallow = all_from IsShallowItem v.items shallow_item
