-- The arrays of the tree, the nets of their writes, and their blocks (IEEE 1364-2005, 4.9, 9.2.2, 9.8.1).
-- An array has a block where a write of it is on a clock: at the rising edge of this clock all such writes happen, in their order.
use Rattle.std.specs.Prelude.{ℕ, ◌-◌, List, [], ◌∷◌, flat_map, slice_get, Option, Some, None, unwrap_or}
use Rattle.fir_net.specs.declared.array.Array.{Array}
use Rattle.fir_net.specs.declared.array.ArrayWrite.{ArrayWrite}
use Rattle.fir_net.specs.declared.net.FlatNet.{FlatNet}
use Rattle.fir_net_names.specs.declared.name_table.NameTable.{NameTable}
use Rattle.fir_net_names.specs.working.LeafNamed.{name_at}
use Rattle.ver_ast.specs.declared.tree.Array.{Array as TreeArray}
use Rattle.ver_ast.specs.declared.tree.Write.{Write}
use Rattle.ver_ast.specs.Nets.{AlwaysBlock, writing_block}
use Rattle.ver_build.specs.declared.places.Guard.{Guard}
use Rattle.ver_build.specs.declared.places.Places.{Places}
use Rattle.ver_build.specs.declared.right_sides.Inner.{Inner}
use Rattle.ver_build.specs.working.Operands.{atom_at}
use Rattle.ver_build.specs.working.ArrayTexts.{guard_inners, write_condition}
use Rattle.ver_build.specs.working.Places.{along_writes, clock_in, guard_at, held_of, read_width}

abbrev pub tree_array : Option Array → Option (List ℕ) → List TreeArray
tree_array (Some a) (Some name) = record { width = a.width; last = a.words - 1; name = name } ∷ []
tree_array _ name = []

-- in the order of the state
abbrev pub tree_arrays : FlatNet → NameTable → List TreeArray
tree_arrays net t = flat_map (λ k. tree_array (slice_get net.arrays k) (name_at t.arrays k)) net.array_order

-- the nets of a write that has them
abbrev pub guarded_write : FlatNet → Places → ℕ → ArrayWrite → Option Guard → List Inner
guarded_write net p words w None = []
guarded_write net p words w (Some g) = guard_inners words (read_width net w.address) (held_of p w.address) (held_of p w.condition) g

abbrev pub array_write_inners : FlatNet → Places → ℕ → Option Array → List Inner
array_write_inners net p k None = []
array_write_inners net p k (Some a) = along_writes (λ j w. guarded_write net p a.words w (guard_at p.guards k j)) 0 a.writes

abbrev pub write_inners : FlatNet → Places → List Inner
write_inners net p = flat_map (λ k. array_write_inners net p k (slice_get net.arrays k)) net.array_order

-- a write of an array of that name and words of so many bits
abbrev pub written : FlatNet → Places → List ℕ → ℕ → ArrayWrite → Option Guard → Write
written net p name width w g =
    record {
      condition = write_condition (held_of p w.condition) g;
      array = name;
      index = atom_at (read_width net w.address) (held_of p w.address);
      source = atom_at width (held_of p w.given);
    }

-- where it is on a clock
abbrev pub written_on : FlatNet → Places → List ℕ → ℕ → Option ℕ → ArrayWrite → Option Guard → List Write
written_on net p name width None w g = []
written_on net p name width (Some c) w g = written net p name width w g ∷ []

abbrev pub clocked_writes : FlatNet → Places → ℕ → Array → List ℕ → List Write
clocked_writes net p k a name = along_writes (λ j w. written_on net p name a.width (clock_in p.leaves w.clock) w (guard_at p.guards k j)) 0 a.writes

-- the clock of the first write that has one
abbrev pub or_else : Option ℕ → Option ℕ → Option ℕ
or_else None other = other
or_else (Some c) other = Some c

abbrev pub first_clock : Places → List ArrayWrite → Option ℕ
first_clock p [] = None
first_clock p (w ∷ ws) = or_else (clock_in p.leaves w.clock) (first_clock p ws)

abbrev pub block_of : NameTable → Option ℕ → List Write → List AlwaysBlock
block_of t None writes = []
block_of t (Some c) writes = writing_block (record { clock = unwrap_or (name_at t.leaves c) []; writes = writes }) ∷ []

abbrev pub array_block : FlatNet → NameTable → Places → ℕ → Option Array → Option (List ℕ) → List AlwaysBlock
array_block net t p k (Some a) (Some name) = block_of t (first_clock p a.writes) (clocked_writes net p k a name)
array_block net t p k _ name = []

-- in the order of the state
abbrev pub array_blocks : FlatNet → NameTable → Places → List AlwaysBlock
array_blocks net t p = flat_map (λ k. array_block net t p k (slice_get net.arrays k) (name_at t.arrays k)) net.array_order
