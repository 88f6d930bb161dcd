-- The items of the tree of a whole net are arranged, with a block for each register that has a reset, or that something drives on a clock.
use Rattle.std.proofs.Common.{◌≡◌, ℕ, ◌+◌, ◌-◌, List, [], ◌∷◌, ◌++◌, Bool, map, refl, sym, ap, ap₂, ◌∙◌, arith}
use Rattle.std.proofs.lemmas.Simd.{map-map}
use Rattle.fir_net.specs.declared.reads.Read.{Read}
use Rattle.fir_net.specs.declared.net.FlatNet.{FlatNet}
use Rattle.fir_net_names.specs.declared.name_table.NameTable.{NameTable}
use Rattle.ver_ast.specs.declared.tree.Verilog.{Verilog}
use Rattle.ver_ast.specs.declared.tree.Array.{Array as TreeArray}
use Rattle.ver_ast.specs.declared.tree.Item.{Item}
use Rattle.ver_ast.specs.declared.tree.Net.{Net}
use Rattle.ver_ast.specs.declared.tree.Item.TheVariants as item
use Rattle.ver_ast.specs.declared.tree.Assign.{Assign}
use Rattle.ver_ast.specs.Nets.{AlwaysBlock, Variable, variable_names, wires, regs, assigns, clock_assigns, arrays, blocks, block_target, block_targets, names_of}
use Rattle.ver_build.specs.declared.places.Places.{Places}
use Rattle.ver_build.specs.Arranged.{reg_item, wire_item, block_item, IsArranged, array_item, marked}
use Rattle.ver_build.specs.working.BlockRegisters.{net_registers, AreMarked}
use Rattle.ver_build.proofs.Premises.{Premises}
use Rattle.ver_build.proofs.Parts.{registers_of, arrays_of, wires_of, assigns_of, clock_assigns_of, blocks_of, all_blocks_of, in_parts}
use Rattle.ver_build.proofs.ItemLists.{array_sized, net_sized, arrays_among, registers_among, wires_among}
use Rattle.ver_build.proofs.ClockAssigns.{assigns_are, clock_assigns_are, clock_targets}
use Rattle.ver_build.proofs.Valid.{all_driven, ordered}
use Rattle.ver_build.proofs.BlockMarks.{marks, marks_blocks, blocks_marked}
use Rattle.ver_build.proofs.Nets.{arrays_are, blocks_are}
use Rattle.ver_build.specs.working.ArrayBlocks.{array_blocks}
use Rattle.ver_build.proofs.WritingBlocks.{array_targets_are, has_writes}
use Rattle.std.proofs.lemmas.List.Concat.{flat_map-append}

-- registers, arrays and wires are told by their names and sizes
arrays_sized : (ks : List TreeArray) → map array_item (map array_sized ks) ≡ map item.Array ks
arrays_sized [] = refl
arrays_sized (k ∷ ks) =
    let last : k.last + 1 - 1 ≡ k.last = omega arith in
    ap₂ (λ (n : ℕ) (is : List Item). item.Array (record { width = k.width; last = n; name = k.name }) ∷ is) last (arrays_sized ks)

items_sized : (rs : List Net) (ks : List TreeArray) (ws : List Net) (xs cs : List Assign) (bs : List AlwaysBlock)
    → map item.Reg rs ++ (map item.Array ks ++ (map item.Wire ws ++ (map item.Assign xs ++ (map item.Assign cs ++ map block_item bs))))
    ≡ map reg_item (map net_sized rs) ++ (map array_item (map array_sized ks) ++ (map wire_item (map net_sized ws) ++ (map item.Assign xs ++ (map item.Assign cs ++ map block_item bs))))
items_sized rs ks ws xs cs bs = rw (map-map reg_item net_sized rs, arrays_sized ks, map-map wire_item net_sized ws) refl

module _ (net : FlatNet) (t : NameTable) (p : Places) (order : List Read) (is : Premises net t p order) where
  abbrev v : Verilog
  v = in_parts net t p order

  parts_by_kind : v.items ≡ map reg_item (regs v) ++ (map array_item (arrays v) ++ (map wire_item (wires v)
      ++ (map item.Assign (assigns v) ++ (map item.Assign (clock_assigns v) ++ map block_item (all_blocks_of net t p order)))))
  parts_by_kind =
      let rs = registers_of net t p order in
      let ks = arrays_of net t p order in
      let ws = wires_of net t p order in
      let xs = assigns_of net t p order in
      let bs = all_blocks_of net t p order in
      let cs = clock_assigns_of net t p order in
      let same = assigns_are net t p order is in
      let same_clocks = clock_assigns_are net t p order is in
      rw (arrays_among rs ks ws xs cs bs, registers_among rs ks ws xs cs bs, wires_among rs ks ws xs cs bs, same, same_clocks) (items_sized rs ks ws xs cs bs)

  abbrev with_writes : List Bool
  with_writes = map (has_writes net t p) net.array_order

  targets_in_order : block_targets (blocks v) ≡ marked (marks net t p order is) (names_of (regs v)) ++ marked with_writes (variable_names (arrays v))
  targets_in_order =
      ap block_targets (blocks_are net t p order)
      ∙ flat_map-append block_target (blocks_of net t p order) (array_blocks net t p)
      ∙ ap (λ (ns : List (List ℕ)). ns ++ block_targets (array_blocks net t p)) (blocks_marked net t p order is)
      ∙ ap (λ (ns : List (List ℕ)). marked (marks net t p order is) (names_of (regs v)) ++ ns)
      (array_targets_are net t p order is
      ∙ sym (ap (λ (ks : List Variable). marked with_writes (variable_names ks)) (arrays_are net t p order is.whole is.table)))

  pub parts_arranged : IsArranged v
  parts_arranged = record {
    always = all_blocks_of net t p order;
    by_kind = parts_by_kind;
    assigns_in_order = sym (all_driven net t p order is);
    after_what_is_read = ordered net t p order is;
    clock_assigns_in_order = clock_targets net t p order is;
    with_block = marks net t p order is;
    with_writes = with_writes;
    blocks_in_order = targets_in_order;
  }

  pub parts_marked : AreMarked net (net_registers net) parts_arranged.with_block
  unfolding parts_arranged
  parts_marked = marks_blocks net t p order is
