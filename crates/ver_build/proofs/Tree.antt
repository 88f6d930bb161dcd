-- A tree with the name, the ports and the items of a net, and no places, is the tree of the net.
use Rattle.std.proofs.Common.{◌≡◌, ℕ, List, [], ◌++◌, map, flat_map, refl, append_assoc}
use Rattle.std.proofs.lemmas.List.{map-append}
use Rattle.std.proofs.lemmas.Simd.{map-map}
use Rattle.fir_net.specs.declared.reads.Read.{Read}
use Rattle.fir_net.specs.declared.net.FlatNet.{FlatNet}
use Rattle.std.specs.Prelude.{slice_get}
use Rattle.fir_net_names.specs.declared.name_table.NameTable.{NameTable}
use Rattle.fir_net_names.specs.working.LeafNamed.{name_at}
use Rattle.ver_ast.specs.declared.tree.Item.{Item}
use Rattle.ver_ast.specs.declared.tree.Item.TheVariants as item
use Rattle.ver_ast.specs.declared.tree.Verilog.{Verilog}
use Rattle.ver_build.specs.declared.places.Places.{Places}
use Rattle.ver_build.specs.declared.right_sides.Inner.{Inner}
use Rattle.ver_build.specs.working.ArrayBlocks.{array_block, array_blocks, tree_array, tree_arrays}
use Rattle.ver_build.specs.working.Built.{inners, leaf_port, leaf_reg, leaf_assign, leaf_clock_assign, word_block, word_blocks, inner_wire, inner_assign, along, at_numbers, given, items, built}
use Rattle.ver_build.specs.Arranged.{block_item}
use Rattle.ver_build.proofs.Lists.{mapped_along, mapped_numbers, flat_mapped}

-- the items as each part is put behind those before it
pub record PutItems (net : FlatNet) (t : NameTable) (p : Places) (order : List Read) (all : List Item) : Type 0 where
  pub none : List Item
  pub regs : List Item
  pub arrays : List Item
  pub wires : List Item
  pub inner_assigns : List Item
  pub assigns : List Item
  pub clock_assigns : List Item
  pub blocks : List Item
  pub nothing : none ≡ []
  pub put_regs : regs ≡ none ++ at_numbers (given item.Reg leaf_reg) t.leaves net.leaves net.state
  pub put_arrays : arrays ≡ regs ++ flat_map (λ k. map item.Array (tree_array (slice_get net.arrays k) (name_at t.arrays k))) net.array_order
  pub put_wires : wires ≡ arrays ++ map (λ (i : Inner). item.Wire (inner_wire i)) (inners net t p order)
  pub put_inner_assigns : inner_assigns ≡ wires ++ map (λ (i : Inner). item.Assign (inner_assign i)) (inners net t p order)
  pub put_assigns : assigns ≡ inner_assigns ++ along (given item.Assign (leaf_assign p)) t.leaves 0 net.leaves
  pub put_clock_assigns : clock_assigns ≡ assigns ++ along (given item.Assign (leaf_clock_assign t p)) t.leaves 0 net.leaves
  pub put_blocks : blocks ≡ clock_assigns ++ flat_map (λ k. map block_item (word_block net t p k)) net.state
  pub put_array_blocks : all ≡ blocks ++ flat_map (λ k. map block_item (array_block net t p k (slice_get net.arrays k) (name_at t.arrays k))) net.array_order

regrouped : (rs ks ws xs ys cs bs ds : List Item)
    → ((((((rs ++ ks) ++ ws) ++ xs) ++ ys) ++ cs) ++ bs) ++ ds ≡ rs ++ (ks ++ (ws ++ ((xs ++ ys) ++ (cs ++ (bs ++ ds)))))
regrouped rs ks ws xs ys cs bs ds = simp append_assoc

in_parts : (net : FlatNet) (t : NameTable) (p : Places) (order : List Read) (all : List Item) → PutItems net t p order all
    → all ≡ items (at_numbers leaf_reg t.leaves net.leaves net.state) (tree_arrays net t) (map inner_wire (inners net t p order))
    (map inner_assign (inners net t p order) ++ along (leaf_assign p) t.leaves 0 net.leaves) (along (leaf_clock_assign t p) t.leaves 0 net.leaves)
    (word_blocks net t p ++ array_blocks net t p)
in_parts net t p order all put =
    let rs = mapped_numbers item.Reg leaf_reg t.leaves net.leaves net.state in
    let ws = map-map item.Wire inner_wire (inners net t p order) in
    let xs = map-map item.Assign inner_assign (inners net t p order) in
    let ys = mapped_along item.Assign (leaf_assign p) t.leaves 0 net.leaves in
    let cs = mapped_along item.Assign (leaf_clock_assign t p) t.leaves 0 net.leaves in
    let ks =
    flat_mapped item.Array (λ (k : ℕ). tree_array (slice_get net.arrays k) (name_at t.arrays k))
    (λ (k : ℕ). map item.Array (tree_array (slice_get net.arrays k) (name_at t.arrays k))) (λ k. refl) net.array_order in
    let ds =
    flat_mapped block_item (λ (k : ℕ). array_block net t p k (slice_get net.arrays k) (name_at t.arrays k))
    (λ (k : ℕ). map block_item (array_block net t p k (slice_get net.arrays k) (name_at t.arrays k))) (λ k. refl) net.array_order in
    let bs = flat_mapped block_item (word_block net t p) (λ (k : ℕ). map block_item (word_block net t p k)) (λ k. refl) net.state in
    rw (
      put.put_array_blocks,
      put.put_blocks,
      put.put_clock_assigns,
      put.put_assigns,
      put.put_inner_assigns,
      put.put_wires,
      put.put_arrays,
      put.put_regs,
      put.nothing,
      map-append block_item (word_blocks net t p) (array_blocks net t p),
      map-append item.Assign
          (map inner_assign (inners net t p order)) (along (leaf_assign p) t.leaves 0 net.leaves),
      rs,
      ws,
      xs,
      ys,
      cs,
      bs,
      ks,
      ds,
    )
    (regrouped (at_numbers (given item.Reg leaf_reg) t.leaves net.leaves net.state) (flat_map (λ (k : ℕ). map item.Array (tree_array (slice_get net.arrays k) (name_at t.arrays k))) net.array_order) (map (λ (i : Inner). item.Wire (inner_wire i)) (inners net t p order))
    (map (λ (i : Inner). item.Assign (inner_assign i)) (inners net t p order)) (along (given item.Assign (leaf_assign p)) t.leaves 0 net.leaves)
    (along (given item.Assign (leaf_clock_assign t p)) t.leaves 0 net.leaves) (flat_map (λ (k : ℕ). map block_item (word_block net t p k)) net.state)
    (flat_map (λ (k : ℕ). map block_item (array_block net t p k (slice_get net.arrays k) (name_at t.arrays k))) net.array_order))

pub items_built : (net : FlatNet) (t : NameTable) (p : Places) (order : List Read) (all : List Item) → PutItems net t p order all
    → all ≡ (built net t p order).items
unfolding built
items_built net t p order all put = in_parts net t p order all put

pub tree_built : (net : FlatNet) (t : NameTable) (p : Places) (order : List Read) (v : Verilog) → v.name ≡ t.circuit
    → v.ports ≡ along leaf_port t.leaves 0 net.leaves → v.items ≡ (built net t p order).items → v.places ≡ [] → v ≡ built net t p order
unfolding built
tree_built net t p order v name ports items places = rw (name, ports, items, places) refl
