-- The tree of a whole net is named after it.
-- Ports and registers are the leaves with bits in order, wires the inner nets, and every name is one of these.
use Rattle.std.proofs.Common.{◌≡◌, ℕ, List, [], ◌++◌, sym, ap, ◌∙◌, ⊎_elim, subst}
use Rattle.std.specs.Prelude.{map}
use Rattle.std.specs.List.{AllByRecursion}
use Rattle.std.proofs.lemmas.Simd.{map-map}
use Rattle.fir_base.specs.Lists.{In}
use Rattle.fir_base.proofs.Each.{all_at, all_from, all_among, all_joined, all_mapped}
use Rattle.fir_base.proofs.Members.{in_map, in_left, in_right, in_either}
use Rattle.fir_net.specs.declared.reads.Read.{Read}
use Rattle.fir_net.specs.declared.net.FlatNet.{FlatNet}
use Rattle.fir_net_names.specs.declared.name_table.NameTable.{NameTable}
use Rattle.fir_net_names.specs.working.LeafNamed.{somes, name_at}
use Rattle.fir_net_names.specs.Names.{AreNamed, AreInner}
use Rattle.ver_words.specs.Names.{IsName}
use Rattle.ver_ast.specs.declared.tree.Port.{Port}
use Rattle.ver_ast.specs.declared.tree.Net.{Net}
use Rattle.ver_ast.specs.declared.tree.Assign.{Assign}
use Rattle.ver_ast.specs.declared.tree.Item.TheVariants as item
use Rattle.ver_ast.specs.Nets.{SizedNet, AlwaysBlock, plain_block, resetting_block, writing_block, Variable, variable_names, names_of, widths_of, clocks, port_nets, regs, wires}
use Rattle.ver_ast.specs.Names.{rhs_names}
use Rattle.ver_ast.specs.ItemNames.{item_names, rhs_arrays}
use Rattle.ver_ast.specs.Spells.{AreVerilogNames, HasItemNames, HasNames}
use Rattle.fir_net.specs.Rows.{array_names, row_names, word_names}
use Rattle.fir_net.specs.working.Rows.{net_arrays, net_rows, net_words}
use Rattle.ver_build.specs.declared.places.Places.{Places}
use Rattle.ver_build.specs.Arranged.{block_item}
use Rattle.ver_build.specs.working.Built.{inners, leaf_port}
use Rattle.ver_build.specs.Ports.{port_names}
use Rattle.ver_build.specs.NamedFor.{IsNamedFor, leaf_names}
use Rattle.ver_ast.specs.declared.tree.Array.{Array as TreeArray}
use Rattle.ver_build.specs.working.ArrayBlocks.{array_blocks}
use Rattle.ver_build.proofs.StateArrays.{array_names_are, sizes_are, state_variables, tree_names}
use Rattle.ver_build.proofs.WritingBlocks.{array_block_among}
use Rattle.ver_build.proofs.Premises.{Premises}
use Rattle.ver_build.proofs.TableLeaves.{leaves_whole}
use Rattle.ver_build.proofs.OrderedLeaves.{ordered_all, ordered_names, ordered_leaves, same_ports, ordered_spelled, ordered_inner}
use Rattle.ver_build.proofs.Parts.{ports_port, registers_of, arrays_of, wires_of, assigns_of, clock_assigns_of, blocks_of, all_blocks_of, in_parts}
use Rattle.ver_build.proofs.LeafKinds.{is_clock_input, is_clock_output, is_net, picked}
use Rattle.ver_build.proofs.Picked.{picked_named}
use Rattle.ver_build.proofs.Nets.{inner_name, inner_sized, sizes, clocks_are, registers_sized, wires_sized, arrays_are, nets_by_part, sizes_named, leaf_names_are}
use Rattle.ver_build.proofs.InnerNames.{are_inner}
use Rattle.ver_build.proofs.ResetNames.{inners_numbered, inners_spelled}
use Rattle.ver_build.proofs.Fitting.{AssignAmong, BlockAmong, assigns_name_nets, known_names}
use Rattle.ver_build.proofs.TextOrder.{net_name}
use Rattle.ver_build.proofs.Blocks.{block_among, block_names}
use Rattle.ver_build.proofs.Driven.{clock_targets_are}
use Rattle.ver_build.proofs.ClockSides.{ShowsClock, side_names, clocks_shown}
use Rattle.ver_build.proofs.Shapes.{register_widths}
use Rattle.ver_build.proofs.Rowed.{kind, kinds_along, words_wide, ordered_for_rows}

module _ (net : FlatNet) (t : NameTable) (p : Places) (order : List Read) (is : Premises net t p order) where
  abbrev inside : List (List ℕ)
  inside = map inner_name (inners net t p order)

  spelled : AllByRecursion IsName (map inner_name (inners net t p order))
  spelled = inners_spelled net t p order is

  abbrev all_names : List (List ℕ)
  all_names = names_of (sizes net t p order)

  leaf_is_name : (x : List ℕ) → In (somes (ordered_names net t)) x → IsName x
  leaf_is_name x m =
      all_at IsName (ordered_all net t) (ordered_spelled net t is.whole is.table is.spelled) x
      (in_left (somes (ordered_names net t)) (somes (map (name_at t.arrays) net.array_order)) x m)

  net_is_name : (x : List ℕ) → In all_names x → IsName x
  net_is_name x m =
      ⊎_elim
      (λ (k : In (picked is_net (ordered_names net t) (ordered_leaves net)) x). leaf_is_name x (picked_named is_net (ordered_names net t) (ordered_leaves net) x k))
      (λ (k : In inside x). all_at IsName inside spelled x k)
      (in_either (picked is_net (ordered_names net t) (ordered_leaves net)) inside x (subst (λ (ns : List (List ℕ)). In ns x) (sizes_named net t p order) m))

  nets_are_names : AllByRecursion IsName all_names
  nets_are_names = all_from IsName all_names net_is_name

  -- the names of arrays, and of all
  array_is_name : (x : List ℕ) → In (variable_names (state_variables net t)) x → IsName x
  array_is_name x m =
      all_at IsName (ordered_all net t) (ordered_spelled net t is.whole is.table is.spelled) x
      (in_right (somes (ordered_names net t)) (somes (map (name_at t.arrays) net.array_order)) x
      (subst (λ (ns : List (List ℕ)). In ns x) (array_names_are net t is.whole is.table) m))

  known_are_names : AllByRecursion IsName (known_names net t p order is)
  known_are_names =
      all_joined IsName all_names (variable_names (state_variables net t)) nets_are_names
      (all_from IsName (variable_names (state_variables net t)) array_is_name)

  array_name : (a : TreeArray) → In (arrays_of net t p order) a → IsName a.name
  array_name a m =
      array_is_name a.name
      (subst (λ (ns : List (List ℕ)). In ns a.name) (tree_names net t is.whole is.table) (in_map (λ (x : TreeArray). x.name) (arrays_of net t p order) a m))

  port_name : (q : Port) → In (in_parts net t p order).ports q → IsName q.name
  port_name q m =
      let port : In (port_names (in_parts net t p order)) q.name = in_map (λ (x : Port). x.name) (in_parts net t p order).ports q m in
      let leaf = in_left (port_names (in_parts net t p order)) (names_of (regs (in_parts net t p order))) q.name port in
      leaf_is_name q.name (subst (λ (ns : List (List ℕ)). In ns q.name) (leaf_names_are net t p order is) leaf)

  -- what is declared within the module
  declared_name : (x : List ℕ) → In (map net_name (registers_of net t p order) ++ map net_name (wires_of net t p order)) x → IsName x
  declared_name x m =
      let among =
      in_right (names_of (port_nets (in_parts net t p order))) (map net_name (registers_of net t p order) ++ map net_name (wires_of net t p order)) x
      m in
      net_is_name x (subst (λ (ns : List (List ℕ)). In ns x) (sym (nets_by_part net t p order is)) among)

  register_name : (w : Net) → In (registers_of net t p order) w → IsName w.name
  register_name w m =
      declared_name w.name (in_left (map net_name (registers_of net t p order)) (map net_name (wires_of net t p order)) w.name
      (in_map net_name (registers_of net t p order) w m))

  wire_name : (w : Net) → In (wires_of net t p order) w → IsName w.name
  wire_name w m =
      declared_name w.name (in_right (map net_name (registers_of net t p order)) (map net_name (wires_of net t p order)) w.name
      (in_map net_name (wires_of net t p order) w m))

  assign_names : (a : Assign) → In (assigns_of net t p order) a → HasItemNames (item.Assign a)
  assign_names a m =
      let among = all_at (AssignAmong (known_names net t p order is)) (assigns_of net t p order) (assigns_name_nets net t p order is) a m in (
        tt,
        (
          all_at IsName (known_names net t p order is) known_are_names a.target among.target,
          all_among IsName (rhs_arrays a.rhs ++ rhs_names a.rhs) (known_names net t p order is) known_are_names among.sources,
        ),
      )

  clock_is_name : (x : List ℕ) → In (clocks (in_parts net t p order)) x → IsName x
  clock_is_name x m =
      leaf_is_name x
      (picked_named is_clock_input (ordered_names net t) (ordered_leaves net) x (subst (λ (ns : List (List ℕ)). In ns x) (clocks_are net t p order) m))

  -- a block declares nothing
  block_has : (b : AlwaysBlock) → AreVerilogNames (item_names (block_item b)) → HasItemNames (block_item b)
  block_has (plain_block b) h = (tt, h)
  block_has (resetting_block b) h = (tt, h)
  block_has (writing_block b) h = (tt, h)

  block_known : (b : AlwaysBlock) → BlockAmong (block_names net t p order is) b → HasItemNames (block_item b)
  block_known b among =
      let clocks_of = clocks (in_parts net t p order) in
      let known = known_names net t p order is in
      block_has b
      (all_among IsName (item_names (block_item b)) (clocks_of ++ known)
      (all_joined IsName clocks_of known (all_from IsName clocks_of clock_is_name) known_are_names) among)

  blocks_have : (b : AlwaysBlock) → In (all_blocks_of net t p order) b → HasItemNames (block_item b)
  blocks_have b m =
      block_known b
      (⊎_elim
      (λ (r : In (blocks_of net t p order) b). block_among net t p order is b r)
      (λ (a : In (array_blocks net t p) b). array_block_among net t p order is b a)
      (in_either (blocks_of net t p order) (array_blocks net t p) b m))

  clock_assign_names : (a : Assign) → In (clock_assigns_of net t p order) a → HasItemNames (item.Assign a)
  clock_assign_names a m =
      let side = all_at (ShowsClock (in_parts net t p order)) (clock_assigns_of net t p order) (clocks_shown net t p order is) a m in
      let target : In (picked is_clock_output (ordered_names net t) (ordered_leaves net)) a.target =
      subst (λ (ns : List (List ℕ)). In ns a.target) (clock_targets_are net t p order)
      (in_map (λ (x : Assign). x.target) (clock_assigns_of net t p order) a m) in
      let clocks_of = clocks (in_parts net t p order) in (
        tt,
        (
          leaf_is_name a.target (picked_named is_clock_output (ordered_names net t) (ordered_leaves net) a.target target),
          all_among IsName (rhs_arrays a.rhs ++ rhs_names a.rhs) clocks_of (all_from IsName clocks_of clock_is_name)
              (side_names (in_parts net t p order) a.rhs side),
        ),
      )

  has_names : HasNames (in_parts net t p order)
  has_names =
      let rs = registers_of net t p order in
      let ks = arrays_of net t p order in
      let ws = wires_of net t p order in
      let xs = assigns_of net t p order in
      let cs = clock_assigns_of net t p order in
      let bs = all_blocks_of net t p order in
      record {
        of_module = is.circuit;
        of_ports = all_from (λ (q : Port). IsName q.name) (in_parts net t p order).ports port_name;
        of_items =
            all_joined HasItemNames (map item.Reg rs) (map item.Array ks ++ (map item.Wire ws ++ (map item.Assign xs ++ (map item.Assign cs ++ map block_item bs))))
            (all_mapped HasItemNames item.Reg rs (all_from (λ w. HasItemNames (item.Reg w)) rs (λ w m. ((register_name w m, tt), tt))))
            (all_joined HasItemNames (map item.Array ks) (map item.Wire ws ++ (map item.Assign xs ++ (map item.Assign cs ++ map block_item bs)))
            (all_mapped HasItemNames item.Array ks (all_from (λ a. HasItemNames (item.Array a)) ks (λ a m. ((array_name a m, tt), tt))))
            (all_joined HasItemNames (map item.Wire ws) (map item.Assign xs ++ (map item.Assign cs ++ map block_item bs))
            (all_mapped HasItemNames item.Wire ws (all_from (λ w. HasItemNames (item.Wire w)) ws (λ w m. ((wire_name w m, tt), tt))))
            (all_joined HasItemNames (map item.Assign xs) (map item.Assign cs ++ map block_item bs)
            (all_mapped HasItemNames item.Assign xs (all_from (λ a. HasItemNames (item.Assign a)) xs assign_names))
            (all_joined HasItemNames (map item.Assign cs) (map block_item bs)
            (all_mapped HasItemNames item.Assign cs (all_from (λ a. HasItemNames (item.Assign a)) cs clock_assign_names))
            (all_mapped HasItemNames block_item bs (all_from (λ b. HasItemNames (block_item b)) bs blocks_have))))));
      }

  all_names_are : leaf_names (in_parts net t p order) ≡ ordered_all net t
  all_names_are =
      ap (λ (ks : List Variable). port_names (in_parts net t p order) ++ names_of (regs (in_parts net t p order)) ++ variable_names ks)
      (arrays_are net t p order is.whole is.table)
      ∙ ap (λ (ns : List (List ℕ)). ns ++ variable_names (state_variables net t)) (leaf_names_are net t p order is)
      ∙ ap (λ (ns : List (List ℕ)). somes (ordered_names net t) ++ ns) (array_names_are net t is.whole is.table)

  wires_inner : AreInner (leaf_names (in_parts net t p order)) 0 (names_of (wires (in_parts net t p order)))
  wires_inner =
      rw (all_names_are, wires_sized net t p order, map-map (λ (s : SizedNet). s.0) inner_sized (inners net t p order))
      (are_inner (ordered_all net t) 0 is.places.guards.last (map inner_name (inners net t p order))
      (ordered_inner net t is.whole is.table 0 is.places.guards.last (map inner_name (inners net t p order)) (inners_numbered net t p order is)))

  pub parts_named : IsNamedFor net.name (net_rows net) (net_words net) (net_arrays net) (in_parts net t p order)
  parts_named = record {
    circuit = is.table.circuit;
    ports = ap (map kind) (same_ports net t is.whole is.table leaf_port ports_port) ∙ kinds_along net t.leaves net.leaves (leaves_whole net is.whole t is.table);
    state = ap widths_of (registers_sized net t p order) ∙ register_widths net t is.whole is.table is.pipes ∙ sym (words_wide net is.whole);
    array_state = ap (map (λ (k : Variable). (k.width, k.depth))) (arrays_are net t p order is.whole is.table) ∙ sizes_are net t is.whole is.table;
    named_leaves =
        subst (λ (ns : List (List ℕ)). AreNamed [] (row_names (net_rows net) ++ word_names (net_words net) ++ array_names (net_arrays net)) ns)
        (sym all_names_are) (ordered_for_rows net t is.whole is.table);
    named_wires = wires_inner;
    spelled = has_names;
  }
