-- The tree of a whole net is valid.
-- Names are distinct, so each net is declared once and driven once, and widths and order are those of the net.
use Rattle.std.proofs.Common.{◌≡◌, ℕ, ◌≤◌, List, [], ◌∷◌, ◌++◌, map, Bool, true, false, cond, refl, sym, ap, ◌∙◌, inl, inr, ⊎_elim, subst, arith}
use Rattle.std.specs.Prelude.{flat_map, Option, Some, None, IsTrue}
use Rattle.std.specs.List.{AllByRecursion, sum_by}
use Rattle.std.proofs.lemmas.List.{map-append}
use Rattle.std.proofs.lemmas.Simd.{map-map}
use Rattle.fir_base.specs.declared.direction.Direction.{Direction}
use Rattle.fir_base.specs.declared.direction.Direction.TheVariants.{Input, Output}
use Rattle.fir_base.specs.Lists.{In, Distinct}
use Rattle.fir_base.proofs.Each.{all_at, all_from, all_joined, all_mapped, each_more}
use Rattle.fir_base.proofs.Members.{in_map, in_map_from, in_left, in_right, in_either, in_flat_map_from}
use Rattle.fir_base.proofs.Twins.{apart, distinct_right, distinct_joined}
use Rattle.fir_net.specs.declared.reads.Read.{Read}
use Rattle.fir_net.specs.declared.leaf.Role.{Role}
use Rattle.fir_net.specs.declared.leaf.Role.TheVariants as role
use Rattle.fir_net.specs.declared.leaf.Leaf.{Leaf}
use Rattle.fir_net.specs.declared.net.FlatNet.{FlatNet}
use Rattle.fir_net_names.specs.declared.name_table.NameTable.{NameTable}
use Rattle.fir_net_names.specs.working.LeafNamed.{name_at, somes}
use Rattle.ver_ast.specs.declared.tree.Port.{Port}
use Rattle.ver_ast.specs.declared.tree.Assign.{Assign}
use Rattle.ver_ast.specs.Nets.{SizedNet, Variable, variable_names, AlwaysBlock, port_net, input_clock, output_clock, output_clocks, input_nets, output_nets, clocks, wires, regs, port_nets, nets, arrays, assigns, clock_assigns, targets, blocks, block_target, block_targets, names_of}
use Rattle.ver_ast.specs.SoundSides.{IsSoundSide}
use Rattle.ver_ast.specs.ItemNames.{item_names, rhs_arrays}
use Rattle.ver_build.specs.Arranged.{block_item}
use Rattle.ver_ast.specs.Names.{rhs_names}
use Rattle.ver_ast.specs.Valid.{Valid, DeclaredBefore, IsSoundAssign, IsSoundBlock}
use Rattle.ver_build.specs.declared.places.Places.{Places}
use Rattle.ver_build.specs.working.Places.{clock_in}
use Rattle.ver_build.specs.working.Built.{inners, leaf_port, port_of}
use Rattle.ver_build.specs.Ports.{port_names}
use Rattle.ver_build.proofs.Names.{all_zipped}
use Rattle.ver_build.proofs.Premises.{Premises, LeafNamed}
use Rattle.ver_build.proofs.OrderedLeaves.{ordered_all, ordered_names, ordered_leaves, ordered_named, ordered_once}
use Rattle.ver_build.proofs.Parts.{registers_of, arrays_of, wires_of, assigns_of, clock_assigns_of, blocks_of, all_blocks_of, in_parts}
use Rattle.fir_net.specs.working.Counted.{is_register}
use Rattle.ver_build.proofs.LeafKinds.{is_input, is_clock_input, is_clock_output, is_output, is_net, is_written, sized_if, picked, picked_sized, picked_names}
use Rattle.ver_build.proofs.Picked.{picked_named, picked_once, picked_apart}
use Rattle.ver_build.proofs.Nets.{inner_name, inner_sized, sizes, inputs_sized, outputs_sized, clocks_are, registers_sized, wires_sized, blocks_are, output_clocks_are, arrays_are, nets_sized, nets_by_part, sizes_named}
use Rattle.ver_build.proofs.Sizes.{IsSized, LeafSized, leaf_is_sized, leaf_sizes, names_once, no_inner, sizes_once}
use Rattle.ver_build.proofs.InnersSound.{inner_size}
use Rattle.ver_build.proofs.Fitting.{FitsTarget, AssignAmong, BlockAmong, assigns_sound, assigns_name_nets, known_names}
use Rattle.ver_build.proofs.ClockAssigns.{assigns_are, clock_assigns_are, clock_targets, clock_targets_once, no_clock_target}
use Rattle.ver_build.proofs.ClockSides.{ShowsClock, side_names, clocks_shown}
use Rattle.ver_build.proofs.Driven.{targets_are, clock_targets_are, block_targets_are}
use Rattle.ver_build.proofs.TextOrder.{all_known, net_name, tree_name, items_declared}
use Rattle.ver_build.proofs.TextReads.{AssignsBefore, assigns_ordered}
use Rattle.ver_build.proofs.ProcessOrder.{process_order}
use Rattle.ver_build.proofs.ProcessesOnce.{is_order}
use Rattle.ver_build.proofs.Blocks.{block_names, block_sound, block_among}
use Rattle.ver_build.proofs.ArrayWords.{array_no_leaf}
use Rattle.ver_build.proofs.StateArrays.{array_at, array_names_are, array_names_once, array_words_many, state_variable, state_variables, tree_names, width_is}
use Rattle.ver_build.proofs.WritingBlocks.{array_block_among, array_block_sound, array_targets_are, has_writes, in_marked, marked_once}
use Rattle.ver_build.specs.Arranged.{marked}
use Rattle.ver_build.specs.working.ArrayBlocks.{array_blocks}
use Rattle.fir_net.specs.working.Arrays.{words_of}
use Rattle.std.proofs.lemmas.List.Concat.{flat_map-append}

abbrev IsNarrow : SizedNet → Type 0
IsNarrow s = (1 ≤ s.1) × (s.1 ≤ 128)

leaf_narrow : (ns : List SizedNet) (b : Bool) (w : ℕ) (n : Option (List ℕ)) → (b ≡ true → (name : List ℕ) → n ≡ Some name → IsSized ns name w)
    → AllByRecursion IsNarrow (sized_if b w n)
leaf_narrow ns false w n h = tt
leaf_narrow ns true w None h = tt
leaf_narrow ns true w (Some name) h = let size = h refl name refl in ((size.one, size.narrow), tt)

-- a clock has no range
abbrev IsUnranged : Port → Type 0
IsUnranged q = IsTrue q.is_clock → q.width ≡ 1

role_unranged : (r : Role) (w : ℕ) (name : List ℕ) → AllByRecursion IsUnranged (port_of r w name)
role_unranged role.Input w name = (λ h. absurd (cc), tt)
role_unranged role.Clock w name = (λ h. refl, tt)
role_unranged (role.Output r) w name = (λ h. absurd (cc), tt)
role_unranged (role.ClockOutput c) w name = (λ h. refl, tt)
role_unranged _ w name = tt

leaf_unranged : (l : Leaf) (n : Option (List ℕ)) → AllByRecursion IsUnranged (leaf_port l n)
leaf_unranged l None = tt
leaf_unranged l (Some name) = role_unranged l.role l.width name

output_no_input : (r : Role) → is_clock_input r ≡ true → is_clock_output r ≡ true → ⊥
output_no_input role.Clock a b = cc
output_no_input _ a b = cc

output_no_net : (r : Role) → is_net r ≡ true → is_clock_output r ≡ true → ⊥
output_no_net role.Input a b = cc
output_no_net (role.Output r) a b = cc
output_no_net (role.Register r) a b = cc
output_no_net _ a b = cc

no_net : (r : Role) → is_clock_input r ≡ true → is_net r ≡ true → ⊥
no_net role.Clock a b = cc
no_net _ a b = cc

input_not_driven : (r : Role) → is_input r ≡ true → is_output r ≡ true → ⊥
input_not_driven role.Input a b = cc
input_not_driven _ a b = cc

register_not_driven : (r : Role) → is_register r ≡ true → is_output r ≡ true → ⊥
register_not_driven (role.Register r) a b = cc
register_not_driven _ a b = cc

-- a net or a clock of a port has the port's name
one_net : (q : Port) (x : SizedNet) → In (port_net q) x → q.name ≡ x.0
one_net q x m = by q.is_clock m
  where
    by : (c : Bool) → In {A = SizedNet} (cond c [] ((q.name, q.width) ∷ [])) x → q.name ≡ x.0
    by true o = absurd o
    by false (inl e) = ap (λ (y : SizedNet). y.0) e
    by false (inr o) = absurd o

one_clock : (d : Direction) (q : Port) (n : List ℕ) → In (input_clock d q) n → q.name ≡ n
one_clock Input q n m = by q.is_clock m
  where
    by : (c : Bool) → In {A = List ℕ} (cond c (q.name ∷ []) []) n → q.name ≡ n
    by true (inl e) = e
    by true (inr o) = absurd o
    by false o = absurd o
one_clock Output q n m = absurd m

one_clock_output : (d : Direction) (q : Port) (n : List ℕ) → In (output_clock d q) n → q.name ≡ n
one_clock_output Input q n m = absurd m
one_clock_output Output q n m = by q.is_clock m
  where
    by : (c : Bool) → In {A = List ℕ} (cond c (q.name ∷ []) []) n → q.name ≡ n
    by true (inl e) = e
    by true (inr o) = absurd o
    by false o = absurd o

net_is_named : (qs : List Port) (n : List ℕ) → In (names_of (flat_map port_net qs)) n → In (map (λ (q : Port). q.name) qs) n
net_is_named qs n m =
    let x = in_map_from (λ (s : SizedNet). s.0) (flat_map port_net qs) n m in
    let q = in_flat_map_from port_net qs x.0 x.1 in
    subst (In (map (λ (q : Port). q.name) qs)) (one_net q.0 x.0 q.2 ∙ x.2) (in_map (λ (q : Port). q.name) qs q.0 q.1)

clock_is_named : (qs : List Port) (n : List ℕ) → In (flat_map (λ q. input_clock q.direction q) qs) n → In (map (λ (q : Port). q.name) qs) n
clock_is_named qs n m =
    let q = in_flat_map_from (λ (q : Port). input_clock q.direction q) qs n m in
    subst (In (map (λ (q : Port). q.name) qs)) (one_clock q.0.direction q.0 n q.2) (in_map (λ (q : Port). q.name) qs q.0 q.1)

clock_output_is_named : (qs : List Port) (n : List ℕ) → In (flat_map (λ q. output_clock q.direction q) qs) n → In (map (λ (q : Port). q.name) qs) n
clock_output_is_named qs n m =
    let q = in_flat_map_from (λ (q : Port). output_clock q.direction q) qs n m in
    subst (In (map (λ (q : Port). q.name) qs)) (one_clock_output q.0.direction q.0 n q.2) (in_map (λ (q : Port). q.name) qs q.0 q.1)

module _ (net : FlatNet) (t : NameTable) (p : Places) (order : List Read) (is : Premises net t p order) where
  abbrev tree_sizes : List SizedNet
  tree_sizes = sizes net t p order

  abbrev inside : List (List ℕ)
  inside = map inner_name (inners net t p order)

  once : Distinct (somes (ordered_names net t))
  once = ordered_once net t is.whole is.table

  all_once : Distinct (clocks (in_parts net t p order) ++ names_of (nets (in_parts net t p order)))
  all_once =
      let names = λ (ns : List SizedNet). names_of ns in
      rw (clocks_are net t p order, nets_sized net t p order is)
      (distinct_joined (picked is_clock_input (ordered_names net t) (ordered_leaves net)) (names tree_sizes) (picked_once is_clock_input (ordered_names net t) (ordered_leaves net) once)
      (sizes_once net t p order is)
      (λ x m n.
      ⊎_elim
      (λ (k : In (picked is_net (ordered_names net t) (ordered_leaves net)) x). picked_apart is_clock_input is_net no_net (ordered_names net t) (ordered_leaves net) once x m k)
      (λ (k : In inside x). no_inner net t p order is is_clock_input x m k)
      (in_either (picked is_net (ordered_names net t) (ordered_leaves net)) inside x (subst (λ (ns : List (List ℕ)). In ns x) (sizes_named net t p order) n))))

  -- the assigns of clock outputs name ports
  clocks_named : AllByRecursion (AssignAmong (port_names (in_parts net t p order))) (clock_assigns_of net t p order)
  clocks_named = all_from (AssignAmong (port_names (in_parts net t p order))) (clock_assigns_of net t p order) named
    where
      named : (a : Assign) → In (clock_assigns_of net t p order) a → AssignAmong (port_names (in_parts net t p order)) a
      named a m =
          let ports = (in_parts net t p order).ports in
          let side = all_at (ShowsClock (in_parts net t p order)) (clock_assigns_of net t p order) (clocks_shown net t p order is) a m in
          let target : In (output_clocks (in_parts net t p order)) a.target =
          subst (λ (ns : List (List ℕ)). In ns a.target) (clock_targets_are net t p order ∙ sym (output_clocks_are net t p order))
          (in_map (λ (x : Assign). x.target) (clock_assigns_of net t p order) a m) in
          record {
            target = clock_output_is_named ports a.target target;
            sources = each_more (rhs_arrays a.rhs ++ rhs_names a.rhs) (clocks (in_parts net t p order)) (port_names (in_parts net t p order))
                (clock_is_named ports)
                (side_names (in_parts net t p order) a.rhs side);
          }

  abbrev known : List (List ℕ)
  known = known_names net t p order is

  declared : DeclaredBefore (port_names (in_parts net t p order)) (in_parts net t p order).items
  declared =
      items_declared (port_names (in_parts net t p order)) known (registers_of net t p order) (arrays_of net t p order) (wires_of net t p order)
      (assigns_of net t p order) (clock_assigns_of net t p order) (all_blocks_of net t p order) among (assigns_name_nets net t p order is) clocks_named
      (all_from (BlockAmong (port_names (in_parts net t p order) ++ known)) (all_blocks_of net t p order)
      (λ b m. each_more (item_names (block_item b)) (block_names net t p order is) (port_names (in_parts net t p order) ++ known) from_clocks (named_block b m)))
    where
      named_block : (b : AlwaysBlock) → In (all_blocks_of net t p order) b → BlockAmong (block_names net t p order is) b
      named_block b m =
          ⊎_elim
          (λ (r : In (blocks_of net t p order) b). block_among net t p order is b r)
          (λ (a : In (array_blocks net t p) b). array_block_among net t p order is b a)
          (in_either (blocks_of net t p order) (array_blocks net t p) b m)

      -- clocks are ports
      from_clocks : (x : List ℕ) → In (block_names net t p order is) x → In (port_names (in_parts net t p order) ++ known) x
      from_clocks x m =
          let ports = port_names (in_parts net t p order) in
          ⊎_elim
          (λ (k : In (clocks (in_parts net t p order)) x). in_left ports known x (clock_is_named (in_parts net t p order).ports x k))
          (λ (k : In known x). in_right ports known x k)
          (in_either (clocks (in_parts net t p order)) known x m)

      rs : List (List ℕ)
      rs = map net_name (registers_of net t p order)

      ks : List (List ℕ)
      ks = map tree_name (arrays_of net t p order)

      ws : List (List ℕ)
      ws = map net_name (wires_of net t p order)

      ports : List (List ℕ)
      ports = port_names (in_parts net t p order)

      of_inner : (x : List ℕ) → In (map net_name (registers_of net t p order) ++ map net_name (wires_of net t p order)) x
          → In (all_known (port_names (in_parts net t p order)) (registers_of net t p order) (arrays_of net t p order) (wires_of net t p order)) x
      of_inner x m =
          ⊎_elim
          (λ (k : In (map net_name (registers_of net t p order)) x).
          in_left ((ports ++ rs) ++ ks) ws x (in_left (ports ++ rs) ks x (in_right ports rs x k)))
          (λ (k : In (map net_name (wires_of net t p order)) x). in_right ((ports ++ rs) ++ ks) ws x k)
          (in_either (map net_name (registers_of net t p order)) (map net_name (wires_of net t p order)) x m)

      of_nets : (x : List ℕ) → In (names_of tree_sizes) x
          → In (all_known (port_names (in_parts net t p order)) (registers_of net t p order) (arrays_of net t p order) (wires_of net t p order)) x
      of_nets x m =
          ⊎_elim
          (λ (k : In (names_of (port_nets (in_parts net t p order))) x).
          in_left ((ports ++ rs) ++ ks) ws x (in_left (ports ++ rs) ks x (in_left ports rs x (net_is_named (in_parts net t p order).ports x k))))
          (λ (k : In (map net_name (registers_of net t p order) ++ map net_name (wires_of net t p order)) x). of_inner x k)
          (in_either (names_of (port_nets (in_parts net t p order))) (map net_name (registers_of net t p order) ++ map net_name (wires_of net t p order)) x
          (subst (λ (ns : List (List ℕ)). In ns x) (nets_by_part net t p order is) m))

      among : (x : List ℕ) → In known x
          → In (all_known (port_names (in_parts net t p order)) (registers_of net t p order) (arrays_of net t p order) (wires_of net t p order)) x
      among x m =
          ⊎_elim
          (λ (k : In (names_of tree_sizes) x). of_nets x k)
          (λ (k : In (variable_names (state_variables net t)) x).
          in_left ((ports ++ rs) ++ ks) ws x
          (in_right (ports ++ rs) ks x (subst (λ (ns : List (List ℕ)). In ns x) (sym (tree_names net t is.whole is.table)) k)))
          (in_either (names_of tree_sizes) (variable_names (state_variables net t)) x m)

  ports_unranged : AllByRecursion IsUnranged (in_parts net t p order).ports
  ports_unranged =
      all_zipped LeafNamed IsUnranged leaf_port (λ l n h. leaf_unranged l n) (ordered_names net t) (ordered_leaves net) (ordered_named net t is.whole is.table)

  all_narrow : AllByRecursion IsNarrow tree_sizes
  all_narrow =
      all_joined IsNarrow (picked_sized is_net (ordered_names net t) (ordered_leaves net)) (map inner_sized (inners net t p order))
      (all_zipped (LeafSized tree_sizes) IsNarrow (λ l n. sized_if (is_net l.role) l.width n)
      (λ l n h. leaf_narrow tree_sizes (is_net l.role) l.width n (leaf_is_sized tree_sizes l n h)) (ordered_names net t) (ordered_leaves net) (leaf_sizes net t p order is))
      (all_mapped IsNarrow inner_sized (inners net t p order)
      (all_from (λ x. IsNarrow (inner_sized x)) (inners net t p order) (λ x m. let size = inner_size net t p order is x m in (size.one, size.narrow))))

  fits : (a : Assign) → In (assigns (in_parts net t p order)) a → IsSoundAssign (in_parts net t p order) a
  fits a m =
      subst (λ (ks : List Variable). (w : ℕ) × In (nets (in_parts net t p order)) (a.target, w) × IsSoundSide (nets (in_parts net t p order)) ks w a.rhs)
      (sym (arrays_are net t p order is.whole is.table))
      (subst (λ (ns : List SizedNet). FitsTarget ns (state_variables net t) a) (sym (nets_sized net t p order is))
      (all_at (FitsTarget tree_sizes (state_variables net t)) (assigns_of net t p order) (assigns_sound net t p order is) a
      (subst (λ (xs : List Assign). In xs a) (assigns_are net t p order is) m)))

  all_targets : targets (assigns (in_parts net t p order)) ≡ inside ++ picked is_output (ordered_names net t) (ordered_leaves net)
  all_targets = ap targets (assigns_are net t p order is) ∙ targets_are net t p order

  targets_once : Distinct (targets (assigns (in_parts net t p order)))
  targets_once =
      subst Distinct (sym all_targets)
      (distinct_joined inside (picked is_output (ordered_names net t) (ordered_leaves net)) (distinct_right (ordered_all net t) inside (names_once net t p order is))
      (picked_once is_output (ordered_names net t) (ordered_leaves net) once)
      (λ x m n. no_inner net t p order is is_output x n m))

  pub all_driven : names_of (wires (in_parts net t p order) ++ output_nets (in_parts net t p order)) ≡ targets (assigns (in_parts net t p order))
  all_driven =
      map-append (λ (s : SizedNet). s.0) (wires (in_parts net t p order)) (output_nets (in_parts net t p order))
      ∙ rw (
        wires_sized net t p order,
        outputs_sized net t p order,
        map-map (λ (s : SizedNet). s.0) inner_sized
            (inners net t p order),
        picked_names is_output (ordered_names net t) (ordered_leaves net),
      ) (sym all_targets)

  sources_are : names_of
      (input_nets (in_parts net t p order) ++ regs (in_parts net t p order))
      ≡ picked is_input (ordered_names net t) (ordered_leaves net) ++ picked is_register (ordered_names net t) (ordered_leaves net)
  sources_are =
      map-append (λ (s : SizedNet). s.0) (input_nets (in_parts net t p order)) (regs (in_parts net t p order))
      ∙ rw (
        inputs_sized net t p order,
        registers_sized net t p order,
        picked_names is_input (ordered_names net t) (ordered_leaves net),
        picked_names is_register (ordered_names net t) (ordered_leaves net),
      ) refl

  not_driven : (q : Role → Bool) → ((r : Role) → q r ≡ true → is_output r ≡ true → ⊥) → (n : List ℕ) → In (picked q (ordered_names net t) (ordered_leaves net)) n
      → In (targets (assigns (in_parts net t p order))) n → ⊥
  not_driven q none n m d =
      ⊎_elim
      (λ (k : In inside n). no_inner net t p order is q n m k)
      (λ (k : In (picked is_output (ordered_names net t) (ordered_leaves net)) n). picked_apart q is_output none (ordered_names net t) (ordered_leaves net) once n m k)
      (in_either inside (picked is_output (ordered_names net t) (ordered_leaves net)) n (subst (λ (ns : List (List ℕ)). In ns n) all_targets d))

  sources_not_driven : (n : List ℕ) → In (names_of (input_nets (in_parts net t p order) ++ regs (in_parts net t p order))) n
      → In (targets (assigns (in_parts net t p order))) n → ⊥
  sources_not_driven n m d =
      ⊎_elim
      (λ (k : In (picked is_input (ordered_names net t) (ordered_leaves net)) n). not_driven is_input input_not_driven n k d)
      (λ (k : In (picked is_register (ordered_names net t) (ordered_leaves net)) n). not_driven is_register register_not_driven n k d)
      (in_either (picked is_input (ordered_names net t) (ordered_leaves net)) (picked is_register (ordered_names net t) (ordered_leaves net)) n
      (subst (λ (ns : List (List ℕ)). In ns n) sources_are m))

  written : Distinct (block_targets (blocks (in_parts net t p order)))
  written =
      let marked_arrays = marked (map (has_writes net t p) net.array_order) (variable_names (state_variables net t)) in
      let written_leaves = picked (is_written (clock_in p.leaves)) (ordered_names net t) (ordered_leaves net) in
      subst Distinct
      (sym (ap block_targets (blocks_are net t p order) ∙ flat_map-append block_target (blocks_of net t p order) (array_blocks net t p)
      ∙ ap (λ (ns : List (List ℕ)). ns ++ block_targets (array_blocks net t p)) (block_targets_are net t p order is.whole is.table is.pipes)
      ∙ ap (λ (ns : List (List ℕ)). written_leaves ++ ns) (array_targets_are net t p order is)))
      (distinct_joined written_leaves marked_arrays
      (picked_once (is_written (clock_in p.leaves)) (ordered_names net t) (ordered_leaves net) once)
      (marked_once (map (has_writes net t p) net.array_order) (variable_names (state_variables net t)) (array_names_once net t is.whole is.table))
      (λ x m n.
      array_no_leaf net t p order is x (picked_named (is_written (clock_in p.leaves)) (ordered_names net t) (ordered_leaves net) x m)
      (in_marked (map (has_writes net t p) net.array_order) (variable_names (state_variables net t)) x n)))

  pub ordered : AssignsBefore (names_of (input_nets (in_parts net t p order) ++ regs (in_parts net t p order))) (assigns (in_parts net t p order))
  ordered =
      subst (λ (xs : List Assign). AssignsBefore (names_of (input_nets (in_parts net t p order) ++ regs (in_parts net t p order))) xs)
      (sym (assigns_are net t p order is))
      (subst (λ (ns : List (List ℕ)). AssignsBefore ns (assigns_of net t p order)) (sym sources_are) (assigns_ordered net t p order is))

  abbrev outs : List (List ℕ)
  outs = picked is_clock_output (ordered_names net t) (ordered_leaves net)

  -- a clock output is no clock input and no net
  outputs_apart : (x : List ℕ) → In (clocks (in_parts net t p order) ++ names_of (nets (in_parts net t p order))) x → In outs x → ⊥
  outputs_apart x m o =
      let nets_of = picked is_net (ordered_names net t) (ordered_leaves net) in
      ⊎_elim
      (λ (k : In (clocks (in_parts net t p order)) x).
      picked_apart is_clock_input is_clock_output output_no_input (ordered_names net t) (ordered_leaves net) once x
      (subst (λ (ns : List (List ℕ)). In ns x) (clocks_are net t p order) k) o)
      (λ (k : In (names_of (nets (in_parts net t p order))) x).
      ⊎_elim
      (λ (i : In nets_of x). picked_apart is_net is_clock_output output_no_net (ordered_names net t) (ordered_leaves net) once x i o)
      (λ (i : In inside x). no_inner net t p order is is_clock_output x o i)
      (in_either nets_of inside x
      (subst (λ (ns : List (List ℕ)). In ns x) (ap names_of (nets_sized net t p order is) ∙ sizes_named net t p order) k)))
      (in_either (clocks (in_parts net t p order)) (names_of (nets (in_parts net t p order))) x m)

  -- an array is no clock input and no net
  array_apart : (x : List ℕ) → In (clocks (in_parts net t p order) ++ names_of (nets (in_parts net t p order))) x → In (variable_names (state_variables net t)) x → ⊥
  array_apart x m a =
      let nets_of = picked is_net (ordered_names net t) (ordered_leaves net) in
      ⊎_elim
      (λ (k : In (clocks (in_parts net t p order)) x).
      array_no_leaf net t p order is x
      (picked_named is_clock_input (ordered_names net t) (ordered_leaves net) x (subst (λ (ns : List (List ℕ)). In ns x) (clocks_are net t p order) k)) a)
      (λ (k : In (names_of (nets (in_parts net t p order))) x).
      ⊎_elim
      (λ (i : In nets_of x). array_no_leaf net t p order is x (picked_named is_net (ordered_names net t) (ordered_leaves net) x i) a)
      (λ (i : In inside x).
      apart (ordered_all net t) inside (names_once net t p order is) x
      (in_right (somes (ordered_names net t)) (somes (map (name_at t.arrays) net.array_order)) x
      (subst (λ (ns : List (List ℕ)). In ns x) (array_names_are net t is.whole is.table) a)) i)
      (in_either nets_of inside x
      (subst (λ (ns : List (List ℕ)). In ns x) (ap names_of (nets_sized net t p order is) ∙ sizes_named net t p order) k)))
      (in_either (clocks (in_parts net t p order)) (names_of (nets (in_parts net t p order))) x m)

  all_declared_once : Distinct ((clocks (in_parts net t p order) ++ names_of (nets (in_parts net t p order)))
      ++ (variable_names (arrays (in_parts net t p order)) ++ output_clocks (in_parts net t p order)))
  all_declared_once =
      let here = clocks (in_parts net t p order) ++ names_of (nets (in_parts net t p order)) in
      let names = variable_names (state_variables net t) in
      subst (λ (ks : List Variable). Distinct (here ++ (variable_names ks ++ output_clocks (in_parts net t p order)))) (sym (arrays_are net t p order is.whole is.table))
      (subst (λ (ns : List (List ℕ)). Distinct (here ++ (names ++ ns))) (sym (output_clocks_are net t p order))
      (distinct_joined here (names ++ outs) all_once
      (distinct_joined names outs (array_names_once net t is.whole is.table) (picked_once is_clock_output (ordered_names net t) (ordered_leaves net) once)
      (λ x a o. array_no_leaf net t p order is x (picked_named is_clock_output (ordered_names net t) (ordered_leaves net) x o) a))
      (λ x m n.
      ⊎_elim
      (λ (a : In (variable_names (state_variables net t)) x). array_apart x m a)
      (λ (o : In outs x). outputs_apart x m o)
      (in_either names outs x n))))

  all_driven_once : Distinct (targets (assigns (in_parts net t p order) ++ clock_assigns (in_parts net t p order)))
  all_driven_once =
      subst Distinct
      (sym (map-append (λ (a : Assign). a.target) (assigns (in_parts net t p order)) (clock_assigns (in_parts net t p order))))
      (distinct_joined (targets (assigns (in_parts net t p order))) (targets (clock_assigns (in_parts net t p order))) targets_once
      (clock_targets_once net t p order is)
      (λ x m o.
      no_clock_target net t p order is x (subst (λ (xs : List Assign). In (targets xs) x) (assigns_are net t p order is) m)
      (subst (λ (ns : List (List ℕ)). In ns x) (clock_targets net t p order is ∙ output_clocks_are net t p order) o)))

  all_sound : (b : AlwaysBlock) → In (blocks (in_parts net t p order)) b → IsSoundBlock (in_parts net t p order) b
  all_sound b m =
      ⊎_elim
      (λ (r : In (blocks_of net t p order) b). block_sound net t p order is b r)
      (λ (a : In (array_blocks net t p) b). array_block_sound net t p order is b a)
      (in_either (blocks_of net t p order) (array_blocks net t p) b (subst (λ (bs : List AlwaysBlock). In bs b) (blocks_are net t p order) m))

  array_narrow : (k : Variable) → In (arrays (in_parts net t p order)) k → (1 ≤ k.width) × (k.width ≤ 128)
  array_narrow k m =
      let from = in_map_from (state_variable net t) net.array_order k (subst (λ (ks : List Variable). In ks k) (arrays_are net t p order is.whole is.table) m) in
      let a = array_at net t is.whole is.table from.0 from.1 in
      let wide : k.width ≡ a.array.width = sym (ap (λ (x : Variable). x.width) from.2) ∙ width_is net t from.0 a in
      let some = a.some in
      let narrow = a.whole.narrow in
      (omega arith, omega arith)

  few_words : sum_by (λ (k : Variable). k.depth) (arrays (in_parts net t p order)) ≤ 4194304
  few_words =
      let many : sum_by (λ (k : Variable). k.depth) (arrays (in_parts net t p order)) ≡ sum_by (words_of net.arrays) net.array_order =
      ap (sum_by (λ (k : Variable). k.depth)) (arrays_are net t p order is.whole is.table) ∙ array_words_many net t in
      subst (λ (n : ℕ). n ≤ 4194304) (sym many) is.whole.few_words

  pub parts_valid : Valid (in_parts net t p order)
  parts_valid = record {
    declared_once = all_declared_once;
    declared_before = declared;
    plain_clocks = all_at IsUnranged (in_parts net t p order).ports ports_unranged;
    narrow = λ n w m. all_at IsNarrow tree_sizes all_narrow (n, w) (subst (λ (ns : List SizedNet). In ns (n, w)) (nets_sized net t p order is) m);
    narrow_words = array_narrow;
    few_words = few_words;
    sound_assigns = fits;
    driven_once = all_driven_once;
    driven = λ n m. subst (λ ns. In ns n) all_driven m;
    driven_clocks = λ n m. subst (λ (ns : List (List ℕ)). In ns n) (sym (clock_targets net t p order is)) m;
    clock_sides = λ a m.
        all_at (ShowsClock (in_parts net t p order)) (clock_assigns_of net t p order) (clocks_shown net t p order is) a
        (subst (λ (xs : List Assign). In xs a) (clock_assigns_are net t p order is) m);
    undriven_sources = sources_not_driven;
    sound_blocks = all_sound;
    written_once = written;
    ordered = (process_order net t p order is, is_order net t p order is);
  }
