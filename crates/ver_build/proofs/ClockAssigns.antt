-- The assigns of the tree, without those of its clock outputs, and these.
-- A clock output is no output of bits, and its name is none of an inner net.
use Rattle.std.proofs.Common.{◌≡◌, ℕ, List, map, true, sym, ap, ◌∙◌, ⊎_elim, subst}
use Rattle.fir_base.specs.Lists.{In, Distinct}
use Rattle.fir_base.proofs.Members.{in_map, in_either}
use Rattle.fir_net.specs.declared.reads.Read.{Read}
use Rattle.fir_net.specs.declared.leaf.Role.{Role}
use Rattle.fir_net.specs.declared.leaf.Role.TheVariants as role
use Rattle.fir_net.specs.declared.net.FlatNet.{FlatNet}
use Rattle.fir_net_names.specs.declared.name_table.NameTable.{NameTable}
use Rattle.ver_ast.specs.declared.tree.Assign.{Assign}
use Rattle.ver_ast.specs.Nets.{output_clocks, assigns, clock_assigns, targets}
use Rattle.ver_build.specs.declared.places.Places.{Places}
use Rattle.ver_build.specs.working.Built.{inners}
use Rattle.ver_build.proofs.Premises.{Premises}
use Rattle.ver_build.proofs.OrderedLeaves.{ordered_names, ordered_leaves, ordered_once}
use Rattle.ver_build.proofs.Parts.{registers_of, arrays_of, wires_of, assigns_of, clock_assigns_of, all_blocks_of, in_parts}
use Rattle.ver_build.proofs.ItemLists.{assigns_among, clock_assigns_among}
use Rattle.ver_build.proofs.LeafKinds.{is_output, is_clock_output, picked}
use Rattle.ver_build.proofs.Picked.{picked_once, picked_apart}
use Rattle.ver_build.proofs.Nets.{inner_name, output_clocks_are}
use Rattle.ver_build.proofs.Driven.{targets_are, clock_targets_are}
use Rattle.ver_build.proofs.Sizes.{no_inner}

output_no_clock : (r : Role) → is_output r ≡ true → is_clock_output r ≡ true → ⊥
output_no_clock (role.Output r) a b = cc
output_no_clock _ a b = cc

module _ (net : FlatNet) (t : NameTable) (p : Places) (order : List Read) (is : Premises net t p order) where
  abbrev outs : List (List ℕ)
  outs = picked is_clock_output (ordered_names net t) (ordered_leaves net)

  -- no other assign drives a clock output
  pub no_clock_target : (x : List ℕ) → In (targets (assigns_of net t p order)) x → In outs x → ⊥
  no_clock_target x m o =
      let inside = map inner_name (inners net t p order) in
      let bits = picked is_output (ordered_names net t) (ordered_leaves net) in
      ⊎_elim
      (λ (k : In inside x). no_inner net t p order is is_clock_output x o k)
      (λ (k : In bits x).
      picked_apart is_output is_clock_output output_no_clock (ordered_names net t) (ordered_leaves net) (ordered_once net t is.whole is.table) x k o)
      (in_either inside bits x (subst (λ (ns : List (List ℕ)). In ns x) (targets_are net t p order) m))

  others : (a : Assign) → In (assigns_of net t p order) a → In (output_clocks (in_parts net t p order)) a.target → ⊥
  others a m o =
      no_clock_target a.target (in_map (λ (x : Assign). x.target) (assigns_of net t p order) a m)
      (subst (λ (ns : List (List ℕ)). In ns a.target) (output_clocks_are net t p order) o)

  own : (a : Assign) → In (clock_assigns_of net t p order) a → In (output_clocks (in_parts net t p order)) a.target
  own a m =
      subst (λ (ns : List (List ℕ)). In ns a.target) (clock_targets_are net t p order ∙ sym (output_clocks_are net t p order))
      (in_map (λ (x : Assign). x.target) (clock_assigns_of net t p order) a m)

  pub assigns_are : assigns (in_parts net t p order) ≡ assigns_of net t p order
  assigns_are =
      assigns_among (registers_of net t p order) (arrays_of net t p order) (wires_of net t p order) (assigns_of net t p order) (clock_assigns_of net t p order)
      (all_blocks_of net t p order) (output_clocks (in_parts net t p order)) others own

  pub clock_assigns_are : clock_assigns (in_parts net t p order) ≡ clock_assigns_of net t p order
  clock_assigns_are =
      clock_assigns_among (registers_of net t p order) (arrays_of net t p order) (wires_of net t p order) (assigns_of net t p order) (clock_assigns_of net t p order)
      (all_blocks_of net t p order) (output_clocks (in_parts net t p order)) others own

  -- each clock output has one
  pub clock_targets : targets (clock_assigns (in_parts net t p order)) ≡ output_clocks (in_parts net t p order)
  clock_targets = ap targets clock_assigns_are ∙ clock_targets_are net t p order ∙ sym (output_clocks_are net t p order)

  pub clock_targets_once : Distinct (targets (clock_assigns (in_parts net t p order)))
  clock_targets_once =
      subst Distinct (sym (clock_targets ∙ output_clocks_are net t p order))
      (picked_once is_clock_output (ordered_names net t) (ordered_leaves net) (ordered_once net t is.whole is.table))
