-- What is driven, by name: the targets of the assigns are the names of operations and then those of outputs, and those of the clock assigns the names of
-- clock outputs.
-- The targets of the blocks are the names of the registers that have one, and those of the asynchronous blocks the names of the registers with a reset.
use Rattle.std.proofs.Common.{◌≡◌, ℕ, List, [], ◌++◌, ◌||◌, true, map, flat_map, refl, sym, ap, ◌∙◌}
use Rattle.std.specs.Prelude.{Option, Some, None}
use Rattle.std.specs.Option.{is_some}
use Rattle.std.proofs.lemmas.List.{map-append}
use Rattle.std.proofs.lemmas.Simd.{map-map}
use Rattle.fir_net.specs.declared.reads.Read.{Read}
use Rattle.fir_net.specs.declared.leaf.Reset.{Reset}
use Rattle.fir_net.specs.declared.leaf.Role.{Role}
use Rattle.fir_net.specs.declared.leaf.Role.TheVariants as role
use Rattle.fir_net.specs.declared.net.FlatNet.{FlatNet}
use Rattle.fir_net.specs.working.IsNet.{is_port, IsNet}
use Rattle.fir_net.specs.working.IsWritable.{HasNoPipes}
use Rattle.fir_net_names.specs.declared.name_table.NameTable.{NameTable}
use Rattle.fir_net_names.specs.working.IsTable.{IsTable}
use Rattle.ver_ast.specs.declared.tree.Assign.{Assign}
use Rattle.ver_ast.specs.declared.tree.Edge.{Edge}
use Rattle.ver_ast.specs.declared.tree.Resetting.{Resetting}
use Rattle.ver_ast.specs.Nets.{targets, AlwaysBlock, block_reset, block_target, block_targets}
use Rattle.ver_build.specs.declared.places.Places.{Places}
use Rattle.ver_build.specs.working.Places.{clock_in}
use Rattle.ver_build.specs.working.Built.{inners, inner_assign, leaf_assign, role_assign, leaf_clock_assign, role_clock_assign, word_block}
use Rattle.ver_build.specs.working.Blocks.{block_on, edge_on, plain_on, role_block}
use Rattle.ver_build.proofs.Names.{map_zipped}
use Rattle.ver_build.proofs.OrderedLeaves.{ordered_names, ordered_leaves}
use Rattle.ver_build.proofs.Parts.{assigns_of, output_assigns, clock_assigns_of, blocks_of}
use Rattle.ver_build.proofs.Nets.{inner_name}
use Rattle.ver_build.proofs.Lists.{flat_mapped, flat_parts}
use Rattle.ver_build.proofs.WordLists.{words_given}
use Rattle.ver_build.proofs.LeafKinds.{is_output, is_clock_output, is_clocked, is_written, is_reset, name_if, picked}

output_target : (p : Places) (r : Role) (w : ℕ) (n : Option (List ℕ)) → targets (role_assign p r w n) ≡ name_if (is_output r) n
output_target p (role.Output r) w None = refl
output_target p (role.Output r) w (Some name) = refl
output_target p _ w n = refl

plain_target : (t : NameTable) (p : Places) (clock : Option ℕ) (w : ℕ) (next : Option Read) (name : List ℕ)
    → block_targets (plain_on (edge_on t p clock w next name)) ≡ name_if (is_clocked clock next) (Some name)
plain_target t p None w next name = refl
plain_target t p (Some k) w None name = refl
plain_target t p (Some k) w (Some r) name = refl

given_target : (t : NameTable) (p : Places) (k : ℕ) (clock : Option ℕ) (w : ℕ) (reset : Option Reset) (next : Option Read) (name : List ℕ)
    → block_targets (block_on p k w name reset (edge_on t p clock w next name)) ≡ name_if (is_some reset || is_clocked clock next) (Some name)
given_target t p k clock w None next name = plain_target t p clock w next name
given_target t p k clock w (Some r) next name = refl

role_target : (t : NameTable) (p : Places) (k : ℕ) (r : Role) (w : ℕ) (name : List ℕ)
    → block_targets (role_block t p k r w (Some name)) ≡ name_if (is_written (clock_in p.leaves) r) (Some name)
role_target t p k (role.Register r) w name = given_target t p k (clock_in p.leaves r.clock) w r.reset r.next name
role_target t p k _ w name = refl

written_inside : (clock : ℕ → Option ℕ) (r : Role) (n : Option (List ℕ)) → is_port r ≡ true → name_if (is_written clock r) n ≡ []
written_inside clock (role.Register r) n e = absurd (cc)
written_inside clock _ n e = refl

reset_inside : (r : Role) (n : Option (List ℕ)) → is_port r ≡ true → name_if (is_reset r) n ≡ []
reset_inside (role.Register r) n e = absurd (cc)
reset_inside _ n e = refl

-- the targets of the asynchronous blocks
abbrev pub targets_reset : List AlwaysBlock → List (List ℕ)
targets_reset bs = map (λ (b : Resetting). b.target) (flat_map block_reset bs)

plain_reset : (e : Option Edge) → targets_reset (plain_on e) ≡ []
plain_reset None = refl
plain_reset (Some e) = refl

given_reset : (p : Places) (k w : ℕ) (reset : Option Reset) (edge : Option Edge) (name : List ℕ)
    → targets_reset (block_on p k w name reset edge) ≡ name_if (is_some reset) (Some name)
given_reset p k w None edge name = plain_reset edge
given_reset p k w (Some r) edge name = refl

role_reset : (t : NameTable) (p : Places) (k : ℕ) (r : Role) (w : ℕ) (name : List ℕ)
    → targets_reset (role_block t p k r w (Some name)) ≡ name_if (is_reset r) (Some name)
role_reset t p k (role.Register r) w name = given_reset p k w r.reset (edge_on t p (clock_in p.leaves r.clock) w r.next name) name
role_reset t p k _ w name = refl

clock_target : (t : NameTable) (p : Places) (r : Role) (n : Option (List ℕ)) → targets (role_clock_assign t p r n) ≡ name_if (is_clock_output r) n
clock_target t p (role.ClockOutput c) None = refl
clock_target t p (role.ClockOutput c) (Some name) = refl
clock_target t p _ n = refl

module _ (net : FlatNet) (t : NameTable) (p : Places) (order : List Read) where
  pub output_targets_are : targets (output_assigns net t p order) ≡ picked is_output (ordered_names net t) (ordered_leaves net)
  output_targets_are =
      map_zipped (λ (a : Assign). a.target) (leaf_assign p) (λ l n. name_if (is_output l.role) n) (λ l n. output_target p l.role l.width n)
      (ordered_names net t) (ordered_leaves net)

  pub targets_are : targets (assigns_of net t p order) ≡ map inner_name (inners net t p order) ++ picked is_output (ordered_names net t) (ordered_leaves net)
  targets_are =
      let target = λ (a : Assign). a.target in
      let first : targets (map inner_assign (inners net t p order)) ≡ map inner_name (inners net t p order) =
      map-map target inner_assign (inners net t p order) in
      map-append target (map inner_assign (inners net t p order)) (output_assigns net t p order) ∙ rw (first, output_targets_are) refl

  pub clock_targets_are : targets (clock_assigns_of net t p order) ≡ picked is_clock_output (ordered_names net t) (ordered_leaves net)
  clock_targets_are =
      map_zipped (λ (a : Assign). a.target) (leaf_clock_assign t p) (λ l n. name_if (is_clock_output l.role) n) (λ l n. clock_target t p l.role n)
      (ordered_names net t) (ordered_leaves net)

  module _ (whole : IsNet net) (table : IsTable net t) (pipes : HasNoPipes net) where
    pub block_targets_are : block_targets (blocks_of net t p order) ≡ picked (is_written (clock_in p.leaves)) (ordered_names net t) (ordered_leaves net)
    block_targets_are =
        flat_parts block_target (word_block net t p) net.state
        ∙ sym (words_given net t whole table pipes (λ l n. name_if (is_written (clock_in p.leaves) l.role) n)
        (record { ports = λ l n e. written_inside (clock_in p.leaves) l.role n e }) (λ (k : ℕ). block_targets (word_block net t p k))
        (λ k l name at kind named. sym (rw (at, named) (role_target t p k l.role l.width name))))

    -- those of the registers with a reset
    pub reset_targets_are : targets_reset (blocks_of net t p order) ≡ picked is_reset (ordered_names net t) (ordered_leaves net)
    reset_targets_are =
        ap (map (λ (b : Resetting). b.target)) (flat_parts block_reset (word_block net t p) net.state)
        ∙ flat_mapped (λ (b : Resetting). b.target) (λ (k : ℕ). flat_map block_reset (word_block net t p k)) (λ (k : ℕ). targets_reset (word_block net t p k))
        (λ k. refl) net.state
        ∙ sym (words_given net t whole table pipes (λ l n. name_if (is_reset l.role) n) (record { ports = λ l n e. reset_inside l.role n e })
        (λ (k : ℕ). targets_reset (word_block net t p k))
        (λ k l name at kind named. sym (rw (at, named) (role_reset t p k l.role l.width name))))
