-- The arrays of a module's statements, in the order of the text, are those of a walk through their declarations.
use Rattle.std.proofs.Common.{◌≡◌, ℕ, ◌+◌, List, [], ◌∷◌, ◌++◌, map, filter, length, slice_get, Option, Some, refl, sym, ap, ap₂, ◌∙◌, subst, arith, append-nil, length-append}
use Rattle.std.proofs.lemmas.List.{map-append}
use Rattle.fir_base.specs.Lists.{In}
use Rattle.fir_ast.specs.Statements.{PlacedName, Statement, wire, register, node, instance, memory, when, connect, partial_connect, invalid, skip, Block, done, then}
use Rattle.fir_meaning.specs.Components as component
use Rattle.fir_meaning.specs.Components.{Component, Declaration}
use Rattle.fir_meaning.specs.LeafPaths.{LeafPath}
use Rattle.fir_meaning.specs.Visibility.{Before, behind, behind_block, declaration_at, declarations, opened, reopened, with_declaration}
use Rattle.fir_meaning.specs.working.LeafModules.{LeafArray}
use Rattle.fir_meaning.specs.ModuleScenes.{Scene}
use Rattle.fir_meaning.specs.working.LeafedModules.{arrays_in, arrays_in_block, leafed_module}
use Rattle.fir_meaning.specs.working.StateWalks.{own_arrays}
use Rattle.fir_meaning.specs.SourceCircuits.{PlacedArray, array_order_in, array_order_in_block, is_stored_array, placed_arrays}
use Rattle.fir_meaning.specs.SourceRoles.{SourceArray, source_arrays_in, source_arrays_in_block}
use Rattle.fir_design.proofs.ArrayRuns.{block_beside, block_run, memory_declares, statement_beside, statement_run}
use Rattle.fir_design.proofs.DeclaredInstances.{Grows}
use Rattle.fir_design.proofs.InstanceStatements.{longer_block, longer_statement}
use Rattle.fir_design.proofs.OwnArrays.{ArePlaced, arrays_first, arrays_second, own_arrays_are}
use Rattle.fir_design.proofs.PlacedRuns.{declared_there}
use Rattle.fir_design.proofs.SourceInstances.{grows_before}
use Rattle.fir_design.proofs.WalkedRanges.{IsWalk, both_walks, no_walk, one_walk}
use Rattle.fir_design.proofs.WordWalks.{of_instance}

module _ (s : Scene) (all : List PlacedArray) (at : LeafPath) (array : ℕ) (inside : ℕ → List ℕ) (child : List ℕ → List PlacedArray)
    (inside_are : (k : ℕ) (d : Declaration) → slice_get (declarations s.own.inside) k ≡ Some d
    → map (slice_get all) (inside k) ≡ map Some (of_instance child d.named.name d.component)) where
  abbrev gives : ℕ → List (Option PlacedArray)
  gives k = map (slice_get all) (map (λ x. array + x) (own_arrays (leafed_module s) k) ++ inside k)

  -- a declaration's own arrays, and those of its instance
  one_declared : (before : Before) (n : PlacedName) (c : Component) (b : ℕ) (xs : List LeafArray) (us : List SourceArray)
      → Grows (with_declaration before n c).declared (declarations s.own.inside)
      → ArePlaced (leafed_module s) all at array (length before.declared) (length (with_declaration before n c).declared) b xs us
      → ((a : LeafArray) → In xs a → a.declaration ≡ length before.declared)
      → (given : List PlacedArray) → filter is_stored_array (placed_arrays at us) ++ of_instance child n.name c ≡ given
      → IsWalk gives (length before.declared) (length (with_declaration before n c).declared) (map Some given)
  one_declared before n c b xs us g p own given is =
      let k = length before.declared in
      let d = declaration_at before n c in
      let next : k + 1 ≡ length (with_declaration before n c).declared = omega (arith, length-append before.declared (d ∷ [])) in
      one_walk gives k (length (with_declaration before n c).declared) _ next
      (map-append (slice_get all) (map (λ x. array + x) (own_arrays (leafed_module s) k)) (inside k)
      ∙ ap₂ (λ zs ws. zs ++ ws)
      (own_arrays_are (leafed_module s) all at array k b xs us
      (subst (λ z. ArePlaced (leafed_module s) all at array k z b xs us) (sym next) p) own)
      (inside_are k d (declared_there (declarations s.own.inside) before n c g))
      ∙ sym (map-append Some (filter is_stored_array (placed_arrays at us)) (of_instance child n.name c)) ∙ ap (map Some) is)

  mutual
    statement_arrays : (x : Statement) (before : Before) (b : ℕ) → Grows (behind before x).declared (declarations s.own.inside)
        → ArePlaced (leafed_module s) all at array (length before.declared) (length (behind before x).declared) b (arrays_in s before x)
        (source_arrays_in s x)
        → IsWalk gives (length before.declared) (length (behind before x).declared) (map Some (array_order_in at s child x))
    statement_arrays (wire p n begins t) before b g h = one_declared before n (component.wire t) b [] [] g h (λ a i. absurd i) [] refl
    statement_arrays (register p n begins t c r) before b g h = one_declared before n (component.register t) b [] [] g h (λ a i. absurd i) [] refl
    statement_arrays (node p n e) before b g h = one_declared before n (component.node e) b [] [] g h (λ a i. absurd i) [] refl
    statement_arrays (instance p n other) before b g h =
        one_declared before n (component.instance other.name) b [] [] g h (λ a i. absurd i) (child n.name) refl
    statement_arrays (memory p n parts) before b g h =
        one_declared before n (component.memory parts) b (arrays_in s before (memory p n parts)) (source_arrays_in s (memory p n parts)) g h
        (memory_declares s before n parts) (array_order_in at s child (memory p n parts))
        (append-nil (filter is_stored_array (placed_arrays at (source_arrays_in s (memory p n parts)))))
    statement_arrays (when p c a e) before b g h =
        let inside_first = behind_block (opened before) a in
        let second = reopened before inside_first in
        let here = length before.declared in
        let middle = length inside_first.declared in
        let upto = length (behind_block second e).declared in
        let xs = arrays_in_block s (opened before) a in
        let ys = arrays_in_block s second e in
        let us = source_arrays_in_block s a in
        let vs = source_arrays_in_block s e in
        let low = longer_block (opened before) a in
        let high = longer_block second e in
        subst (IsWalk gives here upto) (sym (map-append Some (array_order_in_block at s child a) (array_order_in_block at s child e)))
        (both_walks gives here middle upto _ _
        (block_arrays a (opened before) b (grows_before second e (declarations s.own.inside) g)
        (arrays_first (leafed_module s) all at array here middle upto b xs ys us vs (block_beside s a (opened before)) low high
        (block_run s a (opened before)) (block_run s e second) h))
        (block_arrays e second (b + length xs) g
        (arrays_second (leafed_module s) all at array here middle upto b xs ys us vs (block_beside s a (opened before)) low high
        (block_run s a (opened before)) (block_run s e second) h)))
    statement_arrays (connect p d e) before b g h = no_walk gives (length before.declared)
    statement_arrays (partial_connect p d e) before b g h = no_walk gives (length before.declared)
    statement_arrays (invalid p d) before b g h = no_walk gives (length before.declared)
    statement_arrays (skip p) before b g h = no_walk gives (length before.declared)

    pub block_arrays : (x : Block) (before : Before) (b : ℕ) → Grows (behind_block before x).declared (declarations s.own.inside)
        → ArePlaced (leafed_module s) all at array (length before.declared) (length (behind_block before x).declared) b (arrays_in_block s before x)
        (source_arrays_in_block s x)
        → IsWalk gives (length before.declared) (length (behind_block before x).declared) (map Some (array_order_in_block at s child x))
    block_arrays done before b g h = no_walk gives (length before.declared)
    block_arrays ((then) x rest) before b g h =
        let next = behind before x in
        let here = length before.declared in
        let middle = length next.declared in
        let upto = length (behind_block next rest).declared in
        let xs = arrays_in s before x in
        let ys = arrays_in_block s next rest in
        let us = source_arrays_in s x in
        let vs = source_arrays_in_block s rest in
        let low = longer_statement before x in
        let high = longer_block next rest in
        subst (IsWalk gives here upto) (sym (map-append Some (array_order_in at s child x) (array_order_in_block at s child rest)))
        (both_walks gives here middle upto _ _
        (statement_arrays x before b (grows_before next rest (declarations s.own.inside) g)
        (arrays_first (leafed_module s) all at array here middle upto b xs ys us vs (statement_beside s x before) low high
        (statement_run s x before) (block_run s rest next) h))
        (block_arrays rest next (b + length xs) g
        (arrays_second (leafed_module s) all at array here middle upto b xs ys us vs (statement_beside s x before) low high
        (statement_run s x before) (block_run s rest next) h)))
