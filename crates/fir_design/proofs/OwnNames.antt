-- In each module of a circuit without a fault of names or types no name is declared twice, no path is that of two leaves, and each leaf begins with
-- the name of its declaration.
use Rattle.std.proofs.Common.{◌≡◌, ℕ, suc, ◌<◌, List, [], ◌∷◌, map, length, slice_get, Some, option_map, sym, ap, ◌∙◌, subst, inl, inr, ⊎_elim, arith, length-append}
use Rattle.std.specs.Prelude.{flat_map, slice_index_or}
use Rattle.std.proofs.lemmas.List.{length-map}
use Rattle.std.proofs.lemmas.Option.{get_or_from_slice_get, slice_get-map, slice_get_within}
use Rattle.std.proofs.lemmas.Simd.{map-map}
use Rattle.fir_base.specs.Lists.{In, Distinct}
use Rattle.fir_base.proofs.Members.{in_either}
use Rattle.fir_ast.specs.Statements.{PlacedName, Statement, wire, register, node, instance, memory, when, connect, partial_connect, invalid, skip, Block, done, then}
use Rattle.fir_meaning.specs.Components.{Declaration, Declarations}
use Rattle.fir_meaning.specs.Components as component
use Rattle.fir_meaning.specs.LeafPaths.{named}
use Rattle.fir_meaning.specs.MemoryTypes.{data_of_part, first_one}
use Rattle.fir_meaning.specs.SizedMemories.{sized_array}
use Rattle.fir_meaning.specs.TypeLeaves.{TypeLeaf}
use Rattle.fir_meaning.specs.Visibility.{Before, behind, behind_block, declaration_at, declarations, opened, reopened}
use Rattle.fir_meaning.specs.working.DesignPaths.{no_name}
use Rattle.fir_leaf.specs.working.DesignStates.{array_at, no_array}
use Rattle.fir_meaning.specs.working.LeafMemories.{LeafMemory, arrays_from}
use Rattle.fir_meaning.specs.FoundTypes.{leaves_of_data}
use Rattle.fir_meaning.specs.working.LeafModules.{LeafArray, leaf_at}
use Rattle.fir_meaning.specs.LeafTypes.{LeafType}
use Rattle.fir_meaning.specs.ModuleScenes.{Scene, behind_all_ports}
use Rattle.fir_meaning.specs.working.LeafedModules.{arrays_in, arrays_in_block, leafed_module, memory_before, module_leaves}
use Rattle.fir_meaning.specs.HeldTypes.{held_types}
use Rattle.fir_leaf.specs.working.NamedDesigns.{HasOwnNames, IsBehind, declared_name}
use Rattle.fir_leaf.specs.working.TableLaws.{IsLeafOf}
use Rattle.fir_leaf.proofs.OncePaths.{at_in}
use Rattle.fir_leaf.proofs.OwnPaths.{distinct_paths}
use Rattle.fir_design.proofs.FineScenes.{IsFineScene, leaf_is, whole_scope}
use Rattle.fir_design.proofs.InstanceStatements.{longer_block}
use Rattle.fir_design.proofs.KnownDeclarations.{known_names, same_name}

-- an array is of the memory that it is made for
arrays_of_one : (m : LeafMemory) (i : ℕ) (ls : List TypeLeaf) (hs : List LeafType) (a : LeafArray) → In (arrays_from m i ls hs) a
    → a.declaration ≡ m.declaration
arrays_of_one m i [] hs a among = absurd among
arrays_of_one m i (l ∷ ls) [] a among = absurd among
arrays_of_one m i (l ∷ ls) (h ∷ hs) a (inl e) = ap (λ (x : LeafArray). x.declaration) (sym e)
arrays_of_one m i (l ∷ ls) (h ∷ hs) a (inr among) = arrays_of_one m (suc i) ls hs a among

module _ (s : Scene) where
  mutual
    statement_arrays : (x : Statement) (before : Before) (a : LeafArray) → In (arrays_in s before x) a
        → a.declaration < length (behind before x).declared
    statement_arrays (memory p n parts) before a among =
        omega (
          arith,
          arrays_of_one (memory_before s before n parts) 0 (leaves_of_data (first_one (flat_map data_of_part parts)))
              (held_types s.widths (sized_array parts)) a among,
          length-append before.declared (declaration_at before n (component.memory parts) ∷ []),
        )
    statement_arrays (when p c b e) before a among =
        let first = opened before in
        let second = reopened before (behind_block first b) in
        ⊎_elim
        (λ (l : In (arrays_in_block s first b) a). omega (arith, block_arrays b first a l, longer_block second e))
        (λ (r : In (arrays_in_block s second e) a). block_arrays e second a r)
        (in_either (arrays_in_block s first b) (arrays_in_block s second e) a among)
    statement_arrays (wire p n begins t) before a among = absurd among
    statement_arrays (register p n begins t c r) before a among = absurd among
    statement_arrays (node p n e) before a among = absurd among
    statement_arrays (instance p n m) before a among = absurd among
    statement_arrays (connect p d e) before a among = absurd among
    statement_arrays (partial_connect p d e) before a among = absurd among
    statement_arrays (invalid p d) before a among = absurd among
    statement_arrays (skip p) before a among = absurd among

    block_arrays : (b : Block) (before : Before) (a : LeafArray) → In (arrays_in_block s before b) a
        → a.declaration < length (behind_block before b).declared
    block_arrays done before a among = absurd among
    block_arrays ((then) x b) before a among =
        let next = behind before x in
        ⊎_elim
        (λ (l : In (arrays_in s before x) a). omega (arith, statement_arrays x before a l, longer_block next b))
        (λ (r : In (arrays_in_block s next b) a). block_arrays b next a r)
        (in_either (arrays_in s before x) (arrays_in_block s next b) a among)

pub name_declared : (ds : Declarations) (x : ℕ) (d : Declaration) → slice_get ds x ≡ Some d
    → slice_index_or (map (λ (y : Declaration). y.named) ds) x no_name ≡ d.named
name_declared ds x d e =
    get_or_from_slice_get (map (λ (y : Declaration). y.named) ds) x d.named no_name
    (slice_get-map (λ (y : Declaration). y.named) ds x ∙ ap (option_map (λ (y : Declaration). y.named)) e)

module _ (s : Scene) (f : IsFineScene s) where
  abbrev all : Declarations
  all = declarations s.own.inside

  names_long : length (leafed_module s).declared ≡ length (declarations s.own.inside)
  names_long = length-map (declarations s.own.inside) (λ (d : Declaration). d.named)

  begins_named : (x : ℕ) → x < length (module_leaves s)
      → IsBehind (declared_name (leafed_module s) (leaf_at (module_leaves s) x).declaration) (leaf_at (module_leaves s) x).path
  begins_named x lt =
      let is : IsLeafOf (whole_scope s) (declarations s.own.inside) (leaf_at (module_leaves s) x) = leaf_is s f x lt in
      let place = (leaf_at (module_leaves s) x).declaration in
      let names : is.known.name ≡ is.declared.named.name = same_name s.own.modules all place is.known is.declared is.is_known is.is_declared in
      let here : declared_name (leafed_module s) place ≡ is.declared.named.name =
      ap (λ (n : PlacedName). n.name) (name_declared all place is.declared is.is_declared) in
      record { rest = is.leaf.path; is = is.path ∙ ap (λ n. named n ∷ is.leaf.path) (names ∙ sym here) }

  pub own_names : HasOwnNames (leafed_module s)
  own_names = record {
    names =
        subst Distinct
        (known_names s.own.modules all ∙ sym (map-map (λ (n : PlacedName). n.name) (λ (d : Declaration). d.named) all)) f.fine.names;
    paths = subst Distinct (sym f.paths) (distinct_paths (whole_scope s) f.fine);
    declared = λ x lt.
        let is = leaf_is s f x lt in
        let within = slice_get_within all (leaf_at (module_leaves s) x).declaration is.declared is.is_declared in
        omega (arith, within, names_long);
    begins = begins_named;
    arrays = λ x lt.
        let inside = block_arrays s s.own.inside.body (behind_all_ports s.own.inside) (array_at (leafed_module s).arrays x)
        (at_in (leafed_module s).arrays no_array x lt) in
        omega (arith, inside, names_long);
  }
