-- What is declared at a place has the type that is found at its position, and its leaves stand from the number that is found there.
use Rattle.std.proofs.Common.{◌≡◌, ℕ, zero, suc, ◌+◌, List, [], ◌∷◌, ◌++◌, length, map, flat_map, Option, Some, None, Result, Ok, Err, refl, sym, ap, ◌∙◌, subst, append_assoc, append-nil, arith}
use Rattle.std.specs.Prelude.{IfOk, slice_get, unwrap_or}
use Rattle.std.proofs.lemmas.Option.{none-some, same_Some}
use Rattle.fir_base.proofs.Elements.{beside}
use Rattle.fir_ast.specs.Types.{DataType}
use Rattle.fir_ast.specs.Circuits.{CircuitTree, ModuleTree}
use Rattle.fir_ast.specs.Statements.{PlacedName}
use Rattle.fir_ast.specs.working.Views.{circuit_of}
use Rattle.fir_meaning.specs.Components.{Component, Declaration, Declarations}
use Rattle.fir_meaning.specs.ComponentTypes.{known_as, typed_behind, typed_scope}
use Rattle.fir_meaning.specs.SizedDeclarations.{all_port_numbers, first_numbers, numbered_behind, numbered_modules, sized_declared}
use Rattle.fir_meaning.specs.SizedTypes.{Sized, bare_type}
use Rattle.fir_meaning.specs.TypeKinds.{bare}
use Rattle.fir_meaning.specs.TypeLeaves.{type_leaves}
use Rattle.fir_meaning.specs.TypedScopes.{Known, TypedScope}
use Rattle.fir_meaning.specs.Visibility.{Before, declaration_at, declarations}
use Rattle.fir_meaning.specs.WidthExpressions.{Width, Widths}
use Rattle.fir_meaning.specs.WidthRules.{AreWidths}
use Rattle.fir_type_table.specs.working.Saturated.{saturated}
use Rattle.fir_type_table.specs.working.Tables.{types_of}
use Rattle.fir_types.specs.declared.found.Found.{Found}
use Rattle.fir_types.specs.working.LeafNumbers.{first_leaves}
use Rattle.fir_types.specs.working.Seen.{found_type, seen}
use Rattle.fir_width.specs.working.DeclaredWidths.{leaf_widths, module_widths, port_widths}
use Rattle.fir_width.specs.working.FlatWidths.{flat}
use Rattle.fir_width.specs.working.StandingWidths.{Stands}
use Rattle.fir_width.specs.working.Sides.{IsSide}
use Rattle.fir_width.proofs.BodyNumbers.{ports_before}
use Rattle.fir_width.proofs.DeclaredScopes.{known_behind, nodes_typed, scope_known}
use Rattle.fir_width.proofs.StandingWidths.{stands_left, stands_right, stands_whole}
use Rattle.fir_meaning.specs.LeafTypes.{LeafType}
use Rattle.fir_meaning.specs.ModuleScenes.{Scene, held_by_declared, type_of_declared}
use Rattle.fir_meaning.specs.HeldTypes.{held_types}
use Rattle.fir_leaf.proofs.LeafPlaces.{get_mapped}
use Rattle.fir_leaf_table.specs.declared.frame.Frame.{Frame}
use Rattle.fir_leaf_table.specs.declared.type_leaves.TypeLeaf.{TypeLeaf as LeafOfCode}
use Rattle.fir_leaf_table.specs.working.Frames.{Frames, IsDeclaredAt}
use Rattle.fir_leaf_table.specs.working.TypedLeaves.{AreLeavesOf, flips_of, flips_seen, holds_seen}
use Rattle.fir_leaf_table.proofs.DeclarationNumbers.{StandsAt}
use Rattle.fir_leaf_table.proofs.ModuleNumbers.{in_modules}

-- what a mapped list has at a number comes from the list
from_map : {A B : Type 0} → (f : A → B) (xs : List A) (k : ℕ) (y : B) → slice_get (map f xs) k ≡ Some y
    → (x : A) × (slice_get xs k ≡ Some x) × (f x ≡ y)
from_map f [] k y e = absurd (none-some y e)
from_map f (x ∷ xs) zero y e = (x, refl, same_Some (f x) y e)
from_map f (x ∷ xs) (suc k) y e = from_map f xs k y e

-- what is known at the position of a declaration
known_there : (modules : List ModuleTree) (ks : TypedScope) (ds rest : Declarations) (d : Declaration)
    → slice_get (known_behind modules ks (ds ++ d ∷ rest)) (length ds) ≡ Some (known_as modules (typed_behind modules ks ds) d)
known_there modules ks [] rest d = refl
known_there modules ks (x ∷ ds) rest d = known_there modules (ks ++ known_as modules ks x ∷ []) ds rest d

-- the type at a position, and the number from which the leaves stand
pub record DeclaredAt (ts : List DataType) (meant : List Width) (declared : List (Option Found)) (firsts : List ℕ) (position : ℕ)
    (t : Option DataType) (s : Sized) : Type 0 where
  pub found : Option Found
  pub found_at : slice_get declared position ≡ Some found
  pub type : seen ts found ≡ t
  pub first : ℕ
  pub first_at : slice_get firsts position ≡ Some (saturated first)
  pub shape : (u : DataType) → t ≡ Some u → bare_type s ≡ bare u
  pub stands : (u : DataType) → t ≡ Some u → Stands meant first (flat s)

module _ (frame : Frame) (c : CircuitTree) (s : Scene) (frames : Frames frame c s) where
  stands_there : (ds rest : Declarations) (d : Declaration) (firsts : List ℕ) → slice_get (first_leaves c) frame.number ≡ Some firsts
      → declarations s.own.inside ≡ ds ++ d ∷ rest
      → StandsAt (leaf_widths c) c.modules (typed_scope c.modules ds) (numbered_behind c.modules s.own.start ds) d firsts (length ds)
  stands_there ds rest d firsts at split =
      let meant = leaf_widths c in
      let ports = port_widths 0 c.modules in
      let bodies = flat_map module_widths (numbered_modules c) in
      let whole : Stands meant 0 meant = stands_whole meant meant [] (sym (append-nil meant)) in
      let first = stands_left meant 0 ports bodies whole in
      let behind = stands_right meant 0 ports bodies whole in
      let next : 0 + length ports ≡ all_port_numbers c.modules = let long = ports_before 0 c.modules in omega (arith, long) in
      in_modules meant c.modules first c.modules (first_numbers c.modules) (record { port = 0; body = all_port_numbers c.modules }) refl
      (record { port = refl; body = refl }) (nodes_typed c frames.named frames.typed.clear) first (subst (λ n. Stands meant n bodies) next behind)
      frame.number s.own firsts
      frames.scene.own at ds rest d split

  declared_at : (before : Before) (n : PlacedName) (component : Component) (position : ℕ) → IsDeclaredAt s before n component position
      → DeclaredAt (types_of frame.findings.now.table) (leaf_widths c) frame.declared.now frame.first_leaves.now position
      (type_of_declared s (record { named = n; component = component; before = before })) (sized_declared s.own before n component)
  declared_at before n component position declared =
      let ts = types_of frame.findings.now.table in
      let d = declaration_at before n component in
      let ds = before.declared in
      let whole = declarations s.own.inside in
      let rest = declared.begins.0 in
      let split : whole ≡ ds ++ d ∷ rest = declared.begins.1 ∙ append_assoc ds (d ∷ []) rest in
      let known : slice_get (typed_scope c.modules whole) (length ds) ≡ Some (known_as c.modules (typed_scope c.modules ds) d) =
      ap (λ es. slice_get (typed_scope c.modules es) (length ds)) split
      ∙ ap (λ ks. slice_get ks (length ds)) (scope_known c.modules (ds ++ d ∷ rest))
      ∙ known_there c.modules [] ds rest d in
      let found =
      beside (seen ts) (λ (k : Known). k.data_type) frame.declared.now (typed_scope c.modules whole) frames.types (length ds)
      (known_as c.modules (typed_scope c.modules ds) d) known in
      let exact = from_map (map saturated) (first_leaves c) frame.number frame.first_leaves.now frames.first_leaves in
      let one = stands_there ds rest d exact.0 exact.1 split in
      rw (declared.counted, frames.modules)
      (record {
        found = found.0;
        found_at = found.1;
        type = found.2;
        first = one.first;
        first_at = ap (λ fs. slice_get fs (length ds)) (sym exact.2) ∙ get_mapped saturated exact.0 (length ds) one.first one.at;
        shape = one.shape;
        stands = one.stands;
      })

  module _ (before : Before) (n : PlacedName) (component : Component) (position : ℕ) (declared : IsDeclaredAt s before n component position) where
    abbrev type : Option DataType
    type = type_of_declared s (record { named = n; component = component; before = before })

    abbrev holds : List LeafType
    holds = held_by_declared s (record { named = n; component = component; before = before })

    -- what has no type has no leaves
    pub none_found : unwrap_or (slice_get frame.declared.now position) None ≡ None → (ls : List LeafOfCode) → ls ≡ []
        → AreLeavesOf ls type holds
    none_found none ls empty =
        let at = declared_at before n component position declared in
        let same : type ≡ None =
        sym at.type ∙ ap (seen (types_of frame.findings.now.table)) (ap (λ o. unwrap_or o None) (sym at.found_at) ∙ none) in
        subst (λ t. AreLeavesOf ls t holds) (sym same) empty

    -- and each has a first number
    pub has_first : slice_get frame.first_leaves.now position ≡ None → (ls : List LeafOfCode) → AreLeavesOf ls type holds
    has_first none ls =
        let at = declared_at before n component position declared in absurd (none-some (saturated at.first) (sym none ∙ at.first_at))

    pub leaves_found : (found : Found) (first : ℕ) (ls : List LeafOfCode) → unwrap_or (slice_get frame.declared.now position) None ≡ Some found
        → slice_get frame.first_leaves.now position ≡ Some first → (first ≡ 18446744073709551615 → ⊥)
        → flips_seen ls ≡ flips_of (type_leaves (found_type (types_of frame.findings.now.table) found))
        → ((z : Sized) (w : Widths)
        → IsSide (types_of frame.findings.now.table) (leaf_widths (circuit_of frame.fitted.now)) (record { found = found; first = first }) z
        → AreWidths (circuit_of frame.fitted.now) w → holds_seen ls ≡ held_types w z)
        → AreLeavesOf ls type holds
    leaves_found found first ls is from moves flips held =
        let at = declared_at before n component position declared in
        let ts = types_of frame.findings.now.table in
        let sized = sized_declared s.own before n component in
        let here : at.found ≡ Some found = ap (λ o. unwrap_or o None) (sym at.found_at) ∙ is in
        let same : type ≡ Some (found_type ts found) = sym at.type ∙ ap (seen ts) here in
        let stood : saturated at.first ≡ first = same_Some (saturated at.first) first (sym at.first_at ∙ from) in
        let exact : at.first ≡ first = omega arith in
        let circuit : c ≡ circuit_of frame.fitted.now = sym frames.circuit in
        let meant : Stands (leaf_widths (circuit_of frame.fitted.now)) first (flat sized) =
        subst (λ x. Stands (leaf_widths x) first (flat sized)) circuit
        (subst (λ k. Stands (leaf_widths c) k (flat sized)) exact (at.stands (found_type ts found) same)) in
        let side : IsSide ts (leaf_widths (circuit_of frame.fitted.now)) (record { found = found; first = first }) sized =
        record { shape = at.shape (found_type ts found) same; stands = meant } in
        let widths : AreWidths (circuit_of frame.fitted.now) s.widths = subst (λ x. AreWidths x s.widths) circuit frames.scene.widths in
        subst (λ t. AreLeavesOf ls t holds) (sym same) (flips, held sized s.widths side widths)

-- what holds of all that comes, for two reasons
pub both_ok : {X E : Type 0} → (r : Result X E) (P Q R : X → Type 0) → ((x : X) → P x → Q x → R x) → IfOk r P → IfOk r Q → IfOk r R
both_ok (Ok x) P Q R then p q = then x p q
both_ok (Err e) P Q R then p q = tt
