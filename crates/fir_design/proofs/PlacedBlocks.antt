-- Where the leaves and the arrays of a part of a module stand among those of the module: behind as many as are declared before it.
use Rattle.std.proofs.Common.{◌≡◌, List, [], ◌++◌, length, ap, ◌∙◌, append_assoc, arith, length-append}
use Rattle.std.proofs.lemmas.List.{append-nil}
use Rattle.fir_ast.specs.Statements.{MemoryPart, PlacedName, memory}
use Rattle.fir_ast.specs.declared.place.Place.{Place}
use Rattle.fir_meaning.specs.Components.{Declarations}
use Rattle.fir_meaning.specs.ComponentTypes.{typed_scope}
use Rattle.fir_meaning.specs.Visibility.{Before, behind, at_head, declarations}
use Rattle.fir_meaning.specs.working.WellTyped.{IsLegal}
use Rattle.fir_leaf.specs.working.LeafLaws.{Begins}
use Rattle.fir_meaning.specs.working.LeafModules.{LeafArray, LeafDeclared}
use Rattle.fir_meaning.specs.ModuleScenes.{Scene, behind_all_ports}
use Rattle.fir_meaning.specs.working.LeafedModules.{arrays_in, arrays_in_block, leafed_module, leaves_in, leaves_in_block, leaves_of_ports, module_leaves}
use Rattle.fir_meaning.specs.working.Targets.{leaves_so_far}
use Rattle.fir_leaf.proofs.ScopesBegin.{begins_all}
use Rattle.fir_design.proofs.CountedBlocks.{IsCounted, arrays_so_far, ports_counted}
use Rattle.fir_design.proofs.DeclaredInstances.{Grows}
use Rattle.fir_design.proofs.FineScenes.{whole_scope}
use Rattle.fir_design.proofs.MemoryRoles.{IsMemoryAt}

pub record IsPlaced (s : Scene) (before after : Declarations) (ls : List LeafDeclared) (xs : List LeafArray) : Type 0 where
  pub grows : Grows after (declarations s.own.inside)
  pub begins : Begins (typed_scope s.own.modules after) (whole_scope s)
  pub leaves_front : List LeafDeclared
  pub leaves_back : List LeafDeclared
  pub leaves : leaves_front ++ (ls ++ leaves_back) ≡ module_leaves s
  pub leaves_ahead : length leaves_front ≡ leaves_so_far (typed_scope s.own.modules before)
  pub arrays_front : List LeafArray
  pub arrays_back : List LeafArray
  pub arrays : arrays_front ++ (xs ++ arrays_back) ≡ (leafed_module s).arrays
  pub arrays_ahead : length arrays_front ≡ arrays_so_far before

-- a part in two
regrouped : {A : Type 0} (one two three four : List A) → one ++ (two ++ (three ++ four)) ≡ one ++ ((two ++ three) ++ four)
regrouped one two three four = simp append_assoc

regrouped_front : {A : Type 0} (one two three four : List A) → (one ++ two) ++ (three ++ four) ≡ one ++ ((two ++ three) ++ four)
regrouped_front one two three four = simp append_assoc

pub first_placed : (s : Scene) (before middle after : Declarations) (ls ms : List LeafDeclared) (xs ys : List LeafArray)
    → Grows middle (declarations s.own.inside) → Begins (typed_scope s.own.modules middle) (whole_scope s)
    → IsPlaced s before after (ls ++ ms) (xs ++ ys) → IsPlaced s before middle ls xs
first_placed s before middle after ls ms xs ys grows begins h = record {
  grows = grows;
  begins = begins;
  leaves_front = h.leaves_front;
  leaves_back = ms ++ h.leaves_back;
  leaves = regrouped h.leaves_front ls ms h.leaves_back ∙ h.leaves;
  leaves_ahead = h.leaves_ahead;
  arrays_front = h.arrays_front;
  arrays_back = ys ++ h.arrays_back;
  arrays = regrouped h.arrays_front xs ys h.arrays_back ∙ h.arrays;
  arrays_ahead = h.arrays_ahead;
}

pub second_placed : (s : Scene) (before middle after : Declarations) (ls ms : List LeafDeclared) (xs ys : List LeafArray)
    → IsCounted s before middle ls xs → IsPlaced s before after (ls ++ ms) (xs ++ ys) → IsPlaced s middle after ms ys
second_placed s before middle after ls ms xs ys counted h = record {
  grows = h.grows;
  begins = h.begins;
  leaves_front = h.leaves_front ++ ls;
  leaves_back = h.leaves_back;
  leaves = regrouped_front h.leaves_front ls ms h.leaves_back ∙ h.leaves;
  leaves_ahead = omega (arith, h.leaves_ahead, counted.leaves, length-append h.leaves_front ls);
  arrays_front = h.arrays_front ++ xs;
  arrays_back = h.arrays_back;
  arrays = regrouped_front h.arrays_front xs ys h.arrays_back ∙ h.arrays;
  arrays_ahead = omega (arith, h.arrays_ahead, counted.arrays, length-append h.arrays_front xs);
}

-- a memory
pub memory_at : (s : Scene) (before : Before) (p : Place) (n : PlacedName) (parts : List MemoryPart)
    → IsLegal s.own.modules before (memory p n parts)
    → IsPlaced s before.declared (behind before (memory p n parts)).declared (leaves_in s before (memory p n parts))
    (arrays_in s before (memory p n parts))
    → IsMemoryAt s before p n parts
memory_at s before p n parts legal h = record {
  grows = h.grows;
  begins = h.begins;
  legal = legal;
  leaves_front = h.leaves_front;
  leaves_back = h.leaves_back;
  leaves = h.leaves;
  leaves_ahead = h.leaves_ahead;
  arrays_front = h.arrays_front;
  arrays_back = h.arrays_back;
  arrays = h.arrays;
  arrays_ahead = h.arrays_ahead;
}

-- the statements of a module
pub body_placed : (s : Scene) → s.own.start.scope ≡ []
    → IsPlaced s (behind_all_ports s.own.inside).declared (declarations s.own.inside)
    (leaves_in_block s (behind_all_ports s.own.inside) s.own.inside.body) (arrays_in_block s (behind_all_ports s.own.inside) s.own.inside.body)
body_placed s none =
    let head = behind_all_ports s.own.inside in
    let ports = leaves_of_ports s at_head s.own.inside.ports in
    let body = leaves_in_block s head s.own.inside.body in
    let own_arrays = arrays_in_block s head s.own.inside.body in
    let counted = ports_counted s none s.own.inside.ports at_head in
    record {
      grows = ([], append-nil (declarations s.own.inside));
      begins = begins_all (whole_scope s);
      leaves_front = ports;
      leaves_back = [];
      leaves = ap (λ more. ports ++ more) (append-nil body);
      leaves_ahead = omega (arith, counted.leaves);
      arrays_front = [];
      arrays_back = [];
      arrays = append-nil own_arrays;
      arrays_ahead = omega (arith, counted.arrays);
    }
