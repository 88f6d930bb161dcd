-- The circuit declares no instance, so that no walk leads from a module to itself.
use Rattle.std.proofs.Common.{◌≡◌, ℕ, ◌-◌, List, [], ◌∷◌, refl, sym, ap, inl, inr, subst}
use Rattle.fir_base.specs.Lists.{In}
use Rattle.fir_ast.specs.declared.place.Place.{Place}
use Rattle.fir_ast.specs.Circuits.{ModuleTree}
use Rattle.fir_ast.specs.Faults.{Fault}
use Rattle.fir_meaning.specs.Components.{Declaration}
use Rattle.fir_meaning.specs.Components as component
use Rattle.fir_meaning.specs.Visibility.{Before, behind_block, declarations}
use Rattle.fir_meaning.specs.NameGroups.{IsRecursive}
use Rattle.fir_gen.specs.working.GenTree.{gen_module, gen_tree}
use Rattle.fir_gen_checked.proofs.DeclaredRegisters.{before_at, declared_behind}
use Rattle.fir_gen_checked.proofs.DeclaredKinds.{declared_simple, no_instance}
use Rattle.fir_gen_checked.proofs.BodyWalk.{of_body}

pub all_declared : (at : ℕ → ℕ → Place) (n : ℕ) → declarations (gen_module at n) ≡ declared_behind at (n - 1)
all_declared at n =
    ap
    (λ (before : Before). before.declared)
    (of_body at (λ before b. behind_block before b ≡ before_at at (n - 1)) (λ before s. Unit {0}) (λ before s b h g. g) n
    (record { first_register = tt; first_drive = tt; next_register = λ j less. tt; next_drive = λ j less. tt; last_drive = tt }) refl)

no_instances : (at : ℕ → ℕ → Place) (n : ℕ) (inside : ModuleTree) (by : Declaration) (other : List ℕ) → In (gen_module at n ∷ []) inside
    → In (declarations inside) by → by.component ≡ component.instance other → ⊥
no_instances at n inside by other (inl e) declares is =
    let own : In (declarations (gen_module at n)) by = subst (λ m. In (declarations m) by) (sym e) declares in
    no_instance by.component other (declared_simple at (n - 1) by (subst (λ ds. In ds by) (all_declared at n) own)) is
no_instances at n inside by other (inr m) declares is = m

pub hierarchy_clear : (at : ℕ → ℕ → Place) (n : ℕ) (f : Fault) → IsRecursive (gen_tree at n) f → ⊥
hierarchy_clear at n f h =
    let walk = h.3 in no_instances at n walk.enters.inside walk.by _ walk.enters.is_module walk.enters.declares walk.enters.is_instance
