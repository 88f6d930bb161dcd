-- The walk over a register: its own type, its clock, and then its reset, in which it is known.
use Rattle.std.proofs.Common.{◌≡◌, List, [], ◌∷◌, ◌++◌, Option, Some, Result, Ok, Err, refl, sym, ap, subst, ◌∙◌}
use Rattle.fir_base.specs.declared.refused.Refused.{Refused}
use Rattle.fir_ast.specs.declared.fault.FirFault.{FirFault}
use Rattle.fir_ast.specs.Types.{DataType}
use Rattle.fir_ast.specs.Expressions.{Expression}
use Rattle.fir_ast.specs.Statements.{PlacedName, Reset}
use Rattle.fir_ast.specs.Circuits.{ModuleTree}
use Rattle.fir_ast.specs.Faults.{Fault}
use Rattle.fir_meaning.specs.Components as component
use Rattle.fir_meaning.specs.Visibility.{Before, with_declaration}
use Rattle.fir_meaning.specs.TypeGroup.{register_type_faults, clock_faults, reset_faults, scope_at}
use Rattle.fir_type_table.specs.declared.kind.TypeId.{TypeId}
use Rattle.fir_type_table.specs.working.Tables.{types_of}
use Rattle.fir_types.specs.declared.found.Found.{Found}
use Rattle.fir_types.specs.declared.scope.Scope.{Scope}
use Rattle.fir_types.specs.working.Seen.{found_type}
use Rattle.fir_types.specs.working.Judged.{IsFirstOf}
use Rattle.fir_types.specs.working.Statements.{register_faults}
use Rattle.fir_types.specs.working.Walked.{IsHeld, Walks, Written, Declared, Judges, Passes}
use Rattle.fir_check.proofs.CheckedForms.{first_left, first_right}
use Rattle.fir_types.proofs.GrownScopes.{walks_grown, walks_declared}
use Rattle.fir_check.proofs.StatementFaults.{both_clear}

module _ (modules : List ModuleTree) (bundles : List TypeId) (before : Before) (n : PlacedName) (t : DataType) (c : Expression) (r : Option Reset) where
  abbrev own : List Fault
  own = register_type_faults n t

  abbrev clock : List Fault
  clock = clock_faults (scope_at modules before) c

  abbrev reset : List Fault
  reset = reset_faults (scope_at modules (with_declaration before n (component.register t))) t r

  pub walks_written : (old new : Scope) (f : Found) → Written old new f t → Walks modules bundles old before → Walks modules bundles new before
  walks_written old new f w walks = walks_grown modules bundles old new before w.more walks w.declared w.grown

  pub own_type_fails : (old new : Scope) (f : Found) (e : Refused FirFault) → Written old new f t
      → IsFirstOf (register_type_faults n (found_type (types_of new.table) f)) e → IsFirstOf (register_faults modules before n t c r) e
  own_type_fails old new f e w h = first_left (own ++ clock) reset e (first_left own clock e (rw w.is at h))

  own_clear : (old new : Scope) (f : Found) → Written old new f t → register_type_faults n (found_type (types_of new.table) f) ≡ [] → own ≡ []
  own_clear old new f w h = rw w.is at h

  pub clock_fails : (old new : Scope) (f : Found) (e : Refused FirFault) → Written old new f t → register_type_faults n (found_type (types_of new.table) f) ≡ []
      → IsFirstOf (clock_faults (scope_at modules before) c) e → IsFirstOf (register_faults modules before n t c r) e
  clock_fails old new f e w none h = first_left (own ++ clock) reset e (first_right own clock e (own_clear old new f w none) h)

  pub declared_behind : (old new last : Scope) (f : Found) → Written old new f t → last.table ≡ new.table → last.declared.items ≡ new.declared.items ++ Some f ∷ []
      → Declared old last t
  declared_behind old new last f w table pushed = record {
    found = f;
    declared = pushed ∙ ap (λ xs. xs ++ Some f ∷ []) w.declared;
    more = w.more;
    grown = ap types_of table ∙ w.grown;
    held = subst (λ x. IsHeld (types_of x) (Some f)) (sym table) w.held;
    is = subst (λ x. found_type (types_of x) f ≡ t) (sym table) w.is;
  }

  pub walks_register : (old last : Scope) → Declared old last t → Walks modules bundles old before → Walks modules bundles last (with_declaration before n (component.register t))
  walks_register old last d walks = walks_declared modules bundles old last before n (component.register t) t walks d refl

  pub register_passes : (old new last : Scope) (f : Found) {A : Type 0} (result : Result A (Refused FirFault)) → Written old new f t
      → register_type_faults n (found_type (types_of new.table) f) ≡ [] → clock_faults (scope_at modules before) c ≡ []
      → Judges (reset_faults (scope_at modules (with_declaration before n (component.register t))) t r) result
      → Walks modules bundles last (with_declaration before n (component.register t)) → Declared old last t
      → Passes modules bundles old last (register_faults modules before n t c r) (with_declaration before n (component.register t)) result
  register_passes old new last f (Ok x) w none clear h walks declared =
      (both_clear (own ++ clock) reset (both_clear own clock (own_clear old new f w none) clear) h, walks, record { more = declared.more; grown = declared.grown })
  register_passes old new last f (Err e) w none clear h walks declared =
      first_right (own ++ clock) reset e (both_clear own clock (own_clear old new f w none) clear) h
