-- A circuit shows no fault of types exactly where it is well typed, if no fault of names stands in it.
use Rattle.std.proofs.Common.{◌≡◌, List, [], ◌∷◌, flat_map, refl, inl, inr}
use Rattle.fir_base.specs.Lists.{In}
use Rattle.fir_ast.specs.Circuits.{ModuleTree, CircuitTree}
use Rattle.fir_meaning.specs.Visibility.{behind_ports, at_head}
use Rattle.fir_meaning.specs.Mentions.{ports_mentions, block_mentions, module_names, circuit_mentions}
use Rattle.fir_meaning.specs.working.NameGroups.{HasNames}
use Rattle.fir_meaning.specs.NameGroups.{faults_in}
use Rattle.fir_meaning.specs.TypeGroup.{module_type_faults, type_faults}
use Rattle.fir_meaning.specs.working.WellTyped.{IsWellTyped}
use Rattle.fir_meaning.specs.working.TypeLaws.{FaultlessIsWellTyped}
use Rattle.fir_base.proofs.Empty.{empty_at}
use Rattle.fir_meaning.proofs.GrownDeclarations.{included_all}
use Rattle.fir_meaning.proofs.OnceDeclared.{clear_right}
use Rattle.fir_meaning.proofs.OneLookUp.{emptied, clear_module}
use Rattle.fir_meaning.proofs.LegalStatements.{legal_block}
use Rattle.fir_meaning.proofs.ClearStatements.{Holds, holds_ports, clear_block}

-- where each gives nothing, all is empty
empty_all : {X A : Type 0} → (f : X → List A) (xs : List X) → ((x : X) → In xs x → f x ≡ []) → flat_map f xs ≡ []
empty_all f [] h = refl
empty_all f (x ∷ xs) h = rw (h x (inl refl), empty_all f xs (λ y m. h y (inr m))) refl

at_head_holds : (modules : List ModuleTree) → Holds modules at_head
at_head_holds modules = record { declared = record { visible = included_all [] }; typed = record { each = λ n k h. cc } }

legal_module : (c : CircuitTree) → HasNames c → type_faults c ≡ [] → IsWellTyped c
legal_module c h f m i =
    let head = behind_ports at_head m.ports in
    let clear = clear_module (module_names c) [] c.modules m (emptied (faults_in (circuit_mentions c)) h.names) i in
    (clear_block c.modules m.body head (holds_ports c.modules m.ports at_head (at_head_holds c.modules))
    (clear_right (ports_mentions at_head m.ports) (block_mentions (module_names c) head m.body) clear)
    (empty_at (module_type_faults c.modules) c.modules f m i)).legal

pub well_typed : FaultlessIsWellTyped
well_typed c h = (
  legal_module c h,
  λ w. empty_all (module_type_faults c.modules) c.modules (λ m i. legal_block c.modules m.body (behind_ports at_head m.ports) (w m i)),
)
