-- The walk over the ports and the body of a module, from an empty scope on.
use Rattle.std.proofs.Common.{◌≡◌, ℕ, ◌+◌, ◌<◌, ◌≤◌, List, [], ◌∷◌, ◌++◌, map, length, Vec, Global, Ok, refl, sym, ap, subst, ◌∙◌, take, get_or}
use Rattle.std.proofs.lemmas.List.{map_more, take_all}
use Rattle.fir_base.specs.declared.refused.Refused.{Refused}
use Rattle.fir_ast.specs.declared.circuit.Port.{Port}
use Rattle.fir_ast.specs.declared.fault.FirFault.{FirFault}
use Rattle.fir_ast.specs.Statements.{Block}
use Rattle.fir_ast.specs.Circuits.{ModuleTree, PortTree}
use Rattle.fir_ast.specs.working.Views.{port_of}
use Rattle.fir_ast.specs.working.TypeViews.{type_of}
use Rattle.fir_meaning.specs.Components.{Declarations}
use Rattle.fir_meaning.specs.Components as component
use Rattle.fir_meaning.specs.Visibility.{Before, at_head, behind_block, behind_ports, declarations, with_declaration}
use Rattle.fir_meaning.specs.ComponentTypes.{typed_scope}
use Rattle.fir_meaning.specs.TypeGroup.{module_type_faults, type_faults_in_block}
use Rattle.fir_type_table.specs.declared.kind.TypeId.{TypeId}
use Rattle.fir_type_table.specs.working.Tables.{types_of}
use Rattle.fir_types.specs.declared.scope.Scope.{Scope}
use Rattle.fir_types.specs.working.Judged.{IsFirstOf}
use Rattle.fir_types.specs.working.TypedModules.{JudgesModule}
use Rattle.fir_types.specs.declared.note.Note.{Note}
use Rattle.fir_types.specs.working.ModuleNotes.{block_notes, module_notes}
use Rattle.fir_types.specs.working.Noted.{Noted}
use Rattle.fir_types.specs.working.Walked.{Begins, Declared, GoesOnWith, HoldsBundles, PassesPorts, Walks}
use Rattle.fir_types.proofs.GrownScopes.{append_none, goes_still, goes_twice, walks_declared}

-- nothing is declared
pub walks_head : (modules : List ModuleTree) (bundles : List TypeId) (scope : Scope) → scope.declared.items ≡ [] → HoldsBundles (types_of scope.table) bundles modules
    → Walks modules bundles scope at_head
walks_head modules bundles scope none holds = record { types = rw none refl; held = rw none tt; holds = holds }

-- one port more
ports_behind : (before : Before) (ps : List PortTree) (p : PortTree)
    → behind_ports before (ps ++ p ∷ []) ≡ with_declaration (behind_ports before ps) p.named (component.port p.direction p.data_type)
ports_behind before [] p = refl
ports_behind before (q ∷ ps) p = ports_behind (with_declaration before q.named (component.port q.direction q.data_type)) ps p

pub ports_first : (scope : Scope) → PassesPorts scope scope []
ports_first scope = record { walked = λ modules bundles before walks. walks; goes_on = goes_still scope scope refl }

ports_pushed : (old next new : Scope) (ps : List PortTree) (p : PortTree) → PassesPorts old next ps → Declared next new p.data_type → PassesPorts old new (ps ++ p ∷ [])
ports_pushed old next new ps p passes declared = record {
  walked = λ modules bundles before walks.
      rw (ports_behind before ps p)
      (walks_declared modules bundles next new (behind_ports before ps) p.named (component.port p.direction p.data_type) p.data_type
      (passes.walked modules bundles before walks) declared refl);
  goes_on = goes_twice (types_of old.table) next new passes.goes_on (record { more = declared.more; grown = declared.grown });
}

pub ports_next : (old next new : Scope) (ports : List Port) (i : ℕ) (p : Port) → i < length ports → p ≡ get_or ports i p → PassesPorts old next (map port_of (take i ports))
    → Declared next new (type_of p.ty) → PassesPorts old new (map port_of (take (i + 1) ports))
ports_next old next new ports i p within at passes declared =
    let longer : map port_of (take (i + 1) ports) ≡ map port_of (take i ports) ++ port_of p ∷ [] =
    map_more port_of ports i p within ∙ ap (λ x. map port_of (take i ports) ++ port_of x ∷ []) (sym at) in
    rw longer (ports_pushed old next new (map port_of (take i ports)) (port_of p) passes declared)

pub ports_passed : (old new : Scope) (ports : List Port) (i : ℕ) → length ports ≤ i → PassesPorts old new (map port_of (take i ports)) → PassesPorts old new (map port_of ports)
ports_passed old new ports i past passes = subst (λ (ps : List Port). PassesPorts old new (map port_of ps)) (take_all i ports past) passes

-- the ports and the body of a module
module _ (modules : List ModuleTree) (bundles : List TypeId) (m : ModuleTree) (ports : List PortTree) (body : Block) (first : ports ≡ m.ports) (second : body ≡ m.body) where
  behind_is : (behind_block (behind_ports at_head ports) body).declared ≡ declarations m
  behind_is = ap (λ ps. (behind_block (behind_ports at_head ps) body).declared) first ∙ ap (λ b. (behind_block (behind_ports at_head m.ports) b).declared) second

  pub begins_module : Begins (behind_block (behind_ports at_head ports) body).declared (declarations m)
  begins_module = ([], sym behind_is ∙ append_none (behind_block (behind_ports at_head ports) body).declared)

  faults_are : type_faults_in_block modules (behind_ports at_head ports) body ≡ module_type_faults modules m
  faults_are =
      ap (λ ps. type_faults_in_block modules (behind_ports at_head ps) body) first ∙ ap (λ b. type_faults_in_block modules (behind_ports at_head m.ports) b) second

  notes_are : block_notes modules (behind_ports at_head ports) body ≡ module_notes modules m
  notes_are = ap (λ ps. block_notes modules (behind_ports at_head ps) body) first ∙ ap (λ b. block_notes modules (behind_ports at_head m.ports) b) second

  pub walks_ports : (old new : Scope) → old.declared.items ≡ [] → HoldsBundles (types_of old.table) bundles modules → PassesPorts old new ports
      → Walks modules bundles new (behind_ports at_head ports)
  walks_ports old new none holds passes = passes.walked modules bundles at_head (walks_head modules bundles old none holds)

  pub body_fails : (e : Refused FirFault) → IsFirstOf (type_faults_in_block modules (behind_ports at_head ports) body) e → IsFirstOf (module_type_faults modules m) e
  body_fails e h = subst (λ fs. IsFirstOf fs e) faults_are h

  pub module_judged : (old next new : Scope) → PassesPorts old next ports
      → (type_faults_in_block modules (behind_ports at_head ports) body ≡ []) × Walks modules bundles new (behind_block (behind_ports at_head ports) body) × GoesOnWith (types_of next.table) new
      → (notes : Vec Note Global) → Noted (types_of new.table) [] notes.items (block_notes modules (behind_ports at_head ports) body)
      → JudgesModule modules bundles (types_of old.table) m (Ok (new, notes))
  module_judged old next new passes judged notes noted = (
    sym faults_are ∙ judged.0,
    record {
      types = judged.1.types ∙ ap (λ ds. map (λ k. k.data_type) (typed_scope modules ds)) behind_is;
      held = judged.1.held;
    },
    judged.1.holds,
    goes_twice (types_of old.table) next new passes.goes_on judged.2,
    subst (Noted (types_of new.table) [] notes.items) notes_are noted,
  )
