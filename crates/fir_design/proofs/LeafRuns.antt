-- The leaves and the arrays of a module are of its declarations, in their order.
use Rattle.std.proofs.Common.{◌≡◌, ℕ, suc, ◌≤◌, List, [], ◌∷◌, ◌++◌, length, sym, ap, arith, length-append, inl, inr}
use Rattle.fir_base.specs.Lists.{In}
use Rattle.fir_ast.specs.declared.place.Place.{Place}
use Rattle.fir_ast.specs.Circuits.{PortTree}
use Rattle.fir_ast.specs.Statements.{PlacedName, Statement, wire, register, node, instance, memory, when, connect, partial_connect, invalid, skip, Block, done, then}
use Rattle.fir_meaning.specs.Components as component
use Rattle.fir_meaning.specs.Components.{Component}
use Rattle.fir_meaning.specs.TypeLeaves.{TypeLeaf}
use Rattle.fir_meaning.specs.Visibility.{Before, behind, behind_block, behind_ports, declaration_at, opened, reopened, with_declaration}
use Rattle.fir_meaning.specs.FoundTypes.{leaves_of_data}
use Rattle.fir_meaning.specs.working.LeafModules.{LeafDeclared, Role}
use Rattle.fir_meaning.specs.LeafTypes.{LeafType}
use Rattle.fir_meaning.specs.ModuleScenes.{Declared, Scene, held_by_declared, type_of_declared}
use Rattle.fir_meaning.specs.working.LeafedModules.{declared_leaves, leaves_from, leaves_in, leaves_in_block, leaves_of_ports}
use Rattle.fir_design.proofs.DeclaredRuns.{IsRun, both_runs, no_run, one_run}
use Rattle.fir_design.proofs.InstanceStatements.{longer_block, longer_statement}

abbrev pub declaration_of : LeafDeclared → ℕ
declaration_of l = l.declaration

from_declares : (d : Declared) (place : TypeLeaf → Place) (role_of : ℕ → TypeLeaf → Role) (k : ℕ) (ls : List TypeLeaf) (hs : List LeafType)
    (l : LeafDeclared) → In (leaves_from d place role_of k ls hs) l → l.declaration ≡ length d.before.declared
from_declares d place role_of k [] hs l i = absurd i
from_declares d place role_of k (x ∷ ls) [] l i = absurd i
from_declares d place role_of k (x ∷ ls) (h ∷ hs) l (inl e) = ap declaration_of (sym e)
from_declares d place role_of k (x ∷ ls) (h ∷ hs) l (inr i) = from_declares d place role_of (suc k) ls hs l i

module _ (s : Scene) where
  pub one_declares : (before : Before) (n : PlacedName) (c : Component) (place : TypeLeaf → Place) (role_of : ℕ → TypeLeaf → Role)
      (l : LeafDeclared)
      → In (declared_leaves s (record { named = n; component = c; before = before }) place role_of) l → l.declaration ≡ length before.declared
  one_declares before n c place role_of l i =
      let d : Declared = record { named = n; component = c; before = before } in
      from_declares d place role_of 0 (leaves_of_data (type_of_declared s d)) (held_by_declared s d) l i

  declared_run : (before : Before) (n : PlacedName) (c : Component) (place : TypeLeaf → Place) (role_of : ℕ → TypeLeaf → Role)
      → IsRun declaration_of (length before.declared) (length (before.declared ++ declaration_at before n c ∷ []))
      (declared_leaves s (record { named = n; component = c; before = before }) place role_of)
  declared_run before n c place role_of =
      one_run declaration_of (length before.declared) (length (before.declared ++ declaration_at before n c ∷ [])) _
      (omega (arith, length-append before.declared (declaration_at before n c ∷ []))) (one_declares before n c place role_of)

  mutual
    pub statement_run : (x : Statement) (before : Before)
        → IsRun declaration_of (length before.declared) (length (behind before x).declared) (leaves_in s before x)
    statement_run (wire p n begins t) before = declared_run before n (component.wire t) _ _
    statement_run (register p n begins t c r) before = declared_run before n (component.register t) _ _
    statement_run (node p n e) before = declared_run before n (component.node e) _ _
    statement_run (instance p n other) before = declared_run before n (component.instance other.name) _ _
    statement_run (memory p n parts) before = declared_run before n (component.memory parts) _ _
    statement_run (when p c a b) before =
        let inside = behind_block (opened before) a in
        let second = reopened before inside in
        both_runs declaration_of (length before.declared) (length inside.declared) (length (behind_block second b).declared)
        (leaves_in_block s (opened before) a) (leaves_in_block s second b) (longer_block (opened before) a) (longer_block second b)
        (block_run a (opened before)) (block_run b second)
    statement_run (connect p d e) before = no_run declaration_of _ _
    statement_run (partial_connect p d e) before = no_run declaration_of _ _
    statement_run (invalid p d) before = no_run declaration_of _ _
    statement_run (skip p) before = no_run declaration_of _ _

    pub block_run : (b : Block) (before : Before)
        → IsRun declaration_of (length before.declared) (length (behind_block before b).declared) (leaves_in_block s before b)
    block_run done before = no_run declaration_of _ _
    block_run ((then) x b) before =
        let next = behind before x in
        both_runs declaration_of (length before.declared) (length next.declared) (length (behind_block next b).declared)
        (leaves_in s before x) (leaves_in_block s next b) (longer_statement before x) (longer_block next b) (statement_run x before)
        (block_run b next)

  longer_ports : (ps : List PortTree) (before : Before) → length before.declared ≤ length (behind_ports before ps).declared
  longer_ports [] before = omega arith
  longer_ports (p ∷ ps) before =
      let c = component.port p.direction p.data_type in
      omega (arith, longer_ports ps (with_declaration before p.named c), length-append before.declared (declaration_at before p.named c ∷ []))

  pub ports_run : (ps : List PortTree) (before : Before)
      → IsRun declaration_of (length before.declared) (length (behind_ports before ps).declared) (leaves_of_ports s before ps)
  ports_run [] before = no_run declaration_of _ _
  ports_run (p ∷ ps) before =
      let c = component.port p.direction p.data_type in
      let next = with_declaration before p.named c in
      both_runs declaration_of (length before.declared) (length next.declared) (length (behind_ports next ps).declared) _ (leaves_of_ports s next ps)
      (omega (arith, length-append before.declared (declaration_at before p.named c ∷ []))) (longer_ports ps next)
      (declared_run before p.named c _ _)
      (ports_run ps next)
