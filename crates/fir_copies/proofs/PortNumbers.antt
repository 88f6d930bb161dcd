-- The leaves of an instance hold what its module's ports hold, at the numbers of the circuit's leaves.
use Rattle.std.proofs.Common.{◌≡◌, ℕ, zero, suc, ◌+◌, ◌≤◌, List, [], ◌∷◌, ◌++◌, map, length, slice_get, Bool, true, false, if◌then◌else◌, Some, refl, sym, ap, ap₂, ◌∙◌, arith}
use Rattle.std.specs.Str.{bytes_eq}
use Rattle.std.proofs.lemmas.List.{map-append}
use Rattle.std.proofs.lemmas.Option.{none-some, same_Some}
use Rattle.fir_ast.specs.declared.place.Place.{Place}
use Rattle.fir_ast.specs.Circuits.{ModuleTree, PortTree}
use Rattle.fir_ast.specs.Statements.{Statement, wire, register, node, instance, memory, when, connect, partial_connect, invalid, skip, Block, done, then}
use Rattle.fir_meaning.specs.Components.{Declaration, Declarations}
use Rattle.fir_meaning.specs.Components as component
use Rattle.fir_meaning.specs.ComponentTypes.{instance_bundle, port_fields}
use Rattle.fir_meaning.specs.HeldTypes.{held_field_types}
use Rattle.fir_meaning.specs.LeafTypes.{LeafType}
use Rattle.fir_meaning.specs.ModuleScenes.{Declared, Scene, held_by_declared}
use Rattle.fir_meaning.specs.ResetJoins.{numbered_module}
use Rattle.fir_meaning.specs.SharedLeaves.{shared_count, shared_field_count}
use Rattle.fir_meaning.specs.SizedDeclarations.{Numbering, NumberedModule, behind_module, instance_from, modules_from, numbered_behind, numbers_at, port_numbers, taken_of_ports}
use Rattle.fir_meaning.specs.SizedTypes.{numbered, numbered_fields}
use Rattle.fir_meaning.specs.TypeLeaves.{TypeLeaf, type_leaves}
use Rattle.fir_meaning.specs.Visibility.{Before, at_head, behind, behind_block, behind_ports, declaration_at, opened, reopened, with_declaration}
use Rattle.fir_meaning.specs.working.LeafModules.{LeafDeclared, Role}
use Rattle.fir_meaning.specs.working.LeafedModules.{leaves_from, leaves_of_ports, own_leaves, port_role}
use Rattle.fir_leaf.proofs.HeldCounts.{held_by_type}
use Rattle.fir_leaf.proofs.LeafPlaces.{leaves_counted}
use Rattle.fir_leaf_types.proofs.DeclarationsStandTyped.{numbered_more}

-- the next number of a port behind declarations
module _ (modules : List ModuleTree) (start : Numbering) where
  abbrev next_port : Declarations → ℕ
  next_port ds = (numbered_behind modules start ds).port

  one_more : (ds : Declarations) (d : Declaration) → next_port (ds ++ d ∷ []) ≡ next_port ds + taken_of_ports d.component
  one_more ds d = ap (λ (n : Numbering). n.port) (numbered_more modules start ds d)

  -- statements take none
  none_more : (ds : Declarations) (d : Declaration) → taken_of_ports d.component ≡ 0 → next_port (ds ++ d ∷ []) ≡ next_port ds
  none_more ds d e = omega (arith, one_more ds d, e)

  mutual
    statement_takes : (x : Statement) (before : Before) → next_port (behind before x).declared ≡ next_port before.declared
    statement_takes (wire p n begins t) before = none_more before.declared (declaration_at before n (component.wire t)) refl
    statement_takes (register p n begins t c r) before = none_more before.declared (declaration_at before n (component.register t)) refl
    statement_takes (node p n e) before = none_more before.declared (declaration_at before n (component.node e)) refl
    statement_takes (instance p n m) before = none_more before.declared (declaration_at before n (component.instance m.name)) refl
    statement_takes (memory p n parts) before = none_more before.declared (declaration_at before n (component.memory parts)) refl
    statement_takes (when p c a b) before =
        let inside = behind_block (opened before) a in block_takes b (reopened before inside) ∙ block_takes a (opened before)
    statement_takes (connect p d e) before = refl
    statement_takes (partial_connect p d e) before = refl
    statement_takes (invalid p d) before = refl
    statement_takes (skip p) before = refl

    block_takes : (b : Block) (before : Before) → next_port (behind_block before b).declared ≡ next_port before.declared
    block_takes done before = refl
    block_takes ((then) x b) before = block_takes b (behind before x) ∙ statement_takes x before

  ports_take : (ps : List PortTree) (before : Before)
      → next_port (behind_ports before ps).declared ≡ next_port before.declared + shared_field_count (port_fields ps)
  ports_take [] before = omega arith
  ports_take (p ∷ ps) before =
      let c = component.port p.direction p.data_type in
      let one : next_port (before.declared ++ declaration_at before p.named c ∷ []) ≡ next_port before.declared + shared_count p.data_type =
      one_more before.declared (declaration_at before p.named c) in
      let more = ports_take ps (with_declaration before p.named c) in
      omega (arith, one, more)

  pub module_takes : (m : ModuleTree) → (behind_module modules start m).port ≡ start.port + port_numbers m
  module_takes m = block_takes m.body (behind_ports at_head m.ports) ∙ ports_take m.ports at_head

-- a module that is found has a number from there on
number_low : (from : ℕ) (ms : List ModuleTree) (name : List ℕ) (child : ℕ × ModuleTree) → numbered_module from ms name ≡ Some child → from ≤ child.0
number_low from [] name child e = absurd (none-some child e)
number_low from (m ∷ ms) name child e = by (bytes_eq m.named.name name) e (number_low (suc from) ms name child)
  where
    by : (b : Bool) → (if b then Some (from, m) else numbered_module (suc from) ms name) ≡ Some child
        → (numbered_module (suc from) ms name ≡ Some child → suc from ≤ child.0) → from ≤ child.0
    by true h later =
        let same : from ≡ child.0 = ap (λ (x : ℕ × ModuleTree). x.0) (same_Some (from, m) child h) in omega (arith, same)
    by false h later = let lt = later h in omega (arith, lt)

-- the ports of an instance have the numbers of its module's ports
pub instance_numbers : (modules : List ModuleTree) (numbers : Numbering) (ms : List ModuleTree) (from : ℕ) (name : List ℕ) (child : ℕ × ModuleTree)
    (k : ℕ) (m : NumberedModule)
    → numbered_module from ms name ≡ Some child → slice_get (modules_from modules numbers ms) k ≡ Some m → from + k ≡ child.0
    → instance_from numbers.port ms name ≡ numbered (Some m.start.port) (instance_bundle m.inside)
instance_numbers modules numbers [] from name child k m e at is = absurd (none-some child e)
instance_numbers modules numbers (x ∷ ms) from name child k m e at is =
    by k (bytes_eq x.named.name name) e at is (λ j h i r. instance_numbers modules (behind_module modules numbers x) ms (suc from) name child j m h i r)
  where
    next : (behind_module modules numbers x).port ≡ numbers.port + port_numbers x
    next = module_takes modules numbers x

    by : (k : ℕ) (b : Bool) → (if b then Some (from, x) else numbered_module (suc from) ms name) ≡ Some child
        → slice_get (record { modules = modules; inside = x; start = numbers } ∷ modules_from modules (behind_module modules numbers x) ms) k ≡ Some m
        → from + k ≡ child.0
        → ((j : ℕ) → numbered_module (suc from) ms name ≡ Some child → slice_get (modules_from modules (behind_module modules numbers x) ms) j ≡ Some m
        → suc from + j ≡ child.0
        → instance_from (behind_module modules numbers x).port ms name ≡ numbered (Some m.start.port) (instance_bundle m.inside))
        → (if b then numbered (Some numbers.port) (instance_bundle x) else instance_from (numbers.port + port_numbers x) ms name)
        ≡ numbered (Some m.start.port) (instance_bundle m.inside)
    by zero true h i r later =
        let same : record { modules = modules; inside = x; start = numbers } ≡ m = same_Some _ m i in
        ap (λ (y : NumberedModule). numbered (Some y.start.port) (instance_bundle y.inside)) same
    by (suc k) true h i r later =
        let same : from ≡ child.0 = ap (λ (y : ℕ × ModuleTree). y.0) (same_Some (from, x) child h) in absurd (omega (arith, same, r))
    by zero false h i r later = let low = number_low (suc from) ms name child h in absurd (omega (arith, low, r))
    by (suc k) false h i r later = ap (λ z. instance_from z ms name) (sym next) ∙ later k h i (omega (arith, r))

from_holds : (d : Declared) (place : TypeLeaf → Place) (role_of : ℕ → TypeLeaf → Role) (k : ℕ) (ls : List TypeLeaf) (hs : List LeafType) → length hs ≡ length ls
    → map (λ (l : LeafDeclared). l.holds) (leaves_from d place role_of k ls hs) ≡ hs
from_holds d place role_of k [] [] e = refl
from_holds d place role_of k [] (h ∷ hs) e = absurd (omega (arith, e))
from_holds d place role_of k (l ∷ ls) [] e = absurd (omega (arith, e))
from_holds d place role_of k (l ∷ ls) (h ∷ hs) e = ap (λ xs. h ∷ xs) (from_holds d place role_of (suc k) ls hs (omega (arith, e)))

-- what a module's ports hold
module _ (s : Scene) (none : s.own.start.scope ≡ []) where
  pub ports_hold : (ps : List PortTree) (before : Before)
      → map (λ (l : LeafDeclared). l.holds) (leaves_of_ports s before ps)
      ≡ held_field_types s.widths (numbered_fields (Some (numbers_at s.own before).port) (port_fields ps))
  ports_hold [] before = refl
  ports_hold (p ∷ ps) before =
      let c = component.port p.direction p.data_type in
      let d : Declared = record { named = p.named; component = c; before = before } in
      let next = with_declaration before p.named c in
      let port = (numbers_at s.own before).port in
      let long : length (held_by_declared s d) ≡ length (type_leaves p.data_type) =
      held_by_type s.own none s.widths before p.named c p.data_type refl ∙ sym (leaves_counted p.data_type) in
      let far : (numbers_at s.own next).port ≡ port + shared_count p.data_type =
      one_more s.own.modules s.own.start before.declared (declaration_at before p.named c) in
      map-append (λ (l : LeafDeclared). l.holds) (own_leaves s before p.named c (λ k l. port_role p.direction l)) (leaves_of_ports s next ps)
      ∙ ap₂ (λ (xs ys : List LeafType). xs ++ ys)
      (from_holds d (λ l. p.named.place) (λ k l. port_role p.direction l) 0 (type_leaves p.data_type) (held_by_declared s d) long)
      (ports_hold ps next ∙ ap (λ k. held_field_types s.widths (numbered_fields (Some k) (port_fields ps))) far)
