-- Part by part a module's leaf view has as many leaves as its tree, so the parts of both go in step where the whole does.
use Rattle.std.proofs.Common.{◌≡◌, ℕ, suc, List, [], ◌∷◌, ◌++◌, length, refl, ap, arith, length-append}
use Rattle.fir_ast.specs.declared.place.Place.{Place}
use Rattle.fir_ast.specs.Statements.{PlacedName, Statement, wire, register, node, instance, memory, when, connect, partial_connect, invalid, skip, Block, done, then}
use Rattle.fir_ast.specs.Circuits.{PortTree}
use Rattle.fir_meaning.specs.Components as component
use Rattle.fir_meaning.specs.Components.{Component}
use Rattle.fir_meaning.specs.TypeLeaves.{TypeLeaf}
use Rattle.fir_meaning.specs.Visibility.{Before, behind, behind_block, opened, reopened, with_declaration}
use Rattle.fir_meaning.specs.FoundTypes.{leaves_of_data}
use Rattle.fir_meaning.specs.working.LeafModules.{LeafArray, LeafDeclared, Role}
use Rattle.fir_meaning.specs.LeafTypes.{LeafType}
use Rattle.fir_meaning.specs.ModuleScenes.{Declared, Scene, held_by_declared, type_of_declared}
use Rattle.fir_meaning.specs.working.LeafedModules.{declared_leaves, leaves_from, leaves_in, leaves_in_block, leaves_of_ports}
use Rattle.fir_design.specs.working.SameRoles.{SameLeaves}
use Rattle.fir_meaning.specs.SourceRoles.{SourceLeaf, SourceRole, declared_sources, source_leaves_of, sources_in, sources_in_block, sources_of_ports}

-- those of one declaration
from_long : (d : Declared) (place : TypeLeaf → Place) (role_of : ℕ → TypeLeaf → Role) (k : ℕ) (name : List ℕ)
    (roles : TypeLeaf → SourceRole)
    (ls : List TypeLeaf) (hs : List LeafType) → length (leaves_from d place role_of k ls hs) ≡ length (source_leaves_of name roles ls hs)
from_long d place role_of k name roles [] [] = refl
from_long d place role_of k name roles [] (h ∷ hs) = refl
from_long d place role_of k name roles (l ∷ ls) [] = refl
from_long d place role_of k name roles (l ∷ ls) (h ∷ hs) = ap suc (from_long d place role_of (suc k) name roles ls hs)

pub joined_long : {A B : Type 0} (xs ys : List A) (us vs : List B) → length xs ≡ length us → length ys ≡ length vs → length
    (xs ++ ys) ≡ length (us ++ vs)
joined_long xs ys us vs e f = omega (arith, e, f, length-append xs ys, length-append us vs)

module _ (s : Scene) where
  declared_long : (before : Before) (n : PlacedName) (c : Component) (place : TypeLeaf → Place) (role_of : ℕ → TypeLeaf → Role)
      (roles : TypeLeaf → SourceRole)
      → length (declared_leaves s (record { named = n; component = c; before = before }) place role_of) ≡ length
      (declared_sources s before n c roles)
  declared_long before n c place role_of roles =
      let d : Declared = record { named = n; component = c; before = before } in
      from_long d place role_of 0 n.name roles (leaves_of_data (type_of_declared s d)) (held_by_declared s d)

  pub ports_beside : (ps : List PortTree) (before : Before) → length (leaves_of_ports s before ps) ≡ length (sources_of_ports s before ps)
  ports_beside [] before = refl
  ports_beside (p ∷ ps) before =
      joined_long _ (leaves_of_ports s (with_declaration before p.named (component.port p.direction p.data_type)) ps) _ _
      (declared_long before p.named (component.port p.direction p.data_type) _ _ _)
      (ports_beside ps (with_declaration before p.named (component.port p.direction p.data_type)))

  mutual
    pub statement_beside : (x : Statement) (before : Before) → length (leaves_in s before x) ≡ length (sources_in s before x)
    statement_beside (wire p n begins t) before = declared_long before n (component.wire t) _ _ _
    statement_beside (register p n begins t c r) before = declared_long before n (component.register t) _ _ _
    statement_beside (node p n e) before = declared_long before n (component.node e) _ _ _
    statement_beside (instance p n other) before = declared_long before n (component.instance other.name) _ _ _
    statement_beside (memory p n parts) before = declared_long before n (component.memory parts) _ _ _
    statement_beside (when p c a b) before =
        let second = reopened before (behind_block (opened before) a) in
        joined_long (leaves_in_block s (opened before) a) (leaves_in_block s second b) (sources_in_block s (opened before) a)
        (sources_in_block s second b)
        (block_beside a (opened before)) (block_beside b second)
    statement_beside (connect p d e) before = refl
    statement_beside (partial_connect p d e) before = refl
    statement_beside (invalid p d) before = refl
    statement_beside (skip p) before = refl

    pub block_beside : (b : Block) (before : Before) → length (leaves_in_block s before b) ≡ length (sources_in_block s before b)
    block_beside done before = refl
    block_beside ((then) x b) before =
        joined_long (leaves_in s before x) (leaves_in_block s (behind before x) b) (sources_in s before x) (sources_in_block s (behind before x) b)
        (statement_beside x before) (block_beside b (behind before x))

module _ (leaves : List LeafDeclared) (arrays : List LeafArray) where
  -- the parts of joined lists
  pub same_parts : (xs ys : List LeafDeclared) (us vs : List SourceLeaf) → length xs ≡ length us → SameLeaves leaves arrays (xs ++ ys)
      (us ++ vs)
      → SameLeaves leaves arrays xs us × SameLeaves leaves arrays ys vs
  same_parts [] ys [] vs e h = (tt, h)
  same_parts [] ys (u ∷ us) vs e h = absurd (omega (arith, e))
  same_parts (x ∷ xs) ys [] vs e h = absurd (omega (arith, e))
  same_parts (x ∷ xs) ys (u ∷ us) vs e h = let rest = same_parts xs ys us vs (omega (arith, e)) h.1 in ((h.0, rest.0), rest.1)

  pub same_long : (xs : List LeafDeclared) (us : List SourceLeaf) → SameLeaves leaves arrays xs us → length xs ≡ length us
  same_long [] [] h = refl
  same_long [] (u ∷ us) h = absurd h
  same_long (x ∷ xs) [] h = absurd h
  same_long (x ∷ xs) (u ∷ us) h = ap suc (same_long xs us h.1)
