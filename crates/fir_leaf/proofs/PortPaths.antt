-- An instance has the leaves of its module's ports.
use Rattle.std.proofs.Common.{◌≡◌, ℕ, zero, suc, ◌+◌, List, [], ◌∷◌, ◌++◌, map, length, refl, sym, ap, ap₂, ◌∙◌, arith, length-append, Bool, false, Option, Some, None}
use Rattle.std.specs.Prelude.{◌==◌, if◌then◌else◌}
use Rattle.std.proofs.lemmas.List.{map-append, length-map}
use Rattle.fir_ast.specs.declared.place.Place.{Place}
use Rattle.fir_ast.specs.Types.{DataType, uint, sint, clock, reset, async_reset, bundle, vector, Fields, no_fields, field}
use Rattle.fir_ast.specs.Circuits.{PortTree}
use Rattle.fir_meaning.specs.LeafPaths.{named, element}
use Rattle.fir_meaning.specs.TypeLeaves.{TypeLeaf, element_leaves, field_leaves, type_leaves, under}
use Rattle.fir_meaning.specs.Components as component
use Rattle.fir_meaning.specs.ComponentTypes.{is_input, port_fields}
use Rattle.fir_meaning.specs.SharedLeaves.{shared_count}
use Rattle.fir_meaning.specs.SizedTypes.{numbered, numbered_fields, past}
use Rattle.fir_meaning.specs.SizedDeclarations.{numbers_at}
use Rattle.fir_meaning.specs.Visibility.{Before, at_head, with_declaration}
use Rattle.fir_meaning.specs.WidthExpressions.{Widths}
use Rattle.fir_meaning.specs.LeafTypes.{LeafType}
use Rattle.fir_meaning.specs.working.LeafModules.{Role}
use Rattle.fir_meaning.specs.ModuleScenes.{Declared, Scene}
use Rattle.fir_meaning.specs.HeldTypes.{held_field_types, held_types, repeated}
use Rattle.fir_meaning.specs.working.LeafedModules.{leaves_from, leaves_of_ports, port_role}
use Rattle.fir_leaf.specs.working.DesignLaws.{SamePorts}

long_elements : (i n : ℕ) (ls : List TypeLeaf) (hs : List LeafType) → length ls ≡ length hs → length (element_leaves i n ls) ≡ length (repeated n hs)
long_elements i zero ls hs e = refl
long_elements i (suc n) ls hs e =
    omega (
      arith,
      e,
      length-append (map (under false (element i)) ls) (element_leaves (i + 1) n ls),
      length-map ls (under false (element i)),
      length-append hs (repeated n hs),
      long_elements (i + 1) n ls hs e,
    )

-- a type holds as much as it has leaves
mutual
  held_long : (w : Widths) (at : Option ℕ) (t : DataType) → length (type_leaves t) ≡ length (held_types w (numbered at t))
  held_long w at (uint x) = refl
  held_long w at (sint x) = refl
  held_long w at clock = refl
  held_long w at reset = refl
  held_long w at async_reset = refl
  held_long w at (bundle fs) = held_fields_long w at fs
  held_long w at (vector t n) = long_elements 0 n (type_leaves t) _ (held_long w (if n == 0 then None else at) t)

  held_fields_long : (w : Widths) (at : Option ℕ) (fs : Fields) → length (field_leaves fs) ≡ length (held_field_types w (numbered_fields at fs))
  held_fields_long w at no_fields = refl
  held_fields_long w at (field p flip x begins t rest) =
      omega (
        arith,
        length-append (map (under flip (named x)) (type_leaves t)) (field_leaves rest),
        length-map (type_leaves t) (under flip (named x)),
        held_long w at t,
        held_fields_long w (past (shared_count t) at) rest,
        length-append (held_types w (numbered at t)) (held_field_types w (numbered_fields (past (shared_count t) at) rest)),
      )

from_same : (d : Declared) (place : TypeLeaf → Place) (role_of : ℕ → TypeLeaf → Role) (f : Bool) (k : ℕ) (ls : List TypeLeaf) (hs : List LeafType)
    → length ls ≡ length hs
    → map (λ l. l.path) (map (under f (named d.named.name)) ls) ≡ map (λ l. l.path) (leaves_from d place role_of k ls hs)
from_same d place role_of f k [] hs e = refl
from_same d place role_of f k (l ∷ ls) [] e = absurd (omega (arith, e))
from_same d place role_of f k (l ∷ ls) (h ∷ hs) e = ap (λ ps. (named d.named.name ∷ l.path) ∷ ps) (from_same d place role_of f (suc k) ls hs (omega (arith, e)))

ports_same : (s : Scene) (before : Before) (ps : List PortTree)
    → map (λ l. l.path) (field_leaves (port_fields ps)) ≡ map (λ l. l.path) (leaves_of_ports s before ps)
ports_same s before [] = refl
ports_same s before (p ∷ ps) =
    map-append (λ l. l.path) (map (under (is_input p.direction) (named p.named.name)) (type_leaves p.data_type)) (field_leaves (port_fields ps))
    ∙ ap₂ (λ xs ys. xs ++ ys)
    (from_same declared (λ l. p.named.place) (λ k l. port_role p.direction l) (is_input p.direction) 0 (type_leaves p.data_type) _
    (held_long s.widths (Some (numbers_at s.own before).port) p.data_type))
    (ports_same s (with_declaration before p.named (component.port p.direction p.data_type)) ps)
    ∙ sym (map-append (λ l. l.path) (leaves_from declared (λ l. p.named.place) (λ k l. port_role p.direction l) 0 (type_leaves p.data_type) _)
    (leaves_of_ports s (with_declaration before p.named (component.port p.direction p.data_type)) ps))
  where
    declared : Declared
    declared = record { named = p.named; component = component.port p.direction p.data_type; before = before }

pub same_ports : SamePorts
same_ports s = ports_same s at_head s.own.inside.ports
