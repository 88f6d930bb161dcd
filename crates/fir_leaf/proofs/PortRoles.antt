-- The ports of leafed modules show no state.
use Rattle.std.proofs.Common.{◌≡◌, ℕ, zero, suc, ◌≤◌, List, [], ◌∷◌, ◌++◌, Bool, true, false, map, length, refl, sym, arith, subst, length-append, ⊎_elim}
use Rattle.std.specs.Prelude.{if◌then◌else◌}
use Rattle.std.proofs.lemmas.List.{get_or_append_left}
use Rattle.fir_base.specs.declared.direction.Direction.{Direction}
use Rattle.fir_base.specs.Lists.{In}
use Rattle.fir_base.proofs.Members.{in_either}
use Rattle.fir_ast.specs.declared.place.Place.{Place}
use Rattle.fir_ast.specs.Circuits.{PortTree}
use Rattle.fir_meaning.specs.LeafPaths.{named}
use Rattle.fir_meaning.specs.Components as component
use Rattle.fir_meaning.specs.Flows.{flow_under, is_source, port_flow}
use Rattle.fir_meaning.specs.TypeLeaves.{TypeLeaf}
use Rattle.fir_meaning.specs.Visibility.{Before, at_head, with_declaration}
use Rattle.fir_meaning.specs.working.LeafModules.{LeafDeclared, LeafModule, leaf_at, no_leaf, sink, source}
use Rattle.fir_meaning.specs.LeafTypes.{LeafType}
use Rattle.fir_meaning.specs.ModuleScenes.{Declared, Scene, behind_all_ports}
use Rattle.fir_meaning.specs.working.LeafedModules.{declared_leaves, leafed_module, leaves_from, leaves_in_block, leaves_of_ports, port_role}
use Rattle.fir_meaning.specs.working.Designs.{Item, drive, when, instance, Items, done, then, Design, made_of, empty_module, module_of, IsItemIn, AreItemsIn, IsDesignOf}
use Rattle.fir_meaning.specs.working.StateWalks.{is_state}
use Rattle.fir_leaf.specs.working.StateLaws.{EachInItem, EachInItems, EachModule, LeafedPortsShowNone, PortsShowNone}
use Rattle.fir_leaf.proofs.OncePaths.{at_in}

abbrev ShowsNone : LeafDeclared → Type 0
ShowsNone l = is_state l.role ≡ false

port_shows : (d : Direction) (l : TypeLeaf) → is_state (port_role d l) ≡ false
port_shows d l = go (is_source (flow_under l.flip (port_flow d)))
  where
    go : (b : Bool) → is_state (if b then source else sink) ≡ false
    go true = refl
    go false = refl

from_show : (d : Declared) (place : TypeLeaf → Place) (direction : Direction) (k : ℕ) (ls : List TypeLeaf) (hs : List LeafType) (l : LeafDeclared)
    → In (leaves_from d place (λ k l. port_role direction l) k ls hs) l → ShowsNone l
from_show d place direction k [] hs l among = absurd among
from_show d place direction k (x ∷ ls) [] l among = absurd among
from_show d place direction k (x ∷ ls) (h ∷ hs) l among =
    ⊎_elim
    (λ (e : record {
      place = place x;
      declaration = length d.before.declared;
      instances = 0;
      path = named d.named.name ∷ x.path;
      holds = h;
      depth = d.before.depth;
      role = port_role direction x;
    } ≡ l). subst ShowsNone e (port_shows direction x))
    (λ (rest : In (leaves_from d place (λ k l. port_role direction l) (suc k) ls hs) l). from_show d place direction (suc k) ls hs l rest)
    among

ports_show : (s : Scene) (before : Before) (ps : List PortTree) (l : LeafDeclared) → In (leaves_of_ports s before ps) l → ShowsNone l
ports_show s before [] l among = absurd among
ports_show s before (p ∷ ps) l among =
    let c = component.port p.direction p.data_type in
    let next = with_declaration before p.named c in
    let first = declared_leaves s (record { named = p.named; component = c; before = before }) (λ x. p.named.place) (λ k x. port_role p.direction x) in
    ⊎_elim
    (λ (a : In first l). from_show (record { named = p.named; component = c; before = before }) (λ x. p.named.place) p.direction 0 _ _ l a)
    (λ (b : In (leaves_of_ports s next ps) l). ports_show s next ps l b)
    (in_either first (leaves_of_ports s next ps) l among)

leafed_shows : (s : Scene) → PortsShowNone (leafed_module s)
leafed_shows s = record {
  each = λ x lt.
      let ports = leaves_of_ports s at_head s.own.inside.ports in
      let others = leaves_in_block s (behind_all_ports s.own.inside) s.own.inside.body in
      subst ShowsNone (sym (get_or_append_left ports others no_leaf x lt))
      (ports_show s at_head s.own.inside.ports (leaf_at ports x) (at_in ports no_leaf x lt));
}

empty_shows : PortsShowNone empty_module
empty_shows = record { each = λ x lt. absurd (omega (arith, lt)) }

module_shows : (scenes : List Scene) (x : ℕ) → PortsShowNone (module_of (map leafed_module scenes) x)
module_shows [] x = empty_shows
module_shows (s ∷ scenes) zero = leafed_shows s
module_shows (s ∷ scenes) (suc x) = module_shows scenes x

module _ (P : LeafModule → Type 0) (modules : List LeafModule) (each : (x : ℕ) → P (module_of modules x)) where
  mutual
    each_item : (i : Item) → IsItemIn modules i → EachInItem P i
    each_item (drive p b ps t) h = tt
    each_item (when p c a b) h = (each_items a h.0, each_items b h.1)
    each_item (instance i d) h = each_module (module_of modules i.module_number) d (each i.module_number) h

    each_items : (is : Items) → AreItemsIn modules is → EachInItems P is
    each_items done h = tt
    each_items ((then) i is) h = (each_item i h.0, each_items is h.1)

    each_module : (m : LeafModule) (d : Design) → P m → IsDesignOf modules m d → EachModule P d
    each_module m (made_of c is) here h = (subst P (sym h.0) here, each_items is h.2)

pub leafed_ports : LeafedPortsShowNone
leafed_ports scenes s (made_of c is) h = (
  subst (λ (m : LeafModule). m.port_leaves ≤ length m.leaves) (sym h.0) room,
  each_module PortsShowNone (map leafed_module scenes) (module_shows scenes) (leafed_module s) (made_of c is) (leafed_shows s) h,
)
  where
    room : length (leaves_of_ports s at_head s.own.inside.ports)
        ≤ length (leaves_of_ports s at_head s.own.inside.ports ++ leaves_in_block s (behind_all_ports s.own.inside) s.own.inside.body)
    room =
        omega (arith, length-append (leaves_of_ports s at_head s.own.inside.ports) (leaves_in_block s (behind_all_ports s.own.inside) s.own.inside.body))
