-- The leaves of the main module's ports, by number and by path: inputs and outputs, numbers and clocks.
use Rattle.std.proofs.Common.{◌≡◌, ℕ, suc, ◌+◌, ◌<◌, List, [], ◌∷◌, ◌++◌, Bool, ◌&&◌, take, map, length, refl, sym, ap, ap₂, ◌∙◌, arith, length-append, append_assoc}
use Rattle.std.proofs.lemmas.List.{get_or-append-add}
use Rattle.fir_base.specs.Lists.{In}
use Rattle.fir_ast.specs.Circuits.{CircuitTree}
use Rattle.fir_meaning.specs.Visibility.{at_head}
use Rattle.fir_meaning.specs.working.Designs.{Design, IsDesignOf, Items, made_of}
use Rattle.fir_meaning.specs.working.FlatLeaves.{leaves_below}
use Rattle.fir_meaning.specs.working.Flattened.{flattened, is_input, ports_where}
use Rattle.fir_meaning.specs.LeafTypes.{is_clock, LeafType, has_bits}
use Rattle.fir_meaning.specs.working.Flattened as over
use Rattle.fir_meaning.specs.working.LeafModules.{LeafArray, LeafDeclared, LeafModule, Role, is_sink, leaf_at, no_leaf}
use Rattle.fir_meaning.specs.ModuleScenes.{Scene, behind_all_ports}
use Rattle.fir_meaning.specs.working.LeafedModules.{leafed_module, leaves_in_block, leaves_of_ports}
use Rattle.fir_leaf.specs.working.SoundDesigns.{circuit_path}
use Rattle.fir_meaning.specs.working.StateWalks.{numbers_where}
use Rattle.fir_leaf.proofs.FlatMeaning.{main_table}
use Rattle.fir_meaning.specs.working.Elaborated.{views}
use Rattle.fir_design.specs.working.MeaningLaws.{AreDesigns}
use Rattle.fir_design.specs.working.SameRoles.{SameLeaves, SameRole, ViewsHaveRoles}
use Rattle.fir_meaning.specs.SourceCircuits.{PlacedLeaf, clock_inputs, clock_outputs, inputs, is_source_role, leaf_path, outputs, paths_of, placed}
use Rattle.fir_meaning.specs.SourceCircuits as tree
use Rattle.fir_meaning.specs.SourceDesigns.{IsSourceDesignOf, SourceDesign}
use Rattle.fir_meaning.specs.SourceDesigns as source
use Rattle.fir_meaning.specs.SourceRoles.{SourceLeaf, SourceRole, sources_in_block}
use Rattle.fir_design.proofs.ChosenNumbers.{AreChosen, chosen_same, number_within}
use Rattle.fir_design.proofs.LeavesBeside.{ports_beside, same_parts}
use Rattle.fir_design.proofs.NumberedScenes.{scene_numbered}
use Rattle.fir_design.proofs.RoleKinds.{same_sink, same_source}

-- the first of a joined list
taken_front : {A : Type 0} (xs ys : List A) → take (length xs) (xs ++ ys) ≡ xs
taken_front [] ys = refl
taken_front (x ∷ xs) ys = ap (λ zs. x ∷ zs) (taken_front xs ys)

-- a port's leaf is what it is by its path, in a table where the ports stand behind some leaves
module _ (leaves : List LeafDeclared) (arrays : List LeafArray) (has : Role → Bool) (so : SourceRole → Bool) (holds : LeafType → Bool)
    (alike : (r : Role) (q : SourceRole) → SameRole leaves arrays r q → has r ≡ so q) where
  ports_chosen : (table front : List LeafDeclared) (xs : List LeafDeclared) (us : List SourceLeaf) (rest : List LeafDeclared) (b : ℕ)
      → length front ≡ b
      → table ≡ front ++ (xs ++ rest) → SameLeaves leaves arrays xs us
      → AreChosen (λ (l : LeafDeclared). has l.role && holds l.holds) (λ (p : PlacedLeaf). so p.leaf.role && holds p.leaf.holds)
      (λ x. (leaf_at table x).path) leaf_path b xs (placed [] us)
  ports_chosen table front [] [] rest b long is h = tt
  ports_chosen table front [] (u ∷ us) rest b long is h = absurd h
  ports_chosen table front (x ∷ xs) [] rest b long is h = absurd h
  ports_chosen table front (x ∷ xs) (u ∷ us) rest b long is h =
      let here : length front + 0 ≡ b = omega (arith, long) in
      let at : leaf_at table b ≡ x =
      ap (leaf_at table) (sym here) ∙ ap (λ ls. leaf_at ls (length front + 0)) is ∙ get_or-append-add front (x ∷ (xs ++ rest)) 0 no_leaf in (
        record {
          same = ap₂ (λ r t. r && holds t) (alike x.role u.role h.0.2) h.0.1;
          named = λ e. ap (λ (l : LeafDeclared). l.path) at ∙ h.0.0;
        },
        ports_chosen table (front ++ x ∷ []) xs us rest (suc b) (omega (arith, long, length-append front (x ∷ [])))
            (is ∙ sym (append_assoc front (x ∷ []) (xs ++ rest))) h.1,
      )

module _ (s : Scene)
    (same : SameLeaves (leafed_module s).leaves (leafed_module s).arrays (leafed_module s).leaves
    (tree.port_leaves s ++ sources_in_block s (behind_all_ports s.own.inside) s.own.inside.body)) (is : Items) (trees : source.Instances) where
  abbrev ports : List LeafDeclared
  ports = leaves_of_ports s at_head s.own.inside.ports

  abbrev m : LeafModule
  m = leafed_module s

  ports_are : over.port_leaves m ≡ ports
  ports_are = taken_front ports (leaves_in_block s (behind_all_ports s.own.inside) s.own.inside.body)

  paths_are : (has : Role → Bool) (so : SourceRole → Bool) (holds : LeafType → Bool)
      → ((r : Role) (q : SourceRole) → SameRole m.leaves m.arrays r q → has r ≡ so q)
      → map (circuit_path (flattened (made_of m is))) (ports_where has holds m) ≡ paths_of (tree.ports_where so holds (source.made_of s trees))
  paths_are has so holds alike =
      let others = leaves_in_block s (behind_all_ports s.own.inside) s.own.inside.body in
      let parts = same_parts m.leaves m.arrays ports others (tree.port_leaves s)
      (sources_in_block s (behind_all_ports s.own.inside) s.own.inside.body)
      (ports_beside s s.own.inside.ports at_head) same in
      ap (λ ls. map (circuit_path (flattened (made_of m is))) (numbers_where (λ (l : LeafDeclared). has l.role && holds l.holds) 0 ls)) ports_are
      ∙ chosen_same (λ (l : LeafDeclared). has l.role && holds l.holds) (λ (p : PlacedLeaf). so p.leaf.role && holds p.leaf.holds)
      (circuit_path (flattened (made_of m is))) leaf_path 0 ports (placed [] (tree.port_leaves s))
      (ports_chosen m.leaves m.arrays has so holds alike (main_table m is) [] ports (tree.port_leaves s)
      (leaves_below [] 0 0 m.port_leaves 0 (made_of m is)) 0 refl (ap (λ ls. ls ++ leaves_below [] 0 0 m.port_leaves 0 (made_of m is)) ports_are)
      parts.0)

within_ports : (m : LeafModule) (is : Items) (has : Role → Bool) (holds : LeafType → Bool) (x : ℕ) → In (ports_where has holds m) x
    → x < length (flattened (made_of m is)).leaves
within_ports m is has holds x i =
    let low = number_within (λ (l : LeafDeclared). has l.role && holds l.holds) 0 (over.port_leaves m) x i in
    omega (arith, low, length-append (over.port_leaves m) (leaves_below [] 0 0 m.port_leaves 0 (made_of m is)))

pub inputs_within : (d : Design) (x : ℕ) → In (flattened d).inputs x → x < length (flattened d).leaves
inputs_within (made_of m is) x i = within_ports m is is_input has_bits x i

pub clock_inputs_within : (d : Design) (x : ℕ) → In (flattened d).clock_inputs x → x < length (flattened d).leaves
clock_inputs_within (made_of m is) x i = within_ports m is is_input is_clock x i

-- the four lists of ports
pub record PortsAgree (d : Design) (t : SourceDesign) : Type 0 where
  pub inputs_are : map (circuit_path (flattened d)) (flattened d).inputs ≡ inputs t
  pub clock_inputs_are : map (circuit_path (flattened d)) (flattened d).clock_inputs ≡ clock_inputs t
  pub outputs_are : map (circuit_path (flattened d)) (flattened d).outputs ≡ outputs t
  pub clock_outputs_are : map (circuit_path (flattened d)) (flattened d).clock_outputs ≡ clock_outputs t

ports_of : (s : Scene) (scenes : List Scene) (d : Design) (t : SourceDesign)
    → SameLeaves (leafed_module s).leaves (leafed_module s).arrays (leafed_module s).leaves
    (tree.port_leaves s ++ sources_in_block s (behind_all_ports s.own.inside) s.own.inside.body)
    → IsDesignOf (views scenes) (leafed_module s) d → IsSourceDesignOf scenes s t → PortsAgree d t
ports_of s scenes (made_of m is) (source.made_of o trees) same e h =
    let view : m ≡ leafed_module s = e.0 in
    let own : o ≡ s = h.0 in
    rw (view, own) (record {
      inputs_are = paths_are s same is trees is_input is_source_role has_bits (same_source (leafed_module s).leaves (leafed_module s).arrays);
      clock_inputs_are = paths_are s same is trees is_input is_source_role is_clock (same_source (leafed_module s).leaves (leafed_module s).arrays);
      outputs_are = paths_are s same is trees is_sink tree.is_sink_role has_bits (same_sink (leafed_module s).leaves (leafed_module s).arrays);
      clock_outputs_are = paths_are s same is trees is_sink tree.is_sink_role is_clock (same_sink (leafed_module s).leaves (leafed_module s).arrays);
    })

pub ports_agree : (roles : ViewsHaveRoles) (c : CircuitTree) (d : Design) (t : SourceDesign) → AreDesigns c d t → PortsAgree d t
ports_agree roles c d t a =
    ports_of a.main a.scenes d t (roles c a.main a.names a.types (scene_numbered c a.scenes a.are a.main a.among)).0 a.design.is a.tree
