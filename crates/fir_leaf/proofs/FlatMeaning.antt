-- The leaf circuit of a design stores what the design stores.
use Rattle.std.proofs.Common.{◌≡◌, ℕ, ◌+◌, ◌<◌, ◌≤◌, List, [], ◌++◌, length, refl, sym, ap, ◌∙◌, arith, append-nil, length-append}
use Rattle.std.proofs.lemmas.List.{length-take, get_or-take, get_or_append_left}
use Rattle.fir_meaning.specs.LeafPaths.{LeafPath}
use Rattle.fir_meaning.specs.Values.{fit}
use Rattle.fir_meaning.specs.working.Terms.{Term}
use Rattle.fir_meaning.specs.working.TermValues.{clock_of, eval}
use Rattle.fir_meaning.specs.working.LeafBlocks.{nothing_stored}
use Rattle.fir_meaning.specs.working.LeafModules.{LeafDeclared, LeafModule, leaf_at, no_leaf}
use Rattle.fir_leaf.specs.working.ChoiceLaws.{fitted_at}
use Rattle.fir_meaning.specs.TreeValues.{TypesByPath, ValuesByPath}
use Rattle.fir_meaning.specs.working.Designs.{Items, made_of}
use Rattle.fir_meaning.specs.working.DesignPaths.{seen}
use Rattle.fir_meaning.specs.working.DesignStores.{clock_given, number_given}
use Rattle.fir_meaning.specs.PathStores.{nothing_kept}
use Rattle.fir_meaning.specs.working.Numberings.{Numbering, moved, number, numbering}
use Rattle.fir_meaning.specs.working.FlatDesigns.{inner_leaves}
use Rattle.fir_meaning.specs.working.FlatLeaves.{all_leaves_in, leaves_below}
use Rattle.fir_meaning.specs.working.Flattened.{port_leaves}
use Rattle.fir_leaf.specs.working.SoundDesigns.{IsTermIn}
use Rattle.fir_leaf.specs.working.DesignLaws.{SameDesignClocks, SameDesignStores}
use Rattle.fir_leaf.proofs.MovedTerms.{Stands, clock_same, eval_same, in_table}
use Rattle.fir_leaf.proofs.FlatPlaces.{At, inner_at, stands_below}
use Rattle.fir_leaf.proofs.FlatStores.{items_same}

-- all leaves of the circuit
abbrev pub main_table : LeafModule → Items → List LeafDeclared
main_table m is = port_leaves m ++ leaves_below [] 0 0 m.port_leaves 0 (made_of m is)

pub main_at : (m : LeafModule) (is : Items) → m.port_leaves ≤ length m.leaves
    → At (main_table m is) m.port_leaves (leaves_below [] 0 0 m.port_leaves 0 (made_of m is))
main_at m is room = record {
  before = port_leaves m;
  after = [];
  is = ap (λ l. port_leaves m ++ l) (sym (append-nil (leaves_below [] 0 0 m.port_leaves 0 (made_of m is))));
  long = omega (arith, room, length-take m.port_leaves m.leaves);
}

-- the main module's leaves stand first
pub main_stands : (m : LeafModule) (is : Items) → m.port_leaves ≤ length m.leaves → Stands (main_table m is) (numbering m 0 m.port_leaves) [] 0 m
main_stands m is room =
    stands_below (main_table m is) [] 0 0 m.port_leaves 0 m
    (all_leaves_in [] 0 m (numbering m 0 m.port_leaves) (m.port_leaves + length (inner_leaves m)) (0 + length m.arrays) is) room port (main_at m is room)
  where
    port : (x : ℕ) → x < m.port_leaves
        → (0 + x < length (main_table m is)) × ((leaf_at (main_table m is) (0 + x)).path ≡ (leaf_at m.leaves x).path)
        × ((leaf_at (main_table m is) (0 + x)).depth ≡ 0 + (leaf_at m.leaves x).depth)
    port x lt =
        let z : 0 + x ≡ x = omega arith in
        let zd : 0 + (leaf_at m.leaves x).depth ≡ (leaf_at m.leaves x).depth = omega arith in
        let long : length (port_leaves m) ≡ m.port_leaves = omega (arith, room, length-take m.port_leaves m.leaves) in
        let e : leaf_at (main_table m is) x ≡ leaf_at m.leaves x =
        get_or_append_left (port_leaves m) (leaves_below [] 0 0 m.port_leaves 0 (made_of m is)) no_leaf x (omega (arith, lt, long))
        ∙ get_or-take m.port_leaves m.leaves x no_leaf lt in
        rw (z, zd)
        (omega (arith, lt, long, length-append (port_leaves m) (leaves_below [] 0 0 m.port_leaves 0 (made_of m is))), ap (λ l. l.path) e, ap (λ l. l.depth) e)

module _ (table : List LeafDeclared) (holds : TypesByPath) (env : ValuesByPath) where
  number_gives : (n : Numbering) (here : LeafPath) (k : ℕ) (m : LeafModule) (x : ℕ) (t : Term) → Stands table n here k m → x < length m.leaves → IsTermIn m t
      → fitted_at (in_table table holds) (in_table table env) (number n x) (moved n t) ≡ number_given holds env here m x t
  number_gives n here k m x t s lt w =
      ap (λ v. fit v (holds (leaf_at table (number n x)).path)) (eval_same table holds env n here k m s t w)
      ∙ ap (λ p. fit (eval (seen here m holds) (seen here m env) t) (holds p)) (s.path x lt)

pub same_stores : SameDesignStores
same_stores (made_of m is) holds env sound x lt =
    let table = main_table m is in
    (items_same table (record { each = sound.once }) holds env (fitted_at (in_table table holds) (in_table table env)) (number_given holds env)
    (number_gives table holds env) [] m (numbering m 0 m.port_leaves) (m.port_leaves + length (inner_leaves m))
    (0 + length m.arrays) 0 0 [] [] is nothing_stored nothing_kept
    (main_stands m is sound.wired.0) refl refl (inner_at table [] 0 0 m.port_leaves 0 m is (main_at m is sound.wired.0)) sound.wired.1
    (record { each = λ j l. refl })).each x lt

pub same_clocks : SameDesignClocks
same_clocks (made_of m is) holds env clocks sound x lt =
    let table = main_table m is in
    (items_same table (record { each = sound.once }) holds env
    (λ y t. clock_of (in_table table holds) (record { numbers = in_table table env; clocks = in_table table clocks }) t) (clock_given holds env clocks)
    (λ n here k c y t s room w. clock_same table holds env n here k c s clocks t w)
    [] m (numbering m 0 m.port_leaves) (m.port_leaves + length (inner_leaves m)) (0 + length m.arrays) 0 0 [] [] is nothing_stored nothing_kept
    (main_stands m is sound.wired.0) refl refl (inner_at table [] 0 0 m.port_leaves 0 m is (main_at m is sound.wired.0)) sound.wired.1
    (record { each = λ j l. refl })).each x lt
