-- A flat net shows the loops of its circuit, by the same faults, and no others.
use Rattle.std.proofs.Common.{◌≡◌, ℕ, ◌<◌, ◌≤◌, List, [], ◌∷◌, ◌++◌, length, map, option_map, unwrap_or, Option, Some, refl, subst, sym, ap, ◌∙◌, inl, inr, ◌⊎◌, arith}
use Rattle.std.specs.Prelude.{slice_get}
use Rattle.std.proofs.lemmas.Bool.{cases_lt}
use Rattle.std.proofs.lemmas.List.{get_or_past}
use Rattle.std.proofs.lemmas.Option.{slice_get_past}
use Rattle.fir_base.proofs.Elements.{there}
use Rattle.fir_base.proofs.Members.{map_same}
use Rattle.fir_ast.specs.declared.fault.FirFault.{FirFault}
use Rattle.fir_ast.specs.Faults.{Fault}
use Rattle.fir_ast.specs.working.CodeFaults.{fault_of}
use Rattle.fir_ast.specs.declared.fault.FirFault.TheVariants.{Loop}
use Rattle.fir_ast.specs.declared.place.Place.{Place}
use Rattle.fir_meaning.specs.working.CircuitDependence.{IsWalk}
use Rattle.fir_meaning.specs.working.LeafCircuits.{LeafCircuit}
use Rattle.fir_meaning.specs.working.LeafModules.{LeafDeclared, no_leaf}
use Rattle.fir_meaning.specs.working.LeafNames.{path_of_leaf, place_of_leaf}
use Rattle.fir_meaning.specs.LeafPaths.{path_text}
use Rattle.fir_meaning.specs.working.LoopFaults.{ShowsLoop}
use Rattle.fir_net.specs.declared.leaf.Leaf.{Leaf}
use Rattle.fir_net.specs.declared.net.FlatNet.{FlatNet}
use Rattle.fir_net.specs.working.IsNet.{IsNet}
use Rattle.fir_loop.specs.working.IsLoop.{path_of}
use Rattle.fir_loop.specs.working.IsLoop as in_net
use Rattle.fir_flat.specs.working.FlatCircuits.{IsFlatOf}
use Rattle.fir_flat.specs.working.FlatLoops.{HidesNoLoop, IsNamedAs, ShowsLoopAs, ShowsTheSameLoops}
use Rattle.fir_flat.proofs.LeafDependence.{depends_within}
use Rattle.fir_flat.proofs.LoopWalks.{loop_of, walk_of}

abbrev path_in : Option Leaf → List ℕ
path_in o = unwrap_or (option_map (λ (l : Leaf). l.path) o) []

module _ (c : LeafCircuit) (net : FlatNet) (whole : IsNet net) (flat : IsFlatOf c net) where
  starts_within : (first : ℕ) (between : List ℕ) → IsWalk c first (between ++ first ∷ []) first → first < length net.leaves
  starts_within first [] walk = let count = flat.count in let low = depends_within c net whole flat first first walk.0 in omega (arith, count, low)
  starts_within first (y ∷ ys) walk = let count = flat.count in let low = depends_within c net whole flat first y walk.0 in omega (arith, count, low)

  module _ (named : IsNamedAs c net) where
    path_same : (k : ℕ) → path_of net k ≡ path_of_leaf c k
    path_same k = by (cases_lt k (length net.leaves))
      where
        by : (k < length net.leaves) ⊎ (length net.leaves ≤ k) → path_of net k ≡ path_of_leaf c k
        by (inl within) = let l = there net.leaves k within in ap path_in l.1 ∙ named.paths k l.0 l.1
        by (inr past) =
            let count = flat.count in
            ap path_in (slice_get_past net.leaves k past)
            ∙ ap (λ (l : LeafDeclared). path_text l.path) (sym (get_or_past c.leaves k no_leaf (omega (arith, count, past))))

    pub paths_same : (ks : List ℕ) → map (path_of net) ks ≡ map (path_of_leaf c) ks
    paths_same ks = map_same (path_of net) (path_of_leaf c) ks (λ k m. path_same k)

    fault_same : (first : ℕ) (l : Leaf) (walk : List ℕ) → slice_get net.leaves first ≡ Some l
        → Loop l.place (map (path_of net) walk) ≡ Loop (place_of_leaf c first) (map (path_of_leaf c) walk)
    fault_same first l walk at =
        ap (λ (p : Place). Loop p (map (path_of net) walk)) (named.places first l at)
        ∙ ap (λ (names : List (List ℕ)). Loop (place_of_leaf c first) names) (paths_same walk)

    in_circuit : (f : FirFault) → in_net.ShowsLoop net f → ShowsLoop c (fault_of f)
    in_circuit f s =
        let w = walk_of c net whole flat s.first s.rest s.loop in
        record {
          first = s.first;
          between = w.between;
          walk = w.walk;
          distinct = w.distinct;
          is =
              ap fault_of
              (s.is ∙ fault_same s.first s.leaf (s.first ∷ s.rest) s.at
              ∙ ap (λ (ks : List ℕ). Loop (place_of_leaf c s.first) (map (path_of_leaf c) (s.first ∷ ks))) w.is);
        }

    in_the_net : (f : Fault) → ShowsLoop c f → ShowsLoopAs net f
    in_the_net f s =
        let l = there net.leaves s.first (starts_within s.first s.between s.walk) in
        let walk = s.first ∷ s.between ++ s.first ∷ [] in
        let g = Loop l.0.place (map (path_of net) walk) in
        let shown : in_net.ShowsLoop net g = record {
          first = s.first;
          rest = s.between ++ s.first ∷ [];
          leaf = l.0;
          at = l.1;
          loop = loop_of c net whole flat s.first s.between s.walk s.distinct;
          is = refl;
        } in
        (g, shown, s.is ∙ sym (ap fault_of (fault_same s.first l.0 walk l.1)))

pub shows_the_same_loops : ShowsTheSameLoops
shows_the_same_loops c net f whole flat named = (
  (λ shown. subst (ShowsLoop c) (sym shown.2) (in_circuit c net whole flat named shown.0 shown.1)),
  in_the_net c net whole flat named f,
)

pub hides_no_loop : HidesNoLoop
hides_no_loop c net whole flat none f s = none (s.first ∷ s.between ++ s.first ∷ []) (loop_of c net whole flat s.first s.between s.walk s.distinct)
