-- Where the leaves of a part of a module's text stand: among the leaves of its view, and among those of all trees.
use Rattle.std.proofs.Common.{◌≡◌, ℕ, ◌+◌, ◌-◌, ◌≤◌, List, [], ◌∷◌, ◌++◌, map, length, slice_get, Some, sym, ap, ◌∙◌, subst, arith, append_assoc}
use Rattle.std.proofs.lemmas.List.{length-map, map-append}
use Rattle.fir_base.proofs.Elements.{get_behind}
use Rattle.fir_ast.specs.Statements.{PlacedName}
use Rattle.fir_meaning.specs.Components.{Component, Declarations}
use Rattle.fir_meaning.specs.LeafPaths.{LeafPath}
use Rattle.fir_meaning.specs.Visibility.{Before, declaration_at, with_declaration}
use Rattle.fir_meaning.specs.working.LeafModules.{LeafDeclared, LeafModule}
use Rattle.fir_leaf.proofs.FlatPlaces.{At, at_left, at_right}
use Rattle.fir_design.specs.working.SameRoles.{SameLeaves}
use Rattle.fir_meaning.specs.SourceCircuits.{PlacedLeaf, placed, within}
use Rattle.fir_meaning.specs.SourceRoles.{SourceLeaf}
use Rattle.fir_design.proofs.DeclaredInstances.{Grows}
use Rattle.fir_design.proofs.DeclaredRuns.{IsRun, StandsAlone, alone_first, alone_second}
use Rattle.fir_design.proofs.LeafRuns.{declaration_of}
use Rattle.fir_design.proofs.LeavesBeside.{same_parts}

-- the declaration at a place is the next of all
pub declared_there : (all : Declarations) (before : Before) (n : PlacedName) (c : Component) → Grows (with_declaration before n c).declared all
    → slice_get all (length before.declared) ≡ Some (declaration_at before n c)
declared_there all before n c g =
    let d = declaration_at before n c in
    let whole : before.declared ++ d ∷ g.0 ≡ all = sym (append_assoc before.declared (d ∷ []) g.0) ∙ g.1 in
    ap (λ ds. slice_get ds (length before.declared)) (sym whole) ∙ get_behind before.declared g.0 d

module _ (m : LeafModule) (all : List PlacedLeaf) (at : LeafPath) (free : ℕ) where
  abbrev pub inner_placed : List SourceLeaf → List PlacedLeaf
  inner_placed us = placed at (map within us)

  -- these leaves are of declarations from one on and before another, and stand from leaf b of the module on
  pub record IsPlaced (from upto b : ℕ) (xs : List LeafDeclared) (us : List SourceLeaf) : Type 0 where
    pub alone : StandsAlone declaration_of m.leaves from upto b xs
    pub same : SameLeaves m.leaves m.arrays xs us
    pub inner : m.port_leaves ≤ b
    pub there : At all (free + (b - m.port_leaves)) (inner_placed us)

  inner_joined : (us vs : List SourceLeaf) → inner_placed (us ++ vs) ≡ inner_placed us ++ inner_placed vs
  inner_joined us vs =
      ap (placed at) (map-append within us vs) ∙ map-append (λ (l : SourceLeaf). record { at = at; leaf = l }) (map within us) (map within vs)

  pub placed_long : (us : List SourceLeaf) → length (inner_placed us) ≡ length us
  placed_long us = length-map (map within us) (λ (l : SourceLeaf). record { at = at; leaf = l }) ∙ length-map us within

  module _ (from between upto b : ℕ) (xs ys : List LeafDeclared) (us vs : List SourceLeaf) (long : length xs ≡ length us) (low : from ≤ between)
      (high : between ≤ upto) (first : IsRun declaration_of from between xs) (second : IsRun declaration_of between upto ys)
      (p : IsPlaced from upto b (xs ++ ys) (us ++ vs)) where
    parts : At all (free + (b - m.port_leaves)) (inner_placed us ++ inner_placed vs)
    parts = subst (At all (free + (b - m.port_leaves))) (inner_joined us vs) p.there

    pub placed_first : IsPlaced from between b xs us
    placed_first = record {
      alone = alone_first declaration_of m.leaves from between upto b xs ys high p.alone second;
      same = (same_parts m.leaves m.arrays xs ys us vs long p.same).0;
      inner = p.inner;
      there = at_left all (inner_placed us) (inner_placed vs) (free + (b - m.port_leaves)) parts;
    }

    pub placed_second : IsPlaced between upto (b + length xs) ys vs
    placed_second =
        let inside = p.inner in
        let number : (free + (b - m.port_leaves)) + length (inner_placed us) ≡ free + ((b + length xs) - m.port_leaves) =
        omega (arith, placed_long us, long, inside) in
        record {
          alone = alone_second declaration_of m.leaves from between upto b xs ys low p.alone first;
          same = (same_parts m.leaves m.arrays xs ys us vs long p.same).1;
          inner = omega (arith, inside);
          there =
              subst (λ z. At all z (inner_placed vs)) number
              (at_right all (inner_placed us) (inner_placed vs) (free + (b - m.port_leaves)) parts);
        }
