-- What a connect pairs of types that fit: all leaves of both sides, path by path.
use Rattle.std.proofs.Common.{◌≡◌, ℕ, zero, suc, ◌+◌, List, [], ◌∷◌, ◌++◌, Bool, true, false, ◌==◌, map, refl, sym, ap, ◌∙◌}
use Rattle.std.specs.Bool.{beq}
use Rattle.std.specs.Str.{bytes_eq}
use Rattle.std.proofs.lemmas.List.{map-append}
use Rattle.std.proofs.lemmas.Bool.{eqb-true}
use Rattle.fir_ast.specs.Types.{bundle, vector, Fields, no_fields, field}
use Rattle.fir_meaning.specs.LeafPaths.{Step, named, element}
use Rattle.fir_meaning.specs.TypeLeaves.{TypeLeaf, under, element_leaves, type_leaves, field_leaves}
use Rattle.fir_meaning.specs.Equivalence.{fields_alike, is_connectable, fitting_ground}
use Rattle.fir_meaning.specs.ConnectPairs.{Pair, both_under, element_pairs, pairs, field_pairs}
use Rattle.fir_meaning.specs.working.TypeLaws.{ConnectsLeafByLeaf}
use Rattle.fir_base.proofs.Tests.{both}
use Rattle.fir_base.proofs.SameNames.{name_is}
use Rattle.fir_meaning.proofs.LeafSteps.{path_of, behind_step, paths_joined, element_paths, same_flip}

-- one side of each pair, which a step before both sides puts behind that step
module _ (side : Pair → TypeLeaf) (put : (f : Bool) (s : Step) (p : Pair) → side (both_under f s p) ≡ under f s (side p)) where
  side_under : (f : Bool) (s : Step) (ps : List Pair) → map side (map (both_under f s) ps) ≡ map (under f s) (map side ps)
  side_under f s [] = refl
  side_under f s (p ∷ ps) = rw (put f s p, side_under f s ps) refl

  side_joined : (f : Bool) (s : Step) (ps qs : List Pair) → map side (map (both_under f s) ps ++ qs) ≡ map (under f s) (map side ps) ++ map side qs
  side_joined f s ps qs = map-append side (map (both_under f s) ps) qs ∙ ap (λ l. l ++ map side qs) (side_under f s ps)

  side_elements : (i n : ℕ) (ps : List Pair) → map side (element_pairs i n ps) ≡ element_leaves i n (map side ps)
  side_elements i zero ps = refl
  side_elements i (suc n) ps =
      side_joined false (element i) ps (element_pairs (i + 1) n ps) ∙ ap (λ l. map (under false (element i)) (map side ps) ++ l) (side_elements (i + 1) n ps)

abbrev left_of : Pair → TypeLeaf
left_of p = p.left

abbrev right_of : Pair → TypeLeaf
right_of p = p.right

same_element_paths : (i n : ℕ) (ls ks : List TypeLeaf) → map path_of ls ≡ map path_of ks
    → map path_of (element_leaves i n ls) ≡ map path_of (element_leaves i n ks)
same_element_paths i zero ls ks h = refl
same_element_paths i (suc n) ls ks h =
    element_paths i n ls ∙ ap (λ l. map (behind_step (element i)) l ++ map path_of (element_leaves (i + 1) n ls)) h
    ∙ ap (λ l. map (behind_step (element i)) (map path_of ks) ++ l) (same_element_paths (i + 1) n ls ks h) ∙ sym (element_paths i n ks)

record PairsFields (fs gs : Fields) : Type 0 where
  left : map left_of (field_pairs fs gs) ≡ field_leaves fs
  right : map right_of (field_pairs fs gs) ≡ field_leaves gs
  path : map path_of (field_leaves fs) ≡ map path_of (field_leaves gs)

mutual
  pub pairs_leaves : ConnectsLeafByLeaf
  pairs_leaves (bundle fs) (bundle gs) h = let r = pairs_fields fs gs h in record { left = r.left; right = r.right; path = r.path }
  pairs_leaves (bundle fs) b h = absurd (cc)
  pairs_leaves (vector t n) (vector u m) h =
      let tests = both (n == m) (is_connectable t u) h in
      let r = pairs_leaves t u tests.1 in
      let e : n ≡ m = eqb-true n m tests.0 in
      record {
        left = side_elements left_of (λ f s p. refl) 0 n (pairs t u) ∙ ap (element_leaves 0 n) r.left;
        right = side_elements right_of (λ f s p. refl) 0 n (pairs t u) ∙ ap (element_leaves 0 n) r.right ∙ ap (λ k. element_leaves 0 k (type_leaves u)) e;
        path = same_element_paths 0 n (type_leaves t) (type_leaves u) r.path ∙ ap (λ k. map path_of (element_leaves 0 k (type_leaves u))) e;
      }
  pairs_leaves (vector t n) b h = absurd (cc)
  pairs_leaves s (bundle gs) h = absurd (cc)
  pairs_leaves s (vector u m) h = absurd (cc)
  pairs_leaves s t h = record { left = refl; right = refl; path = refl }

  pairs_fields : (fs gs : Fields) → fields_alike fitting_ground fs gs ≡ true → PairsFields fs gs
  pairs_fields no_fields no_fields h = record { left = refl; right = refl; path = refl }
  pairs_fields no_fields (field q g y c u gs) h = absurd (cc)
  pairs_fields (field p f x b t fs) no_fields h = absurd (cc)
  pairs_fields (field p f x b t fs) (field q g y c u gs) h =
      let first = both (beq f g) _ h in
      let second = both (bytes_eq x y) _ first.1 in
      let third = both (is_connectable t u) _ second.1 in
      let r = pairs_leaves t u third.0 in
      let s = pairs_fields fs gs third.1 in
      let flips : f ≡ g = same_flip f g first.0 in
      let names : x ≡ y = name_is x y second.0 in
      let here = pairs t u in
      let rest = field_pairs fs gs in
      record {
        left = side_joined left_of (λ f s p. refl) f (named x) here rest ∙ rw (r.left, s.left) refl;
        right = side_joined right_of (λ f s p. refl) f (named x) here rest ∙ rw (r.right, s.right, flips, names) refl;
        path =
            paths_joined f (named x) (type_leaves t) (field_leaves fs) ∙ rw (r.path, s.path, names) refl
            ∙ sym (paths_joined g (named y) (type_leaves u) (field_leaves gs));
      }
