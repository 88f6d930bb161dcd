-- The arrays of one declaration of a module, by their numbers in the whole design and by their paths.
use Rattle.std.proofs.Common.{◌≡◌, ℕ, suc, ◌+◌, ◌≤◌, List, [], ◌∷◌, ◌++◌, Bool, true, false, ◌&&◌, map, filter, length, slice_get, nat_eq, Some, refl, sym, ap, ap₂, ◌∙◌, subst, arith}
use Rattle.std.proofs.lemmas.Bool.{eq-eqb, eqb-true}
use Rattle.std.proofs.lemmas.List.{length-map, map-append}
use Rattle.std.proofs.lemmas.Simd.{map-map}
use Rattle.fir_base.specs.Lists.{In}
use Rattle.fir_meaning.specs.LeafPaths.{LeafPath}
use Rattle.fir_meaning.specs.working.LeafModules.{LeafArray, LeafModule}
use Rattle.fir_meaning.specs.LeafTypes.{has_bits}
use Rattle.fir_meaning.specs.working.StateWalks.{own_arrays}
use Rattle.fir_leaf.proofs.FlatPlaces.{At, at_left, at_right}
use Rattle.fir_design.specs.working.SameRoles.{array_on}
use Rattle.fir_meaning.specs.SourceCircuits.{PlacedArray, is_stored_array, placed_arrays}
use Rattle.fir_meaning.specs.SourceRoles.{SourceArray}
use Rattle.fir_design.proofs.ArrayRuns.{array_declaration}
use Rattle.fir_design.proofs.ChosenNumbers.{AreChosen, chosen_same}
use Rattle.fir_design.proofs.DeclaredRuns.{IsRun, StandsAlone, alone_first, alone_second, own_numbers}
use Rattle.fir_design.proofs.OwnWords.{at_first}

abbrev pub has_array_bits : LeafArray → Bool
has_array_bits a = has_bits a.holds

-- the parts of joined lists
mapped_parts : {A B : Type 0} (f : A → B) (xs ys : List A) (us vs : List B) → length xs ≡ length us → map f (xs ++ ys) ≡ us ++ vs
    → (map f xs ≡ us) × (map f ys ≡ vs)
mapped_parts f [] ys [] vs e h = (refl, h)
mapped_parts f [] ys (u ∷ us) vs e h = absurd (omega (arith, e))
mapped_parts f (x ∷ xs) ys [] vs e h = absurd (omega (arith, e))
mapped_parts f (x ∷ xs) ys (u ∷ us) vs e h =
    let here : f x ≡ u = cc in
    let more : map f (xs ++ ys) ≡ us ++ vs = cc in
    let rest = mapped_parts f xs ys us vs (omega (arith, e)) more in
    (ap₂ (λ z zs. z ∷ zs) here rest.0, rest.1)

module _ (m : LeafModule) (all : List PlacedArray) (at : LeafPath) (array : ℕ) where
  arrays_chosen : (xs : List LeafArray) (us : List SourceArray) (b g : ℕ) → map (array_on m.leaves) xs ≡ us → g ≡ array + b → At all g
      (placed_arrays at us)
      → AreChosen has_array_bits is_stored_array (λ x. slice_get all (array + x)) Some b xs (placed_arrays at us)
  arrays_chosen [] [] b g h e a = tt
  arrays_chosen [] (u ∷ us) b g h e a = cc
  arrays_chosen (x ∷ xs) [] b g h e a = cc
  arrays_chosen (x ∷ xs) (u ∷ us) b g h e a =
      let here : array_on m.leaves x ≡ u = cc in
      let more : map (array_on m.leaves) xs ≡ us = cc in
      let first : PlacedArray = record { at = at; array = u } in (
        record {
          same = ap (λ (z : SourceArray). has_bits z.holds) here;
          named = λ w. ap (slice_get all) (sym e) ∙ at_first all g first (placed_arrays at us) a;
        },
        arrays_chosen xs us (suc b) (g + 1) more (omega (arith, e)) (at_right all (first ∷ []) (placed_arrays at us) g a),
      )

  -- these arrays are of declarations from one on and before another, and stand from array b of the module on
  pub record ArePlaced (from upto b : ℕ) (xs : List LeafArray) (us : List SourceArray) : Type 0 where
    pub alone : StandsAlone array_declaration m.arrays from upto b xs
    pub same : map (array_on m.leaves) xs ≡ us
    pub there : At all (array + b) (placed_arrays at us)

  pub arrays_long : (us : List SourceArray) → length (placed_arrays at us) ≡ length us
  arrays_long us = length-map us place
    where
      place : SourceArray → PlacedArray
      place a = record { at = at; array = a }

  arrays_joined : (us vs : List SourceArray) → placed_arrays at (us ++ vs) ≡ placed_arrays at us ++ placed_arrays at vs
  arrays_joined us vs = map-append place us vs
    where
      place : SourceArray → PlacedArray
      place a = record { at = at; array = a }

  -- those of one declaration
  pub own_arrays_are : (from b : ℕ) (xs : List LeafArray) (us : List SourceArray) → ArePlaced from (from + 1) b xs us
      → ((a : LeafArray) → In xs a → a.declaration ≡ from)
      → map (slice_get all) (map (λ x. array + x) (own_arrays m from)) ≡ map Some (filter is_stored_array (placed_arrays at us))
  own_arrays_are from b xs us p own =
      map-map (slice_get all) (λ x. array + x) (own_arrays m from)
      ∙ ap (map (λ x. slice_get all (array + x)))
      (own_numbers array_declaration m.arrays (λ (a : LeafArray). nat_eq a.declaration from && has_bits a.holds) has_array_bits from b xs p.alone
      other mine own)
      ∙ chosen_same has_array_bits is_stored_array (λ x. slice_get all (array + x)) Some b xs (placed_arrays at us)
      (arrays_chosen xs us b (array + b) p.same refl p.there)
    where
      mine : (a : LeafArray) → a.declaration ≡ from → (nat_eq a.declaration from && has_bits a.holds) ≡ has_bits a.holds
      mine a e = ap (λ t. t && has_bits a.holds) (eq-eqb a.declaration from e)

      other : (a : LeafArray) → (a.declaration ≡ from → ⊥) → (nat_eq a.declaration from && has_bits a.holds) ≡ false
      other a apart = go (nat_eq a.declaration from) refl
        where
          go : (t : Bool) → nat_eq a.declaration from ≡ t → (t && has_bits a.holds) ≡ false
          go true e = absurd (apart (eqb-true a.declaration from e))
          go false e = refl

  module _ (from between upto b : ℕ) (xs ys : List LeafArray) (us vs : List SourceArray) (long : length xs ≡ length us) (low : from ≤ between)
      (high : between ≤ upto) (first : IsRun array_declaration from between xs) (second : IsRun array_declaration between upto ys)
      (p : ArePlaced from upto b (xs ++ ys) (us ++ vs)) where
    parts : At all (array + b) (placed_arrays at us ++ placed_arrays at vs)
    parts = subst (At all (array + b)) (arrays_joined us vs) p.there

    pub arrays_first : ArePlaced from between b xs us
    arrays_first = record {
      alone = alone_first array_declaration m.arrays from between upto b xs ys high p.alone second;
      same = (mapped_parts (array_on m.leaves) xs ys us vs long p.same).0;
      there = at_left all (placed_arrays at us) (placed_arrays at vs) (array + b) parts;
    }

    pub arrays_second : ArePlaced between upto (b + length xs) ys vs
    arrays_second =
        let number : (array + b) + length (placed_arrays at us) ≡ array + (b + length xs) = omega (arith, arrays_long us, long) in
        record {
          alone = alone_second array_declaration m.arrays from between upto b xs ys low p.alone first;
          same = (mapped_parts (array_on m.leaves) xs ys us vs long p.same).1;
          there = subst (λ z. At all z (placed_arrays at vs)) number (at_right all (placed_arrays at us) (placed_arrays at vs) (array + b) parts);
        }
