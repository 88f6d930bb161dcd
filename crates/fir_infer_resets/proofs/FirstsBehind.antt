-- Paths with the first element for each behind a position: the leaves of one position and the next are joined, and of one class.
use Rattle.std.proofs.Common.{◌≡◌, ℕ, zero, suc, ◌++◌, [], ◌∷◌, map, drop, length, Some, None, refl, inr, ap, sym, ◌∙◌, arith}
use Rattle.std.specs.Prelude.{slice_get}
use Rattle.std.proofs.lemmas.List.{append-nil, take_all, drop_all}
use Rattle.std.proofs.lemmas.Option.{same_Some, none-some}
use Rattle.fir_ast.specs.declared.place.Place.{Place}
use Rattle.fir_ast.specs.Types.{DataType}
use Rattle.fir_ast.specs.Circuits.{CircuitTree}
use Rattle.fir_meaning.specs.LeafPaths.{Step, LeafPath, named, element}
use Rattle.fir_meaning.specs.working.NameGroups.{HasNames}
use Rattle.fir_meaning.specs.TypeGroup.{type_faults}
use Rattle.fir_reset.specs.working.ElementPaths.{any_element, firsts_behind}
use Rattle.fir_meaning.specs.ResetItems.{End, leaf_item, leaf_end}
use Rattle.fir_meaning.specs.ResetJoins.{AreElements}
use Rattle.fir_meaning.specs.ResetWalks.{IsLeafOf, Joined}
use Rattle.fir_reset.specs.working.LeafClasses.{class_of}
use Rattle.fir_infer_resets.proofs.LoweredPaths.{IsLowered, lowered}
use Rattle.fir_infer_resets.proofs.SharedClasses.{others_share}

pub firsts_lowered : (kept : ℕ) (p : LeafPath) → IsLowered p (firsts_behind kept p)
firsts_lowered zero [] = tt
firsts_lowered zero (named x ∷ p) = (refl, firsts_lowered zero p)
firsts_lowered zero (element i ∷ p) = (omega arith, firsts_lowered zero p)
firsts_lowered (suc n) [] = tt
firsts_lowered (suc n) (named x ∷ p) = (refl, firsts_lowered n p)
firsts_lowered (suc n) (element i ∷ p) = (omega arith, firsts_lowered n p)

pub firsts_once : (p : LeafPath) → map any_element (map any_element p) ≡ map any_element p
firsts_once [] = refl
firsts_once (named x ∷ p) = ap (λ q. named x ∷ q) (firsts_once p)
firsts_once (element i ∷ p) = ap (λ q. element 0 ∷ q) (firsts_once p)

pub all_kept : (p : LeafPath) → firsts_behind (length p) p ≡ p
all_kept p =
    ap (λ y. y ++ map any_element (drop (length p) p)) (take_all (length p) p (omega arith))
    ∙ ap (λ y. p ++ map any_element y) (drop_all (length p) p (omega arith)) ∙ append-nil p

-- behind the end of a path, and where the step is no element or the first, the next path is the same
pub none_there : (n : ℕ) (p : LeafPath) → slice_get p n ≡ None → firsts_behind (suc n) p ≡ firsts_behind n p
none_there zero [] h = refl
none_there (suc n) [] h = refl
none_there zero (s ∷ p) h = absurd (none-some s (sym h))
none_there (suc n) (s ∷ p) h = ap (λ y. s ∷ y) (none_there n p h)

pub kept_same : (n : ℕ) (p : LeafPath) (s : Step) → slice_get p n ≡ Some s → any_element s ≡ s → firsts_behind (suc n) p ≡ firsts_behind n p
kept_same n [] s h e = absurd (none-some s h)
kept_same zero (z ∷ p) s h e = let same : z ≡ s = same_Some z s h in ap (λ y. y ∷ map any_element p) (same ∙ sym e ∙ ap any_element (sym same))
kept_same (suc n) (z ∷ p) s h e = ap (λ y. z ∷ y) (kept_same n p s h e)

-- one element is set
record SetsOne (n : ℕ) (p : LeafPath) (i : ℕ) : Type 0 where
  front : LeafPath
  rest : LeafPath
  with_it : firsts_behind (suc n) p ≡ front ++ element i ∷ rest
  without : firsts_behind n p ≡ front ++ element 0 ∷ rest

sets_one : (n : ℕ) (p : LeafPath) (i : ℕ) → slice_get p n ≡ Some (element i) → SetsOne n p i
sets_one n [] i h = absurd (none-some (element i) h)
sets_one zero (s ∷ p) i h =
    let same : s ≡ element i = same_Some s (element i) h in
    record { front = []; rest = map any_element p; with_it = ap (λ y. y ∷ map any_element p) same; without = ap (λ y. any_element y ∷ map any_element p) same }
sets_one (suc n) (s ∷ p) i h =
    let r = sets_one n p i h in
    record { front = s ∷ r.front; rest = r.rest; with_it = ap (λ y. s ∷ y) r.with_it; without = ap (λ y. s ∷ y) r.without }

-- an end is joined to another of its class
pub record IsBeside (c : CircuitTree) (e f : End) : Type 0 where
  pub class : class_of c e.item ≡ class_of c f.item
  pub joined : Joined c e f

module _ (c : CircuitTree) (names : HasNames c) (clear : type_faults c ≡ []) (number : ℕ) (p : LeafPath) (t : DataType) (place : Place) (l : IsLeafOf c (leaf_end number place p t)) where
  pub leaf_behind : (n : ℕ) → IsLeafOf c (leaf_end number place (firsts_behind n p) t)
  leaf_behind n = lowered c number p (firsts_behind n p) t place (firsts_lowered n p) l

  pub next_beside : (n i : ℕ) → slice_get p n ≡ Some (element i)
      → IsBeside c (leaf_end number place (firsts_behind (suc n) p) t) (leaf_end number place (firsts_behind n p) t)
  next_beside n i h =
      let one = leaf_end number place (firsts_behind (suc n) p) t in
      let other = leaf_end number place (firsts_behind n p) t in
      let sets = sets_one n p i h in
      let elements : AreElements one other = record {
        number = number;
        vector = sets.front;
        one = i;
        other = 0;
        rest = sets.rest;
        one_is = ap (leaf_item number) sets.with_it;
        other_is = ap (leaf_item number) sets.without;
        ground_type = refl;
        place = refl;
      } in
      record {
        class = others_share c names clear one other (leaf_behind (suc n)) (leaf_behind n) elements;
        joined = inr (inr (leaf_behind (suc n), leaf_behind n, elements));
      }
