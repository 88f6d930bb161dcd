-- The names of arrays while they are taken, in the order of the state and behind all names that the set had.
use Rattle.std.proofs.Common.{◌≡◌, ℕ, ◌<◌, List, [], ◌∷◌, get_or, length, map, set, sym, ap, ◌∙◌, subst, arith}
use Rattle.std.specs.Prelude.{slice_get, Option, Some, None}
use Rattle.std.specs.BTreeSet.{BTreeSet}
use Rattle.std.proofs.lemmas.List.{length-map, length-set}
use Rattle.std.proofs.lemmas.Option.{slice_get-get_or, slice_get_within}
use Rattle.fir_net.specs.declared.array.Array.{Array}
use Rattle.fir_net.specs.declared.net.FlatNet.{FlatNet}
use Rattle.fir_net.specs.Paths.{base_name}
use Rattle.fir_net.specs.working.IsNet.{IsNet}
use Rattle.fir_net_names.specs.working.LeafNamed.{array_base, base_of_array}
use Rattle.fir_net_names.specs.working.NameSets.{Holds, TakesName, HasNames}
use Rattle.fir_net_names.proofs.NamedSoFar.{NamedSoFar, name_other, name_written, named_all, named_more, named_none, none_named}

-- some arrays have their names, and those that are left take theirs behind them
pub record NamedArrays (net : FlatNet) (first : BTreeSet (List ℕ)) (left : List ℕ) (names : List (Option (List ℕ))) (set : BTreeSet (List ℕ)) : Type 0 where
  pub so_far : (before : List (List ℕ)) → Holds first before → NamedSoFar (array_base net) before net.array_order left names set
  pub count : length names ≡ length net.arrays

-- each number of the order is that of an array
pub order_within : (net : FlatNet) → IsNet net → (order : List ℕ) → order ≡ net.array_order → (i : ℕ) → i < length order → get_or order i 0 < length net.arrays
order_within net whole order is i within =
    let k = get_or order i 0 in
    let here : slice_get net.array_order i ≡ Some k = subst (λ (ks : List ℕ). slice_get ks i ≡ Some k) is (slice_get-get_or order i 0 within) in
    let found = whole.array_state.only i k here in
    slice_get_within net.arrays k found.0 found.1

pub arrays_none : (net : FlatNet) (first : BTreeSet (List ℕ)) (names : List (Option (List ℕ))) → names ≡ map (λ a. None) net.arrays → NamedArrays net first net.array_order names first
arrays_none net first names none = record {
  so_far = λ before held. named_none (array_base net) before net.array_order names first held (λ j. rw none (none_named net.arrays j));
  count = ap length none ∙ length-map net.arrays (λ a. None);
}

pub arrays_more :
    (net : FlatNet) → IsNet net → (k : ℕ) (a : Array) (left : List ℕ) (names : List (Option (List ℕ))) (first old new : BTreeSet (List ℕ)) (name : List ℕ) → slice_get net.arrays k ≡ Some a
    → NamedArrays net first (k ∷ left) names old → TakesName old new (base_name a.path) name → NamedArrays net first left (set names k (Some name)) new
arrays_more net whole k a left names first old new name at w t =
    let taken : TakesName old new (array_base net k) name = subst (λ (o : Option Array). TakesName old new (base_of_array o) name) (sym at) t in
    let count = w.count in
    let within : k < length net.arrays = slice_get_within net.arrays k a at in
    record {
      so_far =
          λ before held. named_more (array_base net) before net.array_order left k names (set names k (Some name)) old new name whole.array_state.once (w.so_far before held) taken
          (name_written names k name (omega arith)) (name_other names k name);
      count = length-set names k (Some name) ∙ count;
    }

pub arrays_all :
    (net : FlatNet) (first : BTreeSet (List ℕ)) (names : List (Option (List ℕ))) (set : BTreeSet (List ℕ)) → NamedArrays net first [] names set → (before : List (List ℕ)) → Holds first before
    → HasNames (array_base net) before net.array_order names set
arrays_all net first names set w before held = named_all (array_base net) before net.array_order names set (w.so_far before held)
