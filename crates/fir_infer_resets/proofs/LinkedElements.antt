-- Leaves that differ in elements alone are linked, by a chain that sets one element after the other.
use Rattle.std.proofs.Common.{◌≡◌, ℕ, zero, suc, map, length, Option, Some, None, refl, ap, sym, ◌∙◌, subst, []}
use Rattle.std.specs.Prelude.{slice_get}
use Rattle.fir_ast.specs.declared.place.Place.{Place}
use Rattle.fir_ast.specs.Types.{DataType}
use Rattle.fir_ast.specs.Circuits.{CircuitTree}
use Rattle.fir_meaning.specs.LeafPaths.{Step, LeafPath, named, element}
use Rattle.fir_meaning.specs.working.NameGroups.{HasNames}
use Rattle.fir_meaning.specs.TypeGroup.{type_faults}
use Rattle.fir_reset.specs.working.ElementPaths.{any_element, firsts_behind, DifferInElements}
use Rattle.fir_meaning.specs.ResetItems.{ResetItem, End, leaf_end}
use Rattle.fir_meaning.specs.ResetWalks.{IsLeafOf}
use Rattle.fir_infer_resets.specs.working.ResetLaws.{Linked, same, then_joined}
use Rattle.fir_infer_resets.proofs.FirstsBehind.{all_kept, none_there, kept_same, next_beside}
use Rattle.fir_infer_resets.proofs.JoinedEnds.{joined_back}

pub linked_through : (c : CircuitTree) (e f g : End) → Linked c e f → Linked c f g → Linked c e g
linked_through c e f g (same x) more = more
linked_through c e f g (then_joined x y z j class ground_type rest) more = then_joined x y g j class ground_type (linked_through c y z g rest more)

linked_back : (c : CircuitTree) (e f : End) → Linked c e f → Linked c f e
linked_back c e f (same x) = same x
linked_back c e f (then_joined x y z j class ground_type rest) =
    linked_through c z y x (linked_back c y z rest) (then_joined y x x (joined_back c x y j) (sym class) (sym ground_type) (same x))

module _ (c : CircuitTree) (names : HasNames c) (clear : type_faults c ≡ []) where
  -- a leaf of a path, and that with the first element for each
  module _ (number : ℕ) (p : LeafPath) (t : DataType) (place : Place) (l : IsLeafOf c (leaf_end number place p t)) where
    abbrev behind : ℕ → End
    behind n = leaf_end number place (firsts_behind n p) t

    linked_next : (n : ℕ) → Linked c (behind (suc n)) (behind n)
    linked_next n = by (slice_get p n) refl
      where
        unchanged : firsts_behind (suc n) p ≡ firsts_behind n p → Linked c (behind (suc n)) (behind n)
        unchanged e = subst (λ q. Linked c (leaf_end number place q t) (behind n)) (sym e) (same (behind n))

        by : (o : Option Step) → slice_get p n ≡ o → Linked c (behind (suc n)) (behind n)
        by None h = unchanged (none_there n p h)
        by (Some (named x)) h = unchanged (kept_same n p (named x) h refl)
        by (Some (element i)) h = let b = next_beside c names clear number p t place l n i h in then_joined (behind (suc n)) (behind n) (behind n) b.joined b.class refl (same (behind n))

    linked_behind : (n : ℕ) → Linked c (behind n) (behind 0)
    linked_behind zero = same (behind 0)
    linked_behind (suc n) = linked_through c (behind (suc n)) (behind n) (behind 0) (linked_next n) (linked_behind n)

    to_first : Linked c (leaf_end number place p t) (behind 0)
    to_first = subst (λ q. Linked c (leaf_end number place q t) (behind 0)) (all_kept p) (linked_behind (length p))

  pub linked_elements : (e f : End) → IsLeafOf c e → IsLeafOf c f → DifferInElements e f → Linked c e f
  linked_elements e f l m d =
      let one = leaf_end d.number e.place d.path e.ground_type in
      let other = leaf_end d.number f.place d.other f.ground_type in
      let first = leaf_end d.number e.place (map any_element d.path) e.ground_type in
      let one_is : e ≡ one = ap (λ (i : ResetItem). record e { item = i }) d.one_is in
      let other_is : f ≡ other = ap (λ (i : ResetItem). record f { item = i }) d.other_is in
      let first_is : leaf_end d.number f.place (map any_element d.other) f.ground_type ≡ first =
      ap (λ q. leaf_end d.number f.place q f.ground_type) (sym d.same) ∙ ap (λ q. leaf_end d.number q (map any_element d.path) f.ground_type) (sym d.place)
      ∙ ap (λ u. leaf_end d.number e.place (map any_element d.path) u) (sym d.ground_type) in
      let from_one = to_first d.number d.path e.ground_type e.place (subst (IsLeafOf c) one_is l) in
      let from_other = to_first d.number d.other f.ground_type f.place (subst (IsLeafOf c) other_is m) in
      subst (λ x. Linked c x f) (sym one_is)
      (linked_through c one first f from_one
      (linked_back c f first (subst (λ x. Linked c x first) (sym other_is) (subst (Linked c other) first_is from_other))))
