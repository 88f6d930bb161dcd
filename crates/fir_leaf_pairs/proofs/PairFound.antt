-- Pairs of types that are found, with or without their widths.
use Rattle.std.proofs.Common.{◌≡◌, ◌+◌, ◌<◌, ◌^◌, List, map, Bool, true, false, sym, ap, ◌∙◌, subst}
use Rattle.fir_ast.specs.Types.{DataType}
use Rattle.fir_type_table.specs.declared.kind.TypeId.{TypeId}
use Rattle.fir_type_table.specs.working.Tables.{type_at, shown}
use Rattle.fir_types.specs.declared.found.Found.{Found}
use Rattle.fir_types.specs.declared.found.Found.TheVariants as found
use Rattle.fir_types.specs.working.Seen.{found_type}
use Rattle.fir_types.proofs.BareTypes.{shown_leaf_count}
use Rattle.fir_types.proofs.BarePairs.{connectable_shown}
use Rattle.fir_leaf_pairs.specs.declared.pairs.LeafPair.{LeafPair as PairOfCode}
use Rattle.fir_leaf_pairs.specs.working.Pairing.{pairs_of, Joins, Meets, placed, PairsParts, PairsFound}
use Rattle.fir_leaf_pairs.proofs.PairPlaces.{placed_here, paired_as}
use Rattle.fir_leaf_pairs.proofs.PairShapes.{shown_pairs}

shown_joins : (partial a b : Bool) (s t : DataType) → Joins partial (shown a s) (shown b t) → Joins partial s t
shown_joins true a b s t h = tt
shown_joins false a b s t h = sym (connectable_shown a b s t) ∙ h

pub found_paired : (ts : List DataType) (partial a b : Bool) (left right : Found) (s t : TypeId) (old new : List PairOfCode)
    → left ≡ found.Type s a → right ≡ found.Type t b
    → PairsParts ts partial false (record { ty = s; first = 0 }) (record { ty = t; first = 0 }) old new → PairsFound ts partial left right old new
found_paired ts partial a b left right s t old new left_is right_is pairs = λ meets.
    let one : DataType = type_at ts s.number in
    let other : DataType = type_at ts t.number in
    let seen : Meets partial 0 0 (shown a one) (shown b other) =
    subst (λ x. Meets partial 0 0 x (shown b other)) (ap (found_type ts) left_is)
    (subst (λ y. Meets partial 0 0 (found_type ts left) y) (ap (found_type ts) right_is) meets) in
    let plain : Meets partial 0 0 one other = record {
      joins = shown_joins partial a b one other seen.joins;
      left = subst (λ n. 0 + n < 2 ^ 64) (shown_leaf_count a one) seen.left;
      right = subst (λ n. 0 + n < 2 ^ 64) (shown_leaf_count b other) seen.right;
    } in
    paired_as old new (map (placed false 0 0) (pairs_of partial one other)) (pairs_of partial (found_type ts left) (found_type ts right))
    (placed_here (pairs_of partial one other) ∙ sym (shown_pairs partial a b one other)
    ∙ ap (λ x. pairs_of partial x (shown b other)) (sym (ap (found_type ts) left_is))
    ∙ ap (pairs_of partial (found_type ts left)) (sym (ap (found_type ts) right_is)))
    (pairs plain)
