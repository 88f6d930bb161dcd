-- The left leaves of the pairs of a partial connect, by their fields and elements.
use Rattle.std.proofs.Common.{◌≡◌, ℕ, zero, suc, ◌+◌, List, [], ◌∷◌, ◌++◌, Bool, false, cond, map, refl, ap, ◌∙◌}
use Rattle.std.specs.Prelude.{Option, Some, None}
use Rattle.std.proofs.lemmas.List.{map-append}
use Rattle.fir_ast.specs.Types.{DataType, bundle, Fields, no_fields, field}
use Rattle.fir_meaning.specs.LeafPaths.{Step, named, element}
use Rattle.fir_meaning.specs.TypeLeaves.{TypeLeaf, under, element_leaves}
use Rattle.fir_meaning.specs.TypeKinds.{FieldFound, field_named}
use Rattle.fir_meaning.specs.ConnectPairs.{Pair, both_under, element_pairs, partial_pairs, partial_field_pairs}
use Rattle.fir_meaning.specs.Equivalence.{met}
use Rattle.fir_type_table.specs.working.Wanted.{is_wanted, first_wanted, first_wanted_pair}
use Rattle.fir_type_table.specs.working.Lefts.{left_leaves, left_leaves_under, left_field_leaves}

abbrev lefts : List Pair → List TypeLeaf
lefts = map (λ (p : Pair). p.left)

lefts_under : (flip : Bool) (s : Step) (ps : List Pair) → lefts (map (both_under flip s) ps) ≡ map (under flip s) (lefts ps)
lefts_under flip s [] = refl
lefts_under flip s (p ∷ ps) = ap (λ ls. under flip s p.left ∷ ls) (lefts_under flip s ps)

pub lefts_of_elements : (i n : ℕ) (ps : List Pair) → lefts (element_pairs i n ps) ≡ element_leaves i n (lefts ps)
lefts_of_elements i zero ps = refl
lefts_of_elements i (suc n) ps =
    map-append (λ (p : Pair). p.left) (map (both_under false (element i)) ps) (element_pairs (i + 1) n ps)
    ∙ ap (λ l. l ++ lefts (element_pairs (i + 1) n ps)) (lefts_under false (element i) ps)
    ∙ ap (λ l. map (under false (element i)) (lefts ps) ++ l) (lefts_of_elements (i + 1) n ps)

lefts_of_field : (flip : Bool) (x : List ℕ) (t : DataType) (o : Option FieldFound)
    → lefts (met [] (λ g. map (both_under flip (named x)) (partial_pairs t g.data_type)) o)
    ≡ met [] (λ g. map (under flip (named x)) (left_leaves t g.data_type)) o
lefts_of_field flip x t None = refl
lefts_of_field flip x t (Some g) = lefts_under flip (named x) (partial_pairs t g.data_type)

pub lefts_of_fields : (fs gs : Fields) → lefts (partial_field_pairs fs gs) ≡ left_field_leaves fs (bundle gs)
lefts_of_fields no_fields gs = refl
lefts_of_fields (field p flip x begins t rest) gs =
    let here : List Pair = met [] (λ g. map (both_under flip (named x)) (partial_pairs t g.data_type)) (field_named x gs) in
    map-append (λ (q : Pair). q.left) here (partial_field_pairs rest gs)
    ∙ ap (λ l. l ++ lefts (partial_field_pairs rest gs)) (lefts_of_field flip x t (field_named x gs))
    ∙ ap (λ l. left_leaves_under flip x t (bundle gs) ++ l) (lefts_of_fields rest gs)

pub wanted_of_lefts : (straight flipped : Bool) (ps : List Pair) → first_wanted_pair straight flipped ps ≡ first_wanted straight flipped (lefts ps)
wanted_of_lefts straight flipped [] = refl
wanted_of_lefts straight flipped (p ∷ ps) = ap (cond (is_wanted straight flipped p.left) (Some p.left.path)) (wanted_of_lefts straight flipped ps)
