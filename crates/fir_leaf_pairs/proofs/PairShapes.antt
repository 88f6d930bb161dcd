-- Widths of types change none of their pairs.
use Rattle.std.proofs.Common.{◌≡◌, ℕ, min, [], ◌++◌, map, Bool, true, false, Option, Some, None, refl, ap, ◌∙◌}
use Rattle.std.specs.Prelude.{option_map}
use Rattle.fir_ast.specs.Types.{DataType, bundle, vector, Fields, no_fields, field}
use Rattle.fir_meaning.specs.TypeLeaves.{leaf_count}
use Rattle.fir_meaning.specs.TypeKinds.{bare, bare_fields, FieldFound, field_named}
use Rattle.fir_meaning.specs.Equivalence.{met}
use Rattle.fir_meaning.specs.working.LeafPairs.{past, turned_pair, element_leaf_pairs, leaf_pairs, field_leaf_pairs, partial_leaf_pairs, partial_field_leaf_pairs}
use Rattle.fir_meaning.specs.working.FieldSizes.{leaves_before_field}
use Rattle.fir_type_table.specs.working.Tables.{shown}
use Rattle.fir_types.proofs.BareTypes.{shown_field, bare_field_named, shown_leaf_count, shown_leaves_before}
use Rattle.fir_leaf_pairs.specs.working.Pairing.{pairs_of, named_pairs}

mutual
  bare_left : (s t : DataType) → leaf_pairs (bare s) t ≡ leaf_pairs s t
  bare_left (bundle fs) (bundle gs) = bare_fields_left fs gs
  bare_left (bundle fs) _ = refl
  bare_left (vector t n) (vector u m) =
      ap (λ k. element_leaf_pairs 0 n k (leaf_count u) (leaf_pairs (bare t) u)) (shown_leaf_count true t)
      ∙ ap (element_leaf_pairs 0 n (leaf_count t) (leaf_count u)) (bare_left t u)
  bare_left (vector t n) _ = refl
  bare_left _ (bundle gs) = refl
  bare_left _ (vector u m) = refl
  bare_left _ _ = refl

  bare_fields_left : (fs gs : Fields) → field_leaf_pairs (bare_fields fs) gs ≡ field_leaf_pairs fs gs
  bare_fields_left (field p f x b t fs) (field q g y c u gs) =
      ap (λ ps. map (turned_pair f) ps ++ map (past (leaf_count (bare t)) (leaf_count u)) (field_leaf_pairs (bare_fields fs) gs)) (bare_left t u)
      ∙ ap (λ k. map (turned_pair f) (leaf_pairs t u) ++ map (past k (leaf_count u)) (field_leaf_pairs (bare_fields fs) gs)) (shown_leaf_count true t)
      ∙ ap (λ ps. map (turned_pair f) (leaf_pairs t u) ++ map (past (leaf_count t) (leaf_count u)) ps) (bare_fields_left fs gs)
  bare_fields_left no_fields _ = refl
  bare_fields_left _ no_fields = refl

mutual
  bare_right : (s t : DataType) → leaf_pairs s (bare t) ≡ leaf_pairs s t
  bare_right (bundle fs) (bundle gs) = bare_fields_right fs gs
  bare_right (bundle fs) _ = refl
  bare_right (vector t n) (vector u m) =
      ap (λ k. element_leaf_pairs 0 n (leaf_count t) k (leaf_pairs t (bare u))) (shown_leaf_count true u)
      ∙ ap (element_leaf_pairs 0 n (leaf_count t) (leaf_count u)) (bare_right t u)
  bare_right (vector t n) _ = refl
  bare_right _ (bundle gs) = refl
  bare_right _ (vector u m) = refl
  bare_right _ _ = refl

  bare_fields_right : (fs gs : Fields) → field_leaf_pairs fs (bare_fields gs) ≡ field_leaf_pairs fs gs
  bare_fields_right (field p f x b t fs) (field q g y c u gs) =
      ap (λ ps. map (turned_pair f) ps ++ map (past (leaf_count t) (leaf_count (bare u))) (field_leaf_pairs fs (bare_fields gs))) (bare_right t u)
      ∙ ap (λ k. map (turned_pair f) (leaf_pairs t u) ++ map (past (leaf_count t) k) (field_leaf_pairs fs (bare_fields gs))) (shown_leaf_count true u)
      ∙ ap (λ ps. map (turned_pair f) (leaf_pairs t u) ++ map (past (leaf_count t) (leaf_count u)) ps) (bare_fields_right fs gs)
  bare_fields_right no_fields _ = refl
  bare_fields_right _ no_fields = refl

named_left : (f : Bool) (t : DataType) (b : ℕ) → ((u : DataType) → partial_leaf_pairs (bare t) u ≡ partial_leaf_pairs t u) → (o : Option FieldFound)
    → met [] (λ g. map (turned_pair f) (map (past 0 b) (partial_leaf_pairs (bare t) g.data_type))) o
    ≡ met [] (λ g. map (turned_pair f) (map (past 0 b) (partial_leaf_pairs t g.data_type))) o
named_left f t b same None = refl
named_left f t b same (Some g) = ap (λ ps. map (turned_pair f) (map (past 0 b) ps)) (same g.data_type)

mutual
  bare_partial_left : (s t : DataType) → partial_leaf_pairs (bare s) t ≡ partial_leaf_pairs s t
  bare_partial_left (bundle fs) (bundle gs) = bare_partial_fields_left fs gs
  bare_partial_left (bundle fs) _ = refl
  bare_partial_left (vector t n) (vector u m) =
      ap (λ k. element_leaf_pairs 0 (min n m) k (leaf_count u) (partial_leaf_pairs (bare t) u)) (shown_leaf_count true t)
      ∙ ap (element_leaf_pairs 0 (min n m) (leaf_count t) (leaf_count u)) (bare_partial_left t u)
  bare_partial_left (vector t n) _ = refl
  bare_partial_left _ (bundle gs) = refl
  bare_partial_left _ (vector u m) = refl
  bare_partial_left _ _ = refl

  bare_partial_fields_left : (fs gs : Fields) → partial_field_leaf_pairs (bare_fields fs) gs ≡ partial_field_leaf_pairs fs gs
  bare_partial_fields_left no_fields gs = refl
  bare_partial_fields_left (field p f x b t fs) gs =
      ap (λ ps. ps ++ map (past (leaf_count (bare t)) 0) (partial_field_leaf_pairs (bare_fields fs) gs))
      (named_left f t (leaves_before_field x gs) (λ u. bare_partial_left t u) (field_named x gs))
      ∙ ap (λ k. named_pairs f x t gs ++ map (past k 0) (partial_field_leaf_pairs (bare_fields fs) gs)) (shown_leaf_count true t)
      ∙ ap (λ ps. named_pairs f x t gs ++ map (past (leaf_count t) 0) ps) (bare_partial_fields_left fs gs)

named_right : (f : Bool) (t : DataType) (a b : ℕ) → a ≡ b → ((u : DataType) → partial_leaf_pairs t (bare u) ≡ partial_leaf_pairs t u) → (o : Option FieldFound)
    → met [] (λ g. map (turned_pair f) (map (past 0 a) (partial_leaf_pairs t g.data_type))) (option_map (shown_field true) o)
    ≡ met [] (λ g. map (turned_pair f) (map (past 0 b) (partial_leaf_pairs t g.data_type))) o
named_right f t a b e same None = refl
named_right f t a b e same (Some g) =
    ap (λ k. map (turned_pair f) (map (past 0 k) (partial_leaf_pairs t (bare g.data_type)))) e
    ∙ ap (λ ps. map (turned_pair f) (map (past 0 b) ps)) (same g.data_type)

mutual
  bare_partial_right : (s t : DataType) → partial_leaf_pairs s (bare t) ≡ partial_leaf_pairs s t
  bare_partial_right (bundle fs) (bundle gs) = bare_partial_fields_right fs gs
  bare_partial_right (bundle fs) _ = refl
  bare_partial_right (vector t n) (vector u m) =
      ap (λ k. element_leaf_pairs 0 (min n m) (leaf_count t) k (partial_leaf_pairs t (bare u))) (shown_leaf_count true u)
      ∙ ap (element_leaf_pairs 0 (min n m) (leaf_count t) (leaf_count u)) (bare_partial_right t u)
  bare_partial_right (vector t n) _ = refl
  bare_partial_right _ (bundle gs) = refl
  bare_partial_right _ (vector u m) = refl
  bare_partial_right _ _ = refl

  bare_partial_fields_right : (fs gs : Fields) → partial_field_leaf_pairs fs (bare_fields gs) ≡ partial_field_leaf_pairs fs gs
  bare_partial_fields_right no_fields gs = refl
  bare_partial_fields_right (field p f x b t fs) gs =
      ap (λ o. met [] (λ g. map (turned_pair f) (map (past 0 (leaves_before_field x (bare_fields gs))) (partial_leaf_pairs t g.data_type))) o
      ++ map (past (leaf_count t) 0) (partial_field_leaf_pairs fs (bare_fields gs))) (bare_field_named x gs)
      ∙ ap (λ ps. ps ++ map (past (leaf_count t) 0) (partial_field_leaf_pairs fs (bare_fields gs)))
      (named_right f t (leaves_before_field x (bare_fields gs)) (leaves_before_field x gs) (shown_leaves_before true x (bundle gs))
      (λ u. bare_partial_right t u) (field_named x gs))
      ∙ ap (λ ps. named_pairs f x t gs ++ map (past (leaf_count t) 0) ps) (bare_partial_fields_right fs gs)

shown_left : (partial is_bare : Bool) (s t : DataType) → pairs_of partial (shown is_bare s) t ≡ pairs_of partial s t
shown_left partial false s t = refl
shown_left true true s t = bare_partial_left s t
shown_left false true s t = bare_left s t

shown_right : (partial is_bare : Bool) (s t : DataType) → pairs_of partial s (shown is_bare t) ≡ pairs_of partial s t
shown_right partial false s t = refl
shown_right true true s t = bare_partial_right s t
shown_right false true s t = bare_right s t

pub shown_pairs : (partial a b : Bool) (s t : DataType) → pairs_of partial (shown a s) (shown b t) ≡ pairs_of partial s t
shown_pairs partial a b s t = shown_left partial a s (shown b t) ∙ shown_right partial b s t
