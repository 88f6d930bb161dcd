-- Leaves by their orientations and paths: those of a type without its widths are those of the type.
use Rattle.std.proofs.Common.{◌≡◌, ℕ, zero, suc, ◌+◌, List, [], ◌∷◌, ◌++◌, map, Bool, true, false, refl, sym, ap, ◌∙◌}
use Rattle.std.proofs.lemmas.List.{map-append}
use Rattle.fir_ast.specs.Types.{DataType, uint, sint, clock, reset, async_reset, bundle, vector, Fields, no_fields, field}
use Rattle.fir_meaning.specs.LeafPaths.{Step, named, element}
use Rattle.fir_meaning.specs.TypeLeaves.{turned, TypeLeaf, under, element_leaves, type_leaves, field_leaves}
use Rattle.fir_meaning.specs.TypeKinds.{bare, bare_fields}
use Rattle.fir_type_table.specs.working.Tables.{shown}
use Rattle.fir_types.specs.working.Spots.{Spot, spot_of}

abbrev pub spot_under : Bool → Step → Spot → Spot
spot_under f s k = (turned f k.0, s ∷ k.1)

abbrev pub element_spots : ℕ → ℕ → List Spot → List Spot
element_spots i zero ks = []
element_spots i (suc n) ks = map (spot_under false (element i)) ks ++ element_spots (i + 1) n ks

-- of leaves, or of pairs, each behind a step, and of so many elements
module _ {A : Type 0} (spot : A → Spot) (put : Bool → Step → A → A) (is : (f : Bool) (s : Step) (x : A) → spot (put f s x) ≡ spot_under f s (spot x))
    (many : ℕ → ℕ → List A → List A) (none : (i : ℕ) (xs : List A) → many i zero xs ≡ [])
    (more : (i n : ℕ) (xs : List A) → many i (suc n) xs ≡ map (put false (element i)) xs ++ many (i + 1) n xs) where
  spots_under : (f : Bool) (s : Step) (xs : List A) → map spot (map (put f s) xs) ≡ map (spot_under f s) (map spot xs)
  spots_under f s [] = refl
  spots_under f s (x ∷ xs) = rw (is f s x, spots_under f s xs) refl

  pub spots_joined : (f : Bool) (s : Step) (xs ys : List A) → map spot (map (put f s) xs ++ ys) ≡ map (spot_under f s) (map spot xs) ++ map spot ys
  spots_joined f s xs ys = map-append spot (map (put f s) xs) ys ∙ ap (λ ks. ks ++ map spot ys) (spots_under f s xs)

  pub spots_many : (i n : ℕ) (xs : List A) → map spot (many i n xs) ≡ element_spots i n (map spot xs)
  spots_many i zero xs = ap (map spot) (none i xs)
  spots_many i (suc n) xs =
      ap (map spot) (more i n xs) ∙ spots_joined false (element i) xs (many (i + 1) n xs)
      ∙ ap (λ ks. map (spot_under false (element i)) (map spot xs) ++ ks) (spots_many (i + 1) n xs)

leaves_joined : (f : Bool) (s : Step) (ls ks : List TypeLeaf)
    → map spot_of (map (under f s) ls ++ ks) ≡ map (spot_under f s) (map spot_of ls) ++ map spot_of ks
leaves_joined = spots_joined spot_of under (λ f s l. refl) element_leaves (λ i ls. refl) (λ i n ls. refl)

leaves_many : (i n : ℕ) (ls : List TypeLeaf) → map spot_of (element_leaves i n ls) ≡ element_spots i n (map spot_of ls)
leaves_many = spots_many spot_of under (λ f s l. refl) element_leaves (λ i ls. refl) (λ i n ls. refl)

-- leaves of a type without its widths
mutual
  bare_leaves : (t : DataType) → map spot_of (type_leaves (bare t)) ≡ map spot_of (type_leaves t)
  bare_leaves (bundle fs) = bare_field_leaves fs
  bare_leaves (vector t n) = leaves_many 0 n (type_leaves (bare t)) ∙ ap (element_spots 0 n) (bare_leaves t) ∙ sym (leaves_many 0 n (type_leaves t))
  bare_leaves (uint w) = refl
  bare_leaves (sint w) = refl
  bare_leaves clock = refl
  bare_leaves reset = refl
  bare_leaves async_reset = refl

  bare_field_leaves : (fs : Fields) → map spot_of (field_leaves (bare_fields fs)) ≡ map spot_of (field_leaves fs)
  bare_field_leaves no_fields = refl
  bare_field_leaves (field p f x b t fs) =
      leaves_joined f (named x) (type_leaves (bare t)) (field_leaves (bare_fields fs))
      ∙ ap (λ ks. map (spot_under f (named x)) ks ++ map spot_of (field_leaves (bare_fields fs))) (bare_leaves t)
      ∙ ap (λ ks. map (spot_under f (named x)) (map spot_of (type_leaves t)) ++ ks) (bare_field_leaves fs)
      ∙ sym (leaves_joined f (named x) (type_leaves t) (field_leaves fs))

pub shown_leaves : (is_bare : Bool) (t : DataType) → map spot_of (type_leaves (shown is_bare t)) ≡ map spot_of (type_leaves t)
shown_leaves true t = bare_leaves t
shown_leaves false t = refl
