-- The paths to which parts lead from each of some paths: one part further, and then on.
use Rattle.std.proofs.Common.{◌≡◌, ℕ, zero, suc, List, [], ◌∷◌, ◌++◌, map, Some, refl, sym, ap, ap₂, append_assoc, flat_map}
use Rattle.std.proofs.lemmas.Grind.{flat_map-append}
use Rattle.std.proofs.lemmas.List.Folds.{flat_map-map}
use Rattle.fir_ast.specs.declared.place.Place.{Place}
use Rattle.fir_ast.specs.Types.{DataType}
use Rattle.fir_ast.specs.Expressions.{Expression, Parts, no_parts, subfield, subindex, subaccess}
use Rattle.fir_meaning.specs.LeafPaths.{LeafPath, Step, named, element}
use Rattle.fir_meaning.specs.Reaching.{field_of_type, vector_of_type}
use Rattle.fir_meaning.specs.ResetItems.{of_elements, paths_along}
use Rattle.fir_meaning.specs.TypeKinds.{FieldFound}

abbrev pub all_along : List LeafPath → DataType → Parts → List LeafPath
all_along paths t ps = flat_map (λ path. paths_along path t ps) paths

-- each path one step further
abbrev pub stepped : Step → List LeafPath → List LeafPath
stepped s paths = map (λ (path : LeafPath). path ++ s ∷ []) paths

-- so many elements of a path, from a number on
abbrev pub elements_of : LeafPath → ℕ → ℕ → List LeafPath
elements_of path i n = of_elements i n (λ j. (path ++ element j ∷ []) ∷ [])

-- each element of each path
abbrev pub spread : ℕ → List LeafPath → List LeafPath
spread n paths = flat_map (λ path. elements_of path 0 n) paths

pub along_none : (paths : List LeafPath) (t : DataType) → all_along paths t no_parts ≡ paths
along_none [] t = refl
along_none (path ∷ paths) t = ap (λ rest. path ∷ rest) (along_none paths t)

pub along_field : (paths : List LeafPath) (t : DataType) (first q : Place) (x : List ℕ) (rest : Parts) (f : FieldFound) → field_of_type x t ≡ Some f
    → all_along paths t (subfield first q x rest) ≡ all_along (stepped (named x) paths) f.data_type rest
along_field paths t first q x rest f h =
    rw h (sym (flat_map-map (λ path. paths_along path f.data_type rest) (λ (path : LeafPath). path ++ named x ∷ []) paths))

pub along_element : (paths : List LeafPath) (t : DataType) (first q : Place) (i : ℕ) (rest : Parts) (u : DataType) (n : ℕ) → vector_of_type t ≡ Some (u, n)
    → all_along paths t (subindex first q i rest) ≡ all_along (stepped (element i) paths) u rest
along_element paths t first q i rest u n h =
    rw h (sym (flat_map-map (λ path. paths_along path u rest) (λ (path : LeafPath). path ++ element i ∷ []) paths))

elements_along : (f : LeafPath → List LeafPath) (path : LeafPath) (i n : ℕ)
    → of_elements i n (λ j. f (path ++ element j ∷ [])) ≡ flat_map f (elements_of path i n)
elements_along f path i zero = refl
elements_along f path i (suc n) = ap (λ rest. f (path ++ element i ∷ []) ++ rest) (elements_along f path (suc i) n)

spread_along : (f : LeafPath → List LeafPath) (n : ℕ) (paths : List LeafPath)
    → flat_map (λ path. of_elements 0 n (λ j. f (path ++ element j ∷ []))) paths ≡ flat_map f (spread n paths)
spread_along f n [] = refl
spread_along f n (path ∷ paths) =
    rw (elements_along f path 0 n, spread_along f n paths) (sym (flat_map-append f (elements_of path 0 n) (spread n paths)))

pub along_access : (paths : List LeafPath) (t : DataType) (first : Place) (e : Expression) (rest : Parts) (u : DataType) (n : ℕ)
    → vector_of_type t ≡ Some (u, n) → all_along paths t (subaccess first e rest) ≡ all_along (spread n paths) u rest
along_access paths t first e rest u n h = rw h (spread_along (λ path. paths_along path u rest) n paths)

pub none_spread : (paths : List LeafPath) → spread 0 paths ≡ []
none_spread [] = refl
none_spread (path ∷ paths) = none_spread paths

-- a step and what stands behind it
pub stepped_on : (s : Step) (q : LeafPath) (paths : List LeafPath)
    → map (λ (path : LeafPath). path ++ s ∷ q) paths ≡ map (λ (path : LeafPath). path ++ q) (stepped s paths)
stepped_on s q [] = refl
stepped_on s q (path ∷ paths) =
    ap₂ (λ (one : LeafPath) (rest : List LeafPath). one ∷ rest) (sym (append_assoc path (s ∷ []) q)) (stepped_on s q paths)
