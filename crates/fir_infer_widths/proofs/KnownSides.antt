-- What a name stands for: its leaves stand from the first number of its declaration on.
use Rattle.std.proofs.Common.{◌≡◌, ℕ, List, [], ◌∷◌, Bool, true, false, if◌then◌else◌, Option, Some, None, refl, sym, ap, ◌∙◌}
use Rattle.std.specs.Prelude.{option_map, slice_get}
use Rattle.std.specs.Str.{bytes_eq}
use Rattle.fir_ast.specs.Types.{DataType}
use Rattle.fir_meaning.specs.LeafPaths.{named}
use Rattle.fir_meaning.specs.Reaching.{Reached, known_reached}
use Rattle.fir_meaning.specs.TypeKinds.{bare}
use Rattle.fir_meaning.specs.TypedScopes.{Known, TypedScope, known}
use Rattle.fir_meaning.specs.WidthExpressions.{Width}
use Rattle.fir_meaning.specs.SizedTypes.{bare_type}
use Rattle.fir_meaning.specs.SizedScopes.{SizedName, SizedScope, sized_in}
use Rattle.fir_types.specs.working.Notes.{known_range, position_of, root_range, whole_range}
use Rattle.fir_width.specs.working.FlatWidths.{flat}
use Rattle.fir_width.specs.working.StandingWidths.{Stands}
use Rattle.fir_infer_widths.specs.working.Scenes.{AllStand, StandsFor}

pub record NameStands (meant : List Width) (firsts : List ℕ) (typed : TypedScope) (sized : SizedScope) (n : List ℕ) (t : DataType) : Type 0 where
  pub first : ℕ
  pub position : slice_get firsts (position_of typed n) ≡ Some first
  pub shape : bare_type (sized_in sized n) ≡ bare t
  pub stands : Stands meant first (flat (sized_in sized n))

-- the first of the name, or one behind it
here_stands : (meant : List Width) (first : ℕ) (firsts : List ℕ) (x : Known) (ks : TypedScope) (y : SizedName) (ss : SizedScope) (n : List ℕ) (t : DataType)
    → StandsFor meant first x y → bytes_eq x.name n ≡ true → x.data_type ≡ Some t → NameStands meant (first ∷ firsts) (x ∷ ks) (y ∷ ss) n t
here_stands meant first firsts x ks y ss n t for is typed =
    let same : bytes_eq y.name n ≡ true = ap (λ (m : List ℕ). bytes_eq m n) (sym for.name) ∙ is in
    record { first = first; position = rw is refl; shape = rw same (for.shape t typed); stands = rw same (for.stands t typed) }

behind_stands : (meant : List Width) (first : ℕ) (firsts : List ℕ) (x : Known) (ks : TypedScope) (y : SizedName) (ss : SizedScope) (n : List ℕ) (t : DataType)
    → StandsFor meant first x y → bytes_eq x.name n ≡ false → NameStands meant firsts ks ss n t → NameStands meant (first ∷ firsts) (x ∷ ks) (y ∷ ss) n t
behind_stands meant first firsts x ks y ss n t for is later =
    let same : bytes_eq y.name n ≡ false = ap (λ (m : List ℕ). bytes_eq m n) (sym for.name) ∙ is in
    record { first = later.first; position = rw is later.position; shape = rw same later.shape; stands = rw same later.stands }

pub name_stands : (meant : List Width) (firsts : List ℕ) (typed : TypedScope) (sized : SizedScope) → AllStand meant firsts typed sized → (n : List ℕ) (k : Known) (t : DataType)
    → known typed n ≡ Some k → k.data_type ≡ Some t → NameStands meant firsts typed sized n t
name_stands meant [] [] [] h n k t e f = cc
name_stands meant (first ∷ firsts) [] [] h n k t e f = cc
name_stands meant (first ∷ firsts) (x ∷ ks) (y ∷ ss) h n k t e f = by (bytes_eq x.name n) refl (name_stands meant firsts ks ss h.1 n k t) e
  where
    by : (b : Bool) → bytes_eq x.name n ≡ b → (known ks n ≡ Some k → k.data_type ≡ Some t → NameStands meant firsts ks ss n t)
        → (if b then Some x else known ks n) ≡ Some k → NameStands meant (first ∷ firsts) (x ∷ ks) (y ∷ ss) n t
    by true g later i =
        let same : x ≡ k = cc in
        here_stands meant first firsts x ks y ss n t h.0 g (ap (λ (z : Known). z.data_type) same ∙ f)
    by false g later i = behind_stands meant first firsts x ks y ss n t h.0 g (later i f)
name_stands meant [] (x ∷ ks) [] h n k t e f = absurd h
name_stands meant [] (x ∷ ks) (y ∷ ss) h n k t e f = absurd h
name_stands meant [] [] (y ∷ ss) h n k t e f = absurd h
name_stands meant (first ∷ firsts) [] (y ∷ ss) h n k t e f = absurd h
name_stands meant (first ∷ firsts) (x ∷ ks) [] h n k t e f = absurd h

-- what a name begins with, and the range of its leaves
pub record RootStands (meant : List Width) (firsts : List ℕ) (typed : TypedScope) (sized : SizedScope) (n : List ℕ) (t : DataType) : Type 0 where
  pub name : NameStands meant firsts typed sized n t
  pub range : root_range typed n ≡ Some (whole_range (position_of typed n) t)

pub root_stands : (meant : List Width) (firsts : List ℕ) (typed : TypedScope) (sized : SizedScope) → AllStand meant firsts typed sized → (n : List ℕ) (r : Reached)
    → known_reached (known typed n) ≡ Some r → RootStands meant firsts typed sized n r.data_type
root_stands meant firsts typed sized h n r e = by (known typed n) refl e
  where
    typed_as : (k : Known) (o : Option DataType) → k.data_type ≡ o → known typed n ≡ Some k
        → option_map (λ t. record { data_type = t; flow = k.flow; path = Some (named k.name ∷ []) }) o ≡ Some r
        → RootStands meant firsts typed sized n r.data_type
    typed_as k None f g i = cc
    typed_as k (Some t) f g i =
        let same : t ≡ r.data_type = cc in
        let is : k.data_type ≡ Some r.data_type = f ∙ ap Some same in
        record {
          name = name_stands meant firsts typed sized h n k r.data_type g is;
          range = ap (known_range (position_of typed n)) g ∙ ap (λ o. option_map (whole_range (position_of typed n)) o) is;
        }

    by : (o : Option Known) → known typed n ≡ o → known_reached o ≡ Some r → RootStands meant firsts typed sized n r.data_type
    by None g i = cc
    by (Some k) g i = typed_as k k.data_type refl g i
