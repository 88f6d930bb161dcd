-- Where no bundle has two fields of one name, the part of a type at the path of a leaf is the leaf's own type.
use Rattle.std.proofs.Common.{◌≡◌, ℕ, zero, suc, ◌+◌, List, [], ◌∷◌, ◌++◌, Bool, false, map, slice_get, refl, inl, inr, Some}
use Rattle.fir_base.specs.Lists.{In}
use Rattle.fir_ast.specs.declared.place.Place.{Place}
use Rattle.fir_ast.specs.Types.{DataType, bundle, vector, Fields, no_fields, field}
use Rattle.fir_meaning.specs.LeafPaths.{LeafPath, Step, named, element}
use Rattle.fir_meaning.specs.TypeLeaves.{TypeLeaf, under, element_leaves, type_leaves, field_leaves}
use Rattle.fir_base.proofs.SameNames.{name_same, name_other}
use Rattle.fir_meaning.proofs.FreshFields.{field_names, HasFreshFields, AreFresh}
use Rattle.fir_meaning.specs.TypeParts.{ground_at}

-- what holds of each leaf of a list
abbrev Each : (TypeLeaf → Type 0) → List TypeLeaf → Type 0
Each P [] = Unit {0}
Each P (l ∷ ls) = P l × Each P ls

each_at : (P : TypeLeaf → Type 0) (ls : List TypeLeaf) → Each P ls → (k : ℕ) (l : TypeLeaf) → slice_get ls k ≡ Some l → P l
each_at P [] h k l e = absurd (cc)
each_at P (x ∷ ls) h zero l e = let same : x ≡ l = cc in rw same at h.0
each_at P (x ∷ ls) h (suc k) l e = each_at P ls h.1 k l e

each_joined : (P : TypeLeaf → Type 0) (ls ks : List TypeLeaf) → Each P ls → Each P ks → Each P (ls ++ ks)
each_joined P [] ks h k = k
each_joined P (l ∷ ls) ks h k = (h.0, each_joined P ls ks h.1 k)

each_under : (P Q : TypeLeaf → Type 0) (f : Bool) (s : Step) (ls : List TypeLeaf) → ((l : TypeLeaf) → P l → Q (under f s l)) → Each P ls
    → Each Q (map (under f s) ls)
each_under P Q f s [] to h = tt
each_under P Q f s (l ∷ ls) to h = (to l h.0, each_under P Q f s ls to h.1)

each_else : (P Q : TypeLeaf → Type 0) (ls : List TypeLeaf) → ((l : TypeLeaf) → P l → Q l) → Each P ls → Each Q ls
each_else P Q [] to h = tt
each_else P Q (l ∷ ls) to h = (to l h.0, each_else P Q ls to h.1)

each_of_elements : (P Q : TypeLeaf → Type 0) (i n : ℕ) (ls : List TypeLeaf) → ((j : ℕ) (l : TypeLeaf) → P l → Q (under false (element j) l)) → Each P ls
    → Each Q (element_leaves i n ls)
each_of_elements P Q i zero ls to h = tt
each_of_elements P Q i (suc n) ls to h =
    each_joined Q (map (under false (element i)) ls) (element_leaves (i + 1) n ls) (each_under P Q false (element i) ls (to i) h)
    (each_of_elements P Q (i + 1) n ls to h)

-- the part at the leaf's path is of its type
abbrev IsAt : DataType → TypeLeaf → Type 0
IsAt t l = ground_at t l.path ≡ l.ground_type

-- a path that begins with a field, and leads to the leaf's type there
abbrev BeginsIn : List (List ℕ) → DataType → DataType → LeafPath → Type 0
BeginsIn names t g (named x ∷ path) = In names x × (ground_at t (named x ∷ path) ≡ g)
BeginsIn names t g _ = ⊥

abbrev IsIn : Fields → TypeLeaf → Type 0
IsIn fs l = BeginsIn (field_names fs) (bundle fs) l.ground_type l.path

begins_later : (q b : Place) (f : Bool) (x : List ℕ) (t : DataType) (rest : Fields) (g : DataType) (path : LeafPath) → (In (field_names rest) x → ⊥)
    → BeginsIn (field_names rest) (bundle rest) g path → BeginsIn (x ∷ field_names rest) (bundle (field q f x b t rest)) g path
begins_later q b f x t rest g [] new h = absurd h
begins_later q b f x t rest g (element i ∷ path) new h = absurd h
begins_later q b f x t rest g (named y ∷ path) new h = (inr h.0, rw (name_other x y (λ s. new (rw s h.0))) h.1)

is_at_of_in : (fs : Fields) (g : DataType) (path : LeafPath) → BeginsIn (field_names fs) (bundle fs) g path → ground_at (bundle fs) path ≡ g
is_at_of_in fs g [] h = absurd h
is_at_of_in fs g (element i ∷ path) h = absurd h
is_at_of_in fs g (named y ∷ path) h = h.1

mutual
  each_ground : (t : DataType) → HasFreshFields t → Each (IsAt t) (type_leaves t)
  each_ground (bundle fs) h = each_else (IsIn fs) (IsAt (bundle fs)) (field_leaves fs) (λ l i. is_at_of_in fs l.ground_type l.path i) (each_in fs h)
  each_ground (vector t n) h = each_of_elements (IsAt t) (IsAt (vector t n)) 0 n (type_leaves t) (λ j l e. e) (each_ground t h)
  each_ground t h = (refl, tt)

  each_in : (fs : Fields) → AreFresh fs → Each (IsIn fs) (field_leaves fs)
  each_in no_fields h = tt
  each_in (field q f x b t rest) h =
      let fs = field q f x b t rest in
      each_joined (IsIn fs) (map (under f (named x)) (type_leaves t)) (field_leaves rest)
      (each_under (IsAt t) (IsIn fs) f (named x) (type_leaves t) (λ l e. (inl refl, rw (name_same x) e)) (each_ground t h.1))
      (each_else (IsIn rest) (IsIn fs) (field_leaves rest) (λ l i. begins_later q b f x t rest l.ground_type l.path h.0 i) (each_in rest h.2))

pub ground_of_leaf : (t : DataType) → HasFreshFields t → (k : ℕ) (l : TypeLeaf) → slice_get (type_leaves t) k ≡ Some l → ground_at t l.path ≡ l.ground_type
ground_of_leaf t h k l e = each_at (IsAt t) (type_leaves t) (each_ground t h) k l e
