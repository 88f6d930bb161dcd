-- Where the numbers of elements in a leaf's path are lowered, a leaf of the same declaration is there.
use Rattle.std.proofs.Common.{◌≡◌, ℕ, ◌<◌, ◌≤◌, List, [], ◌∷◌, Bool, false, map, refl, inl, inr, ⊎_elim, ap, sym, ◌∙◌, subst, arith}
use Rattle.fir_base.specs.Lists.{In}
use Rattle.fir_base.proofs.Members.{in_left, in_right, in_either, in_map, in_map_from}
use Rattle.fir_ast.specs.declared.place.Place.{Place}
use Rattle.fir_ast.specs.Types.{DataType, bundle, vector, Fields, no_fields, field}
use Rattle.fir_ast.specs.Circuits.{CircuitTree}
use Rattle.fir_meaning.specs.LeafPaths.{LeafPath, named, element}
use Rattle.fir_meaning.specs.TypeLeaves.{TypeLeaf, under, type_leaves, field_leaves}
use Rattle.fir_meaning.specs.ResetItems.{leaf_item, leaf_end}
use Rattle.fir_meaning.specs.ResetWalks.{IsLeafOf}
use Rattle.fir_reset.specs.working.DeclaredLeaves.{Declares, IsNoInstance}
use Rattle.fir_reset.proofs.LeafOffsets.{element_leaf}
use Rattle.fir_reset.proofs.ReferencePaths.{in_vector}

-- the second path is the first, but that numbers of elements may be lower
abbrev pub IsLowered : LeafPath → LeafPath → Type 0
IsLowered [] [] = Unit {0}
IsLowered (named x ∷ p) (named y ∷ q) = (x ≡ y) × IsLowered p q
IsLowered (element i ∷ p) (element j ∷ q) = (j ≤ i) × IsLowered p q
IsLowered _ _ = ⊥

abbrev at_path : TypeLeaf → LeafPath → TypeLeaf
at_path l p = record { path = p; flip = l.flip; ground_type = l.ground_type }

-- a leaf behind a step, where it can be lowered without the step
module _ (ls : List TypeLeaf) (inner l : TypeLeaf) (inside : (r : LeafPath) → IsLowered inner.path r → In ls (at_path inner r)) where
  lowered_field : (f : Bool) (x : List ℕ) (q : LeafPath) → under f (named x) inner ≡ l → IsLowered l.path q → In (map (under f (named x)) ls) (at_path l q)
  lowered_field f x q e h = by q (subst (λ (y : TypeLeaf). IsLowered y.path q) (sym e) h)
    where
      by : (q : LeafPath) → IsLowered (named x ∷ inner.path) q → In (map (under f (named x)) ls) (at_path l q)
      by [] k = absurd k
      by (element j ∷ r) k = absurd k
      by (named y ∷ r) k =
          subst (λ z. In (map (under f (named x)) ls) (at_path l (named z ∷ r))) k.0
          (subst (λ (y : TypeLeaf). In (map (under f (named x)) ls) (at_path y (named x ∷ r))) e (in_map (under f (named x)) ls (at_path inner r) (inside r k.1)))

lowered_element : (t : DataType) (n i : ℕ) (inner l : TypeLeaf) → ((r : LeafPath) → IsLowered inner.path r → In (type_leaves t) (at_path inner r)) → i < n → (q : LeafPath)
    → under false (element i) inner ≡ l → IsLowered l.path q → In (type_leaves (vector t n)) (at_path l q)
lowered_element t n i inner l inside within q e h = by q (subst (λ (y : TypeLeaf). IsLowered y.path q) (sym e) h)
  where
    by : (q : LeafPath) → IsLowered (element i ∷ inner.path) q → In (type_leaves (vector t n)) (at_path l q)
    by [] k = absurd k
    by (named y ∷ r) k = absurd k
    by (element j ∷ r) k =
        subst (λ (y : TypeLeaf). In (type_leaves (vector t n)) (at_path y (element j ∷ r))) e
        (in_vector (vector t n) t n j (at_path inner r) refl (omega (arith, k.0, within)) (inside r k.1))

mutual
  lowered_leaf : (t : DataType) (l : TypeLeaf) (q : LeafPath) → In (type_leaves t) l → IsLowered l.path q → In (type_leaves t) (at_path l q)
  lowered_leaf (bundle fs) l q m h = lowered_leaf_of_fields fs l q m h
  lowered_leaf (vector t n) l q m h =
      let from = element_leaf 0 n (type_leaves t) l m in
      lowered_element t n from.index from.inner l (λ r k. lowered_leaf t from.inner r from.is_leaf k) (omega (arith, from.within)) q from.is h
  lowered_leaf t l [] (inl e) h = inl (ap (λ (y : TypeLeaf). at_path y []) e)
  lowered_leaf t l (s ∷ q) (inl e) h = absurd (subst (λ (y : TypeLeaf). IsLowered y.path (s ∷ q)) (sym e) h)
  lowered_leaf t l q (inr f) h = absurd f

  lowered_leaf_of_fields : (fs : Fields) (l : TypeLeaf) (q : LeafPath) → In (field_leaves fs) l → IsLowered l.path q → In (field_leaves fs) (at_path l q)
  lowered_leaf_of_fields no_fields l q m h = absurd m
  lowered_leaf_of_fields (field p f x b t rest) l q m h =
      ⊎_elim
      (λ (k : In (map (under f (named x)) (type_leaves t)) l).
      let from = in_map_from (under f (named x)) (type_leaves t) l k in
      in_left (map (under f (named x)) (type_leaves t)) (field_leaves rest) (at_path l q)
      (lowered_field (type_leaves t) from.0 l (λ r i. lowered_leaf t from.0 r from.1 i) f x q from.2 h))
      (λ (k : In (field_leaves rest) l).
      in_right (map (under f (named x)) (type_leaves t)) (field_leaves rest) (at_path l q) (lowered_leaf_of_fields rest l q k h))
      (in_either (map (under f (named x)) (type_leaves t)) (field_leaves rest) l m)

-- of a circuit
pub lowered : (c : CircuitTree) (number : ℕ) (p q : LeafPath) (t : DataType) (place : Place) → IsLowered p q → IsLeafOf c (leaf_end number place p t) → IsLeafOf c (leaf_end number place q t)
lowered c number p q t place h l = by q (subst (λ y. IsLowered y q) path h)
  where
    item : leaf_item number p ≡ leaf_item l.number (named l.declared.name ∷ l.leaf.path)
    item = l.item

    path : p ≡ named l.declared.name ∷ l.leaf.path
    path = cc

    at : number ≡ l.number
    at = cc

    by : (q : LeafPath) → IsLowered (named l.declared.name ∷ l.leaf.path) q → IsLeafOf c (leaf_end number place q t)
    by [] k = absurd k
    by (element j ∷ r) k = absurd k
    by (named x ∷ r) k = record {
      number = l.number;
      inside = l.inside;
      is_module = l.is_module;
      declared = l.declared;
      is_declared = l.is_declared;
      data_type = l.data_type;
      has_type = l.has_type;
      leaf = at_path l.leaf r;
      is_leaf = lowered_leaf l.data_type l.leaf r l.is_leaf k.1;
      item = ap (λ n. leaf_item n (named x ∷ r)) at ∙ ap (λ y. leaf_item l.number (named y ∷ r)) (sym k.0);
      ground_type = l.ground_type;
      place = l.place;
    }

pub no_instance_lowered : (c : CircuitTree) (number : ℕ) (p q : LeafPath) → IsLowered p q → IsNoInstance c number p → IsNoInstance c number q
no_instance_lowered c number p q h own d name is = own d name (by p (subst (IsLowered p) is.path_is h))
  where
    by : (p : LeafPath) → IsLowered p (named is.name ∷ is.rest) → Declares c number p d
    by [] k = absurd k
    by (element i ∷ r) k = absurd k
    by (named x ∷ r) k = record {
      inside = is.inside;
      is_module = is.is_module;
      name = is.name;
      rest = r;
      path_is = ap (λ y. named y ∷ r) k.0;
      found = is.found;
    }
