-- What is reached below a declaration: the steps to it, and how many leaves of the declaration stand before its own.
use Rattle.std.proofs.Common.{◌≡◌, ℕ, ◌+◌, ◌<◌, List, [], ◌∷◌, ◌++◌, Some, false, refl, sym, ap, ◌∙◌, subst, inl, append_assoc}
use Rattle.std.specs.Prelude.{option_map}
use Rattle.fir_base.specs.Lists.{In}
use Rattle.fir_ast.specs.declared.place.Place.{Place}
use Rattle.fir_ast.specs.Types.{DataType}
use Rattle.fir_ast.specs.Expressions.{no_parts, subfield}
use Rattle.fir_meaning.specs.Flows.{Flow}
use Rattle.fir_meaning.specs.LeafPaths.{LeafPath, Step, element, named}
use Rattle.fir_meaning.specs.Reaching.{Reached, at_field, field_of_type, further, vector_of_type}
use Rattle.fir_meaning.specs.TypeKinds.{FieldFound}
use Rattle.fir_meaning.specs.TypeLeaves.{TypeLeaf, type_leaves, under}
use Rattle.fir_meaning.specs.working.FieldSizes.{shared_before}
use Rattle.fir_reset.specs.working.LeafClasses.{behind_so_many, offset_in}
use Rattle.fir_reset.proofs.ReferencePaths.{in_vector, leaf_behind}
use Rattle.fir_leaf_table.proofs.FieldOffsets.{element_offset, field_offset, more_before, none_before}

-- a leaf of a type
pub record LeafAt (t : DataType) (path : LeafPath) (ground_type : DataType) : Type 0 where
  pub leaf : TypeLeaf
  pub among : In (type_leaves t) leaf
  pub path_is : leaf.path ≡ path
  pub ground_is : leaf.ground_type ≡ ground_type

-- what is reached below a declaration of the type, with so many leaves before its own
pub record IsBelow (t : DataType) (n : List ℕ) (before : ℕ) (r : Reached) : Type 0 where
  pub steps : LeafPath
  pub path_is : r.path ≡ Some (named n ∷ steps)
  pub offset : (rest : LeafPath) → offset_in t (steps ++ rest) ≡ behind_so_many before (offset_in r.data_type rest)
  pub leaves : (l : TypeLeaf) → In (type_leaves r.data_type) l → LeafAt t (steps ++ l.path) l.ground_type

abbrev pub whole : DataType → List ℕ → Flow → Reached
whole t n flow = record { data_type = t; flow = flow; path = Some (named n ∷ []) }

pub whole_below : (t : DataType) (n : List ℕ) (flow : Flow) → IsBelow t n 0 (whole t n flow)
whole_below t n flow = record {
  steps = [];
  path_is = refl;
  offset = λ rest. none_before (offset_in t rest);
  leaves = λ l m. record { leaf = l; among = m; path_is = refl; ground_is = refl };
}

module _ (t : DataType) (n : List ℕ) (before : ℕ) (b : Reached) (h : IsBelow t n before b) where
  -- a leaf one step further
  further_leaf : (s : Step) (path : LeafPath) (ground_type : DataType) → LeafAt b.data_type (s ∷ path) ground_type
      → LeafAt t ((h.steps ++ s ∷ []) ++ path) ground_type
  further_leaf s path ground_type inner =
      let outer = h.leaves inner.leaf inner.among in
      record {
        leaf = outer.leaf;
        among = outer.among;
        path_is = outer.path_is ∙ ap (λ q. h.steps ++ q) inner.path_is ∙ sym (append_assoc h.steps (s ∷ []) path);
        ground_is = outer.ground_is ∙ inner.ground_is;
      }

  further_path : (s : Step) → further b (s ∷ []) ≡ Some (named n ∷ (h.steps ++ s ∷ []))
  further_path s = ap (option_map (λ path. path ++ s ∷ [])) h.path_is

  pub field_below : (x : List ℕ) (f : FieldFound) → field_of_type x b.data_type ≡ Some f
      → IsBelow t n (before + shared_before x b.data_type) (at_field x b f)
  field_below x f e = record {
    steps = h.steps ++ named x ∷ [];
    path_is = further_path (named x);
    offset = λ rest.
        ap (offset_in t) (append_assoc h.steps (named x ∷ []) rest) ∙ h.offset (named x ∷ rest)
        ∙ ap (behind_so_many before) (field_offset b.data_type x f rest e)
        ∙ more_before before (shared_before x b.data_type) (offset_in f.data_type rest);
    leaves = λ l m. further_leaf (named x) l.path l.ground_type (inside l m);
  }
    where
      nowhere : Place
      nowhere = record { line = 0; col = 0 }

      inside : (l : TypeLeaf) → In (type_leaves f.data_type) l → LeafAt b.data_type (named x ∷ l.path) l.ground_type
      inside l m =
          let i = leaf_behind [] b (at_field x b f) (subfield nowhere nowhere x no_parts) (f, e, refl) [] (named x ∷ []) (inl refl) l m in
          record { leaf = i.leaf; among = i.among; path_is = sym i.path_is; ground_is = i.ground_type }

  pub element_below : (i : ℕ) (u : DataType) (count : ℕ) (r : Reached) → vector_of_type b.data_type ≡ Some (u, count) → i < count
      → r.data_type ≡ u
      → r.path ≡ further b (element i ∷ []) → IsBelow t n before r
  element_below i u count r e within type path = record {
    steps = h.steps ++ element i ∷ [];
    path_is = path ∙ further_path (element i);
    offset = λ rest.
        ap (offset_in t) (append_assoc h.steps (element i ∷ []) rest) ∙ h.offset (element i ∷ rest)
        ∙ ap (behind_so_many before) (element_offset b.data_type u count i rest e within ∙ ap (λ w. offset_in w rest) (sym type));
    leaves = λ l m. further_leaf (element i) l.path l.ground_type record {
      leaf = under false (element i) l;
      among = in_vector b.data_type u count i l e within (subst (λ w. In (type_leaves w) l) type m);
      path_is = refl;
      ground_is = refl;
    };
  }
