-- Types that are alike have leaves of the same paths, and bundles of the same names; so has a type without its widths.
use Rattle.std.proofs.Common.{◌≡◌, ℕ, zero, suc, ◌+◌, List, ◌∷◌, ◌++◌, Bool, true, ◌==◌, map, refl, sym, ap, ◌∙◌, subst}
use Rattle.std.specs.Bool.{beq}
use Rattle.std.specs.Str.{bytes_eq}
use Rattle.std.proofs.lemmas.Bool.{eqb-true}
use Rattle.fir_base.specs.Lists.{In}
use Rattle.fir_ast.specs.Types.{DataType, bundle, vector, Fields, no_fields, field}
use Rattle.fir_meaning.specs.LeafPaths.{LeafPath, named, element}
use Rattle.fir_meaning.specs.TypeLeaves.{TypeLeaf, element_leaves, type_leaves, field_leaves}
use Rattle.fir_meaning.specs.TypeKinds.{bare, bare_fields}
use Rattle.fir_meaning.specs.Equivalence.{alike, fields_alike}
use Rattle.fir_base.proofs.SameNames.{name_is}
use Rattle.fir_base.proofs.Tests.{both}
use Rattle.fir_meaning.proofs.FreshFields.{field_names, HasFreshFields, AreFresh}
use Rattle.fir_meaning.proofs.LeafSteps.{path_of, behind_step, paths_joined, element_paths}

-- the paths of the leaves of a type
abbrev pub leaf_paths : DataType → List LeafPath
leaf_paths t = map path_of (type_leaves t)

abbrev field_paths : Fields → List LeafPath
field_paths fs = map path_of (field_leaves fs)

same_element_paths : (i n : ℕ) (ls ks : List TypeLeaf) → map path_of ls ≡ map path_of ks
    → map path_of (element_leaves i n ls) ≡ map path_of (element_leaves i n ks)
same_element_paths i zero ls ks h = refl
same_element_paths i (suc n) ls ks h =
    element_paths i n ls ∙ ap (λ l. map (behind_step (element i)) l ++ map path_of (element_leaves (i + 1) n ls)) h
    ∙ ap (λ l. map (behind_step (element i)) (map path_of ks) ++ l) (same_element_paths (i + 1) n ls ks h) ∙ sym (element_paths i n ks)

-- a type without its widths
mutual
  pub bare_paths : (t : DataType) → leaf_paths (bare t) ≡ leaf_paths t
  bare_paths (bundle fs) = bare_field_paths fs
  bare_paths (vector t n) = same_element_paths 0 n (type_leaves (bare t)) (type_leaves t) (bare_paths t)
  bare_paths t = refl

  bare_field_paths : (fs : Fields) → field_paths (bare_fields fs) ≡ field_paths fs
  bare_field_paths no_fields = refl
  bare_field_paths (field p f x b t rest) =
      paths_joined f (named x) (type_leaves (bare t)) (field_leaves (bare_fields rest)) ∙ rw (bare_paths t, bare_field_paths rest) refl
      ∙ sym (paths_joined f (named x) (type_leaves t) (field_leaves rest))

bare_names : (fs : Fields) → field_names (bare_fields fs) ≡ field_names fs
bare_names no_fields = refl
bare_names (field p f x b t rest) = ap (λ l. x ∷ l) (bare_names rest)

mutual
  pub fresh_bare : (t : DataType) → HasFreshFields t → HasFreshFields (bare t)
  fresh_bare (bundle fs) h = fresh_bare_fields fs h
  fresh_bare (vector t n) h = fresh_bare t h
  fresh_bare t h = tt

  fresh_bare_fields : (fs : Fields) → AreFresh fs → AreFresh (bare_fields fs)
  fresh_bare_fields no_fields h = tt
  fresh_bare_fields (field p f x b t rest) h = (λ m. h.0 (rw (bare_names rest) at m), fresh_bare t h.1, fresh_bare_fields rest h.2)

mutual
  pub fresh_from_bare : (t : DataType) → HasFreshFields (bare t) → HasFreshFields t
  fresh_from_bare (bundle fs) h = fresh_from_bare_fields fs h
  fresh_from_bare (vector t n) h = fresh_from_bare t h
  fresh_from_bare t h = tt

  fresh_from_bare_fields : (fs : Fields) → AreFresh (bare_fields fs) → AreFresh fs
  fresh_from_bare_fields no_fields h = tt
  fresh_from_bare_fields (field p f x b t rest) h =
      (λ m. h.0 (subst (λ l. In l x) (sym (bare_names rest)) m), fresh_from_bare t h.1, fresh_from_bare_fields rest h.2)

-- what types that are alike share
pub record IsAlike (t u : DataType) : Type 0 where
  pub path : leaf_paths t ≡ leaf_paths u
  pub fresh : HasFreshFields t → HasFreshFields u

record AreAlike (fs gs : Fields) : Type 0 where
  path : field_paths fs ≡ field_paths gs
  names : field_names fs ≡ field_names gs
  fresh : AreFresh fs → AreFresh gs

module _ (test : DataType → DataType → Bool) where
  mutual
    pub alike_types : (t u : DataType) → alike test t u ≡ true → IsAlike t u
    alike_types (bundle fs) (bundle gs) h = let r = alike_fields fs gs h in record { path = r.path; fresh = r.fresh }
    alike_types (bundle fs) u h = absurd (cc)
    alike_types (vector t n) (vector u m) h =
        let tests = both (n == m) (alike test t u) h in
        let r = alike_types t u tests.1 in
        let e : n ≡ m = eqb-true n m tests.0 in
        record {
          path = same_element_paths 0 n (type_leaves t) (type_leaves u) r.path ∙ ap (λ k. map path_of (element_leaves 0 k (type_leaves u))) e;
          fresh = r.fresh;
        }
    alike_types (vector t n) u h = absurd (cc)
    alike_types t (bundle gs) h = absurd (cc)
    alike_types t (vector u m) h = absurd (cc)
    alike_types t u h = record { path = refl; fresh = λ f. tt }

    alike_fields : (fs gs : Fields) → fields_alike test fs gs ≡ true → AreAlike fs gs
    alike_fields no_fields no_fields h = record { path = refl; names = refl; fresh = λ f. tt }
    alike_fields no_fields (field q g y c u gs) h = absurd (cc)
    alike_fields (field p f x b t fs) no_fields h = absurd (cc)
    alike_fields (field p f x b t fs) (field q g y c u gs) h =
        let first = both (beq f g) _ h in
        let second = both (bytes_eq x y) _ first.1 in
        let third = both (alike test t u) _ second.1 in
        let r = alike_types t u third.0 in
        let s = alike_fields fs gs third.1 in
        let names : x ≡ y = name_is x y second.0 in
        record {
          path =
              paths_joined f (named x) (type_leaves t) (field_leaves fs) ∙ rw (r.path, s.path, names) refl
              ∙ sym (paths_joined g (named y) (type_leaves u) (field_leaves gs));
          names = rw (names, s.names) refl;
          fresh = λ k. (λ m. k.0 (rw (names, s.names) m), r.fresh k.1, s.fresh k.2);
        }
