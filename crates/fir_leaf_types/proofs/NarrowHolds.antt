-- Where no leaf of a sized type is over, all that it holds is narrow.
use Rattle.std.proofs.Common.{◌≡◌, ℕ, zero, suc, ◌≤◌, List, [], ◌∷◌, ◌++◌, Bool, true, false, ◌||◌, if◌then◌else◌, nat_lt, flat_map, refl, arith}
use Rattle.std.specs.Prelude.{map}
use Rattle.std.specs.List.{AllByRecursion}
use Rattle.std.proofs.lemmas.Bool.Decides.{nat_tests}
use Rattle.fir_base.proofs.Each.{all_joined, all_left, all_right}
use Rattle.fir_ast.specs.declared.place.Place.{Place}
use Rattle.fir_meaning.specs.LeafPaths.{LeafPath, Step, named, element}
use Rattle.fir_meaning.specs.WidthExpressions.{Width, Widths, width_under}
use Rattle.fir_meaning.specs.SizedTypes.{Scalar, Sized, SizedFields, unsigned, signed, clock_scalar, reset_scalar, async_scalar, scalar, sized_bundle, sized_vector, no_sized_fields, sized_field}
use Rattle.fir_meaning.specs.SizedLeaves.{SizedLeaf, sized_under, sized_leaves, sized_field_leaves}
use Rattle.fir_meaning.specs.SizedMemories.{ports_or_array}
use Rattle.fir_meaning.specs.SizeFaults.{leaf_over, word_over}
use Rattle.fir_meaning.specs.OverFaults.{is_leaf_over, leaves_over, form_over}
use Rattle.fir_meaning.specs.HeldTypes.{held_types, held_field_types}
use Rattle.fir_leaf_types.specs.working.TypedTerms.{IsNarrow}
use Rattle.fir_leaf_types.proofs.HeldKinds.{all_repeated, not_zero}

module _ (w : Widths) where
  abbrev IsWithin : SizedLeaf → Type 0
  IsWithin l = width_under l.width w ≤ 128

  none_over : (p : Place) (path : LeafPath) (ls : List SizedLeaf)
      → flat_map (λ l. if is_leaf_over w l then leaf_over p (path ++ l.path) ∷ [] else []) ls ≡ [] → AllByRecursion IsWithin ls
  none_over p path [] h = tt
  none_over p path (l ∷ ls) h = by (is_leaf_over w l) refl h (none_over p path ls)
    where
      by : (b : Bool) → nat_lt 128 (width_under l.width w) ≡ b
          → (if b then leaf_over p (path ++ l.path) ∷ [] else []) ++ flat_map (λ l. if is_leaf_over w l then leaf_over p (path ++ l.path) ∷ [] else []) ls ≡ []
          → (flat_map (λ l. if is_leaf_over w l then leaf_over p (path ++ l.path) ∷ [] else []) ls ≡ [] → AllByRecursion IsWithin ls)
          → (width_under l.width w ≤ 128) × AllByRecursion IsWithin ls
      by true e k later = absurd (cc)
      by false e k later = (grind (arith, nat_tests, e), later k)

  under_within : (f : Bool) (s : Step) (ls : List SizedLeaf) → AllByRecursion IsWithin (map (sized_under f s) ls)
      → AllByRecursion IsWithin ls
  under_within f s [] h = tt
  under_within f s (l ∷ ls) h = (h.0, under_within f s ls h.1)

  mutual
    narrow_holds : (s : Sized) → AllByRecursion IsWithin (sized_leaves s) → AllByRecursion IsNarrow (held_types w s)
    narrow_holds (scalar unsigned e) h = (h.0, tt)
    narrow_holds (scalar signed e) h = (h.0, tt)
    narrow_holds (scalar clock_scalar e) h = (omega arith, tt)
    narrow_holds (scalar reset_scalar e) h = (omega arith, tt)
    narrow_holds (scalar async_scalar e) h = (omega arith, tt)
    narrow_holds (sized_bundle fs) h = narrow_fields_hold fs h
    narrow_holds (sized_vector t zero) h = tt
    narrow_holds (sized_vector t (suc n)) h =
        all_repeated IsNarrow (suc n) (held_types w t)
        (narrow_holds t (under_within false (element 0) (sized_leaves t) (rw (not_zero n) at h)))

    narrow_fields_hold : (fs : SizedFields) → AllByRecursion IsWithin (sized_field_leaves fs)
        → AllByRecursion IsNarrow (held_field_types w fs)
    narrow_fields_hold no_sized_fields h = tt
    narrow_fields_hold (sized_field p f x b t rest) h =
        let ls = map (sized_under f (named x)) (sized_leaves t) in
        all_joined IsNarrow (held_types w t) (held_field_types w rest)
        (narrow_holds t (under_within f (named x) (sized_leaves t) (all_left IsWithin ls (sized_field_leaves rest) h)))
        (narrow_fields_hold rest (all_right IsWithin ls (sized_field_leaves rest) h))

  pub narrow_by_faults : (p : Place) (path : LeafPath) (s : Sized) → leaves_over w p path s ≡ [] → AllByRecursion IsNarrow (held_types w s)
  narrow_by_faults p path s h = narrow_holds s (none_over p path (sized_leaves s) h)

  -- of a memory, without ports too
  pub narrow_ports : (p : Place) (path : LeafPath) (s array : Sized) → leaves_over w p path (ports_or_array s array) ≡ []
      → AllByRecursion IsNarrow (held_types w s)
  narrow_ports p path (scalar k e) array h = narrow_by_faults p path (scalar k e) h
  narrow_ports p path (sized_bundle no_sized_fields) array h = tt
  narrow_ports p path (sized_bundle (sized_field q f x b t rest)) array h = narrow_by_faults p path (sized_bundle (sized_field q f x b t rest)) h
  narrow_ports p path (sized_vector t n) array h = narrow_by_faults p path (sized_vector t n) h

  -- a form of one leaf
  pub form_within : (p : Place) (word : List ℕ) (k : Scalar) (e : Width) → form_over w p word (scalar k e) ≡ [] → width_under e w ≤ 128
  form_within p word k e h = by (nat_lt 128 (width_under e w)) refl h
    where
      by : (b : Bool) → nat_lt 128 (width_under e w) ≡ b → (if b || false then word_over p word ∷ [] else []) ≡ [] → width_under e w ≤ 128
      by true g k = absurd (cc)
      by false g k = grind (arith, nat_tests, g)
