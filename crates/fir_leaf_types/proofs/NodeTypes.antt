-- A type with unknowns of its own, each of which is the least that one rule asks for, holds what the type does that it follows.
use Rattle.std.proofs.Common.{◌≡◌, ℕ, zero, suc, ◌+◌, ◌≤◌, List, [], ◌∷◌, ◌++◌, min, Bool, true, false, ◌==◌, if◌then◌else◌, Option, Some, None, refl, sym, ap, ◌∙◌, subst, inl, inr, ⊎_elim, arith}
use Rattle.fir_base.specs.Lists.{In}
use Rattle.fir_base.proofs.Members.{in_left, in_right, in_either}
use Rattle.fir_base.proofs.SameNames.{name_other, name_same}
use Rattle.fir_base.proofs.Tests.{both}
use Rattle.fir_ast.specs.declared.place.Place.{Place}
use Rattle.fir_ast.specs.Types.{DataType}
use Rattle.fir_meaning.proofs.FreshFields.{field_names, HasFreshFields, AreFresh}
use Rattle.fir_meaning.proofs.LeastRules.{width_le}
use Rattle.fir_meaning.proofs.SizedShapes.{numbered_bare, node_bare}
use Rattle.fir_meaning.specs.SharedLeaves.{shared_count, shared_field_count}
use Rattle.fir_meaning.specs.TypeKinds.{is_passive, are_passive}
use Rattle.fir_meaning.specs.WidthExpressions.{Width, Widths, unknown, width_under}
use Rattle.fir_meaning.specs.SizedTypes.{Sized, SizedFields, unsigned, signed, clock_scalar, reset_scalar, async_scalar, scalar, sized_bundle, sized_vector, no_sized_fields, sized_field, numbered, numbered_fields, bare_type, bare_type_fields, written_type, node_type, node_fields, renumbered, sized_named}
use Rattle.fir_meaning.specs.SizedMatches.{Match, where_met, matches, field_matches}
use Rattle.fir_meaning.specs.LeafTypes.{number}
use Rattle.fir_meaning.specs.HeldTypes.{repeated, held_types, held_field_types}
use Rattle.fir_leaf_types.proofs.HeldKinds.{not_zero}
use Rattle.fir_leaf_types.proofs.OwnedNumbers.{IsOwned, Within, numbered_owned, numbered_fields_owned}
use Rattle.fir_leaf_types.proofs.StraightMatches.{passive_bare, passive_straight, straight_owned}

-- each of some fields is found by its name
abbrev Found : SizedFields → SizedFields → Type 0
Found no_sized_fields gs = Unit {0}
Found (sized_field p f x b t rest) gs = (sized_named x gs ≡ Some t) × Found rest gs

found_more : (fs gs : SizedFields) (q c : Place) (g : Bool) (x : List ℕ) (u : Sized) → Found fs gs → (In (field_names (bare_type_fields fs)) x → ⊥)
    → Found fs (sized_field q g x c u gs)
found_more no_sized_fields gs q c g x u h new = tt
found_more (sized_field p f y b t rest) gs q c g x u h new = (
  rw (name_other x y (λ e. new (inl (sym e)))) h.0,
  found_more rest gs q c g x u h.1 (λ m. new (inr m)),
)

found_all : (fs : SizedFields) → AreFresh (bare_type_fields fs) → Found fs fs
found_all no_sized_fields h = tt
found_all (sized_field p f x b t rest) h = (rw (name_same x) refl, found_more rest rest p b f x t (found_all rest h.2) h.0)

pub passive_numbers : (at : Option ℕ) (t : DataType) → is_passive t ≡ true → is_passive (bare_type (numbered at t)) ≡ true
passive_numbers at t h = ap is_passive (numbered_bare at t) ∙ passive_bare t ∙ h

pub passive_node : (k : ℕ) (s : Sized) → is_passive (bare_type s) ≡ true → is_passive (bare_type (renumbered k s)) ≡ true
passive_node k s h = ap is_passive (numbered_bare (Some k) (node_type s) ∙ node_bare s) ∙ h

module _ (w : Widths) where
  -- unknowns that are the least that these matches ask for
  pub record Solved (ms : List Match) (k n : ℕ) : Type 0 where
    pub above : (j : ℕ) (e : Width) → In ms (record { driven = unknown j; driver = e }) → width_under e w ≤ w j
    pub least : (j m : ℕ) → Within k n j → ((e : Width) → In ms (record { driven = unknown j; driver = e }) → width_under e w ≤ m) → w j ≤ m

  scalar_width : (k : ℕ) (e : Width) → Solved (record { driven = unknown k; driver = e } ∷ []) k 1 → min (w k) 129 ≡ width_under e w
  scalar_width k e h =
      let above = h.above k e (inl refl) in
      let below = h.least k (width_under e w) (omega arith, omega arith) one in
      omega (arith, above, below, width_le e w)
    where
      one : (d : Width) → In {A = Match} (record { driven = unknown k; driver = e } ∷ []) (record { driven = unknown k; driver = d })
          → width_under d w ≤ width_under e w
      one d (inl same) = let is : e ≡ d = ap (λ (x : Match). x.driver) same in rw is (omega arith)
      one d (inr m) = absurd m

  -- the first part of matches whose numbers are apart, and the second
  solved_left : (ms ns : List Match) (k a b : ℕ) → ((x : Match) → In ns x → IsOwned (Within (k + a) b) x.driven) → Solved (ms ++ ns) k (a + b) → Solved ms k a
  solved_left ms ns k a b apart h = record {
    above = λ j e m. h.above j e (in_left ms ns (record { driven = unknown j; driver = e }) m);
    least = λ j n within all.
        h.least j n (within.0, omega (arith, within.1))
        (λ e m.
        ⊎_elim
        (λ (i : In ms (record { driven = unknown j; driver = e })). all e i)
        (λ (i : In ns (record { driven = unknown j; driver = e })).
        let far : Within (k + a) b j = apart (record { driven = unknown j; driver = e }) i in
        absurd (omega (arith, far.0, within.1)))
        (in_either ms ns (record { driven = unknown j; driver = e }) m));
  }

  solved_right : (ms ns : List Match) (k a b : ℕ) → ((x : Match) → In ms x → IsOwned (Within k a) x.driven) → Solved (ms ++ ns) k (a + b) → Solved ns (k + a) b
  solved_right ms ns k a b apart h = record {
    above = λ j e m. h.above j e (in_right ms ns (record { driven = unknown j; driver = e }) m);
    least = λ j n within all.
        h.least j n (omega (arith, within.0), omega (arith, within.1))
        (λ e m.
        ⊎_elim
        (λ (i : In ms (record { driven = unknown j; driver = e })).
        let far : Within k a j = apart (record { driven = unknown j; driver = e }) i in
        absurd (omega (arith, far.1, within.0)))
        (λ (i : In ns (record { driven = unknown j; driver = e })). all e i)
        (in_either ms ns (record { driven = unknown j; driver = e }) m));
  }

  node_vector : (k : ℕ) (t : Sized) (b d : Bool) → b ≡ false → d ≡ false
      → (Solved (matches false (renumbered k t) t) k (shared_count (node_type t)) → held_types w (renumbered k t) ≡ held_types w t)
      → Solved (if d then [] else matches false (numbered (if b then None else Some k) (if b then written_type t else node_type t)) t) k
      (shared_count (if b then written_type t else node_type t))
      → held_types w (numbered (if b then None else Some k) (if b then written_type t else node_type t)) ≡ held_types w t
  node_vector k t true d e f inside h = absurd (cc)
  node_vector k t false true e f inside h = absurd (cc)
  node_vector k t false false e f inside h = inside h

  mutual
    pub node_types : (k : ℕ) (s : Sized) → HasFreshFields (bare_type s) → is_passive (bare_type s) ≡ true
        → Solved (matches false (renumbered k s) s) k (shared_count (node_type s)) → held_types w (renumbered k s) ≡ held_types w s
    node_types k (scalar unsigned e) fresh passive h = ap (λ n. number (record { signed = false; width = n }) ∷ []) (scalar_width k e h)
    node_types k (scalar signed e) fresh passive h = ap (λ n. number (record { signed = true; width = n }) ∷ []) (scalar_width k e h)
    node_types k (scalar clock_scalar e) fresh passive h = refl
    node_types k (scalar reset_scalar e) fresh passive h = refl
    node_types k (scalar async_scalar e) fresh passive h = refl
    node_types k (sized_bundle fs) fresh passive h = field_types k fs fs (found_all fs fresh) fresh passive h
    node_types k (sized_vector t zero) fresh passive h = refl
    node_types k (sized_vector t (suc n)) fresh passive h =
        let long : min (suc n) (suc n) ≡ suc n = omega arith in
        let some : (min (suc n) (suc n) == 0) ≡ false = rw long (not_zero n) in
        ap (repeated (suc n))
        (node_vector k t (suc n == 0) (min (suc n) (suc n) == 0) (not_zero n) some (node_types k t fresh passive) h)

    field_types : (k : ℕ) (fs gs : SizedFields) → Found fs gs → AreFresh (bare_type_fields fs) → are_passive (bare_type_fields fs) ≡ true
        → Solved (field_matches false (numbered_fields (Some k) (node_fields fs)) gs) k (shared_field_count (node_fields fs))
        → held_field_types w (numbered_fields (Some k) (node_fields fs)) ≡ held_field_types w fs
    field_types k no_sized_fields gs found fresh passive h = refl
    field_types k (sized_field p true x b t rest) gs found fresh passive h = absurd (cc)
    field_types k (sized_field p false x b t rest) gs found fresh passive h =
        let tests = both (is_passive (bare_type t)) (are_passive (bare_type_fields rest)) passive in
        let c = shared_count (node_type t) in
        let n = shared_field_count (node_fields rest) in
        let first = renumbered k t in
        let second = numbered_fields (Some (k + c)) (node_fields rest) in
        let ms = matches false first t in
        let ns = field_matches false second gs in
        let apart : Solved (ms ++ ns) k (c + n) = subst (λ o. Solved (where_met (λ u. matches false first u) o ++ ns) k (c + n)) found.0 h in
        let of_first : (y : Match) → In (matches false (renumbered k t) t) y → IsOwned (Within k (shared_count (node_type t))) y.driven =
        straight_owned (Within k c) first t (numbered_owned k (node_type t)) (passive_straight first t (passive_node k t tests.0)) in
        let of_second : (y : Match) → In (field_matches false (numbered_fields (Some (k + shared_count (node_type t))) (node_fields rest)) gs) y
        → IsOwned (Within (k + shared_count (node_type t)) (shared_field_count (node_fields rest))) y.driven =
        straight_owned (Within (k + c) n) (sized_bundle second) (sized_bundle gs) (numbered_fields_owned (k + c) (node_fields rest))
        (passive_straight (sized_bundle second) (sized_bundle gs) (passive_node (k + c) (sized_bundle rest) tests.1)) in
        let one = node_types k t fresh.1 tests.0 (solved_left ms ns k c n of_second apart) in
        let more = field_types (k + c) rest gs found.1 fresh.2 tests.1 (solved_right ms ns k c n of_first apart) in
        rw (one, more) refl
