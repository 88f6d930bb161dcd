-- Of two types of which one has no flipped field, and that fit, no match is turned: what is driven stands on the left.
use Rattle.std.proofs.Common.{◌≡◌, ℕ, List, [], min, Bool, true, false, not, ◌&&◌, ◌==◌, if◌then◌else◌, Option, Some, None, option_map, refl, sym, ap, ◌∙◌, subst, inl, inr, ⊎_elim}
use Rattle.std.specs.Bool.{beq}
use Rattle.std.specs.Str.{bytes_eq}
use Rattle.fir_base.specs.Lists.{In}
use Rattle.fir_base.proofs.Members.{in_either}
use Rattle.fir_base.proofs.Tests.{both}
use Rattle.fir_ast.specs.Types.{DataType, uint, sint, clock, reset, async_reset, bundle, vector, Fields, no_fields, field}
use Rattle.fir_meaning.specs.Equivalence.{alike, fields_alike, met, is_partly_connectable, fields_partly_connectable}
use Rattle.fir_meaning.specs.TypeKinds.{bare, bare_fields, FieldFound, field_named, is_passive, are_passive}
use Rattle.fir_meaning.specs.TypeLeaves.{turned}
use Rattle.fir_meaning.specs.WidthExpressions.{Width}
use Rattle.fir_meaning.specs.SizedTypes.{Sized, SizedFields, scalar, sized_bundle, sized_vector, no_sized_fields, sized_field, bare_type, bare_type_fields, sized_named}
use Rattle.fir_meaning.specs.SizedMatches.{Match, match_of, where_met, matches, field_matches}
use Rattle.fir_meaning.proofs.LeafSteps.{same_flip}
use Rattle.fir_leaf_types.proofs.OwnedNumbers.{IsOwned, Owned, FieldsOwned, named_owned}

abbrev mutual
  pub Straight : Sized → Sized → Type 0
  Straight (sized_bundle fs) (sized_bundle gs) = FieldsStraight fs gs
  Straight (sized_bundle fs) _ = Unit {0}
  Straight (sized_vector t n) (sized_vector u m) = Straight t u
  Straight (sized_vector t n) _ = Unit {0}
  Straight (scalar s e) _ = Unit {0}

  pub FieldsStraight : SizedFields → SizedFields → Type 0
  FieldsStraight no_sized_fields gs = Unit {0}
  FieldsStraight (sized_field p flip x b t rest) gs = ((u : Sized) → sized_named x gs ≡ Some u → (flip ≡ false) × Straight t u) × FieldsStraight rest gs

-- of a type without flips
mutual
  pub passive_straight : (a b : Sized) → is_passive (bare_type a) ≡ true → Straight a b
  passive_straight (scalar s e) b h = tt
  passive_straight (sized_bundle fs) (scalar s e) h = tt
  passive_straight (sized_bundle fs) (sized_bundle gs) h = passive_fields_straight fs gs h
  passive_straight (sized_bundle fs) (sized_vector u m) h = tt
  passive_straight (sized_vector t n) (scalar s e) h = tt
  passive_straight (sized_vector t n) (sized_bundle gs) h = tt
  passive_straight (sized_vector t n) (sized_vector u m) h = passive_straight t u h

  passive_fields_straight : (fs gs : SizedFields) → are_passive (bare_type_fields fs) ≡ true → FieldsStraight fs gs
  passive_fields_straight no_sized_fields gs h = tt
  passive_fields_straight (sized_field p true x b t rest) gs h = absurd (cc)
  passive_fields_straight (sized_field p false x b t rest) gs h =
      let tests = both (is_passive (bare_type t)) (are_passive (bare_type_fields rest)) h in
      (λ u e. (refl, passive_straight t u tests.0), passive_fields_straight rest gs tests.1)

mutual
  pub passive_bare : (t : DataType) → is_passive (bare t) ≡ is_passive t
  passive_bare (bundle fs) = passive_bare_fields fs
  passive_bare (vector t n) = passive_bare t
  passive_bare (uint w) = refl
  passive_bare (sint w) = refl
  passive_bare clock = refl
  passive_bare reset = refl
  passive_bare async_reset = refl

  passive_bare_fields : (fs : Fields) → are_passive (bare_fields fs) ≡ are_passive fs
  passive_bare_fields no_fields = refl
  passive_bare_fields (field p f x b t rest) = rw (passive_bare t, passive_bare_fields rest) refl

-- what fits a type without flips by `<=` has none
module _ (test : DataType → DataType → Bool) where
  mutual
    pub alike_passive : (t u : DataType) → alike test t u ≡ true → is_passive u ≡ true → is_passive t ≡ true
    alike_passive (bundle fs) (bundle gs) h k = alike_fields_passive fs gs h k
    alike_passive (bundle fs) u h k = absurd (cc)
    alike_passive (vector t n) (vector u m) h k = alike_passive t u (both (n == m) (alike test t u) h).1 k
    alike_passive (vector t n) u h k = absurd (cc)
    alike_passive t (bundle gs) h k = absurd (cc)
    alike_passive t (vector u m) h k = absurd (cc)
    alike_passive t u h k = refl

    alike_fields_passive : (fs gs : Fields) → fields_alike test fs gs ≡ true → are_passive gs ≡ true → are_passive fs ≡ true
    alike_fields_passive no_fields no_fields h k = refl
    alike_fields_passive no_fields (field q g y c u gs) h k = refl
    alike_fields_passive (field p f x b t fs) no_fields h k = absurd (cc)
    alike_fields_passive (field p f x b t fs) (field q g y c u gs) h k =
        let first = both (beq f g) _ h in
        let second = both (bytes_eq x y) _ first.1 in
        let third = both (alike test t u) _ second.1 in
        let straight = both (not g) _ k in
        let inside = both (is_passive u) (are_passive gs) straight.1 in
        let flips : not f ≡ true = ap not (same_flip f g first.0) ∙ straight.0 in
        rw (flips, alike_passive t u third.0 inside.0, alike_fields_passive fs gs third.1 inside.1) refl

-- a field without its width
abbrev pub bare_found : FieldFound → FieldFound
bare_found f = record { flip = f.flip; data_type = bare f.data_type }

pub found_bare : (x : List ℕ) (fs : Fields) → field_named x (bare_fields fs) ≡ option_map bare_found (field_named x fs)
found_bare x no_fields = refl
found_bare x (field p f y b t rest) = by (bytes_eq y x) (found_bare x rest)
  where
    by : (v : Bool) → field_named x (bare_fields rest) ≡ option_map bare_found (field_named x rest)
        → (if v then Some (record { flip = f; data_type = bare t }) else field_named x (bare_fields rest))
        ≡ option_map bare_found (if v then Some (record { flip = f; data_type = t }) else field_named x rest)
    by true h = refl
    by false h = h

met_bare : (f : Bool) (t : DataType) (o : Option FieldFound) → ((u : DataType) → is_partly_connectable (bare t) (bare u) ≡ is_partly_connectable t u)
    → met true (λ g. beq f g.flip && is_partly_connectable (bare t) g.data_type) (option_map bare_found o)
    ≡ met true (λ g. beq f g.flip && is_partly_connectable t g.data_type) o
met_bare f t None h = refl
met_bare f t (Some g) h = ap (λ b. beq f g.flip && b) (h g.data_type)

mutual
  pub partly_bare : (t u : DataType) → is_partly_connectable (bare t) (bare u) ≡ is_partly_connectable t u
  partly_bare (bundle fs) (bundle gs) = partly_bare_fields fs gs
  partly_bare (bundle fs) (uint w) = refl
  partly_bare (bundle fs) (sint w) = refl
  partly_bare (bundle fs) clock = refl
  partly_bare (bundle fs) reset = refl
  partly_bare (bundle fs) async_reset = refl
  partly_bare (bundle fs) (vector u m) = refl
  partly_bare (vector t n) (vector u m) = partly_bare t u
  partly_bare t (bundle gs) = refl
  partly_bare t (vector u m) = refl
  partly_bare t (uint w) = refl
  partly_bare t (sint w) = refl
  partly_bare t clock = refl
  partly_bare t reset = refl
  partly_bare t async_reset = refl

  partly_bare_fields : (fs gs : Fields) → fields_partly_connectable (bare_fields fs) (bare_fields gs) ≡ fields_partly_connectable fs gs
  partly_bare_fields no_fields gs = refl
  partly_bare_fields (field p f x b t fs) gs =
      rw (found_bare x gs, met_bare f t (field_named x gs) (λ u. partly_bare t u), partly_bare_fields fs gs) refl

-- the field that a sized type has, in the type without widths
pub sized_field_found : (x : List ℕ) (gs : SizedFields) (u : Sized) → sized_named x gs ≡ Some u
    → (g : FieldFound) × (field_named x (bare_type_fields gs) ≡ Some g) × (g.data_type ≡ bare_type u)
sized_field_found x no_sized_fields u e = absurd (cc)
sized_field_found x (sized_field p f y b t rest) u e = by (bytes_eq y x) e (sized_field_found x rest u)
  where
    by : (v : Bool) → (if v then Some t else sized_named x rest) ≡ Some u
        → (sized_named x rest ≡ Some u → (g : FieldFound) × (field_named x (bare_type_fields rest) ≡ Some g) × (g.data_type ≡ bare_type u))
        → (g : FieldFound) × ((if v then Some (record { flip = f; data_type = bare_type t }) else field_named x (bare_type_fields rest)) ≡ Some g)
        × (g.data_type ≡ bare_type u)
    by true k later = let same : t ≡ u = cc in (record { flip = f; data_type = bare_type t }, refl, ap bare_type same)
    by false k later = later k

pub passive_found : (x : List ℕ) (fs : Fields) (g : FieldFound) → are_passive fs ≡ true → field_named x fs ≡ Some g
    → (g.flip ≡ false) × (is_passive g.data_type ≡ true)
passive_found x no_fields g h e = absurd (cc)
passive_found x (field p true y b t rest) g h e = absurd (cc)
passive_found x (field p false y b t rest) g h e = by (bytes_eq y x) e (passive_found x rest g tests.1)
  where
    tests : (is_passive t ≡ true) × (are_passive rest ≡ true)
    tests = both (is_passive t) (are_passive rest) h

    by : (v : Bool) → (if v then Some (record { flip = false; data_type = t }) else field_named x rest) ≡ Some g
        → (field_named x rest ≡ Some g → (g.flip ≡ false) × (is_passive g.data_type ≡ true)) → (g.flip ≡ false) × (is_passive g.data_type ≡ true)
    by true k later =
        let same : record { flip = false; data_type = t } ≡ g = cc in
        subst (λ (g : FieldFound). (g.flip ≡ false) × (is_passive g.data_type ≡ true)) same (refl, tests.0)
    by false k later = later k

-- by `<-`
mutual
  pub partly_straight : (a b : Sized) → is_partly_connectable (bare_type a) (bare_type b) ≡ true → is_passive (bare_type b) ≡ true → Straight a b
  partly_straight (scalar s e) b h k = tt
  partly_straight (sized_bundle fs) (scalar s e) h k = tt
  partly_straight (sized_bundle fs) (sized_bundle gs) h k = partly_fields_straight fs gs h k
  partly_straight (sized_bundle fs) (sized_vector u m) h k = tt
  partly_straight (sized_vector t n) (scalar s e) h k = tt
  partly_straight (sized_vector t n) (sized_bundle gs) h k = tt
  partly_straight (sized_vector t n) (sized_vector u m) h k = partly_straight t u h k

  partly_fields_straight : (fs gs : SizedFields) → fields_partly_connectable (bare_type_fields fs) (bare_type_fields gs) ≡ true
      → are_passive (bare_type_fields gs) ≡ true → FieldsStraight fs gs
  partly_fields_straight no_sized_fields gs h k = tt
  partly_fields_straight (sized_field p f x b t fs) gs h k =
      let test : FieldFound → Bool = λ g. beq f g.flip && is_partly_connectable (bare_type t) g.data_type in
      let tests = both (met true test (field_named x (bare_type_fields gs))) (fields_partly_connectable (bare_type_fields fs) (bare_type_fields gs)) h in (
        λ u e.
            let r = sized_field_found x gs u e in
            let passive = passive_found x (bare_type_fields gs) r.0 k r.1 in
            let met_there : met true test (Some r.0) ≡ true = subst (λ o. met true test o ≡ true) r.1 tests.0 in
            let fits = both (beq f r.0.flip) (is_partly_connectable (bare_type t) r.0.data_type) met_there in (
              same_flip f r.0.flip fits.0 ∙ passive.0,
              partly_straight t u (ap (is_partly_connectable (bare_type t)) (sym r.2) ∙ fits.1) (ap is_passive (sym r.2) ∙ passive.1),
            ),
        partly_fields_straight fs gs tests.1 k,
      )

-- what is driven is of the left side, where no match is turned; else of either side
module _ (Q : ℕ → Type 0) where
  driven_left : (turn : Bool) (v w : Width) (x : Match) → turn ≡ false → match_of turn v w ≡ x → IsOwned Q v → IsOwned Q x.driven
  driven_left true v w x e f h = absurd (cc)
  driven_left false v w x e f h = subst (λ (y : Match). IsOwned Q y.driven) f h

  in_neither : (b : Bool) (xs : List Match) (x : Match) → In (if b then [] else xs) x → In xs x
  in_neither true xs x m = absurd m
  in_neither false xs x m = m

  met_left : (turn f : Bool) (t : Sized) (o : Option Sized) (x : Match) → turn ≡ false → ((u : Sized) → o ≡ Some u → (f ≡ false) × Straight t u)
      → ((u : Sized) → turned turn f ≡ false → Straight t u → In (matches (turned turn f) t u) x → IsOwned Q x.driven)
      → In (where_met (λ u. matches (turned turn f) t u) o) x → IsOwned Q x.driven
  met_left turn f t None x e k inside m = absurd m
  met_left turn f t (Some u) x e k inside m =
      let straight = k u refl in inside u (rw (e, straight.0) refl) straight.1 m

  mutual
    matches_left : (turn : Bool) (a b : Sized) → turn ≡ false → Owned Q a → Straight a b → (x : Match) → In (matches turn a b) x → IsOwned Q x.driven
    matches_left turn (scalar s v) (scalar t w) e h k x (inl f) = driven_left turn v w x e f h
    matches_left turn (scalar s v) (scalar t w) e h k x (inr m) = absurd m
    matches_left turn (scalar s v) (sized_bundle gs) e h k x m = absurd m
    matches_left turn (scalar s v) (sized_vector u m) e h k x i = absurd i
    matches_left turn (sized_bundle fs) (scalar s v) e h k x m = absurd m
    matches_left turn (sized_bundle fs) (sized_bundle gs) e h k x m = fields_left turn fs gs e h k x m
    matches_left turn (sized_bundle fs) (sized_vector u m) e h k x i = absurd i
    matches_left turn (sized_vector t n) (scalar s v) e h k x m = absurd m
    matches_left turn (sized_vector t n) (sized_bundle gs) e h k x m = absurd m
    matches_left turn (sized_vector t n) (sized_vector u m) e h k x i =
        matches_left turn t u e h k x (in_neither (min n m == 0) (matches turn t u) x i)

    fields_left : (turn : Bool) (fs gs : SizedFields) → turn ≡ false → FieldsOwned Q fs → FieldsStraight fs gs → (x : Match) → In (field_matches turn fs gs) x
        → IsOwned Q x.driven
    fields_left turn no_sized_fields gs e h k x m = absurd m
    fields_left turn (sized_field p f y b t fs) gs e h k x m =
        ⊎_elim
        (λ (i : In (where_met (λ u. matches (turned turn f) t u) (sized_named y gs)) x).
        met_left turn f t (sized_named y gs) x e k.0 (λ u g s. matches_left (turned turn f) t u g h.0 s x) i)
        (λ (i : In (field_matches turn fs gs) x). fields_left turn fs gs e h.1 k.1 x i)
        (in_either (where_met (λ u. matches (turned turn f) t u) (sized_named y gs)) (field_matches turn fs gs) x m)

  driven_either : (turn : Bool) (v w : Width) (x : Match) → match_of turn v w ≡ x → IsOwned Q v → IsOwned Q w → IsOwned Q x.driven
  driven_either true v w x f h k = subst (λ (y : Match). IsOwned Q y.driven) f k
  driven_either false v w x f h k = subst (λ (y : Match). IsOwned Q y.driven) f h

  met_owned : (turn : Bool) (t : Sized) (o : Option Sized) (x : Match) → ((u : Sized) → o ≡ Some u → Owned Q u)
      → ((u : Sized) → Owned Q u → In (matches turn t u) x → IsOwned Q x.driven)
      → In (where_met (λ u. matches turn t u) o) x → IsOwned Q x.driven
  met_owned turn t None x k inside m = absurd m
  met_owned turn t (Some u) x k inside m = inside u (k u refl) m

  mutual
    pub matches_owned : (turn : Bool) (a b : Sized) → Owned Q a → Owned Q b → (x : Match) → In (matches turn a b) x → IsOwned Q x.driven
    matches_owned turn (scalar s v) (scalar t w) h k x (inl f) = driven_either turn v w x f h k
    matches_owned turn (scalar s v) (scalar t w) h k x (inr m) = absurd m
    matches_owned turn (scalar s v) (sized_bundle gs) h k x m = absurd m
    matches_owned turn (scalar s v) (sized_vector u m) h k x i = absurd i
    matches_owned turn (sized_bundle fs) (scalar s v) h k x m = absurd m
    matches_owned turn (sized_bundle fs) (sized_bundle gs) h k x m = fields_owned turn fs gs h k x m
    matches_owned turn (sized_bundle fs) (sized_vector u m) h k x i = absurd i
    matches_owned turn (sized_vector t n) (scalar s v) h k x m = absurd m
    matches_owned turn (sized_vector t n) (sized_bundle gs) h k x m = absurd m
    matches_owned turn (sized_vector t n) (sized_vector u m) h k x i =
        matches_owned turn t u h k x (in_neither (min n m == 0) (matches turn t u) x i)

    fields_owned : (turn : Bool) (fs gs : SizedFields) → FieldsOwned Q fs → FieldsOwned Q gs → (x : Match) → In (field_matches turn fs gs) x
        → IsOwned Q x.driven
    fields_owned turn no_sized_fields gs h k x m = absurd m
    fields_owned turn (sized_field p f y b t fs) gs h k x m =
        ⊎_elim
        (λ (i : In (where_met (λ u. matches (turned turn f) t u) (sized_named y gs)) x).
        met_owned (turned turn f) t (sized_named y gs) x (λ u e. named_owned Q y gs k u e) (λ u g. matches_owned (turned turn f) t u h.0 g x) i)
        (λ (i : In (field_matches turn fs gs) x). fields_owned turn fs gs h.1 k x i)
        (in_either (where_met (λ u. matches (turned turn f) t u) (sized_named y gs)) (field_matches turn fs gs) x m)

  pub straight_owned : (a b : Sized) → Owned Q a → Straight a b → (x : Match) → In (matches false a b) x → IsOwned Q x.driven
  straight_owned a b h k x m = matches_left false a b refl h k x m
