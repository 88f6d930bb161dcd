-- What a partial connect pairs: leaves of both sides that fit and are oriented alike.
use Rattle.std.proofs.Common.{◌≡◌, ℕ, zero, suc, ◌+◌, List, [], ◌++◌, Bool, true, false, ◌&&◌, map, Option, Some, None, refl, sym, ap, ◌∙◌, inl, inr, ⊎_elim, arith, min, subst}
use Rattle.std.specs.Bool.{beq}
use Rattle.std.specs.Str.{bytes_eq}
use Rattle.fir_base.specs.Lists.{In}
use Rattle.fir_ast.specs.Types.{DataType, bundle, vector, Fields, no_fields, field}
use Rattle.fir_meaning.specs.LeafPaths.{Step, named, element}
use Rattle.fir_meaning.specs.TypeLeaves.{turned, TypeLeaf, under, element_leaves, type_leaves, field_leaves}
use Rattle.fir_meaning.specs.TypeKinds.{FieldFound, field_named}
use Rattle.fir_meaning.specs.Equivalence.{fitting_ground, met, is_partly_connectable, fields_partly_connectable}
use Rattle.fir_meaning.specs.ConnectPairs.{Pair, both_under, element_pairs, partial_pairs, partial_field_pairs}
use Rattle.fir_meaning.specs.working.TypeLaws.{PairFits, PartialConnectsFit}
use Rattle.fir_base.proofs.Members.{in_left, in_right, in_either, in_map, in_map_from}
use Rattle.fir_base.proofs.SameNames.{name_is}
use Rattle.fir_base.proofs.Tests.{both, chosen}
use Rattle.fir_meaning.proofs.LeafSteps.{same_flip}

-- pairs of leaves of two lists
abbrev AllFit : List TypeLeaf → List TypeLeaf → List Pair → Type 0
AllFit ls ks ps = (p : Pair) → In ps p → PairFits ls ks p

fits_under : (f : Bool) (s : Step) (ls ks : List TypeLeaf) (ps : List Pair) → AllFit ls ks ps
    → AllFit (map (under f s) ls) (map (under f s) ks) (map (both_under f s) ps)
fits_under f s ls ks ps h p m =
    let r = in_map_from (both_under f s) ps p m in
    let w = h r.0 r.1 in
    subst (PairFits (map (under f s) ls) (map (under f s) ks)) r.2
    (record { left = in_map (under f s) ls r.0.left w.left; right = in_map (under f s) ks r.0.right w.right; flip = ap (turned f) w.flip; fit = w.fit })

-- a pair of parts of two lists
fits_left : (ls ls' ks ks' : List TypeLeaf) (p : Pair) → PairFits ls ks p → PairFits (ls ++ ls') (ks ++ ks') p
fits_left ls ls' ks ks' p w =
    record { left = in_left ls ls' p.left w.left; right = in_left ks ks' p.right w.right; flip = w.flip; fit = w.fit }

fits_right : (ls ls' ks ks' : List TypeLeaf) (p : Pair) → PairFits ls' ks' p → PairFits (ls ++ ls') (ks ++ ks') p
fits_right ls ls' ks ks' p w =
    record { left = in_right ls ls' p.left w.left; right = in_right ks ks' p.right w.right; flip = w.flip; fit = w.fit }

fits_elements : (i n m : ℕ) (ls ks : List TypeLeaf) (ps : List Pair) → AllFit ls ks ps
    → AllFit (element_leaves i n ls) (element_leaves i m ks) (element_pairs i (min n m) ps)
fits_elements i zero m ls ks ps h p k = let none : min zero m ≡ zero = omega arith in absurd (subst (λ z. In (element_pairs i z ps) p) none k)
fits_elements i (suc n) zero ls ks ps h p k = let none : min (suc n) zero ≡ zero = omega arith in absurd (subst (λ z. In (element_pairs i z ps) p) none k)
fits_elements i (suc n) (suc m) ls ks ps h p k =
    let more : min (suc n) (suc m) ≡ suc (min n m) = omega arith in
    let first = map (under false (element i)) ls in
    let second = map (under false (element i)) ks in
    ⊎_elim
    (λ (a : In (map (both_under false (element i)) ps) p).
    fits_left first (element_leaves (i + 1) n ls) second (element_leaves (i + 1) m ks) p (fits_under false (element i) ls ks ps h p a))
    (λ (a : In (element_pairs (i + 1) (min n m) ps) p).
    fits_right first (element_leaves (i + 1) n ls) second (element_leaves (i + 1) m ks) p (fits_elements (i + 1) n m ls ks ps h p a))
    (in_either (map (both_under false (element i)) ps) (element_pairs (i + 1) (min n m) ps) p (subst (λ z. In (element_pairs i z ps) p) more k))

-- the leaves of a field that is found are among those of the fields
in_found : (x : List ℕ) (gs : Fields) (g : FieldFound) (l : TypeLeaf) → field_named x gs ≡ Some g
    → In (map (under g.flip (named x)) (type_leaves g.data_type)) l → In (field_leaves gs) l
in_found x no_fields g l e m = absurd (cc)
in_found x (field q f y b u gs) g l e m =
    let found : FieldFound = record { flip = f; data_type = u } in
    ⊎_elim
    (λ (c : (bytes_eq y x ≡ true) × (Some found ≡ Some g)).
    let name : x ≡ y = sym (name_is y x c.0) in
    let same : g ≡ found = cc in
    in_left (map (under f (named y)) (type_leaves u)) (field_leaves gs) l
    (subst (λ n. In (map (under f (named n)) (type_leaves u)) l) name
    (subst (λ (h : FieldFound). In (map (under h.flip (named x)) (type_leaves h.data_type)) l) same m)))
    (λ (c : (bytes_eq y x ≡ false) × (field_named x gs ≡ Some g)). in_right (map (under f (named y)) (type_leaves u)) (field_leaves gs) l (in_found x gs g l c.1 m))
    (chosen (bytes_eq y x) (Some found) (field_named x gs) (Some g) e)

-- the pairs of a field that the other side may have too
fits_found : (f : Bool) (x : List ℕ) (t : DataType) (fs gs : Fields) (p : Pair) (found : Option FieldFound) → field_named x gs ≡ found
    → met true (λ g. beq f g.flip && is_partly_connectable t g.data_type) found ≡ true
    → In (met [] (λ g. map (both_under f (named x)) (partial_pairs t g.data_type)) found) p
    → ((u : DataType) → is_partly_connectable t u ≡ true → AllFit (type_leaves t) (type_leaves u) (partial_pairs t u))
    → PairFits (map (under f (named x)) (type_leaves t) ++ field_leaves fs) (field_leaves gs) p
fits_found f x t fs gs p None e h m inside = absurd m
fits_found f x t fs gs p (Some g) e h m inside =
    let tests = both (beq f g.flip) (is_partly_connectable t g.data_type) h in
    let w = fits_under f (named x) (type_leaves t) (type_leaves g.data_type) (partial_pairs t g.data_type) (inside g.data_type tests.1) p m in
    record {
      left = in_left (map (under f (named x)) (type_leaves t)) (field_leaves fs) p.left w.left;
      right = in_found x gs g p.right e (subst (λ z. In (map (under z (named x)) (type_leaves g.data_type)) p.right) (same_flip f g.flip tests.0) w.right);
      flip = w.flip;
      fit = w.fit;
    }

mutual
  pub partial_fit : PartialConnectsFit
  partial_fit (bundle fs) (bundle gs) h p m = fields_fit fs gs h p m
  partial_fit (bundle fs) b h p m = absurd (cc)
  partial_fit (vector t n) (vector u k) h p m = fits_elements 0 n k (type_leaves t) (type_leaves u) (partial_pairs t u) (partial_fit t u h) p m
  partial_fit (vector t n) b h p m = absurd (cc)
  partial_fit s (bundle gs) h p m = absurd (cc)
  partial_fit s (vector u k) h p m = absurd (cc)
  partial_fit s t h p (inl e) =
      record {
        left = inl (ap (λ (z : Pair). z.left) e);
        right = inl (ap (λ (z : Pair). z.right) e);
        flip = ap (λ (z : Pair). z.left.flip) (sym e) ∙ ap (λ (z : Pair). z.right.flip) e;
        fit = ap (λ (z : Pair). fitting_ground z.left.ground_type z.right.ground_type) (sym e) ∙ h;
      }
  partial_fit s t h p (inr m) = absurd m

  fields_fit : (fs gs : Fields) → fields_partly_connectable fs gs ≡ true → AllFit (field_leaves fs) (field_leaves gs) (partial_field_pairs fs gs)
  fields_fit no_fields gs h p m = absurd m
  fields_fit (field q f x b t fs) gs h p m =
      let tests = both (met true (λ g. beq f g.flip && is_partly_connectable t g.data_type) (field_named x gs)) (fields_partly_connectable fs gs) h in
      let here = met [] (λ g. map (both_under f (named x)) (partial_pairs t g.data_type)) (field_named x gs) in
      ⊎_elim
      (λ (k : In here p). fits_found f x t fs gs p (field_named x gs) refl tests.0 k (λ u e. partial_fit t u e))
      (λ (k : In (partial_field_pairs fs gs) p).
      let w = fields_fit fs gs tests.1 p k in
      record { left = in_right (map (under f (named x)) (type_leaves t)) (field_leaves fs) p.left w.left; right = w.right; flip = w.flip; fit = w.fit })
      (in_either here (partial_field_pairs fs gs) p m)
