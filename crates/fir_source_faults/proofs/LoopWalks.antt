-- Where a leaf of a circuit depends on another by number exactly where it does by path, and stands at one place, closed walks are the same.
use Rattle.std.proofs.Common.{◌≡◌, ◌↔◌, ℕ, ◌<◌, List, [], ◌∷◌, ◌++◌, map, length, refl, sym, ap, ap₂, ◌∙◌, subst, inl, inr}
use Rattle.std.specs.List.{AllByRecursion}
use Rattle.std.proofs.lemmas.List.{map-append}
use Rattle.fir_base.specs.Lists.{Distinct, In}
use Rattle.fir_base.proofs.Each.{all_joined}
use Rattle.fir_base.proofs.Members.{in_map, in_map_from}
use Rattle.fir_ast.specs.Faults.{Fault}
use Rattle.fir_ast.specs.declared.place.Place.{Place}
use Rattle.fir_meaning.specs.working.CircuitDependence as over
use Rattle.fir_meaning.specs.working.CircuitDependence.{CircuitDepends}
use Rattle.fir_meaning.specs.working.LeafCircuits.{LeafCircuit}
use Rattle.fir_meaning.specs.working.LeafNames.{path_of_leaf, place_of_leaf}
use Rattle.fir_meaning.specs.LeafPaths.{LeafPath, path_text}
use Rattle.fir_meaning.specs.working.LoopFaults as numbered
use Rattle.fir_meaning.specs.SourceDependence.{Depends, IsDependenceWalk}
use Rattle.fir_meaning.specs.SourceDesigns.{SourceDesign}
use Rattle.fir_meaning.specs.SourceLoops.{ShowsLoop, StandsAt, loop_fault}
use Rattle.fir_leaf.specs.working.SoundDesigns.{circuit_path}

pub record SameDependence (c : LeafCircuit) (t : SourceDesign) : Type 0 where
  pub once : (x y : ℕ) → x < length c.leaves → y < length c.leaves → circuit_path c x ≡ circuit_path c y → x ≡ y
  -- what depends on a leaf is a leaf
  pub within : (x y : ℕ) → CircuitDepends c x y → x < length c.leaves
  pub numbered : (p q : LeafPath) → Depends t p q → (x : ℕ) × (x < length c.leaves) × (circuit_path c x ≡ p)
  pub by_path : (x y : ℕ) → y < length c.leaves → CircuitDepends c x y → Depends t (circuit_path c x) (circuit_path c y)
  pub by_number :
      (x y : ℕ) → x < length c.leaves → y < length c.leaves → Depends t (circuit_path c x) (circuit_path c y) → CircuitDepends c x y
  pub stands : (x : ℕ) → x < length c.leaves → StandsAt t (circuit_path c x) (place_of_leaf c x)
  pub one_place : (x : ℕ) (place : Place) → x < length c.leaves → StandsAt t (circuit_path c x) place → place ≡ place_of_leaf c x

module _ (c : LeafCircuit) (t : SourceDesign) (s : SameDependence c t) where
  abbrev path : ℕ → LeafPath
  path = circuit_path c

  abbrev pub AreWithin : List ℕ → Type 0
  AreWithin = AllByRecursion (λ x. x < length c.leaves)

  -- from numbers to paths
  pub walk_by_path : (x : ℕ) (ys : List ℕ) (final : ℕ) → AllByRecursion (λ x. x < length c.leaves) ys → over.IsWalk c x ys final
      → IsDependenceWalk t (path x) (map path ys) (path final)
  walk_by_path x [] final within h = ap path h
  walk_by_path x (y ∷ ys) final within h = (s.by_path x y within.0 h.0, walk_by_path y ys final within.1 h.1)

  all_within : (x : ℕ) (ys : List ℕ) (last final : ℕ) → over.IsWalk c x (ys ++ last ∷ []) final → AreWithin (x ∷ ys)
  all_within x [] last final h = (s.within x last h.0, tt)
  all_within x (y ∷ ys) last final h = (s.within x y h.0, all_within y ys last final h.1)

  none_again : (x : ℕ) (ys : List ℕ) → x < length c.leaves → AreWithin ys → In (map path ys) (path x) → In ys x
  none_again x ys lt within among =
      let y = in_map_from path ys (path x) among in
      subst (In ys) (s.once y.0 x (inside ys y.0 within y.1) lt y.2) y.1
    where
      inside : (zs : List ℕ) (z : ℕ) → AreWithin zs → In zs z → z < length c.leaves
      inside [] z h m = absurd m
      inside (w ∷ zs) z h (inl e) = subst (λ v. v < length c.leaves) e h.0
      inside (w ∷ zs) z h (inr m) = inside zs z h.1 m

  pub distinct_by_path : (xs : List ℕ) → AreWithin xs → Distinct xs → Distinct (map path xs)
  distinct_by_path [] within h = tt
  distinct_by_path (x ∷ xs) within h = (λ m. h.0 (none_again x xs within.0 within.1 m), distinct_by_path xs within.1 h.1)

  pub texts : (xs : List ℕ) → map (path_of_leaf c) xs ≡ map path_text (map path xs)
  texts [] = refl
  texts (x ∷ xs) = ap (λ ts. path_of_leaf c x ∷ ts) (texts xs)

  told : (first : ℕ) (between : List ℕ) → map (path_of_leaf c) (first ∷ between ++ first ∷ [])
      ≡ map path_text (path first ∷ map path between ++ path first ∷ [])
  told first between = texts (first ∷ between ++ first ∷ []) ∙ ap (λ ps. map path_text (path first ∷ ps)) (map-append path between (first ∷ []))

  shown_by_path : (f : Fault) → numbered.ShowsLoop c f → ShowsLoop t f
  shown_by_path f h =
      let within = all_within h.first h.between h.first h.first h.walk in record {
        first = path h.first;
        between = map path h.between;
        walk =
            subst (λ ps. IsDependenceWalk t (path h.first) ps (path h.first)) (map-append path h.between (h.first ∷ []))
            (walk_by_path h.first (h.between ++ h.first ∷ []) h.first
            (all_joined (λ x. x < length c.leaves) h.between (h.first ∷ []) within.1 (within.0, tt)) h.walk);
        distinct = distinct_by_path (h.first ∷ h.between) within h.distinct;
        place = place_of_leaf c h.first;
        stands = s.stands h.first within.0;
        is = h.is ∙ ap (loop_fault (place_of_leaf c h.first)) (told h.first h.between);
      }

  -- from paths to numbers
  record Numbers (p : LeafPath) (qs : List LeafPath) : Type 0 where
    first : ℕ
    rest : List ℕ
    first_within : first < length c.leaves
    rest_within : AreWithin rest
    first_is : path first ≡ p
    rest_is : map path rest ≡ qs

  numbers_of : (p : LeafPath) (qs : List LeafPath) (last final : LeafPath) → IsDependenceWalk t p (qs ++ last ∷ []) final → Numbers p qs
  numbers_of p [] last final h =
      let x = s.numbered p last h.0 in
      record { first = x.0; rest = []; first_within = x.1; rest_within = tt; first_is = x.2; rest_is = refl }
  numbers_of p (q ∷ qs) last final h =
      let x = s.numbered p q h.0 in
      let more = numbers_of q qs last final h.1 in
      record {
        first = x.0;
        rest = more.first ∷ more.rest;
        first_within = x.1;
        rest_within = (more.first_within, more.rest_within);
        first_is = x.2;
        rest_is = ap₂ (λ y ys. y ∷ ys) more.first_is more.rest_is;
      }

  walk_by_number : (x : ℕ) (ys : List ℕ) (final : ℕ) → x < length c.leaves → AreWithin ys → final < length c.leaves
      → IsDependenceWalk t (path x) (map path ys ++ path final ∷ []) (path final) → over.IsWalk c x (ys ++ final ∷ []) final
  walk_by_number x [] final lt within less h = (s.by_number x final lt less h.0, refl)
  walk_by_number x (y ∷ ys) final lt within less h =
      (s.by_number x y lt within.0 h.0, walk_by_number y ys final within.0 within.1 less h.1)

  pub distinct_by_number : (xs : List ℕ) → Distinct (map path xs) → Distinct xs
  distinct_by_number [] h = tt
  distinct_by_number (x ∷ xs) h = (λ m. h.0 (in_map path xs x m), distinct_by_number xs h.1)

  shown_at : (f : Fault) (x : ℕ) (ys : List ℕ) (place : Place) → x < length c.leaves → AreWithin ys
      → IsDependenceWalk t (path x) (map path ys ++ path x ∷ []) (path x) → Distinct (path x ∷ map path ys) → StandsAt t (path x) place
      → f ≡ loop_fault place (map path_text (path x ∷ map path ys ++ path x ∷ [])) → numbered.ShowsLoop c f
  shown_at f x ys place lt within walk distinct stands is = record {
    first = x;
    between = ys;
    walk = walk_by_number x ys x lt within lt walk;
    distinct = distinct_by_number (x ∷ ys) distinct;
    is = is ∙ ap₂ loop_fault (s.one_place x place lt stands) (sym (told x ys));
  }

  shown_by_number : (f : Fault) → ShowsLoop t f → numbered.ShowsLoop c f
  shown_by_number f h =
      let n = numbers_of h.first h.between h.first h.first h.walk in
      go h.first h.between n.first n.rest n.first_is n.rest_is n.first_within n.rest_within h.walk h.distinct h.stands h.is
    where
      go : (p : LeafPath) (qs : List LeafPath) (x : ℕ) (ys : List ℕ) → path x ≡ p → map path ys ≡ qs → x < length c.leaves → AreWithin ys
          → IsDependenceWalk t p (qs ++ p ∷ []) p → Distinct (p ∷ qs) → StandsAt t p h.place
          → f ≡ loop_fault h.place (map path_text (p ∷ qs ++ p ∷ [])) → numbered.ShowsLoop c f
      go p qs x ys e es =
          subst (λ rs. x < length c.leaves → AreWithin ys → IsDependenceWalk t p (rs ++ p ∷ []) p → Distinct (p ∷ rs) → StandsAt t p h.place
          → f ≡ loop_fault h.place (map path_text (p ∷ rs ++ p ∷ [])) → numbered.ShowsLoop c f) es
          (subst (λ r. x < length c.leaves → AreWithin ys → IsDependenceWalk t r (map path ys ++ r ∷ []) r → Distinct (r ∷ map path ys) → StandsAt t r h.place
          → f ≡ loop_fault h.place (map path_text (r ∷ map path ys ++ r ∷ [])) → numbered.ShowsLoop c f) e
          (shown_at f x ys h.place))

  pub same_loops : (f : Fault) → numbered.ShowsLoop c f ↔ ShowsLoop t f
  same_loops f = (shown_by_path f, shown_by_number f)
