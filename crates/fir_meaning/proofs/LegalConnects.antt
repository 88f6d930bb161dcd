-- A connect drives no source exactly where it shows no fault of flows.
use Rattle.std.proofs.Common.{◌≡◌, List, [], ◌∷◌, take, flat_map, Bool, true, false, if◌then◌else◌, Option, Some, None, All, refl}
use Rattle.std.proofs.lemmas.List.Elements.{All-nil, All-cons, All-head, All-tail}
use Rattle.fir_ast.specs.declared.place.Place.{Place}
use Rattle.fir_ast.specs.Types.{DataType}
use Rattle.fir_ast.specs.Faults.{Fault}
use Rattle.fir_meaning.specs.LeafPaths.{LeafPath}
use Rattle.fir_meaning.specs.TypeLeaves.{TypeLeaf}
use Rattle.fir_meaning.specs.ConnectPairs.{Pair}
use Rattle.fir_meaning.specs.Flows.{flow_under, is_source}
use Rattle.fir_meaning.specs.KindFaults.{wrong_types}
use Rattle.fir_meaning.specs.Reaching.{Reached, further}
use Rattle.fir_meaning.specs.ConnectFaults.{flow_at, driven_leaf, driven_of_pair, driven_faults}
use Rattle.fir_meaning.specs.working.WellTyped.{MayBeDriven, MayBeDrivenIn, FlowsTo, PairFlows}
use Rattle.fir_base.proofs.Empty.{empty_left, empty_right}

first_none : {A : Type 0} → (xs : List A) → take 1 xs ≡ [] → xs ≡ []
first_none [] h = refl
first_none (x ∷ xs) h = cc

-- a leaf
clear_leaf : (p : Place) (r : Reached) (l : TypeLeaf) → driven_leaf p (Some r) l ≡ [] → MayBeDriven r l
clear_leaf p r l h = by (is_source (flow_under l.flip r.flow)) (further r l.path) h
  where
    by : (b : Bool) (o : Option LeafPath) → (if b then flow_at p o else []) ≡ [] → (path : LeafPath) → o ≡ Some path → b ≡ false
    by false o k path e = refl
    by true None k path e = cc
    by true (Some q) k path e = cc

legal_leaf : (p : Place) (r : Reached) (l : TypeLeaf) → MayBeDriven r l → driven_leaf p (Some r) l ≡ []
legal_leaf p r l h = by (is_source (flow_under l.flip r.flow)) (further r l.path) h
  where
    by : (b : Bool) (o : Option LeafPath) → ((path : LeafPath) → o ≡ Some path → b ≡ false) → (if b then flow_at p o else []) ≡ []
    by false o k = refl
    by true None k = refl
    by true (Some q) k = let e : true ≡ false = k q refl in cc

clear_leaf_in : (p : Place) (r : Option Reached) (l : TypeLeaf) → driven_leaf p r l ≡ [] → MayBeDrivenIn r l
clear_leaf_in p None l h = tt
clear_leaf_in p (Some r) l h = clear_leaf p r l h

legal_leaf_in : (p : Place) (r : Option Reached) (l : TypeLeaf) → MayBeDrivenIn r l → driven_leaf p r l ≡ []
legal_leaf_in p None l h = refl
legal_leaf_in p (Some r) l h = legal_leaf p r l h

-- the pairs of a connect
module _ (p : Place) (left : Reached) (right : Option Reached) where
  clear_pair : (pair : Pair) → driven_of_pair p (Some left) right pair ≡ [] → PairFlows left right pair
  clear_pair pair h = by pair.left.flip h
    where
      by : (b : Bool) → (if b then driven_leaf p right pair.right else driven_leaf p (Some left) pair.left) ≡ [] → FlowsTo b left right pair
      by true k = clear_leaf_in p right pair.right k
      by false k = clear_leaf p left pair.left k

  legal_pair : (pair : Pair) → PairFlows left right pair → driven_of_pair p (Some left) right pair ≡ []
  legal_pair pair h = by pair.left.flip h
    where
      by : (b : Bool) → FlowsTo b left right pair → (if b then driven_leaf p right pair.right else driven_leaf p (Some left) pair.left) ≡ []
      by true k = legal_leaf_in p right pair.right k
      by false k = legal_leaf p left pair.left k

  clear_each : (ps : List Pair) → flat_map (driven_of_pair p (Some left) right) ps ≡ [] → All (PairFlows left right) ps
  clear_each [] h = All-nil (PairFlows left right)
  clear_each (x ∷ ps) h =
      let here = driven_of_pair p (Some left) right x in
      let more = flat_map (driven_of_pair p (Some left) right) ps in
      All-cons (PairFlows left right) x ps (clear_pair x (empty_left here more h)) (clear_each ps (empty_right here more h))

  legal_each : (ps : List Pair) → All (PairFlows left right) ps → flat_map (driven_of_pair p (Some left) right) ps ≡ []
  legal_each [] h = refl
  legal_each (x ∷ ps) h = rw (legal_pair x (All-head (PairFlows left right) x ps h), legal_each ps (All-tail (PairFlows left right) x ps h)) refl

-- what a connect shows of its sides, by which types it joins and which leaves it pairs
module _ (fits : DataType → DataType → Bool) (pairs_of : DataType → DataType → List Pair) (p : Place) (right : Option Reached) where
  abbrev pub faults_of_sides : Reached × DataType → List Fault
  faults_of_sides found =
      if fits found.0.data_type found.1
      then driven_faults p (Some found.0) right (pairs_of found.0.data_type found.1)
      else wrong_types p found.0.data_type found.1 ∷ []

  -- the types fit, and no source is driven
  abbrev pub SidesFit : Reached × DataType → Type 0
  SidesFit found = (fits found.0.data_type found.1 ≡ true) × All (PairFlows found.0 right) (pairs_of found.0.data_type found.1)

  pub clear_connect : (found : Reached × DataType) → faults_of_sides found ≡ [] → SidesFit found
  clear_connect found h = by (fits found.0.data_type found.1) h
    where
      ps : List Pair
      ps = pairs_of found.0.data_type found.1

      by : (b : Bool) → (if b then driven_faults p (Some found.0) right ps else wrong_types p found.0.data_type found.1 ∷ []) ≡ [] → (b ≡ true) × All (PairFlows found.0 right) ps
      by true k = (refl, clear_each p found.0 right ps (first_none (flat_map (driven_of_pair p (Some found.0) right) ps) k))
      by false k = cc

  pub legal_connect : (found : Reached × DataType) → SidesFit found → faults_of_sides found ≡ []
  legal_connect found h = rw (h.0, legal_each p found.0 right (pairs_of found.0.data_type found.1) h.1) refl
