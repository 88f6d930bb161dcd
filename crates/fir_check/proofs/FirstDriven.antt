-- The first driven leaf that is a source: its orientation and path, and the fault that it shows.
use Rattle.std.proofs.Common.{◌≡◌, ℕ, List, [], ◌∷◌, ◌++◌, map, take, flat_map, Bool, true, false, ◌&&◌, if◌then◌else◌, Option, Some, None, refl, sym, ap, ◌∙◌, subst, inl, inr}
use Rattle.std.specs.Prelude.{option_map}
use Rattle.std.proofs.lemmas.Option.{none-some, same_Some}
use Rattle.fir_base.proofs.Tests.{chosen}
use Rattle.fir_ast.specs.declared.place.Place.{Place}
use Rattle.fir_ast.specs.Types.{DataType}
use Rattle.fir_ast.specs.Expressions.{Expression, reference}
use Rattle.fir_ast.specs.Statements.{SinkReference}
use Rattle.fir_ast.specs.Faults.{Fault}
use Rattle.fir_meaning.specs.LeafPaths.{LeafPath, step_text}
use Rattle.fir_meaning.specs.TypeLeaves.{TypeLeaf, type_leaves}
use Rattle.fir_meaning.specs.Equivalence.{is_connectable, is_partly_connectable}
use Rattle.fir_meaning.specs.ConnectPairs.{Pair, pairs, partial_pairs}
use Rattle.fir_meaning.specs.Flows.{flow_under, is_source}
use Rattle.fir_meaning.specs.KindFaults.{wrong_flow}
use Rattle.fir_meaning.specs.MemoryTypes.{first_one}
use Rattle.fir_meaning.specs.Reaching.{Reached, further}
use Rattle.fir_meaning.specs.ConnectFaults.{flow_at, driven_leaf, driven_of_pair, driven_faults, connect_faults, partial_connect_faults}
use Rattle.fir_meaning.proofs.PairedLeaves.{pairs_leaves}
use Rattle.fir_type_table.specs.working.Wanted.{first_wanted, first_wanted_pair}
use Rattle.fir_check.specs.declared.drives.Sides.{Sides}
use Rattle.fir_types.specs.declared.reach.Reach.{Reach}
use Rattle.fir_types.specs.working.Seen.{found_type, reached_as, sink_path, flow_seen}
use Rattle.fir_check.specs.working.Connected.{source_path, IsByReference}
use Rattle.fir_check.specs.working.Driven.{spot_of_pair, first_driven, is_source_at, is_source_on_right, spot_text, on_right, flow_faults}
use Rattle.fir_types.specs.working.Spots.{Spot, spot_of}
use Rattle.fir_check.proofs.PairSpots.{right_spot, twin_pairs, twin_partial_pairs}

abbrev steps_text : Spot → List ℕ
steps_text s = flat_map step_text s.1

chosen_text : (b : Bool) (s : Spot) (o : Option LeafPath) (q : Option Spot) → option_map (flat_map step_text) o ≡ option_map steps_text q
    → option_map (flat_map step_text) (if b then Some s.1 else o) ≡ option_map steps_text (if b then Some s else q)
chosen_text true s o q h = refl
chosen_text false s o q h = h

-- the path that is wanted is that of the first
pub wanted_text : (sides : Sides) (ls : List TypeLeaf)
    → option_map (flat_map step_text) (first_wanted sides.straight sides.flipped ls) ≡ option_map steps_text (first_driven sides (map spot_of ls))
wanted_text sides [] = refl
wanted_text sides (l ∷ ls) =
    chosen_text (if l.flip then sides.flipped else sides.straight) (spot_of l) (first_wanted sides.straight sides.flipped ls)
    (first_driven sides (map spot_of ls)) (wanted_text sides ls)

pub wanted_pair_text : (sides : Sides) (ps : List Pair)
    → option_map (flat_map step_text) (first_wanted_pair sides.straight sides.flipped ps) ≡ option_map steps_text (first_driven sides (map spot_of_pair ps))
wanted_pair_text sides [] = refl
wanted_pair_text sides (p ∷ ps) =
    chosen_text (if p.left.flip then sides.flipped else sides.straight) (spot_of_pair p) (first_wanted_pair sides.straight sides.flipped ps)
    (first_driven sides (map spot_of_pair ps)) (wanted_pair_text sides ps)

pub first_flip : {A : Type 0} → (spot : A → Spot) (xs : List A)
    → option_map (λ x. (spot x).0) (first_one xs) ≡ option_map (λ s. s.0) (first_one (map spot xs))
first_flip spot [] = refl
first_flip spot (x ∷ xs) = refl

-- the side of the first is wanted
wanted_side : (sides : Sides) (ks : List Spot) (k : Spot) → first_driven sides ks ≡ Some k → (if k.0 then sides.flipped else sides.straight) ≡ true
wanted_side sides [] k h = absurd (none-some k h)
wanted_side sides (s ∷ ss) k h =
    elim (chosen (if s.0 then sides.flipped else sides.straight) (Some s) (first_driven sides ss) (Some k) h) [
      | inl e ↦ subst (λ (x : Spot). (if x.0 then sides.flipped else sides.straight) ≡ true) (same_Some s k e.1) e.0
      | inr e ↦ wanted_side sides ss k e.1
    ]

pub one_side : (sides : Sides) (ks : List Spot) (k : Spot) → (sides.straight && sides.flipped) ≡ false → first_driven sides ks ≡ Some k → sides.flipped ≡ k.0
one_side sides ks k one h = by sides.straight sides.flipped k.0 one (wanted_side sides ks k h)
  where
    by : (straight flipped flip : Bool) → (straight && flipped) ≡ false → (if flip then flipped else straight) ≡ true → flipped ≡ flip
    by true true flip e w = cc
    by true false true e w = w
    by true false false e w = refl
    by false true true e w = refl
    by false true false e w = sym w
    by false false true e w = w
    by false false false e w = cc

-- none where no side is wanted
neither : (b x y : Bool) → x ≡ false → y ≡ false → (if b then x else y) ≡ false
neither true x y h k = h
neither false x y h k = k

pub none_driven : (sides : Sides) (ks : List Spot) → sides.straight ≡ false → sides.flipped ≡ false → None ≡ option_map spot_text (first_driven sides ks)
none_driven sides [] straight flipped = refl
none_driven sides (k ∷ ks) straight flipped = rw (neither k.0 sides.flipped sides.straight flipped straight) (none_driven sides ks straight flipped)

-- what a leaf shows, by its orientation and path
abbrev at_spot : Place → Option Reached → Spot → List Fault
at_spot p None k = []
at_spot p (Some r) k = if is_source (flow_under k.0 r.flow) then flow_at p (further r k.1) else []

abbrev driven_spot : Place → Option Reached → Option Reached → Spot → List Fault
driven_spot p left right k = if k.0 then at_spot p right k else at_spot p left k

leaf_spot : (p : Place) (r : Option Reached) (l : TypeLeaf) → driven_leaf p r l ≡ at_spot p r (spot_of l)
leaf_spot p None l = refl
leaf_spot p (Some r) l = refl

pair_spot : (p : Place) (left right : Option Reached) (pair : Pair) → right_spot pair ≡ spot_of_pair pair
    → driven_of_pair p left right pair ≡ driven_spot p left right (spot_of_pair pair)
pair_spot p left right pair same =
    ap (λ fs. if pair.left.flip then fs else driven_leaf p left pair.left) (leaf_spot p right pair.right ∙ ap (at_spot p right) same)
    ∙ ap (λ fs. if pair.left.flip then at_spot p right (spot_of_pair pair) else fs) (leaf_spot p left pair.left)

pair_spots : (p : Place) (left right : Option Reached) (ps : List Pair) → map right_spot ps ≡ map spot_of_pair ps
    → flat_map (driven_of_pair p left right) ps ≡ flat_map (driven_spot p left right) (map spot_of_pair ps)
pair_spots p left right [] same = refl
pair_spots p left right (x ∷ ps) same =
    let here : right_spot x ≡ spot_of_pair x = cc in
    let rest : map right_spot ps ≡ map spot_of_pair ps = cc in
    rw (pair_spot p left right x here, pair_spots p left right ps rest) refl

-- at what the code has reached
shown_spot : (p : Place) (base steps : LeafPath) (leads source : Bool)
    → (if source then flow_at p (option_map (λ path. path ++ steps) (if leads then Some base else None)) else [])
    ≡ (if leads && source then wrong_flow p (base ++ steps) ∷ [] else [])
shown_spot p base steps true true = refl
shown_spot p base steps true false = refl
shown_spot p base steps false true = refl
shown_spot p base steps false false = refl

first_shown : (b : Bool) (f : Fault) (rest : List Fault) → take 1 ((if b then f ∷ [] else []) ++ rest) ≡ if b then f ∷ [] else take 1 rest
first_shown true f rest = refl
first_shown false f rest = refl

one_shown : (ts : List DataType) (p : Place) (base : LeafPath) (r : Reach) (k : Spot) (rest : List Fault)
    → take 1 (at_spot p (Some (reached_as ts base r)) k ++ rest) ≡ if is_source_at k.0 r then wrong_flow p (base ++ k.1) ∷ [] else take 1 rest
one_shown ts p base r k rest =
    ap (λ fs. take 1 (fs ++ rest)) (shown_spot p base k.1 r.leads (is_source (flow_under k.0 (flow_seen r.flow))))
    ∙ first_shown (is_source_at k.0 r) (wrong_flow p (base ++ k.1)) rest

right_shown : (ts : List DataType) (p : Place) (e : Expression) (r : Option Reach) (steps : LeafPath) (rest : List Fault) → IsByReference e r
    → take 1 (at_spot p (option_map (reached_as ts (source_path e)) r) (true, steps) ++ rest)
    ≡ if is_source_on_right r then on_right p e steps else take 1 rest
right_shown ts p e None steps rest by = refl
right_shown ts p (reference q n ps) (Some r) steps rest by = one_shown ts p (sink_path (record { place = q; name = n; parts = ps })) r (true, steps) rest
right_shown ts p e (Some r) steps rest by = absurd (none-some r (sym by))

-- the first that is shown is that of the first leaf
module _ (ts : List DataType) (p : Place) (sink : SinkReference) (e : Expression) (l : Reach) (r : Option Reach) (by : IsByReference e r) (sides : Sides)
    (straight : sides.straight ≡ is_source_at false l) (flipped : sides.flipped ≡ is_source_on_right r) where
  told : (b : Bool) (s : Spot) (o : Option Spot)
      → (if b then flow_faults p sink e (Some s) else flow_faults p sink e o) ≡ flow_faults p sink e (if b then Some s else o)
  told true s o = refl
  told false s o = refl

  abbrev shown_by : List Spot → List Fault
  shown_by ks = flat_map (driven_spot p (Some (reached_as ts (sink_path sink) l)) (option_map (reached_as ts (source_path e)) r)) ks

  first_spots : (ks : List Spot) → take 1 (shown_by ks) ≡ flow_faults p sink e (first_driven sides ks)
  first_spots [] = refl
  first_spots ((true, steps) ∷ ks) =
      right_shown ts p e r steps (shown_by ks) by ∙ ap (λ b. if b then on_right p e steps else take 1 (shown_by ks)) (sym flipped)
      ∙ ap (λ fs. if sides.flipped then on_right p e steps else fs) (first_spots ks) ∙ told sides.flipped (true, steps) (first_driven sides ks)
  first_spots ((false, steps) ∷ ks) =
      one_shown ts p (sink_path sink) l (false, steps) (shown_by ks)
      ∙ ap (λ b. if b then wrong_flow p (sink_path sink ++ steps) ∷ [] else take 1 (shown_by ks)) (sym straight)
      ∙ ap (λ fs. if sides.straight then wrong_flow p (sink_path sink ++ steps) ∷ [] else fs) (first_spots ks)
      ∙ told sides.straight (false, steps) (first_driven sides ks)

  pub first_of_pairs : (ps : List Pair) → map right_spot ps ≡ map spot_of_pair ps
      → driven_faults p (Some (reached_as ts (sink_path sink) l)) (option_map (reached_as ts (source_path e)) r) ps
      ≡ flow_faults p sink e (first_driven sides (map spot_of_pair ps))
  first_of_pairs ps same =
      ap (take 1) (pair_spots p (Some (reached_as ts (sink_path sink) l)) (option_map (reached_as ts (source_path e)) r) ps same)
      ∙ first_spots (map spot_of_pair ps)

  by_lefts : (ps : List Pair) → map spot_of_pair ps ≡ map spot_of (map (λ (x : Pair). x.left) ps)
  by_lefts [] = refl
  by_lefts (x ∷ ps) = ap (λ ks. spot_of_pair x ∷ ks) (by_lefts ps)

  pub connect_flows : (t : DataType) → is_connectable (found_type ts l.found) t ≡ true
      → connect_faults p (reached_as ts (sink_path sink) l) (option_map (reached_as ts (source_path e)) r) t
      ≡ flow_faults p sink e (first_driven sides (map spot_of (type_leaves (found_type ts l.found))))
  connect_flows t fit =
      let s = found_type ts l.found in
      rw fit
      (first_of_pairs (pairs s t) (twin_pairs s t)
      ∙ ap (λ ks. flow_faults p sink e (first_driven sides ks)) (by_lefts (pairs s t) ∙ ap (map spot_of) (pairs_leaves s t fit).left))

  pub partial_flows : (t : DataType) → is_partly_connectable (found_type ts l.found) t ≡ true
      → partial_connect_faults p (reached_as ts (sink_path sink) l) (option_map (reached_as ts (source_path e)) r) t
      ≡ flow_faults p sink e (first_driven sides (map spot_of_pair (partial_pairs (found_type ts l.found) t)))
  partial_flows t fit = let s = found_type ts l.found in rw fit (first_of_pairs (partial_pairs s t) (twin_partial_pairs s t))
