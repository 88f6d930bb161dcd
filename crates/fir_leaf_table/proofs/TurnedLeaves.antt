-- How the leaves of a type are turned: below a field, in a vector, and without widths.
use Rattle.std.proofs.Common.{◌≡◌, ℕ, zero, suc, ◌+◌, List, [], ◌∷◌, ◌++◌, map, Bool, true, false, refl, sym, ap, ◌∙◌}
use Rattle.std.proofs.lemmas.List.{map-append}
use Rattle.fir_ast.specs.declared.place.Place.{Place}
use Rattle.fir_ast.specs.Types.{DataType, Fields, field}
use Rattle.fir_meaning.specs.LeafPaths.{Step, named, element}
use Rattle.fir_meaning.specs.TypeLeaves.{TypeLeaf, element_leaves, field_leaves, turned, type_leaves, under}
use Rattle.fir_type_table.specs.working.Tables.{shown}
use Rattle.fir_types.specs.working.Spots.{Spot, spot_of}
use Rattle.fir_types.proofs.LeafSpots.{shown_leaves}
use Rattle.fir_meaning.specs.HeldTypes.{repeated}
use Rattle.fir_leaf_table.specs.working.TypedLeaves.{flips_of}

pub flips_joined : (ls ks : List TypeLeaf) → flips_of (ls ++ ks) ≡ flips_of ls ++ flips_of ks
flips_joined ls ks = map-append (λ (l : TypeLeaf). l.flip) ls ks

flips_under : (flip : Bool) (s : Step) (ls : List TypeLeaf) → flips_of (map (under flip s) ls) ≡ map (turned flip) (flips_of ls)
flips_under flip s [] = refl
flips_under flip s (l ∷ ls) = ap (λ bs. turned flip l.flip ∷ bs) (flips_under flip s ls)

-- below no flip they are as they were
pub straight : (bs : List Bool) → map (turned false) bs ≡ bs
straight [] = refl
straight (b ∷ bs) = ap (λ cs. b ∷ cs) (straight bs)

pub turned_once : (flip : Bool) → turned flip false ≡ flip
turned_once true = refl
turned_once false = refl

-- below two fields
twice_turned : (a b c : Bool) → turned a (turned b c) ≡ turned (turned a b) c
twice_turned false b c = refl
twice_turned true false c = refl
twice_turned true true true = refl
twice_turned true true false = refl

turned_twice : (a b : Bool) (cs : List Bool) → map (turned a) (map (turned b) cs) ≡ map (turned (turned a b)) cs
turned_twice a b [] = refl
turned_twice a b (c ∷ cs) = rw (twice_turned a b c, turned_twice a b cs) refl

pub turned_field : (flip : Bool) (p : Place) (f : Bool) (x : List ℕ) (begins : Place) (t : DataType) (rest : Fields)
    → map (turned flip) (flips_of (field_leaves (field p f x begins t rest)))
    ≡ map (turned (turned flip f)) (flips_of (type_leaves t)) ++ map (turned flip) (flips_of (field_leaves rest))
turned_field flip p f x begins t rest =
    ap (map (turned flip))
    (flips_joined (map (under f (named x)) (type_leaves t)) (field_leaves rest)
    ∙ ap (λ bs. bs ++ flips_of (field_leaves rest)) (flips_under f (named x) (type_leaves t)))
    ∙ map-append (turned flip) (map (turned f) (flips_of (type_leaves t))) (flips_of (field_leaves rest))
    ∙ ap (λ bs. bs ++ map (turned flip) (flips_of (field_leaves rest))) (turned_twice flip f (flips_of (type_leaves t)))

-- of so many elements
pub flips_repeated : (i n : ℕ) (ls : List TypeLeaf) → flips_of (element_leaves i n ls) ≡ repeated n (flips_of ls)
flips_repeated i zero ls = refl
flips_repeated i (suc n) ls =
    flips_joined (map (under false (element i)) ls) (element_leaves (i + 1) n ls)
    ∙ ap (λ bs. bs ++ flips_of (element_leaves (i + 1) n ls)) (flips_under false (element i) ls ∙ straight (flips_of ls))
    ∙ ap (λ bs. flips_of ls ++ bs) (flips_repeated (i + 1) n ls)

-- without widths
flips_of_spots : (ls : List TypeLeaf) → flips_of ls ≡ map (λ (k : Spot). k.0) (map spot_of ls)
flips_of_spots [] = refl
flips_of_spots (l ∷ ls) = ap (λ bs. l.flip ∷ bs) (flips_of_spots ls)

pub shown_flips : (is_bare : Bool) (t : DataType) → flips_of (type_leaves (shown is_bare t)) ≡ flips_of (type_leaves t)
shown_flips is_bare t =
    flips_of_spots (type_leaves (shown is_bare t)) ∙ ap (map (λ (k : Spot). k.0)) (shown_leaves is_bare t) ∙ sym (flips_of_spots (type_leaves t))
