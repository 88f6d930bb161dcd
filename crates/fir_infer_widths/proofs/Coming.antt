-- What the walk makes, one form behind the other.
use Rattle.std.proofs.Common.{◌≡◌, List, [], ◌∷◌, ◌++◌, sym, ap, ◌∙◌, append_assoc}
use Rattle.std.proofs.lemmas.List.{append-nil}
use Rattle.fir_ast.specs.Circuits.{CircuitTree}
use Rattle.fir_ast.specs.Types.{DataType}
use Rattle.fir_meaning.specs.TypedScopes.{TypedScope}
use Rattle.fir_meaning.specs.WidthExpressions.{Width, Rule}
use Rattle.fir_meaning.specs.SizedTypes.{Sized}
use Rattle.fir_meaning.specs.SizedScopes.{SizedScope}
use Rattle.fir_types.specs.working.Notes.{Note}
use Rattle.fir_infer_widths.specs.declared.ground.Ground.{Ground}
use Rattle.fir_width.specs.declared.side.Side.{Side}
use Rattle.fir_infer_widths.specs.declared.spot.Spot.{Spot as SpotOfCode}
use Rattle.fir_infer_widths.specs.declared.walk.Walk.{Walk}
use Rattle.fir_infer_widths.specs.working.Numbered.{Keeps}
use Rattle.fir_width.specs.working.Sides.{IsSide}
use Rattle.fir_infer_widths.specs.working.SpotFaults.{AreSpots, IsSpot, Spotted}
use Rattle.fir_infer_widths.specs.working.Spots.{Spot}
use Rattle.fir_infer_widths.specs.working.Walks.{Ahead, Comes, ComesTo, Enters, types_in}
use Rattle.fir_infer_widths.proofs.Standing.{agrees_less, all_stand_more}

-- spots stay what they are
pub spot_more : (c : CircuitTree) (ts : List DataType) (meant more : List Width) (own : SpotOfCode) (spot : Spot) → IsSpot c ts meant own spot → IsSpot c ts (meant ++ more) own spot
spot_more c ts meant more own spot h = record {
  over = λ w u agrees. h.over w u (agrees_less meant more w u agrees);
  legal = λ w u agrees. h.legal w u (agrees_less meant more w u agrees);
}

pub spots_more : (c : CircuitTree) (ts : List DataType) (meant more : List Width) (owns : List SpotOfCode) (spots : List Spot) → AreSpots c ts meant owns spots
    → AreSpots c ts (meant ++ more) owns spots
spots_more c ts meant more [] [] h = tt
spots_more c ts meant more (own ∷ owns) (spot ∷ spots) h = (spot_more c ts meant more own spot h.0, spots_more c ts meant more owns spots h.1)
spots_more c ts meant more [] (spot ∷ spots) h = absurd h
spots_more c ts meant more (own ∷ owns) [] h = absurd h

pub spots_joined : (c : CircuitTree) (ts : List DataType) (meant : List Width) (owns more : List SpotOfCode) (spots rest : List Spot) → AreSpots c ts meant owns spots
    → AreSpots c ts meant more rest → AreSpots c ts meant (owns ++ more) (spots ++ rest)
spots_joined c ts meant [] more [] rest h k = k
spots_joined c ts meant (own ∷ owns) more (spot ∷ spots) rest h k = (h.0, spots_joined c ts meant owns more spots rest h.1 k)
spots_joined c ts meant [] more (spot ∷ spots) rest h k = absurd h
spots_joined c ts meant (own ∷ owns) more [] rest h k = absurd h

-- spots as they come
pub spotted_none : (c : CircuitTree) (ts : List DataType) (meant : List Width) (xs : List SpotOfCode) → Spotted c ts meant xs xs []
spotted_none c ts meant xs = record { more = []; grown = sym (append-nil xs); are = tt }

pub spotted_one : (c : CircuitTree) (ts : List DataType) (meant : List Width) (old new : List SpotOfCode) (own : SpotOfCode) (spot : Spot) → new ≡ old ++ own ∷ []
    → IsSpot c ts meant own spot → Spotted c ts meant old new (spot ∷ [])
spotted_one c ts meant old new own spot pushed is = record { more = own ∷ []; grown = pushed; are = (is, tt) }

pub spotted_then : (c : CircuitTree) (ts : List DataType) (meant : List Width) (x y z : List SpotOfCode) (a b : List Spot) → Spotted c ts meant x y a → Spotted c ts meant y z b
    → Spotted c ts meant x z (a ++ b)
spotted_then c ts meant x y z a b one two = record {
  more = one.more ++ two.more;
  grown = two.grown ∙ ap (λ xs. xs ++ two.more) one.grown ∙ append_assoc x one.more two.more;
  are = spots_joined c ts meant one.more two.more a b one.are two.are;
}

pub spotted_more : (c : CircuitTree) (ts : List DataType) (meant more : List Width) (x y : List SpotOfCode) (a : List Spot) → Spotted c ts meant x y a
    → Spotted c ts (meant ++ more) x y a
spotted_more c ts meant more x y a h = record { more = h.more; grown = h.grown; are = spots_more c ts meant more h.more a h.are }

-- nothing comes
pub come_none : (c : CircuitTree) (g : Ground) (meant : List Width) (rules : List Rule) (rest : List Note) (a : Walk) → Keeps meant rules a.arena → Ahead (types_in g) a.notes.now rest
    → Comes c g meant rules [] rest [] a a
come_none c g meant rules rest a keeps ahead = record {
  more = [];
  keeps = rw (append-nil meant, append-nil rules) keeps;
  ahead = ahead;
  spotted = spotted_none c (types_in g) (meant ++ []) a.spots.items;
}

-- forms, one behind the other
module _ (c : CircuitTree) (g : Ground) (meant : List Width) (rules asked : List Rule) (next : List Note) (spots : List Spot) (a b : Walk)
    (one : Comes c g meant rules asked next spots a b) where
  abbrev pub come_then : (later : List Rule) (rest : List Note) (behind : List Spot) (d : Walk) → Comes c g (meant ++ one.more) (rules ++ asked) later rest behind b d
      → Comes c g meant rules (asked ++ later) rest (spots ++ behind) a d
  come_then later rest behind d two =
      let all = append_assoc meant one.more two.more in record {
        more = one.more ++ two.more;
        keeps = rw (sym all, sym (append_assoc rules asked later)) two.keeps;
        ahead = two.ahead;
        spotted =
            rw (sym all)
            (spotted_then c (types_in g) ((meant ++ one.more) ++ two.more) a.spots.items b.spots.items d.spots.items spots behind
            (spotted_more c (types_in g) (meant ++ one.more) two.more a.spots.items b.spots.items spots one.spotted) two.spotted);
      }

  -- behind a form stands what stood before it
  pub enters_then : (typed : TypedScope) (sized : SizedScope) (notes : List Note) → Enters g typed sized meant rules notes a
      → Enters g typed sized (meant ++ one.more) (rules ++ asked) next b
  enters_then typed sized notes enters = record {
    stand = all_stand_more meant one.more g.first_leaves.now typed sized enters.stand;
    keeps = one.keeps;
    ahead = one.ahead;
  }

-- a form of an expression behind another
pub come_to_then : (c : CircuitTree) (g : Ground) (meant : List Width) (rules : List Rule) (next : List Note) (spots : List Spot) (a b : Walk)
    (one : Comes c g meant rules [] next spots a b) → b.declared ≡ a.declared → (rest : List Note) (behind : List Spot) (s : Sized) (d : Walk) (side : Side)
    → ComesTo c g (meant ++ one.more) (rules ++ []) rest behind s b d side → ComesTo c g meant rules rest (spots ++ behind) s a d side
come_to_then c g meant rules next spots a b one stays rest behind s d side two = record {
  comes = come_then c g meant rules [] next spots a b one [] rest behind d two.comes;
  is = rw (sym (append_assoc meant one.more two.comes.more)) two.is;
  stays = two.stays ∙ stays;
}

-- a form is made: its own expressions get numbers, and its spot comes
pub come_made : (c : CircuitTree) (g : Ground) (meant own : List Width) (rules : List Rule) (rest : List Note) (code : SpotOfCode) (spot : Spot) (s : Sized) (old new : Walk) (side : Side)
    → Keeps (meant ++ own) rules new.arena → Ahead (types_in g) new.notes.now rest → new.spots.items ≡ old.spots.items ++ code ∷ [] → new.declared ≡ old.declared
    → IsSide (types_in g) (meant ++ own) side s → IsSpot c (types_in g) (meant ++ own) code spot → ComesTo c g meant rules rest (spot ∷ []) s old new side
come_made c g meant own rules rest code spot s old new side keeps ahead pushed stays is shows = record {
  comes = record {
    more = own;
    keeps = rw (append-nil rules) keeps;
    ahead = ahead;
    spotted = spotted_one c (types_in g) (meant ++ own) old.spots.items new.spots.items code spot pushed shows;
  };
  is = is;
  stays = stays;
}

-- and one that makes none
pub come_read : (c : CircuitTree) (g : Ground) (meant : List Width) (rules : List Rule) (rest : List Note) (code : SpotOfCode) (spot : Spot) (s : Sized) (old new : Walk) (side : Side)
    → Keeps meant rules new.arena → Ahead (types_in g) new.notes.now rest → new.spots.items ≡ old.spots.items ++ code ∷ [] → new.declared ≡ old.declared
    → IsSide (types_in g) meant side s → IsSpot c (types_in g) meant code spot → ComesTo c g meant rules rest (spot ∷ []) s old new side
come_read c g meant rules rest code spot s old new side keeps ahead pushed stays is shows =
    come_made c g meant [] rules rest code spot s old new side (rw (append-nil meant) keeps) ahead pushed stays (rw (append-nil meant) is) (rw (append-nil meant) shows)
