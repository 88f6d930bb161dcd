-- The operands of a form come one behind the other, and then the form itself.
use Rattle.std.proofs.Common.{◌≡◌, List, [], ◌∷◌, ◌++◌, Result, sym, ◌∙◌, subst, append_assoc}
use Rattle.std.specs.Prelude.{IfOk}
use Rattle.std.proofs.lemmas.Result.{IfOk-weaker}
use Rattle.fir_ast.specs.Circuits.{CircuitTree}
use Rattle.fir_meaning.specs.TypedScopes.{TypedScope}
use Rattle.fir_meaning.specs.SizedScopes.{SizedScope}
use Rattle.fir_meaning.specs.SizedTypes.{Sized}
use Rattle.fir_meaning.specs.WidthExpressions.{Rule, Width}
use Rattle.fir_types.specs.working.Notes.{Note}
use Rattle.fir_infer_widths.specs.declared.ground.Ground.{Ground}
use Rattle.fir_width.specs.declared.side.Side.{Side}
use Rattle.fir_infer_widths.specs.declared.spot.Spot.{Spot as SpotOfCode}
use Rattle.fir_infer_widths.specs.declared.walk.Walk.{Walk}
use Rattle.fir_infer_widths.specs.working.Scenes.{AllStand}
use Rattle.fir_width.specs.working.Sides.{IsSide}
use Rattle.fir_infer_widths.specs.working.SpotFaults.{IsSpot}
use Rattle.fir_infer_widths.specs.working.Spots.{Spot}
use Rattle.fir_infer_widths.specs.working.Walks.{Comes, ComesTo, ComesToAll, Enters, types_in}
use Rattle.fir_infer_widths.proofs.Coming.{come_then, come_to_then, enters_then, spotted_one, spotted_then}
use Rattle.fir_infer_widths.proofs.Standing.{all_stand_more, side_more}

module _ (c : CircuitTree) (g : Ground) (typed : TypedScope) (sized : SizedScope) (meant : List Width) (rules : List Rule) where
  -- some have come, and the walk is in front of what is next
  pub record Came (next : List Note) (spots : List Spot) (a b : Walk) : Type 0 where
    pub comes : Comes c g meant rules [] next spots a b
    pub enters : Enters g typed sized (meant ++ comes.more) (rules ++ []) next b
    pub stays : b.declared ≡ a.declared

  abbrev pub came_first : (notes next : List Note) (spots : List Spot) (s : Sized) (a b : Walk) (side : Side) → Enters g typed sized meant rules notes a
      → ComesTo c g meant rules next spots s a b side → Came next spots a b
  came_first notes next spots s a b side enters one = record {
    comes = one.comes;
    enters = enters_then c g meant rules [] next spots a b one.comes typed sized notes enters;
    stays = one.stays;
  }

  abbrev pub came_all : (notes next : List Note) (spots : List Spot) (ss : List Sized) (a b : Walk) (sides : List Side) → Enters g typed sized meant rules notes a
      → ComesToAll c g meant rules next spots ss a b sides → Came next spots a b
  came_all notes next spots ss a b sides enters all = record {
    comes = all.comes;
    enters = enters_then c g meant rules [] next spots a b all.comes typed sized notes enters;
    stays = all.stays;
  }

  module _ (next : List Note) (spots : List Spot) (a b : Walk) (came : Came next spots a b) (rest : List Note) (more : List Spot) (s : Sized) (d : Walk) (side : Side)
      (two : ComesTo c g (meant ++ came.comes.more) (rules ++ []) rest more s b d side) where
    -- one more comes
    abbrev pub came_next : Came rest (spots ++ more) a d
    came_next =
        let both = come_then c g meant rules [] next spots a b came.comes [] rest more d two.comes in
        record {
          comes = both;
          enters = record {
            stand =
                subst (λ xs. AllStand xs g.first_leaves.now typed sized) (append_assoc meant came.comes.more two.comes.more)
                (all_stand_more (meant ++ came.comes.more) two.comes.more g.first_leaves.now typed sized came.enters.stand);
            keeps = both.keeps;
            ahead = two.comes.ahead;
          };
          stays = two.stays ∙ came.stays;
        }

    pub old_side : (x : Side) (u : Sized) → IsSide (types_in g) (meant ++ came.comes.more) x u → IsSide (types_in g) (meant ++ (came.comes.more ++ two.comes.more)) x u
    old_side x u h = rw (sym (append_assoc meant came.comes.more two.comes.more)) (side_more (types_in g) (meant ++ came.comes.more) two.comes.more x u h)

    pub new_side : IsSide (types_in g) (meant ++ (came.comes.more ++ two.comes.more)) side s
    new_side = rw (sym (append_assoc meant came.comes.more two.comes.more)) two.is

  -- and then the form
  pub came_last : {E : Type 0} (next : List Note) (spots : List Spot) (a b : Walk) (came : Came next spots a b) (rest : List Note) (more : List Spot) (s : Sized) (d : Walk) (result : Result Side E)
      → IfOk result (ComesTo c g (meant ++ came.comes.more) (rules ++ []) rest more s b d) → IfOk result (ComesTo c g meant rules rest (spots ++ more) s a d)
  came_last next spots a b came rest more s d result h =
      IfOk-weaker result _ _ (λ side two. come_to_then c g meant rules next spots a b came.comes came.stays rest more s d side two) h

-- a spot more
pub come_spot : (c : CircuitTree) (g : Ground) (meant : List Width) (rules : List Rule) (rest : List Note) (spots : List Spot) (own : SpotOfCode) (spot : Spot) (s : Sized) (a b d : Walk) (side : Side)
    → (one : ComesTo c g meant rules rest spots s a b side) → d.arena ≡ b.arena → d.notes ≡ b.notes → d.declared ≡ b.declared → d.spots.items ≡ b.spots.items ++ own ∷ []
    → IsSpot c (types_in g) (meant ++ one.comes.more) own spot → ComesTo c g meant rules rest (spots ++ spot ∷ []) s a d side
come_spot c g meant rules rest spots own spot s a b d side one arena notes declared pushed shows = record {
  comes = record {
    more = one.comes.more;
    keeps = rw arena one.comes.keeps;
    ahead = rw notes one.comes.ahead;
    spotted =
        spotted_then c (types_in g) (meant ++ one.comes.more) a.spots.items b.spots.items d.spots.items spots (spot ∷ []) one.comes.spotted
        (spotted_one c (types_in g) (meant ++ one.comes.more) b.spots.items d.spots.items own spot pushed shows);
  };
  is = one.is;
  stays = declared ∙ one.stays;
}
