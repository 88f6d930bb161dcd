-- Forms of expressions come behind their operands.
use Rattle.std.proofs.Common.{◌≡◌, ℕ, List, [], ◌∷◌, ◌++◌, Result, refl, subst, append_assoc}
use Rattle.std.specs.Prelude.{IfOk}
use Rattle.fir_ast.specs.Circuits.{CircuitTree}
use Rattle.fir_ast.specs.Expressions.{Expression, Expressions, Parts, mux, operation, subaccess, validif}
use Rattle.fir_ast.specs.Types.{DataType}
use Rattle.fir_bits.specs.declared.operators.PrimOp.{PrimOp}
use Rattle.fir_ast.specs.declared.place.Place.{Place}
use Rattle.fir_meaning.specs.Reaching.{Reached}
use Rattle.fir_meaning.specs.TypedScopes.{TypedScope}
use Rattle.fir_meaning.specs.SizedScopes.{SizedScope, sized_type, sized_types}
use Rattle.fir_meaning.specs.working.WellTyped.{HasType, HaveTypes, Leads}
use Rattle.fir_meaning.specs.WidthExpressions.{Rule, Width}
use Rattle.fir_types.specs.working.Notes.{Note, expression_note, expression_notes, notes_of_each, part_notes}
use Rattle.fir_infer_widths.specs.declared.ground.Ground.{Ground}
use Rattle.fir_width.specs.declared.side.Side.{Side}
use Rattle.fir_infer_widths.specs.declared.walk.Walk.{Walk}
use Rattle.fir_width.specs.working.Sides.{IsSide}
use Rattle.fir_infer_widths.specs.working.Spots.{Spot, of_expression, spots_of_condition, spots_within, spots_within_each}
use Rattle.fir_infer_widths.specs.working.Walks.{AreSides, ComesPast, ComesTo, ComesToAll, Enters, types_in}
use Rattle.fir_infer_widths.proofs.OperandsCome.{came_all, came_first, came_last, came_next, new_side, old_side}

module _ (tree : CircuitTree) (g : Ground) (typed : TypedScope) (sized : SizedScope) where
  -- what the walk does for an expression with these spots, for operands, and for a form in front of whose note it is
  abbrev pub Gives : Expression → List Spot → Walk → Walk → Side → Type 0
  Gives e spots a b side =
      (t : DataType) (meant : List Width) (rules : List Rule) (rest : List Note) → Enters g typed sized meant rules (expression_notes typed e ++ rest) a → HasType typed e t
      → ComesTo tree g meant rules rest spots (sized_type sized e) a b side

  abbrev pub GivesAll : Expressions → Walk → Walk → List Side → Type 0
  GivesAll es a b sides =
      (ts : List DataType) (meant : List Width) (rules : List Rule) (rest : List Note) → Enters g typed sized meant rules (notes_of_each typed es ++ rest) a → HaveTypes typed es ts
      → ComesToAll tree g meant rules rest (spots_within_each sized es) (sized_types sized es) a b sides

  module _ {E : Type 0} (meant : List Width) (rules : List Rule) (rest : List Note) (t : DataType) where
    abbrev Form : Expression → List Width → List Rule → Walk → Walk → Result Side E → Type 0
    Form e before asked a b result = IfOk result (ComesTo tree g before asked rest (of_expression sized e ∷ []) (sized_type sized e) a b)

    pub operation_comes : (p : Place) (op : PrimOp) (es : Expressions) (ks : List ℕ) (a b d : Walk) (sides : List Side) (result : Result Side E)
        → Enters g typed sized meant rules (expression_notes typed (operation p op es ks) ++ rest) a → HasType typed (operation p op es ks) t → GivesAll es a b sides
        → ((before : List Width) (asked : List Rule) → Enters g typed sized before asked (expression_note typed (operation p op es ks) ∷ rest) b
        → AreSides (types_in g) before sides (sized_types sized es) → Form (operation p op es ks) before asked b d result)
        → IfOk result (ComesTo tree g meant rules rest (spots_within sized (operation p op es ks)) (sized_type sized (operation p op es ks)) a d)
    operation_comes p op es ks a b d sides result enters typed_as gives form =
        let e = operation p op es ks in
        let left = expression_note typed e ∷ rest in
        let begins : Enters g typed sized meant rules (notes_of_each typed es ++ left) a =
        subst (λ ns. Enters g typed sized meant rules ns a) (append_assoc (notes_of_each typed es) (expression_note typed e ∷ []) rest) enters in
        let all = gives typed_as.0 meant rules left begins typed_as.2 in
        let came = came_all tree g typed sized meant rules (notes_of_each typed es ++ left) left (spots_within_each sized es) (sized_types sized es) a b sides begins all in
        came_last tree g typed sized meant rules left (spots_within_each sized es) a b came rest (of_expression sized e ∷ []) (sized_type sized e) d result
        (form (meant ++ came.comes.more) (rules ++ []) came.enters all.are)

    pub validif_comes : (p : Place) (x y : Expression) (a b d z : Walk) (one two : Side) (result : Result Side E)
        → Enters g typed sized meant rules (expression_notes typed (validif p x y) ++ rest) a → HasType typed (validif p x y) t
        → Gives x (spots_of_condition sized x) a b one → Gives y (spots_within sized y) b d two
        → ((before : List Width) (asked : List Rule) → Enters g typed sized before asked (expression_note typed (validif p x y) ∷ rest) d
        → IsSide (types_in g) before one (sized_type sized x) → IsSide (types_in g) before two (sized_type sized y) → Form (validif p x y) before asked d z result)
        → IfOk result (ComesTo tree g meant rules rest (spots_within sized (validif p x y)) (sized_type sized (validif p x y)) a z)
    validif_comes p x y a b d z one two result enters typed_as first second form =
        let e = validif p x y in
        let left = expression_note typed e ∷ rest in
        let after = expression_notes typed y ++ left in
        let same : expression_notes typed e ++ rest ≡ expression_notes typed x ++ after = simp append_assoc in
        let begins = subst (λ ns. Enters g typed sized meant rules ns a) same enters in
        let own = first _ meant rules after begins typed_as.2 in
        let came = came_first tree g typed sized meant rules (expression_notes typed x ++ after) after (spots_of_condition sized x) (sized_type sized x) a b one begins own in
        let next = second typed_as.1 (meant ++ came.comes.more) (rules ++ []) left came.enters typed_as.3 in
        let both = came_next tree g typed sized meant rules after (spots_of_condition sized x) a b came left (spots_within sized y) (sized_type sized y) d two next in
        let old = old_side tree g typed sized meant rules after (spots_of_condition sized x) a b came left (spots_within sized y) (sized_type sized y) d two next in
        let new = new_side tree g typed sized meant rules after (spots_of_condition sized x) a b came left (spots_within sized y) (sized_type sized y) d two next in
        came_last tree g typed sized meant rules left (spots_of_condition sized x ++ spots_within sized y) a d both rest (of_expression sized e ∷ []) (sized_type sized e) z result
        (form (meant ++ both.comes.more) (rules ++ []) both.enters (old one (sized_type sized x) own.is) new)

    pub mux_comes : (p : Place) (x y u : Expression) (a b d f z : Walk) (one two three : Side) (result : Result Side E)
        → Enters g typed sized meant rules (expression_notes typed (mux p x y u) ++ rest) a → HasType typed (mux p x y u) t
        → Gives x (spots_of_condition sized x) a b one → Gives y (spots_within sized y) b d two → Gives u (spots_within sized u) d f three
        → ((before : List Width) (asked : List Rule) → Enters g typed sized before asked (expression_note typed (mux p x y u) ∷ rest) f
        → IsSide (types_in g) before one (sized_type sized x) → IsSide (types_in g) before two (sized_type sized y) → IsSide (types_in g) before three (sized_type sized u)
        → Form (mux p x y u) before asked f z result)
        → IfOk result (ComesTo tree g meant rules rest (spots_within sized (mux p x y u)) (sized_type sized (mux p x y u)) a z)
    mux_comes p x y u a b d f z one two three result enters typed_as first second third form =
        let e = mux p x y u in
        let left = expression_note typed e ∷ rest in
        let last = expression_notes typed u ++ left in
        let after = expression_notes typed y ++ last in
        let same : expression_notes typed e ++ rest ≡ expression_notes typed x ++ after = simp append_assoc in
        let begins = subst (λ ns. Enters g typed sized meant rules ns a) same enters in
        let own = first _ meant rules after begins typed_as.3 in
        let came = came_first tree g typed sized meant rules (expression_notes typed x ++ after) after (spots_of_condition sized x) (sized_type sized x) a b one begins own in
        let next = second typed_as.1 (meant ++ came.comes.more) (rules ++ []) last came.enters typed_as.4 in
        let both = came_next tree g typed sized meant rules after (spots_of_condition sized x) a b came last (spots_within sized y) (sized_type sized y) d two next in
        let old = old_side tree g typed sized meant rules after (spots_of_condition sized x) a b came last (spots_within sized y) (sized_type sized y) d two next in
        let new = new_side tree g typed sized meant rules after (spots_of_condition sized x) a b came last (spots_within sized y) (sized_type sized y) d two next in
        let spots = spots_of_condition sized x ++ spots_within sized y in
        let more = third typed_as.2 (meant ++ both.comes.more) (rules ++ []) left both.enters typed_as.7 in
        let all = came_next tree g typed sized meant rules last spots a d both left (spots_within sized u) (sized_type sized u) f three more in
        let older = old_side tree g typed sized meant rules last spots a d both left (spots_within sized u) (sized_type sized u) f three more in
        let newest = new_side tree g typed sized meant rules last spots a d both left (spots_within sized u) (sized_type sized u) f three more in
        came_last tree g typed sized meant rules left (spots ++ spots_within sized u) a f all rest (of_expression sized e ∷ []) (sized_type sized e) z result
        (form (meant ++ all.comes.more) (rules ++ []) all.enters (older one (sized_type sized x) (old one (sized_type sized x) own.is)) (older two (sized_type sized y) new) newest)

  -- the index of a part
  pub access_comes : (q : Place) (e : Expression) (parts : Parts) (meant : List Width) (rules : List Rule) (rest : List Note) (r s : Reached) (a b : Walk) (side : Side)
      → Enters g typed sized meant rules (part_notes typed (subaccess q e parts) ++ rest) a → Leads typed r (subaccess q e parts) s → Gives e (spots_within sized e) a b side
      → ComesPast tree g typed sized (subaccess q e) parts meant rules rest a b
  access_comes q e parts meant rules rest r s a b side enters leads gives =
      let begins = subst (λ ns. Enters g typed sized meant rules ns a) (append_assoc (expression_notes typed e) (part_notes typed parts) rest) enters in
      let own = gives _ meant rules (part_notes typed parts ++ rest) begins leads.3 in
      record { own = spots_within sized e; same = refl; comes = own.comes; stays = own.stays }
