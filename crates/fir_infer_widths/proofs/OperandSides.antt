-- The operands of an operation, one by one.
use Rattle.std.proofs.Common.{◌≡◌, List, [], ◌∷◌, ◌++◌, refl, sym, ◌∙◌, subst, append_assoc}
use Rattle.std.proofs.lemmas.List.{append-nil}
use Rattle.fir_ast.specs.Circuits.{CircuitTree}
use Rattle.fir_ast.specs.Types.{DataType}
use Rattle.fir_ast.specs.Expressions.{Expression, Expressions, no_expressions, expression}
use Rattle.fir_meaning.specs.TypedScopes.{TypedScope}
use Rattle.fir_meaning.specs.SizedScopes.{SizedScope, sized_type, sized_types}
use Rattle.fir_meaning.specs.SizedTypes.{Sized}
use Rattle.fir_meaning.specs.working.WellTyped.{HasType, HaveTypes}
use Rattle.fir_meaning.specs.WidthExpressions.{Rule, Width}
use Rattle.fir_types.specs.working.Notes.{Note, expression_notes, notes_of_each}
use Rattle.fir_infer_widths.specs.declared.ground.Ground.{Ground}
use Rattle.fir_width.specs.declared.side.Side.{Side}
use Rattle.fir_infer_widths.specs.declared.walk.Walk.{Walk}
use Rattle.fir_infer_widths.specs.working.Spots.{Spot, spots_within, spots_within_each}
use Rattle.fir_infer_widths.specs.working.Walks.{AreSides, Comes, ComesTo, ComesToAll, Enters, types_in}
use Rattle.fir_infer_widths.proofs.Coming.{come_none, come_then, enters_then}
use Rattle.fir_infer_widths.proofs.Standing.{sides_more}

sides_joined : (ts : List DataType) (meant : List Width) (xs ys : List Side) (ss us : List Sized) → AreSides ts meant xs ss → AreSides ts meant ys us
    → AreSides ts meant (xs ++ ys) (ss ++ us)
sides_joined ts meant [] ys [] us h k = k
sides_joined ts meant (x ∷ xs) ys (s ∷ ss) us h k = (h.0, sides_joined ts meant xs ys ss us h.1 k)
sides_joined ts meant [] ys (s ∷ ss) us h k = absurd h
sides_joined ts meant (x ∷ xs) ys [] us h k = absurd h

-- those that are passed so far
pub record SidesSoFar (c : CircuitTree) (g : Ground) (typed : TypedScope) (sized : SizedScope) (meant : List Width) (rules : List Rule) (rest : List Note) (whole left : Expressions)
    (old now : Walk) (sides : List Side) : Type 0 where
  pub types : List DataType
  pub have : HaveTypes typed left types
  pub spots : List Spot
  pub comes : Comes c g meant rules [] (notes_of_each typed left ++ rest) spots old now
  pub same_spots : spots_within_each sized whole ≡ spots ++ spots_within_each sized left
  pub done : List Sized
  pub are : AreSides (types_in g) (meant ++ comes.more) sides done
  pub same_types : sized_types sized whole ≡ done ++ sized_types sized left
  pub stays : now.declared ≡ old.declared

module _ (c : CircuitTree) (g : Ground) (typed : TypedScope) (sized : SizedScope) (meant : List Width) (rules : List Rule) (rest : List Note) (whole : Expressions) (old : Walk)
    (enters : Enters g typed sized meant rules (notes_of_each typed whole ++ rest) old) where
  pub sides_first : (ts : List DataType) (sides : List Side) → HaveTypes typed whole ts → sides ≡ [] → SidesSoFar c g typed sized meant rules rest whole whole old old sides
  sides_first ts sides have none = rw none record {
    types = ts;
    have = have;
    spots = [];
    comes = come_none c g meant rules (notes_of_each typed whole ++ rest) old enters.keeps enters.ahead;
    same_spots = refl;
    done = [];
    are = tt;
    same_types = refl;
    stays = refl;
  }

  pub sides_next : (e : Expression) (es : Expressions) (now next : Walk) (sides after : List Side) (side : Side)
      → SidesSoFar c g typed sized meant rules rest whole (expression e es) old now sides
      → ((t : DataType) (before : List Width) (asked : List Rule) → Enters g typed sized before asked (expression_notes typed e ++ (notes_of_each typed es ++ rest)) now → HasType typed e t
      → ComesTo c g before asked (notes_of_each typed es ++ rest) (spots_within sized e) (sized_type sized e) now next side)
      → after ≡ sides ++ side ∷ [] → SidesSoFar c g typed sized meant rules rest whole es old next after
  sides_next e es now next sides after side so_far step pushed =
      let here = enters_then c g meant rules [] (notes_of_each typed (expression e es) ++ rest) so_far.spots old now so_far.comes typed sized (notes_of_each typed whole ++ rest) enters in
      let own = step so_far.have.0 (meant ++ so_far.comes.more) (rules ++ [])
      (subst (λ ns. Enters g typed sized (meant ++ so_far.comes.more) (rules ++ []) ns now) (append_assoc (expression_notes typed e) (notes_of_each typed es) rest) here) so_far.have.2 in
      let all = append_assoc meant so_far.comes.more own.comes.more in
      rw pushed record {
        types = so_far.have.1;
        have = so_far.have.3;
        spots = so_far.spots ++ spots_within sized e;
        comes =
            come_then c g meant rules [] (notes_of_each typed (expression e es) ++ rest) so_far.spots old now so_far.comes [] (notes_of_each typed es ++ rest) (spots_within sized e) next own.comes;
        same_spots = so_far.same_spots ∙ sym (append_assoc so_far.spots (spots_within sized e) (spots_within_each sized es));
        done = so_far.done ++ sized_type sized e ∷ [];
        are =
            rw (sym all)
            (sides_joined (types_in g) ((meant ++ so_far.comes.more) ++ own.comes.more) sides (side ∷ []) so_far.done (sized_type sized e ∷ [])
            (sides_more (types_in g) (meant ++ so_far.comes.more) own.comes.more sides so_far.done so_far.are) (own.is, tt));
        same_types = so_far.same_types ∙ sym (append_assoc so_far.done (sized_type sized e ∷ []) (sized_types sized es));
        stays = own.stays ∙ so_far.stays;
      }

  pub sides_done : (left : Expressions) (now : Walk) (sides : List Side) → SidesSoFar c g typed sized meant rules rest whole left old now sides → left ≡ no_expressions
      → ComesToAll c g meant rules rest (spots_within_each sized whole) (sized_types sized whole) old now sides
  sides_done left now sides so_far none =
      let end = subst (λ l. SidesSoFar c g typed sized meant rules rest whole l old now sides) none so_far in
      let spots = end.same_spots ∙ append-nil end.spots in
      let types = end.same_types ∙ append-nil end.done in
      rw (spots, types) record { comes = end.comes; are = end.are; stays = end.stays }
