-- What stands under numbers, stands there whatever is put behind.
use Rattle.std.proofs.Common.{ℕ, ◌+◌, List, [], ◌∷◌, ◌++◌}
use Rattle.fir_base.proofs.Elements.{there}
use Rattle.fir_ast.specs.Types.{DataType}
use Rattle.fir_meaning.specs.TypedScopes.{TypedScope}
use Rattle.fir_meaning.specs.TypeGroup.{scope_at}
use Rattle.fir_meaning.specs.WidthExpressions.{Width}
use Rattle.fir_meaning.specs.SizedTypes.{Sized}
use Rattle.fir_meaning.specs.SizedScopes.{SizedScope}
use Rattle.fir_meaning.specs.SizedDeclarations.{NumberedModule, sized_at}
use Rattle.fir_width.specs.declared.side.Side.{Side}
use Rattle.fir_infer_widths.specs.working.Numbered.{Agrees}
use Rattle.fir_width.proofs.StandingWidths.{has_more, stands_more}
use Rattle.fir_infer_widths.specs.working.Scenes.{AllStand, StandsInModule}
use Rattle.fir_width.specs.working.Sides.{IsSide}
use Rattle.fir_infer_widths.specs.working.Walks.{AreSides}

-- sides
pub side_more : (ts : List DataType) (meant more : List Width) (side : Side) (s : Sized) → IsSide ts meant side s → IsSide ts (meant ++ more) side s
side_more ts meant more side s h = record { shape = h.shape; stands = stands_more meant more side.first _ h.stands }

pub sides_more : (ts : List DataType) (meant more : List Width) (sides : List Side) (ss : List Sized) → AreSides ts meant sides ss → AreSides ts (meant ++ more) sides ss
sides_more ts meant more [] [] h = tt
sides_more ts meant more (side ∷ sides) (s ∷ ss) h = (side_more ts meant more side s h.0, sides_more ts meant more sides ss h.1)
sides_more ts meant more [] (s ∷ ss) h = absurd h
sides_more ts meant more (side ∷ sides) [] h = absurd h

-- all that is declared
pub all_stand_more : (meant more : List Width) (firsts : List ℕ) (typed : TypedScope) (sized : SizedScope) → AllStand meant firsts typed sized
    → AllStand (meant ++ more) firsts typed sized
all_stand_more meant more [] [] [] h = tt
all_stand_more meant more (first ∷ firsts) [] [] h = tt
all_stand_more meant more (first ∷ firsts) (k ∷ ks) (s ∷ ss) h =
    (record { name = h.0.name; shape = h.0.shape; stands = λ t is. stands_more meant more first _ (h.0.stands t is) }, all_stand_more meant more firsts ks ss h.1)
all_stand_more meant more [] (k ∷ ks) [] h = absurd h
all_stand_more meant more [] (k ∷ ks) (s ∷ ss) h = absurd h
all_stand_more meant more [] [] (s ∷ ss) h = absurd h
all_stand_more meant more (first ∷ firsts) [] (s ∷ ss) h = absurd h
all_stand_more meant more (first ∷ firsts) (k ∷ ks) [] h = absurd h

pub in_module_more : (meant more : List Width) (firsts : List ℕ) (m : NumberedModule) → StandsInModule meant firsts m → StandsInModule (meant ++ more) firsts m
in_module_more meant more firsts m h = λ before begins. all_stand_more meant more firsts (scope_at m.modules before) (sized_at m before) (h before begins)

-- widths that agree with more agree with what was there
pub agrees_less : (meant more : List Width) (w u : ℕ → ℕ) → Agrees (meant ++ more) w u → Agrees meant w u
agrees_less meant more w u h = λ number e is. h number e (has_more meant more number e is)
