-- The walk from place to place of a module: numbers, notes and spots, one form or statement behind the other.
use Rattle.std.proofs.Common.{◌≡◌, List, [], ◌++◌, length, ap, subst, ◌∙◌, append_assoc}
use Rattle.std.proofs.lemmas.List.{append-nil}
use Rattle.fir_ast.specs.Circuits.{CircuitTree}
use Rattle.fir_meaning.specs.Visibility.{Before, declarations}
use Rattle.fir_meaning.specs.TypedScopes.{TypedScope}
use Rattle.fir_meaning.specs.TypeGroup.{scope_at}
use Rattle.fir_meaning.specs.SizedDeclarations.{NumberedModule, sized_at}
use Rattle.fir_meaning.specs.SizedScopes.{SizedScope}
use Rattle.fir_meaning.specs.SizedTypes.{Sized}
use Rattle.fir_meaning.specs.WidthExpressions.{Width, Rule}
use Rattle.fir_types.specs.working.Notes.{Note}
use Rattle.fir_types.specs.working.Walked.{Begins}
use Rattle.fir_infer_widths.specs.declared.arena.Arena.{Arena}
use Rattle.fir_infer_widths.specs.declared.ground.Ground.{Ground}
use Rattle.fir_width.specs.declared.side.Side.{Side}
use Rattle.fir_infer_widths.specs.declared.walk.Walk.{Walk}
use Rattle.fir_infer_widths.specs.working.Numbered.{Keeps}
use Rattle.fir_infer_widths.specs.working.Spots.{Spot}
use Rattle.fir_infer_widths.specs.working.Walks.{Ahead, Comes, ComesBehind, ComesStill, ComesTo, Enters, EntersAt, types_in}
use Rattle.fir_infer_widths.proofs.Coming.{come_then, spotted_none}
use Rattle.fir_infer_widths.proofs.Standing.{all_stand_more, in_module_more}

-- nothing comes
pub come_none : (c : CircuitTree) (g : Ground) (meant : List Width) (rules : List Rule) (rest : List Note) (walk : Walk) → Keeps meant rules walk.arena
    → Ahead (types_in g) walk.notes.now rest → Comes c g meant rules [] rest [] walk walk
come_none c g meant rules rest walk keeps ahead =
    record { more = []; keeps = rw (append-nil meant, append-nil rules) keeps; ahead = ahead; spotted = spotted_none c (types_in g) (meant ++ []) walk.spots.items }

-- notes that are joined otherwise
pub enters_notes : (g : Ground) (typed : TypedScope) (sized : SizedScope) (meant : List Width) (rules : List Rule) (one other : List Note) (walk : Walk) → one ≡ other
    → Enters g typed sized meant rules one walk → Enters g typed sized meant rules other walk
enters_notes g typed sized meant rules one other walk same e = subst (λ notes. Enters g typed sized meant rules notes walk) same e

pub enters_at_notes : (c : CircuitTree) (g : Ground) (m : NumberedModule) (before : Before) (meant : List Width) (rules : List Rule) (one other : List Note) (walk : Walk) → one ≡ other
    → EntersAt c g m before meant rules one walk → EntersAt c g m before meant rules other walk
enters_at_notes c g m before meant rules one other walk same e = subst (λ notes. EntersAt c g m before meant rules notes walk) same e

-- in front of what comes next
pub enters_behind : (c : CircuitTree) (g : Ground) (typed : TypedScope) (sized : SizedScope) (meant : List Width) (rules asked : List Rule) (notes rest : List Note) (spots : List Spot)
    (old new : Walk) → Enters g typed sized meant rules notes old → (k : Comes c g meant rules asked rest spots old new)
    → Enters g typed sized (meant ++ k.more) (rules ++ asked) rest new
enters_behind c g typed sized meant rules asked notes rest spots old new e k =
    record { stand = all_stand_more meant k.more g.first_leaves.now typed sized e.stand; keeps = k.keeps; ahead = k.ahead }

-- behind an expression that drives: what it asks for has bounds
pub driven_comes : (c : CircuitTree) (g : Ground) (meant : List Width) (rules asked : List Rule) (rest : List Note) (spots : List Spot) (s : Sized) (old middle : Walk) (side : Side)
    (arena : Arena) → (k : ComesTo c g meant rules rest spots s old middle side) → Keeps (meant ++ k.comes.more) ((rules ++ []) ++ asked) arena
    → ComesStill c g meant rules asked rest spots old (record middle { arena = arena })
driven_comes c g meant rules asked rest spots s old middle side arena k keeps = record {
  comes = record { more = k.comes.more; keeps = rw (← append_assoc rules [] asked) keeps; ahead = k.comes.ahead; spotted = k.comes.spotted };
  stays = k.stays;
}

pub still_then : (c : CircuitTree) (g : Ground) (meant : List Width) (rules : List Rule) (next rest : List Note) (spots spots' : List Spot) (later : List Rule) (a b d : Walk) (s : Sized)
    (side : Side) → (one : ComesTo c g meant rules next spots s a b side) → ComesStill c g (meant ++ one.comes.more) (rules ++ []) later rest spots' b d
    → ComesStill c g meant rules later rest (spots ++ spots') a d
still_then c g meant rules next rest spots spots' later a b d s side one two =
    record { comes = come_then c g meant rules [] next spots a b one.comes later rest spots' d two.comes; stays = two.stays ∙ one.stays }

module _ (c : CircuitTree) (g : Ground) (m : NumberedModule) where
  -- an expression at a place of the module
  pub enters_place : (before place : Before) (meant : List Width) (rules : List Rule) (notes : List Note) (walk : Walk) → EntersAt c g m before meant rules notes walk
      → Begins place.declared (declarations m.inside) → Enters g (scope_at m.modules place) (sized_at m place) meant rules notes walk
  enters_place before place meant rules notes walk e b = record { stand = e.stand place b; keeps = e.keeps; ahead = e.ahead }

  -- only what is declared counts
  pub at_same : (one other : Before) (meant : List Width) (rules : List Rule) (notes : List Note) (walk : Walk) → one.declared ≡ other.declared
      → EntersAt c g m one meant rules notes walk → EntersAt c g m other meant rules notes walk
  at_same one other meant rules notes walk same e = record {
    stand = e.stand;
    types = e.types;
    there = e.there;
    main = e.main;
    keeps = e.keeps;
    ahead = e.ahead;
    declared = e.declared ∙ ap length same;
  }

  pub at_behind : (before after : Before) (meant : List Width) (rules asked : List Rule) (notes rest : List Note) (spots : List Spot) (old new : Walk)
      → EntersAt c g m before meant rules notes old → (b : ComesBehind c g after meant rules asked rest spots old new)
      → EntersAt c g m after (meant ++ b.comes.more) (rules ++ asked) rest new
  at_behind before after meant rules asked notes rest spots old new e b = record {
    stand = in_module_more meant b.comes.more g.first_leaves.now m e.stand;
    types = e.types;
    there = e.there;
    main = e.main;
    keeps = b.comes.keeps;
    ahead = b.comes.ahead;
    declared = b.declared;
  }

  -- what declares nothing leaves the place
  pub still_behind : (before : Before) (meant : List Width) (rules asked : List Rule) (notes rest : List Note) (spots : List Spot) (old new : Walk)
      → EntersAt c g m before meant rules notes old → ComesStill c g meant rules asked rest spots old new → ComesBehind c g before meant rules asked rest spots old new
  still_behind before meant rules asked notes rest spots old new e k = record { comes = k.comes; declared = k.stays ∙ e.declared }

  pub behind_none : (before : Before) (meant : List Width) (rules : List Rule) (rest : List Note) (walk : Walk)
      → EntersAt c g m before meant rules rest walk → ComesBehind c g before meant rules [] rest [] walk walk
  behind_none before meant rules rest walk e = record { comes = come_none c g meant rules rest walk e.keeps e.ahead; declared = e.declared }

-- one statement behind the other
pub behind_then : (c : CircuitTree) (g : Ground) (middle after : Before) (meant : List Width) (rules asked later : List Rule) (next rest : List Note) (spots spots' : List Spot) (a b d : Walk)
    → (one : ComesBehind c g middle meant rules asked next spots a b) → ComesBehind c g after (meant ++ one.comes.more) (rules ++ asked) later rest spots' b d
    → ComesBehind c g after meant rules (asked ++ later) rest (spots ++ spots') a d
behind_then c g middle after meant rules asked later next rest spots spots' a b d one two =
    record { comes = come_then c g meant rules asked next spots a b one.comes later rest spots' d two.comes; declared = two.declared }

-- and where a place has another depth or sees less
pub behind_same : (c : CircuitTree) (g : Ground) (one other : Before) (meant : List Width) (rules asked : List Rule) (rest : List Note) (spots : List Spot) (a b : Walk) → one.declared ≡ other.declared
    → ComesBehind c g one meant rules asked rest spots a b → ComesBehind c g other meant rules asked rest spots a b
behind_same c g one other meant rules asked rest spots a b same h = record { comes = h.comes; declared = h.declared ∙ ap length same }
