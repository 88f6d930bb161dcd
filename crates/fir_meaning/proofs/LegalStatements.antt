-- Legal statements show no fault of types.
use Rattle.std.proofs.Common.{◌≡◌, List, [], Bool, Option, Some, None, Ok, refl, ap, ◌∙◌}
use Rattle.fir_ast.specs.declared.place.Place.{Place}
use Rattle.fir_ast.specs.Types.{DataType, uint, clock, reset, async_reset}
use Rattle.fir_ast.specs.Expressions.{Expression}
use Rattle.fir_ast.specs.Statements.{SinkReference, Reset, Statement, wire, register, node, instance, memory, when, connect, partial_connect, invalid, skip, Block, done, then}
use Rattle.fir_ast.specs.Circuits.{ModuleTree}
use Rattle.fir_meaning.specs.Components as component
use Rattle.fir_meaning.specs.Visibility.{Before, with_declaration, opened, reopened, behind, behind_block}
use Rattle.fir_meaning.specs.Equivalence.{is_connectable, is_partly_connectable}
use Rattle.fir_meaning.specs.ConnectPairs.{Pair, pairs, partial_pairs}
use Rattle.fir_meaning.specs.ExpressionPlaces.{place_of}
use Rattle.fir_meaning.specs.Checked.{is_found, shown_after}
use Rattle.fir_meaning.specs.TypedScopes.{TypedScope}
use Rattle.fir_meaning.specs.Reaching.{Reached}
use Rattle.fir_meaning.specs.ExpressionTypes.{expression_type, reaching, reached_by}
use Rattle.fir_meaning.specs.TypeGroup.{register_clock_at, reset_at, init_at, clock_faults, reset_faults, flipped_faults, sides, scope_at, type_faults_in, type_faults_in_block}
use Rattle.fir_meaning.specs.working.WellTyped.{HasType, Reaches, MayReset, ResetIsLegal, ConnectIsLegal, IsLegal, AreLegal}
use Rattle.fir_meaning.proofs.FoundTypes.{after_found, together_found, found_condition, found_type, found_sink}
use Rattle.fir_meaning.proofs.LegalConnects.{faults_of_sides, legal_connect}
use Rattle.fir_meaning.proofs.LegalMemories.{legal_memory}

may_reset : (p : Place) (t : DataType) → MayReset t → reset_at p t ≡ Ok t
may_reset p (uint width) h = refl
may_reset p reset h = refl
may_reset p async_reset h = refl
may_reset p t h = cc

module _ (scope : TypedScope) where
  legal_clock : (e : Expression) → HasType scope e clock → clock_faults scope e ≡ []
  legal_clock e h = ap (λ c. c.shows) (after_found (expression_type scope e) clock clock (register_clock_at (place_of e)) (found_type scope e clock h) refl)

  legal_reset : (t : DataType) (r : Option Reset) → ResetIsLegal scope t r → reset_faults scope t r ≡ []
  legal_reset t None h = refl
  legal_reset t (Some r) h =
      let condition = after_found (expression_type scope r.condition) h.0 h.0 (reset_at (place_of r.condition)) (found_type scope r.condition h.0 h.2)
      (may_reset (place_of r.condition) h.0 h.3) in
      let init = after_found (expression_type scope r.init) h.1 h.1 (init_at (place_of r.init) t) (found_type scope r.init h.1 h.4) (rw h.5 refl) in
      let one = ap (λ c. c.shows) condition in
      let two = ap (λ c. c.shows) init in
      rw (one, two) refl

  legal_sides : (s : SinkReference) (e : Expression) (r : Reached) (t : DataType) → Reaches scope s r → HasType scope e t → sides scope s e ≡ is_found (r, t)
  legal_sides s e r t h i = together_found (λ x y. (x, y)) (reaching scope s) (expression_type scope e) r t (found_sink scope s r h) (found_type scope e t i)

  legal_pairs : (fits : DataType → DataType → Bool) (pairs_of : DataType → DataType → List Pair) (p : Place) (s : SinkReference) (e : Expression)
      → ConnectIsLegal fits pairs_of scope s e → shown_after (sides scope s e) (faults_of_sides fits pairs_of p (reached_by scope e)) ≡ []
  legal_pairs fits pairs_of p s e h =
      let right = reached_by scope e in
      ap (λ c. shown_after c (faults_of_sides fits pairs_of p right)) (legal_sides s e h.0 h.1 h.2 h.3)
      ∙ legal_connect fits pairs_of p right (h.0, h.1) (h.4, h.5)

module _ (modules : List ModuleTree) where
  mutual
    pub legal_statement : (s : Statement) (before : Before) → IsLegal modules before s → type_faults_in modules before s ≡ []
    legal_statement (wire p n begins t) before h = refl
    legal_statement (register p n begins t c r) before h =
        let one = legal_clock (scope_at modules before) c h.2 in
        let two = legal_reset (scope_at modules (with_declaration before n (component.register t))) t r h.3 in
        rw (h.0, h.1, one, two) refl
    legal_statement (node p n e) before h =
        ap (λ c. shown_after c (flipped_faults n)) (found_type (scope_at modules before) e h.0 h.1) ∙ rw h.2 refl
    legal_statement (instance p n m) before h = refl
    legal_statement (memory p n parts) before h = legal_memory n parts h
    legal_statement (when p c a b) before h =
        let one = ap (λ d. d.shows) (found_condition (scope_at modules before) c h.0 (found_type (scope_at modules before) c (uint h.0) h.1)) in
        let two = legal_block a (opened before) h.2 in
        let three = legal_block b (reopened before (behind_block (opened before) a)) h.3 in
        rw (one, two, three) refl
    legal_statement (connect p s e) before h = legal_pairs (scope_at modules before) is_connectable pairs p s e h
    legal_statement (partial_connect p s e) before h = legal_pairs (scope_at modules before) is_partly_connectable partial_pairs p s e h
    legal_statement (invalid p s) before h = ap (λ c. c.shows) (found_sink (scope_at modules before) s h.0 h.1)
    legal_statement (skip p) before h = refl

    pub legal_block : (b : Block) (before : Before) → AreLegal modules before b → type_faults_in_block modules before b ≡ []
    legal_block done before h = refl
    legal_block ((then) s b) before h = let one = legal_statement s before h.0 in let two = legal_block b (behind before s) h.1 in rw (one, two) refl
