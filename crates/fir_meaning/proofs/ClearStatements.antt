-- Statements that show no fault of names or types are legal, and what is declared behind them has a type.
use Rattle.std.proofs.Common.{◌≡◌, ℕ, List, [], ◌∷◌, ◌++◌, map, Bool, true, false, if◌then◌else◌, Option, Some, None, Ok, refl, sym, ap, ◌∙◌, ⊎_elim, subst}
use Rattle.std.specs.Str.{bytes_eq}
use Rattle.fir_ast.specs.declared.place.Place.{Place}
use Rattle.fir_ast.specs.Types.{DataType, uint, clock, reset, async_reset}
use Rattle.fir_ast.specs.Expressions.{Expression}
use Rattle.fir_ast.specs.Statements.{PlacedName, SinkReference, Reset, Statement, wire, register, node, instance, memory, when, connect, partial_connect, invalid, skip, Block, done, then}
use Rattle.fir_ast.specs.Circuits.{PortTree, ModuleTree}
use Rattle.fir_meaning.specs.Components.{Component, Declarations, find_name}
use Rattle.fir_meaning.specs.Components as component
use Rattle.fir_meaning.specs.Visibility.{Before, declaration_at, with_declaration, opened, reopened, behind, behind_block, behind_ports}
use Rattle.fir_meaning.specs.Mentions.{declares, instantiates, names_declared, type_mentions, expression_mentions, sink_mentions, reset_mentions, mentions, block_mentions}
use Rattle.fir_meaning.specs.NameGroups.{faults_in, mention_faults, missing_faults}
use Rattle.fir_meaning.specs.LeafPaths.{named}
use Rattle.fir_meaning.specs.TypeKinds.{is_passive, is_numeric}
use Rattle.fir_meaning.specs.Equivalence.{is_equivalent, is_connectable, is_partly_connectable}
use Rattle.fir_meaning.specs.ConnectPairs.{Pair, pairs, partial_pairs}
use Rattle.fir_meaning.specs.ExpressionPlaces.{place_of}
use Rattle.fir_meaning.specs.KindFaults.{wrong_kinds, wrong_types, not_passive}
use Rattle.fir_meaning.specs.Checked.{Checked, is_found, after, shown_on, shown_after}
use Rattle.fir_meaning.specs.TypedScopes.{Known, TypedScope, known}
use Rattle.fir_meaning.specs.Reaching.{Reached, known_reached}
use Rattle.fir_meaning.specs.ExpressionTypes.{unsigned_at, condition_form, expression_type, reaching, reached_by}
use Rattle.fir_meaning.specs.ComponentTypes.{instance_bundle, instance_type, component_type, known_as}
use Rattle.fir_meaning.specs.TypeGroup.{register_clock_at, reset_at, init_at, clock_faults, reset_faults, flipped_faults, register_type_faults, sides, scope_at, type_faults_in, type_faults_in_block}
use Rattle.fir_meaning.specs.working.WellTyped.{HasType, Reaches, MayReset, ResetIsLegal, ConnectIsLegal, IsLegal, AreLegal}
use Rattle.fir_base.proofs.Empty.{empty_left, empty_right}
use Rattle.fir_meaning.proofs.PassedTests.{passes}
use Rattle.fir_meaning.proofs.FoundDeclarations.{found_among}
use Rattle.fir_meaning.proofs.GrownDeclarations.{grows_block, Declared, declared_more, declared_opened, declared_reopened, declared_behind}
use Rattle.fir_meaning.proofs.OnceDeclared.{clear_left, clear_right}
use Rattle.fir_meaning.proofs.KnownNames.{typed_more, known_before, known_each}
use Rattle.fir_meaning.proofs.FoundTypes.{together_found, found_type, found_sink}
use Rattle.fir_meaning.proofs.ClearTypes.{answer_after, granted, Knows, operand_clear, unsigned_clear, clear_type, clear_sink}
use Rattle.fir_meaning.proofs.LegalConnects.{faults_of_sides, clear_connect}
use Rattle.fir_meaning.proofs.LegalMemories.{clear_memory, memory_typed}

-- all that is known has a type
pub record AllTyped (scope : TypedScope) : Type 0 where
  pub each : (n : List ℕ) (k : Known) → known scope n ≡ Some k → (t : DataType) × (k.data_type ≡ Some t)

typed_last : (scope : TypedScope) (x : Known) (t : DataType) → AllTyped scope → x.data_type ≡ Some t → AllTyped (scope ++ x ∷ [])
typed_last scope x t h e = record {
  each = λ n k f.
      ⊎_elim
      (λ (o : known scope n ≡ Some k). h.each n k o)
      (λ (o : x ≡ k). (t, subst (λ (y : Known). y.data_type ≡ Some t) o e))
      (known_before scope x n k f);
}

reached_at : (k : Known) (t : DataType) → k.data_type ≡ Some t → known_reached (Some k) ≡ Some (record { data_type = t; flow = k.flow; path = Some (named k.name ∷ []) })
reached_at k t e = rw e refl

-- what a register's clock and its reset tell by an answer
clock_type : (p : Place) (t y : DataType) → register_clock_at p t ≡ Ok y → t ≡ clock
clock_type p clock y h = refl
clock_type p t y h = cc

reset_type : (p : Place) (t y : DataType) → reset_at p t ≡ Ok y → MayReset t
reset_type p (uint width) y h = tt
reset_type p reset y h = tt
reset_type p async_reset y h = tt
reset_type p t y h = cc

-- a module that is named is there
instance_there : (modules : List ModuleTree) (n : PlacedName) → missing_faults (find_name (map (λ m. m.named) modules) n.name) n ≡ []
    → (t : DataType) × (instance_type modules n.name ≡ Some t)
instance_there [] n h = cc
instance_there (m ∷ ms) n h = by (bytes_eq m.named.name n.name) refl h (λ k. instance_there ms n k)
  where
    by : (b : Bool) → bytes_eq m.named.name n.name ≡ b → missing_faults (if b then Some m.named else find_name (map (λ m. m.named) ms) n.name) n ≡ []
        → (missing_faults (find_name (map (λ m. m.named) ms) n.name) n ≡ [] → (t : DataType) × (instance_type ms n.name ≡ Some t))
        → (t : DataType) × (instance_type (m ∷ ms) n.name ≡ Some t)
    by true e k rest = (instance_bundle m, rw e refl)
    by false e k rest = let r = rest k in (r.0, rw e r.1)

module _ (scope : TypedScope) (visible : Declarations) (knows : Knows scope visible) where
  clear_clock : (e : Expression) → faults_in (expression_mentions visible e) ≡ [] → clock_faults scope e ≡ [] → HasType scope e clock
  clear_clock e m h =
      let own = register_clock_at (place_of e) in
      let t = clear_type scope visible knows e m (operand_clear scope e own h) in
      let told = answer_after (expression_type scope e) t.type own (found_type scope e t.type t.has) h in
      subst (HasType scope e) (clock_type (place_of e) t.type told.0 told.1) t.has

  clear_reset : (t : DataType) (r : Option Reset) → faults_in (reset_mentions visible r) ≡ [] → reset_faults scope t r ≡ [] → ResetIsLegal scope t r
  clear_reset t None m h = tt
  clear_reset t (Some r) m h =
      let mentioned_c = expression_mentions visible r.condition in
      let mentioned_i = expression_mentions visible r.init in
      let at_c = reset_at (place_of r.condition) in
      let at_i = init_at (place_of r.init) t in
      let front = (after (expression_type scope r.condition) at_c).shows in
      let back = (after (expression_type scope r.init) at_i).shows in
      let clear_c = empty_left front back h in
      let clear_i = empty_right front back h in
      let c = clear_type scope visible knows r.condition (clear_left mentioned_c mentioned_i m) (operand_clear scope r.condition at_c clear_c) in
      let i = clear_type scope visible knows r.init (clear_right mentioned_c mentioned_i m) (operand_clear scope r.init at_i clear_i) in
      let told_c = answer_after (expression_type scope r.condition) c.type at_c (found_type scope r.condition c.type c.has) clear_c in
      let told_i = answer_after (expression_type scope r.init) i.type at_i (found_type scope r.init i.type i.has) clear_i in
      let fits = (granted (is_equivalent t i.type) (Ok i.type) (wrong_types (place_of r.init) t i.type) told_i.0 told_i.1).0 in
      (c.type, i.type, c.has, reset_type (place_of r.condition) c.type told_c.0 told_c.1, i.has, fits)

  -- both sides of a connect
  record SidesAre (s : SinkReference) (e : Expression) : Type 0 where
    left : Reached
    type : DataType
    reaches : Reaches scope s left
    has : HasType scope e type
    found : sides scope s e ≡ is_found (left, type)

  clear_sides : (s : SinkReference) (e : Expression) → faults_in (sink_mentions visible s ++ expression_mentions visible e) ≡ [] → (sides scope s e).shows ≡ [] → SidesAre s e
  clear_sides s e m h =
      let mentioned_s = sink_mentions visible s in
      let mentioned_e = expression_mentions visible e in
      let r = reaching scope s in
      let c = expression_type scope e in
      let one = clear_sink scope visible knows s (clear_left mentioned_s mentioned_e m) (empty_left r.shows c.shows h) in
      let two = clear_type scope visible knows e (clear_right mentioned_s mentioned_e m) (empty_right r.shows c.shows h) in
      record {
        left = one.0;
        type = two.type;
        reaches = one.1;
        has = two.has;
        found = together_found (λ x y. (x, y)) r c one.0 two.type (found_sink scope s one.0 one.1) (found_type scope e two.type two.has);
      }

  clear_pairs : (fits : DataType → DataType → Bool) (pairs_of : DataType → DataType → List Pair) (p : Place) (s : SinkReference) (e : Expression)
      → faults_in (sink_mentions visible s ++ expression_mentions visible e) ≡ []
      → shown_after (sides scope s e) (faults_of_sides fits pairs_of p (reached_by scope e)) ≡ [] → ConnectIsLegal fits pairs_of scope s e
  clear_pairs fits pairs_of p s e m f =
      let right = reached_by scope e in
      let own = faults_of_sides fits pairs_of p right in
      let c = sides scope s e in
      let two = clear_sides s e m (empty_left c.shows (shown_on c.has own) f) in
      let r = clear_connect fits pairs_of p right (two.left, two.type) (subst (λ (d : Checked (Reached × DataType)). shown_after d own ≡ []) two.found f) in
      (two.left, two.type, two.reaches, two.has, r.0, r.1)

-- what stands before a place: what is visible is declared, and what is declared has a type
module _ (modules : List ModuleTree) where
  pub record Holds (before : Before) : Type 0 where
    pub declared : Declared before
    pub typed : AllTyped (scope_at modules before)

  knows_visible : (before : Before) → Holds before → Knows (scope_at modules before) before.visible
  knows_visible before h = record {
    each = λ n d e.
        let scope = scope_at modules before in
        let among = found_among before.visible n d e in
        let k = known_each modules [] before.declared d (h.declared.visible.each d among.0) in
        let at_name : known scope n ≡ Some k.0 = subst (λ (x : List ℕ). known scope x ≡ Some k.0) among.1 k.1 in
        let t = h.typed.each n k.0 at_name in
        (record { data_type = t.0; flow = k.0.flow; path = Some (named k.0.name ∷ []) }, ap known_reached at_name ∙ reached_at k.0 t.0 t.1);
  }

  typed_with : (before : Before) (n : PlacedName) (c : Component) (t : DataType) → Holds before → component_type modules (scope_at modules before) n.place c ≡ Some t
      → Holds (with_declaration before n c)
  typed_with before n c t h e =
      let d = declaration_at before n c in
      record {
        declared = declared_more before n c h.declared;
        typed =
            subst AllTyped (sym (typed_more modules [] before.declared d))
            (typed_last (scope_at modules before) (known_as modules (scope_at modules before) d) t h.typed e);
      }

  pub holds_ports : (ps : List PortTree) (before : Before) → Holds before → Holds (behind_ports before ps)
  holds_ports [] before h = h
  holds_ports (p ∷ ps) before h =
      let c = component.port p.direction p.data_type in
      holds_ports ps (with_declaration before p.named c) (typed_with before p.named c p.data_type h refl)

  abbrev pub names : List PlacedName
  names = map (λ m. m.named) modules

  -- a statement that is legal, and what stands behind it
  record IsClear (before : Before) (s : Statement) : Type 0 where
    legal : IsLegal modules before s
    behind_it : Holds (behind before s)

  pub record AreClear (before : Before) (b : Block) : Type 0 where
    pub legal : AreLegal modules before b
    pub behind_it : Holds (behind_block before b)

  clear_register : (before : Before) (p : Place) (n : PlacedName) (begins : Place) (t : DataType) (c : Expression) (r : Option Reset) → Holds before
      → faults_in (mentions names before (register p n begins t c r)) ≡ [] → type_faults_in modules before (register p n begins t c r) ≡ []
      → IsClear before (register p n begins t c r)
  clear_register before p n begins t c r h m f =
      let scope = scope_at modules before in
      let next = with_declaration before n (component.register t) in
      let more = scope_at modules next in
      let after_it = typed_with before n (component.register t) t h refl in
      let mentioned_t = type_mentions t in
      let mentioned_c = expression_mentions before.visible c in
      let mentioned_r = reset_mentions next.visible r in
      let inside = empty_right (mention_faults (declares (names_declared before) n)) (faults_in (mentioned_t ++ mentioned_c ++ mentioned_r)) m in
      let numeric = (if is_numeric t then [] else wrong_kinds n.place (t ∷ []) ∷ []) in
      let front = empty_left (register_type_faults n t ++ clock_faults scope c) (reset_faults more t r) f in
      let type = empty_left (register_type_faults n t) (clock_faults scope c) front in
      let control = clear_clock scope before.visible (knows_visible before h) c (clear_right mentioned_t mentioned_c (clear_left (mentioned_t ++ mentioned_c) mentioned_r inside))
      (empty_right (register_type_faults n t) (clock_faults scope c) front) in
      let held = clear_reset more next.visible (knows_visible next after_it) t r (clear_right (mentioned_t ++ mentioned_c) mentioned_r inside)
      (empty_right (register_type_faults n t ++ clock_faults scope c) (reset_faults more t r) f) in
      record {
        legal = (
          passes (is_numeric t) (wrong_kinds n.place (t ∷ [])) (empty_left numeric (flipped_faults n t) type),
          passes (is_passive t) (not_passive n.place t) (empty_right numeric (flipped_faults n t) type),
          control,
          held,
        );
        behind_it = after_it;
      }

  clear_node : (before : Before) (p : Place) (n : PlacedName) (e : Expression) → Holds before
      → faults_in (mentions names before (node p n e)) ≡ [] → type_faults_in modules before (node p n e) ≡ [] → IsClear before (node p n e)
  clear_node before p n e h m f =
      let scope = scope_at modules before in
      let c = expression_type scope e in
      let mentioned = expression_mentions before.visible e in
      let t = clear_type scope before.visible (knows_visible before h) e (empty_right (mention_faults (declares (names_declared before) n)) (faults_in mentioned) m)
      (empty_left c.shows (shown_on c.has (flipped_faults n)) f) in
      let found = found_type scope e t.type t.has in
      let own : flipped_faults n t.type ≡ [] = subst (λ (d : Checked DataType). shown_after d (flipped_faults n) ≡ []) found f in
      record {
        legal = (t.type, t.has, passes (is_passive t.type) (not_passive n.place t.type) own);
        behind_it = typed_with before n (component.node e) t.type h (ap (λ d. d.has) found);
      }

  mutual
    clear_statement : (s : Statement) (before : Before) → Holds before → faults_in (mentions names before s) ≡ [] → type_faults_in modules before s ≡ [] → IsClear before s
    clear_statement (wire p n begins t) before h m f = record { legal = tt; behind_it = typed_with before n (component.wire t) t h refl }
    clear_statement (register p n begins t c r) before h m f = clear_register before p n begins t c r h m f
    clear_statement (node p n e) before h m f = clear_node before p n e h m f
    clear_statement (instance p n i) before h m f =
        let inside = empty_right (mention_faults (declares (names_declared before) n)) (faults_in (instantiates names i ∷ [])) m in
        let there = instance_there modules i (empty_left (missing_faults (find_name names i.name) i) [] inside) in
        record { legal = tt; behind_it = typed_with before n (component.instance i.name) there.0 h there.1 }
    clear_statement (memory p n parts) before h m f =
        let legal = clear_memory n parts f in
        let t = memory_typed n.place parts legal in
        record { legal = legal; behind_it = typed_with before n (component.memory parts) t.0 h t.1 }
    clear_statement (when p c a b) before h m f =
        let scope = scope_at modules before in
        let inside = behind_block (opened before) a in
        let mentioned_c = expression_mentions before.visible c in
        let mentioned_a = block_mentions names (opened before) a in
        let mentioned_b = block_mentions names (reopened before inside) b in
        let front = clear_left (mentioned_c ++ mentioned_a) mentioned_b m in
        let condition = condition_form (place_of c) (expression_type scope c) in
        let first = type_faults_in_block modules (opened before) a in
        let second = type_faults_in_block modules (reopened before inside) b in
        let shown = empty_left (condition.shows ++ first) second f in
        let at_c = empty_left condition.shows first shown in
        let t = clear_type scope before.visible (knows_visible before h) c (clear_left mentioned_c mentioned_a front) (operand_clear scope c (unsigned_at (place_of c)) at_c) in
        let one = unsigned_clear scope c t at_c in
        let two = clear_block a (opened before) (record { declared = declared_opened before h.declared; typed = h.typed }) (clear_right mentioned_c mentioned_a front)
        (empty_right condition.shows first shown) in
        let three = clear_block b (reopened before inside)
        (record { declared = declared_reopened before inside h.declared (grows_block a (opened before)); typed = two.behind_it.typed })
        (clear_right (mentioned_c ++ mentioned_a) mentioned_b m) (empty_right (condition.shows ++ first) second f) in
        record {
          legal = (one.width, one.has, two.legal, three.legal);
          behind_it = record { declared = declared_behind (when p c a b) before h.declared; typed = three.behind_it.typed };
        }
    clear_statement (connect p s e) before h m f = record { legal = clear_pairs (scope_at modules before) before.visible (knows_visible before h) is_connectable pairs p s e m f; behind_it = h }
    clear_statement (partial_connect p s e) before h m f = record { legal = clear_pairs (scope_at modules before) before.visible (knows_visible before h) is_partly_connectable partial_pairs p s e m f; behind_it = h }
    clear_statement (invalid p s) before h m f = record { legal = clear_sink (scope_at modules before) before.visible (knows_visible before h) s m f; behind_it = h }
    clear_statement (skip p) before h m f = record { legal = tt; behind_it = h }

    pub clear_block : (b : Block) (before : Before) → Holds before → faults_in (block_mentions names before b) ≡ [] → type_faults_in_block modules before b ≡ []
        → AreClear before b
    clear_block done before h m f = record { legal = tt; behind_it = h }
    clear_block ((then) s b) before h m f =
        let mentioned_s = mentions names before s in
        let mentioned_b = block_mentions names (behind before s) b in
        let here = type_faults_in modules before s in
        let more = type_faults_in_block modules (behind before s) b in
        let one = clear_statement s before h (clear_left mentioned_s mentioned_b m) (empty_left here more f) in
        let two = clear_block b (behind before s) one.behind_it (clear_right mentioned_s mentioned_b m) (empty_right here more f) in
        record { legal = (one.legal, two.legal); behind_it = two.behind_it }
