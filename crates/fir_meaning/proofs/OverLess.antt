-- Where nothing is over under an assignment, nothing is under a lesser one.
use Rattle.std.proofs.Common.{◌≡◌, ℕ, ◌≤◌, List, [], ◌∷◌, ◌++◌, Bool, true, false, nat_lt, if◌then◌else◌, Option, Some, None, flat_map, ◌||◌, refl, arith}
use Rattle.std.proofs.lemmas.Bool.Decides.{nat_tests}
use Rattle.std.specs.Prelude.{codes}
use Rattle.fir_base.proofs.Empty.{empty_left, empty_right}
use Rattle.fir_bits.specs.OperatorWords.{operator_word}
use Rattle.fir_bits.specs.working.Laws.{Monotone}
use Rattle.fir_ast.specs.declared.place.Place.{Place}
use Rattle.fir_ast.specs.Expressions.{Expression, reference, literal, operation, mux, validif, Parts, no_parts, subfield, subindex, subaccess, Expressions, no_expressions, expression}
use Rattle.fir_ast.specs.Statements.{PlacedName, Reset, Statement, wire, register, node, instance, memory, when, connect, partial_connect, invalid, skip, Block, done, then}
use Rattle.fir_ast.specs.Circuits.{PortTree, ModuleTree, CircuitTree}
use Rattle.fir_meaning.specs.LeafPaths.{LeafPath, named}
use Rattle.fir_meaning.specs.Components.{Component}
use Rattle.fir_meaning.specs.Components as component
use Rattle.fir_meaning.specs.Visibility.{Before, with_declaration, opened, reopened, behind, behind_block, behind_ports, at_head}
use Rattle.fir_meaning.specs.WidthExpressions.{Widths, width_under}
use Rattle.fir_meaning.specs.SizedTypes.{Sized}
use Rattle.fir_meaning.specs.SizedLeaves.{SizedLeaf, sized_leaves}
use Rattle.fir_meaning.specs.SizedScopes.{SizedScope, sized_type, sink_expression}
use Rattle.fir_meaning.specs.SizedDeclarations.{NumberedModule, numbered_modules, sized_at, sized_declared}
use Rattle.fir_meaning.specs.SizeFaults.{word_over, leaf_over}
use Rattle.fir_meaning.specs.WidthWalk.{FaultRule, shown_within, shown_within_parts, shown_within_each, shown_within_reset, shown_at, shown_in, shown_in_block, shown_in_ports, shown_in_module, shown_in_circuit}
use Rattle.fir_meaning.specs.OverFaults.{is_leaf_over, leaves_over, with_leaves, first_path, has_over, form_over, expression_over, over_rule, over_faults}
use Rattle.fir_meaning.specs.working.WidthLaws.{OverIsExact}
use Rattle.fir_meaning.proofs.LeastRules.{width_grows}

-- where each of two lists is empty if another is, both are if both others are
joined_less : {A : Type 0} → {xs ys us vs : List A} → (xs ≡ [] → us ≡ []) → (ys ≡ [] → vs ≡ []) → xs ++ ys ≡ [] → us ++ vs ≡ []
joined_less {xs = xs} {ys = ys} p q h = rw (p (empty_left xs ys h), q (empty_right xs ys h)) refl

flat_less : {A B : Type 0} → (f g : A → List B) (xs : List A) → ((x : A) → f x ≡ [] → g x ≡ []) → flat_map f xs ≡ [] → flat_map g xs ≡ []
flat_less f g [] h e = refl
flat_less f g (x ∷ xs) h e = joined_less (h x) (flat_less f g xs h) e

-- where the first rule finds nothing, the second finds nothing
record Weaker (r s : FaultRule) : Type 0 where
  of_component : (m : ModuleTree) (n : PlacedName) (c : Component) (t : Sized) → r.of_component m n c t ≡ [] → s.of_component m n c t ≡ []
  of_expression : (scope : SizedScope) (e : Expression) → r.of_expression scope e ≡ [] → s.of_expression scope e ≡ []
  of_condition : (scope : SizedScope) (e : Expression) → r.of_condition scope e ≡ [] → s.of_condition scope e ≡ []

module _ (r s : FaultRule) (k : Weaker r s) where
  module _ (scope : SizedScope) where
    mutual
      in_expression : (e : Expression) → shown_within r scope e ≡ [] → shown_within s scope e ≡ []
      in_expression (reference p n ps) h = joined_less (in_parts ps) (k.of_expression scope (reference p n ps)) h
      in_expression (literal l) h = k.of_expression scope (literal l) h
      in_expression (operation p op es ks) h = joined_less (in_each es) (k.of_expression scope (operation p op es ks)) h
      in_expression (mux p c a b) h =
          joined_less
          (joined_less (joined_less (joined_less (in_expression c) (k.of_condition scope c)) (in_expression a)) (in_expression b))
          (k.of_expression scope (mux p c a b))
          h
      in_expression (validif p c a) h =
          joined_less (joined_less (joined_less (in_expression c) (k.of_condition scope c)) (in_expression a)) (k.of_expression scope (validif p c a)) h

      in_parts : (ps : Parts) → shown_within_parts r scope ps ≡ [] → shown_within_parts s scope ps ≡ []
      in_parts no_parts h = refl
      in_parts (subfield first p x rest) h = in_parts rest h
      in_parts (subindex first p i rest) h = in_parts rest h
      in_parts (subaccess first e rest) h = joined_less (in_expression e) (in_parts rest) h

      in_each : (es : Expressions) → shown_within_each r scope es ≡ [] → shown_within_each s scope es ≡ []
      in_each no_expressions h = refl
      in_each (expression e es) h = joined_less (in_expression e) (in_each es) h

    in_reset : (reset : Option Reset) → shown_within_reset r scope reset ≡ [] → shown_within_reset s scope reset ≡ []
    in_reset None h = refl
    in_reset (Some t) h = joined_less (joined_less (in_expression t.condition) (k.of_condition scope t.condition)) (in_expression t.init) h

  module _ (m : NumberedModule) where
    at_declaration : (before : Before) (n : PlacedName) (c : Component) → shown_at r m before n c ≡ [] → shown_at s m before n c ≡ []
    at_declaration before n c h = k.of_component m.inside n c (sized_declared m before n c) h

    mutual
      in_statement : (before : Before) (x : Statement) → shown_in r m before x ≡ [] → shown_in s m before x ≡ []
      in_statement before (wire p n begins t) h = at_declaration before n (component.wire t) h
      in_statement before (register p n begins t c reset) h =
          joined_less
          (joined_less (at_declaration before n (component.register t)) (in_expression (sized_at m before) c))
          (in_reset (sized_at m (with_declaration before n (component.register t))) reset)
          h
      in_statement before (node p n e) h = joined_less (at_declaration before n (component.node e)) (in_expression (sized_at m before) e) h
      in_statement before (instance p n other) h = at_declaration before n (component.instance other.name) h
      in_statement before (memory p n parts) h = at_declaration before n (component.memory parts) h
      in_statement before (when p c a b) h =
          joined_less
          (joined_less (joined_less (in_expression (sized_at m before) c) (k.of_condition (sized_at m before) c)) (in_block (opened before) a))
          (in_block (reopened before (behind_block (opened before) a)) b)
          h
      in_statement before (connect p sink e) h =
          joined_less (in_expression (sized_at m before) (sink_expression sink)) (in_expression (sized_at m before) e) h
      in_statement before (partial_connect p sink e) h =
          joined_less (in_expression (sized_at m before) (sink_expression sink)) (in_expression (sized_at m before) e) h
      in_statement before (invalid p sink) h = in_expression (sized_at m before) (sink_expression sink) h
      in_statement before (skip p) h = refl

      in_block : (before : Before) (b : Block) → shown_in_block r m before b ≡ [] → shown_in_block s m before b ≡ []
      in_block before done h = refl
      in_block before ((then) x b) h = joined_less (in_statement before x) (in_block (behind before x) b) h

    in_ports : (before : Before) (ps : List PortTree) → shown_in_ports r m before ps ≡ [] → shown_in_ports s m before ps ≡ []
    in_ports before [] h = refl
    in_ports before (p ∷ ps) h =
        joined_less
        (at_declaration before p.named (component.port p.direction p.data_type))
        (in_ports (with_declaration before p.named (component.port p.direction p.data_type)) ps)
        h

    in_module : shown_in_module r m ≡ [] → shown_in_module s m ≡ []
    in_module h = joined_less (in_ports at_head m.inside.ports) (in_block (behind_ports at_head m.inside.ports) m.inside.body) h

  in_circuit : (c : CircuitTree) → shown_in_circuit r c ≡ [] → shown_in_circuit s c ≡ []
  in_circuit c h = flat_less (shown_in_module r) (shown_in_module s) (numbered_modules c) in_module h

if_less : {A : Type 0} → (a b : Bool) (x : A) → (b ≡ true → a ≡ true) → (if a then x ∷ [] else []) ≡ [] → (if b then x ∷ [] else []) ≡ []
if_less a false x h e = refl
if_less true true x h e = cc
if_less false true x h e = let f = h refl in cc

or_less : (a b c d : Bool) → (a ≡ true → c ≡ true) → (b ≡ true → d ≡ true) → a || b ≡ true → c || d ≡ true
or_less true b c d p q h = rw (p refl) refl
or_less false b true d p q h = refl
or_less false b false d p q h = q h

over_less : (x y : ℕ) → x ≤ y → nat_lt 128 x ≡ true → nat_lt 128 y ≡ true
over_less x y h e = grind (arith, nat_tests)

module _ (law : Monotone) (v w : Widths) (h : (k : ℕ) → w k ≤ v k) where
  leaf_less : (l : SizedLeaf) → is_leaf_over w l ≡ true → is_leaf_over v l ≡ true
  leaf_less l e = over_less (width_under l.width w) (width_under l.width v) (width_grows law l.width w v h) e

  leaves_less : (p : Place) (path : LeafPath) (t : Sized) → leaves_over v p path t ≡ [] → leaves_over w p path t ≡ []
  leaves_less p path t e =
      flat_less (λ l. if is_leaf_over v l then leaf_over p (path ++ l.path) ∷ [] else [])
      (λ l. if is_leaf_over w l then leaf_over p (path ++ l.path) ∷ [] else []) (sized_leaves t)
      (λ l. if_less (is_leaf_over v l) (is_leaf_over w l) (leaf_over p (path ++ l.path)) (leaf_less l)) e

  has_less : (ls : List SizedLeaf) → has_over w ls ≡ true → has_over v ls ≡ true
  has_less [] e = e
  has_less (l ∷ ls) e = or_less (is_leaf_over w l) (has_over w ls) (is_leaf_over v l) (has_over v ls) (leaf_less l) (has_less ls) e

  form_less : (p : Place) (word : List ℕ) (t : Sized) → form_over v p word t ≡ [] → form_over w p word t ≡ []
  form_less p word t e = if_less (has_over v (sized_leaves t)) (has_over w (sized_leaves t)) (word_over p word) (has_less (sized_leaves t)) e

  expression_less : (scope : SizedScope) (e : Expression) → expression_over v scope e ≡ [] → expression_over w scope e ≡ []
  expression_less scope (reference p n ps) f = leaves_less p (first_path (named n ∷ []) ps) (sized_type scope (reference p n ps)) f
  expression_less scope (literal l) f = form_less l.place (codes "literal") (sized_type scope (literal l)) f
  expression_less scope (operation p op es ks) f = form_less p (operator_word op) (sized_type scope (operation p op es ks)) f
  expression_less scope (mux p c a b) f = form_less p (codes "mux") (sized_type scope (mux p c a b)) f
  expression_less scope (validif p c a) f = form_less p (codes "validif") (sized_type scope (validif p c a)) f

  weaker : Weaker (over_rule v) (over_rule w)
  weaker = record {
    of_component = λ m n c t e. leaves_less n.place (named n.name ∷ []) (with_leaves c t) e;
    of_expression = expression_less;
    of_condition = λ scope e f. refl;
  }

  circuit_less : (c : CircuitTree) → over_faults c v ≡ [] → over_faults c w ≡ []
  circuit_less c e = in_circuit (over_rule v) (over_rule w) weaker c e

pub over_exact : Monotone → OverIsExact
over_exact law c w p = (λ t. circuit_less law t.0 w (p.least t.0 t.1) c t.2, λ h. (w, p.meets, h))
