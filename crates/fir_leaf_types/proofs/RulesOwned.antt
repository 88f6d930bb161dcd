-- Each rule for a width is for a free unknown, or it is the rule of a node for an unknown of its own.
use Rattle.std.proofs.Common.{◌≡◌, ℕ, ◌+◌, List, [], ◌∷◌, ◌++◌, map, length, Bool, true, false, Option, Some, None, option_map, refl, sym, ap, ◌∙◌, subst, inl, inr, ◌⊎◌, ⊎_elim, arith}
use Rattle.std.specs.List.{All}
use Rattle.std.proofs.lemmas.List.Elements.{All-head}
use Rattle.fir_base.specs.Lists.{In}
use Rattle.fir_base.proofs.Elements.{number_of}
use Rattle.fir_base.proofs.Members.{in_either, in_flat_map, in_flat_map_from, in_map}
use Rattle.fir_bits.specs.declared.operators.PrimOp.{PrimOp}
use Rattle.fir_ast.specs.declared.place.Place.{Place}
use Rattle.fir_ast.specs.Types.{DataType}
use Rattle.fir_ast.specs.Expressions.{Expression, reference, literal, operation, mux, validif}
use Rattle.fir_ast.specs.Statements.{PlacedName, SinkReference, Reset, Statement, wire, register, node, instance, memory, when, connect, partial_connect, invalid, skip, Block, done, then}
use Rattle.fir_ast.specs.Circuits.{CircuitTree}
use Rattle.fir_meaning.specs.LeafPaths.{LeafPath}
use Rattle.fir_meaning.specs.Flows.{flow_under, is_source, source}
use Rattle.fir_meaning.specs.Components.{Declaration, Declarations}
use Rattle.fir_meaning.specs.Components as component
use Rattle.fir_meaning.specs.ConnectPairs.{Pair, pairs, partial_pairs}
use Rattle.fir_meaning.specs.Equivalence.{fitting_ground, is_connectable, is_partly_connectable}
use Rattle.fir_meaning.specs.ExpressionTypes.{reached_by}
use Rattle.fir_meaning.specs.Reaching.{Reached, further}
use Rattle.fir_meaning.specs.SharedLeaves.{shared_count}
use Rattle.fir_meaning.specs.TypeGroup.{scope_at}
use Rattle.fir_meaning.specs.TypeKinds.{bare, is_passive}
use Rattle.fir_meaning.specs.TypeLeaves.{TypeLeaf, type_leaves, leaf_count}
use Rattle.fir_meaning.specs.TypedScopes.{TypedScope}
use Rattle.fir_meaning.specs.WidthExpressions.{Width, unknown, single, pair, greater, guarded, Rule}
use Rattle.fir_meaning.specs.WidthExpressions as width
use Rattle.fir_meaning.specs.SizedTypes.{Sized, bare_type, renumbered}
use Rattle.fir_meaning.specs.SizedMatches.{Match, matches}
use Rattle.fir_meaning.specs.SizedOperations.{greater_of, operation_width, width_in}
use Rattle.fir_meaning.specs.SizedScopes.{SizedScope, sink_expression, sized_in, sized_type, sized_types}
use Rattle.fir_meaning.specs.SizedDeclarations.{NumberedModule, numbered_behind, numbered_modules, numbers_at, sized_at, sized_declared}
use Rattle.fir_meaning.specs.WidthRules.{bound, connect_rules, init_rules, rules_in, rules_in_block}
use Rattle.fir_meaning.specs.Visibility.{Before, with_declaration, opened, reopened, behind, behind_block, declarations}
use Rattle.fir_meaning.specs.working.WellTyped.{HasType, Reaches, PairFlows, FlowsTo, ConnectIsLegal, IsLegal, AreLegal}
use Rattle.fir_meaning.proofs.FoundTypes.{found_type}
use Rattle.fir_meaning.proofs.PairedLeaves.{pairs_leaves}
use Rattle.fir_meaning.proofs.PartialPairs.{partial_fit}
use Rattle.fir_meaning.proofs.SizedExpressions.{sized_as_typed}
use Rattle.fir_leaf.proofs.DrivenFlips.{passive_flips, straight_leaf}
use Rattle.fir_leaf.proofs.LeafPlaces.{leaves_counted}
use Rattle.fir_leaf_types.proofs.DeclarationsGrow.{Grows, grows_block, grows_through}
use Rattle.fir_leaf_types.proofs.EmptyMatches.{leafless_matches, partial_empty, partial_matches}
use Rattle.fir_leaf_types.proofs.FreeNumbers.{Free, next_of, owned_behind, owned_block, register_owned, taken_at}
use Rattle.fir_leaf_types.proofs.HeldPlaces.{bare_counted}
use Rattle.fir_leaf_types.proofs.NodeTypes.{passive_node, passive_numbers}
use Rattle.fir_leaf_types.proofs.NumberPlaces.{Taken}
use Rattle.fir_leaf_types.proofs.OwnedNumbers.{IsOwned, Owned, Within, guarded_owned, renumbered_owned}
use Rattle.fir_leaf_types.proofs.ReferencesOwned.{InNode, RefOwned, ScopeOwned, leads_owned, name_owned}
use Rattle.fir_leaf_types.proofs.StraightMatches.{Straight, alike_passive, matches_owned, partly_bare, partly_straight, passive_bare, passive_straight, straight_owned}

-- a rule comes from a match, and a match of an unknown makes one
pub record FromMatch (a b : Sized) (r : Rule) : Type 0 where
  pub match : Match
  pub is_in : In (matches false a b) match
  pub is : match ≡ record { driven = unknown r.number; driver = r.at_least }

pub rule_from : (a b : Sized) (r : Rule) → In (connect_rules a b) r → FromMatch a b r
rule_from a b r i =
    let from = in_flat_map_from (λ (m : Match). bound m.driven m.driver) (matches false a b) r i in
    by from.0.driven from.0.driver (from.0) refl from.1 from.2
  where
    by : (v e : Width) (m : Match) → record { driven = v; driver = e } ≡ m → In (matches false a b) m → In (bound v e) r → FromMatch a b r
    by (unknown k) e m is i (inl same) =
        let rule = ap (λ (x : Rule). record { driven = unknown x.number; driver = x.at_least }) same in
        record { match = m; is_in = i; is = sym is ∙ rule }
    by (unknown k) e m is i (inr none) = absurd none
    by (width.known n) e m is i k = absurd k
    by (single op s a n j) e m is i k = absurd k
    by (pair op s a d) e m is i k = absurd k
    by (greater a d) e m is i k = absurd k
    by (guarded a d) e m is i k = absurd k

pub rule_to : (a b : Sized) (j : ℕ) (e : Width) → In (matches false a b) (record { driven = unknown j; driver = e })
    → In (connect_rules a b) (record { number = j; at_least = e })
rule_to a b j e i =
    in_flat_map (λ (m : Match). bound m.driven m.driver) (matches false a b) (record { driven = unknown j; driver = e }) (record { number = j; at_least = e }) i
    (inl refl)

rule_owned : (Q : ℕ → Type 0) (a b : Sized) → ((x : Match) → In (matches false a b) x → IsOwned Q x.driven) → (r : Rule) → In (connect_rules a b) r → Q r.number
rule_owned Q a b h r i =
    let from = rule_from a b r i in
    subst (λ (x : Match). IsOwned Q x.driven) from.is (h from.match from.is_in)

operation_owned : (Q : ℕ → Type 0) (op : PrimOp) (ss : List Sized) (ks : List ℕ) → IsOwned Q (operation_width op ss ks)
operation_owned Q op [] ks = tt
operation_owned Q op (a ∷ []) ks = tt
operation_owned Q op (a ∷ b ∷ []) ks = tt
operation_owned Q op (a ∷ b ∷ d ∷ ss) ks = tt

-- no leaf of a type without flips is flipped
unflipped : (t : DataType) → is_passive t ≡ true → (l : TypeLeaf) → In (type_leaves t) l → l.flip ≡ false
unflipped t h l i =
    let at = number_of (type_leaves t) l i in straight_leaf (type_leaves t) (leaf_count t) (passive_flips t h) at.0 l at.1

nothing_of : {A : Type 0} → (P : A → Type 0) (xs : List A) → All P xs → ((x : A) → In xs x → P x → ⊥) → xs ≡ []
nothing_of P [] h apart = refl
nothing_of P (x ∷ xs) h apart = absurd (apart x (inl refl) (All-head P x xs h))

-- what a connect and a partial connect are known by
record IsConnect (fits : DataType → DataType → Bool) (pairs_of : DataType → DataType → List Pair) : Type 0 where
  left : (t u : DataType) → fits t u ≡ true → (p : Pair) → In (pairs_of t u) p → In (type_leaves t) p.left
  empty : (t u : DataType) → fits t u ≡ true → (a b : Sized) → bare_type a ≡ bare t → bare_type b ≡ bare u → pairs_of t u ≡ [] → matches false a b ≡ []
  straight : (t u : DataType) → fits t u ≡ true → (a b : Sized) → bare_type a ≡ bare t → bare_type b ≡ bare u → is_passive u ≡ true → Straight a b

whole_connect : IsConnect is_connectable pairs
whole_connect = record {
  left = λ t u h p i. subst (λ ls. In ls p.left) (pairs_leaves t u h).left (in_map (λ (x : Pair). x.left) (pairs t u) p i);
  empty = λ t u h a b e f none.
      let leaves : type_leaves t ≡ [] = sym (pairs_leaves t u h).left ∙ ap (map (λ (x : Pair). x.left)) none in
      let count : leaf_count t ≡ 0 = sym (leaves_counted t) ∙ ap length leaves in
      leafless_matches false a b (ap leaf_count e ∙ bare_counted t ∙ count);
  straight = λ t u h a b e f passive.
      passive_straight a b (ap is_passive e ∙ passive_bare t ∙ alike_passive fitting_ground t u h passive);
}

partly_connect : IsConnect is_partly_connectable partial_pairs
partly_connect = record {
  left = λ t u h p i. (partial_fit t u h p i).left;
  empty = λ t u h a b e f none.
      partial_matches false a b (ap (λ x. partial_pairs x (bare_type b)) e ∙ ap (partial_pairs (bare t)) f ∙ partial_empty t u none);
  straight = λ t u h a b e f passive.
      partly_straight a b (ap (λ x. is_partly_connectable x (bare_type b)) e ∙ ap (is_partly_connectable (bare t)) f ∙ partly_bare t u ∙ h)
      (ap is_passive f ∙ passive_bare u ∙ passive);
}

flows_nowhere : (left : Reached) (right : Option Reached) (p : Pair) (path : LeafPath) → p.left.flip ≡ false → left.flow ≡ source → left.path ≡ Some path
    → PairFlows left right p → ⊥
flows_nowhere left right p path straight flow reached h =
    let flows : FlowsTo false left right p = subst (λ f. FlowsTo f left right p) straight h in
    let there : further left p.left.path ≡ Some (path ++ p.left.path) = ap (option_map (λ x. x ++ p.left.path)) reached in
    let none : is_source (flow_under p.left.flip left.flow) ≡ false = flows (path ++ p.left.path) there in
    let some : is_source (flow_under p.left.flip left.flow) ≡ true =
    ap (λ f. is_source (flow_under f left.flow)) straight ∙ ap (λ g. is_source (flow_under false g)) flow in
    absurd (cc)

module _ (Q : ℕ → Type 0) (scope : TypedScope) (sized : SizedScope) (owned : ScopeOwned Q scope sized)
    (shape : (e : Expression) (t : DataType) → HasType scope e t → bare_type (sized_type sized e) ≡ bare t) where
  sink_owned : (s : SinkReference) (r : Reached) → Reaches scope s r → RefOwned Q r (sized_type sized (sink_expression s))
  sink_owned s r h = leads_owned Q scope s.parts h.0 r (sized_in sized s.name) h.2 (name_owned Q scope sized s.name h.0 owned h.1)

  -- what drives is owned, or has no flips
  source_owned : (e : Expression) (t : DataType) → HasType scope e t → Owned Q (sized_type sized e) ⊎ (is_passive t ≡ true)
  source_owned (reference p n ps) t h =
      ⊎_elim
      (λ (o : Owned Q (sized_type sized (reference p n ps))). inl o)
      (λ (i : InNode h.1 (sized_type sized (reference p n ps))). inr (ap is_passive h.4 ∙ i.passive))
      (sink_owned (record { place = p; name = n; parts = ps }) h.1 (h.0, h.2, h.3))
  source_owned (literal l) t h = inl tt
  source_owned (operation p op es ks) t h = inl (operation_owned Q op (sized_types sized es) ks)
  source_owned (mux p x a b) t h = inl (guarded_owned Q (width_in (sized_type sized x)) (greater_of (sized_type sized a) (sized_type sized b)))
  source_owned (validif p x a) t h = inl (guarded_owned Q (width_in (sized_type sized x)) (sized_type sized a))

  connect_owned : (fits : DataType → DataType → Bool) (pairs_of : DataType → DataType → List Pair) → IsConnect fits pairs_of → (s : SinkReference) (e : Expression)
      → ConnectIsLegal fits pairs_of scope s e → (r : Rule) → In (connect_rules (sized_type sized (sink_expression s)) (sized_type sized e)) r → Q r.number
  connect_owned fits pairs_of is s e h r i =
      ⊎_elim
      (λ (o : Owned Q a).
      rule_owned Q a b
      (λ x j.
      ⊎_elim (λ (k : Owned Q b). matches_owned Q false a b o k x j)
      (λ (k : is_passive h.1 ≡ true). straight_owned Q a b o (is.straight h.0.data_type h.1 h.4 a b left_shape right_shape k) x j) (source_owned e h.1 h.3))
      r i)
      (λ (o : InNode h.0 a).
      let none = nothing_of (PairFlows h.0 (reached_by scope e)) (pairs_of h.0.data_type h.1) h.5
      (λ p j flows.
      flows_nowhere h.0 (reached_by scope e) p o.path (unflipped h.0.data_type o.passive p.left (is.left h.0.data_type h.1 h.4 p j)) o.flow o.reached flows) in
      let no_match = is.empty h.0.data_type h.1 h.4 a b left_shape right_shape none in
      let from = rule_from a b r i in
      absurd (subst (λ ms. In ms from.match) no_match from.is_in))
      (sink_owned s h.0 h.2)
    where
      a : Sized
      a = sized_type sized (sink_expression s)

      b : Sized
      b = sized_type sized e

      left_shape : bare_type (sized_type sized (sink_expression s)) ≡ bare h.0.data_type
      left_shape = shape (sink_expression s) h.0.data_type (h.2.0, h.0, h.2.1, h.2.2, refl)

      right_shape : bare_type (sized_type sized e) ≡ bare h.1
      right_shape = shape e h.1 h.3

-- the rules of a node that is declared behind these
abbrev pub node_rules : NumberedModule → Declarations → Expression → List Rule
node_rules m ds e =
    connect_rules (renumbered (numbered_behind m.modules m.start ds).next (sized_type (numbered_behind m.modules m.start ds).scope e))
    (sized_type (numbered_behind m.modules m.start ds).scope e)

abbrev pub node_declared : PlacedName → Expression → ℕ → Declaration
node_declared n e depth = record { named = n; component = component.node e; depth = depth }

module _ (c : CircuitTree) where
  pub record OfNode (r : Rule) : Type 0 where
    pub inside : NumberedModule
    pub is_in : In (numbered_modules c) inside
    pub front : Declarations
    pub named : PlacedName
    pub value : Expression
    pub depth : ℕ
    pub taken : Taken inside front (node_declared named value depth) r.number
    pub rule : In (node_rules inside front value) r

  abbrev pub RuleOwned : Rule → Type 0
  RuleOwned r = Free c r.number ⊎ OfNode r

  module _ (m : NumberedModule) (is_in : In (numbered_modules c) m) (all_modules : m.modules ≡ c.modules) (none : m.start.scope ≡ []) where
    shape_at : (before : Before) (e : Expression) (t : DataType) → HasType (scope_at m.modules before) e t
        → bare_type (sized_type (sized_at m before) e) ≡ bare t
    shape_at before e t h = sized_as_typed m.modules m.start before.declared e t none (ap (λ x. x.has) (found_type (scope_at m.modules before) e t h))

    pub node_taken : (before : Before) (p : Place) (n : PlacedName) (e : Expression) (j : ℕ)
        → Grows (with_declaration before n (component.node e)).declared (declarations m.inside)
        → Within (numbers_at m before).next (shared_count (bare_type (sized_type (sized_at m before) e))) j
        → Taken m before.declared (node_declared n e before.depth) j
    node_taken before p n e j g within =
        let count = shared_count (bare_type (sized_type (sized_at m before) e)) in
        let next = next_of c m is_in all_modules none before n (component.node e) ((numbers_at m before).next + count) refl in
        taken_at c m is_in all_modules none before n (component.node e) j g within.0 (omega (arith, within.1, next))

    node_owned : (before : Before) (p : Place) (n : PlacedName) (e : Expression)
        → Grows (with_declaration before n (component.node e)).declared (declarations m.inside)
        → IsLegal m.modules before (node p n e) → (r : Rule) → In (rules_in m before (node p n e)) r → OfNode r
    node_owned before p n e g legal r i =
        let s = sized_type (sized_at m before) e in
        let k = (numbers_at m before).next in
        let q = Within k (shared_count (bare_type s)) in
        let passive : is_passive (bare_type s) ≡ true = ap is_passive (shape_at before e legal.0 legal.1) ∙ passive_bare legal.0 ∙ legal.2 in
        let within =
        rule_owned q (renumbered k s) s
        (straight_owned q (renumbered k s) s (renumbered_owned k s) (passive_straight (renumbered k s) s (passive_node k s passive))) r i in
        record {
          inside = m;
          is_in = is_in;
          front = before.declared;
          named = n;
          value = e;
          depth = before.depth;
          taken = node_taken before p n e r.number g within;
          rule = i;
        }

    init_owned : (before : Before) (n : PlacedName) (t : DataType) (o : Option Reset)
        → Grows (with_declaration before n (component.register t)).declared (declarations m.inside) → is_passive t ≡ true
        → (r : Rule) → In (init_rules (sized_declared m before n (component.register t)) (sized_at m (with_declaration before n (component.register t))) o) r
        → Free c r.number
    init_owned before n t None g passive r i = absurd i
    init_owned before n t (Some x) g passive r i =
        let a = sized_declared m before n (component.register t) in
        let b = sized_type (sized_at m (with_declaration before n (component.register t))) x.init in
        let straight : is_passive (bare_type a) ≡ true = passive_numbers (Some (numbers_at m before).next) t passive in
        rule_owned (Free c) a b (straight_owned (Free c) a b (register_owned c m is_in all_modules none before n t g) (passive_straight a b straight)) r i

    mutual
      rules_owned : (x : Statement) (before : Before) → Grows (behind before x).declared (declarations m.inside) → IsLegal m.modules before x
          → ScopeOwned (Free c) (scope_at m.modules before) (sized_at m before) → (r : Rule) → In (rules_in m before x) r → RuleOwned r
      rules_owned (wire p n begins t) before g legal h r i = absurd i
      rules_owned (register p n begins t x o) before g legal h r i = inl (init_owned before n t o g legal.1 r i)
      rules_owned (node p n e) before g legal h r i = inr (node_owned before p n e g legal r i)
      rules_owned (instance p n other) before g legal h r i = absurd i
      rules_owned (memory p n parts) before g legal h r i = absurd i
      rules_owned (when p x a b) before g legal h r i =
          let inside = behind_block (opened before) a in
          let first =
          grows_through inside.declared (behind_block (reopened before inside) b).declared (declarations m.inside) (grows_block b (reopened before inside)) g in
          ⊎_elim
          (λ (k : In (rules_in_block m (opened before) a) r). block_rules a (opened before) first legal.2 h r k)
          (λ (k : In (rules_in_block m (reopened before inside) b) r).
          block_rules b (reopened before inside) g legal.3 (owned_block c m is_in all_modules none a (opened before) first legal.2 h) r k)
          (in_either (rules_in_block m (opened before) a) (rules_in_block m (reopened before inside) b) r i)
      rules_owned (connect p d e) before g legal h r i =
          inl
          (connect_owned (Free c) (scope_at m.modules before) (sized_at m before) h (shape_at before) is_connectable pairs whole_connect d e legal r i)
      rules_owned (partial_connect p d e) before g legal h r i =
          inl
          (connect_owned (Free c) (scope_at m.modules before) (sized_at m before) h (shape_at before) is_partly_connectable partial_pairs partly_connect d e
          legal r i)
      rules_owned (invalid p d) before g legal h r i = absurd i
      rules_owned (skip p) before g legal h r i = absurd i

      pub block_rules : (b : Block) (before : Before) → Grows (behind_block before b).declared (declarations m.inside) → AreLegal m.modules before b
          → ScopeOwned (Free c) (scope_at m.modules before) (sized_at m before) → (r : Rule) → In (rules_in_block m before b) r → RuleOwned r
      block_rules done before g legal h r i = absurd i
      block_rules ((then) x b) before g legal h r i =
          let first =
          grows_through (behind before x).declared (behind_block (behind before x) b).declared (declarations m.inside) (grows_block b (behind before x)) g in
          ⊎_elim
          (λ (k : In (rules_in m before x) r). rules_owned x before first legal.0 h r k)
          (λ (k : In (rules_in_block m (behind before x) b) r).
          block_rules b (behind before x) g legal.1 (owned_behind c m is_in all_modules none x before first legal.0 h) r k)
          (in_either (rules_in m before x) (rules_in_block m (behind before x) b) r i)
