-- What a module without a fault of names or types declares: each name once, and types in which no bundle has two fields of one name.
use Rattle.std.proofs.Common.{◌≡◌, ℕ, List, [], ◌∷◌, ◌++◌, map, Bool, true, false, if◌then◌else◌, Some, option_map, refl, sym, ap, ◌∙◌, subst, append_assoc, inl, inr, ⊎_elim}
use Rattle.std.specs.Str.{bytes_eq}
use Rattle.std.proofs.lemmas.List.{map-append, append-nil}
use Rattle.fir_base.specs.Lists.{In, Distinct}
use Rattle.fir_base.proofs.Empty.{empty_right}
use Rattle.fir_base.proofs.Members.{in_either}
use Rattle.fir_ast.specs.Types.{DataType}
use Rattle.fir_ast.specs.Statements.{PlacedName, Statement, wire, register, node, instance, memory, when, connect, partial_connect, invalid, skip, Block, done, then}
use Rattle.fir_ast.specs.Circuits.{PortTree, ModuleTree, CircuitTree}
use Rattle.fir_meaning.specs.Components.{Component, Declaration, Declarations}
use Rattle.fir_meaning.specs.Components as component
use Rattle.fir_meaning.specs.Visibility.{Before, declaration_at, with_declaration, opened, reopened, behind, behind_block, behind_ports, at_head, declarations}
use Rattle.fir_meaning.specs.TypedScopes.{Known, TypedScope}
use Rattle.fir_meaning.specs.ComponentTypes.{port_fields, find_module, instance_bundle, instance_type, component_type, known_as, typed_behind, typed_scope}
use Rattle.fir_meaning.specs.TypeGroup.{scope_at}
use Rattle.fir_meaning.specs.Mentions.{declares, names_declared, type_mentions, field_mentions, expression_mentions, reset_mentions, mentions, block_mentions, memory_mentions, ports_mentions, module_mentions, module_names, circuit_mentions}
use Rattle.fir_meaning.specs.working.NameGroups.{HasNames}
use Rattle.fir_meaning.specs.NameGroups.{faults_in, mention_faults}
use Rattle.fir_meaning.specs.working.WellTyped.{IsLegal, AreLegal}
use Rattle.fir_meaning.proofs.FoundDeclarations.{Once}
use Rattle.fir_meaning.proofs.FoundTypes.{found_type}
use Rattle.fir_meaning.proofs.KnownNames.{typed_more}
use Rattle.fir_meaning.proofs.OnceDeclared.{clear_left, clear_right, once_behind, once_block, once_ports}
use Rattle.fir_meaning.proofs.OneLookUp.{emptied, clear_module}
use Rattle.fir_leaf.specs.working.LeafLaws.{IsFine}
use Rattle.fir_leaf.proofs.ScopesBegin.{begins_all}
use Rattle.fir_leaf.proofs.FineTypes.{fine_type}
use Rattle.fir_leaf.proofs.ClearFields.{IsOnce, once_from_fresh, memory_once}

-- all that is known has such a type
pub record ScopeOnce (scope : TypedScope) : Type 0 where
  pub each : (k : Known) (t : DataType) → In scope k → k.data_type ≡ Some t → IsOnce t

once_last : (scope : TypedScope) (x : Known) → ScopeOnce scope → ((t : DataType) → x.data_type ≡ Some t → IsOnce t) → ScopeOnce (scope ++ x ∷ [])
once_last scope x h own = record {
  each = λ k t m e.
      ⊎_elim
      (λ (i : In scope k). h.each k t i e)
      (λ (i : In (x ∷ []) k).
      ⊎_elim (λ (s : x ≡ k). own t (ap (λ (y : Known). y.data_type) s ∙ e)) (λ (n : ⊥). absurd n) i)
      (in_either scope (x ∷ []) k m);
}

-- the ports of a module are the fields of its instances
names_more : (before : Before) (n : PlacedName) (c : Component) → names_declared (with_declaration before n c) ≡ names_declared before ++ n ∷ []
names_more before n c = map-append (λ (d : Declaration). d.named) before.declared (declaration_at before n c ∷ [])

ports_are_fields : (ps : List PortTree) (before : Before) → ports_mentions before ps ≡ field_mentions (names_declared before) (port_fields ps)
ports_are_fields [] before = refl
ports_are_fields (p ∷ ps) before =
    let c = component.port p.direction p.data_type in
    ap (λ ms. declares (names_declared before) p.named ∷ (type_mentions p.data_type ++ ms))
    (ports_are_fields ps (with_declaration before p.named c) ∙ ap (λ ns. field_mentions ns (port_fields ps)) (names_more before p.named c))

instance_once : (modules : List ModuleTree) (name : List ℕ) (t : DataType) → ((m : ModuleTree) → In modules m → IsOnce (instance_bundle m))
    → instance_type modules name ≡ Some t → IsOnce t
instance_once [] name t h e = absurd (cc)
instance_once (m ∷ ms) name t h e = by (bytes_eq m.named.name name) e (λ o. instance_once ms name t (λ x i. h x (inr i)) o)
  where
    by : (b : Bool) → option_map instance_bundle (if b then Some m else find_module ms name) ≡ Some t → (instance_type ms name ≡ Some t → IsOnce t) → IsOnce t
    by true e rest = let same : instance_bundle m ≡ t = cc in subst IsOnce same (h m (inl refl))
    by false e rest = rest e

-- what is known has the names that are declared
names_known : (modules : List ModuleTree) (scope : TypedScope) (ds : Declarations)
    → map (λ (k : Known). k.name) (typed_behind modules scope ds) ≡ map (λ (k : Known). k.name) scope ++ map (λ (d : Declaration). d.named.name) ds
names_known modules scope [] = sym (append-nil (map (λ (k : Known). k.name) scope))
names_known modules scope (d ∷ ds) =
    let k = known_as modules scope d in
    let later = map (λ (d : Declaration). d.named.name) ds in
    names_known modules (scope ++ k ∷ []) ds ∙ ap (λ ns. ns ++ later) (map-append (λ (k : Known). k.name) scope (k ∷ []))
    ∙ append_assoc (map (λ (k : Known). k.name) scope) (d.named.name ∷ []) later

fine_from : (modules : List ModuleTree) (ds : Declarations) → Once ds → ScopeOnce (typed_scope modules ds) → IsFine (typed_scope modules ds)
fine_from modules ds once h = record { names = subst Distinct (sym (names_known modules [] ds)) once.once; fields = h.each }

-- what a module declares
module _ (modules : List ModuleTree) (bundles : (m : ModuleTree) → In modules m → IsOnce (instance_bundle m)) where
  scope_more : (before : Before) (n : PlacedName) (c : Component) → ScopeOnce (scope_at modules before)
      → ((t : DataType) → component_type modules (scope_at modules before) n.place c ≡ Some t → IsOnce t)
      → ScopeOnce (scope_at modules (with_declaration before n c))
  scope_more before n c h own =
      let d = declaration_at before n c in
      subst ScopeOnce (sym (typed_more modules [] before.declared d)) (once_last (scope_at modules before) (known_as modules (scope_at modules before) d) h own)

  written_once : (t u : DataType) → IsOnce t → Some t ≡ Some u → IsOnce u
  written_once t u h e = let same : t ≡ u = cc in subst IsOnce same h

  scope_ports : (ps : List PortTree) (before : Before) → faults_in (ports_mentions before ps) ≡ [] → ScopeOnce (scope_at modules before)
      → ScopeOnce (scope_at modules (behind_ports before ps))
  scope_ports [] before clear h = h
  scope_ports (p ∷ ps) before clear h =
      let c = component.port p.direction p.data_type in
      let next = with_declaration before p.named c in
      let rest = type_mentions p.data_type ++ ports_mentions next ps in
      let inside = empty_right (mention_faults (declares (names_declared before) p.named)) (faults_in rest) clear in
      scope_ports ps next (clear_right (type_mentions p.data_type) (ports_mentions next ps) inside)
      (scope_more before p.named c h (λ t. written_once p.data_type t (clear_left (type_mentions p.data_type) (ports_mentions next ps) inside)))

  mutual
    scope_behind : (names : List PlacedName) (s : Statement) (before : Before) → Once before.declared → faults_in (mentions names before s) ≡ []
        → IsLegal modules before s → ScopeOnce (scope_at modules before) → ScopeOnce (scope_at modules (behind before s))
    scope_behind names (wire p n begins t) before once clear legal h =
        scope_more before n (component.wire t) h
        (λ u. written_once t u (empty_right (mention_faults (declares (names_declared before) n)) (faults_in (type_mentions t)) clear))
    scope_behind names (register p n begins t c r) before once clear legal h =
        let first = type_mentions t ++ expression_mentions before.visible c in
        let rest = reset_mentions (with_declaration before n (component.register t)).visible r in
        let inside = empty_right (mention_faults (declares (names_declared before) n)) (faults_in (first ++ rest)) clear in
        scope_more before n (component.register t) h
        (λ u. written_once t u (clear_left (type_mentions t) (expression_mentions before.visible c) (clear_left first rest inside)))
    scope_behind names (node p n e) before once clear legal h =
        let scope = scope_at modules before in
        let fresh = fine_type scope scope (fine_from modules before.declared once h) (begins_all scope) e legal.0 legal.1 in
        scope_more before n (component.node e) h
        (λ u k. written_once legal.0 u (once_from_fresh legal.0 fresh) (sym (ap (λ c. c.has) (found_type scope e legal.0 legal.1)) ∙ k))
    scope_behind names (instance p n m) before once clear legal h =
        scope_more before n (component.instance m.name) h (λ u. instance_once modules m.name u bundles)
    scope_behind names (memory p n parts) before once clear legal h =
        scope_more before n (component.memory parts) h
        (λ u. memory_once n.place parts u (empty_right (mention_faults (declares (names_declared before) n)) (faults_in (memory_mentions [] parts)) clear))
    scope_behind names (when p c a b) before once clear legal h =
        let inside = behind_block (opened before) a in
        let condition = expression_mentions before.visible c in
        let first = block_mentions names (opened before) a in
        let second = block_mentions names (reopened before inside) b in
        let clear_a = clear_right condition first (clear_left (condition ++ first) second clear) in
        scope_of_block names b (reopened before inside) (once_block names a (opened before) once clear_a)
        (clear_right (condition ++ first) second clear) legal.3 (scope_of_block names a (opened before) once clear_a legal.2 h)
    scope_behind names (connect p sink e) before once clear legal h = h
    scope_behind names (partial_connect p sink e) before once clear legal h = h
    scope_behind names (invalid p sink) before once clear legal h = h
    scope_behind names (skip p) before once clear legal h = h

    scope_of_block : (names : List PlacedName) (b : Block) (before : Before) → Once before.declared → faults_in (block_mentions names before b) ≡ []
        → AreLegal modules before b → ScopeOnce (scope_at modules before) → ScopeOnce (scope_at modules (behind_block before b))
    scope_of_block names done before once clear legal h = h
    scope_of_block names ((then) s b) before once clear legal h =
        let here = mentions names before s in
        let rest = block_mentions names (behind before s) b in
        let clear_s = clear_left here rest clear in
        scope_of_block names b (behind before s) (once_behind names s before once clear_s) (clear_right here rest clear) legal.1
        (scope_behind names s before once clear_s legal.0 h)

module _ (c : CircuitTree) (h : HasNames c) where
  clear_in : (m : ModuleTree) → In c.modules m → faults_in (module_mentions (module_names c) m) ≡ []
  clear_in m i = clear_module (module_names c) [] c.modules m (emptied (faults_in (circuit_mentions c)) h.names) i

  ports_in : (m : ModuleTree) → In c.modules m → faults_in (ports_mentions at_head m.ports) ≡ []
  ports_in m i = clear_left (ports_mentions at_head m.ports) (block_mentions (module_names c) (behind_ports at_head m.ports) m.body) (clear_in m i)

  body_in : (m : ModuleTree) → In c.modules m → faults_in (block_mentions (module_names c) (behind_ports at_head m.ports) m.body) ≡ []
  body_in m i = clear_right (ports_mentions at_head m.ports) (block_mentions (module_names c) (behind_ports at_head m.ports) m.body) (clear_in m i)

  bundles_once : (m : ModuleTree) → In c.modules m → IsOnce (instance_bundle m)
  bundles_once m i = subst (λ ms. faults_in ms ≡ []) (ports_are_fields m.ports at_head) (ports_in m i)

  pub fine_module : (m : ModuleTree) → In c.modules m → AreLegal c.modules (behind_ports at_head m.ports) m.body
      → IsFine (typed_scope c.modules (declarations m))
  fine_module m i legal =
      let none : Once [] = record { once = tt } in
      let nothing : ScopeOnce [] = record { each = λ k t n e. absurd n } in
      let names = module_names c in
      let head = behind_ports at_head m.ports in
      let once = once_ports m.ports at_head none (ports_in m i) in
      fine_from c.modules (declarations m) (once_block names m.body head once (body_in m i))
      (scope_of_block c.modules bundles_once names m.body head once (body_in m i) legal
      (scope_ports c.modules bundles_once m.ports at_head (ports_in m i) nothing))
