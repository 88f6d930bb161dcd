-- What a module declares has types with fresh fields, where no name is declared twice.
use Rattle.std.proofs.Common.{◌≡◌, ℕ, List, [], ◌∷◌, ◌++◌, map, Bool, true, false, if◌then◌else◌, Some, refl, inl, inr, ap, sym, ◌∙◌, subst}
use Rattle.std.specs.Prelude.{option_map}
use Rattle.std.specs.Str.{bytes_eq}
use Rattle.fir_base.specs.Lists.{In, Distinct}
use Rattle.fir_base.proofs.Empty.{empty_right}
use Rattle.fir_ast.specs.Statements.{PlacedName, Statement, wire, register, node, instance, memory, when, connect, partial_connect, invalid, skip, Block, done, then}
use Rattle.fir_ast.specs.Circuits.{PortTree, ModuleTree, CircuitTree}
use Rattle.fir_meaning.specs.Components.{Component, Declaration, Declarations}
use Rattle.fir_meaning.specs.Components as component
use Rattle.fir_meaning.specs.Visibility.{Before, declaration_at, with_declaration, opened, reopened, behind, behind_block, behind_ports, at_head, declarations}
use Rattle.fir_meaning.specs.TypedScopes.{Known, TypedScope}
use Rattle.fir_meaning.specs.TypeGroup.{scope_at}
use Rattle.fir_meaning.specs.ComponentTypes.{port_fields, find_module, instance_bundle, instance_type, component_type, known_as, typed_scope}
use Rattle.fir_meaning.specs.Mentions.{Mention, declares, names_declared, type_mentions, expression_mentions, reset_mentions, mentions, block_mentions, memory_mentions, ports_mentions, module_mentions, module_names, circuit_mentions}
use Rattle.fir_meaning.specs.working.NameGroups.{HasNames}
use Rattle.fir_meaning.specs.NameGroups.{faults_in, mention_faults}
use Rattle.fir_meaning.proofs.KnownNames.{typed_more}
use Rattle.fir_meaning.proofs.FoundDeclarations.{Once}
use Rattle.fir_meaning.proofs.FreshFields.{field_names, HasFreshFields, AreFresh, fresh_fields}
use Rattle.fir_meaning.proofs.OnceDeclared.{clear_left, clear_right, once_block, once_ports}
use Rattle.fir_meaning.proofs.OneLookUp.{emptied, clear_module}
use Rattle.fir_reset.proofs.FreshTypes.{FreshWhere, AllFresh, expression_fresh}
use Rattle.fir_reset.proofs.FreshMemories.{memory_fresh}
use Rattle.fir_reset.proofs.PortsInFront.{port_declared, at_ports}

-- the bundle of a module's ports
port_names : (ps : List PortTree) → map (λ d. d.named.name) (map port_declared ps) ≡ field_names (port_fields ps)
port_names [] = refl
port_names (p ∷ ps) = ap (λ ns. p.named.name ∷ ns) (port_names ps)

abbrev AllPorts : List PortTree → Type 0
AllPorts [] = Unit {0}
AllPorts (p ∷ ps) = HasFreshFields p.data_type × AllPorts ps

ports_typed : (ps : List PortTree) (before : Before) → faults_in (ports_mentions before ps) ≡ [] → AllPorts ps
ports_typed [] before h = tt
ports_typed (p ∷ ps) before h =
    let next = with_declaration before p.named (component.port p.direction p.data_type) in
    let rest = type_mentions p.data_type ++ ports_mentions next ps in
    let behind = empty_right (mention_faults (declares (names_declared before) p.named)) (faults_in rest) h in (
      fresh_fields p.data_type (clear_left (type_mentions p.data_type) (ports_mentions next ps) behind),
      ports_typed ps next (clear_right (type_mentions p.data_type) (ports_mentions next ps) behind),
    )

ports_distinct : (ps : List PortTree) → Distinct (field_names (port_fields ps)) → AllPorts ps → AreFresh (port_fields ps)
ports_distinct [] d h = tt
ports_distinct (p ∷ ps) d h = (d.0, h.0, ports_distinct ps d.1 h.1)

pub ports_fresh : (ps : List PortTree) → faults_in (ports_mentions at_head ps) ≡ [] → AreFresh (port_fields ps)
ports_fresh ps h =
    let none : Once [] = record { once = tt } in
    let once = (once_ports ps at_head none h).once in
    let names : map (λ (d : Declaration). d.named.name) (behind_ports at_head ps).declared ≡ field_names (port_fields ps) =
    ap (map (λ (d : Declaration). d.named.name)) (at_ports ps) ∙ port_names ps in
    ports_distinct ps (subst Distinct names once) (ports_typed ps at_head h)

-- of each module
pub record ModulesFresh (modules : List ModuleTree) : Type 0 where
  pub each : (m : ModuleTree) → In modules m → AreFresh (port_fields m.ports)

instance_fresh : (modules : List ModuleTree) → ((m : ModuleTree) → In modules m → AreFresh (port_fields m.ports)) → (name : List ℕ) → FreshWhere (instance_type modules name)
instance_fresh [] h name = tt
instance_fresh (m ∷ ms) h name = by (bytes_eq m.named.name name) (h m (inl refl)) (instance_fresh ms (λ x i. h x (inr i)) name)
  where
    by : (b : Bool) → AreFresh (port_fields m.ports) → FreshWhere (instance_type ms name)
        → FreshWhere (option_map instance_bundle (if b then Some m else find_module ms name))
    by true h rest = h
    by false h rest = rest

-- all that is declared so far
pub record ScopeFresh (modules : List ModuleTree) (before : Before) : Type 0 where
  pub all : AllFresh (scope_at modules before)

fresh_last : (ks : TypedScope) (k : Known) → AllFresh ks → FreshWhere k.data_type → AllFresh (ks ++ k ∷ [])
fresh_last [] k h i = (i, tt)
fresh_last (x ∷ ks) k h i = (h.0, fresh_last ks k h.1 i)

module _ (modules : List ModuleTree) (h : ModulesFresh modules) where
  fresh_more : (before : Before) (n : PlacedName) (c : Component) → ScopeFresh modules before
      → FreshWhere (component_type modules (scope_at modules before) n.place c) → ScopeFresh modules (with_declaration before n c)
  fresh_more before n c s f =
      let d = declaration_at before n c in
      record { all = subst AllFresh (sym (typed_more modules [] before.declared d)) (fresh_last (scope_at modules before) (known_as modules (scope_at modules before) d) s.all f) }

  mutual
    fresh_behind : (names : List PlacedName) (s : Statement) (before : Before) → ScopeFresh modules before → faults_in (mentions names before s) ≡ []
        → ScopeFresh modules (behind before s)
    fresh_behind names (wire p n begins t) before f c =
        fresh_more before n (component.wire t) f (fresh_fields t (empty_right (mention_faults (declares (names_declared before) n)) (faults_in (type_mentions t)) c))
    fresh_behind names (register p n begins t k r) before f c =
        let first = type_mentions t ++ expression_mentions before.visible k in
        let rest = reset_mentions (with_declaration before n (component.register t)).visible r in
        let later = empty_right (mention_faults (declares (names_declared before) n)) (faults_in (first ++ rest)) c in
        fresh_more before n (component.register t) f (fresh_fields t (clear_left (type_mentions t) (expression_mentions before.visible k) (clear_left first rest later)))
    fresh_behind names (node p n e) before f c = fresh_more before n (component.node e) f (expression_fresh (scope_at modules before) f.all e)
    fresh_behind names (instance p n m) before f c = fresh_more before n (component.instance m.name) f (instance_fresh modules h.each m.name)
    fresh_behind names (memory p n parts) before f c =
        fresh_more before n (component.memory parts) f
        (memory_fresh n.place parts (empty_right (mention_faults (declares (names_declared before) n)) (faults_in (memory_mentions [] parts)) c))
    fresh_behind names (when p k a b) before f c =
        let inside = behind_block (opened before) a in
        let condition = expression_mentions before.visible k in
        let first = block_mentions names (opened before) a in
        let second = block_mentions names (reopened before inside) b in
        let one : ScopeFresh modules (opened before) = record { all = f.all } in
        let between = fresh_block names a (opened before) one (clear_right condition first (clear_left (condition ++ first) second c)) in
        let other : ScopeFresh modules (reopened before inside) = record { all = between.all } in
        let last = fresh_block names b (reopened before inside) other (clear_right (condition ++ first) second c) in
        record { all = last.all }
    fresh_behind names (connect p sink e) before f c = f
    fresh_behind names (partial_connect p sink e) before f c = f
    fresh_behind names (invalid p sink) before f c = f
    fresh_behind names (skip p) before f c = f

    fresh_block : (names : List PlacedName) (b : Block) (before : Before) → ScopeFresh modules before → faults_in (block_mentions names before b) ≡ []
        → ScopeFresh modules (behind_block before b)
    fresh_block names done before f c = f
    fresh_block names ((then) s b) before f c =
        let here = mentions names before s in
        let rest = block_mentions names (behind before s) b in
        fresh_block names b (behind before s) (fresh_behind names s before f (clear_left here rest c)) (clear_right here rest c)

  fresh_ports : (ps : List PortTree) (before : Before) → AllPorts ps → ScopeFresh modules before → ScopeFresh modules (behind_ports before ps)
  fresh_ports [] before a f = f
  fresh_ports (p ∷ ps) before a f =
      fresh_ports ps (with_declaration before p.named (component.port p.direction p.data_type)) a.1
      (fresh_more before p.named (component.port p.direction p.data_type) f a.0)

-- the modules of a circuit: each declares a name once, and its types have fresh fields
pub record Sound (modules : List ModuleTree) (m : ModuleTree) : Type 0 where
  pub once : Once (declarations m)
  pub fresh : AllFresh (typed_scope modules (declarations m))
  pub ports : AreFresh (port_fields m.ports)

pub sound : (c : CircuitTree) → HasNames c → (m : ModuleTree) → In c.modules m → Sound c.modules m
sound c h m i = record { once = once; fresh = fresh.all; ports = ports_fresh m.ports (clear_left ports body (clear m i)) }
  where
    names : List PlacedName
    names = module_names c

    clear : (x : ModuleTree) → In c.modules x → faults_in (module_mentions names x) ≡ []
    clear x j = clear_module names [] c.modules x (emptied (faults_in (circuit_mentions c)) h.names) j

    ports : List Mention
    ports = ports_mentions at_head m.ports

    body : List Mention
    body = block_mentions names (behind_ports at_head m.ports) m.body

    each : ModulesFresh c.modules
    each = record {
      each = λ x j.
          ports_fresh x.ports (clear_left (ports_mentions at_head x.ports) (block_mentions names (behind_ports at_head x.ports) x.body) (clear x j));
    }

    once : Once (declarations m)
    once =
        let none : Once [] = record { once = tt } in
        once_block names m.body (behind_ports at_head m.ports) (once_ports m.ports at_head none (clear_left ports body (clear m i))) (clear_right ports body (clear m i))

    fresh : ScopeFresh c.modules (behind_block (behind_ports at_head m.ports) m.body)
    fresh =
        let none : ScopeFresh c.modules at_head = record { all = tt } in
        fresh_block c.modules each names m.body (behind_ports at_head m.ports)
        (fresh_ports c.modules each m.ports at_head (ports_typed m.ports at_head (clear_left ports body (clear m i))) none) (clear_right ports body (clear m i))
