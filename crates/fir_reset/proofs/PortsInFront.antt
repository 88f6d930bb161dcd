-- The ports of a module stand in front of all that it declares.
use Rattle.std.proofs.Common.{◌≡◌, List, [], ◌∷◌, ◌++◌, map, Some, refl, sym, ap, ◌∙◌, append_assoc}
use Rattle.std.proofs.lemmas.List.{append-nil}
use Rattle.fir_ast.specs.Statements.{Statement, wire, register, node, instance, memory, when, connect, partial_connect, invalid, skip, Block, done, then}
use Rattle.fir_ast.specs.Circuits.{PortTree, ModuleTree}
use Rattle.fir_meaning.specs.Components.{Component, Declaration, Declarations}
use Rattle.fir_meaning.specs.Components as component
use Rattle.fir_meaning.specs.Visibility.{Before, declaration_at, with_declaration, opened, reopened, behind, behind_block, behind_ports, at_head, declarations}
use Rattle.fir_meaning.specs.Flows.{port_flow}
use Rattle.fir_meaning.specs.TypedScopes.{Known, TypedScope}
use Rattle.fir_meaning.specs.ComponentTypes.{known_as, typed_behind, typed_scope}

-- a port as it is declared, and as it is known
abbrev pub port_declared : PortTree → Declaration
port_declared p = record { named = p.named; component = component.port p.direction p.data_type; depth = 0 }

abbrev pub port_known : PortTree → Known
port_known p = record { name = p.named.name; flow = port_flow p.direction; data_type = Some p.data_type }

ports_declared : (ps : List PortTree) (before : Before) → before.depth ≡ 0 → (behind_ports before ps).declared ≡ before.declared ++ map port_declared ps
ports_declared [] before h = sym (append-nil before.declared)
ports_declared (p ∷ ps) before h =
    let next = with_declaration before p.named (component.port p.direction p.data_type) in
    ports_declared ps next h
    ∙ append_assoc before.declared (declaration_at before p.named (component.port p.direction p.data_type) ∷ []) (map port_declared ps)
    ∙ ap (λ k. before.declared ++ record { named = p.named; component = component.port p.direction p.data_type; depth = k } ∷ map port_declared ps) h

pub at_ports : (ps : List PortTree) → (behind_ports at_head ps).declared ≡ map port_declared ps
at_ports ps = ports_declared ps at_head refl

-- what a list begins with
pub record Begins {A : Type 0} (front whole : List A) : Type 0 where
  pub rest : List A
  pub is : whole ≡ front ++ rest

pub begins_through : {A : Type 0} → (xs ys zs : List A) → Begins xs ys → Begins ys zs → Begins xs zs
begins_through xs ys zs h k =
    record { rest = h.rest ++ k.rest; is = k.is ∙ ap (λ l. l ++ k.rest) h.is ∙ append_assoc xs h.rest k.rest }

pub begins_all : {A : Type 0} → (xs : List A) → Begins xs xs
begins_all xs = record { rest = []; is = sym (append-nil xs) }

pub begins_last : {A : Type 0} → (xs : List A) (x : A) → Begins xs (xs ++ x ∷ [])
begins_last xs x = record { rest = x ∷ []; is = refl }

mutual
  pub begins_behind : (s : Statement) (before : Before) → Begins before.declared (behind before s).declared
  begins_behind (wire p n begins t) before = begins_last before.declared (declaration_at before n (component.wire t))
  begins_behind (register p n begins t c r) before = begins_last before.declared (declaration_at before n (component.register t))
  begins_behind (node p n e) before = begins_last before.declared (declaration_at before n (component.node e))
  begins_behind (instance p n m) before = begins_last before.declared (declaration_at before n (component.instance m.name))
  begins_behind (memory p n parts) before = begins_last before.declared (declaration_at before n (component.memory parts))
  begins_behind (when p c a b) before =
      let inside = behind_block (opened before) a in
      begins_through before.declared inside.declared (behind_block (reopened before inside) b).declared
      (begins_block a (opened before)) (begins_block b (reopened before inside))
  begins_behind (connect p sink e) before = begins_all before.declared
  begins_behind (partial_connect p sink e) before = begins_all before.declared
  begins_behind (invalid p sink) before = begins_all before.declared
  begins_behind (skip p) before = begins_all before.declared

  pub begins_block : (b : Block) (before : Before) → Begins before.declared (behind_block before b).declared
  begins_block done before = begins_all before.declared
  begins_block ((then) s b) before =
      begins_through before.declared (behind before s).declared (behind_block (behind before s) b).declared (begins_behind s before) (begins_block b (behind before s))

typed_begins : (modules : List ModuleTree) (scope : TypedScope) (ds : Declarations) → Begins scope (typed_behind modules scope ds)
typed_begins modules scope [] = begins_all scope
typed_begins modules scope (d ∷ ds) =
    begins_through scope (scope ++ known_as modules scope d ∷ []) (typed_behind modules (scope ++ known_as modules scope d ∷ []) ds)
    (begins_last scope (known_as modules scope d)) (typed_begins modules (scope ++ known_as modules scope d ∷ []) ds)

typed_ports : (modules : List ModuleTree) (ps : List PortTree) (ds : Declarations) (scope : TypedScope)
    → typed_behind modules scope (map port_declared ps ++ ds) ≡ typed_behind modules (scope ++ map port_known ps) ds
typed_ports modules [] ds scope = ap (λ ks. typed_behind modules ks ds) (sym (append-nil scope))
typed_ports modules (p ∷ ps) ds scope =
    typed_ports modules ps ds (scope ++ port_known p ∷ []) ∙ ap (λ ks. typed_behind modules ks ds) (append_assoc scope (port_known p ∷ []) (map port_known ps))

-- both lists of a module begin with its ports
pub record PortsFirst (modules : List ModuleTree) (m : ModuleTree) : Type 0 where
  pub declared : Begins (map port_declared m.ports) (declarations m)
  pub known : Begins (map port_known m.ports) (typed_scope modules (declarations m))

pub ports_first : (modules : List ModuleTree) (m : ModuleTree) → PortsFirst modules m
ports_first modules m =
    let head = behind_ports at_head m.ports in
    let body = begins_block m.body head in
    let is : declarations m ≡ map port_declared m.ports ++ body.rest = body.is ∙ ap (λ ds. ds ++ body.rest) (at_ports m.ports) in
    let known = typed_begins modules (map port_known m.ports) body.rest in
    record {
      declared = record { rest = body.rest; is = is };
      known = record { rest = known.rest; is = ap (typed_scope modules) is ∙ typed_ports modules m.ports body.rest [] ∙ known.is };
    }
