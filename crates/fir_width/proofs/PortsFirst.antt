-- The ports of a module are declared before all else: their leaves are those of its bundle.
use Rattle.std.proofs.Common.{◌≡◌, ℕ, ◌+◌, List, [], ◌∷◌, ◌++◌, length, Some, refl, sym, ap, ◌∙◌, append_assoc, append-nil, arith}
use Rattle.std.proofs.lemmas.List.{length-append}
use Rattle.fir_ast.specs.Statements.{Statement, Block, wire, register, node, instance, memory, when, connect, partial_connect, invalid, skip, done, then}
use Rattle.fir_ast.specs.Circuits.{PortTree, ModuleTree}
use Rattle.fir_meaning.specs.Components.{Component, Declaration, Declarations}
use Rattle.fir_meaning.specs.Components as component
use Rattle.fir_meaning.specs.ComponentTypes.{instance_bundle, port_fields}
use Rattle.fir_meaning.specs.Visibility.{Before, at_head, behind, behind_block, behind_ports, declaration_at, declarations, opened, reopened, with_declaration}
use Rattle.fir_meaning.specs.SharedLeaves.{shared_count}
use Rattle.fir_meaning.specs.WidthExpressions.{Width}
use Rattle.fir_meaning.specs.SizedTypes.{numbered, numbered_fields}
use Rattle.fir_meaning.specs.SizedDeclarations.{Numbering, numbered_behind, numbered_with, port_numbers, taken_of_ports}
use Rattle.fir_width.specs.working.FlatWidths.{flat, flat_fields}
use Rattle.fir_width.proofs.FlatShapes.{flat_long}

-- the leaves of the ports among declarations, from a number on
abbrev pub own_ports : Component → ℕ → List Width
own_ports (component.port d t) k = flat (numbered (Some k) t)
own_ports c k = []

abbrev pub declared_ports : ℕ → Declarations → List Width
declared_ports k [] = []
declared_ports k (d ∷ ds) = own_ports d.component k ++ declared_ports (k + length (own_ports d.component k)) ds

pub ports_long : (c : Component) (k : ℕ) → length (own_ports c k) ≡ taken_of_ports c
ports_long (component.port d t) k = flat_long (Some k) t
ports_long (component.wire t) k = refl
ports_long (component.register t) k = refl
ports_long (component.node e) k = refl
ports_long (component.instance name) k = refl
ports_long (component.memory parts) k = refl

-- the number of the next port
pub next_port : (modules : List ModuleTree) (numbers : Numbering) (ds : Declarations)
    → (numbered_behind modules numbers ds).port ≡ numbers.port + length (declared_ports numbers.port ds)
next_port modules numbers [] = omega arith
next_port modules numbers (d ∷ ds) =
    let own = own_ports d.component numbers.port in
    let long : length own ≡ taken_of_ports d.component = ports_long d.component numbers.port in
    let next = numbered_with modules numbers d in
    let rest = next_port modules next ds in
    let moved : next.port ≡ numbers.port + length own = ap (λ n. numbers.port + n) (sym long) in
    rest ∙ ap (λ k. k + length (declared_ports k ds)) moved ∙ summed numbers.port (length own) (length (declared_ports (numbers.port + length own) ds))
    ∙ ap (λ n. numbers.port + n) (sym (length-append own (declared_ports (numbers.port + length own) ds)))
  where
    summed : (a b c : ℕ) → a + b + c ≡ a + (b + c)
    summed a b c = omega arith

ports_more : (k : ℕ) (ds : Declarations) (d : Declaration)
    → declared_ports k (ds ++ d ∷ []) ≡ declared_ports k ds ++ own_ports d.component (k + length (declared_ports k ds))
ports_more k [] d = append-nil (own_ports d.component k) ∙ ap (own_ports d.component) (let e : k ≡ k + 0 = omega arith in e)
ports_more k (x ∷ ds) d =
    let own = own_ports x.component k in
    let next = k + length own in
    let rest = declared_ports next ds in
    ap (λ ws. own ++ ws) (ports_more next ds d) ∙ sym (append_assoc own rest (own_ports d.component (next + length rest)))
    ∙ ap (λ n. (own ++ rest) ++ own_ports d.component n)
    (let e : k + length own + length rest ≡ k + length (own ++ rest) = let both = length-append own rest in omega (arith, both) in e)

-- a body has none
mutual
  no_ports : (k : ℕ) (s : Statement) (before : Before) → declared_ports k (behind before s).declared ≡ declared_ports k before.declared
  no_ports k (wire p n begins t) before =
      ports_more k before.declared (declaration_at before n (component.wire t)) ∙ append-nil (declared_ports k before.declared)
  no_ports k (register p n begins t c r) before =
      ports_more k before.declared (declaration_at before n (component.register t)) ∙ append-nil (declared_ports k before.declared)
  no_ports k (node p n e) before =
      ports_more k before.declared (declaration_at before n (component.node e)) ∙ append-nil (declared_ports k before.declared)
  no_ports k (instance p n m) before =
      ports_more k before.declared (declaration_at before n (component.instance m.name)) ∙ append-nil (declared_ports k before.declared)
  no_ports k (memory p n parts) before =
      ports_more k before.declared (declaration_at before n (component.memory parts)) ∙ append-nil (declared_ports k before.declared)
  no_ports k (when p c a b) before =
      no_ports_in k b (reopened before (behind_block (opened before) a)) ∙ no_ports_in k a (opened before)
  no_ports k (connect p sink e) before = refl
  no_ports k (partial_connect p sink e) before = refl
  no_ports k (invalid p sink) before = refl
  no_ports k (skip p) before = refl

  no_ports_in : (k : ℕ) (b : Block) (before : Before) → declared_ports k (behind_block before b).declared ≡ declared_ports k before.declared
  no_ports_in k done before = refl
  no_ports_in k ((then) s b) before = no_ports_in k b (behind before s) ∙ no_ports k s before

ports_behind : (k : ℕ) (ps : List PortTree) (before : Before)
    → declared_ports k (behind_ports before ps).declared
    ≡ declared_ports k before.declared ++ flat_fields (numbered_fields (Some (k + length (declared_ports k before.declared))) (port_fields ps))
ports_behind k [] before = sym (append-nil (declared_ports k before.declared))
ports_behind k (p ∷ ps) before =
    let port = component.port p.direction p.data_type in
    let ws = declared_ports k before.declared in
    let n = k + length ws in
    let own = flat (numbered (Some n) p.data_type) in
    let after = declared_ports k (with_declaration before p.named port).declared in
    let one : after ≡ ws ++ own = ports_more k before.declared (declaration_at before p.named port) in
    let counted : k + length (ws ++ own) ≡ n + shared_count p.data_type =
    let both = length-append ws own in let long = flat_long (Some n) p.data_type in omega (arith, both, long) in
    ports_behind k ps (with_declaration before p.named port)
    ∙ ap (λ vs. vs ++ flat_fields (numbered_fields (Some (k + length vs)) (port_fields ps))) one
    ∙ ap (λ i. (ws ++ own) ++ flat_fields (numbered_fields (Some i) (port_fields ps))) counted
    ∙ append_assoc ws own (flat_fields (numbered_fields (Some (n + shared_count p.data_type)) (port_fields ps)))

pub ports_are : (k : ℕ) (m : ModuleTree) → declared_ports k (declarations m) ≡ flat (numbered (Some k) (instance_bundle m))
ports_are k m =
    no_ports_in k m.body (behind_ports at_head m.ports) ∙ ports_behind k m.ports at_head
    ∙ ap (λ i. flat_fields (numbered_fields (Some i) (port_fields m.ports))) (let e : k + 0 ≡ k = omega arith in e)

-- and so a module takes as many numbers of ports as its bundle has leaves
pub ports_taken : (modules : List ModuleTree) (numbers : Numbering) (m : ModuleTree)
    → (numbered_behind modules numbers (declarations m)).port ≡ numbers.port + port_numbers m
ports_taken modules numbers m =
    next_port modules numbers (declarations m)
    ∙ ap (λ ws. numbers.port + length ws) (ports_are numbers.port m) ∙ ap (λ n. numbers.port + n) (flat_long (Some numbers.port) (instance_bundle m))
