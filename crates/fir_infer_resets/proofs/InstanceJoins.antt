-- What a module declares: a port stands among its ports, and of an instance each join stands among those of the circuit.
use Rattle.std.proofs.Common.{◌≡◌, ℕ, ◌+◌, List, [], ◌∷◌, ◌++◌, Some, inl, inr, ◌⊎◌, ⊎_elim, ap, ◌∙◌, subst, arith}
use Rattle.std.specs.Prelude.{slice_get}
use Rattle.fir_base.specs.Lists.{In}
use Rattle.fir_base.specs.declared.direction.Direction.{Direction}
use Rattle.fir_base.proofs.Members.{in_left, in_right, in_either, in_flat_map, in_map_from}
use Rattle.fir_ast.specs.Types.{DataType}
use Rattle.fir_ast.specs.Statements.{PlacedName, Statement, wire, register, node, instance, memory, when, connect, partial_connect, invalid, skip, Block, done, then}
use Rattle.fir_ast.specs.Circuits.{PortTree, ModuleTree, CircuitTree}
use Rattle.fir_meaning.specs.Components.{Component, Declaration}
use Rattle.fir_meaning.specs.Components as component
use Rattle.fir_meaning.specs.Visibility.{Before, declaration_at, with_declaration, opened, reopened, behind, behind_block, behind_ports, at_head, declarations}
use Rattle.fir_meaning.specs.ResetJoins.{Join, ResetModule, reset_modules, numbered_module, instance_joins, joins_in, joins_in_block, joins}
use Rattle.fir_reset.proofs.ModuleNumbers.{in_reset_modules}
use Rattle.fir_reset.proofs.PortsInFront.{port_declared, at_ports}

-- no port; and if it is an instance, its joins are among these
record Adds (m : ResetModule) (d : Declaration) (js : List Join) : Type 0 where
  no_port : (side : Direction) (t : DataType) → d.component ≡ component.port side t → ⊥
  joined : (name : List ℕ) → d.component ≡ component.instance name → (j : Join) → In (instance_joins m d.named (numbered_module 0 m.modules name)) j → In js j

abbrev OldOr : ResetModule → Before → Declaration → List Join → Type 0
OldOr m before d js = In before.declared d ⊎ Adds m d js

adds_left : (m : ResetModule) (d : Declaration) (js ks : List Join) → Adds m d js → Adds m d (js ++ ks)
adds_left m d js ks h = record { no_port = h.no_port; joined = λ name e j i. in_left js ks j (h.joined name e j i) }

adds_right : (m : ResetModule) (d : Declaration) (js ks : List Join) → Adds m d ks → Adds m d (js ++ ks)
adds_right m d js ks h = record { no_port = h.no_port; joined = λ name e j i. in_right js ks j (h.joined name e j i) }

module _ (m : ResetModule) where
  added : (before : Before) (n : PlacedName) (c : Component) (js : List Join) → Adds m (declaration_at before n c) js → (d : Declaration)
      → In (with_declaration before n c).declared d → OldOr m before d js
  added before n c js h d i =
      ⊎_elim
      (λ (k : In before.declared d). inl k)
      (λ (k : In (declaration_at before n c ∷ []) d). inr (⊎_elim (λ (e : declaration_at before n c ≡ d). subst (λ (y : Declaration). Adds m y js) e h) (λ (f : ⊥). absurd f) k))
      (in_either before.declared (declaration_at before n c ∷ []) d i)

  -- one part behind another
  through : (before between : Before) (d : Declaration) (js ks : List Join) → (In between.declared d → OldOr m before d js) → OldOr m between d ks → OldOr m before d (js ++ ks)
  through before between d js ks first second =
      ⊎_elim
      (λ (i : In between.declared d). ⊎_elim (λ (k : In before.declared d). inl k) (λ (a : Adds m d js). inr (adds_left m d js ks a)) (first i))
      (λ (a : Adds m d ks). inr (adds_right m d js ks a))
      second

  mutual
    adds_behind : (s : Statement) (before : Before) (d : Declaration) → In (behind before s).declared d → OldOr m before d (joins_in m before s)
    adds_behind (wire p n begins t) before d i = added before n (component.wire t) [] (record { no_port = λ side u e. cc; joined = λ name e j k. absurd (cc) }) d i
    adds_behind (register p n begins t c r) before d i =
        added before n (component.register t) [] (record { no_port = λ side u e. cc; joined = λ name e j k. absurd (cc) }) d i
    adds_behind (node p n e) before d i =
        added before n (component.node e) (joins_in m before (node p n e)) (record { no_port = λ side u f. cc; joined = λ name f j k. absurd (cc) }) d i
    adds_behind (instance p n other) before d i =
        added before n (component.instance other.name) (joins_in m before (instance p n other))
        (record {
          no_port = λ side u e. cc;
          joined = λ name e j k.
              let same : name ≡ other.name = cc in subst (λ x. In (instance_joins m n (numbered_module 0 m.modules x)) j) same k;
        }) d i
    adds_behind (memory p n parts) before d i =
        added before n (component.memory parts) [] (record { no_port = λ side u e. cc; joined = λ name e j k. absurd (cc) }) d i
    adds_behind (when p c a b) before d i =
        let inside = behind_block (opened before) a in
        through before inside d (joins_in_block m (opened before) a) (joins_in_block m (reopened before inside) b)
        (λ k. adds_block a (opened before) d k) (adds_block b (reopened before inside) d i)
    adds_behind (connect p sink e) before d i = inl i
    adds_behind (partial_connect p sink e) before d i = inl i
    adds_behind (invalid p sink) before d i = inl i
    adds_behind (skip p) before d i = inl i

    adds_block : (b : Block) (before : Before) (d : Declaration) → In (behind_block before b).declared d → OldOr m before d (joins_in_block m before b)
    adds_block done before d i = inl i
    adds_block ((then) s b) before d i =
        through before (behind before s) d (joins_in m before s) (joins_in_block m (behind before s) b)
        (λ k. adds_behind s before d k) (adds_block b (behind before s) d i)

-- a port is one of the ports
pub declared_port : (m : ModuleTree) (d : Declaration) (side : Direction) (t : DataType) → In (declarations m) d → d.component ≡ component.port side t
    → (p : PortTree) × In m.ports p × (port_declared p ≡ d)
declared_port m d side t i e =
    let inside : ResetModule = record { modules = []; number = 0; inside = m } in
    let head = behind_ports at_head m.ports in
    ⊎_elim
    (λ (k : In head.declared d). in_map_from port_declared m.ports d (subst (λ ds. In ds d) (at_ports m.ports) k))
    (λ (a : Adds inside d (joins_in_block inside head m.body)). absurd (a.no_port side t e))
    (adds_block inside m.body head d i)

pub instance_joined : (c : CircuitTree) (number : ℕ) (m : ModuleTree) (d : Declaration) (name : List ℕ) (j : Join) → slice_get c.modules number ≡ Some m → In (declarations m) d
    → d.component ≡ component.instance name → In (instance_joins (record { modules = c.modules; number = number; inside = m }) d.named (numbered_module 0 c.modules name)) j → In (joins c) j
instance_joined c number m d name j there i e k =
    let inside : ResetModule = record { modules = c.modules; number = number; inside = m } in
    let head = behind_ports at_head m.ports in
    let zero_more : 0 + number ≡ number = omega arith in
    let among : In (reset_modules 0 c.modules c.modules) inside =
    subst (λ n. In (reset_modules 0 c.modules c.modules) (record { modules = c.modules; number = n; inside = m })) zero_more (in_reset_modules 0 c.modules c.modules number m there) in
    in_flat_map (λ (x : ResetModule). joins_in_block x (behind_ports at_head x.inside.ports) x.inside.body) (reset_modules 0 c.modules c.modules) inside j among
    (⊎_elim
    (λ (o : In head.declared d).
    let from = in_map_from port_declared m.ports d (subst (λ ds. In ds d) (at_ports m.ports) o) in
    let unlike : component.port from.0.direction from.0.data_type ≡ component.instance name = ap (λ (y : Declaration). y.component) from.2 ∙ e in
    absurd (cc))
    (λ (a : Adds inside d (joins_in_block inside head m.body)). a.joined name e j k)
    (adds_block inside m.body head d i))
