-- The ports of a circuit's modules take the numbers in front: so many as all their ports have shared leaves.
use Rattle.std.proofs.Common.{◌≡◌, ℕ, ◌+◌, ◌≤◌, List, [], ◌∷◌, ◌++◌, Bool, true, false, if◌then◌else◌, Some, refl, ◌∙◌, subst, inl, inr, arith}
use Rattle.std.specs.Str.{bytes_eq}
use Rattle.fir_base.specs.Lists.{In}
use Rattle.fir_ast.specs.Statements.{Statement, wire, register, node, instance, memory, when, connect, partial_connect, invalid, skip, Block, done, then}
use Rattle.fir_ast.specs.Circuits.{PortTree, ModuleTree, CircuitTree}
use Rattle.fir_meaning.specs.Components.{Declaration, Declarations}
use Rattle.fir_meaning.specs.Components as component
use Rattle.fir_meaning.specs.ComponentTypes.{instance_bundle, port_fields}
use Rattle.fir_meaning.specs.SharedLeaves.{shared_field_count}
use Rattle.fir_meaning.specs.SizedTypes.{numbered}
use Rattle.fir_meaning.specs.SizedDeclarations.{Numbering, NumberedModule, port_numbers, all_port_numbers, instance_from, taken_of_ports, numbered_with, numbered_behind, behind_module, modules_from, first_numbers, numbered_modules}
use Rattle.fir_meaning.specs.Visibility.{Before, declaration_at, with_declaration, opened, reopened, behind, behind_block, behind_ports, at_head, declarations}
use Rattle.fir_leaf_types.proofs.OwnedNumbers.{Owned, Within, owned_else, numbered_owned}

-- how many numbers of ports declarations take
ports_taken : Declarations → ℕ
ports_taken [] = 0
ports_taken (d ∷ ds) = taken_of_ports d.component + ports_taken ds

port_behind : (modules : List ModuleTree) (numbers : Numbering) (ds : Declarations) → (numbered_behind modules numbers ds).port ≡ numbers.port + ports_taken ds
unfolding ports_taken
port_behind modules numbers [] = omega arith
port_behind modules numbers (d ∷ ds) = omega (arith, port_behind modules (numbered_with modules numbers d) ds)

taken_last : (ds : Declarations) (d : Declaration) → ports_taken (ds ++ d ∷ []) ≡ ports_taken ds + taken_of_ports d.component
unfolding ports_taken
taken_last [] d = omega arith
taken_last (x ∷ ds) d = omega (arith, taken_last ds d)

-- statements take none
mutual
  taken_behind : (x : Statement) (before : Before) → ports_taken (behind before x).declared ≡ ports_taken before.declared
  taken_behind (wire p n begins t) before =
      let one = taken_last before.declared (declaration_at before n (component.wire t)) in omega (arith, one)
  taken_behind (register p n begins t c r) before =
      let one = taken_last before.declared (declaration_at before n (component.register t)) in omega (arith, one)
  taken_behind (node p n e) before =
      let one = taken_last before.declared (declaration_at before n (component.node e)) in omega (arith, one)
  taken_behind (instance p n m) before =
      let one = taken_last before.declared (declaration_at before n (component.instance m.name)) in omega (arith, one)
  taken_behind (memory p n parts) before =
      let one = taken_last before.declared (declaration_at before n (component.memory parts)) in omega (arith, one)
  taken_behind (when p c a b) before =
      let inside = behind_block (opened before) a in taken_block b (reopened before inside) ∙ taken_block a (opened before)
  taken_behind (connect p d e) before = refl
  taken_behind (partial_connect p d e) before = refl
  taken_behind (invalid p d) before = refl
  taken_behind (skip p) before = refl

  taken_block : (b : Block) (before : Before) → ports_taken (behind_block before b).declared ≡ ports_taken before.declared
  taken_block done before = refl
  taken_block ((then) x b) before = taken_block b (behind before x) ∙ taken_behind x before

taken_by_ports : (ps : List PortTree) (before : Before)
    → ports_taken (behind_ports before ps).declared ≡ ports_taken before.declared + shared_field_count (port_fields ps)
taken_by_ports [] before = omega arith
taken_by_ports (p ∷ ps) before =
    let c = component.port p.direction p.data_type in
    let one = taken_last before.declared (declaration_at before p.named c) in
    let more = taken_by_ports ps (with_declaration before p.named c) in
    omega (arith, one, more)

module_taken : (m : ModuleTree) → ports_taken (declarations m) ≡ port_numbers m
unfolding ports_taken
module_taken m = taken_block m.body (behind_ports at_head m.ports) ∙ (taken_by_ports m.ports at_head ∙ omega arith)

ports_within : (modules : List ModuleTree) (numbers : Numbering) (ms : List ModuleTree) (m : NumberedModule) → In (modules_from modules numbers ms) m
    → m.start.port + port_numbers m.inside ≤ numbers.port + all_port_numbers ms
ports_within modules numbers [] m i = absurd i
ports_within modules numbers (x ∷ ms) m (inl e) =
    subst (λ (y : NumberedModule). y.start.port + port_numbers y.inside ≤ numbers.port + (port_numbers x + all_port_numbers ms)) e (omega arith)
ports_within modules numbers (x ∷ ms) m (inr i) =
    let after = port_behind modules numbers (declarations x) in
    let taken = module_taken x in
    omega (arith, after, taken, ports_within modules (behind_module modules numbers x) ms m i)

-- the ports of a module of a circuit
pub ports_in_front : (c : CircuitTree) (m : NumberedModule) → In (numbered_modules c) m → m.start.port + port_numbers m.inside ≤ all_port_numbers c.modules
ports_in_front c m i = omega (arith, ports_within c.modules (first_numbers c.modules) c.modules m i)

-- and those of an instance
pub instance_owned : (k : ℕ) (modules : List ModuleTree) (name : List ℕ) → Owned (Within k (all_port_numbers modules)) (instance_from k modules name)
instance_owned k [] name = tt
instance_owned k (m ∷ ms) name = by (bytes_eq m.named.name name) (instance_owned (k + port_numbers m) ms name)
  where
    by : (b : Bool) → Owned (Within (k + port_numbers m) (all_port_numbers ms)) (instance_from (k + port_numbers m) ms name)
        → Owned (Within k (port_numbers m + all_port_numbers ms))
        (if b then numbered (Some k) (instance_bundle m) else instance_from (k + port_numbers m) ms name)
    by true later =
        owned_else (Within k (port_numbers m)) (Within k (port_numbers m + all_port_numbers ms)) (numbered (Some k) (instance_bundle m))
        (λ j h. (h.0, omega (arith, h.1))) (numbered_owned k (instance_bundle m))
    by false later =
        owned_else (Within (k + port_numbers m) (all_port_numbers ms)) (Within k (port_numbers m + all_port_numbers ms))
        (instance_from (k + port_numbers m) ms name) (λ j h. (omega (arith, h.0), omega (arith, h.1))) later
