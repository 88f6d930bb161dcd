-- What a module declares takes as many numbers of ports as the bundle of its ports has leaves.
use Rattle.std.proofs.Common.{◌≡◌, ℕ, ◌+◌, List, [], ◌∷◌, ◌++◌, refl, ◌∙◌, arith}
use Rattle.fir_ast.specs.Statements.{Statement, Block, wire, register, node, instance, memory, when, connect, partial_connect, invalid, skip, done, then}
use Rattle.fir_ast.specs.Circuits.{PortTree, ModuleTree}
use Rattle.fir_meaning.specs.Components.{Declaration, Declarations}
use Rattle.fir_meaning.specs.Components as component
use Rattle.fir_meaning.specs.ComponentTypes.{port_fields}
use Rattle.fir_meaning.specs.Visibility.{Before, at_head, behind, behind_block, behind_ports, declaration_at, declarations, opened, reopened, with_declaration}
use Rattle.fir_meaning.specs.SharedLeaves.{shared_count, shared_field_count}
use Rattle.fir_meaning.specs.SizedDeclarations.{port_numbers}
use Rattle.fir_reset.specs.working.LeafClasses.{port_count}
use Rattle.fir_reset.proofs.Sums.{total}

abbrev pub port_counts : Declarations → List ℕ
port_counts [] = []
port_counts (d ∷ ds) = port_count d.component ∷ port_counts ds

counts_more : (ds : Declarations) (d : Declaration) → total (port_counts (ds ++ d ∷ [])) ≡ total (port_counts ds) + port_count d.component
counts_more [] d = omega arith
counts_more (x ∷ ds) d = let rest = counts_more ds d in omega (arith, rest)

counts_none : (ds : Declarations) (d : Declaration) → port_count d.component ≡ 0 → total (port_counts (ds ++ d ∷ [])) ≡ total (port_counts ds)
counts_none ds d h = let more = counts_more ds d in omega (arith, more, h)

-- a body has no ports
mutual
  no_ports : (s : Statement) (before : Before) → total (port_counts (behind before s).declared) ≡ total (port_counts before.declared)
  no_ports (wire p n begins t) before = counts_none before.declared (declaration_at before n (component.wire t)) refl
  no_ports (register p n begins t c r) before = counts_none before.declared (declaration_at before n (component.register t)) refl
  no_ports (node p n e) before = counts_none before.declared (declaration_at before n (component.node e)) refl
  no_ports (instance p n m) before = counts_none before.declared (declaration_at before n (component.instance m.name)) refl
  no_ports (memory p n parts) before = counts_none before.declared (declaration_at before n (component.memory parts)) refl
  no_ports (when p c a b) before = no_ports_in b (reopened before (behind_block (opened before) a)) ∙ no_ports_in a (opened before)
  no_ports (connect p sink e) before = refl
  no_ports (partial_connect p sink e) before = refl
  no_ports (invalid p sink) before = refl
  no_ports (skip p) before = refl

  no_ports_in : (b : Block) (before : Before) → total (port_counts (behind_block before b).declared) ≡ total (port_counts before.declared)
  no_ports_in done before = refl
  no_ports_in ((then) s b) before = no_ports_in b (behind before s) ∙ no_ports s before

ports_summed : (ps : List PortTree) (before : Before)
    → total (port_counts (behind_ports before ps).declared) ≡ total (port_counts before.declared) + shared_field_count (port_fields ps)
ports_summed [] before = omega arith
ports_summed (p ∷ ps) before =
    let port = component.port p.direction p.data_type in
    let more : total (port_counts (before.declared ++ declaration_at before p.named port ∷ [])) ≡ total (port_counts before.declared) + shared_count p.data_type =
    counts_more before.declared (declaration_at before p.named port) in
    let rest = ports_summed ps (with_declaration before p.named port) in
    omega (arith, more, rest)

pub ports_counted : (m : ModuleTree) → total (port_counts (declarations m)) ≡ port_numbers m
ports_counted m =
    let body = no_ports_in m.body (behind_ports at_head m.ports) in
    let ports : total (port_counts (behind_ports at_head m.ports).declared) ≡ 0 + port_numbers m = ports_summed m.ports at_head in
    omega (arith, body, ports)
