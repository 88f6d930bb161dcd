-- What is declared grows along a module: what stands before a statement is a front of what stands behind it.
use Rattle.std.proofs.Common.{◌≡◌, List, [], ◌∷◌, ◌++◌, refl, sym, ap, ◌∙◌, append_assoc}
use Rattle.std.proofs.lemmas.List.{append-nil}
use Rattle.fir_ast.specs.Statements.{Statement, wire, register, node, instance, memory, when, connect, partial_connect, invalid, skip, Block, done, then}
use Rattle.fir_ast.specs.Circuits.{PortTree}
use Rattle.fir_meaning.specs.Components.{Declarations}
use Rattle.fir_meaning.specs.Components as component
use Rattle.fir_meaning.specs.Visibility.{Before, declaration_at, with_declaration, opened, reopened, behind, behind_block, behind_ports}

abbrev pub Grows : Declarations → Declarations → Type 0
Grows ds all = (more : Declarations) × (ds ++ more ≡ all)

pub grows_all : (ds : Declarations) → Grows ds ds
grows_all ds = ([], append-nil ds)

pub grows_through : (one two three : Declarations) → Grows one two → Grows two three → Grows one three
grows_through one two three h k = (h.0 ++ k.0, sym (append_assoc one h.0 k.0) ∙ ap (λ s. s ++ k.0) h.1 ∙ k.1)

mutual
  pub grows : (x : Statement) (before : Before) → Grows before.declared (behind before x).declared
  grows (wire p n begins t) before = (declaration_at before n (component.wire t) ∷ [], refl)
  grows (register p n begins t c r) before = (declaration_at before n (component.register t) ∷ [], refl)
  grows (node p n e) before = (declaration_at before n (component.node e) ∷ [], refl)
  grows (instance p n m) before = (declaration_at before n (component.instance m.name) ∷ [], refl)
  grows (memory p n parts) before = (declaration_at before n (component.memory parts) ∷ [], refl)
  grows (when p c a b) before =
      let inside = behind_block (opened before) a in
      grows_through before.declared inside.declared (behind_block (reopened before inside) b).declared (grows_block a (opened before))
      (grows_block b (reopened before inside))
  grows (connect p d e) before = grows_all before.declared
  grows (partial_connect p d e) before = grows_all before.declared
  grows (invalid p d) before = grows_all before.declared
  grows (skip p) before = grows_all before.declared

  pub grows_block : (b : Block) (before : Before) → Grows before.declared (behind_block before b).declared
  grows_block done before = grows_all before.declared
  grows_block ((then) x b) before =
      grows_through before.declared (behind before x).declared (behind_block (behind before x) b).declared (grows x before) (grows_block b (behind before x))

pub grows_ports : (ps : List PortTree) (before : Before) → Grows before.declared (behind_ports before ps).declared
grows_ports [] before = grows_all before.declared
grows_ports (p ∷ ps) before =
    let next = with_declaration before p.named (component.port p.direction p.data_type) in
    grows_through before.declared next.declared (behind_ports next ps).declared
    (declaration_at before p.named (component.port p.direction p.data_type) ∷ [], refl) (grows_ports ps next)
