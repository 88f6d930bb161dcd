-- What is declared grows along a module, and what is visible is declared.
use Rattle.std.proofs.Common.{List, [], ◌∷◌, ◌++◌, ⊎_elim}
use Rattle.fir_base.specs.Lists.{In}
use Rattle.fir_ast.specs.Statements.{PlacedName, Statement, wire, register, node, instance, memory, when, connect, partial_connect, invalid, skip, Block, done, then}
use Rattle.fir_ast.specs.Circuits.{PortTree}
use Rattle.fir_meaning.specs.Components.{Component, Declaration, Declarations}
use Rattle.fir_meaning.specs.Components as component
use Rattle.fir_meaning.specs.Visibility.{Before, declaration_at, with_declaration, opened, reopened, behind, behind_block, behind_ports}
use Rattle.fir_base.proofs.Members.{in_left, in_right, in_either}

-- each of the one is one of the other
pub record Included (ds es : Declarations) : Type 0 where
  pub each : (d : Declaration) → In ds d → In es d

pub included_all : (ds : Declarations) → Included ds ds
included_all ds = record { each = λ d m. m }

pub included_through : (ds es fs : Declarations) → Included ds es → Included es fs → Included ds fs
included_through ds es fs one other = record { each = λ d m. other.each d (one.each d m) }

included_front : (ds : Declarations) (d : Declaration) → Included ds (ds ++ d ∷ [])
included_front ds d = record { each = λ x m. in_left ds (d ∷ []) x m }

included_more : (ds es : Declarations) (d : Declaration) → Included ds es → Included (ds ++ d ∷ []) (es ++ d ∷ [])
included_more ds es d h = record {
  each = λ x m.
      ⊎_elim (λ (n : In ds x). in_left es (d ∷ []) x (h.each x n)) (λ (n : In (d ∷ []) x). in_right es (d ∷ []) x n) (in_either ds (d ∷ []) x m);
}

mutual
  pub grows : (s : Statement) (before : Before) → Included before.declared (behind before s).declared
  grows (wire p n begins t) before = included_front before.declared (declaration_at before n (component.wire t))
  grows (register p n begins t c r) before = included_front before.declared (declaration_at before n (component.register t))
  grows (node p n e) before = included_front before.declared (declaration_at before n (component.node e))
  grows (instance p n m) before = included_front before.declared (declaration_at before n (component.instance m.name))
  grows (memory p n parts) before = included_front before.declared (declaration_at before n (component.memory parts))
  grows (when p c a b) before =
      let inside = behind_block (opened before) a in
      included_through before.declared inside.declared (behind_block (reopened before inside) b).declared
      (grows_block a (opened before)) (grows_block b (reopened before inside))
  grows (connect p sink e) before = included_all before.declared
  grows (partial_connect p sink e) before = included_all before.declared
  grows (invalid p sink) before = included_all before.declared
  grows (skip p) before = included_all before.declared

  pub grows_block : (b : Block) (before : Before) → Included before.declared (behind_block before b).declared
  grows_block done before = included_all before.declared
  grows_block ((then) s b) before =
      included_through before.declared (behind before s).declared (behind_block (behind before s) b).declared (grows s before) (grows_block b (behind before s))

-- what is visible is declared
pub record Declared (before : Before) : Type 0 where
  pub visible : Included before.visible before.declared

pub declared_more : (before : Before) (n : PlacedName) (c : Component) → Declared before → Declared (with_declaration before n c)
declared_more before n c h = record { visible = included_more before.visible before.declared (declaration_at before n c) h.visible }

pub declared_opened : (before : Before) → Declared before → Declared (opened before)
declared_opened before h = record { visible = h.visible }

pub declared_reopened : (before inside : Before) → Declared before → Included before.declared inside.declared → Declared (reopened before inside)
declared_reopened before inside h grown = record { visible = included_through before.visible before.declared inside.declared h.visible grown }

pub declared_behind : (s : Statement) (before : Before) → Declared before → Declared (behind before s)
declared_behind (wire p n begins t) before h = declared_more before n (component.wire t) h
declared_behind (register p n begins t c r) before h = declared_more before n (component.register t) h
declared_behind (node p n e) before h = declared_more before n (component.node e) h
declared_behind (instance p n m) before h = declared_more before n (component.instance m.name) h
declared_behind (memory p n parts) before h = declared_more before n (component.memory parts) h
declared_behind (when p c a b) before h =
    record { visible = included_through before.visible before.declared (behind before (when p c a b)).declared h.visible (grows (when p c a b) before) }
declared_behind (connect p sink e) before h = h
declared_behind (partial_connect p sink e) before h = h
declared_behind (invalid p sink) before h = h
declared_behind (skip p) before h = h

pub declared_ports : (ps : List PortTree) (before : Before) → Declared before → Declared (behind_ports before ps)
declared_ports [] before h = h
declared_ports (p ∷ ps) before h =
    declared_ports ps (with_declaration before p.named (component.port p.direction p.data_type)) (declared_more before p.named (component.port p.direction p.data_type) h)

pub grows_ports : (ps : List PortTree) (before : Before) → Included before.declared (behind_ports before ps).declared
grows_ports [] before = included_all before.declared
grows_ports (p ∷ ps) before =
    let next = with_declaration before p.named (component.port p.direction p.data_type) in
    included_through before.declared next.declared (behind_ports next ps).declared
    (included_front before.declared (declaration_at before p.named (component.port p.direction p.data_type))) (grows_ports ps next)
