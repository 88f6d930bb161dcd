-- Where no name of a module is declared twice, its declarations have each name once.
use Rattle.std.proofs.Common.{◌≡◌, List, [], ◌∷◌, ◌++◌, Option, Some, None, refl}
use Rattle.fir_ast.specs.Statements.{PlacedName, Statement, wire, register, node, instance, memory, when, connect, partial_connect, invalid, skip, Block, done, then}
use Rattle.fir_ast.specs.Circuits.{PortTree}
use Rattle.fir_meaning.specs.Components.{Component, find_name}
use Rattle.fir_meaning.specs.Components as component
use Rattle.fir_meaning.specs.Visibility.{Before, declaration_at, with_declaration, opened, reopened, behind, behind_block, behind_ports}
use Rattle.fir_meaning.specs.Mentions.{Mention, declares, names_declared, type_mentions, expression_mentions, reset_mentions, mentions, block_mentions, ports_mentions, instantiates, memory_mentions}
use Rattle.fir_meaning.specs.NameGroups.{faults_in, mention_faults, second_faults}
use Rattle.std.proofs.lemmas.Grind.{flat_map-append}
use Rattle.fir_base.proofs.Empty.{empty_left, empty_right}
use Rattle.fir_meaning.proofs.FoundDeclarations.{Once, once_more}

-- the faults of joined mentions
pub faults_joined : (ms ns : List Mention) → faults_in (ms ++ ns) ≡ faults_in ms ++ faults_in ns
faults_joined ms ns = flat_map-append mention_faults ms ns

pub clear_left : (ms ns : List Mention) → faults_in (ms ++ ns) ≡ [] → faults_in ms ≡ []
clear_left ms ns h = empty_left (faults_in ms) (faults_in ns) (rw (← faults_joined ms ns) h)

pub clear_right : (ms ns : List Mention) → faults_in (ms ++ ns) ≡ [] → faults_in ns ≡ []
clear_right ms ns h = empty_right (faults_in ms) (faults_in ns) (rw (← faults_joined ms ns) h)

pub not_second : (found : Option PlacedName) (n : PlacedName) → second_faults found n ≡ [] → found ≡ None
not_second None n h = refl
not_second (Some first) n h = cc

-- one more declaration
declared_once : (before : Before) (n : PlacedName) (c : Component) (rest : List Mention) → Once before.declared
    → faults_in (declares (names_declared before) n ∷ rest) ≡ [] → Once (with_declaration before n c).declared
declared_once before n c rest o h =
    let clear = empty_left (mention_faults (declares (names_declared before) n)) (faults_in rest) h in
    once_more before.declared (declaration_at before n c) o (not_second (find_name (names_declared before) n.name) n clear)

mutual
  pub once_behind : (modules : List PlacedName) (s : Statement) (before : Before) → Once before.declared → faults_in (mentions modules before s) ≡ []
      → Once (behind before s).declared
  once_behind modules (wire p n begins t) before o h = declared_once before n (component.wire t) (type_mentions t) o h
  once_behind modules (register p n begins t c r) before o h =
      declared_once before n (component.register t)
      (type_mentions t ++ expression_mentions before.visible c ++ reset_mentions (with_declaration before n (component.register t)).visible r) o h
  once_behind modules (node p n e) before o h = declared_once before n (component.node e) (expression_mentions before.visible e) o h
  once_behind modules (instance p n m) before o h = declared_once before n (component.instance m.name) (instantiates modules m ∷ []) o h
  once_behind modules (memory p n parts) before o h = declared_once before n (component.memory parts) (memory_mentions [] parts) o h
  once_behind modules (when p c a b) before o h =
      let inside = behind_block (opened before) a in
      let condition = expression_mentions before.visible c in
      let first = block_mentions modules (opened before) a in
      let second = block_mentions modules (reopened before inside) b in
      once_block modules b (reopened before inside)
      (once_block modules a (opened before) o (clear_right condition first (clear_left (condition ++ first) second h)))
      (clear_right (condition ++ first) second h)
  once_behind modules (connect p sink e) before o h = o
  once_behind modules (partial_connect p sink e) before o h = o
  once_behind modules (invalid p sink) before o h = o
  once_behind modules (skip p) before o h = o

  pub once_block : (modules : List PlacedName) (b : Block) (before : Before) → Once before.declared → faults_in (block_mentions modules before b) ≡ []
      → Once (behind_block before b).declared
  once_block modules done before o h = o
  once_block modules ((then) s b) before o h =
      let here = mentions modules before s in
      let rest = block_mentions modules (behind before s) b in
      once_block modules b (behind before s) (once_behind modules s before o (clear_left here rest h)) (clear_right here rest h)

pub once_ports : (ps : List PortTree) (before : Before) → Once before.declared → faults_in (ports_mentions before ps) ≡ []
    → Once (behind_ports before ps).declared
once_ports [] before o h = o
once_ports (p ∷ ps) before o h =
    let next = with_declaration before p.named (component.port p.direction p.data_type) in
    let rest = type_mentions p.data_type ++ ports_mentions next ps in
    once_ports ps next (declared_once before p.named (component.port p.direction p.data_type) rest o h)
    (clear_right (type_mentions p.data_type) (ports_mentions next ps) (empty_right (mention_faults (declares (names_declared before) p.named)) (faults_in rest) h))
