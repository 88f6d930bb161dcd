-- What is visible where a name is used.
-- A name is used in an expression or a sink, where what stands before the statement is visible, or also the register in whose reset it stands.
use Rattle.std.proofs.Common.{ℕ, List, [], ◌∷◌, ◌++◌, Option, Some, None, inl, inr, subst}
use Rattle.fir_base.specs.Lists.{In}
use Rattle.fir_ast.specs.declared.place.Place.{Place}
use Rattle.fir_ast.specs.Types.{DataType, uint, sint, clock, reset, async_reset, bundle, vector, Fields, no_fields, field}
use Rattle.fir_ast.specs.Expressions.{Expression, reference, literal, operation, mux, validif, Parts, no_parts, subfield, subindex, subaccess, Expressions, no_expressions, expression}
use Rattle.fir_ast.specs.Statements.{PlacedName, SinkReference, Reset, MemoryPart, data_type, depth, read_latency, write_latency, reader, writer, readwriter, read_under_write, Statement, wire, register, node, instance, memory, when, connect, partial_connect, invalid, skip, Block, done, then}
use Rattle.fir_ast.specs.Circuits.{PortTree}
use Rattle.fir_meaning.specs.Components.{Declarations}
use Rattle.fir_meaning.specs.Components as component
use Rattle.fir_meaning.specs.Visibility.{Before, with_declaration, opened, reopened, behind, behind_block}
use Rattle.fir_meaning.specs.Mentions.{Mention, declares, uses, instantiates, placed_name, type_mentions, field_mentions, expression_mentions, part_mentions, operand_mentions, sink_mentions, reset_mentions, port_mentions, ports_of, data_mentions, memory_mentions, mentions, block_mentions, ports_mentions}
use Rattle.fir_meaning.proofs.GrownDeclarations.{Included, included_through, grows, grows_block, Declared, declared_more, declared_opened, declared_reopened, declared_behind}

-- what is visible where the mention uses a name is among these
abbrev pub UsesAmong : Declarations → Mention → Type 0
UsesAmong ds (declares before n) = Unit {0}
UsesAmong ds (uses visible p n) = Included visible ds
UsesAmong ds (instantiates modules m) = Unit {0}

abbrev pub AllAmong : Declarations → List Mention → Type 0
AllAmong ds [] = Unit {0}
AllAmong ds (m ∷ ms) = UsesAmong ds m × AllAmong ds ms

pub both_among : (ds : Declarations) (ms ns : List Mention) → AllAmong ds ms → AllAmong ds ns → AllAmong ds (ms ++ ns)
both_among ds [] ns h i = i
both_among ds (m ∷ ms) ns h i = (h.0, both_among ds ms ns h.1 i)

more_among : (ds es : Declarations) (m : Mention) → Included ds es → UsesAmong ds m → UsesAmong es m
more_among ds es (declares before n) h u = tt
more_among ds es (uses visible p n) h u = included_through visible ds es u h
more_among ds es (instantiates modules m) h u = tt

all_more : (ds es : Declarations) (ms : List Mention) → Included ds es → AllAmong ds ms → AllAmong es ms
all_more ds es [] h a = tt
all_more ds es (m ∷ ms) h a = (more_among ds es m h a.0, all_more ds es ms h a.1)

mutual
  in_type : (ds : Declarations) (t : DataType) → AllAmong ds (type_mentions t)
  in_type ds (uint w) = tt
  in_type ds (sint w) = tt
  in_type ds clock = tt
  in_type ds reset = tt
  in_type ds async_reset = tt
  in_type ds (bundle fs) = in_fields ds [] fs
  in_type ds (vector t n) = in_type ds t

  in_fields : (ds : Declarations) (before : List PlacedName) (fs : Fields) → AllAmong ds (field_mentions before fs)
  in_fields ds before no_fields = tt
  in_fields ds before (field p flip n begins t rest) =
      (tt, both_among ds (type_mentions t) (field_mentions (before ++ placed_name p n ∷ []) rest) (in_type ds t) (in_fields ds (before ++ placed_name p n ∷ []) rest))

module _ (ds visible : Declarations) (h : Included visible ds) where
  mutual
    in_expression : (e : Expression) → AllAmong ds (expression_mentions visible e)
    in_expression (reference p n ps) = (h, in_parts ps)
    in_expression (literal l) = tt
    in_expression (operation p op es ks) = in_operands es
    in_expression (mux p c a b) =
        both_among ds (expression_mentions visible c ++ expression_mentions visible a) (expression_mentions visible b)
        (both_among ds (expression_mentions visible c) (expression_mentions visible a) (in_expression c) (in_expression a)) (in_expression b)
    in_expression (validif p c a) = both_among ds (expression_mentions visible c) (expression_mentions visible a) (in_expression c) (in_expression a)

    in_parts : (ps : Parts) → AllAmong ds (part_mentions visible ps)
    in_parts no_parts = tt
    in_parts (subfield first p n rest) = in_parts rest
    in_parts (subindex first p index rest) = in_parts rest
    in_parts (subaccess first e rest) = both_among ds (expression_mentions visible e) (part_mentions visible rest) (in_expression e) (in_parts rest)

    in_operands : (es : Expressions) → AllAmong ds (operand_mentions visible es)
    in_operands no_expressions = tt
    in_operands (expression e es) = both_among ds (expression_mentions visible e) (operand_mentions visible es) (in_expression e) (in_operands es)

  in_sink : (sink : SinkReference) → AllAmong ds (sink_mentions visible sink)
  in_sink sink = (h, in_parts sink.parts)

  in_reset : (r : Option Reset) → AllAmong ds (reset_mentions visible r)
  in_reset None = tt
  in_reset (Some r) =
      both_among ds (expression_mentions visible r.condition) (expression_mentions visible r.init) (in_expression r.condition) (in_expression r.init)

in_ports : (ds : Declarations) (before ns : List PlacedName) → AllAmong ds (port_mentions before ns)
in_ports ds before [] = tt
in_ports ds before (n ∷ ns) = (tt, in_ports ds (before ++ n ∷ []) ns)

in_data : (ds : Declarations) (m : MemoryPart) → AllAmong ds (data_mentions m)
in_data ds (data_type p begins t) = in_type ds t
in_data ds (depth p n) = tt
in_data ds (read_latency p n) = tt
in_data ds (write_latency p n) = tt
in_data ds (reader p ns) = tt
in_data ds (writer p ns) = tt
in_data ds (readwriter p ns) = tt
in_data ds (read_under_write p which) = tt

in_memory : (ds : Declarations) (before : List PlacedName) (ms : List MemoryPart) → AllAmong ds (memory_mentions before ms)
in_memory ds before [] = tt
in_memory ds before (m ∷ ms) =
    both_among ds (data_mentions m ++ port_mentions before (ports_of m)) (memory_mentions (before ++ ports_of m) ms)
    (both_among ds (data_mentions m) (port_mentions before (ports_of m)) (in_data ds m) (in_ports ds before (ports_of m)))
    (in_memory ds (before ++ ports_of m) ms)

mutual
  -- behind a statement all is declared that is visible where it uses a name
  pub statement_among : (modules : List PlacedName) (s : Statement) (before : Before) → Declared before
      → AllAmong (behind before s).declared (mentions modules before s)
  statement_among modules (wire p n begins t) before h = (tt, in_type (with_declaration before n (component.wire t)).declared t)
  statement_among modules (register p n begins t c r) before h =
      let after = with_declaration before n (component.register t) in
      let clocked = included_through before.visible before.declared after.declared h.visible (grows (register p n begins t c r) before) in
      let held = (declared_more before n (component.register t) h).visible in (
        tt,
        both_among after.declared (type_mentions t ++ expression_mentions before.visible c) (reset_mentions after.visible r)
            (both_among after.declared (type_mentions t) (expression_mentions before.visible c) (in_type after.declared t)
            (in_expression after.declared before.visible clocked c))
            (in_reset after.declared after.visible held r),
      )
  statement_among modules (node p n e) before h =
      let after = with_declaration before n (component.node e) in
      (tt, in_expression after.declared before.visible (included_through before.visible before.declared after.declared h.visible (grows (node p n e) before)) e)
  statement_among modules (instance p n m) before h = (tt, (tt, tt))
  statement_among modules (memory p n parts) before h = (tt, in_memory (with_declaration before n (component.memory parts)).declared [] parts)
  statement_among modules (when p c a b) before h =
      let inside = behind_block (opened before) a in
      let last = behind_block (reopened before inside) b in
      let into = grows_block a (opened before) in
      let onto = grows_block b (reopened before inside) in
      let condition = included_through before.visible before.declared last.declared h.visible (included_through before.declared inside.declared last.declared into onto) in
      both_among last.declared (expression_mentions before.visible c ++ block_mentions modules (opened before) a) (block_mentions modules (reopened before inside) b)
      (both_among last.declared (expression_mentions before.visible c) (block_mentions modules (opened before) a)
      (in_expression last.declared before.visible condition c)
      (all_more inside.declared last.declared (block_mentions modules (opened before) a) onto (block_among modules a (opened before) (declared_opened before h))))
      (block_among modules b (reopened before inside) (declared_reopened before inside h into))
  statement_among modules (connect p sink e) before h =
      both_among before.declared (sink_mentions before.visible sink) (expression_mentions before.visible e)
      (in_sink before.declared before.visible h.visible sink) (in_expression before.declared before.visible h.visible e)
  statement_among modules (partial_connect p sink e) before h =
      both_among before.declared (sink_mentions before.visible sink) (expression_mentions before.visible e)
      (in_sink before.declared before.visible h.visible sink) (in_expression before.declared before.visible h.visible e)
  statement_among modules (invalid p sink) before h = in_sink before.declared before.visible h.visible sink
  statement_among modules (skip p) before h = tt

  pub block_among : (modules : List PlacedName) (b : Block) (before : Before) → Declared before
      → AllAmong (behind_block before b).declared (block_mentions modules before b)
  block_among modules done before h = tt
  block_among modules ((then) s b) before h =
      let next = behind before s in
      let last = behind_block next b in
      both_among last.declared (mentions modules before s) (block_mentions modules next b)
      (all_more next.declared last.declared (mentions modules before s) (grows_block b next) (statement_among modules s before h))
      (block_among modules b next (declared_behind s before h))

pub ports_among : (ds : Declarations) (ps : List PortTree) (before : Before) → AllAmong ds (ports_mentions before ps)
ports_among ds [] before = tt
ports_among ds (p ∷ ps) before =
    let next = with_declaration before p.named (component.port p.direction p.data_type) in
    (tt, both_among ds (type_mentions p.data_type) (ports_mentions next ps) (in_type ds p.data_type) (ports_among ds ps next))

-- what holds of all holds of each
pub use_among : (ds : Declarations) (ms : List Mention) (visible : Declarations) (p : Place) (n : List ℕ)
    → AllAmong ds ms → In ms (uses visible p n) → Included visible ds
use_among ds [] visible p n a m = absurd m
use_among ds (x ∷ ms) visible p n a (inl e) = subst (UsesAmong ds) e a.0
use_among ds (x ∷ ms) visible p n a (inr m) = use_among ds ms visible p n a.1 m
