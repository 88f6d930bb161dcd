-- The plain data that the code's expressions, statements, modules and circuits stand for.
use Rattle.std.specs.Prelude.{List, [], ◌∷◌, map, option_map}
use Rattle.fir_ast.specs.declared.place.Place.{Place}
use Rattle.fir_ast.specs.declared.expressions.Expr.{Expr, fold-Expr}
use Rattle.fir_ast.specs.declared.expressions.Expr.TheOpen.{Expr-F, Reference-F, Part-F}
use Rattle.fir_ast.specs.declared.expressions.Reference.{Reference, fold-Reference}
use Rattle.fir_ast.specs.declared.statements.Ident.{Ident}
use Rattle.fir_ast.specs.declared.statements.Stmt.{Stmt, fold-Stmt}
use Rattle.fir_ast.specs.declared.statements.Stmt.TheOpen.{Stmt-F, When-F}
use Rattle.fir_ast.specs.declared.statements.RegisterReset.{RegisterReset}
use Rattle.fir_ast.specs.declared.statements.MemoryField.{MemoryField}
use Rattle.fir_ast.specs.declared.statements.MemoryField.TheVariants as field_of_memory
use Rattle.fir_ast.specs.declared.circuit.Circuit.{Circuit}
use Rattle.fir_ast.specs.declared.circuit.Module.{Module}
use Rattle.fir_ast.specs.declared.circuit.Port.{Port}
use Rattle.fir_ast.specs.Expressions.{Expression, reference, literal, operation, mux, validif, Parts, no_parts, subfield, subindex, subaccess, Expressions, no_expressions, expression}
use Rattle.fir_ast.specs.Statements.{PlacedName, SinkReference, Reset, MemoryPart, data_type, depth, read_latency, write_latency, reader, writer, readwriter, read_under_write, Statement, wire, register, node, instance, memory, when, connect, partial_connect, invalid, skip, Block, done, then}
use Rattle.fir_ast.specs.Circuits.{PortTree, ModuleTree, CircuitTree}
use Rattle.fir_ast.specs.working.TypeViews.{type_of}

-- a part of a reference is what it puts before the parts behind it
abbrev pub parts_of : List (Parts → Parts) → Parts
parts_of [] = no_parts
parts_of (p ∷ ps) = p (parts_of ps)

abbrev pub expressions_of : List Expression → Expressions
expressions_of [] = no_expressions
expressions_of (e ∷ es) = expression e (expressions_of es)

abbrev pub expr_step : Expr-F Expression (Parts → Parts) SinkReference → Expression
expr_step (Expr-F.Ref r) = reference r.place r.name r.parts
expr_step (Expr-F.Literal l) = literal l
expr_step (Expr-F.Op place op es ks) = operation place op (expressions_of es.items) ks.items
expr_step (Expr-F.Mux place c a b) = mux place c.value a.value b.value
expr_step (Expr-F.Validif place c a) = validif place c.value a.value

abbrev pub reference_step : Reference-F Expression (Parts → Parts) SinkReference → SinkReference
reference_step r = record { place = r.place; name = r.name; parts = parts_of r.parts.items }

abbrev pub part_step : Part-F Expression (Parts → Parts) SinkReference → Parts → Parts
part_step (Part-F.Field first place name) rest = subfield first place name rest
part_step (Part-F.Index first place index) rest = subindex first place index rest
part_step (Part-F.Access first e) rest = subaccess first e.value rest

abbrev pub expr_of : Expr → Expression
expr_of = fold-Expr Expression (Parts → Parts) SinkReference expr_step part_step reference_step

abbrev pub sink_of : Reference → SinkReference
sink_of = fold-Reference Expression (Parts → Parts) SinkReference expr_step part_step reference_step

abbrev pub named_of : Ident → PlacedName
named_of i = record { place = i.place; name = i.name }

abbrev pub reset_of : RegisterReset → Reset
reset_of r = record { place = r.place; condition = expr_of r.condition; init = expr_of r.init }

abbrev pub memory_part_of : MemoryField → MemoryPart
memory_part_of (field_of_memory.DataType place begins t) = data_type place begins (type_of t)
memory_part_of (field_of_memory.Depth place n) = depth place n
memory_part_of (field_of_memory.ReadLatency place n) = read_latency place n
memory_part_of (field_of_memory.WriteLatency place n) = write_latency place n
memory_part_of (field_of_memory.Reader place names) = reader place (map named_of names.items)
memory_part_of (field_of_memory.Writer place names) = writer place (map named_of names.items)
memory_part_of (field_of_memory.Readwriter place names) = readwriter place (map named_of names.items)
memory_part_of (field_of_memory.ReadUnderWrite place which) = read_under_write place which

abbrev pub block_of : List Statement → Block
block_of [] = done
block_of (s ∷ ss) = then s (block_of ss)

-- a when is what it makes of its place
abbrev pub stmt_step : Stmt-F Statement (Place → Statement) → Statement
stmt_step (Stmt-F.Wire place i begins t) = wire place (named_of i) begins (type_of t)
stmt_step (Stmt-F.Reg place r) =
    register place (named_of r.value.ident) r.value.type_place (type_of r.value.ty) (expr_of r.value.clock) (option_map reset_of r.value.reset)
stmt_step (Stmt-F.Node place i e) = node place (named_of i) (expr_of e)
stmt_step (Stmt-F.Inst place i m) = instance place (named_of i) (named_of m)
stmt_step (Stmt-F.Mem place m) = memory place (named_of m.ident) (map memory_part_of m.fields.items)
stmt_step (Stmt-F.When place w) = w place
stmt_step (Stmt-F.Connect place r e) = connect place (sink_of r) (expr_of e)
stmt_step (Stmt-F.PartialConnect place r e) = partial_connect place (sink_of r) (expr_of e)
stmt_step (Stmt-F.Invalid place r) = invalid place (sink_of r)
stmt_step (Stmt-F.Skip place) = skip place

abbrev pub when_step : When-F Statement (Place → Statement) → Place → Statement
when_step w place = when place (expr_of w.condition) (block_of w.then_block.items) (block_of w.else_block.items)

abbrev pub stmt_of : Stmt → Statement
stmt_of = fold-Stmt Statement (Place → Statement) stmt_step when_step

abbrev pub port_of : Port → PortTree
port_of p = record { direction = p.direction; named = named_of p.ident; type_place = p.type_place; data_type = type_of p.ty }

abbrev pub module_of : Module → ModuleTree
module_of m = record { place = m.place; named = named_of m.ident; ports = map port_of m.ports.items; body = block_of (map stmt_of m.body.items) }

abbrev pub circuit_of : Circuit → CircuitTree
circuit_of c = record { named = named_of c.ident; modules = map module_of c.modules.items }
