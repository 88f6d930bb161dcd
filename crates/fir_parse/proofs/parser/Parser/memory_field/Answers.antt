use Rattle.std.proofs.Common.{◌∙◌, refl}
use Rattle.fir_ast.specs.Statements.{depth, read_latency, write_latency, reader, writer, readwriter}
use Rattle.fir_ast.specs.working.Views.{memory_part_of}
use Rattle.fir_parse.specs.declared.words.FieldWord.TheVariants.{DataType, Depth, ReadLatency, WriteLatency, Reader, Writer, Readwriter, ReadUnderWrite}
use Rattle.fir_parse.specs.working.MemoryRules.{names_field, number_field}
use Rattle.fir_parse.specs.working.PartPlans.{data_type_plan, under_write_plan}
use Rattle.fir_parse.specs.working.States.{wants}
use Rattle.fir_parse.specs.working.Symbols.{a_memory_field}
use Rattle.fir_parse.proofs.FieldReads.{field_taken, no_field}
use Rattle.fir_parse.proofs.Plans.{exits_behind, reads_behind}
use Rattle.fir_parse.proofs.parser.Parser.memory_field.Goals as goal

pub returns-in-Name-clause-reads : goal.returns-in-Name-clause-reads
returns-in-Name-clause-reads c = no_field c.args.depth _ c.peek-next.result _ c.peek-next.ensures c.in-Name.ensures c.refused.ensures

pub returns-in-DataType-clause-reads : goal.returns-in-DataType-clause-reads
returns-in-DataType-clause-reads c =
    reads_behind (wants (a_memory_field c.args.depth)) (λ k. data_type_plan c.args.depth c.peek-next.result.place k) memory_part_of _ _ _ c.data_type_field.result
    (field_taken c.args.depth DataType _ _ _ c.peek-next.result c.peek-next.ensures c.in-DataType.ensures refl c.pass.ensures.rest)
    c.data_type_field.ensures.reads

pub returns-in-ReadUnderWrite-clause-reads : goal.returns-in-ReadUnderWrite-clause-reads
returns-in-ReadUnderWrite-clause-reads c =
    reads_behind (wants (a_memory_field c.args.depth)) (λ k. under_write_plan c.peek-next.result.place k) memory_part_of _ _ _ c.under_write_field.result
    (field_taken c.args.depth ReadUnderWrite _ _ _ c.peek-next.result c.peek-next.ensures c.in-ReadUnderWrite.ensures refl c.pass-in-ReadUnderWrite.ensures.rest)
    c.under_write_field.ensures.reads

pub returns-in_err-field_number-in-Depth-clause-reads : goal.returns-in_err-field_number-in-Depth-clause-reads
returns-in_err-field_number-in-Depth-clause-reads c =
    exits_behind _ _ _ _ _ _ c.from_residual.result _ _ c.from_residual.ensures.1
    (field_taken c.args.depth Depth (λ k. number_field depth c.peek-next.result.place k) _ _ c.peek-next.result c.peek-next.ensures c.in-Depth.ensures refl c.pass-in-Depth.ensures.rest)
    c.in_err-field_number-in-Depth.ensures.reads

pub returns-in_ok-field_number-in-Depth-clause-reads : goal.returns-in_ok-field_number-in-Depth-clause-reads
returns-in_ok-field_number-in-Depth-clause-reads c = λ end k.
    field_taken c.args.depth Depth (λ j. number_field depth c.peek-next.result.place j) _ _ c.peek-next.result c.peek-next.ensures c.in-Depth.ensures refl c.pass-in-Depth.ensures.rest end k
    ∙ c.in_ok-field_number-in-Depth.ensures.reads end _

pub returns-in_err-field_number-in-ReadLatency-clause-reads : goal.returns-in_err-field_number-in-ReadLatency-clause-reads
returns-in_err-field_number-in-ReadLatency-clause-reads c =
    exits_behind _ _ _ _ _ _ c.from_residual-in_err-field_number-in-ReadLatency.result _ _ c.from_residual-in_err-field_number-in-ReadLatency.ensures.1
    (field_taken c.args.depth ReadLatency (λ k. number_field read_latency c.peek-next.result.place k) _ _ c.peek-next.result c.peek-next.ensures c.in-ReadLatency.ensures refl c.pass-in-ReadLatency.ensures.rest)
    c.in_err-field_number-in-ReadLatency.ensures.reads

pub returns-in_ok-field_number-in-ReadLatency-clause-reads : goal.returns-in_ok-field_number-in-ReadLatency-clause-reads
returns-in_ok-field_number-in-ReadLatency-clause-reads c = λ end k.
    field_taken c.args.depth ReadLatency (λ j. number_field read_latency c.peek-next.result.place j) _ _ c.peek-next.result c.peek-next.ensures c.in-ReadLatency.ensures refl c.pass-in-ReadLatency.ensures.rest end k
    ∙ c.in_ok-field_number-in-ReadLatency.ensures.reads end _

pub returns-in_err-field_number-in-WriteLatency-clause-reads : goal.returns-in_err-field_number-in-WriteLatency-clause-reads
returns-in_err-field_number-in-WriteLatency-clause-reads c =
    exits_behind _ _ _ _ _ _ c.from_residual-in_err-field_number-in-WriteLatency.result _ _ c.from_residual-in_err-field_number-in-WriteLatency.ensures.1
    (field_taken c.args.depth WriteLatency (λ k. number_field write_latency c.peek-next.result.place k) _ _ c.peek-next.result c.peek-next.ensures c.in-WriteLatency.ensures refl c.pass-in-WriteLatency.ensures.rest)
    c.in_err-field_number-in-WriteLatency.ensures.reads

pub returns-in_ok-field_number-in-WriteLatency-clause-reads : goal.returns-in_ok-field_number-in-WriteLatency-clause-reads
returns-in_ok-field_number-in-WriteLatency-clause-reads c = λ end k.
    field_taken c.args.depth WriteLatency (λ j. number_field write_latency c.peek-next.result.place j) _ _ c.peek-next.result c.peek-next.ensures c.in-WriteLatency.ensures refl c.pass-in-WriteLatency.ensures.rest end k
    ∙ c.in_ok-field_number-in-WriteLatency.ensures.reads end _

pub returns-in_err-field_names-in-Reader-clause-reads : goal.returns-in_err-field_names-in-Reader-clause-reads
returns-in_err-field_names-in-Reader-clause-reads c =
    exits_behind _ _ _ _ _ _ c.from_residual-in_err-field_names-in-Reader.result _ (λ k ns. k (reader c.peek-next.result.place ns)) c.from_residual-in_err-field_names-in-Reader.ensures.1
    (field_taken c.args.depth Reader (λ k. names_field reader c.peek-next.result.place k) _ _ c.peek-next.result c.peek-next.ensures c.in-Reader.ensures refl c.pass-in-Reader.ensures.rest)
    c.in_err-field_names-in-Reader.ensures.reads

pub returns-in_ok-field_names-in-Reader-clause-reads : goal.returns-in_ok-field_names-in-Reader-clause-reads
returns-in_ok-field_names-in-Reader-clause-reads c = λ end k.
    field_taken c.args.depth Reader (λ j. names_field reader c.peek-next.result.place j) _ _ c.peek-next.result c.peek-next.ensures c.in-Reader.ensures refl c.pass-in-Reader.ensures.rest end k
    ∙ c.in_ok-field_names-in-Reader.ensures.reads end (λ ns. k (reader c.peek-next.result.place ns))

pub returns-in_err-field_names-in-Writer-clause-reads : goal.returns-in_err-field_names-in-Writer-clause-reads
returns-in_err-field_names-in-Writer-clause-reads c =
    exits_behind _ _ _ _ _ _ c.from_residual-in_err-field_names-in-Writer.result _ (λ k ns. k (writer c.peek-next.result.place ns)) c.from_residual-in_err-field_names-in-Writer.ensures.1
    (field_taken c.args.depth Writer (λ k. names_field writer c.peek-next.result.place k) _ _ c.peek-next.result c.peek-next.ensures c.in-Writer.ensures refl c.pass-in-Writer.ensures.rest)
    c.in_err-field_names-in-Writer.ensures.reads

pub returns-in_ok-field_names-in-Writer-clause-reads : goal.returns-in_ok-field_names-in-Writer-clause-reads
returns-in_ok-field_names-in-Writer-clause-reads c = λ end k.
    field_taken c.args.depth Writer (λ j. names_field writer c.peek-next.result.place j) _ _ c.peek-next.result c.peek-next.ensures c.in-Writer.ensures refl c.pass-in-Writer.ensures.rest end k
    ∙ c.in_ok-field_names-in-Writer.ensures.reads end (λ ns. k (writer c.peek-next.result.place ns))

pub returns-in_err-field_names-in-Readwriter-clause-reads : goal.returns-in_err-field_names-in-Readwriter-clause-reads
returns-in_err-field_names-in-Readwriter-clause-reads c =
    exits_behind _ _ _ _ _ _ c.from_residual-in_err-field_names-in-Readwriter.result _ (λ k ns. k (readwriter c.peek-next.result.place ns)) c.from_residual-in_err-field_names-in-Readwriter.ensures.1
    (field_taken c.args.depth Readwriter (λ k. names_field readwriter c.peek-next.result.place k) _ _ c.peek-next.result c.peek-next.ensures c.in-Readwriter.ensures refl c.pass-in-Readwriter.ensures.rest)
    c.in_err-field_names-in-Readwriter.ensures.reads

pub returns-in_ok-field_names-in-Readwriter-clause-reads : goal.returns-in_ok-field_names-in-Readwriter-clause-reads
returns-in_ok-field_names-in-Readwriter-clause-reads c = λ end k.
    field_taken c.args.depth Readwriter (λ j. names_field readwriter c.peek-next.result.place j) _ _ c.peek-next.result c.peek-next.ensures c.in-Readwriter.ensures refl c.pass-in-Readwriter.ensures.rest end k
    ∙ c.in_ok-field_names-in-Readwriter.ensures.reads end (λ ns. k (readwriter c.peek-next.result.place ns))
