-- Words that have a meaning in their place (FIRRTL spec, "Statements", "Types", "Primitive Operations", "Memory Instances").
use Rattle.std.specs.Prelude.{ℕ, List, Option, Some, None, codes, if◌then◌else◌}
use Rattle.std.specs.Str.{bytes_eq}
use Rattle.fir_base.specs.declared.direction.Direction.{Direction}
use Rattle.fir_base.specs.declared.direction.Direction.TheVariants as direction
use Rattle.fir_bits.specs.declared.operators.PrimOp.{PrimOp}
use Rattle.fir_bits.specs.working.OperatorWords.{operator_of}
use Rattle.fir_ast.specs.declared.statements.ReadUnderWrite.{ReadUnderWrite}
use Rattle.fir_ast.specs.declared.statements.ReadUnderWrite.TheVariants as under
use Rattle.fir_parse.specs.declared.words.Declaration.TheVariants as declares
use Rattle.fir_parse.specs.declared.words.Lead.{Lead}
use Rattle.fir_parse.specs.declared.words.Lead.TheVariants as lead
use Rattle.fir_parse.specs.declared.words.TypeWord.{TypeWord}
use Rattle.fir_parse.specs.declared.words.TypeWord.TheVariants as types
use Rattle.fir_parse.specs.declared.words.Applied.{Applied}
use Rattle.fir_parse.specs.declared.words.Applied.TheVariants as applied
use Rattle.fir_parse.specs.declared.words.FieldWord.{FieldWord}
use Rattle.fir_parse.specs.declared.words.FieldWord.TheVariants as memory
use Rattle.fir_parse.specs.declared.words.ModuleWord.{ModuleWord}
use Rattle.fir_parse.specs.declared.words.ModuleWord.TheVariants as modules
use Rattle.fir_parse.specs.Lexemes.{Lexeme, word, dash_word}

-- the first word of a statement
abbrev pub lead_of : List ℕ → Lead
lead_of w =
    if bytes_eq w (codes "wire") then lead.Declares declares.Wire
    else if bytes_eq w (codes "reg") then lead.Declares declares.Reg
    else if bytes_eq w (codes "node") then lead.Declares declares.Node
    else if bytes_eq w (codes "inst") then lead.Declares declares.Inst
    else if bytes_eq w (codes "mem") then lead.Declares declares.Mem
    else if bytes_eq w (codes "when") then lead.Declares declares.When
    else if bytes_eq w (codes "skip") then lead.Skip
    else if bytes_eq w (codes "attach") then lead.Missing
    else if bytes_eq w (codes "stop") then lead.Missing
    else if bytes_eq w (codes "printf") then lead.Missing
    else if bytes_eq w (codes "assert") then lead.Missing
    else if bytes_eq w (codes "assume") then lead.Missing
    else if bytes_eq w (codes "cover") then lead.Missing
    else if bytes_eq w (codes "cmem") then lead.Missing
    else if bytes_eq w (codes "smem") then lead.Missing
    else if bytes_eq w (codes "infer") then lead.MissingPort
    else if bytes_eq w (codes "read") then lead.MissingPort
    else if bytes_eq w (codes "write") then lead.MissingPort
    else if bytes_eq w (codes "rdwr") then lead.MissingPort
    else lead.Name

abbrev pub type_word_of : List ℕ → TypeWord
type_word_of w =
    if bytes_eq w (codes "UInt") then types.UInt
    else if bytes_eq w (codes "SInt") then types.SInt
    else if bytes_eq w (codes "Clock") then types.Clock
    else if bytes_eq w (codes "Reset") then types.Reset
    else if bytes_eq w (codes "AsyncReset") then types.AsyncReset
    else if bytes_eq w (codes "Analog") then types.Missing
    else if bytes_eq w (codes "Fixed") then types.Missing
    else if bytes_eq w (codes "Interval") then types.Missing
    else types.Name

abbrev pub operator_or : Option PrimOp → Applied → Applied
operator_or (Some o) otherwise = applied.Operator o
operator_or None otherwise = otherwise

-- a word before an opening parenthesis in an expression, where it is no operator
abbrev pub other_applied_of : List ℕ → Applied
other_applied_of w =
    if bytes_eq w (codes "mux") then applied.Mux
    else if bytes_eq w (codes "validif") then applied.Validif
    else if bytes_eq w (codes "UInt") then applied.UInt
    else if bytes_eq w (codes "SInt") then applied.SInt
    else if bytes_eq w (codes "asClock") then applied.Missing
    else if bytes_eq w (codes "asFixedPoint") then applied.Missing
    else if bytes_eq w (codes "asInterval") then applied.Missing
    else if bytes_eq w (codes "incp") then applied.Missing
    else if bytes_eq w (codes "decp") then applied.Missing
    else if bytes_eq w (codes "setp") then applied.Missing
    else if bytes_eq w (codes "wrap") then applied.Missing
    else if bytes_eq w (codes "clip") then applied.Missing
    else if bytes_eq w (codes "squz") then applied.Missing
    else applied.Name

-- and any word there
abbrev pub applied_of : List ℕ → Applied
applied_of w = operator_or (operator_of w) (other_applied_of w)

abbrev pub plain_field_word : List ℕ → FieldWord
plain_field_word w =
    if bytes_eq w (codes "depth") then memory.Depth
    else if bytes_eq w (codes "reader") then memory.Reader
    else if bytes_eq w (codes "writer") then memory.Writer
    else if bytes_eq w (codes "readwriter") then memory.Readwriter
    else memory.Name

abbrev pub dash_field_word : List ℕ → FieldWord
dash_field_word w =
    if bytes_eq w (codes "data-type") then memory.DataType
    else if bytes_eq w (codes "read-latency") then memory.ReadLatency
    else if bytes_eq w (codes "write-latency") then memory.WriteLatency
    else if bytes_eq w (codes "read-under-write") then memory.ReadUnderWrite
    else memory.Name

abbrev pub field_word_of : Lexeme → FieldWord
field_word_of (word w) = plain_field_word w
field_word_of (dash_word w) = dash_field_word w
field_word_of _ = memory.Name

abbrev pub under_write_of : List ℕ → Option ReadUnderWrite
under_write_of w =
    if bytes_eq w (codes "old") then Some under.Old
    else if bytes_eq w (codes "new") then Some under.New
    else if bytes_eq w (codes "undefined") then Some under.Undefined
    else None

abbrev pub direction_of : List ℕ → Option Direction
direction_of w =
    if bytes_eq w (codes "input") then Some direction.Input
    else if bytes_eq w (codes "output") then Some direction.Output
    else None

abbrev pub module_word_of : List ℕ → ModuleWord
module_word_of w =
    if bytes_eq w (codes "module") then modules.Module
    else if bytes_eq w (codes "extmodule") then modules.Missing
    else if bytes_eq w (codes "intmodule") then modules.Missing
    else modules.Name
