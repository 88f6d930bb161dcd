-- A circuit whose names can be written in Verilog: its own and those that it declares are words, and the names of fields have the bytes of words (FIRRTL spec,
-- "Details about Syntax").
use Rattle.std.specs.Prelude.{List, IsTrue}
use Rattle.std.specs.List.{AllByRecursion, list_all}
use Rattle.fir_base.specs.Bytes.{is_word_byte}
use Rattle.ver_words.specs.Names.{is_word}
use Rattle.fir_ast.specs.Types.{DataType, Fields, bundle, field, no_fields, vector}
use Rattle.fir_ast.specs.Statements.{PlacedName, Statement, MemoryPart, data_type, reader, writer, readwriter, wire, register, node, instance, memory, when, Block, done, then}
use Rattle.fir_ast.specs.Circuits.{CircuitTree, ModuleTree}

abbrev mutual
  pub TypeHasWords : DataType → Type 0
  TypeHasWords (bundle fs) = FieldsHaveWords fs
  TypeHasWords (vector t n) = TypeHasWords t
  TypeHasWords _ = Unit {0}

  pub FieldsHaveWords : Fields → Type 0
  FieldsHaveWords no_fields = Unit {0}
  FieldsHaveWords (field p flip x begins t rest) = IsTrue (list_all is_word_byte x) × TypeHasWords t × FieldsHaveWords rest

abbrev pub NamesAreWords : List PlacedName → Type 0
NamesAreWords = AllByRecursion (λ n. IsTrue (is_word n.name))

-- the ports of a memory have names too
abbrev pub PartHasWords : MemoryPart → Type 0
PartHasWords (data_type p q t) = TypeHasWords t
PartHasWords (reader p names) = NamesAreWords names
PartHasWords (writer p names) = NamesAreWords names
PartHasWords (readwriter p names) = NamesAreWords names
PartHasWords _ = Unit {0}

abbrev mutual
  pub StatementHasWords : Statement → Type 0
  StatementHasWords (wire p n begins t) = IsTrue (is_word n.name) × TypeHasWords t
  StatementHasWords (register p n begins t c r) = IsTrue (is_word n.name) × TypeHasWords t
  StatementHasWords (node p n e) = IsTrue (is_word n.name)
  StatementHasWords (instance p n other) = IsTrue (is_word n.name)
  StatementHasWords (memory p n parts) = IsTrue (is_word n.name) × AllByRecursion PartHasWords parts
  StatementHasWords (when p c a b) = BlockHasWords a × BlockHasWords b
  StatementHasWords _ = Unit {0}

  pub BlockHasWords : Block → Type 0
  BlockHasWords done = Unit {0}
  BlockHasWords ((then) x b) = StatementHasWords x × BlockHasWords b

pub record ModuleHasWords (m : ModuleTree) : Type 0 where
  pub ports : AllByRecursion (λ p. IsTrue (is_word p.named.name) × TypeHasWords p.data_type) m.ports
  pub body : BlockHasWords m.body

pub record HasWords (c : CircuitTree) : Type 0 where
  pub own : IsTrue (is_word c.named.name)
  pub modules : AllByRecursion ModuleHasWords c.modules
