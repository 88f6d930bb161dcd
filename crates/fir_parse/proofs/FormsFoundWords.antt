-- What a word with a meaning is.
use Rattle.std.proofs.Common.{◌≡◌, ℕ, List, Option, Some, None, codes, sym, inl, inr}
use Rattle.fir_base.specs.Lists.{In}
use Rattle.fir_parse.specs.MissingForms.{missing_types, missing_operators, missing_statements, missing_ports, missing_modules}
use Rattle.fir_bits.specs.declared.operators.PrimOp.{PrimOp}
use Rattle.std.specs.Option.{IfSome}
use Rattle.fir_bits.specs.OperatorWords.{operator_word}
use Rattle.fir_bits.specs.working.OperatorWords.{operator_of}
use Rattle.fir_parse.specs.declared.words.TypeWord.{TypeWord}
use Rattle.fir_parse.specs.declared.words.TypeWord.TheVariants as types
use Rattle.fir_parse.specs.declared.words.Applied.{Applied}
use Rattle.fir_parse.specs.declared.words.Applied.TheVariants as applied
use Rattle.fir_parse.specs.declared.words.Declaration.TheVariants as declares
use Rattle.fir_parse.specs.declared.words.Lead.{Lead}
use Rattle.fir_parse.specs.declared.words.Lead.TheVariants as lead
use Rattle.fir_parse.specs.declared.words.FieldWord.{FieldWord}
use Rattle.fir_parse.specs.declared.words.FieldWord.TheVariants as memory
use Rattle.fir_parse.specs.declared.words.ModuleWord.{ModuleWord}
use Rattle.fir_parse.specs.declared.words.ModuleWord.TheVariants as modules
use Rattle.fir_parse.specs.working.Words.{type_word_of, operator_or, applied_of, lead_of, plain_field_word, dash_field_word, module_word_of}
use Rattle.fir_parse.proofs.FormsFound.{by_word}
use Rattle.fir_parse.proofs.SpelledWords.{operator_found}

abbrev pub IsTypeWord : List ℕ → TypeWord → Type 0
IsTypeWord w types.UInt = w ≡ codes "UInt"
IsTypeWord w types.SInt = w ≡ codes "SInt"
IsTypeWord w types.Clock = w ≡ codes "Clock"
IsTypeWord w types.Reset = w ≡ codes "Reset"
IsTypeWord w types.AsyncReset = w ≡ codes "AsyncReset"
IsTypeWord w types.Missing = In missing_types w
IsTypeWord w types.Name = Unit {0}

pub type_word : (w : List ℕ) → IsTypeWord w (type_word_of w)
type_word w = let F : TypeWord → Type 0 = IsTypeWord w in
    by_word F w (codes "UInt") _ _ (λ e. e) (by_word F w (codes "SInt") _ _ (λ e. e) (by_word F w (codes "Clock") _ _ (λ e. e) (by_word F w (codes "Reset") _ _ (λ e. e)
    (by_word F w (codes "AsyncReset") _ _ (λ e. e) (by_word F w (codes "Analog") _ _ (λ e. inl (sym e)) (by_word F w (codes "Fixed") _ _ (λ e. inr (inl (sym e))) (by_word F w (codes "Interval") _ _ (λ e. inr (inr (inl (sym e)))) tt)))))))

abbrev pub IsApplied : List ℕ → Applied → Type 0
IsApplied w (applied.Operator op) = w ≡ operator_word op
IsApplied w applied.Mux = w ≡ codes "mux"
IsApplied w applied.Validif = w ≡ codes "validif"
IsApplied w applied.UInt = w ≡ codes "UInt"
IsApplied w applied.SInt = w ≡ codes "SInt"
IsApplied w applied.Missing = In missing_operators w
IsApplied w applied.Name = Unit {0}

by_operator : (w : List ℕ) (o : Option PrimOp) (otherwise : Applied) → IfSome o (λ op. w ≡ operator_word op) → IsApplied w otherwise → IsApplied w (operator_or o otherwise)
by_operator w (Some op) otherwise e h = e
by_operator w None otherwise e h = h

pub applied_word : (w : List ℕ) → IsApplied w (applied_of w)
applied_word w = let F : Applied → Type 0 = IsApplied w in by_operator w (operator_of w) _ (operator_found w) (
    by_word F w (codes "mux") _ _ (λ e. e) (by_word F w (codes "validif") _ _ (λ e. e) (by_word F w (codes "UInt") _ _ (λ e. e) (by_word F w (codes "SInt") _ _ (λ e. e)
    (by_word F w (codes "asClock") _ _ (λ e. inl (sym e)) (by_word F w (codes "asFixedPoint") _ _ (λ e. inr (inl (sym e))) (by_word F w (codes "asInterval") _ _ (λ e. inr (inr (inl (sym e)))) (by_word F w (codes "incp") _ _ (λ e. inr (inr (inr (inl (sym e)))))
    (by_word F w (codes "decp") _ _ (λ e. inr (inr (inr (inr (inl (sym e)))))) (by_word F w (codes "setp") _ _ (λ e. inr (inr (inr (inr (inr (inl (sym e))))))) (by_word F w (codes "wrap") _ _ (λ e. inr (inr (inr (inr (inr (inr (inl (sym e)))))))) (by_word F w (codes "clip") _ _ (λ e. inr (inr (inr (inr (inr (inr (inr (inl (sym e))))))))) (by_word F w (codes "squz") _ _ (λ e. inr (inr (inr (inr (inr (inr (inr (inr (inl (sym e)))))))))) tt)))))))))))))

abbrev pub IsLead : List ℕ → Lead → Type 0
IsLead w (lead.Declares declares.Wire) = w ≡ codes "wire"
IsLead w (lead.Declares declares.Reg) = w ≡ codes "reg"
IsLead w (lead.Declares declares.Node) = w ≡ codes "node"
IsLead w (lead.Declares declares.Inst) = w ≡ codes "inst"
IsLead w (lead.Declares declares.Mem) = w ≡ codes "mem"
IsLead w (lead.Declares declares.When) = w ≡ codes "when"
IsLead w lead.Skip = w ≡ codes "skip"
IsLead w lead.Missing = In missing_statements w
IsLead w lead.MissingPort = In missing_ports w
IsLead w lead.Name = Unit {0}

pub lead_word : (w : List ℕ) → IsLead w (lead_of w)
lead_word w = let F : Lead → Type 0 = IsLead w in
    by_word F w (codes "wire") _ _ (λ e. e) (by_word F w (codes "reg") _ _ (λ e. e) (by_word F w (codes "node") _ _ (λ e. e) (by_word F w (codes "inst") _ _ (λ e. e)
    (by_word F w (codes "mem") _ _ (λ e. e) (by_word F w (codes "when") _ _ (λ e. e) (by_word F w (codes "skip") _ _ (λ e. e)
    (by_word F w (codes "attach") _ _ (λ e. inl (sym e)) (by_word F w (codes "stop") _ _ (λ e. inr (inl (sym e))) (by_word F w (codes "printf") _ _ (λ e. inr (inr (inl (sym e)))) (by_word F w (codes "assert") _ _ (λ e. inr (inr (inr (inl (sym e)))))
    (by_word F w (codes "assume") _ _ (λ e. inr (inr (inr (inr (inl (sym e)))))) (by_word F w (codes "cover") _ _ (λ e. inr (inr (inr (inr (inr (inl (sym e))))))) (by_word F w (codes "cmem") _ _ (λ e. inr (inr (inr (inr (inr (inr (inl (sym e)))))))) (by_word F w (codes "smem") _ _ (λ e. inr (inr (inr (inr (inr (inr (inr (inl (sym e)))))))))
    (by_word F w (codes "infer") _ _ (λ e. inl (sym e)) (by_word F w (codes "read") _ _ (λ e. inr (inl (sym e))) (by_word F w (codes "write") _ _ (λ e. inr (inr (inl (sym e)))) (by_word F w (codes "rdwr") _ _ (λ e. inr (inr (inr (inl (sym e))))) tt))))))))))))))))))

abbrev pub IsPlainField : List ℕ → FieldWord → Type 0
IsPlainField w memory.Depth = w ≡ codes "depth"
IsPlainField w memory.Reader = w ≡ codes "reader"
IsPlainField w memory.Writer = w ≡ codes "writer"
IsPlainField w memory.Readwriter = w ≡ codes "readwriter"
IsPlainField w memory.Name = Unit {0}
IsPlainField w _ = ⊥

pub plain_field : (w : List ℕ) → IsPlainField w (plain_field_word w)
plain_field w = let F : FieldWord → Type 0 = IsPlainField w in
    by_word F w (codes "depth") _ _ (λ e. e) (by_word F w (codes "reader") _ _ (λ e. e) (by_word F w (codes "writer") _ _ (λ e. e) (by_word F w (codes "readwriter") _ _ (λ e. e) tt)))

abbrev pub IsDashField : List ℕ → FieldWord → Type 0
IsDashField w memory.DataType = w ≡ codes "data-type"
IsDashField w memory.ReadLatency = w ≡ codes "read-latency"
IsDashField w memory.WriteLatency = w ≡ codes "write-latency"
IsDashField w memory.ReadUnderWrite = w ≡ codes "read-under-write"
IsDashField w memory.Name = Unit {0}
IsDashField w _ = ⊥

pub dash_field : (w : List ℕ) → IsDashField w (dash_field_word w)
dash_field w = let F : FieldWord → Type 0 = IsDashField w in
    by_word F w (codes "data-type") _ _ (λ e. e) (by_word F w (codes "read-latency") _ _ (λ e. e) (by_word F w (codes "write-latency") _ _ (λ e. e) (by_word F w (codes "read-under-write") _ _ (λ e. e) tt)))

abbrev pub IsModuleWord : List ℕ → ModuleWord → Type 0
IsModuleWord w modules.Module = w ≡ codes "module"
IsModuleWord w modules.Missing = In missing_modules w
IsModuleWord w modules.Name = Unit {0}

pub module_word : (w : List ℕ) → IsModuleWord w (module_word_of w)
module_word w = let F : ModuleWord → Type 0 = IsModuleWord w in
    by_word F w (codes "module") _ _ (λ e. e) (by_word F w (codes "extmodule") _ _ (λ e. inl (sym e)) (by_word F w (codes "intmodule") _ _ (λ e. inr (inl (sym e))) tt))
