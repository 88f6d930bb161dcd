-- From what the parts of the reader answer to what it answers.
use Rattle.std.proofs.Common.{◌≡◌, ℕ, List, [], Some, None, Result, Ok, Err, inl, inr, refl, sym, subst, ◌⊎◌}
use Rattle.fir_base.specs.declared.refused.Refused.{Refused}
use Rattle.fir_base.specs.declared.refused.Refused.TheVariants.{Fault, Memory}
use Rattle.ver_ast.specs.declared.tree.Verilog.{Verilog}
use Rattle.ver_ast.specs.Pieces.{HasTokens}
use Rattle.ver_ast.specs.Processes.{Process}
use Rattle.ver_ast.specs.Spells.{VSpells}
use Rattle.ver_ast.specs.Valid.{Valid, IsOrder}
use Rattle.ver_fault.specs.declared.fault.VerFault.{VerFault}
use Rattle.ver_fault.specs.Faults.{VFault}
use Rattle.ver_fault.specs.View.{vfault_of}
use Rattle.ver_lex.specs.working.Lexed.{Lexed, IsLexed}
use Rattle.ver_parse.specs.working.Parsed.{IsTreeOf}
use Rattle.ver_check.specs.working.Laws.{FaultlessIsValid}
use Rattle.ver_check.specs.TreeFaults.{misfits, undriven}
use Rattle.ver_read.specs.Reads.{IsTextOf, HasTree, IsTreeFault, IsFaultOf}
use Rattle.ver_read.specs.working.Checked.{Reads, TreeChecked}
use Rattle.ver_read.proofs.ShallowTexts.{tree_is_shallow}

of_text : (bytes : List ℕ) (t : Lexed) → IsLexed bytes t → t.stop ≡ None → HasTokens bytes t.tokens
of_text bytes t (same, inl h) none = h.1
of_text bytes t (same, inr h) none = absurd (let e : t.stop ≡ Some h.0 = h.1 in cc)

module _ (bytes : List ℕ) (t : Lexed) (v : Verilog) (lexed : IsLexed bytes t) (tree : IsTreeOf t v) where
  abbrev spelled : VSpells bytes v
  spelled = record {
    tokens = t.tokens;
    of_text = of_text bytes t lexed tree.whole;
    tokens_are = tree.spells.tokens_are;
    places_are = tree.places_are;
    names = tree.spells.names;
    numbers = tree.spells.numbers;
  }

  -- the text of a tree in which no fault is found
  pub taken : FaultlessIsValid → (misfits v ≡ []) × (undriven v ≡ []) × ((order : List Process) × IsOrder v order) → IsTextOf bytes v
  taken law h = record {
    spelled = spelled;
    valid = (law v (tree_is_shallow v t.tokens tree.spells.tokens_are tree.shallow)).0 h;
  }

  -- and of one that has a fault
  refused : (f : VFault) → IsTreeFault v f → IsFaultOf bytes f
  refused f h = inr (v, record { spelled = spelled; shallow = tree.shallow }, h)

  pub refused_so : (r : Refused VerFault) → TreeChecked v (Err r) → Reads bytes (Err r)
  refused_so (Fault f) h = refused (vfault_of f) h
  refused_so Memory h = tt
