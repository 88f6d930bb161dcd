-- What is written of a valid tree is read back as that tree.
use Rattle.std.proofs.Common.{◌≡◌, ℕ, List, Result, Ok, Err}
use Rattle.fir_base.specs.declared.refused.Refused.{Refused}
use Rattle.fir_base.specs.declared.refused.Refused.TheVariants.{Fault, Memory}
use Rattle.ver_ast.specs.declared.tree.Verilog.{Verilog}
use Rattle.ver_ast.specs.Spells.{HasNames}
use Rattle.ver_ast.specs.Valid.{Valid}
use Rattle.ver_ast.specs.working.Laws.{PlacesCountForNothing, SpellsButPlaces, SpellsOneTree, with_places}
use Rattle.ver_emit.specs.Layout.{layout}
use Rattle.ver_emit.specs.working.Laws.{LayoutIsSpelled}
use Rattle.ver_fault.specs.declared.fault.VerFault.{VerFault}
use Rattle.ver_fault.specs.View.{vfault_of}
use Rattle.ver_read.specs.Reads.{IsTextOf}
use Rattle.ver_read.specs.working.Checked.{Reads}
use Rattle.ver_read.specs.working.Laws.{IsReadBack, RefusedIsNotValid, WrittenIsReadBack}

module _ (one : SpellsOneTree) (places_law : PlacesCountForNothing) (laid_out : LayoutIsSpelled) (never_both : RefusedIsNotValid) where
  back : (v : Verilog) → Valid v → SpellsButPlaces (layout v) v → (answer : Result Verilog (Refused VerFault)) → Reads (layout v) answer → IsReadBack v answer
  back v valid s (Ok u) h = (s.0, one (layout v) u (with_places v s.0) h.spelled s.1)
  back v valid s (Err (Fault f)) h = never_both (layout v) (vfault_of f) (with_places v s.0) h (record { spelled = s.1; valid = (places_law v s.0).0.0 valid })
  back v valid s (Err Memory) h = tt

  pub written_is_read_back : WrittenIsReadBack
  written_is_read_back v valid names answer h = back v valid (laid_out v valid names) answer h
