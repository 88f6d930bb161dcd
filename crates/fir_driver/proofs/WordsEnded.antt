-- How it ends where memory was wanting to read the words, whatever they ask for.
use Rattle.std.proofs.Common.{◌≡◌, ℕ, List, Option, Some, None, inl, inr, refl, sym, ◌⊎◌, subst}
use Rattle.fir_io.specs.Ports.{FilesSeen, SinkSeen}
use Rattle.fir_cli.specs.declared.status.Status.{Status}
use Rattle.fir_cli.specs.declared.status.Status.TheVariants.{NoMemory, Unwritten}
use Rattle.fir_cli.specs.Messages.{memory_line}
use Rattle.fir_cli.specs.Outside.{Outside, outside}
use Rattle.trace_lines.proofs.Kept.{kept_same}
use Rattle.trace_command.specs.Simulates.{SimulationFiles, SimulationMeaning, Simulates}
use Rattle.fir_words.specs.Commands.{Command, check, emit, sim, vsim}
use Rattle.fir_cli.specs.working.Endings.{Said}
use Rattle.fir_commands.specs.Check.{check_meaning}
use Rattle.fir_commands.specs.Emit.{emit_meaning}
use Rattle.fir_commands.specs.Sim.{sim_meaning}
use Rattle.fir_commands.specs.TextCommands.{PutsText, TextMeaning}
use Rattle.ver_command.specs.Vsim.{vsim_meaning}
use Rattle.fir_driver.specs.Program.{DoesFor, NotTaken, files_of, verilog_files_of}
use Rattle.fir_driver.proofs.EmittedPrinted.{nothing_printed}

module _ (files : FilesSeen) (out err err' : SinkSeen) where
  abbrev before : Outside
  before = outside files out err

  abbrev after : Outside
  after = outside files out err'

  untaken : (s : Status) → Said memory_line NoMemory err err' s → NotTaken before after s
  untaken s (inl p) = subst (NotTaken before after) (sym p.0) (refl, inl p.1)
  untaken s (inr (inl p)) = subst (NotTaken before after) (sym p.0) (refl, p.1, inr p.2)
  untaken s (inr (inr p)) = subst (NotTaken before after) (sym p.0) (refl, inr p.1)

  of_text : (k : TextMeaning) (name : List ℕ) (s : Status) → Said memory_line NoMemory err err' s → PutsText k name before after s
  of_text k name s (inl p) = subst (PutsText k name before after) (sym p.0) (inl (kept_same out), inl p.1)
  of_text k name s (inr (inl p)) =
      subst (PutsText k name before after) (sym p.0) (inr (memory_line, p.1, p.2, (NoMemory, refl, kept_same out)))
  of_text k name s (inr (inr p)) = subst (PutsText k name before after) (sym p.0) (inl (kept_same out), inr p.1)

  of_simulation : (k : SimulationMeaning) (m : SimulationFiles) (s : Status) → Said memory_line NoMemory err err' s → Simulates k m before after s
  of_simulation k m s (inl p) = subst (Simulates k m before after) (sym p.0) (inl (kept_same out), inl p.1)
  of_simulation k m s (inr (inl p)) =
      subst (Simulates k m before after) (sym p.0) (inr (memory_line, p.1, p.2, inr (inr (inr (refl, inl (kept_same out))))))
  of_simulation k m s (inr (inr p)) = subst (Simulates k m before after) (sym p.0) (inl (kept_same out), inr p.1)

  unsaid : (s : Status) → Said memory_line NoMemory err err' s → (s ≡ NoMemory) ⊎ (s ≡ Unwritten)
  unsaid s (inl p) = inl p.0
  unsaid s (inr (inl p)) = inr p.0
  unsaid s (inr (inr p)) = inl p.0

  pub memory_said : (asked : Option Command) (s : Status) → Said memory_line NoMemory err err' s → DoesFor asked before after s
  memory_said None s h = untaken s h
  memory_said (Some (check name)) s h = of_text check_meaning name s h
  memory_said (Some (emit name)) s h = of_text emit_meaning name s h
  memory_said (Some (sim m)) s h = of_simulation (sim_meaning m.with_state) (files_of m) s h
  memory_said (Some (vsim m)) s h = (
    of_simulation (vsim_meaning m.with_state m.order) (verilog_files_of m) s h,
    λ none text written e told. nothing_printed text m before after s (unsaid s h),
  )
