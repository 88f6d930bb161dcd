-- Which statuses are left where no count of faults rises.
use Rattle.std.proofs.Common.{◌≡◌, ◌⊎◌, ⊎_elim, ℕ, ◌<◌, List, Option, Some, None, inl, inr, refl, ap, lit<, arith}
use Rattle.fir_io.specs.Ports.{Rose}
use Rattle.fir_cli.specs.declared.status.Status.{Status}
use Rattle.fir_cli.specs.declared.status.Status.TheVariants.{Done, Refused, Usage, Unread, Unwritten, NoMemory, BadTrace, BadVerilog, TooLong}
use Rattle.fir_cli.specs.Outside.{Outside, code}
use Rattle.trace_command.specs.Simulates.{Simulates}
use Rattle.fir_words.specs.Commands.{Command, Simulated, SimulatedVerilog, check, emit, sim, vsim}
use Rattle.fir_commands.specs.Check.{check_meaning}
use Rattle.fir_commands.specs.Emit.{emit_meaning}
use Rattle.fir_commands.specs.Sim.{sim_meaning}
use Rattle.fir_commands.specs.TextCommands.{PutsText, TextMeaning}
use Rattle.ver_command.specs.Vsim.{vsim_meaning}
use Rattle.fir_driver.specs.Program.{DoesFor, files_of, verilog_files_of}
use Rattle.firc_rows.specs.working.Left.{IsLeft}

-- what never counts a fault has none
no_rise : (before after : ℕ) → before ≡ 0 → after ≡ 0 → Rose before after → ⊥
no_rise before after b a rose = let h : Rose 0 0 = rw (b, a) at rose in absurd (omega (arith, h))

-- a text that is refused has the number 1
no_refusal : (s : Status) → s ≡ Refused → 1 < code s → ⊥
no_refusal s same above = let h : code s ≡ 1 = ap code same in omega arith

pub record NoneRise (before after : Outside) : Type 0 where
  pub files : Rose before.files.faults after.files.faults → ⊥
  pub out : Rose before.out.faults after.out.faults → ⊥
  pub err : Rose before.err.faults after.err.faults → ⊥

module _ (before after : Outside) (none : NoneRise before after) where
  of_text : (k : TextMeaning) (name : List ℕ) (s : Status) → PutsText k name before after s → IsLeft (Some (emit name)) (code s)
  of_text k name Done h = inl refl
  of_text k name Refused h = inr (inl refl)
  of_text k name Usage h = absurd h.1
  of_text k name Unread h = absurd (none.files h.1.0)
  of_text k name Unwritten (inl h) = absurd (none.out h.1)
  of_text k name Unwritten (inr h) = absurd (none.err h.1)
  of_text k name NoMemory h = inr (inr (inl refl))
  of_text k name BadTrace h = absurd h.1
  of_text k name BadVerilog h = absurd h.1
  of_text k name TooLong h = inr (inr (inr refl))

  of_simulation : (m : Simulated) (s : Status) → Simulates (sim_meaning m.with_state) (files_of m) before after s → IsLeft (Some (sim m)) (code s)
  of_simulation m Done h = inl refl
  of_simulation m Refused h = inr (inl refl)
  of_simulation m Usage (inl h) = absurd (no_refusal Usage h.1.0 (lit< tt))
  of_simulation m Usage (inr h) = absurd (no_refusal Usage h.0 (lit< tt))
  of_simulation m Unread h = absurd (none.files h.1.2)
  of_simulation m Unwritten (inl h) = absurd (none.out h.1)
  of_simulation m Unwritten (inr h) = absurd (none.err h.1)
  of_simulation m NoMemory h = inr (inr (inl refl))
  of_simulation m BadTrace h = inr (inr (inr (inl refl)))
  of_simulation m BadVerilog (inl h) = absurd (no_refusal BadVerilog h.1.0 (lit< tt))
  of_simulation m BadVerilog (inr h) = absurd (no_refusal BadVerilog h.0 (lit< tt))
  of_simulation m TooLong h = inr (inr (inr (inr refl)))

  -- a text that is refused has the number 7
  not_refused : (s : Status) → s ≡ BadVerilog → code s < 7 ⊎ 7 < code s → ⊥
  not_refused s same apart = let h : code s ≡ 7 = ap code same in ⊎_elim (λ (low : code s < 7). omega (arith, h, low)) (λ (high : 7 < code s). omega (arith, h, high)) apart

  of_verilog : (m : SimulatedVerilog) (s : Status) → Simulates (vsim_meaning m.with_state m.order) (verilog_files_of m) before after s → IsLeft (Some (vsim m)) (code s)
  of_verilog m Done h = inl refl
  of_verilog m Refused (inl h) = absurd (not_refused Refused h.1.0 (inl (lit< tt)))
  of_verilog m Refused (inr h) = absurd (not_refused Refused h.0 (inl (lit< tt)))
  of_verilog m Usage (inl h) = absurd (not_refused Usage h.1.0 (inl (lit< tt)))
  of_verilog m Usage (inr h) = absurd (not_refused Usage h.0 (inl (lit< tt)))
  of_verilog m Unread h = absurd (none.files h.1.2)
  of_verilog m Unwritten (inl h) = absurd (none.out h.1)
  of_verilog m Unwritten (inr h) = absurd (none.err h.1)
  of_verilog m NoMemory h = inr (inl refl)
  of_verilog m BadTrace h = inr (inr (inl refl))
  of_verilog m BadVerilog h = inr (inr (inr (inl refl)))
  of_verilog m TooLong h = inr (inr (inr (inr refl)))

  left : (asked : Option Command) (s : Status) → DoesFor asked before after s → IsLeft asked (code s)
  left None Usage h = inl refl
  left None Unwritten h = absurd (none.err h.1)
  left None NoMemory h = inr refl
  left None Done h = absurd h
  left None Refused h = absurd h
  left None Unread h = absurd h
  left None BadTrace h = absurd h
  left None BadVerilog h = absurd h
  left None TooLong h = absurd h
  left (Some (check name)) s h = of_text check_meaning name s h
  left (Some (emit name)) s h = of_text emit_meaning name s h
  left (Some (sim m)) s h = of_simulation m s h
  left (Some (vsim m)) s h = of_verilog m s h.0

pub sure_left : (asked : Option Command) (before after : Outside) (s : Status) → DoesFor asked before after s
    → before.files.faults ≡ 0 → after.files.faults ≡ 0 → before.out.faults ≡ 0 → after.out.faults ≡ 0 → before.err.faults ≡ 0 → after.err.faults ≡ 0
    → IsLeft asked (code s)
sure_left asked before after s h a b c d e f =
    left before after (record { files = no_rise _ _ a b; out = no_rise _ _ c d; err = no_rise _ _ e f }) asked s h
