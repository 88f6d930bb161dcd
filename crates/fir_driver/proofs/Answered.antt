-- Where nothing failed and memory was there, the status is the one that the words and the told contents give.
use Rattle.std.proofs.Common.{List, Option, Some, None, String, Global, refl}
use Rattle.trace_text.specs.working.Laws.{SpelledIsNotBad, SpellsOneTrace, ShowsOneBadLine}
use Rattle.fir_cli.specs.declared.status.Status.{Status}
use Rattle.fir_cli.specs.declared.status.Status.TheVariants.{Done, Refused, Usage, Unread, Unwritten, NoMemory, BadTrace, BadVerilog, TooLong}
use Rattle.fir_cli.specs.Outside.{Outside, code}
use Rattle.trace_command.proofs.SimulationComplete.{simulation_complete}
use Rattle.fir_parse.specs.working.Laws.{SpellsOneTree, HasTreeOrFault}
use Rattle.fir_words.specs.Commands.{Command, asked_by, check, emit, sim, vsim}
use Rattle.fir_commands.specs.Sim.{sim_meaning}
use Rattle.fir_commands.proofs.SimLaws.{sim_laws}
use Rattle.fir_commands.proofs.TextsComplete.{check_complete, emit_complete}
use Rattle.ver_ast.specs.working.Laws.{SpellsOneTree as SpellsOneVerilogTree}
use Rattle.ver_read.specs.working.Laws.{RefusedIsNotValid}
use Rattle.ver_runner.specs.working.Laws.{LackedDoesNotRun}
use Rattle.ver_command.specs.Vsim.{vsim_meaning}
use Rattle.ver_command.proofs.VsimLaws.{vsim_laws}
use Rattle.fir_driver.specs.Program.{NotTaken, Does, DoesFor, Answers, AnswersFor, files_of, verilog_files_of}

module _ (one : SpellsOneTree) (tree_or_fault : HasTreeOrFault) (not_bad : SpelledIsNotBad) (one_trace : SpellsOneTrace) (one_bad : ShowsOneBadLine)
    (one_verilog : SpellsOneVerilogTree) (refused : RefusedIsNotValid) (stops : LackedDoesNotRun) where
  untaken_answers : (before after : Outside) (ending : Status) → NotTaken before after ending → AnswersFor None before after (code ending)
  untaken_answers before after Usage h = λ not_memory none_failed. refl
  untaken_answers before after Unwritten h = λ not_memory none_failed. absurd (none_failed.err h.1)
  untaken_answers before after NoMemory h = λ not_memory none_failed. absurd (not_memory refl)
  untaken_answers before after Done h = absurd h
  untaken_answers before after Refused h = absurd h
  untaken_answers before after Unread h = absurd h
  untaken_answers before after BadTrace h = absurd h
  untaken_answers before after BadVerilog h = absurd h
  untaken_answers before after TooLong h = absurd h

  answers_for : (asked : Option Command) (before after : Outside) (ending : Status) → DoesFor asked before after ending → AnswersFor asked before after (code ending)
  answers_for None before after ending h = untaken_answers before after ending h
  answers_for (Some (check name)) before after ending h = check_complete one tree_or_fault name before after ending h
  answers_for (Some (emit name)) before after ending h = emit_complete one tree_or_fault name before after ending h
  answers_for (Some (sim s)) before after ending h =
      simulation_complete (sim_meaning s.with_state) (sim_laws one tree_or_fault s.with_state) not_bad one_trace one_bad (files_of s) before after ending h
  answers_for (Some (vsim s)) before after ending h =
      simulation_complete (vsim_meaning s.with_state s.order) (vsim_laws one_verilog refused stops s.with_state s.order) not_bad one_trace one_bad (verilog_files_of s) before after
      ending h.0

  pub answers : (words : List (String Global)) (before after : Outside) (ending : Status) → Does words before after ending → Answers words before after (code ending)
  answers words = answers_for (asked_by words)
