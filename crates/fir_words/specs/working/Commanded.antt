-- A command of the code, as the definitions see it.
use Rattle.fir_words.specs.declared.command.Command.{Command as CommandOfCode}
use Rattle.fir_words.specs.declared.command.Command.TheVariants as code
use Rattle.fir_words.specs.declared.command.Simulation.{Simulation}
use Rattle.fir_words.specs.declared.command.VerilogSimulation.{VerilogSimulation}
use Rattle.fir_words.specs.Commands.{Command, Simulated, SimulatedVerilog, check, emit, sim, simulation_of, verilog_simulation_of, vsim}

abbrev pub simulated : Simulation → Simulated
simulated s = simulation_of s.circuit.now s.trace.now s.with_state

abbrev pub verilog_simulated : VerilogSimulation → SimulatedVerilog
verilog_simulated s = verilog_simulation_of s.verilog.now s.trace.now s.with_state s.order

abbrev pub commanded : CommandOfCode → Command
commanded (code.Check name) = check name.now
commanded (code.Emit name) = emit name.now
commanded (code.Sim s) = sim (simulated s)
commanded (code.Vsim s) = vsim (verilog_simulated s)
