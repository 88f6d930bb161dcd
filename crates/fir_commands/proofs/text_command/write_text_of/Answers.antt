use Rattle.fir_commands.proofs.TextEnded.{refused_told, memory_said}
use Rattle.fir_commands.proofs.text_command.write_text_of.Goals as goal

pub returns-in-Err-Fault : goal.returns-in-Err-Fault
returns-in-Err-Fault g c = refused_told g.C.TextCommand.says _ _ _ _ _ _ (rw c.in-Err-Fault.field-0-is at c.in-Err-Fault.ensures) c.say_fault.ensures

pub returns-in-Err-Memory : goal.returns-in-Err-Memory
returns-in-Err-Memory g c = memory_said g.C.TextCommand.says _ _ _ _ _ c.say.ensures
