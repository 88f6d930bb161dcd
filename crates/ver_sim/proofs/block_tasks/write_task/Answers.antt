use Rattle.std.proofs.Common.{ap}
use Rattle.ver_sim.specs.declared.declarations.Span.{Span}
use Rattle.ver_sim.proofs.ProcessTasks.{array_named}
use Rattle.ver_sim.proofs.block_tasks.write_task.Goals as goal

pub returns : goal.returns
returns c v k s =
    let span = c.span-span.ensures v k (array_named v s.array s.is_array c.args.write.now.array s.named) in
    record {
      base_is = ap (λ (x : Span). x.base) span;
      depth_is = ap (λ (x : Span). x.depth) span;
      condition_is = (c.in_ok-condition.ensures v k s.condition_wide.operand.sound).operand_is;
      index_is = (c.in_ok-index.ensures v k s.index_sound.sound).operand_is;
      source_is = (c.in_ok-source.ensures v k s.source_wide.operand.sound).operand_is;
    }
