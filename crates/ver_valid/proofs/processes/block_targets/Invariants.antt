use Rattle.std.proofs.Common.{◌≡◌, ◌++◌, map, drop}
use Rattle.ver_valid.proofs.processes.block_targets.Given as goal

abbrev pub invariant-loop-block : goal.invariant-loop-block
invariant-loop-block l = map (λ n. n.now) l.names.items ++ map (λ b. b.target) (map (λ b. b.now) (drop l.block-index l.blocks)) ≡ map (λ b. b.target) (map (λ b. b.now) l.blocks)
