use Rattle.std.proofs.Common.{◌≡◌, ◌++◌, ◌∷◌, drop, flat_map}
use Rattle.fir_infer_resets.specs.working.PathKeys.{key_byte}
use Rattle.fir_infer_resets.proofs.key.put_name.Given as goal

abbrev pub invariant-loop-byte : goal.invariant-loop-byte
invariant-loop-byte l = l.out.items ++ flat_map key_byte (drop l.byte-index l.byte-items) ≡ l.fn.out.items ++ 1 ∷ flat_map key_byte l.name
