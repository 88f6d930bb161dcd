-- What is not put to holds what it held.
use Rattle.std.proofs.Common.{◌≡◌, ℕ, List, [], ◌++◌, Option, Some, None, refl, sym, ap, append-nil}
use Rattle.std.specs.Prelude.{option_map}
use Rattle.fir_io.specs.Ports.{SinkSeen, Kept}

held_same : (o : Option (List ℕ)) → o ≡ option_map (λ held. held ++ []) o
held_same None = refl
held_same (Some held) = ap Some (sym (append-nil held))

pub kept_same : (o : SinkSeen) → Kept o o
kept_same o = held_same o.held
