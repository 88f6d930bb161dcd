-- Whether a leaf is a pipe, as the code asks.
use Rattle.std.specs.Prelude.{List, Bool, true, false}
use Rattle.std.specs.List.{list_any}
use Rattle.fir_net.specs.declared.leaf.Leaf.{Leaf}
use Rattle.fir_net.specs.declared.leaf.Role.{Role}
use Rattle.fir_net.specs.declared.leaf.Role.TheVariants as role

abbrev pub is_pipe : Role → Bool
is_pipe (role.Pipe p) = true
is_pipe _ = false

abbrev pub has_pipes : List Leaf → Bool
has_pipes = list_any (λ l. is_pipe l.role)
