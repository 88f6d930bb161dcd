-- Items that lack a value, as the simulator finds them by number.
use Rattle.std.specs.Prelude.{ℕ, List, [], ◌∷◌, Bool, true, false, not, ◌&&◌, ◌==◌, nat_lt, is_none, if◌then◌else◌, Option, Some, None}
use Rattle.std.specs.List.{list_any}
use Rattle.fir_base.specs.Ticks.{rises}
use Rattle.ver_ast.specs.declared.place.VPlace.{VPlace}
use Rattle.ver_ast.specs.declared.tree.Rhs.{Rhs}
use Rattle.ver_ast.specs.declared.tree.Rhs.TheVariants as rhs
use Rattle.ver_ast.specs.declared.tree.BinaryOp.TheVariants as binary
use Rattle.ver_ast.specs.declared.tree.SignedOp.TheVariants as signed
use Rattle.ver_sim.specs.declared.blocks.WriteTask.{WriteTask}
use Rattle.ver_sim.specs.declared.lacking.Check.{Check}
use Rattle.ver_sim.specs.declared.lacking.Lack.{Lack}
use Rattle.ver_sim.specs.declared.lacking.Lack.TheVariants as lack
use Rattle.ver_sim.specs.working.Operands.{operand_number}
use Rattle.ver_sim.specs.working.Works.{work_number}

-- which right sides can lack a value
abbrev pub can_lack : Rhs → Bool
can_lack (rhs.Binary a binary.Div b) = true
can_lack (rhs.Binary a binary.Rem b) = true
can_lack (rhs.Signed a signed.Div b) = true
can_lack (rhs.Signed a signed.Rem b) = true
can_lack (rhs.Word m a) = true
can_lack _ = false

-- by number
abbrev pub write_lacks : List ℕ → WriteTask → Bool
write_lacks values w = operand_number values w.condition == 1 && not (nat_lt (operand_number values w.index) w.depth)

abbrev pub lacks : List ℕ → List ℕ → List ℕ → Lack → Bool
lacks state named values (lack.Side work) = is_none (work_number work state values)
lacks state named values (lack.Writes clock writes) = rises named clock && list_any (write_lacks values) writes.items

-- the place of the first check of which something lacks a value
abbrev pub lacking_place : List ℕ → List ℕ → List ℕ → List Check → Option VPlace
lacking_place state named values [] = None
lacking_place state named values (c ∷ cs) = if lacks state named values c.lack then Some c.place else lacking_place state named values cs
