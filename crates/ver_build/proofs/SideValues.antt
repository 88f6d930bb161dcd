-- The values of right sides that read no array: such a value hangs on no store.
use Rattle.std.proofs.Common.{◌≡◌, ℕ, List, [], refl}
use Rattle.std.specs.Prelude.{Option}
use Rattle.fir_base.specs.Ticks.{Env}
use Rattle.ver_ast.specs.declared.tree.Rhs.{Rhs}
use Rattle.ver_ast.specs.declared.tree.Rhs.TheVariants as rhs
use Rattle.ver_ast.specs.Nets.{SizedNet, Variable}
use Rattle.ver_ast.specs.Stores.{Store}
use Rattle.ver_ast.specs.SideValues.{rhs_value}
use Rattle.ver_ast.specs.SoundSides.{IsSoundSide}

abbrev pub no_words : Store
no_words name = []

abbrev pub side_value : List SizedNet → Env → ℕ → Rhs → Option ℕ
side_value nets env w r = rhs_value nets no_words env w r

pub same_side : (sizes nets : List SizedNet) (store : Store) (env : Env) (w u : ℕ) (r : Rhs) → IsSoundSide sizes [] w r
    → rhs_value nets store env u r ≡ side_value nets env u r
same_side sizes nets store env w u (rhs.Word m a) sound = absurd sound.widths.1
same_side sizes nets store env w u r sound = refl

-- it is sound beside any arrays
pub sound_beside : (sizes : List SizedNet) (arrays : List Variable) (w : ℕ) (r : Rhs) → IsSoundSide sizes [] w r → IsSoundSide sizes arrays w r
sound_beside sizes arrays w (rhs.Word m a) sound = absurd sound.widths.1
sound_beside sizes arrays w (rhs.Atom a) sound = record { operands = sound.operands; widths = sound.widths }
sound_beside sizes arrays w (rhs.Unary o a) sound = record { operands = sound.operands; widths = sound.widths }
sound_beside sizes arrays w (rhs.Binary a o b) sound = record { operands = sound.operands; widths = sound.widths }
sound_beside sizes arrays w (rhs.Signed a o b) sound = record { operands = sound.operands; widths = sound.widths }
sound_beside sizes arrays w (rhs.SignedShift a b) sound = record { operands = sound.operands; widths = sound.widths }
sound_beside sizes arrays w (rhs.Conditional c a b) sound = record { operands = sound.operands; widths = sound.widths }
