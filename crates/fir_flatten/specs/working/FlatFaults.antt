-- The faults for which a circuit has no flat net: of its clocks (E25), behind these of the clocks of its memories (E26), and behind these of asynchronous inits
-- (E27).
use Rattle.std.specs.Prelude.{◌≡◌, ◌⊎◌}
use Rattle.fir_ast.specs.Circuits.{CircuitTree}
use Rattle.fir_ast.specs.Faults.{E25, E26, E27, Fault}
use Rattle.fir_pass.specs.Groups.{IsClear}
use Rattle.fir_meaning.specs.SourceClocks.{clock_group}
use Rattle.fir_meaning.specs.SourceInits.{init_group}
use Rattle.fir_meaning.specs.SourceMemoryClocks.{memory_clock_group}

pub record ShowsNone (c : CircuitTree) : Type 0 where
  pub clocks : IsClear (clock_group c)
  pub memories : IsClear (memory_clock_group c)
  pub inits : IsClear (init_group c)

-- the first of its clocks
pub record TellsClock (c : CircuitTree) (f : Fault) : Type 0 where
  pub code : f.code ≡ E25
  pub told : (clock_group c).tells f
  pub shown : (clock_group c).shows f

-- or, where these show none, the first of the clocks of its memories
pub record TellsMemory (c : CircuitTree) (f : Fault) : Type 0 where
  pub code : f.code ≡ E26
  pub clear : IsClear (clock_group c)
  pub told : (memory_clock_group c).tells f
  pub shown : (memory_clock_group c).shows f

-- or, where these show none either, any of an init
pub record TellsInit (c : CircuitTree) (f : Fault) : Type 0 where
  pub code : f.code ≡ E27
  pub clear : IsClear (clock_group c)
  pub memories : IsClear (memory_clock_group c)
  pub shown : (init_group c).shows f

abbrev pub TellsFirst : CircuitTree → Fault → Type 0
TellsFirst c f = TellsClock c f ⊎ TellsMemory c f ⊎ TellsInit c f
