-- The statements of a module in the order of the text, each with what stands before it and the branches of whens in which it stands (FIRRTL spec,
-- "Conditionals", "Conditional Scopes").
-- A statement is named by its way in the block: true goes to what follows, and into the second block of a when.
use Rattle.std.specs.Prelude.{List, [], ◌∷◌, ◌++◌, Bool, true, false}
use Rattle.fir_ast.specs.Circuits.{ModuleTree}
use Rattle.fir_ast.specs.Expressions.{Expression}
use Rattle.fir_ast.specs.Statements.{Block, Statement, done, then, when}
use Rattle.fir_meaning.specs.ModuleScenes.{behind_all_ports}
use Rattle.fir_meaning.specs.Visibility.{Before, behind, behind_block, opened, reopened}

-- a block of a when: the way of the when, and its condition with what stands before it. The first block is taken where the condition is 1
pub record Branch : Type 0 where
  pub way : List Bool
  pub before : Before
  pub condition : Expression
  pub is_first : Bool

-- a statement, with the branches round it, outermost first
pub record Visit : Type 0 where
  pub way : List Bool
  pub before : Before
  pub under : List Branch
  pub statement : Statement

abbrev pub branch : List Bool → Before → Expression → Bool → Branch
branch way before c is_first = record { way = way; before = before; condition = c; is_first = is_first }

abbrev pub visit : List Bool → Before → List Branch → Statement → Visit
visit way before under s = record { way = way; before = before; under = under; statement = s }

-- a when stands before what is in its blocks
abbrev mutual
  pub visits : List Bool → Before → List Branch → Statement → List Visit
  visits way before under (when p c a b) =
      visit way before under (when p c a b)
      ∷ visits_in (way ++ false ∷ []) (opened before) (under ++ branch way before c true ∷ []) a
      ++ visits_in (way ++ true ∷ []) (reopened before (behind_block (opened before) a)) (under ++ branch way before c false ∷ []) b
  visits way before under s = visit way before under s ∷ []

  pub visits_in : List Bool → Before → List Branch → Block → List Visit
  visits_in way before under done = []
  visits_in way before under ((then) s b) = visits (way ++ false ∷ []) before under s ++ visits_in (way ++ true ∷ []) (behind before s) under b

abbrev pub module_visits : ModuleTree → List Visit
module_visits m = visits_in [] (behind_all_ports m) [] m.body
