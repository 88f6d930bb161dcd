-- What is declared before a statement, or inside a when, begins what is declared in the whole.
use Rattle.std.proofs.Common.{◌≡◌, subst}
use Rattle.fir_ast.specs.declared.place.Place.{Place}
use Rattle.fir_ast.specs.Expressions.{Expression}
use Rattle.fir_ast.specs.Statements.{Statement, when, Block}
use Rattle.fir_meaning.specs.Components.{Declarations}
use Rattle.fir_meaning.specs.Visibility.{Before, opened, reopened, behind, behind_block}
use Rattle.fir_names.proofs.BehindStatements.{adds_block}
use Rattle.fir_types.specs.working.Walked.{Begins}
use Rattle.fir_types.proofs.KnownScopes.{begins_before}

pub begins_by : (before : Before) (whole : Declarations) (s t : Statement) → s ≡ t → Begins (behind before s).declared whole → Begins (behind before t).declared whole
begins_by before whole s t is b = subst (λ u. Begins (behind before u).declared whole) is b

module _ (before : Before) (p : Place) (c : Expression) (a b : Block) where
  abbrev between : Before
  between = reopened before (behind_block (opened before) a)

  pub second_begins : (all : Declarations) → Begins (behind before (when p c a b)).declared all → Begins (behind_block between b).declared all
  second_begins all g = g

  pub first_begins : (all : Declarations) → Begins (behind before (when p c a b)).declared all → Begins (behind_block (opened before) a).declared all
  first_begins all g =
      let x = adds_block between b in begins_before all (behind_block (opened before) a).declared x.added (subst (λ ds. Begins ds all) x.declared g)

  pub condition_begins : (all : Declarations) → Begins (behind before (when p c a b)).declared all → Begins before.declared all
  condition_begins all g =
      let x = adds_block (opened before) a in begins_before all before.declared x.added (subst (λ ds. Begins ds all) x.declared (first_begins all g))
