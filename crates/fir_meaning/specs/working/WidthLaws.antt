-- Laws about widths that are not written.
use Rattle.std.specs.Prelude.{◌≡◌, ◌↔◌, ℕ, ◌≤◌, List, [], Some}
use Rattle.fir_base.specs.Lists.{In}
use Rattle.fir_ast.specs.Types.{DataType}
use Rattle.fir_ast.specs.Expressions.{Expression}
use Rattle.fir_ast.specs.Circuits.{ModuleTree, CircuitTree}
use Rattle.fir_ast.specs.Faults.{Fault}
use Rattle.fir_meaning.specs.Components.{Declarations}
use Rattle.fir_meaning.specs.TypeKinds.{bare}
use Rattle.fir_meaning.specs.ExpressionTypes.{expression_type}
use Rattle.fir_meaning.specs.ComponentTypes.{typed_scope}
use Rattle.fir_meaning.specs.WidthExpressions.{Widths, Width, width_under, Rule, MeetsRules, IsLeastOf}
use Rattle.fir_meaning.specs.SizedTypes.{bare_type, numbered, renumbered}
use Rattle.fir_meaning.specs.SizedScopes.{sized_type}
use Rattle.fir_meaning.specs.SizedDeclarations.{Numbering, numbered_behind}
use Rattle.fir_meaning.specs.WidthRules.{rules, AreWidths}
use Rattle.fir_meaning.specs.OverFaults.{over_faults}
use Rattle.fir_meaning.specs.LegalFaults.{legal_faults}
use Rattle.fir_meaning.specs.ResetWalks.{ShowsResets}
use Rattle.fir_meaning.specs.working.WidthGroups.{IsInferred}
use Rattle.fir_meaning.specs.working.InferredTypes.{inferred}

-- wider unknowns never make an expression narrower
abbrev pub WidthsGrow : Type 0
WidthsGrow = (e : Width) (w v : Widths) → ((k : ℕ) → w k ≤ v k) → width_under e w ≤ width_under e v

-- rules have a least assignment
abbrev pub HasLeast : Type 0
HasLeast = (rules : List Rule) → (w : Widths) × IsLeastOf rules w

-- and one at most
abbrev pub OneLeast : Type 0
OneLeast = (rules : List Rule) (w v : Widths) → IsLeastOf rules w → IsLeastOf rules v → (k : ℕ) → w k ≡ v k

-- each of these expressions is within 128 bits
abbrev pub AllWithin : List Width → Widths → Type 0
AllWithin es w = (e : Width) → In es e → width_under e w ≤ 128

-- some assignment that meets all rules keeps these expressions within 128 bits exactly where the least one does
abbrev pub LeastIsWithin : Type 0
LeastIsWithin = (rules : List Rule) (es : List Width) (w : Widths) → IsLeastOf rules w → ((v : Widths) × MeetsRules rules v × AllWithin es v) ↔ AllWithin es w

-- under the least assignment nothing is over exactly where under some assignment that meets the rules nothing is
abbrev pub OverIsExact : Type 0
OverIsExact =
    (c : CircuitTree) (w : Widths) → AreWidths c w → ((v : Widths) × MeetsRules (rules c) v × (over_faults c v ≡ [])) ↔ (over_faults c w ≡ [])

-- where an expression has a type, its sized type is the same without widths, in the scopes of the same declarations
abbrev pub SizedAsTyped : Type 0
SizedAsTyped =
    (modules : List ModuleTree) (numbers : Numbering) (ds : Declarations) (e : Expression) (t : DataType) → numbers.scope ≡ []
    → (expression_type (typed_scope modules ds) e).has ≡ Some t → bare_type (sized_type (numbered_behind modules numbers ds).scope e) ≡ bare t

-- and a node of it has the leaves of that type, without the widths that are found anew
abbrev pub NodesAsInferred : Type 0
NodesAsInferred =
    (modules : List ModuleTree) (numbers : Numbering) (ds : Declarations) (e : Expression) (t : DataType) → numbers.scope ≡ []
    → (expression_type (typed_scope modules ds) e).has ≡ Some t
    → (k : ℕ) → renumbered k (sized_type (numbered_behind modules numbers ds).scope e) ≡ numbered (Some k) (inferred t)

-- under the widths of a circuit nothing is over 128 bits, and all that stands there is legal
pub record FitsAll (c : CircuitTree) : Type 0 where
  pub widths : Widths
  pub are : AreWidths c widths
  pub over : over_faults c widths ≡ []
  pub legal : legal_faults c widths ≡ []

-- no fault of resets or widths stands in a circuit exactly where no walk joins a UInt and an AsyncReset through Resets, each width is within 128 bits, and
-- all is legal
abbrev pub InferredExactly : Type 0
InferredExactly = (c : CircuitTree) → IsInferred c ↔ (((f : Fault) → ShowsResets c f → ⊥) × FitsAll c)
