-- What the code's scope tells of the names of a tree.
use Rattle.std.specs.Prelude.{◌≡◌, ℕ, List, ◌++◌, Option, Some, None, Result, Ok, Err, ◌⊎◌}
use Rattle.std.specs.Str.{bytes_eq}
use Rattle.indexmap.specs.IndexMap.{get_by}
use Rattle.fir_base.specs.Lists.{In, Distinct}
use Rattle.fir_base.specs.declared.refused.Refused.{Refused}
use Rattle.ver_ast.specs.declared.tree.Verilog.{Verilog}
use Rattle.ver_ast.specs.Nets.{SizedNet, Variable, arrays, wires, output_nets, output_clocks}
use Rattle.ver_valid.specs.declared.declared.Declared.{Declared}
use Rattle.ver_valid.specs.declared.misfit.Misfit.{Misfit}
use Rattle.ver_valid.specs.declared.scope.Scope.{Scope}
use Rattle.ver_valid.specs.declared.scope.Target.{Target}
use Rattle.ver_valid.specs.declared.scope.Target.TheVariants.{Clock, Net}
use Rattle.ver_valid.specs.working.Judgement.{Denies}
use Rattle.ver_valid.specs.working.Declarations.{Entry, entries, entry_names, kind_among, IsNarrowKind}

-- what the scope has under a name
abbrev pub found : Scope → List ℕ → Option Declared
found scope name = get_by (λ known. bytes_eq name known.items) scope.names

pub record TellsOf (scope : Scope) (es : List Entry) : Type 0 where
  pub by_name : (n : List ℕ) → found scope n ≡ kind_among es n
  pub once : Distinct (entry_names es)
  pub narrow : (e : Entry) → In es e → IsNarrowKind e.1

-- the scope has the names of the tree, each declared once, with a width that it can have
abbrev pub Tells : Scope → Verilog → Type 0
Tells scope v = TellsOf scope (entries v)

-- each name is declared once, with a width that it can have
pub record IsFine (v : Verilog) : Type 0 where
  pub once : Distinct (entry_names (entries v))
  pub narrow : (e : Entry) → In (entries v) e → IsNarrowKind e.1

-- an array of that name, with words of so many bits
abbrev pub HasArray : Verilog → List ℕ → ℕ → Type 0
HasArray v name w = (k : Variable) × In (arrays v) k × (k.name ≡ name) × (k.width ≡ w)

-- what a name is declared as, if it is
abbrev pub Finds : Result Declared (Refused Misfit) → Option Declared → Type 0
Finds (Ok d) o = o ≡ Some d
Finds (Err e) o = o ≡ None

abbrev pub driven_nets : Verilog → List SizedNet
driven_nets v = wires v ++ output_nets v

-- what an assign to a name drives: a clock output, or a wire or an output
abbrev pub GivesTarget : Result Target (Refused Misfit) → Verilog → List ℕ → Type 0
GivesTarget (Ok Clock) v n = In (output_clocks v) n × ((w : ℕ) → In (driven_nets v) (n, w) → ⊥)
GivesTarget (Ok (Net w)) v n = In (driven_nets v) (n, w) × ((u : ℕ) → In (driven_nets v) (n, u) → u ≡ w) × (In (output_clocks v) n → ⊥)
GivesTarget (Err e) v n = Denies e (In (output_clocks v) n ⊎ ((w : ℕ) × In (driven_nets v) (n, w)))
