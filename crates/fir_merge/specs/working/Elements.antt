-- What bounds of elements stand for that dynamic indices may pick.
use Rattle.std.specs.Prelude.{◌≡◌, ℕ, List, [], ◌∷◌, ◌++◌, length, Option}
use Rattle.fir_meaning.specs.working.TermValues.{Holds}
use Rattle.fir_net.specs.declared.node.Node.{Node}
use Rattle.fir_connect.specs.working.Lowered.{Candidate}
use Rattle.fir_connect.specs.working.NetTerms.{NetTerm}
use Rattle.fir_merge.specs.declared.bound.Bound.{Bound}
use Rattle.fir_merge.specs.declared.elements.Element.{Element}
use Rattle.fir_merge.specs.declared.index.Index.{Index}
use Rattle.fir_merge.specs.working.Bounds.{StandsFor}
use Rattle.fir_merge.specs.working.Conditions.{EarlierStands}
use Rattle.fir_merge.specs.working.Made.{further, further_each}
use Rattle.fir_merge.specs.working.NodeTerms.{Grows, IsBelow}

-- one by one
abbrev pub ElementsStand : Holds → List Node → List Element → List Candidate → Type 0
ElementsStand holds net [] [] = Unit {0}
ElementsStand holds net (e ∷ es) (c ∷ cs) = (e.offset ≡ c.number) × StandsFor holds net e.condition c.condition × ElementsStand holds net es cs
ElementsStand holds net _ _ = ⊥

abbrev pub ElementsBelow : ℕ → List Element → Type 0
ElementsBelow n [] = Unit {0}
ElementsBelow n (e ∷ es) = IsBelow n e.condition.read × ElementsBelow n es

-- those of one more index are put behind others
pub record AddsElements (old new : List Node) (earlier : Option Bound) (first : ℕ) (index : Index) (before after : List Element) : Type 0 where
  pub grows : Grows old new
  pub added : List Element
  pub is : after ≡ before ++ added
  pub below : ElementsBelow (length new) added
  pub stand : (holds : Holds) (e : Option NetTerm) (i : NetTerm) → EarlierStands holds old earlier e → StandsFor holds old index.bound i
      → ElementsStand holds new added (further e first i index.stride 0 index.length)

-- behind each element those of one more index
pub record AddsFurther (old new : List Node) (found : List Element) (index : Index) (es : List Element) : Type 0 where
  pub grows : Grows old new
  pub below : ElementsBelow (length new) es
  pub stand : (holds : Holds) (cs : List Candidate) (i : NetTerm) → ElementsStand holds old found cs → StandsFor holds old index.bound i
      → ElementsStand holds new es (further_each i index.stride index.length cs)
