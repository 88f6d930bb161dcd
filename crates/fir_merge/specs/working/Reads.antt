-- What bounds of values stand for that are read behind dynamic indices.
use Rattle.std.specs.Prelude.{ℕ, Bool, List, []}
use Rattle.fir_bits.specs.Forms.{no_type}
use Rattle.fir_bits.specs.declared.operators.PrimOp.TheVariants.{Orr}
use Rattle.fir_bits.specs.declared.types.NumTy.{NumTy}
use Rattle.fir_meaning.specs.working.TermValues.{Holds}
use Rattle.fir_meaning.specs.working.Terms.{Picks, absent, read}
use Rattle.fir_net.specs.declared.node.Node.{Node}
use Rattle.fir_connect.specs.working.Lowered.{Candidate, result, without, zero_of}
use Rattle.fir_connect.specs.working.NetTerms.{NetTerm, no_terms, term}
use Rattle.fir_merge.specs.declared.bound.Bound.{Bound}
use Rattle.fir_merge.specs.declared.elements.Element.{Element}
use Rattle.fir_merge.specs.declared.index.Index.{Index}
use Rattle.fir_merge.specs.working.Bounds.{StandsFor, types_in}
use Rattle.fir_merge.specs.working.Elements.{ElementsStand}
use Rattle.fir_merge.specs.working.Entries.{IndicesStand}
use Rattle.fir_merge.specs.working.Made.{chosen_by, first_met_from, index_terms, made}

abbrev pub ReadStands : List Node → List Node → List NumTy → ℕ → List Index → Bound → Bound → Type 0
ReadStands old new types leaf indices nothing r =
    (ps : Picks) → StandsFor (types_in types) old nothing (zero_of no_type) → IndicesStand (types_in types) old indices ps
    → StandsFor (types_in types) new r (made (types_in types) (read leaf ps))

abbrev pub AbsentStands : List Node → List Node → Bool → ℕ → List Index → Bound → Bound → Type 0
AbsentStands old new signed width indices nothing r =
    (holds : Holds) (ps : Picks) → StandsFor holds old nothing (zero_of no_type) → IndicesStand holds old indices ps
    → StandsFor holds new r (made holds (absent (record { signed = signed; width = width }) ps))

abbrev pub ChosenStands : List Node → List Node → List Index → Bound → Bound → Type 0
ChosenStands old new indices value r =
    (holds : Holds) (ps : Picks) (t : NetTerm) → StandsFor holds old value t → IndicesStand holds old indices ps
    → StandsFor holds new r (chosen_by holds (index_terms holds ps) t t)

abbrev pub FirstMetStands : List Node → List Node → NumTy → ℕ → List Element → Bound → Bound → Type 0
FirstMetStands old new ty leaf elements other r =
    (holds : Holds) (cs : List Candidate) (t : NetTerm) → StandsFor holds old other t → ElementsStand holds old elements cs
    → StandsFor holds new r (first_met_from holds leaf ty t cs)

-- whether any bit of an index is 1
abbrev pub AnyStands : List Node → List Node → Index → Bound → Type 0
AnyStands old new index r =
    (holds : Holds) (i : NetTerm) → StandsFor holds old index.bound i → StandsFor holds new r (result holds Orr (term i no_terms) [])

-- what is read where no condition is met
abbrev pub UnpickedStands : List Node → List Node → List Index → List Element → Bound → Bound → Type 0
UnpickedStands old new indices elements zero r =
    (holds : Holds) (ps : Picks) (cs : List Candidate) (z : NetTerm) → StandsFor holds old zero z → IndicesStand holds old indices ps
    → ElementsStand holds old elements cs → StandsFor holds new r (without holds cs (chosen_by holds (index_terms holds ps) z z) z)
