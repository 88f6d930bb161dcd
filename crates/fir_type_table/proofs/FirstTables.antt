-- The table of the types that have an id in every table.
use Rattle.std.proofs.Common.{◌≡◌, ℕ, List, [], ◌∷◌, take, refl, sym, ap, subst}
use Rattle.std.specs.Prelude.{Some, None}
use Rattle.std.specs.List.{AllByRecursion}
use Rattle.fir_base.proofs.Elements.{all_there}
use Rattle.fir_ast.specs.Types.{DataType}
use Rattle.fir_type_table.specs.declared.kind.Kind.TheVariants as kind
use Rattle.fir_type_table.specs.declared.entry.Entry.{Entry}
use Rattle.fir_type_table.specs.working.Tables.{types_of}
use Rattle.fir_type_table.specs.working.Fits.{FitsAt, IsTable, grounds}

abbrev pub AlwaysFits : Entry → Type 0
AlwaysFits e = (ts : List DataType) (i : ℕ) → FitsAt ts i e

pub types_at_first : (a b c d e f : Entry) → a.kind ≡ kind.UInt None → b.kind ≡ kind.SInt None → c.kind ≡ kind.Clock → d.kind ≡ kind.Reset
    → e.kind ≡ kind.AsyncReset → f.kind ≡ kind.UInt (Some 1) → types_of (a ∷ b ∷ c ∷ d ∷ e ∷ f ∷ []) ≡ grounds
types_at_first a b c d e f ka kb kc kd ke kf = rw (ka, kb, kc, kd, ke, kf) refl

pub first_is_table : (es : List Entry) (a b c d e f : Entry) → es ≡ a ∷ b ∷ c ∷ d ∷ e ∷ f ∷ [] → types_of (a ∷ b ∷ c ∷ d ∷ e ∷ f ∷ []) ≡ grounds
    → AllByRecursion AlwaysFits (a ∷ b ∷ c ∷ d ∷ e ∷ f ∷ []) → IsTable es
first_is_table es a b c d e f is types fits = subst IsTable (sym is) (record {
  begins = ap (take 6) types;
  each = λ i x at. all_there AlwaysFits (a ∷ b ∷ c ∷ d ∷ e ∷ f ∷ []) fits i x at (types_of (a ∷ b ∷ c ∷ d ∷ e ∷ f ∷ [])) i;
})
