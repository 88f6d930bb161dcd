-- Where a value is in the tree of a net: a number, or the low bits of a net, extended by the value's sign.
use Rattle.std.specs.Prelude.{ℕ, List, ◌^◌, ◌%◌, min, nat_eq, if◌then◌else◌, Bool, false, Option, Some, None}
use Rattle.fir_bits.specs.Values.{BitVector, extended, fitted}
use Rattle.fir_bits.specs.declared.values.Num.{Num}
use Rattle.fir_base.specs.Ticks.{Env}
use Rattle.ver_build.specs.declared.held.Part.{Part}
use Rattle.ver_build.specs.declared.held.Source.{Source}
use Rattle.ver_build.specs.declared.held.Source.TheVariants as source
use Rattle.ver_build.specs.declared.held.Held.{Held}

-- the number of no bits
abbrev pub empty : BitVector
empty = record { width = 0; number = 0 }

-- the value of no bits
abbrev pub no_bits : Held
no_bits = record { signed = false; width = 0; source = source.Number empty }

-- all bits of the net of that name and width
abbrev pub whole_net : List ℕ → Bool → ℕ → Held
whole_net name signed w = record { signed = signed; width = w; source = source.Net (record { name = name; own = w; kept = w }) }

-- a value that has a net of its own, where it has bits
abbrev pub own_held : Bool → ℕ → Option (List ℕ) → Held
own_held signed w None = record { signed = signed; width = w; source = source.Number empty }
own_held signed w (Some name) = whole_net name signed w

abbrev pub held_literal : Num → Held
held_literal v = record { signed = v.signed; width = v.value.width; source = source.Number v.value }

-- the low bits that count where no more than w do
abbrev pub cut : ℕ → Part → Part
cut w p = record { name = p.name; own = p.own; kept = min p.kept w }

-- a number at a width; no value has more than 128 bits
abbrev pub fit_number : Bool → ℕ → BitVector → BitVector
fit_number signed w v = let to = min w 128 in record { width = to; number = fitted signed v.width v.number to }

abbrev pub fit_source : Bool → ℕ → Source → Source
fit_source signed w (source.Number v) = source.Number (fit_number signed w v)
fit_source signed w (source.Net p) = if nat_eq w 0 then source.Number empty else source.Net (cut w p)

-- a value at a width: extended by its own sign, or cut to its low bits
abbrev pub fit : ℕ → Held → Held
fit w h = record { signed = h.signed; width = w; source = fit_source h.signed w h.source }

-- the number of a value, where the nets have these
abbrev pub source_number : Env → Bool → ℕ → Source → ℕ
source_number env signed width (source.Number v) = v.number
source_number env signed width (source.Net p) = extended signed p.kept (env p.name % 2 ^ p.kept) width

abbrev pub held_number : Env → Held → ℕ
held_number env h = source_number env h.signed h.width h.source
