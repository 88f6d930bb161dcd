-- Terms and roles of a net over other leaf numbers: those of a module, in the circuit of a design that it stands in (FIRRTL spec, "Instances").
use Rattle.std.specs.Prelude.{ℕ, option_map}
use Rattle.fir_meaning.specs.working.Numberings.{Numbering, moved_reading, number}
use Rattle.fir_connect.specs.working.NetRoles.{NetReset, NetRole, computed, driven, pipe, reading, register, source}
use Rattle.fir_connect.specs.working.NetTerms.{NetTerm, NetTerms, leaf, mux, no_terms, operation, term, value}

module _ (f : ℕ → ℕ) where
  abbrev mutual
    pub renumbered : NetTerm → NetTerm
    renumbered (value v) = value v
    renumbered (leaf x) = leaf (f x)
    renumbered (operation op ts ks t) = operation op (renumbered_each ts) ks t
    renumbered (mux c a b t) = mux (renumbered c) (renumbered a) (renumbered b) t

    pub renumbered_each : NetTerms → NetTerms
    renumbered_each no_terms = no_terms
    renumbered_each (term t ts) = term (renumbered t) (renumbered_each ts)

  abbrev pub renumbered_reset : NetReset → NetReset
  renumbered_reset r = record { is_async = r.is_async; condition = renumbered r.condition; init = renumbered r.init }

-- by where the module's leaves stand, and with the number of its first array
abbrev pub moved_net_role : Numbering → ℕ → NetRole → NetRole
moved_net_role n array source = source
moved_net_role n array (driven d) = driven (renumbered (number n) d)
moved_net_role n array (computed d) = computed (renumbered (number n) d)
moved_net_role n array (register clock reset d) =
    register (renumbered (number n) clock) (option_map (renumbered_reset (number n)) reset) (renumbered (number n) d)
moved_net_role n array (reading r) = reading (moved_reading n array r)
moved_net_role n array (pipe r clock under) = pipe (moved_reading n array r) (number n clock) under
