-- Where a module's leaves stand among those of the whole design: those of its ports from one number on, its other leaves from another (FIRRTL spec,
-- "Instances").
-- The leaves of an instance's ports are leaves of the module that holds it; so a port and its instance's port are one leaf. Terms, roles and what writes an
-- array are moved with the leaves that they speak of.
use Rattle.std.specs.Prelude.{ℕ, ◌+◌, ◌-◌, map, nat_lt, if◌then◌else◌, option_map}
use Rattle.fir_meaning.specs.working.Terms.{Term, zeros, absent, literal, read, operation, mux, validif, Picks, no_picks, pick, Terms, no_terms, term}
use Rattle.fir_meaning.specs.working.LeafModules.{LeafModule, LeafReset, Need, Reading, Role, Writing, computed, pipe, reading, register, sink, source}

-- how many leaves the ports have, the number of the first of them, and that of the first of the others
pub record Numbering : Type 0 where
  pub ports : ℕ
  pub first : ℕ
  pub own : ℕ

abbrev pub numbering : LeafModule → ℕ → ℕ → Numbering
numbering m first free = record { ports = m.port_leaves; first = first; own = free }

abbrev pub number : Numbering → ℕ → ℕ
number n x = if nat_lt x n.ports then n.first + x else n.own + (x - n.ports)

module _ (n : Numbering) where
  abbrev mutual
    pub moved : Term → Term
    moved zeros = zeros
    moved (absent t ps) = absent t (moved_picks ps)
    moved (literal l) = literal l
    moved (read b ps) = read (number n b) (moved_picks ps)
    moved (operation op ts ks) = operation op (moved_terms ts) ks
    moved (mux c a b) = mux (moved c) (moved a) (moved b)
    moved (validif c a) = validif (moved c) (moved a)

    -- an index counts elements as before
    pub moved_picks : Picks → Picks
    moved_picks no_picks = no_picks
    moved_picks (pick ps p i k each) = pick (moved_picks ps) p (moved i) k each

    pub moved_terms : Terms → Terms
    moved_terms no_terms = no_terms
    moved_terms (term t ts) = term (moved t) (moved_terms ts)

  abbrev pub moved_need : Need → Need
  moved_need x = record { leaf = number n x.leaf; high = x.high }

  abbrev pub moved_reset : LeafReset → LeafReset
  moved_reset r = record { is_async = r.is_async; condition = moved r.condition; init = moved r.init }

  abbrev pub moved_writing : Writing → Writing
  moved_writing w =
      record { address = number n w.address; needs = map moved_need w.needs; clock = number n w.clock; given = number n w.given }

  -- with the number of the module's first array
  module _ (arrays : ℕ) where
    abbrev pub moved_reading : Reading → Reading
    moved_reading r = record { array = arrays + r.array; address = number n r.address; needs = map moved_need r.needs }

    -- the role in the design of a leaf that is no port of this module; a source among these is what an instance gives, and that is driven in the instance
    abbrev pub moved_role : Role → Role
    moved_role source = sink
    moved_role sink = sink
    moved_role (computed t) = computed (moved t)
    moved_role (register c r) = register (moved c) (option_map moved_reset r)
    moved_role (reading r) = reading (moved_reading r)
    moved_role (pipe r clock under) = pipe (moved_reading r) (number n clock) under
