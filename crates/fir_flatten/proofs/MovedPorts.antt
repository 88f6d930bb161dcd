-- What ports of memories read and write, where their module is put into the whole design: they stand for the same over its numbers.
use Rattle.std.proofs.Common.{◌≡◌, ℕ, ◌+◌, ◌<◌, List, [], ◌∷◌, length, map, Bool, false, Option, Some, None, refl, sym, ap, ◌∙◌, subst}
use Rattle.std.specs.Prelude.{option_map}
use Rattle.std.specs.List.{AllByRecursion}
use Rattle.std.proofs.lemmas.Option.{slice_get_within}
use Rattle.fir_meaning.specs.LeafTypes.{LeafType}
use Rattle.fir_meaning.specs.working.LeafBlocks.{LeafBlock}
use Rattle.fir_meaning.specs.working.LeafModules as view
use Rattle.fir_meaning.specs.working.LeafModules.{LeafArray, LeafDeclared, Need, Reading, Role}
use Rattle.fir_meaning.specs.working.Numberings.{Numbering, moved_need, moved_reading, moved_writing, number}
use Rattle.fir_meaning.specs.working.TermValues.{Holds}
use Rattle.fir_connect.specs.working.NetRoles.{NetRole, net_role}
use Rattle.fir_connect.specs.working.NetRoles as meant
use Rattle.fir_leaf_circuit.specs.declared.array.Writing.{Writing}
use Rattle.fir_leaf_circuit.specs.declared.leaf.ReadingRole.{ReadingRole}
use Rattle.fir_leaf_circuit.specs.working.Seen.{high, mode_need, reading_seen, writing_seen}
use Rattle.fir_memory_types.specs.working.TypedMemories.{AreNeedsTyped, IsClockTyped, IsMemoryRoleTyped, IsReadingTyped, IsWritingTyped}
use Rattle.fir_flatten.specs.declared.offsets.Offsets.{Offsets}
use Rattle.fir_flatten.specs.working.MovedNets.{array_moved, leaf_moved, reading_moved, writing_moved}

-- what a memory's port reads in a net is of the leaves and arrays of its module
abbrev pub IsPortTyped : List LeafDeclared → List LeafArray → LeafType → NetRole → Type 0
IsPortTyped leaves arrays h (meant.reading r) = IsReadingTyped leaves arrays h r
IsPortTyped leaves arrays h (meant.pipe r clock under) = IsReadingTyped leaves arrays h r × IsClockTyped leaves clock
IsPortTyped leaves arrays h _ = Unit {0}

pub port_typed : (leaves : List LeafDeclared) (arrays : List LeafArray) (h : LeafType) (holds : Holds) (depth : ℕ) (b : LeafBlock) (x : ℕ) (r : Role)
    → IsMemoryRoleTyped leaves arrays h r → IsPortTyped leaves arrays h (net_role holds depth b x r)
port_typed leaves arrays h holds depth b x view.source typed = tt
port_typed leaves arrays h holds depth b x view.sink typed = tt
port_typed leaves arrays h holds depth b x (view.computed t) typed = tt
port_typed leaves arrays h holds depth b x (view.register clock reset) typed = tt
port_typed leaves arrays h holds depth b x (view.reading r) typed = typed
port_typed leaves arrays h holds depth b x (view.pipe r clock under) typed = typed

module _ (at : Offsets) (n : Numbering) (leaves : List LeafDeclared) (places : (y : ℕ) → y < length leaves → leaf_moved at y ≡ number n y) where
  mode_moved : (writes : Bool) (mode : Option ℕ) → AreNeedsTyped leaves (mode_need writes mode)
      → mode_need writes (option_map (leaf_moved at) mode) ≡ map (moved_need n) (mode_need writes mode)
  mode_moved writes None typed = refl
  mode_moved writes (Some x) typed = let same = places x typed.0.within in λ i. record { leaf = same i; high = writes } ∷ []

  -- from the arrays of the module on
  module _ (arrays : List LeafArray) (array : ℕ) (stand : (k : ℕ) → k < length arrays → array_moved at k ≡ array + k) where
    reading_stands : (h : LeafType) (e : ReadingRole) → IsReadingTyped leaves arrays h (reading_seen e)
        → reading_seen (reading_moved at e) ≡ moved_reading n array (reading_seen e)
    reading_stands h e typed =
        let place = stand e.array (slice_get_within arrays e.array typed.array typed.is_there) in
        let address = places e.address typed.address.within in
        let enable = places e.enable typed.needs.0.within in
        let mode = mode_moved false e.mode typed.needs.1 in
        λ i. record { array = place i; address = address i; needs = high (enable i) ∷ mode i }

    pub reading_moved_stands : (h : LeafType) (e : ReadingRole) (r : Reading) → IsReadingTyped leaves arrays h r → reading_seen e ≡ r
        → reading_seen (reading_moved at e) ≡ moved_reading n array r
    reading_moved_stands h e r typed is =
        reading_stands h e (subst (IsReadingTyped leaves arrays h) (sym is) typed) ∙ ap (moved_reading n array) is

  -- what is written
  writing_stands : (h : LeafType) (address enable : ℕ) (mode : Option ℕ) (mask clock given : ℕ)
      → IsWritingTyped leaves h (writing_seen (record { address = address; enable = enable; mode = mode; mask = mask; clock = clock; given = given }))
      → writing_seen (writing_moved at (record { address = address; enable = enable; mode = mode; mask = mask; clock = clock; given = given }))
      ≡ moved_writing n (writing_seen (record { address = address; enable = enable; mode = mode; mask = mask; clock = clock; given = given }))
  writing_stands h address enable None mask clock given typed =
      let a = places address typed.address.within in
      let e = places enable typed.needs.0.within in
      let m = places mask typed.needs.1.0.within in
      let k = places clock typed.clock.within in
      let g = places given typed.given_within in
      λ i. record { address = a i; needs = high (e i) ∷ high (m i) ∷ []; clock = k i; given = g i }
  writing_stands h address enable (Some x) mask clock given typed =
      let a = places address typed.address.within in
      let e = places enable typed.needs.0.within in
      let w = places x typed.needs.1.0.within in
      let m = places mask typed.needs.1.1.0.within in
      let k = places clock typed.clock.within in
      let g = places given typed.given_within in
      λ i. record { address = a i; needs = high (e i) ∷ high (w i) ∷ high (m i) ∷ []; clock = k i; given = g i }

  pub writings_stand : (h : LeafType) (ws : List Writing) → AllByRecursion (IsWritingTyped leaves h) (map writing_seen ws)
      → map writing_seen (map (writing_moved at) ws) ≡ map (moved_writing n) (map writing_seen ws)
  writings_stand h [] typed = refl
  writings_stand h (w ∷ ws) typed =
      let one = writing_stands h w.address w.enable w.mode w.mask w.clock w.given typed.0 in
      let rest = writings_stand h ws typed.1 in
      λ i. one i ∷ rest i
