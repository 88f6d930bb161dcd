-- The code's walk over what is declared, with numbers that stand still at 2^64 - 1.
use Rattle.std.specs.Prelude.{◌≡◌, ℕ, ◌+◌, List, [], ◌∷◌, map, slice_get, Option, Some, option_map, unwrap_or}
use Rattle.fir_ast.specs.Types.{DataType}
use Rattle.fir_meaning.specs.SharedLeaves.{shared_count}
use Rattle.fir_names.specs.declared.declaration.Component.{Component}
use Rattle.fir_names.specs.declared.declaration.Component.TheVariants as code
use Rattle.fir_names.specs.declared.names.Names.{Names}
use Rattle.fir_names.specs.working.Tabulated.{entry_at}
use Rattle.fir_type_table.specs.declared.kind.TypeId.{TypeId}
use Rattle.fir_type_table.specs.working.Saturated.{saturated}
use Rattle.fir_type_table.specs.working.Tables.{type_at}
use Rattle.fir_types.specs.declared.found.Found.{Found}
use Rattle.fir_types.specs.declared.leaf_numbers.NextLeaf.{NextLeaf as NextOfCode}
use Rattle.fir_types.specs.working.LeafNumbers.{NextLeaf, numbers_taken}
use Rattle.fir_types.specs.working.Seen.{seen}

-- how many leaves the ports of each module have, by the bundle of them
abbrev pub port_counts : List DataType → List TypeId → List ℕ
port_counts ts = map (λ id. saturated (shared_count (type_at ts id.number)))

-- where the ports of each start, of which they are so many, and what is next behind them all
abbrev pub starts_from : ℕ → List ℕ → List ℕ
starts_from k [] = []
starts_from k (n ∷ ns) = k ∷ starts_from (saturated (k + n)) ns

abbrev pub start_behind : ℕ → List ℕ → ℕ
start_behind k [] = k
start_behind k (n ∷ ns) = start_behind (saturated (k + n)) ns

pub record HasStarts (ts : List DataType) (bundles : List TypeId) (starts : List ℕ) (next : ℕ) : Type 0 where
  pub are : starts ≡ starts_from 0 (port_counts ts bundles)
  pub behind : next ≡ start_behind 0 (port_counts ts bundles)

-- the code's next numbers
abbrev pub next_of : ℕ → ℕ → NextOfCode
next_of port body = record { port = port; body = body }

abbrev pub saturated_next : NextLeaf → NextOfCode
saturated_next next = next_of (saturated next.port) (saturated next.body)

-- what the declaration is before which so many stand
abbrev pub component_at : Names → ℕ → Option Component
component_at names position = option_map (λ d. d.component) (entry_at names position)

-- the first leaf of a declaration, and the next numbers behind it
abbrev pub first_by : List ℕ → NextOfCode → Option Component → ℕ
first_by starts next (Some (code.Port d)) = next.port
first_by starts next (Some (code.Instance k)) = unwrap_or (slice_get starts k) 0
first_by starts next _ = next.body

abbrev pub next_by : NextOfCode → Option Component → ℕ → NextOfCode
next_by next (Some (code.Port d)) taken = next_of (saturated (next.port + taken)) next.body
next_by next (Some (code.Instance k)) taken = next
next_by next _ taken = next_of next.port (saturated (next.body + taken))

-- those of declarations behind so many, of which these types are found
module _ (at : ℕ → Option Component) (ts : List DataType) (starts : List ℕ) where
  abbrev pub taken : Option Found → ℕ
  taken f = saturated (numbers_taken (seen ts f))

  abbrev pub leaves_walked : NextOfCode → ℕ → List (Option Found) → List ℕ
  leaves_walked next position [] = []
  leaves_walked next position (f ∷ fs) = first_by starts next (at position) ∷ leaves_walked (next_by next (at position) (taken f)) (position + 1) fs

  abbrev pub next_walked : NextOfCode → ℕ → List (Option Found) → NextOfCode
  next_walked next position [] = next
  next_walked next position (f ∷ fs) = next_walked (next_by next (at position) (taken f)) (position + 1) fs

  pub record IsWalked (declared : List (Option Found)) (old new : NextOfCode) (leaves : List ℕ) : Type 0 where
    pub are : leaves ≡ leaves_walked old 0 declared
    pub behind : new ≡ next_walked old 0 declared
