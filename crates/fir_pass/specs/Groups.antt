-- The groups of faults, in the order in which they are looked for, and which fault of a group is told.
-- Faults of the text come before all groups. A group lists its faults in the order of the text, or any of them may be told.
use Rattle.std.specs.Prelude.{◌≡◌, ℕ, zero, suc, List, [], ◌∷◌, Option, Some, None}
use Rattle.fir_base.specs.Lists.{In}
use Rattle.fir_ast.specs.Faults.{Code, E01, E02, E03, E04, E05, E06, E07, E08, E09, E10, E11, E12, E13, E14, E15, E16, E17, E18, E19, E20, E21, E22, E23, E24, E25, E26, E27, E28, Fault}

-- the place of each in that order
abbrev pub of_text : ℕ
of_text = 0

abbrev pub of_names : ℕ
of_names = 1

abbrev pub of_main_module : ℕ
of_main_module = 2

abbrev pub of_hierarchy : ℕ
of_hierarchy = 3

abbrev pub of_types : ℕ
of_types = 4

abbrev pub of_resets : ℕ
of_resets = 5

abbrev pub of_wide_widths : ℕ
of_wide_widths = 6

abbrev pub of_widths : ℕ
of_widths = 7

abbrev pub of_cost : ℕ
of_cost = 8

abbrev pub of_drivers : ℕ
of_drivers = 9

abbrev pub of_clocks : ℕ
of_clocks = 10

abbrev pub of_memory_clocks : ℕ
of_memory_clocks = 11

abbrev pub of_inits : ℕ
of_inits = 12

abbrev pub of_loops : ℕ
of_loops = 13

abbrev pub group_of : Code → ℕ
group_of E01 = of_text
group_of E02 = of_text
group_of E03 = of_text
group_of E04 = of_text
group_of E05 = of_text
group_of E06 = of_text
group_of E07 = of_text
group_of E08 = of_names
group_of E09 = of_names
group_of E10 = of_main_module
group_of E11 = of_hierarchy
group_of E12 = of_types
group_of E13 = of_types
group_of E14 = of_types
group_of E15 = of_types
group_of E16 = of_types
group_of E17 = of_types
group_of E18 = of_resets
group_of E19 = of_wide_widths
group_of E20 = of_widths
group_of E21 = of_widths
group_of E22 = of_widths
group_of E23 = of_cost
group_of E24 = of_drivers
group_of E25 = of_clocks
group_of E26 = of_memory_clocks
group_of E27 = of_inits
group_of E28 = of_loops

-- which faults of a group stand in a circuit, and which of them may be told
pub record Group : Type 1 where
  pub shows : Fault → Type 0
  pub tells : Fault → Type 0

abbrev pub first_of : List Fault → Option Fault
first_of [] = None
first_of (f ∷ fs) = Some f

abbrev pub in_order : List Fault → Group
in_order fs = record { shows = In fs; tells = λ f. first_of fs ≡ Some f }

abbrev pub any_of : (Fault → Type 0) → Group
any_of Stands = record { shows = Stands; tells = Stands }

-- no fault of the group stands
abbrev pub IsClear : Group → Type 0
IsClear group = (f : Fault) → group.shows f → ⊥

-- groups one behind the other, numbered from 0 on
pub data Groups : Type 1 where
  no_groups : Groups
  then_group : Group → Groups → Groups

abbrev pub group_at : Groups → ℕ → Group
group_at no_groups k = in_order []
group_at (then_group g gs) zero = g
group_at (then_group g gs) (suc k) = group_at gs k
