-- Each clock output of the tree shows a clock input, where the drivers of its clock end at one, or no clock.
use Rattle.std.proofs.Common.{◌≡◌, ℕ, List, ◌++◌, Bool, refl}
use Rattle.std.specs.Prelude.{Option, Some, None}
use Rattle.std.specs.List.{AllByRecursion}
use Rattle.fir_base.specs.Lists.{EachIn}
use Rattle.fir_net.specs.declared.reads.Read.{Read}
use Rattle.fir_net.specs.declared.leaf.Role.{Role}
use Rattle.fir_net.specs.declared.leaf.Role.TheVariants as role
use Rattle.fir_net.specs.declared.net.FlatNet.{FlatNet}
use Rattle.fir_net.specs.working.IsNet.{CanBeClock, IsRole}
use Rattle.fir_net_names.specs.declared.name_table.NameTable.{NameTable}
use Rattle.ver_ast.specs.declared.tree.Assign.{Assign}
use Rattle.ver_ast.specs.declared.tree.Rhs.{Rhs}
use Rattle.ver_ast.specs.declared.tree.Rhs.TheVariants as rhs
use Rattle.ver_ast.specs.declared.tree.Verilog.{Verilog}
use Rattle.ver_ast.specs.Atoms as tree
use Rattle.ver_ast.specs.ItemNames.{rhs_arrays}
use Rattle.ver_ast.specs.Names.{rhs_names}
use Rattle.ver_ast.specs.Nets.{clocks}
use Rattle.ver_ast.specs.Valid.{IsClockSide}
use Rattle.ver_build.specs.declared.places.Places.{Places}
use Rattle.ver_build.specs.working.Places.{driven_clock_in}
use Rattle.ver_build.specs.working.Built.{clock_rhs, leaf_clock_assign, role_clock_assign}
use Rattle.ver_build.proofs.Names.{all_zipped}
use Rattle.ver_build.proofs.Premises.{Premises, Whole}
use Rattle.ver_build.proofs.OrderedLeaves.{ordered_names, ordered_leaves, ordered_whole}
use Rattle.ver_build.proofs.Parts.{clock_assigns_of, in_parts}
use Rattle.ver_build.proofs.ClockEnds.{IsClockInput, ends_at, clock_is_port}

abbrev pub ShowsClock : Verilog → Assign → Type 0
ShowsClock v a = IsClockSide v a.rhs

-- such a right side names clock inputs alone
pub side_names : (v : Verilog) (r : Rhs) → IsClockSide v r → EachIn (rhs_arrays r ++ rhs_names r) (clocks v)
side_names v (rhs.Atom (tree.net n)) side = (side, tt)
side_names v (rhs.Atom (tree.constant w x)) side = tt
side_names v _ side = absurd side

module _ (net : FlatNet) (t : NameTable) (p : Places) (order : List Read) (is : Premises net t p order) where
  -- the clock input at which the drivers of a clock output end
  pub driven_input : (c : Option ℕ) → CanBeClock net.leaves c → (k : ℕ) → driven_clock_in p.leaves c ≡ Some k → IsClockInput net t k
  driven_input None can k e = absurd (cc)
  driven_input (Some j) can k e = (ends_at net t p order is j can.0 k can.1 e).clock

  side_shows : (o : Option ℕ) → ((k : ℕ) → o ≡ Some k → IsClockInput net t k) → IsClockSide (in_parts net t p order) (clock_rhs t o)
  side_shows None input = (refl, refl)
  side_shows (Some k) input = clock_is_port net t p order is k (input k refl)

  role_shows : (s : Bool) (r : Role) (w : ℕ) (n : Option (List ℕ)) → IsRole net.leaves net.nodes s w r
      → AllByRecursion (ShowsClock (in_parts net t p order)) (role_clock_assign t p r n)
  role_shows s (role.ClockOutput c) w None whole = tt
  role_shows s (role.ClockOutput c) w (Some name) whole = (side_shows (driven_clock_in p.leaves c) (driven_input c whole.1), tt)
  role_shows s _ w n whole = tt

  pub clocks_shown : AllByRecursion (ShowsClock (in_parts net t p order)) (clock_assigns_of net t p order)
  clocks_shown =
      all_zipped (Whole net) (ShowsClock (in_parts net t p order)) (leaf_clock_assign t p) (λ l n h. role_shows l.signed l.role l.width n h.1.driven)
      (ordered_names net t) (ordered_leaves net) (ordered_whole net t is.whole is.table)
