-- Kinds of leaves, by their roles, and what the leaves of a kind give: their names, and these with their widths.
-- Where the others stand behind ports, what the ports give and then what the others give is what all leaves give in order.
use Rattle.std.proofs.Common.{◌≡◌, ℕ, List, [], ◌∷◌, ◌++◌, Bool, true, false, not, ◌&&◌, ◌||◌, nat_eq, refl, ap, ◌∙◌, append_assoc}
use Rattle.std.specs.Prelude.{Option, Some, None, MatchBool}
use Rattle.std.specs.Option.{is_some}
use Rattle.fir_net.specs.declared.reads.Read.{Read}
use Rattle.fir_net.specs.declared.leaf.Role.{Role}
use Rattle.fir_net.specs.declared.leaf.Role.TheVariants as role
use Rattle.fir_net.specs.declared.leaf.Leaf.{Leaf}
use Rattle.fir_net.specs.working.IsNet.{is_port, AreInside, ArePortsFirst}
use Rattle.fir_net_names.specs.working.LeafNamed.{with_some}
use Rattle.ver_ast.specs.Nets.{SizedNet, names_of}
use Rattle.ver_build.proofs.Names.{NameList, Each, zipped, map_zipped}

abbrev pub is_input : Role → Bool
is_input role.Input = true
is_input _ = false

abbrev pub is_clock_input : Role → Bool
is_clock_input role.Clock = true
is_clock_input _ = false

abbrev pub is_output : Role → Bool
is_output (role.Output r) = true
is_output _ = false

abbrev pub is_clock_output : Role → Bool
is_clock_output (role.ClockOutput c) = true
is_clock_output _ = false

-- wires and what is read of arrays have no name of their own
abbrev pub is_wire : Role → Bool
is_wire (role.Wire r) = true
is_wire (role.Reading r) = true
is_wire (role.ClockWire c) = true
is_wire _ = false

-- what is read of an array
abbrev pub is_reading : Role → Bool
is_reading (role.Reading r) = true
is_reading _ = false

-- what has read an array at the last edge
abbrev pub is_pipe : Role → Bool
is_pipe (role.Pipe p) = true
is_pipe _ = false

-- a port, a register or a pipe that has bits
abbrev pub has_name : Leaf → Bool
has_name l = not (is_wire l.role) && not (nat_eq l.width 0)

-- a port of bits
abbrev pub is_signal : Role → Bool
is_signal role.Input = true
is_signal (role.Output r) = true
is_signal _ = false

-- what has a net of its own name
abbrev pub is_net : Role → Bool
is_net role.Input = true
is_net (role.Output r) = true
is_net (role.Register r) = true
is_net _ = false

abbrev pub is_clocked : Option ℕ → Option Read → Bool
is_clocked (Some k) (Some r) = true
is_clocked _ _ = false

-- a register that has a block: one with a reset, or one that something drives on a clock
abbrev pub is_written : (ℕ → Option ℕ) → Role → Bool
is_written clock (role.Register r) = is_some r.reset || is_clocked (clock r.clock) r.next
is_written clock _ = false

-- a register with a reset
abbrev pub is_reset : Role → Bool
is_reset (role.Register r) = is_some r.reset
is_reset _ = false

abbrev pub name_if : Bool → Option (List ℕ) → List (List ℕ)
name_if false n = []
name_if true n = with_some n []

abbrev pub sized : ℕ → Option (List ℕ) → List SizedNet
sized w None = []
sized w (Some name) = (name, w) ∷ []

abbrev pub sized_if : Bool → ℕ → Option (List ℕ) → List SizedNet
sized_if false w n = []
sized_if true w n = sized w n

-- the names of the leaves of a kind
abbrev pub picked : (Role → Bool) → NameList → List Leaf → List (List ℕ)
picked p names ls = zipped (λ l n. name_if (p l.role) n) names ls

-- these with their widths
abbrev pub picked_sized : (Role → Bool) → NameList → List Leaf → List SizedNet
picked_sized p names ls = zipped (λ l n. sized_if (p l.role) l.width n) names ls

sized_names : (b : Bool) (w : ℕ) (n : Option (List ℕ)) → names_of (sized_if b w n) ≡ name_if b n
sized_names false w n = refl
sized_names true w None = refl
sized_names true w (Some name) = refl

pub picked_names : (p : Role → Bool) (names : NameList) (ls : List Leaf) → names_of (picked_sized p names ls) ≡ picked p names ls
picked_names p names ls =
    map_zipped (λ (s : SizedNet). s.0) (λ (l : Leaf) n. sized_if (p l.role) l.width n) (λ (l : Leaf) n. name_if (p l.role) n)
    (λ l n. sized_names (p l.role) l.width n) names ls

pub no_size : (b : Bool) (w : ℕ) → sized_if b w None ≡ []
no_size false w = refl
no_size true w = refl

pub no_name : (b : Bool) → name_if b None ≡ []
no_name false = refl
no_name true = refl

-- what ports give and then what the others give is what all leaves give
module _ {C : Type 0} (P : Leaf → Option (List ℕ) → Type 0) (f g h : Leaf → Option (List ℕ) → List C)
    (ports : (l : Leaf) (n : Option (List ℕ)) → P l n → is_port l.role ≡ true → (f l n ≡ h l n) × (g l n ≡ []))
    (inside : (l : Leaf) (n : Option (List ℕ)) → P l n → is_port l.role ≡ false → (f l n ≡ []) × (g l n ≡ h l n)) where
  inside_alone : (names : NameList) (ls : List Leaf) → Each P names ls → AreInside ls
      → (zipped f names ls ≡ []) × (zipped g names ls ≡ zipped h names ls)
  unfolding zipped
  inside_alone [] ls each are = (refl, refl)
  inside_alone (n ∷ names) [] each are = (refl, refl)
  inside_alone (n ∷ names) (l ∷ ls) each are =
      let here = inside l n each.0 are.0 in
      let rest = inside_alone names ls each.1 are.1 in
      (rw (here.0, rest.0) refl, rw (here.1, rest.1) refl)

  pub ports_then_inside : (names : NameList) (ls : List Leaf) → Each P names ls → ArePortsFirst ls
      → zipped f names ls ++ zipped g names ls ≡ zipped h names ls
  unfolding zipped
  ports_then_inside [] ls each are = refl
  ports_then_inside (n ∷ names) [] each are = refl
  ports_then_inside (n ∷ names) (l ∷ ls) each are = by_kind (is_port l.role) refl are (ports_then_inside names ls each.1)
    where
      by_kind : (b : Bool) → is_port l.role ≡ b → MatchBool b (ArePortsFirst ls) (AreInside ls)
          → (ArePortsFirst ls → zipped f names ls ++ zipped g names ls ≡ zipped h names ls)
          → (f l n ++ zipped f names ls) ++ (g l n ++ zipped g names ls) ≡ h l n ++ zipped h names ls
      by_kind true e first go =
          let here = ports l n each.0 e in
          rw (here.0, here.1) (append_assoc (h l n) (zipped f names ls) (zipped g names ls) ∙ ap (λ cs. h l n ++ cs) (go first))
      by_kind false e first go =
          let here = inside l n each.0 e in
          let rest = inside_alone names ls each.1 first in
          rw (here.0, here.1, rest.0, rest.1) refl
