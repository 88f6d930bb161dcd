-- What a leaf of a flat net is, by what it holds and by its role in the circuit: a register has a reset where the circuit's is asynchronous, and no other.
use Rattle.std.proofs.Common.{◌≡◌, ℕ, List, Bool, true, false, if◌then◌else◌, Option, Some, None, option_map, refl, sym, ap, ◌∙◌, subst, inl, inr, true≢false}
use Rattle.fir_meaning.specs.working.LeafBlocks.{LeafBlock}
use Rattle.fir_meaning.specs.working.LeafModules.{LeafReset, Reading, Role, computed, pipe, reading, register, sink, source}
use Rattle.fir_meaning.specs.LeafTypes.{LeafType, a_clock, number}
use Rattle.fir_meaning.specs.working.TermValues.{Holds}
use Rattle.fir_meaning.specs.working.Terms.{Term}
use Rattle.fir_connect.specs.working.NetRoles.{net_reset, net_role}
use Rattle.fir_ast.specs.declared.statements.ReadUnderWrite.{ReadUnderWrite}
use Rattle.fir_net.specs.declared.array.ArrayRead.{ArrayRead}
use Rattle.fir_net.specs.declared.array.Pipe.{Pipe}
use Rattle.fir_net.specs.declared.leaf.Register.{Register}
use Rattle.fir_net.specs.declared.leaf.Reset.{Reset}
use Rattle.fir_net.specs.declared.leaf.Role as net_leaf
use Rattle.fir_net.specs.declared.leaf.Role.TheVariants as role
use Rattle.fir_net.specs.declared.node.Node.{Node}
use Rattle.fir_net.specs.declared.reads.Read.{Read}
use Rattle.fir_net.specs.working.IsNet.{is_port}
use Rattle.fir_net.specs.working.IsWritable.{ActsAtOnce, IsWritableRole}
use Rattle.fir_flat.specs.working.FlatCircuits.{IsClockedBy, IsDrivenBy, IsResetOf, IsRoleOf, reset_kept}
use Rattle.fir_flatten.specs.working.FlatDesigns.{is_some}

-- a reset that does not wait for its register's clock
abbrev pub is_reset_async : Option LeafReset → Bool
is_reset_async None = false
is_reset_async (Some r) = r.is_async

-- the reset of a register of the net
pub record IsKept (own : Option Reset) (reset : Option LeafReset) : Type 0 where
  pub at_once : ActsAtOnce own
  pub there : is_some own ≡ is_reset_async reset

-- an input, what is driven, a node, a register, or what a memory's port reads; so of clocks, but that no register and no memory holds one
abbrev pub IsShaped : net_leaf.Role → LeafType → Role → Type 0
IsShaped x (number t) source = x ≡ role.Input
IsShaped x a_clock source = x ≡ role.Clock
IsShaped x (number t) sink = (r : Read) × IsDrivenBy x r
IsShaped x a_clock sink = (c : Option ℕ) × IsClockedBy x c
IsShaped x (number t) (computed e) = (r : Read) × (x ≡ role.Wire r)
IsShaped x a_clock (computed e) = (c : Option ℕ) × (x ≡ role.ClockWire c)
IsShaped x (number t) (register clock reset) = (g : Register) × (x ≡ role.Register g) × IsKept g.reset reset
IsShaped x (number t) (reading r) = (q : ArrayRead) × (x ≡ role.Reading q)
IsShaped x (number t) (pipe r clock under) = (q : Pipe) × (x ≡ role.Pipe q) × (q.clock ≡ clock)
IsShaped x _ _ = ⊥

-- a reset that waits for a clock is a choice, and does not stay
stays : (nodes : List Node) (holds : Holds) (own : Option Reset) (reset : Option LeafReset)
    → IsResetOf nodes own (reset_kept (option_map (net_reset holds) reset)) → IsKept own reset
stays nodes holds None None is = record { at_once = tt; there = refl }
stays nodes holds (Some r) None is = absurd is
stays nodes holds own (Some q) is = by own q.is_async is
  where
    by : (o : Option Reset) (b : Bool) → IsResetOf nodes o (if b then Some (net_reset holds q) else None) → IsKept o (Some (record q { is_async = b }))
    by None true h = absurd h
    by (Some r) true h = record { at_once = h.0; there = refl }
    by None false h = record { at_once = tt; there = refl }
    by (Some r) false h = absurd h

pub role_shaped : (nodes : List Node) (holds : Holds) (depth : ℕ) (b : LeafBlock) (k : ℕ) (x : net_leaf.Role) (h : LeafType) (r : Role)
    → IsRoleOf nodes holds k x h (net_role holds depth b k r) → IsShaped x h r
role_shaped nodes holds depth b k x (number t) source is = is
role_shaped nodes holds depth b k x (number t) sink is = (is.0, is.1)
role_shaped nodes holds depth b k x (number t) (computed e) is = (is.0, is.1)
role_shaped nodes holds depth b k x (number t) (register clock reset) is =
    (record { clock = is.0; reset = is.1; next = is.2 }, is.3, stays nodes holds is.1 reset is.5)
role_shaped nodes holds depth b k x (number t) (reading r) is = (is.0, is.1)
role_shaped nodes holds depth b k x (number t) (pipe r clock under) is = (is.0, is.1, is.2.clock)
role_shaped nodes holds depth b k x a_clock source is = is
role_shaped nodes holds depth b k x a_clock sink is = (is.0, is.1)
role_shaped nodes holds depth b k x a_clock (computed e) is = (is.0, is.1)
role_shaped nodes holds depth b k x a_clock (register clock reset) is = absurd is
role_shaped nodes holds depth b k x a_clock (reading r) is = absurd is
role_shaped nodes holds depth b k x a_clock (pipe r clock under) is = absurd is

-- a clock is one bit wide
abbrev pub net_width : LeafType → ℕ
net_width (number t) = t.width
net_width a_clock = 1

-- what is driven is an output where it is a port
pub driven_port : (x : net_leaf.Role) (r : Read) → IsDrivenBy x r → is_port x ≡ true → x ≡ role.Output r
driven_port x r (inl e) port = e
driven_port x r (inr e) port = absurd (true≢false (sym port ∙ ap is_port e))

pub clocked_port : (x : net_leaf.Role) (c : Option ℕ) → IsClockedBy x c → is_port x ≡ true → x ≡ role.ClockOutput c
clocked_port x c (inl e) port = e
clocked_port x c (inr e) port = absurd (true≢false (sym port ∙ ap is_port e))

-- a register of the net is one of the circuit
pub shaped_register : (x : net_leaf.Role) (h : LeafType) (r : Role) → IsShaped x h r → (g : Register) → x ≡ role.Register g
    → (clock : Term) × (reset : Option LeafReset) × (r ≡ register clock reset) × IsKept g.reset reset
shaped_register x (number t) source is g at = cc
shaped_register x a_clock source is g at = cc
shaped_register x (number t) sink (r, inl e) g at = cc
shaped_register x (number t) sink (r, inr e) g at = cc
shaped_register x a_clock sink (c, inl e) g at = cc
shaped_register x a_clock sink (c, inr e) g at = cc
shaped_register x (number t) (computed e) is g at = let own = is.1 in cc
shaped_register x a_clock (computed e) is g at = let own = is.1 in cc
shaped_register x (number t) (register clock reset) is g at =
    let same : is.0 ≡ g = cc in
    (clock, reset, refl, subst (λ (o : Register). IsKept o.reset reset) same is.2)
shaped_register x (number t) (reading r) is g at = let own = is.1 in cc
shaped_register x (number t) (pipe r clock under) is g at = let own = is.1 in cc
shaped_register x h r is g at = absurd is

-- and a pipe of the net
pub shaped_pipe : (x : net_leaf.Role) (h : LeafType) (r : Role) → IsShaped x h r → (q : Pipe) → x ≡ role.Pipe q
    → (m : Reading) × (clock : ℕ) × (under : ReadUnderWrite) × (r ≡ pipe m clock under) × (q.clock ≡ clock)
shaped_pipe x (number t) source is q at = cc
shaped_pipe x a_clock source is q at = cc
shaped_pipe x (number t) sink (r, inl e) q at = cc
shaped_pipe x (number t) sink (r, inr e) q at = cc
shaped_pipe x a_clock sink (c, inl e) q at = cc
shaped_pipe x a_clock sink (c, inr e) q at = cc
shaped_pipe x (number t) (computed e) is q at = let own = is.1 in cc
shaped_pipe x a_clock (computed e) is q at = let own = is.1 in cc
shaped_pipe x (number t) (register clock reset) is q at = let own = is.1 in cc
shaped_pipe x (number t) (reading r) is q at = let own = is.1 in cc
shaped_pipe x (number t) (pipe m clock under) is q at =
    let own = is.1 in
    let same : is.0 ≡ q = cc in
    (m, clock, under, refl, ap (λ (z : Pipe). z.clock) (sym same) ∙ is.2)
shaped_pipe x h r is q at = absurd is

-- such a leaf has a Verilog text
pub shaped_writable : (x : net_leaf.Role) (h : LeafType) (r : Role) → IsShaped x h r → IsWritableRole x
shaped_writable x (number t) source is = subst IsWritableRole (sym is) tt
shaped_writable x a_clock source is = subst IsWritableRole (sym is) tt
shaped_writable x (number t) sink (r, inl e) = subst IsWritableRole (sym e) tt
shaped_writable x (number t) sink (r, inr e) = subst IsWritableRole (sym e) tt
shaped_writable x a_clock sink (c, inl e) = subst IsWritableRole (sym e) tt
shaped_writable x a_clock sink (c, inr e) = subst IsWritableRole (sym e) tt
shaped_writable x (number t) (computed e) is = subst IsWritableRole (sym is.1) tt
shaped_writable x a_clock (computed e) is = subst IsWritableRole (sym is.1) tt
shaped_writable x (number t) (register clock reset) is = subst IsWritableRole (sym is.1) is.2.at_once
shaped_writable x (number t) (reading r) is = subst IsWritableRole (sym is.1) tt
shaped_writable x (number t) (pipe r clock under) is = subst IsWritableRole (sym is.1) tt
shaped_writable x h r is = absurd is
