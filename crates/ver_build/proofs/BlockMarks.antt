-- For each register of the tree whether it has a block: where it has a reset, or where something drives it on a clock.
-- The targets of the blocks are the registers that are so marked, in their order.
use Rattle.std.proofs.Common.{◌≡◌, ◌↔◌, ℕ, List, [], ◌∷◌, ◌++◌, Bool, true, false, ◌||◌, refl, sym, ap, ◌∙◌, inl, inr, ◌⊎◌, ⊎_elim, subst, Option, Some, None}
use Rattle.std.specs.Prelude.{slice_get, IsTrue, IsSome}
use Rattle.std.specs.Option.{is_some}
use Rattle.fir_net.specs.declared.reads.Read.{Read}
use Rattle.fir_net.specs.declared.leaf.Reset.{Reset}
use Rattle.fir_net.specs.declared.leaf.Register.{Register}
use Rattle.fir_net.specs.declared.leaf.Role.{Role}
use Rattle.fir_net.specs.declared.leaf.Role.TheVariants as role
use Rattle.fir_net.specs.declared.leaf.Leaf.{Leaf}
use Rattle.fir_net.specs.declared.net.FlatNet.{FlatNet}
use Rattle.fir_net_names.specs.declared.name_table.NameTable.{NameTable}
use Rattle.fir_net.specs.working.IsNet.{is_port, IsRole}
use Rattle.ver_ast.specs.Nets.{regs, block_targets, names_of}
use Rattle.ver_build.specs.declared.places.Places.{Places}
use Rattle.ver_build.specs.Arranged.{marked}
use Rattle.ver_build.specs.working.Places.{clock_in}
use Rattle.ver_build.specs.working.BlockRegisters.{role_register, word_register, net_registers, EndsAtInput, HasBlock, AreMarked}
use Rattle.ver_build.proofs.Names.{NameList, Each, zipped}
use Rattle.ver_build.proofs.Premises.{Premises, Whole}
use Rattle.ver_build.proofs.OrderedLeaves.{ordered_names, ordered_leaves, ordered_whole}
use Rattle.ver_build.proofs.WordLists.{words_given}
use Rattle.ver_build.proofs.Parts.{blocks_of, in_parts}
use Rattle.fir_net.specs.working.Counted.{is_register}
use Rattle.ver_build.proofs.LeafKinds.{is_clocked, is_written, name_if, no_name, picked, picked_names}
use Rattle.ver_build.proofs.Nets.{registers_sized}
use Rattle.ver_build.proofs.Driven.{block_targets_are}
use Rattle.ver_build.proofs.ClockEnds.{ends_at, has_clock}

-- whether a register that has a name has a block
abbrev role_mark : (ℕ → Option ℕ) → Role → Option (List ℕ) → List Bool
role_mark clock (role.Register r) (Some name) = is_written clock (role.Register r) ∷ []
role_mark clock _ n = []

abbrev marks_along : (ℕ → Option ℕ) → NameList → List Leaf → List Bool
marks_along clock names ls = zipped (λ l n. role_mark clock l.role n) names ls

-- the registers that have names
abbrev named_register : Role → Option (List ℕ) → List Register
named_register (role.Register r) (Some name) = r ∷ []
named_register _ n = []

abbrev registers_along : NameList → List Leaf → List Register
registers_along names ls = zipped (λ l n. named_register l.role n) names ls

no_port_register : (r : Role) (n : Option (List ℕ)) → is_port r ≡ true → named_register r n ≡ []
no_port_register (role.Register r) n e = absurd (cc)
no_port_register _ n e = refl

register_named : (r : Role) (name : List ℕ) → named_register r (Some name) ≡ role_register r
register_named (role.Register r) name = refl
register_named _ name = refl

name_marked : (b : Bool) (name : List ℕ) (ms : List Bool) (xs ys : List (List ℕ)) → marked ms xs ≡ ys
    → marked (b ∷ ms) (name ∷ xs) ≡ name_if b (Some name) ++ ys
name_marked true name ms xs ys e = ap (λ zs. name ∷ zs) e
name_marked false name ms xs ys e = e

role_marked : (clock : ℕ → Option ℕ) (r : Role) (n : Option (List ℕ)) (ms : List Bool) (xs ys : List (List ℕ)) → marked ms xs ≡ ys
    → marked (role_mark clock r n ++ ms) (name_if (is_register r) n ++ xs) ≡ name_if (is_written clock r) n ++ ys
role_marked clock (role.Register r) None ms xs ys e = rw (no_name (is_written clock (role.Register r))) e
role_marked clock (role.Register r) (Some name) ms xs ys e = name_marked (is_written clock (role.Register r)) name ms xs ys e
role_marked clock _ n ms xs ys e = e

names_marked : (clock : ℕ → Option ℕ) (names : NameList) (ls : List Leaf)
    → marked (marks_along clock names ls) (picked is_register names ls) ≡ picked (is_written clock) names ls
unfolding zipped
names_marked clock [] ls = refl
names_marked clock (n ∷ names) [] = refl
names_marked clock (n ∷ names) (l ∷ ls) = role_marked clock l.role n _ _ _ (names_marked clock names ls)

-- what is driven on a clock has both
next_given : (c : Option ℕ) (next : Option Read) → is_clocked c next ≡ true → IsSome next
next_given (Some k) (Some r) e = refl
next_given _ _ e = absurd (cc)

clock_given : (c : Option ℕ) (next : Option Read) → is_clocked c next ≡ true → (k : ℕ) × (c ≡ Some k)
clock_given (Some k) (Some r) e = (k, refl)
clock_given _ _ e = absurd (cc)

both_given : (c : Option ℕ) (next : Option Read) (k : ℕ) → c ≡ Some k → IsSome next → is_clocked c next ≡ true
both_given (Some k) (Some r) j e some = refl
both_given None next j e some = absurd (cc)
both_given (Some k) None j e some = absurd (cc)

module _ (net : FlatNet) (t : NameTable) (p : Places) (order : List Read) (is : Premises net t p order) where
  abbrev clock : ℕ → Option ℕ
  clock = clock_in p.leaves

  is_driven : (s : Bool) (w : ℕ) (r : Register) → IsRole net.leaves net.nodes s w (role.Register r)
      → IsTrue (is_clocked (clock r.clock) r.next) ↔ (IsSome r.next × EndsAtInput net r.clock)
  is_driven s w r whole =
      let leaf = whole.0 in (
        λ e.
            let k = clock_given (clock r.clock) r.next e in
            (next_given (clock r.clock) r.next e, (ends_at net t p order is r.clock leaf.0 k.0 leaf.1 k.1).ends),
        λ d. let k = has_clock net t p order is r.clock d.1 in both_given (clock r.clock) r.next k.0 k.1 d.0,
      )

  -- one or the other
  either_is : (reset : Option Reset) (b : Bool) (D : Type 0) → (IsTrue b ↔ D) → IsTrue (is_some reset || b) ↔ (IsSome reset ⊎ D)
  either_is None b D h = (λ e. inr (h.0 e), λ d. ⊎_elim (λ (s : IsSome {T = Reset} None). absurd (cc)) (λ (x : D). h.1 x) d)
  either_is (Some r) b D h = (λ e. inl refl, λ d. refl)

  has_block : (s : Bool) (w : ℕ) (r : Register) → IsRole net.leaves net.nodes s w (role.Register r)
      → IsTrue (is_written clock (role.Register r)) ↔ HasBlock net r
  has_block s w r whole = either_is r.reset (is_clocked (clock r.clock) r.next) (IsSome r.next × EndsAtInput net r.clock) (is_driven s w r whole)

  role_blocks : (s : Bool) (r : Role) (w : ℕ) (n : Option (List ℕ)) (rs : List Register) (ms : List Bool) → IsRole net.leaves net.nodes s w r
      → AreMarked net rs ms → AreMarked net (named_register r n ++ rs) (role_mark clock r n ++ ms)
  role_blocks s (role.Register r) w None rs ms whole rest = rest
  role_blocks s (role.Register r) w (Some name) rs ms whole rest = (has_block s w r whole, rest)
  role_blocks s _ w n rs ms whole rest = rest

  blocks_along : (names : NameList) (ls : List Leaf) → Each (Whole net) names ls
      → AreMarked net (registers_along names ls) (marks_along clock names ls)
  unfolding zipped
  blocks_along [] [] h = tt
  blocks_along [] (l ∷ ls) h = absurd h
  blocks_along (n ∷ names) [] h = absurd h
  blocks_along (n ∷ names) (l ∷ ls) h = role_blocks l.signed l.role l.width n _ _ h.0.1.driven (blocks_along names ls h.1)

  registers_are : registers_along (ordered_names net t) (ordered_leaves net) ≡ net_registers net
  registers_are =
      words_given net t is.whole is.table is.pipes (λ l n. named_register l.role n) (record { ports = λ l n e. no_port_register l.role n e })
      (λ k. word_register (slice_get net.leaves k)) (λ k l name at kind named. rw at (register_named l.role name))

  abbrev pub marks : List Bool
  marks = marks_along clock (ordered_names net t) (ordered_leaves net)

  pub marks_blocks : AreMarked net (net_registers net) marks
  marks_blocks =
      subst (λ (rs : List Register). AreMarked net rs marks) registers_are
      (blocks_along (ordered_names net t) (ordered_leaves net) (ordered_whole net t is.whole is.table))

  pub blocks_marked : block_targets (blocks_of net t p order) ≡ marked marks (names_of (regs (in_parts net t p order)))
  blocks_marked =
      block_targets_are net t p order is.whole is.table is.pipes ∙ sym (names_marked clock (ordered_names net t) (ordered_leaves net))
      ∙ ap (marked marks) (sym (ap names_of (registers_sized net t p order) ∙ picked_names is_register (ordered_names net t) (ordered_leaves net)))
