-- The clock outputs of the tree show the clocks of those of the net.
-- Each has one assign, whose right side names the clock input at which the drivers of its clock end, and a clock input has its number.
use Rattle.std.proofs.Common.{◌≡◌, ℕ, zero, suc, ◌+◌, List, [], ◌∷◌, map, Bool, true, false, if◌then◌else◌, refl, sym, ap, ◌∙◌, inl, inr, subst, arith, Option, Some, None, unwrap_or}
use Rattle.std.specs.Prelude.{slice_get}
use Rattle.std.specs.Str.{bytes_eq}
use Rattle.std.proofs.lemmas.Bool.{cond_both}
use Rattle.fir_base.specs.Lists.{In, Distinct}
use Rattle.fir_base.specs.Ticks.{Env, Tick}
use Rattle.fir_base.proofs.Members.{in_map}
use Rattle.fir_base.proofs.SameNames.{name_is, name_same}
use Rattle.fir_net.specs.declared.reads.Read.{Read}
use Rattle.fir_net.specs.declared.leaf.Role.{Role}
use Rattle.fir_net.specs.declared.leaf.Role.TheVariants as role
use Rattle.fir_net.specs.declared.leaf.Leaf.{Leaf}
use Rattle.fir_net.specs.declared.net.FlatNet.{FlatNet}
use Rattle.fir_net.specs.working.IsNet.{is_port, IsRole}
use Rattle.fir_net.specs.working.Settled.{is_clock, clock_output_number, clock_outputs}
use Rattle.fir_net_names.specs.declared.name_table.NameTable.{NameTable}
use Rattle.fir_net_names.specs.working.LeafNamed.{name_at}
use Rattle.ver_ast.specs.declared.tree.Assign.{Assign}
use Rattle.ver_ast.specs.ClockOutputs.{number_in, clock_side, driven_clock, clocks_shown}
use Rattle.ver_ast.specs.Nets.{clocks, clock_assigns, targets}
use Rattle.ver_ast.specs.Settled.{Rest}
use Rattle.ver_build.specs.declared.places.Places.{Places}
use Rattle.ver_build.specs.working.Places.{clock_in, driven_clock_in, place_clock, placed}
use Rattle.ver_build.specs.working.Built.{clock_rhs, leaf_clock_assign}
use Rattle.ver_build.proofs.Premises.{Premises, RoleNamed, role_named, bits_named}
use Rattle.ver_build.proofs.TableLeaves.{leaf_named}
use Rattle.ver_build.proofs.OrderedLeaves.{names_port, port_given, ordered_part}
use Rattle.ver_build.proofs.Parts.{in_parts}
use Rattle.ver_build.proofs.LeafKinds.{is_clock_output, name_if}
use Rattle.ver_build.proofs.LeafLists.{same_lists}
use Rattle.ver_build.proofs.Nets.{output_clocks_are}
use Rattle.ver_build.proofs.ReadsStand.{leaf_at}
use Rattle.ver_build.proofs.ClockEnds.{IsClockInput, clock_at, clock_is_port}
use Rattle.ver_build.proofs.ClockAssigns.{clock_assigns_are, clock_targets_once}
use Rattle.ver_build.proofs.ClockSides.{driven_input}
use Rattle.ver_build.proofs.NextStates.{shown_clock}

-- where each has its number, so has the first of a name
number_is : (f : Env) (base : ℕ) (cs : List (List ℕ)) (n : List ℕ) → ((j : ℕ) (m : List ℕ) → slice_get cs j ≡ Some m → f m ≡ base + j) → In cs n
    → number_in base cs n ≡ Some (f n)
number_is f base [] n numbered m = absurd m
number_is f base (c ∷ cs) n numbered m = by (bytes_eq c n) refl m (number_is f (base + 1) cs n)
  where
    first : bytes_eq c n ≡ true → base ≡ f n
    first e = let start : base + 0 ≡ base = omega arith in sym start ∙ sym (numbered zero c refl) ∙ ap f (name_is c n e)

    behind : (j : ℕ) (m : List ℕ) → slice_get cs j ≡ Some m → f m ≡ base + 1 + j
    behind j m at = let place : base + suc j ≡ base + 1 + j = omega arith in numbered (suc j) m at ∙ place

    by : (b : Bool) → bytes_eq c n ≡ b → In (c ∷ cs) n
        → (((j : ℕ) (m : List ℕ) → slice_get cs j ≡ Some m → f m ≡ base + 1 + j) → In cs n → number_in (base + 1) cs n ≡ Some (f n))
        → (if b then Some base else number_in (base + 1) cs n) ≡ Some (f n)
    by true e m rest = ap Some (first e)
    by false e (inl same) rest = let other : bytes_eq c n ≡ true = subst (λ (x : List ℕ). bytes_eq c x ≡ true) same (name_same c) in absurd (cc)
    by false e (inr m) rest = rest behind m

-- a clock output is driven by its assign
assign_found : (names : List (List ℕ)) (cs : List Assign) (a : Assign) → Distinct (targets cs) → In cs a
    → driven_clock names cs a.target ≡ clock_side names a.rhs
assign_found names [] a once m = absurd m
assign_found names (c ∷ cs) a once (inl same) =
    subst (λ (x : Assign). driven_clock names (c ∷ cs) x.target ≡ clock_side names x.rhs) same
    (let here : bytes_eq c.target c.target ≡ true = name_same c.target in rw here refl)
assign_found names (c ∷ cs) a once (inr m) =
    cond_both (bytes_eq c.target a.target) (clock_side names c.rhs) (driven_clock names cs a.target) (λ (o : Option ℕ). o ≡ clock_side names a.rhs)
    (λ e. absurd (once.0 (subst (In (targets cs)) (sym (name_is c.target a.target e)) (in_map (λ (x : Assign). x.target) cs a m))))
    (λ e. assign_found names cs a once.1 m)

output_port : (r : Role) → is_port r ≡ false → is_clock_output r ≡ false
output_port (role.ClockOutput c) e = absurd (cc)
output_port _ e = refl

module _ (net : FlatNet) (t : NameTable) (p : Places) (order : List Read) (is : Premises net t p order) where
  clock_assign_in : (k : ℕ) (l : Leaf) (c : Option ℕ) (name : List ℕ) → slice_get net.leaves k ≡ Some l → l.role ≡ role.ClockOutput c
      → name_at t.leaves k ≡ Some name
      → In (clock_assigns (in_parts net t p order)) (record { target = name; rhs = clock_rhs t (driven_clock_in p.leaves c) })
  clock_assign_in k l c name at same named =
      let a : Assign = record { target = name; rhs = clock_rhs t (driven_clock_in p.leaves c) } in
      let given : In (leaf_clock_assign t p l (Some name)) a = rw same (inl refl) in
      subst (λ (xs : List Assign). In xs a) (sym (clock_assigns_are net t p order is))
      (ordered_part net t is.whole is.table (leaf_clock_assign t p) k l name at named a given)

  module _ (state : List ℕ) (tick : Tick) (f : Env) (rest : Rest (in_parts net t p order) state tick f) where
    side_value : (o : Option ℕ) → ((k : ℕ) → o ≡ Some k → IsClockInput net t k)
        → clock_side (clocks (in_parts net t p order)) (clock_rhs t o) ≡ shown_clock t f o
    side_value None input = refl
    side_value (Some k) input =
        number_is f 0 (clocks (in_parts net t p order)) (unwrap_or (name_at t.leaves k) [])
        (λ j m at. let start : j ≡ 0 + j = omega arith in rest.begins.clock_values j m at ∙ start)
        (clock_is_port net t p order is k (input k refl))

    output_shown : (k : ℕ) (l : Leaf) (c : Option ℕ) (name : List ℕ) → slice_get net.leaves k ≡ Some l → l.role ≡ role.ClockOutput c
        → name_at t.leaves k ≡ Some name
        → driven_clock (clocks (in_parts net t p order)) (clock_assigns (in_parts net t p order)) name ≡ shown_clock t f (clock_in p.leaves k)
    output_shown k l c name at same named =
        let whole : IsRole net.leaves net.nodes l.signed l.width (role.ClockOutput c) =
        subst (IsRole net.leaves net.nodes l.signed l.width) same (leaf_at net t p order is k l at).driven in
        let clock : clock_in p.leaves k ≡ driven_clock_in p.leaves c =
        clock_at net t p order is k l at ∙ ap (λ (r : Role). place_clock (placed p.leaves p.nodes p.readings (name_at t.leaves k) k l.signed l.width r)) same in
        assign_found (clocks (in_parts net t p order)) (clock_assigns (in_parts net t p order))
        (record { target = name; rhs = clock_rhs t (driven_clock_in p.leaves c) }) (clock_targets_once net t p order is)
        (clock_assign_in k l c name at same named)
        ∙ side_value (driven_clock_in p.leaves c) (driven_input net t p order is c whole.1) ∙ sym (ap (shown_clock t f) clock)

    -- where each clock leaf has the clock that the tree shows for it
    module _ (clock : ℕ → Option ℕ)
        (same_clock : (k : ℕ) (l : Leaf) → slice_get net.leaves k ≡ Some l → is_clock l.role ≡ true → clock k ≡ shown_clock t f (clock_in p.leaves k))
      where
        abbrev shown : List ℕ → Option ℕ
        shown = driven_clock (clocks (in_parts net t p order)) (clock_assigns (in_parts net t p order))

        one_shown : (k : ℕ) (l : Leaf) (r : Role) (n : Option (List ℕ)) → slice_get net.leaves k ≡ Some l → l.role ≡ r → name_at t.leaves k ≡ n
            → RoleNamed r l.width n → IsRole net.leaves net.nodes l.signed l.width r
            → map shown (name_if (is_clock_output r) n) ≡ map clock (clock_output_number r l.width k)
        one_shown k l (role.ClockOutput c) None at same named h d =
            let none = bits_named (role.ClockOutput c) l.width None refl h in absurd (omega (arith, d.0))
        one_shown k l (role.ClockOutput c) (Some name) at same named h d =
            ap (λ (x : Option ℕ). x ∷ []) (output_shown k l c name at same named ∙ sym (same_clock k l at (ap is_clock same)))
        one_shown k l _ n at same named h d = refl

        pub outputs_shown : clocks_shown (in_parts net t p order) ≡ map clock (clock_outputs net)
        outputs_shown =
            ap (map shown) (output_clocks_are net t p order
            ∙ sym (port_given net t is.whole is.table (λ l n. name_if (is_clock_output l.role) n) (names_port is_clock_output output_port)))
            ∙ same_lists clock shown (λ l n. name_if (is_clock_output l.role) n) clock_output_number t.leaves net.leaves
            (λ k l at.
            one_shown k l l.role (name_at t.leaves k) at refl refl (role_named l (name_at t.leaves k) (leaf_named net is.whole t is.table k l at))
            (leaf_at net t p order is k l at).driven)
