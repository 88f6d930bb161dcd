-- No fault of widths stands in the circuit, whatever its unknown widths are: it has none.
use Rattle.std.proofs.Common.{◌≡◌, ℕ, ◌^◌, ◌≤◌, [], ◌∷◌, ◌++◌, true, refl, nat_lt, lt-ltb, arith}
use Rattle.fir_ast.specs.declared.place.Place.{Place}
use Rattle.fir_ast.specs.Circuits.{CircuitTree}
use Rattle.fir_meaning.specs.Visibility.{at_head, behind}
use Rattle.fir_meaning.specs.WidthExpressions.{Widths}
use Rattle.fir_meaning.specs.SizedDeclarations.{NumberedModule}
use Rattle.fir_meaning.specs.WidthWalk.{FaultRule, shown_in, shown_in_block, shown_in_ports}
use Rattle.fir_meaning.specs.OverFaults.{over_faults, over_rule}
use Rattle.fir_meaning.specs.LegalFaults.{legal_faults, legal_rule}
use Rattle.fir_gen.specs.working.GenTree.{body, gen_module, gen_tree, ports}
use Rattle.fir_gen_checked.proofs.NoFaults.{both_empty}
use Rattle.fir_gen_checked.proofs.DeclaredRegisters.{behind_head}
use Rattle.fir_gen_checked.proofs.BodyWalk.{of_body}
use Rattle.fir_gen_checked.proofs.SizedRegisters.{WhereSized, all_sized, first_module}

over_clear : (at : ℕ → ℕ → Place) (w : Widths) (m : NumberedModule) → WhereSized at m (λ before s. shown_in (over_rule w) m before s ≡ [])
over_clear at w m = record {
  a_register = λ before k small clocked resets. rw (clocked, resets) refl;
  the_first = λ before own input. rw (own, input) refl;
  a_step = λ before j input earlier own. rw (input, earlier, own) refl;
  the_last = λ before n output own. rw (output, own) refl;
}

-- the init of a register of that number
init_fits : (k : ℕ) → k ≤ 4096 → nat_lt k (2 ^ 16) ≡ true
init_fits k small = lt-ltb k (2 ^ 16) (omega arith)

legal_clear : (at : ℕ → ℕ → Place) (c : CircuitTree) (w : Widths) (m : NumberedModule)
    → WhereSized at m (λ before s. shown_in (legal_rule c w) m before s ≡ [])
legal_clear at c w m = record {
  a_register = λ before k small clocked resets. rw (resets, init_fits k small) refl;
  the_first = λ before own input. rw (own, input) refl;
  a_step = λ before j input earlier own. rw (input, earlier, own) refl;
  the_last = λ before n output own. refl;
}

-- its ports take the numbers 0 to 3
abbrev gen_numbered : (at : ℕ → ℕ → Place) → ℕ → NumberedModule
gen_numbered at n = first_module at (gen_module at n ∷ []) (gen_module at n) 0 4

module _ (at : ℕ → ℕ → Place) (n : ℕ) (some : 1 ≤ n) (small : n ≤ 4096) (w : Widths) where
  abbrev own : NumberedModule
  own = gen_numbered at n

  body_clear : (rule : FaultRule) → WhereSized at own (λ before s. shown_in rule own before s ≡ []) → shown_in_block rule own (behind_head at) (body at n) ≡ []
  body_clear rule sized =
      of_body at (λ before b. shown_in_block rule own before b ≡ []) (λ before s. shown_in rule own before s ≡ [])
      (λ before s b h g. both_empty (shown_in rule own before s) (shown_in_block rule own (behind before s) b) h g) n
      (all_sized at (gen_module at n ∷ []) (gen_module at n) 0 4 _ sized n some small) refl

  circuit_clear : (rule : FaultRule) → WhereSized at own (λ before s. shown_in rule own before s ≡ []) → shown_in_ports rule own at_head (ports at) ≡ []
      → (shown_in_ports rule own at_head (ports at) ++ shown_in_block rule own (behind_head at) (body at n)) ++ [] ≡ []
  circuit_clear rule sized clear =
      let front = shown_in_ports rule own at_head (ports at) in
      let inner = shown_in_block rule own (behind_head at) (body at n) in
      both_empty (front ++ inner) [] (both_empty front inner clear (body_clear rule sized)) refl

  pub none_over : over_faults (gen_tree at n) w ≡ []
  none_over = circuit_clear (over_rule w) (over_clear at w own) refl

  pub all_legal : legal_faults (gen_tree at n) w ≡ []
  all_legal = circuit_clear (legal_rule (gen_tree at n) w) (legal_clear at (gen_tree at n) w own) refl
