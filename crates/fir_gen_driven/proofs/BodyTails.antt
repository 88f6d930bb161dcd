-- The statements of the circuit's module: registers, connects, and whens of two connects; last of all the connect of the output to the register that is
-- declared last.
use Rattle.std.proofs.Common.{◌≡◌, ℕ, zero, suc, ◌+◌, ◌-◌, List, ◌++◌, Some, refl, arith, subst}
use Rattle.std.specs.Prelude.{codes, decimal}
use Rattle.fir_base.proofs.SameNames.{name_apart}
use Rattle.fir_ast.specs.declared.place.Place.{Place}
use Rattle.fir_ast.specs.Expressions.{Expression}
use Rattle.fir_ast.specs.Statements.{Block, SinkReference, Statement, connect, done, register, then, when}
use Rattle.fir_gen.specs.GenText.{register_name}
use Rattle.fir_gen.specs.working.GenTree.{body, last_connect, named_at, plain, plain_sink, steps, word_type}

-- a register of 16 bits, with its clock and reset
abbrev pub register_of : Place → Place → List ℕ → Place → Place → Place → Place → Expression → Statement
register_of p q name t c r condition init =
    register p (named_at q name) t word_type (plain c (codes "clock"))
    (Some (record { place = r; condition = plain condition (codes "reset"); init = init }))

abbrev pub connect_alone : Place → SinkReference → Expression → Block
connect_alone p sink e = (then) (connect p sink e) done

-- a block of the module behind the declaration of the register of a name
pub data IsTail : List ℕ → Block → Type 0 where
  shown : {name : List ℕ} → (p q r : Place) → (name ≡ codes "y" → ⊥) → IsTail name (connect_alone p (plain_sink q (codes "y")) (plain r name))
  declared :
      {old name : List ℕ} {b : Block} → (p q t c r condition : Place) (init : Expression) → IsTail name b
      → IsTail old ((then) (register_of p q name t c r condition init) b)
  driven : {name : List ℕ} {b : Block} → (p : Place) (sink : SinkReference) (e : Expression) → IsTail name b → IsTail name ((then) (connect p sink e) b)
  chosen :
      {name : List ℕ} {b : Block} → (p : Place) (c : Expression) (q : Place) (sink : SinkReference) (e : Expression) (r : Place)
      (other : SinkReference) (f : Expression) → IsTail name b
      → IsTail name ((then) (when p c (connect_alone q sink e) (connect_alone r other f)) b)

register_is_no_output : (digits : List ℕ) → codes "r" ++ digits ≡ codes "y" → ⊥
register_is_no_output digits = name_apart (codes "r" ++ digits) (codes "y") refl

module _ (at : ℕ → ℕ → Place) where
  steps_tail : (j count : ℕ) (rest : Block) → IsTail (register_name (j + count)) rest → IsTail (register_name j) (steps at j count rest)
  unfolding steps
  steps_tail j zero rest h =
      let e : j + zero ≡ j = omega arith in
      subst (λ k. IsTail (register_name k) rest) e h
  steps_tail j (suc count) rest h =
      let e : j + suc count ≡ j + 1 + count = omega arith in
      declared _ _ _ _ _ _ _ (chosen _ _ _ _ _ _ _ _ (steps_tail (j + 1) count rest (subst (λ k. IsTail (register_name k) rest) e h)))

  -- before the first register the output itself counts as the last name
  pub body_tail : (n : ℕ) → IsTail (codes "y") (body at n)
  body_tail n =
      let e : n - 1 ≡ 0 + (n - 1) = omega arith in
      let last : IsTail (register_name (n - 1)) ((then) (last_connect at n) done) = shown _ _ _ (register_is_no_output (decimal (n - 1))) in
      declared _ _ _ _ _ _ _
      (driven _ _ _
      (steps_tail 0 (n - 1) ((then) (last_connect at n) done) (subst (λ k. IsTail (register_name k) ((then) (last_connect at n) done)) e last)))
