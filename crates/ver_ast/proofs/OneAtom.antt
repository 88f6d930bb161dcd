-- No two operands have the same tokens.
-- Behind an operand stands no bracket, so that a name alone differs from a name with a select.
use Rattle.std.proofs.Common.{◌≡◌, ℕ, List, ◌∷◌, ◌++◌, true, false, refl, sym, ap, ◌∙◌, ⊎_elim, arith, append_assoc, eqb}
use Rattle.std.specs.Prelude.{◌≢◌}
use Rattle.std.proofs.lemmas.Bool.Decides.{eqb_tells}
use Rattle.ver_ast.specs.Atoms.{AtomTree, net, constant, bit_select, part_select, concat, repeat, AtomTrees, no_atoms, atom_before}
use Rattle.ver_ast.specs.Tokens.{VToken, word, number, sign}
use Rattle.ver_ast.specs.Grammar.{atom_tokens, next_atom_tokens}
use Rattle.ver_ast.proofs.Operators.{operand, plain, front_of}

-- the sign, or the first letter of the word, at the front
abbrev pub front : List VToken → ℕ
front (sign b ∷ ts) = b
front (word (c ∷ cs) ∷ ts) = c
front _ = 0

-- two numbers of which both or neither are k
pub same_apart_from : (k i j : ℕ) → eqb i k ≡ eqb j k → (eqb i k ≡ false → i ≢ k → j ≢ k → i ≡ j) → i ≡ j
same_apart_from k i j e h =
    ⊎_elim
    (λ (t : (eqb i k ≡ true) × (i ≡ k)). ⊎_elim
    (λ (u : (eqb j k ≡ true) × (j ≡ k)). t.1 ∙ sym u.1)
    (λ (u : (eqb j k ≡ false) × (j ≢ k)). let no : true ≡ false = sym t.0 ∙ e ∙ u.0 in absurd (cc))
    (eqb_tells j k))
    (λ (t : (eqb i k ≡ false) × (i ≢ k)). ⊎_elim
    (λ (u : (eqb j k ≡ true) × (j ≡ k)). let no : true ≡ false = sym u.0 ∙ sym e ∙ t.0 in absurd (cc))
    (λ (u : (eqb j k ≡ false) × (j ≢ k)). h t.0 t.1 u.1)
    (eqb_tells j k))
    (eqb_tells i k)

-- the tokens in groups from the right
concat_grouped : (a : AtomTree) (more : AtomTrees) (r : List VToken)
    → atom_tokens (concat a more) ++ r ≡ sign 123 ∷ (atom_tokens a ++ (next_atom_tokens more ++ sign 125 ∷ r))
concat_grouped a more r = simp append_assoc

repeat_grouped : (count : ℕ) (a : AtomTree) (r : List VToken)
    → atom_tokens (repeat count a) ++ r ≡ sign 123 ∷ number count ∷ sign 123 ∷ (atom_tokens a ++ sign 125 ∷ sign 125 ∷ r)
repeat_grouped count a r = simp append_assoc

next_grouped : (a : AtomTree) (more : AtomTrees) (r : List VToken)
    → next_atom_tokens (atom_before a more) ++ r ≡ sign 44 ∷ (atom_tokens a ++ (next_atom_tokens more ++ r))
next_grouped a more r = simp append_assoc

-- an operand begins with no number, and with no sign in front of an operand
pub operand_front : (a : AtomTree) (r : List VToken) → front_of (atom_tokens a ++ r) ≡ operand
operand_front (net n) r = refl
operand_front (constant width value) r = refl
operand_front (bit_select n i) r = refl
operand_front (part_select n hi lo) r = refl
operand_front (concat a more) r = refl
operand_front (repeat count a) r = refl

concat_is_no_repeat : (a : AtomTree) (more : AtomTrees) (count : ℕ) (b : AtomTree) (r s : List VToken)
    → atom_tokens (concat a more) ++ r ≡ atom_tokens (repeat count b) ++ s → ⊥
concat_is_no_repeat a more count b r s e =
    let whole = sym (concat_grouped a more r) ∙ e ∙ repeat_grouped count b s in
    let inside : atom_tokens a ++ (next_atom_tokens more ++ sign 125 ∷ r) ≡ number count ∷ sign 123 ∷ (atom_tokens b ++ sign 125 ∷ sign 125 ∷ s) =
    cc in
    let no : operand ≡ plain = sym (operand_front a _) ∙ ap front_of inside in
    absurd (cc)

next_is_no_bracket : (more : AtomTrees) (r : List VToken) → front (next_atom_tokens more ++ sign 125 ∷ r) ≢ 91
next_is_no_bracket no_atoms r e = omega arith
next_is_no_bracket (atom_before a more) r e = omega arith

mutual
  pub split_atom : (a b : AtomTree) (r s : List VToken) → front r ≢ 91 → front s ≢ 91 → atom_tokens a ++ r ≡ atom_tokens b ++ s → (a ≡ b) × (r ≡ s)
  split_atom (net n) (net m) r s h k e = ((cc), (cc))
  split_atom (net n) (bit_select m j) r s h k e =
      let t : r ≡ sign 91 ∷ number j ∷ sign 93 ∷ s = cc in absurd (h (ap front t))
  split_atom (net n) (part_select m j l) r s h k e =
      let t : r ≡ sign 91 ∷ number j ∷ sign 58 ∷ number l ∷ sign 93 ∷ s = cc in absurd (h (ap front t))
  split_atom (bit_select n i) (net m) r s h k e =
      let t : s ≡ sign 91 ∷ number i ∷ sign 93 ∷ r = cc in absurd (k (ap front t))
  split_atom (part_select n i o) (net m) r s h k e =
      let t : s ≡ sign 91 ∷ number i ∷ sign 58 ∷ number o ∷ sign 93 ∷ r = cc in absurd (k (ap front t))
  split_atom (constant w x) (constant u y) r s h k e = ((cc), (cc))
  split_atom (bit_select n i) (bit_select m j) r s h k e =
      let name : n ≡ m = cc in
      let tails : number i ∷ sign 93 ∷ r ≡ number j ∷ sign 93 ∷ s = cc in
      let index : i ≡ j = cc in
      (rw (name, index) refl, (cc))
  split_atom (bit_select n i) (part_select m j l) r s h k e =
      let tails : number i ∷ sign 93 ∷ r ≡ number j ∷ sign 58 ∷ number l ∷ sign 93 ∷ s = cc in
      let more : sign 93 ∷ r ≡ sign 58 ∷ number l ∷ sign 93 ∷ s = cc in
      absurd (omega (arith, ap front more))
  split_atom (part_select n i o) (bit_select m j) r s h k e =
      let tails : number i ∷ sign 58 ∷ number o ∷ sign 93 ∷ r ≡ number j ∷ sign 93 ∷ s = cc in
      let more : sign 58 ∷ number o ∷ sign 93 ∷ r ≡ sign 93 ∷ s = cc in
      absurd (omega (arith, ap front more))
  split_atom (part_select n i o) (part_select m j l) r s h k e =
      let name : n ≡ m = cc in
      let tails : number i ∷ sign 58 ∷ number o ∷ sign 93 ∷ r ≡ number j ∷ sign 58 ∷ number l ∷ sign 93 ∷ s = cc in
      let high : i ≡ j = cc in
      let low : o ≡ l = cc in
      (rw (name, high, low) refl, (cc))
  split_atom (concat a more) (concat b others) r s h k e =
      let whole = sym (concat_grouped a more r) ∙ e ∙ concat_grouped b others s in
      let behind : atom_tokens a ++ (next_atom_tokens more ++ sign 125 ∷ r) ≡ atom_tokens b ++ (next_atom_tokens others ++ sign 125 ∷ s) = cc in
      let t = split_atom a b _ _ (next_is_no_bracket more r) (next_is_no_bracket others s) behind in
      let u = split_next more others r s t.1 in
      (rw (t.0, u.0) refl, u.1)
  split_atom (repeat count a) (repeat times b) r s h k e =
      let whole = sym (repeat_grouped count a r) ∙ e ∙ repeat_grouped times b s in
      let braced_a = sign 123 ∷ (atom_tokens a ++ sign 125 ∷ sign 125 ∷ r) in
      let braced_b = sign 123 ∷ (atom_tokens b ++ sign 125 ∷ sign 125 ∷ s) in
      let numbers : number count ∷ braced_a ≡ number times ∷ braced_b = cc in
      let copies : count ≡ times = cc in
      let braced : braced_a ≡ braced_b = cc in
      let behind : atom_tokens a ++ sign 125 ∷ sign 125 ∷ r ≡ atom_tokens b ++ sign 125 ∷ sign 125 ∷ s = cc in
      let u = split_atom a b _ _ (λ p. omega arith) (λ p. omega arith) behind in
      let rest : sign 125 ∷ sign 125 ∷ r ≡ sign 125 ∷ sign 125 ∷ s = u.1 in
      (rw (copies, u.0) refl, (cc))
  split_atom (concat a more) (repeat count b) r s h k e = absurd (concat_is_no_repeat a more count b r s e)
  split_atom (repeat count a) (concat b more) r s h k e = absurd (concat_is_no_repeat b more count a s r (sym e))
  split_atom a b r s h k e = absurd (cc)

  -- the operands behind the first, up to the closing brace
  split_next : (more others : AtomTrees) (r s : List VToken) → next_atom_tokens more ++ sign 125 ∷ r ≡ next_atom_tokens others ++ sign 125 ∷ s
      → (more ≡ others) × (r ≡ s)
  split_next no_atoms no_atoms r s e = (refl, (cc))
  split_next no_atoms (atom_before b others) r s e = absurd (omega (arith, ap front e))
  split_next (atom_before a more) no_atoms r s e = absurd (omega (arith, ap front e))
  split_next (atom_before a more) (atom_before b others) r s e =
      let whole = sym (next_grouped a more (sign 125 ∷ r)) ∙ e ∙ next_grouped b others (sign 125 ∷ s) in
      let behind : atom_tokens a ++ (next_atom_tokens more ++ sign 125 ∷ r) ≡ atom_tokens b ++ (next_atom_tokens others ++ sign 125 ∷ s) = cc in
      let t = split_atom a b _ _ (next_is_no_bracket more r) (next_is_no_bracket others s) behind in
      let u = split_next more others r s t.1 in
      (rw (t.0, u.0) refl, u.1)
