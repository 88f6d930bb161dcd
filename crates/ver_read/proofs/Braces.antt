-- How many braces are open along the tokens of a tree: no more than in its deepest operand.
use Rattle.std.proofs.Common.{◌≡◌, ◌↔◌, ℕ, ◌+◌, ◌-◌, ◌≤◌, max, List, [], ◌∷◌, ◌++◌, refl, sym, ap, ◌∙◌, subst, arith}
use Rattle.std.specs.Prelude.{flat_map}
use Rattle.std.specs.List.{AllByRecursion}
use Rattle.std.proofs.lemmas.List.{append_assoc}
use Rattle.ver_ast.specs.Tokens.{VToken, word, number, sign}
use Rattle.ver_ast.specs.Atoms.{AtomTree, net, constant, bit_select, part_select, concat, repeat, AtomTrees, no_atoms, atom_before}
use Rattle.ver_ast.specs.Grammar.{atom_tokens, next_atom_tokens}
use Rattle.ver_ast.specs.SoundSides.{atom_depth, joined_depth}
use Rattle.ver_parse.specs.Depths.{opened_by}

-- with so many open before these tokens, at most 256 are open anywhere
abbrev pub Low : ℕ → List VToken → Type 0
Low d [] = d ≤ 256
Low d (t ∷ ts) = (d ≤ 256) × Low (opened_by d t) ts

pub low_here : (d : ℕ) (ts : List VToken) → Low d ts → d ≤ 256
low_here d [] h = h
low_here d (t ∷ ts) h = h.0

pub closed_again : (d : ℕ) → d + 1 - 1 ≡ d
closed_again d = omega arith

pub closed_twice : (d : ℕ) → d + 1 + 1 - 1 - 1 ≡ d
closed_twice d = omega arith

pub grouped : (xs ys zs rest : List VToken) → xs ++ ys ++ zs ++ rest ≡ xs ++ (ys ++ (zs ++ rest))
grouped xs ys zs rest = append_assoc (xs ++ ys) zs rest ∙ append_assoc xs ys (zs ++ rest)

both_low : (d m n : ℕ) → d + 1 + m ≤ 256 → d + 1 + n ≤ 256 → d + (1 + max m n) ≤ 256
both_low d m n h k = omega arith

either_low : (d m n : ℕ) → d + m ≤ 256 → d + n ≤ 256 → d + max m n ≤ 256
either_low d m n h k = omega arith

first_low : (d m n : ℕ) → d + (1 + max m n) ≤ 256 → d + 1 + m ≤ 256
first_low d m n h = omega arith

second_low : (d m n : ℕ) → d + (1 + max m n) ≤ 256 → d + 1 + n ≤ 256
second_low d m n h = omega arith

left_low : (d m n : ℕ) → d + max m n ≤ 256 → d + m ≤ 256
left_low d m n h = omega arith

right_low : (d m n : ℕ) → d + max m n ≤ 256 → d + n ≤ 256
right_low d m n h = omega arith

mutual
  pub low_atom : (a : AtomTree) (d : ℕ) (rest : List VToken) → Low d (atom_tokens a ++ rest) → (d + atom_depth a ≤ 256) × Low d rest
  low_atom (net n) d rest h = (let k = h.0 in omega arith, h.1)
  low_atom (constant w x) d rest h = (let k = h.0 in omega arith, h.1)
  low_atom (bit_select n i) d rest h = (let k = h.0 in omega arith, h.1.1.1.1)
  low_atom (part_select n hi lo) d rest h = (let k = h.0 in omega arith, h.1.1.1.1.1.1)
  low_atom (concat a more) d rest h =
      let first = low_atom a (d + 1) (next_atom_tokens more ++ sign 125 ∷ rest) (subst (Low (d + 1)) (grouped (atom_tokens a) (next_atom_tokens more) (sign 125 ∷ []) rest) h.1) in
      let others = low_atoms more (d + 1) (sign 125 ∷ rest) first.1 in
      (both_low d (atom_depth a) (joined_depth more) first.0 others.0, subst (λ n. Low n rest) (closed_again d) others.1.1)
  low_atom (repeat count a) d rest h =
      let copied = low_atom a (d + 1 + 1) (sign 125 ∷ sign 125 ∷ rest) (subst (Low (d + 1 + 1)) (append_assoc (atom_tokens a) (sign 125 ∷ sign 125 ∷ []) rest) h.1.1.1) in
      (let k = copied.0 in omega arith, subst (λ n. Low n rest) (closed_twice d) copied.1.1.1)

  pub low_atoms : (more : AtomTrees) (d : ℕ) (rest : List VToken) → Low d (next_atom_tokens more ++ rest) → (d + joined_depth more ≤ 256) × Low d rest
  low_atoms no_atoms d rest h = (let k = low_here d rest h in omega arith, h)
  low_atoms (atom_before a more) d rest h =
      let first = low_atom a d (next_atom_tokens more ++ rest) (subst (Low d) (append_assoc (atom_tokens a) (next_atom_tokens more) rest) h.1) in
      let others = low_atoms more d rest first.1 in
      (either_low d (atom_depth a) (joined_depth more) first.0 others.0, others.1)

mutual
  pub atom_low : (a : AtomTree) (d : ℕ) (rest : List VToken) → d + atom_depth a ≤ 256 → Low d rest → Low d (atom_tokens a ++ rest)
  atom_low (net n) d rest h k = (low_here d rest k, k)
  atom_low (constant w x) d rest h k = (low_here d rest k, k)
  atom_low (bit_select n i) d rest h k = let e = low_here d rest k in (e, (e, (e, (e, k))))
  atom_low (part_select n hi lo) d rest h k = let e = low_here d rest k in (e, (e, (e, (e, (e, (e, k))))))
  atom_low (concat a more) d rest h k =
      let e = low_here d rest k in
      let one : d + 1 ≤ 256 = omega arith in
      let closing : Low (d + 1) (sign 125 ∷ rest) = (one, subst (λ n. Low n rest) (sym (closed_again d)) k) in
      let others = atoms_low more (d + 1) (sign 125 ∷ rest) (second_low d (atom_depth a) (joined_depth more) h) closing in
      let whole = atom_low a (d + 1) (next_atom_tokens more ++ sign 125 ∷ rest) (first_low d (atom_depth a) (joined_depth more) h) others in
      (e, subst (Low (d + 1)) (sym (grouped (atom_tokens a) (next_atom_tokens more) (sign 125 ∷ []) rest)) whole)
  atom_low (repeat count a) d rest h k =
      let e = low_here d rest k in
      let one : d + 1 ≤ 256 = omega arith in
      let two : d + 1 + 1 ≤ 256 = omega arith in
      let once_closed : d + 1 + 1 - 1 ≤ 256 = omega arith in
      let closing : Low (d + 1 + 1) (sign 125 ∷ sign 125 ∷ rest) = (two, (once_closed, subst (λ n. Low n rest) (sym (closed_twice d)) k)) in
      let deep : d + 1 + 1 + atom_depth a ≤ 256 = omega arith in
      let whole = atom_low a (d + 1 + 1) (sign 125 ∷ sign 125 ∷ rest) deep closing in
      (e, (one, (one, subst (Low (d + 1 + 1)) (sym (append_assoc (atom_tokens a) (sign 125 ∷ sign 125 ∷ []) rest)) whole)))

  pub atoms_low : (more : AtomTrees) (d : ℕ) (rest : List VToken) → d + joined_depth more ≤ 256 → Low d rest → Low d (next_atom_tokens more ++ rest)
  atoms_low no_atoms d rest h k = k
  atoms_low (atom_before a more) d rest h k =
      let others = atoms_low more d rest (right_low d (atom_depth a) (joined_depth more) h) k in (
        low_here d rest k,
        subst (Low d) (sym (append_assoc (atom_tokens a) (next_atom_tokens more) rest))
            (atom_low a d (next_atom_tokens more ++ rest) (left_low d (atom_depth a) (joined_depth more) h) others),
      )
